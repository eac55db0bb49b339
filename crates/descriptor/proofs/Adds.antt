-- The laws of `Adds`: one text after another, the lines of the map program, and a text that begins the buffer.
use mathlib.Core.Path.{◌≡◌, refl, sym, ap, ◌∙◌}
use mathlib.Core.List.{List, [], ◌∷◌, ◌++◌, append-nil, append_assoc}
use Prim.Native.Nat.{ℕ, suc, ◌+◌, ◌*◌, ◌≤◌, ◌<◌}
use native.Mathlib.Nat.{add-zero, zero-add}
use native.Mathlib.Numerals.{add-one}
use native.Mathlib.Omega.{arith}
use lib.ListN.{length, get_or, set, take, drop, length-append}
use lib.Seq.{sets, sets-eq, take-suc, take_all}
use Rattle.rules.specs.MapProgram.{decimal, line}
use Rattle.descriptor.specs.declared.text.Text.{Text}
use Rattle.descriptor.specs.Text.{Adds, Printed}

sets-append : (b : List ℕ) (at : ℕ) (t u : List ℕ) → sets b at (t ++ u) ≡ sets (sets b at t) (at + length t) u
sets-append b at [] u = rw (add-zero at) refl
sets-append b at (x ∷ t) u =
    let q : suc at + length t ≡ at + suc (length t) = omega arith in
    sets-append (set b at x) (suc at) t u ∙ ap (λ (i : ℕ). sets (sets (set b at x) (suc at) t) i u) q

-- one text behind another
module _ {m n : ℕ} {t u : List ℕ} {x y z : Text} where
  pub adds-then : Adds m t x y → Adds n u y z → Adds (m + n) (t ++ u) x z
  adds-then p q =
      record {
        same = q.same ∙ p.same;
        size = omega (arith, p.size, q.size, length-append t u);
        room = omega (arith, p.room, q.room, length-append t u);
        stored = q.stored ∙ rw (p.stored, p.size, sets-append x.out.now x.length t u) refl;
      }

pub adds-most : {m : ℕ} {t : List ℕ} {x y : Text} (n : ℕ) → m ≤ n → Adds m t x y → Adds n t x y
adds-most n h p = record { same = p.same; size = p.size; room = omega (arith, p.room); stored = p.stored }

-- no byte, and one more byte of a text
pub adds-none : (x : Text) → Adds 0 [] x x
adds-none x = record { same = refl; size = omega arith; room = omega arith; stored = refl }

pub adds-next : {x y z : Text} (t : List ℕ) (i : ℕ) → i < length t → Adds i (take i t) x y → Adds 1 (get_or t i 0 ∷ []) y z → Adds (i + 1) (take (i + 1) t) x z
adds-next t i h p q =
    let e : take (i + 1) t ≡ take i t ++ (get_or t i 0 ∷ []) = rw add-one (take-suc t i 0 h) in
    rw e (adds-then p q)

-- numbers, a space before each
unfoldable pub spaces : List ℕ → List ℕ
spaces [] = []
spaces (n ∷ l) = 32 ∷ (decimal n ++ spaces l)

spaces-append : (l k : List ℕ) → spaces (l ++ k) ≡ spaces l ++ spaces k
unfolding spaces
spaces-append [] k = refl
spaces-append (n ∷ l) k = ap (λ (t : List ℕ). 32 ∷ t) (ap (λ (t : List ℕ). decimal n ++ t) (spaces-append l k) ∙ sym (append_assoc (decimal n) (spaces l) (spaces k)))

-- a line is its numbers and its end
line-is : (l : List ℕ) → line l ≡ spaces l ++ (10 ∷ [])
unfolding line spaces
line-is [] = refl
line-is (n ∷ l) = ap (λ (t : List ℕ). 32 ∷ t) (ap (λ (t : List ℕ). decimal n ++ t) (line-is l) ∙ sym (append_assoc (decimal n) (spaces l) (10 ∷ [])))

pub adds-number : {x y z : Text} (l : List ℕ) (i : ℕ) → i < length l → Adds (4 * i) (spaces (take i l)) x y → Adds 4 (32 ∷ decimal (get_or l i 0)) y z → Adds (4 * (i + 1)) (spaces (take (i + 1) l)) x z
unfolding spaces
adds-number l i h p q =
    let e : take (i + 1) l ≡ take i l ++ (get_or l i 0 ∷ []) = rw add-one (take-suc l i 0 h) in
    let s : spaces (take (i + 1) l) ≡ spaces (take i l) ++ (32 ∷ decimal (get_or l i 0)) =
    ap spaces e ∙ spaces-append (take i l) (get_or l i 0 ∷ []) ∙ ap (λ (t : List ℕ). spaces (take i l) ++ (32 ∷ t)) (append-nil (decimal (get_or l i 0))) in
    rw s (adds-most (4 * (i + 1)) (omega arith) (adds-then p q))

pub adds-line : {x y z : Text} (l : List ℕ) (i : ℕ) → i ≤ length l → length l ≤ i → Adds (4 * i) (spaces (take i l)) x y → Adds 1 (10 ∷ []) y z → Adds (4 * length l + 1) (line l) x z
adds-line l i h k p q =
    let n : i ≡ length l = omega arith in
    rw (line-is l, ← n) (adds-then (rw (take_all i l k) at p) q)

-- a text that begins the buffer, when the buffer is given back
pub printed :
    {m : ℕ} {t b : List ℕ} {x y : Text}
    → Adds m t x y
    → m ≤ 1024
    → length x.out.now ≡ 1024
    → x.length ≡ 0
    → b ≡ y.out.now
    → Printed t x.out.now y.length b
printed {m} {t} {b} {x} {y} p h k o q =
    record {
      size = omega (arith, o, p.size);
      room = omega (arith, o, p.size, p.room);
      bytes = q ∙ p.stored ∙ rw o (sets-eq t x.out.now 0 (omega (arith, p.room)) ∙ ap (λ (i : ℕ). t ++ drop i x.out.now) (zero-add (length t)));
    }
