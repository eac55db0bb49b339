-- The laws of `located_of`, one for each way out.
use Rattle.std.specs.Prelude.{Result, Err, Ok}
use mathlib.Core.Path.{◌≡◌, refl, sym, ap, ◌∙◌}
use mathlib.Core.Bool.{Bool, true, false, not, cond}
use mathlib.Core.List.{List, []}
use Prim.Native.Nat.{ℕ, suc, ◌+◌, ◌≤◌, ◌<◌}
use native.Mathlib.Omega.{arith}
use lib.ListN.{length, take, drop}
use borrow.Author.Tests.{lt-ltb, le-ltb}
use Rattle.rules.specs.Words.{accepted, says_yes}
use Rattle.rules.specs.declared.Refusal.{Refusal}
use Rattle.rules.specs.declared.Refusal.TheVariants.{Plain as plain}
use Rattle.rules.specs.Descriptor.{mask_bytes, byte_at}
use Rattle.rules.specs.Load.{Map, load_of, map_of, read_of}
use Rattle.rules.specs.Place.{entry, is_rw}
use Rattle.rules.specs.Refuse.{Verdict, passes, refuses}
use Rattle.rules.specs.Beside.{entry_verdict, answered, entry_answer, own_bytes, part_or, entry_bytes}
use Rattle.rules.specs.Demands.{Accepted}
use Rattle.rules.specs.Notes.{AtMost16, read_before}
use Rattle.rules.proofs.Demands.{note7}
use Rattle.rules.proofs.Refusals.Orders.{order-refused, order-accepted}
use Rattle.rules.proofs.Load.EntryHeads.{Head}
use Rattle.rules.proofs.Load.EntryBytes.{entry-part, verdict-passes}
use Rattle.rules.proofs.Basics.Results.{ok-same}
use Rattle.descriptor.specs.declared.Mark.{Mark}
use Rattle.descriptor.specs.declared.Located.{Located}
use Rattle.descriptor.specs.Locate.{at, located, located_after, located_on, located_of}
use Rattle.descriptor.specs.Marks.{mark_after, Passable}
use Rattle.descriptor.proofs.Marks.{mark_of, accepts, rw-count, all-count, passable, entry-stands, entry-heads}

pub located-same : (x y : Located)
    → ◌≡◌ {A = Result Located Refusal} (Ok x) (Ok y)
    → (x.ro ≡ y.ro) × (x.mark ≡ y.mark) × (x.length ≡ y.length)
located-same x y h =
    let q : x ≡ y = ok-same x y h in
    (ap (λ (l : Located). l.ro) q, ap (λ (l : Located). l.mark) q, ap (λ (l : Located). l.length) q)

module _ (count : ℕ) (first last : List ℕ) (e : ℕ) where
  pub located-refused : (r : Refusal) → load_of count first last ≡ Err r → Err r ≡ located_of count first last e
  unfolding located_of entry_verdict
  located-refused r h = rw (order-refused count first last r h _) refl

  module _ (n k c t : ℕ) (h : load_of count first last ≡ accepted n k c t) where
    ok : Accepted count first last
    ok = accepts count first last n k c t h

    verdict-found : e < n + k → entry_verdict (read_of count first last) e ≡ passes
    unfolding entry_verdict
    verdict-found l = order-accepted count first last ok _ ∙ rw (lt-ltb e (length (map_of count first last).entries) (rw (all-count count first last n k c t h) l)) refl

    -- entry i of a string
    module _ (in_ro : Bool) (i : ℕ) (l : i < cond in_ro k n) (q : e ≡ cond in_ro (n + i) i) where
      found : entry_verdict (read_of count first last) e ≡ passes
      found = verdict-found (go in_ro l q)
        where
          go : (b : Bool) → i < cond b k n → e ≡ cond b (n + i) i → e < n + k
          go true u p = omega arith
          go false u p = omega arith

      side : not (is_rw (map_of count first last) e) ≡ in_ro
      side = go in_ro l q
        where
          go : (b : Bool) → i < cond b k n → e ≡ cond b (n + i) i → not (is_rw (map_of count first last) e) ≡ b
          go true u p = rw (le-ltb e (map_of count first last).rw_count (rw (rw-count count first last n k c t h) (omega arith))) refl
          go false u p = rw (lt-ltb e (map_of count first last).rw_count (rw (rw-count count first last n k c t h) (omega arith))) refl

      head : Head (mask_bytes count) (cond in_ro last first) (entry (map_of count first last) e)
      head = rw q (entry-heads count first last n k c t h in_ro i l)

      pub located-seeks : Passable (mask_bytes count) (cond in_ro last first) (cond in_ro c 0) (suc i)
      located-seeks = passable count first last n k c t h in_ro (suc i) (omega arith)

      pub located-at : Ok (located_after in_ro (mask_bytes count) (cond in_ro last first) (cond in_ro c 0) i) ≡ located_of count first last e
      unfolding located_of
      located-at =
          let x = entry (map_of count first last) e in
          let w : mark_after (mask_bytes count) (cond in_ro last first) (cond in_ro c 0) i ≡ mark_of x
          = entry-stands count first last n k c t h in_ro i l ∙ ap (λ x. mark_of (entry (map_of count first last) x)) (sym q) in
          let y : x.length ≡ byte_at (cond in_ro last first) (x.start + 1) = ap (λ i. i.length) head.says in
          rw (found, side, w, ← y) refl

    pub located-10 : n + k ≤ e → Err (plain 10) ≡ located_of count first last e
    unfolding located_of entry_verdict
    located-10 l =
        rw (order-accepted count first last ok _, le-ltb e (length (map_of count first last).entries) (rw (all-count count first last n k c t h) l)) refl

  -- the entry call's answer, from where its entry stands
  pub located-yes : (x : Bool) (w : Mark) (l : ℕ) → located_of count first last e ≡ at x w l → says_yes ≡ entry_answer count first last e
  unfolding located_of entry_answer
  located-yes x w l h = go (entry_verdict (read_of count first last) e) _ h
    where
      go : (v : Verdict) (y : Result Located Refusal) → located v y ≡ at x w l → says_yes ≡ answered v says_yes
      go passes y q = refl
      go (refuses r) y q = let z : ◌≡◌ {A = ℕ} 0 1 = cc in absurd (omega arith)

  pub located-no : (r : Refusal) → located_of count first last e ≡ Err r → Err r ≡ entry_answer count first last e
  unfolding located_of entry_answer
  located-no r h = go (entry_verdict (read_of count first last) e) _ _ _ h
    where
      go : (v : Verdict) (x : Bool) (w : Mark) (l : ℕ) → located v (at x w l) ≡ Err r → Err r ≡ answered v says_yes
      go passes x w l q = let z : ◌≡◌ {A = ℕ} 0 1 = cc in absurd (omega arith)
      go (refuses r') x w l q = let z : r' ≡ r = cc in rw z refl

  -- refused, an empty part
  pub located-empty : (r : Refusal) → located_of count first last e ≡ Err r → [] ≡ entry_bytes count first last e
  unfolding located_of entry_bytes
  located-empty r h = go (entry_verdict (read_of count first last) e) _ _ _ _ h
    where
      go : (v : Verdict) (b : List ℕ) (x : Bool) (w : Mark) (l : ℕ) → located v (at x w l) ≡ Err r → [] ≡ part_or v b
      go passes b x w l q = let z : ◌≡◌ {A = ℕ} 0 1 = cc in absurd (omega arith)
      go (refuses r') b x w l q = refl

-- a part of a string
pub record Span (s : List ℕ) (start long : ℕ) (bytes : List ℕ) : Type 0 where
  pub inside : start + long ≤ length s
  pub is : take long (drop start s) ≡ bytes

module _ (count : ℕ) (first last : List ℕ) (e : ℕ) where
  abbrev m : Map
  m = map_of count first last

  passes-span :
      entry_verdict (read_of count first last) e ≡ passes
      → Span (cond (is_rw m e) first last) (entry m e).start (entry m e).length (own_bytes (cond (is_rw m e) first last) (entry m e))
  passes-span h =
      let (ok, l) = verdict-passes count first last e h in
      record { inside = (entry-part count first last ok e l).inside; is = refl }

  pub located-span : (x : Bool) (w : Mark) (l : ℕ) → located_of count first last e ≡ at x w l → Span (cond x last first) w.at l (entry_bytes count first last e)
  unfolding located_of entry_bytes
  located-span x w l h = go (entry_verdict (read_of count first last) e) refl h
    where
      flip : (b : Bool) → cond (not b) last first ≡ cond b first last
      flip true = refl
      flip false = refl

      go : (v : Verdict) → entry_verdict (read_of count first last) e ≡ v
          → located v (at (not (is_rw m e)) (mark_of (entry m e)) (entry m e).length) ≡ at x w l
          → Span (cond x last first) w.at l (part_or v (own_bytes (cond (is_rw m e) first last) (entry m e)))
      go passes p q =
          let (a, b, d) = located-same _ _ q in
          rw (← a, ← b, ← d, flip (is_rw m e)) (passes-span p)
      go (refuses r) p q = let z : ◌≡◌ {A = ℕ} 0 1 = cc in absurd (omega arith)

-- 02, note 7: where no walk comes to a 17th entry, an entry stands where it stands without the limit
pub located-as-before :
    (count : ℕ) (rw ro : List ℕ)
    → AtMost16 count rw ro
    → (e : ℕ)
    → located_of count rw ro e ≡ located_on (read_before count rw ro) e
unfolding located_of
located-as-before count first last few e = ap (λ r. located_on r e) (note7 count first last few).reading
