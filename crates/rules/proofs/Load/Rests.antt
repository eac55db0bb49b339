-- What a walk makes of a string from a place on, it makes of the rest of the string that begins there: only where an entry starts differs.
use Rattle.std.specs.Prelude.{Result, Ok, Err}
use mathlib.Core.Path.{◌≡◌, refl, sym, ap, ◌∙◌}
use mathlib.Core.Bool.{Bool, true, false}
use mathlib.Core.List.{List}
use Prim.Native.Nat.{ℕ, zero, suc, ◌+◌, ◌-◌, ◌≤◌, ◌<◌}
use native.Mathlib.Omega.{arith}
use native.Mathlib.Nat.{add-zero, zero-add}
use lib.ListN.{length, drop, length-drop}
use lib.Seq.{get_or-drop}
use lib.Dec.{ltb}
use borrow.Author.Tests.{ltb-true, ltb-false}
use Rattle.rules.specs.Words.{Entry, State}
use Rattle.rules.specs.Descriptor.{byte_at, high_first, Position, absent, after, codes_of, byte_of, entry_at, refuse, length_checks, content_checks, full, limited, decode_at, decode_within}
use Rattle.rules.specs.Load.{next, onward, fold_by, fold_of, walk_of, walk_within}
use Rattle.rules.specs.Conditions.{here, past}
use Rattle.rules.proofs.Load.Checks.{decode-passed}
use Rattle.rules.proofs.Load.Folds.{more, done-by, turn-by}
use Rattle.rules.proofs.Refusals.Stops.{walk-on}

-- an entry that starts elsewhere
abbrev starting_at : ℕ → Entry → Entry
starting_at at e =
    record {
      id = e.id;
      start = at;
      length = e.length;
      mask = e.mask;
      memory = e.memory;
      media = e.media;
      codes = e.codes;
      min = e.min;
      max = e.max;
      step = e.step;
      offset = e.offset;
    }

abbrev moved : ℕ → Result Entry ℕ → Result Entry ℕ
moved at (Ok e) = Ok (starting_at at e)
moved at (Err k) = Err k

moved-refuse : (at : ℕ) (b : Bool) (k : ℕ) (d : Result Entry ℕ) → moved at (refuse b k d) ≡ refuse b k (moved at d)
unfolding refuse
moved-refuse at true k d = refl
moved-refuse at false k d = refl

-- the checks of an entry, given the bytes left
abbrev judged : ℕ → ℕ → State → Entry → Result Entry ℕ
judged a left st e = refuse (full limited st) 16 (length_checks a left e (content_checks st e))

moved-judged : (at a left : ℕ) (st : State) (e : Entry) → judged a left st (starting_at at e) ≡ moved at (judged a left st e)
unfolding length_checks content_checks
moved-judged at a left st e = sym (simp moved-refuse)

module _ (n : ℕ) (s : List ℕ) where
  byte-rest : (i j : ℕ) → j ≡ n + i → byte_at (drop n s) i ≡ byte_at s j
  byte-rest i j h = rw h (get_or-drop n s i 0)

  high-rest : (k i j : ℕ) → j ≡ n + i → high_first (drop n s) i k ≡ high_first s j k
  unfolding high_first
  high-rest zero i j h = refl
  high-rest (suc k) i j h = rw (high-rest k i j h, byte-rest (i + k) (j + k) (omega arith)) refl

  codes-rest : (p : Position) (i j : ℕ) → j ≡ n + i → codes_of p (drop n s) i ≡ codes_of p s j
  unfolding codes_of
  codes-rest absent i j h = refl
  codes-rest (after k) i j h = high-rest 2 (i + k) (j + k) (omega arith)

  extra-rest : (p : Position) (i j : ℕ) → j ≡ n + i → byte_of p (drop n s) i ≡ byte_of p s j
  unfolding byte_of
  extra-rest absent i j h = refl
  extra-rest (after k) i j h = byte-rest (i + k) (j + k) (omega arith)

  module _ (a : ℕ) where
    entry-rest : (at offset : ℕ) → entry_at a (drop n s) at offset ≡ starting_at at (entry_at a s (n + at) offset)
    entry-rest at offset =
        rw (
          byte-rest at (n + at) refl,
          byte-rest (at + 1) (n + at + 1) (omega arith),
          byte-rest (at + 2 + a) (n + at + 2 + a) (omega arith),
          byte-rest (at + 3 + a) (n + at + 3 + a) (omega arith),
          high-rest a (at + 2) (n + at + 2) (omega arith),
          codes-rest _ (at + 4 + a) (n + at + 4 + a) (omega arith),
          extra-rest _ (at + 4 + a) (n + at + 4 + a) (omega arith),
          extra-rest _ (at + 4 + a) (n + at + 4 + a) (omega arith),
          extra-rest _ (at + 4 + a) (n + at + 4 + a) (omega arith),
        )
        refl

    decode-rest : (at : ℕ) (st : State) → decode_at a (drop n s) at st ≡ moved at (decode_at a s (n + at) st)
    unfolding decode_within
    decode-rest at st =
        let left : length (drop n s) - at ≡ length s - (n + at) = omega (arith, length-drop n s) in
        ap (judged a (length (drop n s) - at) st) (entry-rest at st.sum)
        ∙ ap (λ l. judged a l st (starting_at at (entry_at a s (n + at) st.sum))) left
        ∙ moved-judged at a (length s - (n + at)) st (entry_at a s (n + at) st.sum)

    turned :
        (f g at : ℕ) (st : State) (d : Result Entry ℕ)
        → ((e : Entry) → d ≡ Ok e
        → fold_by limited onward Ok a f s (n + (at + e.length)) (next st e) ≡ fold_by limited onward Ok a g (drop n s) (at + e.length) (next st e))
        → onward d st (λ e. fold_by limited onward Ok a f s (n + at + e.length) (next st e))
        ≡ onward (moved at d) st (λ e. fold_by limited onward Ok a g (drop n s) (at + e.length) (next st e))
    turned f g at st (Err k) ih = refl
    turned f g at st (Ok e) ih =
        let q : n + at + e.length ≡ n + (at + e.length) = omega arith in
        rw q (ih e refl)

    by-fuel : (f g at : ℕ) (st : State)
        → length s ≤ n + at + f
        → length (drop n s) ≤ at + g
        → fold_by limited onward Ok a f s (n + at) st ≡ fold_by limited onward Ok a g (drop n s) at st
    by-fuel zero g at st h k =
        done-by onward Ok a s 0 (n + at) st (omega arith)
        ∙ sym (done-by onward Ok a (drop n s) g at st (omega (arith, length-drop n s)))
    by-fuel (suc f) g at st h k = go (ltb (n + at) (length s)) refl (λ g at. by-fuel f g at)
      where
        go : (b : Bool) → ltb (n + at) (length s) ≡ b
            → ((g at : ℕ) (st : State) → length s ≤ n + at + f → length (drop n s) ≤ at + g
            → fold_by limited onward Ok a f s (n + at) st ≡ fold_by limited onward Ok a g (drop n s) at st)
            → fold_by limited onward Ok a (suc f) s (n + at) st ≡ fold_by limited onward Ok a g (drop n s) at st
        go false q ih =
            let l = ltb-false (n + at) (length s) q in
            done-by onward Ok a s (suc f) (n + at) st l
            ∙ sym (done-by onward Ok a (drop n s) g at st (omega (arith, length-drop n s)))
        go true q ih =
            let l = ltb-true (n + at) (length s) q in
            let l' : at < length (drop n s) = omega (arith, length-drop n s) in
            let m = more g (length (drop n s)) at k l' in
            turn-by onward Ok a s f (n + at) st l
            ∙ turned f m.0 at st (decode_at a s (n + at) st)
            (λ e d.
            let p = decode-passed a s (n + at) st e d in
            ih m.0 (at + e.length) (next st e) (omega (arith, p.long)) (omega (arith, p.long, m.1)))
            ∙ ap (λ d. onward d st (λ e. fold_by limited onward Ok a m.0 (drop n s) (at + e.length) (next st e))) (sym (decode-rest at st))
            ∙ sym (turn-by onward Ok a (drop n s) m.0 at st l')
            ∙ ap (λ x. fold_by limited onward Ok a x (drop n s) at st) (sym m.1)

    pub walk-rest : (st : State) → walk_of a s n st ≡ walk_of a (drop n s) 0 st
    unfolding walk_within fold_of
    walk-rest st = rw add-zero at (by-fuel (length s) (length (drop n s)) 0 st (omega arith) (omega arith))

-- a walk is, past the first entry, the walk of the rest
pub walk-past :
    (a : ℕ) (s : List ℕ) (st : State) (e : Entry)
    → 0 < length s
    → decode_at a s 0 st ≡ Ok e
    → walk_of a s 0 st ≡ walk_of a (drop e.length s) 0 (next st e)
walk-past a s st e l d =
    let w : walk_of a s 0 st ≡ walk_of a s (0 + e.length) (next st e) = walk-on a s (0 + e.length) (next st e) 0 st (past e l d here) in
    rw zero-add at w ∙ walk-rest e.length s a (next st e)
