-- Passing an entry reads the bytes of that entry alone: lent any piece that holds it whole, it is passed as from all that is left.
use Rattle.std.specs.Prelude.{Result}
use mathlib.Core.Path.{◌≡◌, refl, sym, ap, ◌∙◌}
use mathlib.Core.Bool.{Bool, true, false, ◌&&◌, cond}
use mathlib.Core.List.{List, []}
use Prim.Native.Nat.{ℕ, zero, suc, ◌+◌, ◌-◌, ◌≤◌}
use native.Mathlib.Omega.{arith}
use lib.ListN.{length, take}
use lib.Seq.{get_or-take, length-take-le}
use lib.Dec.{T, leb, ltb, leb→le}
use borrow.Author.Tests.{lt-ltb, le-ltb, ltb-false, ne_eqb}
use Rattle.rules.specs.Words.{Entry, State}
use Rattle.rules.specs.Parameter.{Extra, code_mask, min, max, step, Row, rows, space, both, row_of}
use Rattle.rules.specs.Descriptor.{mask_bytes, byte_at, high_first, size_of, Position, absent, after, position_of, codes_of, byte_of, media_side, entry_at, overruns, refuse, length_checks, content_checks, full, limited, decode_at, decode_within}
use Rattle.rules.specs.Load.{into_ro, sized, passed, pass_in, pass_of}
use Rattle.rules.specs.Notes.{WholeEntry}
use Rattle.rules.proofs.Basics.Tests.{and₅}
use Rattle.rules.proofs.Table.Rows.{looked-up, row-least}
use Rattle.rules.proofs.Load.Checks.{pass}
use Rattle.rules.proofs.Load.Resumes.{sized-less, pass-in-ro, pass-in-rw, pass-into-ro}

-- the least Length of every row counts the flags and the extras that are read
abbrev fits : ℕ → ℕ → Position → Bool
fits least size absent = true
fits least size (after k) = leb (4 + k + size) least

abbrev reads : Row → Extra → Bool
reads r x = fits r.least (size_of x) (position_of x r.extras)

abbrev counts : Row → Bool
counts r = cond r.flags (leb 4 r.least) true && (reads r code_mask && (reads r min && (reads r max && reads r step)))

row-counts : (id : ℕ) → T (counts (row_of id))
unfolding row_of
row-counts = looked-up counts rows (space both) tt tt

module _ (n : ℕ) (s : List ℕ) where
  high-front : (k i : ℕ) → i + k ≤ n → high_first (take n s) i k ≡ high_first s i k
  unfolding high_first
  high-front zero i h = refl
  high-front (suc k) i h = rw (high-front k i (omega arith), get_or-take n s (i + k) 0 (omega arith)) refl

  module _ (a least : ℕ) (whole : least + a ≤ n) where
    media-front : (f : Bool) → T (cond f (leb 4 least) true) → media_side f (byte_at (take n s) (3 + a)) ≡ media_side f (byte_at s (3 + a))
    media-front true t = rw (get_or-take n s (3 + a) 0 (omega (arith, leb→le 4 least t))) refl
    media-front false t = refl

    codes-front : (p : Position) → T (fits least 2 p) → codes_of p (take n s) (4 + a) ≡ codes_of p s (4 + a)
    unfolding codes_of
    codes-front absent t = refl
    codes-front (after k) t = high-front 2 (4 + a + k) (omega (arith, leb→le (4 + k + 2) least t))

    extra-front : (p : Position) → T (fits least 1 p) → byte_of p (take n s) (4 + a) ≡ byte_of p s (4 + a)
    unfolding byte_of
    extra-front absent t = refl
    extra-front (after k) t = get_or-take n s (4 + a + k) 0 (omega (arith, leb→le (4 + k + 1) least t))

  entry-front : (a offset : ℕ) → (row_of (byte_at s 0)).least + a ≤ n → entry_at a (take n s) 0 offset ≡ entry_at a s 0 offset
  entry-front a offset h =
      let r : Row = row_of (byte_at s 0) in
      let l = row-least (byte_at s 0) in
      let (f, c, lo, hi, st) = and₅ (cond r.flags (leb 4 r.least) true) (reads r code_mask) (reads r min) (reads r max) (reads r step) (row-counts (byte_at s 0)) in
      rw (
        get_or-take n s 0 0 (omega arith),
        get_or-take n s 1 0 (omega arith),
        high-front a 2 (omega arith),
        get_or-take n s (2 + a) 0 (omega arith),
        media-front a r.least h r.flags f,
        codes-front a r.least h (position_of code_mask r.extras) c,
        extra-front a r.least h (position_of min r.extras) lo,
        extra-front a r.least h (position_of max r.extras) hi,
        extra-front a r.least h (position_of step r.extras) st,
      )
      refl

overruns-no : (left : ℕ) (e : Entry) → 2 ≤ left → e.length ≤ left → overruns left e ≡ false
overruns-no left e h k = rw (ne_eqb left 1 (omega arith), le-ltb left e.length k) refl

refuse-same : (b : Bool) (k : ℕ) (c d : Result Entry ℕ) → (b ≡ false → c ≡ d) → refuse b k c ≡ refuse b k d
unfolding refuse
refuse-same true k c d h = refl
refuse-same false k c d h = h refl

module _ (a n : ℕ) (s : List ℕ) (st : State) (two : 2 ≤ n) (whole : byte_at s 1 ≤ n) (inside : n ≤ length s) where
  lent : length (take n s) ≡ n
  lent = length-take-le n s inside

  -- ID and Length are the same, and neither entry fails 1; if the Length is not below the least, the entries are the same
  decode-front : decode_at a (take n s) 0 st ≡ decode_at a s 0 st
  unfolding decode_within length_checks
  decode-front =
      let e : Entry = entry_at a (take n s) 0 st.sum in
      let e' : Entry = entry_at a s 0 st.sum in
      let short : Entry → Bool = λ x. ltb x.length ((row_of x.id).least + a) in
      let l : e.length ≡ e'.length = get_or-take n s 1 0 (omega arith) in
      let q : short e ≡ short e' = rw (get_or-take n s 0 0 (omega arith), l) refl in
      ap (refuse (full limited st) 16)
      (sym (pass 1 _ (overruns-no (length (take n s) - 0) e (omega (arith, lent)) (omega (arith, lent))) refl)
      ∙ ap (λ b. refuse b 2 (content_checks st e)) q
      ∙ refuse-same (short e') 2 _ _ (λ f. ap (content_checks st) (entry-front n s a st.sum (omega (arith, ltb-false))))
      ∙ pass 1 _ (overruns-no (length s - 0) e' (omega arith) (omega arith)) refl)

  pub pass-alone : pass_in a (take n s) st ≡ pass_in a s st
  pass-alone = rw (lt-ltb 0 (length (take n s)) (omega (arith, lent)), lt-ltb 0 (length s) (omega arith)) (ap (passed st) decode-front)

-- the entry is the next one of the RW string, the next one of the RO string, or the first of it
module _ (count n : ℕ) (first last : List ℕ) (st : State) where
  pub pass-rw-alone : st.ro ≡ false → sized count first last ≡ true → WholeEntry n first → pass_of count st (take n first) [] ≡ pass_of count st first last
  pass-rw-alone f fine (two, whole, inside) =
      let l : length (take n first) ≡ n = length-take-le n first inside in
      pass-in-rw count (take n first) [] st (sized-less count first last (take n first) [] fine (omega arith) (omega arith)) f (omega arith)
      ∙ pass-alone (mask_bytes count) n first st two whole inside
      ∙ sym (pass-in-rw count first last st fine f (omega arith))

  pub pass-ro-alone : st.ro ≡ true → sized count first last ≡ true → WholeEntry n last → pass_of count st [] (take n last) ≡ pass_of count st first last
  pass-ro-alone f fine (two, whole, inside) =
      let l : length (take n last) ≡ n = length-take-le n last inside in
      pass-in-ro count [] (take n last) st (sized-less count first last [] (take n last) fine (omega arith) (omega arith)) f
      ∙ pass-alone (mask_bytes count) n last st two whole inside
      ∙ sym (pass-in-ro count first last st fine f)

  pub pass-into-alone : st.ro ≡ false → sized count first last ≡ true → first ≡ [] → WholeEntry n last → pass_of count st [] (take n last) ≡ pass_of count st first last
  pass-into-alone f fine none (two, whole, inside) =
      let l : length (take n last) ≡ n = length-take-le n last inside in
      pass-into-ro count [] (take n last) st (sized-less count first last [] (take n last) fine (omega arith) (omega arith)) f (omega arith)
      ∙ pass-alone (mask_bytes count) n last (into_ro st) two whole inside
      ∙ sym (pass-into-ro count first last st fine f (rw none (omega arith)))
