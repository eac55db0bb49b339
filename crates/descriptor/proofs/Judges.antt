-- How apply judges the bits of a field says what the rules accept of them: one test of the rows, computed for each ID that the table
-- names and for the others, and what follows from it.
use mathlib.Core.Path.{◌≡◌, refl, sym, ap, ◌∙◌}
use mathlib.Core.Logic.{◌≢◌}
use mathlib.Core.Bool.{Bool, true, false, ◌&&◌, not, cond, beq}
use mathlib.Core.List.{List}
use Prim.Native.Nat.{ℕ, suc, ◌-◌, ◌^◌, ◌≤◌, ◌<◌}
use native.Mathlib.Omega.{arith}
use lib.IntN.{ℤ, pos, negsuc}
use lib.Signed.{le_z}
use lib.Pow.{pow_mono}
use lib.Dec.{T, eqb, eqb→eq, ltb, ltb→lt, nltb→le, lt→ltb, leb, leb→le}
use borrow.Author.Tests.{le-leb, ne_eqb}
use lib.ListN.{get_or-eq_default}
use Rattle.rules.specs.declared.Entry.{Entry}
use Rattle.rules.specs.Numbers.{bit_of, sum}
use Rattle.rules.specs.Parameter.{Row, Values, numbers, if_in_mask, min_to_max, rows as table_rows, space, both, row_of}
use Rattle.rules.specs.Descriptor.{entry_at}
use Rattle.rules.specs.Place.{parts_of, width_of, signed_of}
use Rattle.rules.specs.Accept.{within, in_mask, from_bits, signed_byte, takes, accepts}
use Rattle.rules.proofs.Basics.Tests.{and₂, and₃, is-true, is-false, by-test, and-no}
use Rattle.rules.proofs.Basics.Ids.{every-id}
use Rattle.descriptor.specs.declared.Accepted.{Accepted}
use Rattle.descriptor.specs.declared.Accepted.TheVariants.{Within as within_range, Codes as in_codes}
use Rattle.descriptor.specs.Rows.{is_limited}
use Rattle.descriptor.specs.Find.{lowest, highest, code_bits, low_of, high_of, accepted_of}
use Rattle.descriptor.specs.Reading.{has_patterns, patterns_in, patterns_of}
use Rattle.descriptor.proofs.TableRows.{same-test, only, only-then}
use Rattle.descriptor.proofs.Bits.{and-bit}
use Rattle.descriptor.proofs.Accepts.{single, single-within, bits, bit-within}

-- a range that has every number of a field's bits: a byte's signed numbers, or those of a width
abbrev spans : Bool → ℕ → ℤ → ℤ → Bool
spans true w low high = eqb w 8 && (le_z low (negsuc 127) && le_z (pos 127) high)
spans false w low high = le_z low (pos 0) && le_z (pos (2 ^ w - 1)) high

-- the bits of the table's numbers; or nothing, since every number is accepted
abbrev by_bits : Values → Bool
by_bits (numbers l) = bits l
by_bits (if_in_mask l) = bits l
by_bits min_to_max = false

abbrev by_none : Row → Values → Bool
by_none r (numbers l) = single l && spans r.signed r.width (lowest l) (highest l)
by_none r (if_in_mask l) = false
by_none r min_to_max = false

-- a width of 2 with one part, or of 4
abbrev narrow : Row → Bool
narrow r = cond (eqb r.width 2) (eqb r.parts 1) (eqb r.width 4)

-- how a row with fields of 2 or 4 bits, one with Min and Max, and any other judges
abbrev judge_test : Row → Bool
judge_test r =
    cond (has_patterns r.width) (not r.signed && (narrow r && by_bits r.values))
    (cond (is_limited r.values) (r.signed && eqb r.width 8)
    (only (ltb 0 r.parts) (by_none r r.values)))

tested : (id : ℕ) → T (judge_test (row_of id))
unfolding row_of code_bits within sum
tested =
    every-id (λ id. judge_test (row_of id)) tt
    λ id l. rw (get_or-eq_default table_rows (space both) {n = id} l) tt

none-says : (r : Row) → T (judge_test r) → has_patterns r.width ≡ false → is_limited r.values ≡ false → 0 < r.parts → T (by_none r r.values)
none-says r t a b p = only-then (ltb 0 r.parts) _ (rw (a, b) at t) (lt→ltb 0 r.parts p)

record Patterned (r : Row) : Type 0 where
  plain : r.signed ≡ false
  narrow-is : T (narrow r)
  bits-are : T (by_bits r.values)

patterns-say : (r : Row) → T (judge_test r) → has_patterns r.width ≡ true → Patterned r
patterns-say r t q =
    let (a, b, c) = and₃ (not r.signed) (narrow r) (by_bits r.values) (rw q at t) in
    record { plain = is-false r.signed a; narrow-is = b; bits-are = c }

range-says : (r : Row) → T (judge_test r) → has_patterns r.width ≡ false → is_limited r.values ≡ true → (r.signed ≡ true) × (r.width ≡ 8)
range-says r t p q = let (a, b) = and₂ r.signed (eqb r.width 8) (rw (p, q) at t) in (is-true r.signed a, eqb→eq _ _ b)

narrow-says : (w p : ℕ) → T (cond (eqb w 2) (eqb p 1) (eqb w 4)) → (w ≡ 2 → p ≡ 1) × (w ≢ 2 → w ≡ 4)
narrow-says w p t = (λ q. eqb→eq p 1 (rw q at t), λ q. eqb→eq w 4 (rw (ne_eqb w 2 q) at t))

narrow-width : (w p : ℕ) → T (cond (eqb w 2) (eqb p 1) (eqb w 4)) → w ≤ 4
narrow-width w p = by-test (λ t. T t → w ≤ 4) (eqb w 2) _ _ (λ t _. let q : w ≡ 2 = eqb→eq w 2 t in omega arith) (λ _ t. let q : w ≡ 4 = eqb→eq w 4 t in omega arith)

-- the number of a field's bits is in a range that has them all
signed-in : (low high : ℤ) (n : ℕ) → n < 256 → T (le_z low (negsuc 127) && le_z (pos 127) high) → (le_z low (signed_byte n) && le_z (signed_byte n) high) ≡ true
unfolding from_bits
signed-in (pos a) high n h q = absurd q
signed-in (negsuc a) (negsuc c) n h q = absurd (rw (and-no (leb 127 a)) at q)
signed-in (negsuc a) (pos c) n h q =
    let (x, y) = and₂ (leb 127 a) (leb 127 c) q in
    by-test (λ v. (le_z (negsuc a) v && le_z v (pos c)) ≡ true) (ltb n 128) (pos n) (negsuc (256 - suc n))
    (λ t. le-leb n c (omega (arith, ltb→lt n 128 t, leb→le 127 c y)))
    (λ t. rw (le-leb (256 - suc n) a (omega (arith, nltb→le n 128 t, leb→le 127 a x))) refl)

plain-in : (low high : ℤ) (n m : ℕ) → n < m → T (le_z low (pos 0) && le_z (pos (m - 1)) high) → (le_z low (pos n) && le_z (pos n) high) ≡ true
plain-in low (negsuc c) n m h q = absurd (rw (and-no (le_z low (pos 0))) at q)
plain-in (negsuc a) (pos c) n m h q = le-leb n c (omega (arith, leb→le (m - 1) c q))
plain-in (pos a) (pos c) n m h q =
    let (x, y) = and₂ (leb a 0) (leb (m - 1) c) q in
    rw (le-leb a n (omega (arith, leb→le a 0 x)), le-leb n c (omega (arith, leb→le (m - 1) c y))) refl

spanned : (s : Bool) (w : ℕ) (low high : ℤ) (n : ℕ) → T (spans s w low high) → n < 2 ^ w → (le_z low (from_bits s w n) && le_z (from_bits s w n) high) ≡ true
unfolding from_bits
spanned true w low high n t h =
    let (a, b) = and₂ (eqb w 8) (le_z low (negsuc 127) && le_z (pos 127) high) t in
    let q : w ≡ 8 = eqb→eq w 8 a in
    rw q (signed-in low high n (rw q at h) b)
spanned false w low high n t h = plain-in low high n (2 ^ w) h t

none-takes : (r : Row) (x : Values) (e : Entry) (n : ℕ) → T (by_none r x) → n < 2 ^ r.width → takes x e (from_bits r.signed r.width n) ≡ true
unfolding takes
none-takes r (numbers l) e n t h =
    let (a, b) = and₂ (single l) (spans r.signed r.width (lowest l) (highest l)) t in
    single-within l _ a ∙ spanned r.signed r.width (lowest l) (highest l) n b h
none-takes r (if_in_mask l) e n t h = absurd t
none-takes r min_to_max e n t h = absurd t

-- a number of at most 4 bits is accepted if the patterns have its bit
patterns-take : (x : Values) (e : Entry) (n : ℕ) → T (by_bits x) → n < 16 → takes x e (pos n) ≡ bit_of (patterns_in x e) n
unfolding takes in_mask
patterns-take (numbers l) e n t h = bit-within l n t h
patterns-take (if_in_mask l) e n t h = rw (bit-within l n t h) (sym (and-bit (code_bits l) e.codes n))
patterns-take min_to_max e n t h = absurd t

range-takes : (x : Values) (e : Entry) (v : ℤ) → is_limited x ≡ true → takes x e v ≡ (le_z (low_of x e) v && le_z v (high_of x e))
unfolding takes
range-takes (numbers l) e v q = let o : ◌≡◌ {A = ℕ} 0 1 = cc in absurd (omega arith)
range-takes (if_in_mask l) e v q = let o : ◌≡◌ {A = ℕ} 0 1 = cc in absurd (omega arith)
range-takes min_to_max e v q = refl

-- THE LAWS: of an entry with fields, the number of a field's bits is accepted
module _ (e : Entry) (n : ℕ) (some : 0 < parts_of e) (h : n < 2 ^ width_of e) where
  -- if the patterns have it
  pub judged-patterns : has_patterns (width_of e) ≡ true → accepts e (from_bits (signed_of e) (width_of e) n) ≡ bit_of (patterns_of e) n
  unfolding accepts width_of signed_of patterns_of from_bits
  judged-patterns q =
      let g = patterns-say (row_of e.id) (tested e.id) q in
      let w : (row_of e.id).width ≤ 4 = narrow-width _ _ g.narrow-is in
      rw (g.plain, q) (patterns-take (row_of e.id).values e n g.bits-are (omega (arith, h, pow_mono w)))

  module _ (p : has_patterns (width_of e) ≡ false) where
    -- if it is from Min to Max
    pub judged-range : is_limited (row_of e.id).values ≡ true → accepts e (from_bits (signed_of e) (width_of e) n) ≡ (le_z (low_of (row_of e.id).values e) (from_bits true 8 n) && le_z (from_bits true 8 n) (high_of (row_of e.id).values e))
    unfolding accepts width_of signed_of
    judged-range q =
        let g = range-says (row_of e.id) (tested e.id) p q in
        rw (g.0, g.1) (range-takes (row_of e.id).values e (from_bits true 8 n) q)

    -- always
    pub judged-none : is_limited (row_of e.id).values ≡ false → accepts e (from_bits (signed_of e) (width_of e) n) ≡ true
    unfolding accepts parts_of width_of signed_of
    judged-none q = none-takes (row_of e.id) (row_of e.id).values e n (none-says (row_of e.id) (tested e.id) p q some) h

-- the widths: 2 with one part, or 4, for patterns; 8 for Min and Max
pub judged-narrow : (e : Entry) → has_patterns (width_of e) ≡ true → (width_of e ≡ 2 → parts_of e ≡ 1) × (width_of e ≢ 2 → width_of e ≡ 4)
unfolding parts_of width_of
judged-narrow e q = narrow-says _ _ (patterns-say (row_of e.id) (tested e.id) q).narrow-is

pub judged-wide : (e : Entry) → has_patterns (width_of e) ≡ false → is_limited (row_of e.id).values ≡ true → width_of e ≡ 8
unfolding width_of
judged-wide e p q = (range-says (row_of e.id) (tested e.id) p q).1

-- what an entry is judged by is the same at any offset
module _ (a : ℕ) (s : List ℕ) (start offset offset' : ℕ) where
  abbrev here : Entry
  here = entry_at a s start offset

  abbrev there : Entry
  there = entry_at a s start offset'

  same-patterns : (x : Values) → patterns_in x here ≡ patterns_in x there
  same-patterns (numbers l) = refl
  same-patterns (if_in_mask l) = refl
  same-patterns min_to_max = refl

  same-low : (x : Values) → low_of x here ≡ low_of x there
  same-low (numbers l) = refl
  same-low (if_in_mask l) = refl
  same-low min_to_max = refl

  same-high : (x : Values) → high_of x here ≡ high_of x there
  same-high (numbers l) = refl
  same-high (if_in_mask l) = refl
  same-high min_to_max = refl

  pub patterns-any : patterns_of (entry_at a s start offset) ≡ patterns_of (entry_at a s start offset')
  unfolding patterns_of width_of
  patterns-any = ap (λ (n : ℕ). cond (has_patterns (width_of here)) n 0) (same-patterns (row_of here.id).values)

  pub range-any :
      (low_of (row_of (entry_at a s start offset).id).values (entry_at a s start offset) ≡ low_of (row_of (entry_at a s start offset').id).values (entry_at a s start offset'))
      × (high_of (row_of (entry_at a s start offset).id).values (entry_at a s start offset) ≡ high_of (row_of (entry_at a s start offset').id).values (entry_at a s start offset'))
  range-any = (same-low (row_of here.id).values, same-high (row_of here.id).values)

-- 03h has patterns, and each ID with codes; no other
abbrev patterns_test : Bool → ℕ → Values → Bool
patterns_test t w (numbers l) = beq t (has_patterns w)
patterns_test t w (if_in_mask l) = not t && has_patterns w
patterns_test t w min_to_max = not t && not (has_patterns w)

patterns-tested : (id : ℕ) → T (patterns_test (eqb id 3) (row_of id).width (row_of id).values)
unfolding row_of
patterns-tested =
    every-id (λ id. patterns_test (eqb id 3) (row_of id).width (row_of id).values) tt
    λ id l. rw (ne_eqb id 3 (omega arith), get_or-eq_default table_rows (space both) {n = id} l) tt

-- the codes of what is accepted
abbrev pub codes_in : Accepted → ℕ
codes_in (in_codes codes) = codes
codes_in (within_range r) = 0

pub patterns-are : (e : Entry) → eqb e.id 3 ≡ false → codes_in (accepted_of (row_of e.id).values e) ≡ patterns_of e
unfolding patterns_of width_of
patterns-are e h = go (row_of e.id).values (rw h at (patterns-tested e.id))
  where
    go : (x : Values) → T (patterns_test false (row_of e.id).width x) → codes_in (accepted_of x e) ≡ cond (has_patterns (row_of e.id).width) (patterns_in x e) 0
    go (numbers l) t = rw (← same-test false _ t) refl
    go (if_in_mask l) t = rw (is-true (has_patterns (row_of e.id).width) t) refl
    go min_to_max t = rw (is-false (has_patterns (row_of e.id).width) t) refl
