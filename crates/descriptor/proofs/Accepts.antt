-- What a call needs of an entry says what it accepts: one test of the table's values, computed for each ID that the table names and
-- for the others, and what follows from it.
use mathlib.Core.Path.{◌≡◌, refl, sym, ◌∙◌}
use mathlib.Core.Bool.{Bool, true, false, ◌&&◌, ◌||◌, beq}
use mathlib.Core.List.{List, [], ◌∷◌}
use Prim.Native.Nat.{ℕ, ◌/◌, ◌^◌, ◌≤◌, ◌<◌}
use native.Mathlib.Omega.{arith}
use native.Mathlib.Decide.{dec_lt}
use lib.IntN.{ℤ, pos, negsuc, nat_abs}
use lib.Signed.{le_z}
use lib.Bits.{bit_and, and_mask}
use lib.Dec.{T, eqb, eqb→eq, ltb, lt→ltb, leb, leb→le}
use borrow.Author.Tests.{le-leb, lt-leb, eq-eqb}
use lib.ListN.{get_or-eq_default}
use Rattle.rules.specs.declared.Entry.{Entry}
use Rattle.rules.specs.Numbers.{bit_of, sum}
use Rattle.rules.specs.Parameter.{Range, Values, numbers, if_in_mask, min_to_max, rows as table_rows, space, both, row_of}
use Rattle.rules.specs.Place.{parts_of}
use Rattle.rules.specs.Accept.{within, in_mask, takes, accepts}
use Rattle.rules.proofs.Basics.Tests.{and₂, from-true, and-no}
use Rattle.rules.proofs.Basics.Ids.{below, below-at, every-id}
use Rattle.descriptor.specs.Find.{lowest, highest, code_bits, low_of, high_of, accepted_of, named_of, range_of, accepted_in, accepted_by}
use Rattle.descriptor.proofs.TableRows.{same-test, only, only-then, eq_z, eq_z→eq}
use Rattle.descriptor.proofs.Bits.{and-bit}

-- values that are one range
abbrev pub single : List Range → Bool
single [] = false
single (r ∷ []) = true
single (r ∷ q ∷ l) = false

pub single-within : (l : List Range) (v : ℤ) → T (single l) → within l v ≡ (le_z (lowest l) v && le_z v (highest l))
unfolding within
single-within [] v h = absurd h
single-within (r ∷ []) v h = or-no (le_z r.low v && le_z v r.high)
  where
    or-no : (t : Bool) → (t || false) ≡ t
    or-no true = refl
    or-no false = refl
single-within (r ∷ q ∷ l) v h = absurd h

-- values that are codes, of 0 to 15
abbrev in_low : ℤ → ℤ → Bool
in_low (pos a) (pos b) = leb b 15
in_low (pos a) (negsuc b) = false
in_low (negsuc a) b = false

abbrev low : List Range → Bool
low [] = true
low (r ∷ l) = in_low r.low r.high && low l

between : (a b v : ℤ) → T (in_low a b) → ((n : ℕ) → v ≡ pos n → 16 ≤ n) → (le_z a v && le_z v b) ≡ false
between (pos a) (pos b) (pos n) h k = rw (lt-leb n b (omega (arith, leb→le b 15 h, k n refl))) (and-no (leb a n))
between (pos a) (pos b) (negsuc n) h k = refl
between (pos a) (negsuc b) v h k = absurd h
between (negsuc a) b v h k = absurd h

within-out : (l : List Range) (v : ℤ) → T (low l) → ((n : ℕ) → v ≡ pos n → 16 ≤ n) → within l v ≡ false
unfolding within
within-out [] v h k = refl
within-out (r ∷ l) v h k =
    let (a, b) = and₂ (in_low r.low r.high) (low l) h in
    rw (between r.low r.high v a k) (within-out l v b k)

-- each has its bit
abbrev pub bits : List Range → Bool
bits l = below 16 (λ n. beq (within l (pos n)) (bit_of (code_bits l) n))

pub bit-within : (l : List Range) (n : ℕ) → T (bits l) → n < 16 → within l (pos n) ≡ bit_of (code_bits l) n
bit-within l n t h = same-test _ _ (below-at 16 (λ k. beq (within l (pos k)) (bit_of (code_bits l) k)) t n h)

codes-within : (l : List Range) (v : ℤ) → T (low l) → T (bits l) → within l v ≡ ((le_z (pos 0) v && le_z v (pos 15)) && in_mask (code_bits l) v)
unfolding in_mask
codes-within l (pos n) h b = go (dec_lt n 16)
  where
    go : Dec (n < 16) → within l (pos n) ≡ ((leb 0 n && leb n 15) && bit_of (code_bits l) n)
    go (yes u) = rw (le-leb 0 n (omega arith), le-leb n 15 (omega arith)) (bit-within l n b u)
    go (no u) = within-out l (pos n) h (λ k q. let e : n ≡ k = cc in omega arith) ∙ rw (lt-leb n 15 (omega arith), and-no (leb 0 n)) refl
codes-within l (negsuc n) h b = within-out l (negsuc n) h (λ k q. let o : ◌≡◌ {A = ℕ} 0 1 = cc in absurd (omega arith))

and-codes : (x y : ℕ) (v : ℤ) → in_mask (bit_and x y) v ≡ (in_mask x v && in_mask y v)
unfolding in_mask
and-codes x y (pos n) = and-bit x y n
and-codes x y (negsuc n) = refl

-- a code is the number of a bit
pub code-bit : (mask : ℕ) (v : ℤ) → (le_z (pos 0) v && le_z v (pos 15)) ≡ true → eqb (bit_and (mask / 2 ^ nat_abs v) 1) 1 ≡ in_mask mask v
unfolding in_mask
code-bit mask (pos n) h = rw (and_mask (mask / 2 ^ n) 1)
code-bit mask (negsuc n) h = let o : ◌≡◌ {A = ℕ} 0 1 = cc in absurd (omega arith)

-- the test: a signed number has 8 bits; accepted values are codes where there is a code mask, else one range or the entry's own
abbrev coded : List Range → Bool
coded l = (eq_z (lowest l) (pos 0) && eq_z (highest l) (pos 15)) && (low l && bits l)

abbrev values_test : ℕ → Values → Bool
values_test parts (numbers l) = only (ltb 0 parts) (single l)
values_test parts (if_in_mask l) = coded l
values_test parts min_to_max = true

abbrev test : ℕ → Bool
test id = only (row_of id).signed (eqb (row_of id).width 8) && values_test (row_of id).parts (row_of id).values

tested : (id : ℕ) → T (test id)
unfolding row_of code_bits within sum
tested = every-id test tt (λ id l. rw (get_or-eq_default table_rows (space both) {n = id} l) tt)

record Tested (id : ℕ) : Type 0 where
  signed : T (only (row_of id).signed (eqb (row_of id).width 8))
  values : T (values_test (row_of id).parts (row_of id).values)

tests : (id : ℕ) → Tested id
tests id = let (a, b) = and₂ (only (row_of id).signed (eqb (row_of id).width 8)) (values_test (row_of id).parts (row_of id).values) (tested id) in record { signed = a; values = b }

pub signed-byte : (id : ℕ) → (row_of id).signed ≡ true → (row_of id).width ≡ 8
signed-byte id h = eqb→eq _ _ (only-then (row_of id).signed _ (tests id).signed (from-true h))

values-tested : (id : ℕ) → T (values_test (row_of id).parts (row_of id).values)
values-tested id = (tests id).values

record Coded (l : List Range) : Type 0 where
  low-is : lowest l ≡ pos 0
  high-is : highest l ≡ pos 15
  all-low : T (low l)
  all-bits : T (bits l)

coded-says : (l : List Range) → T (coded l) → Coded l
coded-says l h =
    let (a, b) = and₂ (eq_z (lowest l) (pos 0) && eq_z (highest l) (pos 15)) (low l && bits l) h in
    let (c, d) = and₂ (eq_z (lowest l) (pos 0)) (eq_z (highest l) (pos 15)) a in
    let (e, f) = and₂ (low l) (bits l) b in
    record { low-is = eq_z→eq _ _ c; high-is = eq_z→eq _ _ d; all-low = e; all-bits = f }

-- the range of what an entry accepts: codes are 0 to 15
pub range-is : (e : Entry) → range_of (accepted_of (row_of e.id).values e) ≡ record { low = low_of (row_of e.id).values e; high = high_of (row_of e.id).values e }
range-is e = go (row_of e.id).values (values-tested e.id)
  where
    go : (x : Values) → T (values_test (row_of e.id).parts x) → range_of (accepted_of x e) ≡ record { low = low_of x e; high = high_of x e }
    go (numbers l) t = refl
    go (if_in_mask l) t = let c = coded-says l t in rw (c.low-is, c.high-is) refl
    go min_to_max t = refl

-- a column's values, as a range or codes
values-are : (x : Values) (parts : ℕ) → T (values_test parts x) → 0 < parts → (e : Entry) (v : ℤ) → accepted_in (accepted_of x e) v ≡ takes x e v
unfolding accepted_in takes
values-are (numbers l) parts t some e v = sym (single-within l v (only-then (ltb 0 parts) (single l) t (lt→ltb 0 parts some)))
values-are (if_in_mask l) parts t some e v =
    let c = coded-says l t in
    rw (and-codes (code_bits l) e.codes v, codes-within l v c.all-low c.all-bits)
    (group (le_z (pos 0) v && le_z v (pos 15)) (in_mask (code_bits l) v) (in_mask e.codes v))
  where
    group : (a b c : Bool) → (a && (b && c)) ≡ ((a && b) && c)
    group true b c = refl
    group false b c = refl
values-are min_to_max parts t some e v = refl

-- what a call needs of an entry with fields says what it accepts
pub named-accepts : (in_ro : Bool) (e : Entry) (v : ℤ) → 0 < parts_of e → accepted_by (named_of in_ro e) v ≡ accepts e v
unfolding named_of accepts parts_of
named-accepts in_ro e v h = values-are (row_of e.id).values (row_of e.id).parts (values-tested e.id) h e v

-- a field that is not of 8 bits holds unsigned numbers
pub few-unsigned : (id : ℕ) → eqb (row_of id).width 8 ≡ false → (row_of id).signed ≡ false
few-unsigned id h = go (row_of id).signed refl
  where
    go : (t : Bool) → (row_of id).signed ≡ t → t ≡ false
    go true q = let z : eqb (row_of id).width 8 ≡ true = eq-eqb _ 8 (signed-byte id q) in let o : ◌≡◌ {A = ℕ} 0 1 = cc in absurd (omega arith)
    go false q = refl
