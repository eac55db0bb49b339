-- Refusal 14: what apply judges by patterns or by ends is what the rules refuse.
use mathlib.Core.Path.{◌≡◌, sym, ap, ◌∙◌}
use mathlib.Core.Bool.{Bool, true, false, not}
use mathlib.Core.List.{List}
use Prim.Native.Nat.{ℕ, ◌^◌, ◌≤◌, ◌<◌}
use native.Mathlib.Omega.{arith}
use borrow.Author.Tests.{le-leb}
use lib.ListN.{length}
use lib.Arith.{digits_lt}
use Rattle.rules.specs.declared.Entry.{Entry}
use Rattle.rules.specs.Numbers.{bit_of, any}
use Rattle.rules.specs.Parameter.{row_of}
use Rattle.rules.specs.Descriptor.{mask_bytes, entry_at}
use Rattle.rules.specs.Place.{parts_of, width_of, signed_of, Width}
use Rattle.rules.specs.Accept.{accepts, from_bits}
use Rattle.rules.specs.Layout.{bank_size, HasBytes}
use Rattle.rules.specs.Bank.{Bank}
use Rattle.rules.proofs.Basics.Any.{any-ext}
use Rattle.rules.proofs.Place.Lanes.{lane-byte-lt}
use Rattle.descriptor.specs.declared.Range.{Range}
use Rattle.descriptor.specs.Rows.{is_limited}
use Rattle.descriptor.specs.Find.{low_of, high_of}
use Rattle.descriptor.specs.Reading.{has_patterns, patterns_of, patterns_by, range_by}
use Rattle.descriptor.proofs.Judges.{judged-none, judged-patterns, judged-range, judged-wide, patterns-any, range-any}
use Rattle.descriptor.specs.declared.Fields.{Fields}
use Rattle.control_set.specs.declared.place.PlacedFields.{PlacedFields}
use Rattle.control_set.specs.Field.{Spot, bits_at}
use Rattle.control_set.specs.Plan.{in_range, Stands, refused_at, refused_in, passing}
use Rattle.control_set.proofs.LaneMasks.{any-clear, whole-width}
use Rattle.control_set.proofs.Spots.{bits-at-lt}
use Rattle.control_set.proofs.Values.{number-byte}

-- a field of an entry, in any set
pub spread-spot :
    (f : PlacedFields) (b : Bank)
    → bank_size ≤ length b
    → (s : ℕ) → HasBytes s
    → (p i : ℕ) → p < f.fields.parts → 1 ≤ i → i ≤ 8
    → Spot b s f.fields.offset p f.fields.width i
spread-spot f b size s hs p i hp l u =
    let w : Width f.fields.width = whole-width f.fields.width f.placed.whole in
    record { size = size; bytes = hs; whole = w; low = l; top = u; inside = omega (arith, digits_lt hp (lane-byte-lt f.fields.width w i l u), f.placed.inside) }

-- an entry with fields: a lane that holds a value not accepted
module _ (e : Entry) (some : 0 < parts_of e) (s : ℕ) (b : Bank) (i : ℕ) where
  abbrev bits : ℕ → ℕ
  bits p = bits_at b s e.offset p (width_of e) i

  small : (p : ℕ) → bits p < 2 ^ width_of e
  small p = bits-at-lt b s e.offset p (width_of e) i

  patterns-refused : has_patterns (width_of e) ≡ true → any (parts_of e) (λ p. not (bit_of (patterns_of e) (bits_at b s e.offset p (width_of e) i))) ≡ refused_in s e b i
  unfolding refused_in refused_at
  patterns-refused h = any-ext (parts_of e) _ _ λ p _. ap not (sym (judged-patterns e (bits p) some (small p) h))

  module _ (q : has_patterns (width_of e) ≡ false) where
    none-refused : is_limited (row_of e.id).values ≡ false → refused_in s e b i ≡ false
    unfolding refused_in refused_at
    none-refused h = any-clear (parts_of e) _ λ p. ap not (judged-none e (bits p) some (small p) q h)

    abbrev range : Range
    range = record { low = low_of (row_of e.id).values e; high = high_of (row_of e.id).values e }

    lies : is_limited (row_of e.id).values ≡ true → (p : ℕ) → in_range range (bits p) ≡ accepts e (from_bits (signed_of e) (width_of e) (bits p))
    lies h p =
        let k = judged-wide e q h in
        let l : bits p < 256 = omega (arith, small p, ap (λ (w : ℕ). 2 ^ w) k) in
        sym (rw (← number-byte (bits p) l) at (judged-range e (bits p) some (small p) q h))

    range-refused : is_limited (row_of e.id).values ≡ true → any (parts_of e) (λ p. not (in_range range (bits_at b s e.offset p (width_of e) i))) ≡ refused_in s e b i
    unfolding refused_in refused_at
    range-refused h = any-ext (parts_of e) _ _ λ p _. ap not (lies h p)

-- where it stands
module _ {count : ℕ} {s : List ℕ} {start x : ℕ} {f : Fields} (h : Stands count s start x f) where
  abbrev here : Entry
  here = entry_at (mask_bytes count) s start f.offset

  -- the code's tests
  patterned : (t : Bool) → has_patterns f.width ≡ t → has_patterns (width_of here) ≡ t
  patterned t q = rw h.width q

  ranged : (t : Bool) → is_limited (row_of x).values ≡ t → is_limited (row_of here.id).values ≡ t
  ranged t q = rw h.id q

  pub by-wide : has_patterns f.width ≡ false → is_limited (row_of x).values ≡ true → f.width ≡ 8
  by-wide p q = sym h.width ∙ judged-wide here (patterned false p) (ranged true q)

  module _ (some : 0 < f.parts) (set : ℕ) (b : Bank) (i : ℕ) where
    held : 0 < parts_of here
    held = rw h.parts some

    pub by-patterns : has_patterns f.width ≡ true → passing set f b (λ n. not (bit_of (patterns_by count s start) n)) i ≡ refused_in set here b i
    unfolding passing patterns_by
    by-patterns q =
        rw (le-leb start 120 h.low, patterns-any (mask_bytes count) s start 0 f.offset)
        (rw (h.parts, h.width) at (patterns-refused here held set b i (patterned true q)))

    pub by-range : has_patterns f.width ≡ false → is_limited (row_of x).values ≡ true → passing set f b (λ n. not (in_range (range_by count s start) n)) i ≡ refused_in set here b i
    unfolding passing range_by
    by-range p q =
        let (low, high) = range-any (mask_bytes count) s start 0 f.offset in
        rw (le-leb start 120 h.low, low, high)
        (rw (h.parts, h.width) at (range-refused here held set b i (patterned false p) (ranged true q)))

    pub by-none : has_patterns f.width ≡ false → is_limited (row_of x).values ≡ false → refused_in set here b i ≡ false
    by-none p q = none-refused here held set b i (patterned false p) (ranged false q)
