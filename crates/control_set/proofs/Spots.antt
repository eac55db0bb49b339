-- A field's numbers: what the code asks of them, and what the rules say of them by an entry of a map.
use mathlib.Core.Path.{◌≡◌, ap, ◌∙◌}
use mathlib.Core.Bool.{Bool}
use Prim.Native.Nat.{ℕ, ◌^◌, ◌≤◌, ◌<◌}
use lib.IntN.{ℤ}
use lib.ListN.{length}
use Rattle.rules.specs.declared.Entry.{Entry}
use Rattle.rules.specs.Load.{Map}
use Rattle.rules.specs.Place.{entry, width_of, signed_of, lane_bit, Width, Field}
use Rattle.rules.specs.Accept.{to_bits, from_bits}
use Rattle.rules.specs.Layout.{bank_size}
use Rattle.rules.specs.Bank.{Bank, get_field, put_field, number_in, with_number}
use Rattle.rules.proofs.Place.Lanes.{width-pos, lane-room}
use Rattle.rules.proofs.Basics.Digits.{cut-lt}
use Rattle.rules.proofs.Place.AcceptedMap.{GoodMap}
use Rattle.rules.proofs.Place.Fields.{field-width, in-set}
use Rattle.control_set.specs.Field.{Room, Spot, bits_at, with_bits}

pub width-room : (w i : ℕ) → Width w → 1 ≤ i → Room (lane_bit w i) w
width-room w i h l = record { some = width-pos w h; room = lane-room w h i l }

pub bits-at-lt : (b : Bank) (s offset p w i : ℕ) → bits_at b s offset p w i < 2 ^ w
bits-at-lt b s offset p w i = cut-lt _ _ w

-- with the offset and the width of an entry of a map
module _ (m : Map) (b : Bank) (s e p i : ℕ) (x : Entry) (found : x ≡ entry m e) (w : ℕ) (width : w ≡ width_of x) where
  pub spot-field : GoodMap m → Field m s e p i → bank_size ≤ length b → Spot b s x.offset p w i
  spot-field g f h =
      rw (width, found)
      (record { size = h; bytes = f.set; whole = field-width m g f; low = f.low; top = f.top; inside = in-set m g f })

  pub bits-field : bits_at b s x.offset p w i ≡ get_field m b s e p i
  unfolding get_field
  bits-field = rw (width, found)

  pub with-field : (v : ℕ) → with_bits b s x.offset p w i v ≡ put_field m b s e p i v
  unfolding put_field
  with-field v = rw (width, found)

  -- and the numbers that the bits stand for
  pub number-field : (g : Bool) → g ≡ signed_of x → from_bits g w (bits_at b s x.offset p w i) ≡ number_in m b s e p i
  unfolding number_in
  number-field g q = ap (from_bits g w) bits-field ∙ rw (q, width, found)

  pub with-number : (v : ℤ) → with_bits b s x.offset p w i (to_bits w v) ≡ with_number m b s e p i v
  unfolding with_number
  with-number v = with-field (to_bits w v) ∙ rw (width, found)
