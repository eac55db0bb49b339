-- The owner of a bit, from the entry whose space covers its byte: the field of the byte's part and of the bit's lane, or a gap.
use mathlib.Core.Path.{◌≡◌, sym, ap, ◌∙◌}
use Prim.Native.Nat.{ℕ, suc, ◌+◌, ◌-◌, ◌*◌, ◌/◌, ◌%◌, ◌≤◌, ◌<◌}
use native.Mathlib.Nat.{mul_assoc, div-lt_iff_lt-mul, div-mul-le_self, lt-div-mul-add, mul-add-div_right}
use native.Mathlib.Omega.{arith}
use native.Mathlib.Decide.{dec_lt}
use lib.Arith.{digits_lt}
use Rattle.rules.specs.Load.{Map}
use Rattle.rules.specs.Place.{entry, parts_of, width_of, held_by, lane_byte, lane_bit, field_byte, owner_of, field, gap, Width, Field}
use Rattle.rules.specs.Layout.{HasBytes}
use Rattle.rules.proofs.Place.Lanes.{width-pos, full, lane-at-byte, lane-at-bit}
use Rattle.rules.proofs.Place.AcceptedMap.{GoodMap, entries-apart}
use Rattle.rules.proofs.Place.Fields.{covers-bit, in-parts, in-entry}
use Rattle.rules.proofs.Place.CoveredBytes.{In, in-width, placed, byte-lt, part-lt, part_at, byte_in_part}
use Rattle.rules.proofs.Place.Owners.{Covers, covers-says, covers-owner, owner-none}

-- a part's bits in a row: bit q of byte n of a part lies in lane (8 × n + q) / W + 1
module _ (w n q : ℕ) (h : Width w) (ln : n < w) (lq : q < 8) where
  in-lane : q / w < h.lanes
  in-lane = (div-lt_iff_lt-mul (width-pos w h)).1 (omega (arith, h.fills))

  bits-lane : (n * 8 + q) / w ≡ n * h.lanes + q / w
  bits-lane =
      ap (λ x. (n * x + q) / w) (sym h.fills)
      ∙ ap (λ x. (x + q) / w) (sym (mul_assoc n h.lanes w))
      ∙ mul-add-div_right (width-pos w h) (n * h.lanes) q

  lane-top : (n * 8 + q) / w < 8
  lane-top = let t : n * h.lanes + q / w < w * h.lanes = digits_lt ln in-lane in omega (arith, bits-lane, full w h)

  lane-byte-is : lane_byte w (suc ((n * 8 + q) / w)) ≡ n
  lane-byte-is = ap (λ j. lane_byte w (suc j)) bits-lane ∙ lane-at-byte w h n (q / w) in-lane

  lane-bit-is : lane_bit w (suc ((n * 8 + q) / w)) ≡ q / w * w
  lane-bit-is = ap (λ j. lane_bit w (suc j)) bits-lane ∙ lane-at-bit w h n (q / w) in-lane

  lane-from : lane_bit w (suc ((n * 8 + q) / w)) ≤ q
  lane-from = rw lane-bit-is (div-mul-le_self q w)

  lane-to : q < lane_bit w (suc ((n * 8 + q) / w)) + w
  lane-to = rw lane-bit-is (lt-div-mul-add (width-pos w h))

module _ (m : Map) (g : GoodMap m) (s k q : ℕ) (hs : HasBytes s) (hq : q < 8) where
  -- the byte lies in the entry's parts: the field of its part and of the bit's lane
  pub owner-field :
      {e : ℕ} (h : In m s e k)
      → owner_of m s k q
      ≡ field e
      ((k - (entry m e).offset) / width_of (entry m e))
      (suc (((k - (entry m e).offset) % width_of (entry m e) * 8 + q) / width_of (entry m e)))
  owner-field {e} h =
      let w : ℕ = width_of (entry m e) in
      let hw : Width w = in-width m g h in
      let n : ℕ = byte_in_part m g h in
      let i : ℕ = suc ((n * 8 + q) / w) in
      let ln : n < w = byte-lt m g h in
      let here : field_byte (entry m e) (part_at m g h) i ≡ k = omega (arith, placed m g h, lane-byte-is w n q hw ln hq) in
      covers-owner m g s k q hs e (part_at m g h) i
      (record { set = hs; ent = h.ent; part = part-lt m g h; low = omega arith; top = omega (arith, lane-top w n q hw ln hq) })
      (covers-bit (entry m e) (part_at m g h) i k q here (lane-from w n q hw ln hq) (lane-to w n q hw ln hq))

  -- the byte lies in the entry's space, past its parts: a gap
  pub owner-surplus :
      (e : ℕ)
      → e < held_by m s
      → (entry m e).offset + parts_of (entry m e) * width_of (entry m e) ≤ k
      → k < (entry m e).offset + (entry m e).memory
      → owner_of m s k q ≡ gap
  owner-surplus e he low top = owner-none m g s k q hs λ e' p i f c. clash e' p i f (covers-says c) (dec_lt e e') (dec_lt e' e)
    where
      clash : (e' p i : ℕ) → Field m s e' p i → Covers m e' p i k q → Dec (e < e') → Dec (e' < e) → ⊥
      clash e' p i f c (yes l) d = omega (arith, entries-apart m g s s e e' he f.ent l, c.byte)
      clash e' p i f c (no a) (yes l) = omega (arith, entries-apart m g s s e' e f.ent he l, in-entry m g f, c.byte)
      clash e' p i f c (no a) (no b) =
          let z : e' ≡ e = omega arith in
          let f' : Field m s e p i = rw z at f in
          let c' : Covers m e p i k q = rw z at c in
          omega (arith, in-parts m g f', c'.byte)
