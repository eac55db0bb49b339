-- Numbers and their bits as the code computes them, and how far from 0 a weight can be.
use mathlib.Core.Path.{◌≡◌, refl, ap}
use mathlib.Core.Bool.{Bool, true, false}
use Prim.Native.Nat.{ℕ, zero, suc, ◌-◌, ◌*◌, ◌^◌, ◌≤◌, ◌<◌}
use native.Mathlib.Nat.{zero-mul, suc-mul, mul-le-mul}
use native.Mathlib.Omega.{arith}
use borrow.Author.Tests.{eq-eqb}
use lib.Dec.{T, eqb, eqb→eq, ltb→lt}
use lib.IntN.{ℤ, pos, negsuc, neg_ℤ, ◌*ℤ◌}
use lib.Pow.{pow_mono}
use lib.Signed.{mag}
use Rattle.std.specs.Int.{int_rem_euclid}
use mir.Syntax.{w64}
use mir.Val.{SFits}
use Rattle.rules.specs.declared.Entry.{Entry}
use Rattle.rules.specs.Parameter.{row_of}
use Rattle.rules.specs.Place.{width_of, signed_of, Width}
use Rattle.rules.specs.Accept.{accepts, to_bits, thousandths}
use Rattle.rules.proofs.Table.Numbers.{half, fits}
use Rattle.rules.proofs.Table.Rows.{accepts-fits}
use Rattle.rules.proofs.Basics.Tests.{from-true}
use Rattle.descriptor.proofs.Accepts.{few-unsigned}
use Rattle.control_set.specs.Field.{InBits}

pub small-fits : (n : ℕ) → n < 512 → SFits w64 (pos n)
small-fits n h = record { sfits = omega arith }

-- a field that is not of 8 bits has at most 4
pub few-bits : (w : ℕ) → Width w → eqb w 8 ≡ false → w ≤ 4
few-bits w h ne = go h.lanes h.fills
  where
    other : w ≡ 8 → ◌≡◌ {A = ℕ} 0 1
    other e = let z : eqb w 8 ≡ true = eq-eqb w 8 e in cc

    go : (n : ℕ) → n * w ≡ 8 → w ≤ 4
    go zero q = absurd (omega (arith, zero-mul w))
    go (suc zero) q = absurd (omega (arith, other (omega arith)))
    go (suc (suc n)) q = omega (arith, suc-mul (suc n) w, suc-mul n w)

-- into bits
pub bits-lt : (w : ℕ) (z : ℤ) → InBits w z → to_bits w z < 2 ^ w
unfolding to_bits
bits-lt w (pos n) h = h
bits-lt w (negsuc n) h = omega arith

pub bits-euclid : (z : ℤ) → InBits 8 z → int_rem_euclid z (pos 256) ≡ pos (to_bits 8 z)
unfolding to_bits
bits-euclid (pos n) h = ap pos (omega arith)
bits-euclid (negsuc n) h = ap pos (omega arith)

pub fits-bits : (g : Bool) (w : ℕ) (z : ℤ) → 0 < w → T (fits g w z) → InBits w z
unfolding fits
fits-bits false w (pos n) l h = ltb→lt _ _ h
fits-bits false w (negsuc n) l h = absurd h
fits-bits true w (pos n) l h = omega (arith, half w l, ltb→lt n (2 ^ (w - 1)) h)
fits-bits true w (negsuc n) l h = omega (arith, half w l, ltb→lt n (2 ^ (w - 1)) h)

-- an accepted value has the bits of a byte: only a field of 8 bits accepts a negative one
pub accepted-byte :
    (e : Entry) (v : ℤ)
    → Width (width_of e)
    → 0 < width_of e
    → T (accepts e v)
    → InBits 8 v × (to_bits 8 v ≡ to_bits (width_of e) v) × (to_bits (width_of e) v < 2 ^ width_of e)
unfolding width_of signed_of fits to_bits
accepted-byte e v w l h = go (eqb (row_of e.id).width 8) refl
  where
    fit : InBits (row_of e.id).width v
    fit = fits-bits (row_of e.id).signed (row_of e.id).width v l (accepts-fits e v h)

    low : (v : ℤ) → T (fits false (row_of e.id).width v) → (row_of e.id).width ≤ 4 → InBits 8 v × (to_bits 8 v ≡ to_bits (row_of e.id).width v)
    low (pos n) q u = (omega (arith, ltb→lt n (2 ^ (row_of e.id).width) q, pow_mono u), refl)
    low (negsuc n) q u = absurd q

    go : (t : Bool) → eqb (row_of e.id).width 8 ≡ t
        → InBits 8 v × (to_bits 8 v ≡ to_bits (row_of e.id).width v) × (to_bits (row_of e.id).width v < 2 ^ (row_of e.id).width)
    go true q =
        let k : (row_of e.id).width ≡ 8 = eqb→eq _ _ (from-true q) in
        rw k (rw k at fit, refl, bits-lt 8 v (rw k at fit))
    go false q =
        let u : (row_of e.id).width ≤ 4 = few-bits _ w q in
        let x = low v (rw (few-unsigned e.id q) at (accepts-fits e v h)) u in
        (x.0, x.1, bits-lt (row_of e.id).width v fit)

-- a weight: a byte's number times 40 at most
mag-neg : (m : ℕ) → mag (neg_ℤ (pos m)) ≤ m
mag-neg zero = omega arith
mag-neg (suc m) = omega arith

scale-le : (step : ℕ) → thousandths step ≤ 40
scale-le zero = omega arith
scale-le (suc zero) = omega arith
scale-le (suc (suc zero)) = omega arith
scale-le (suc (suc (suc n))) = omega arith

pub weight-fits : (step : ℕ) (z : ℤ) → InBits 8 z → SFits w64 (z *ℤ pos (thousandths step))
weight-fits step (pos n) h = record { sfits = omega (arith, mul-le-mul h (scale-le step)) }
weight-fits step (negsuc n) h = record { sfits = omega (arith, mag-neg (suc n * thousandths step), mul-le-mul h (scale-le step)) }
