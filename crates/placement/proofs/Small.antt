-- The products of the code fit: parts, W and lanes are below 16. Which part and lane a bit lies in.
use mathlib.Core.Path.{◌≡◌}
use Prim.Native.Nat.{ℕ, zero, suc, ◌+◌, ◌*◌, ◌/◌, ◌%◌, ◌≤◌, ◌<◌}
use native.Mathlib.Nat.{mul-zero, mul-le-mul, mul_right_comm, div-le_self, div-add-mod', div-lt_iff_lt-mul, mod-lt, mul-add-div_right}
use native.Mathlib.Omega.{arith}
use lib.Arith.{digits_div, digits_mod}
use mir.Val.{Fits}
use mir.Syntax.{w64}

product : (a b : ℕ) → a < 16 → b < 16 → a * b ≤ 225
product a b h k = let l : a ≤ 15 = omega arith in let u : b ≤ 15 = omega arith in mul-le-mul l u

pub product-fits : (a b : ℕ) → a < 16 → b < 16 → Fits w64 (a * b)
product-fits a b h k = omega (arith, product a b h k)

pub product-some : (n w k : ℕ) → k < n * w → 0 < w
product-some n zero k h = omega (arith, mul-zero n)
product-some n (suc w) k h = omega arith

-- the lanes of all parts in a row, 8 to a part: how many end before bit q of byte b
module _ (b w q : ℕ) (hw : 0 < w) (hq : q < 8) where
  lanes-before : (b * 8 + q) / w ≡ b / w * 8 + (b % w * 8 + q) / w
  lanes-before =
      let bits : b * 8 + q ≡ b / w * 8 * w + (b % w * 8 + q) = omega (arith, div-add-mod' b w, mul_right_comm (b / w) 8 w) in
      rw bits (mul-add-div_right hw (b / w * 8) (b % w * 8 + q))

  in-part : (b % w * 8 + q) / w < 8
  in-part = (div-lt_iff_lt-mul hw).1 (omega (arith, mod-lt b hw))

  pub part-is : (b * 8 + q) / w / 8 ≡ b / w
  part-is = rw lanes-before (digits_div (b / w) in-part)

  pub lane-is : (b * 8 + q) / w % 8 ≡ (b % w * 8 + q) / w
  lane-is = rw lanes-before (digits_mod (b / w) in-part)

-- a place: an offset, a part's bytes and a lane's
module _ (o p w : ℕ) (ho : o ≤ 256) (hp : p < 16) (hw : w < 16) where
  pub part-fits : Fits w64 (o + p * w)
  part-fits = omega (arith, product p w hp hw)

  pub place-fits : (i : ℕ) → i < 16 → Fits w64 (o + p * w + i * w / 8)
  place-fits i hi = omega (arith, product p w hp hw, product i w hi hw, div-le_self (i * w) 8)

-- a part and a lane that are there
pub record There (p i : ℕ) : Type 0 where
  pub part : p < 16
  pub low : 1 ≤ i
  pub top : i ≤ 8
