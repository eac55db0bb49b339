-- Numbers and bits: a number that fits w bits goes into bits and back; what lies between two numbers that fit, fits.
use mathlib.Core.Path.{◌≡◌, refl}
use mathlib.Core.Bool.{Bool, true, false}
use Prim.Native.Nat.{ℕ, zero, suc, ◌-◌, ◌*◌, ◌^◌, ◌≤◌, ◌<◌}
use native.Mathlib.Omega.{arith}
use lib.IntN.{ℤ, pos, negsuc}
use lib.Dec.{T, ltb, ltb→lt, lt→ltb, nltb→le, leb, leb→le}
use borrow.Author.Tests.{lt-ltb, le-ltb}
use lib.Pow.{pow_pos}
use lib.Signed.{le_z}
use Rattle.rules.specs.Accept.{to_bits, from_bits}
use Rattle.rules.proofs.Basics.Tests.{by-test}

-- the numbers that w bits hold
unfoldable pub fits : Bool → ℕ → ℤ → Bool
fits false w (pos n) = ltb n (2 ^ w)
fits false w (negsuc n) = false
fits true w (pos n) = ltb n (2 ^ (w - 1))
fits true w (negsuc n) = ltb n (2 ^ (w - 1))

-- 2 ^ w is twice 2 ^ (w - 1)
pub half : (w : ℕ) → 0 < w → 2 ^ w ≡ 2 * 2 ^ (w - 1)
half zero h = absurd (omega arith)
half (suc w) h = let e : suc w - 1 ≡ w = omega arith in rw e (omega arith)

module _ (w : ℕ) (hw : 0 < w) where
  pub to-lt : (g : Bool) (z : ℤ) → T (fits g w z) → to_bits w z < 2 ^ w
  unfolding fits to_bits
  to-lt false (pos n) h = ltb→lt _ _ h
  to-lt false (negsuc n) h = absurd h
  to-lt true (pos n) h = omega (arith, half w hw, ltb→lt n (2 ^ (w - 1)) h)
  to-lt true (negsuc n) h = omega (arith, half w hw, ltb→lt n (2 ^ (w - 1)) h)

  pub from-to : (g : Bool) (z : ℤ) → T (fits g w z) → from_bits g w (to_bits w z) ≡ z
  unfolding fits to_bits from_bits
  from-to false (pos n) h = refl
  from-to false (negsuc n) h = absurd h
  from-to true (pos n) h = rw (lt-ltb n (2 ^ (w - 1)) (ltb→lt n (2 ^ (w - 1)) h))
  from-to true (negsuc n) h =
      let l : n < 2 ^ (w - 1) = ltb→lt n (2 ^ (w - 1)) h in
      let e : 2 ^ w - suc (2 ^ w - suc n) ≡ n = omega (arith, half w hw) in
      rw (le-ltb (2 ^ w - suc n) (2 ^ (w - 1)) (omega (arith, half w hw)), e)

  pub to-from : (g : Bool) (n : ℕ) → n < 2 ^ w → to_bits w (from_bits g w n) ≡ n
  unfolding to_bits from_bits
  to-from false n h = refl
  to-from true n h =
      by-test (λ z. to_bits w z ≡ n) (ltb n (2 ^ (w - 1))) (pos n) (negsuc (2 ^ w - suc n)) (λ _. refl) (λ _. omega arith)

  -- two's complement takes any number for one of w bits
  pub signed-fits : (n : ℕ) → T (fits true w (from_bits true w n))
  unfolding fits from_bits
  signed-fits n =
      by-test (λ z. T (fits true w z)) (ltb n (2 ^ (w - 1))) (pos n) (negsuc (2 ^ w - suc n))
      (λ l. l)
      (λ l. lt→ltb (2 ^ w - suc n) (2 ^ (w - 1)) (omega (arith, half w hw, pow_pos (w - 1), nltb→le n (2 ^ (w - 1)) l)))

  pub from-fits : (g : Bool) (n : ℕ) → n < 2 ^ w → T (fits g w (from_bits g w n))
  unfolding fits from_bits
  from-fits false n h = lt→ltb _ _ h
  from-fits true n h = signed-fits n

down : (a b n : ℕ) → T (leb a b) → T (ltb b n) → T (ltb a n)
down a b n h l = let p : a ≤ b = leb→le a b h in let q : b < n = ltb→lt b n l in lt→ltb a n (omega arith)

pub fits-between :
    (g : Bool) (w : ℕ) (lo v hi : ℤ) → T (fits g w lo) → T (fits g w hi) → T (le_z lo v) → T (le_z v hi) → T (fits g w v)
unfolding fits
fits-between false w (pos a) (pos n) (pos b) p q l u = down n b (2 ^ w) u q
fits-between false w (pos a) (pos n) (negsuc b) p q l u = absurd u
fits-between false w (pos a) (negsuc n) hi p q l u = absurd l
fits-between false w (negsuc a) v hi p q l u = absurd p
fits-between true w lo (pos n) (pos b) p q l u = down n b (2 ^ (w - 1)) u q
fits-between true w lo (pos n) (negsuc b) p q l u = absurd u
fits-between true w (pos a) (negsuc n) hi p q l u = absurd l
fits-between true w (negsuc a) (negsuc n) hi p q l u = down n a (2 ^ (w - 1)) l p
