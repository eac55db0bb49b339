-- The bits of a number: what `merge` puts in, and what it leaves.
use mathlib.Core.Path.{◌≡◌, sym, ap, ◌∙◌}
use mathlib.Core.Logic.{◌⊎◌, inl, inr}
use Prim.Native.Nat.{ℕ, ◌+◌, ◌-◌, ◌*◌, ◌/◌, ◌%◌, ◌^◌, ◌≤◌, ◌<◌}
use native.Mathlib.Nat.{mod-lt, add_comm, mul_assoc}
use native.Mathlib.Omega.{arith}
use lib.Arith.{digits_lt}
use lib.Pow.{pow_pos, pow-add, high, low, shr_lt, shr-shr, split, field, mod-mod-pow}
use Rattle.rules.specs.Numbers.{cut}
use Rattle.rules.specs.Bank.{merge}

pub cut-lt : (x t w : ℕ) → cut x t w < 2 ^ w
cut-lt x t w = mod-lt (x / 2 ^ t) (pow_pos w)

-- a number's own bits
pub merge-own : (x t w : ℕ) → merge x t w (cut x t w) ≡ x
merge-own x t w =
    let e : x / 2 ^ (w + t) ≡ x / 2 ^ t / 2 ^ w = rw (add_comm w t) (sym (shr-shr x t w)) in
    rw (e, split (x / 2 ^ t) w) (split x t)

module _ (x t w v : ℕ) (h : v < 2 ^ w) where
  merge-high : merge x t w v / 2 ^ t ≡ x / 2 ^ (w + t) * 2 ^ w + v
  merge-high = high (x / 2 ^ (w + t) * 2 ^ w + v) t (mod-lt x (pow_pos t))

  pub cut-merge : cut (merge x t w v) t w ≡ v
  cut-merge = rw merge-high (low (x / 2 ^ (w + t)) w h)

  -- what lies above and below
  merge-above : merge x t w v / 2 ^ (t + w) ≡ x / 2 ^ (t + w)
  merge-above =
      sym (shr-shr (merge x t w v) t w) ∙ ap (λ n. n / 2 ^ w) merge-high ∙ high (x / 2 ^ (w + t)) w h ∙ rw (add_comm w t)

  merge-below : merge x t w v % 2 ^ t ≡ x % 2 ^ t
  merge-below = low (x / 2 ^ (w + t) * 2 ^ w + v) t (mod-lt x (pow_pos t))

  cut-above : (d w' : ℕ) → cut (merge x t w v) (t + w + d) w' ≡ cut x (t + w + d) w'
  cut-above d w' =
      ap
      (λ n. n % 2 ^ w')
      (sym (shr-shr (merge x t w v) (t + w) d) ∙ ap (λ n. n / 2 ^ d) merge-above ∙ shr-shr x (t + w) d)

  cut-below : (d u w' : ℕ) → t ≡ d + (w' + u) → cut (merge x t w v) u w' ≡ cut x u w'
  cut-below d u w' e =
      sym (field (merge x t w v) w' u) ∙ ap (λ n. n / 2 ^ u) same ∙ field x w' u
    where
      mod-below : (n : ℕ) → n % 2 ^ (w' + u) ≡ n % 2 ^ t % 2 ^ (w' + u)
      mod-below n = rw e (sym (mod-mod-pow n d (w' + u)))

      same : merge x t w v % 2 ^ (w' + u) ≡ x % 2 ^ (w' + u)
      same = mod-below (merge x t w v) ∙ ap (λ n. n % 2 ^ (w' + u)) merge-below ∙ sym (mod-below x)

  pub cut-merge-other : (u w' : ℕ) → (t + w ≤ u) ⊎ (u + w' ≤ t) → cut (merge x t w v) u w' ≡ cut x u w'
  cut-merge-other u w' (inl l) =
      let e : u ≡ t + w + (u - (t + w)) = omega arith in
      rw e (cut-above (u - (t + w)) w')
  cut-merge-other u w' (inr l) = cut-below (t - (w' + u)) u w' (omega arith)

  pub merge-lt : (g : ℕ) → x < 2 ^ (g + (w + t)) → merge x t w v < 2 ^ (g + (w + t))
  merge-lt g hx =
      let e : 2 ^ (g + (w + t)) ≡ 2 ^ g * 2 ^ w * 2 ^ t = rw (pow-add 2 g (w + t), pow-add 2 w t, ← mul_assoc) in
      rw e (digits_lt (digits_lt (shr_lt g (w + t) hx) h) (mod-lt x (pow_pos t)))
