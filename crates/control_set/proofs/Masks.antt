-- What shifts and masks compute, by division and remainder: once, over every width.
use mathlib.Core.Path.{◌≡◌, sym, ap, ap₂, ◌∙◌, subst}
use mathlib.Core.Bool.{Bool, true, false, cond}
use Prim.Native.Nat.{ℕ, ◌+◌, ◌-◌, ◌*◌, ◌/◌, ◌%◌, ◌^◌, ◌≤◌, ◌<◌}
use native.Mathlib.Nat.{add-mul, mul-sub, mul_comm, mod-lt, mod-mod, mod-eq_of_lt, add-zero, add_comm, mul-le-mul_right}
use native.Mathlib.Omega.{arith}
use lib.Pow.{pow_pos, split, high, low, ones_lt, le_ones, ones_split, high_ones, shl_exact, shr_lt, shr_mod, shr-shr, field, mod-mod-pow}
use lib.Bits.{bit_and, bit_or, and_block, and_mask, and_high, and_shr, and_mod, and_le_r, and_zero_r, or_block, or_shifted, or_shr, or_mod, or_lt, or_zero_l, or_zero_r}
use Rattle.rules.specs.Numbers.{cut}
use Rattle.rules.specs.Bank.{merge}
use Rattle.rules.proofs.Basics.Digits.{cut-lt}
use Rattle.control_set.specs.Field.{Room}
use Rattle.control_set.specs.Plan.{merge_by}

-- j + k ones without the k lowest are j ones
ones-shr : (j k : ℕ) → (2 ^ (j + k) - 1) / 2 ^ k ≡ 2 ^ j - 1
ones-shr j k = ap (λ (x : ℕ). x / 2 ^ k) (ones_split j k) ∙ high (2 ^ j - 1) k (ones_lt k)

pub ones-byte : (w : ℕ) → w ≤ 8 → 255 / 2 ^ (8 - w) ≡ 2 ^ w - 1
ones-byte w h =
    let e : w + (8 - w) ≡ 8 = omega arith in
    subst (λ (n : ℕ). (2 ^ n - 1) / 2 ^ (8 - w) ≡ 2 ^ w - 1) e (ones-shr w (8 - w))

-- all ones but the w from bit t on
ones-holed : (j w t : ℕ) → 2 ^ (j + w + t) - 1 - (2 ^ w - 1) * 2 ^ t ≡ (2 ^ j - 1) * 2 ^ w * 2 ^ t + (2 ^ t - 1)
ones-holed j w t = rw (ones_split (j + w) t, ones_split j w, add-mul ((2 ^ j - 1) * 2 ^ w) (2 ^ w - 1) (2 ^ t)) (omega arith)

-- under that mask the w bits are 0
and-holed :
    (j w t x : ℕ)
    → x < 2 ^ (j + w + t)
    → bit_and x (2 ^ (j + w + t) - 1 - (2 ^ w - 1) * 2 ^ t) ≡ x / 2 ^ t / 2 ^ w * 2 ^ w * 2 ^ t + x % 2 ^ t
and-holed j w t x h =
    ap₂ bit_and (sym (split x t)) (ones-holed j w t)
    ∙ and_block t (x / 2 ^ t) ((2 ^ j - 1) * 2 ^ w) (x % 2 ^ t) (2 ^ t - 1) (mod-lt x (pow_pos t)) (ones_lt t)
    ∙ ap₂ (λ (a b : ℕ). a * 2 ^ t + b)
    (ap (bit_and (x / 2 ^ t)) (sym (high_ones j w)) ∙ and_high (x / 2 ^ t) j w ∙ ap (λ (a : ℕ). a * 2 ^ w) (shr_mod j w (shr_lt (j + w) t h)))
    (and_mask (x % 2 ^ t) t ∙ mod-mod x (2 ^ t))

-- and a value fills them
or-filled : (w t h l v : ℕ) → l < 2 ^ t → v < 2 ^ w → bit_or (h * 2 ^ w * 2 ^ t + l) (v * 2 ^ t) ≡ (h * 2 ^ w + v) * 2 ^ t + l
or-filled w t h l v hl hv =
    ap (bit_or (h * 2 ^ w * 2 ^ t + l)) (sym (add-zero (v * 2 ^ t)))
    ∙ or_block t (h * 2 ^ w) v l 0 hl (pow_pos t)
    ∙ ap₂ (λ (a b : ℕ). a * 2 ^ t + b) (or_shifted h w v hv) (or_zero_r l)

-- the rules' merge divides once
merge-nested : (x t w v : ℕ) → (x / 2 ^ t / 2 ^ w * 2 ^ w + v) * 2 ^ t + x % 2 ^ t ≡ merge x t w v
merge-nested x t w v = ap (λ (a : ℕ). (a * 2 ^ w + v) * 2 ^ t + x % 2 ^ t) (shr-shr x t w ∙ ap (λ (n : ℕ). x / 2 ^ n) (add_comm t w))

-- what the code of `merged` computes with the mask m
pub merge-masked :
    (x t w v m : ℕ) → x < 256 → Room t w → v < 2 ^ w → m ≡ 2 ^ w - 1 → bit_or (bit_and x (255 - m * 2 ^ t % 256)) (v * 2 ^ t % 256) ≡ merge x t w v
merge-masked x t w v m hx r hv e =
    let all : 8 - (t + w) + w + t ≡ 8 = omega arith in
    rw (e, shl_exact w t 8 (ones_lt w) (omega arith), shl_exact w t 8 hv (omega arith))
    (ap (λ (a : ℕ). bit_or a (v * 2 ^ t))
    (subst (λ (n : ℕ). x < 2 ^ n → bit_and x (2 ^ n - 1 - (2 ^ w - 1) * 2 ^ t) ≡ x / 2 ^ t / 2 ^ w * 2 ^ w * 2 ^ t + x % 2 ^ t) all (and-holed (8 - (t + w)) w t x) hx)
    ∙ or-filled w t (x / 2 ^ t / 2 ^ w) (x % 2 ^ t) v (mod-lt x (pow_pos t)) hv
    ∙ merge-nested x t w v)

-- bits of bits
pub cut-cut : (x a n t w : ℕ) → t + w ≤ n → cut (cut x a n) t w ≡ cut x (a + t) w
cut-cut x a n t w h =
    let e : n ≡ n - (w + t) + (w + t) = omega arith in
    sym (field (cut x a n) w t)
    ∙ ap (λ (y : ℕ). y / 2 ^ t) (rw e (mod-mod-pow (x / 2 ^ a) (n - (w + t)) (w + t)))
    ∙ field (x / 2 ^ a) w t
    ∙ ap (λ (y : ℕ). y % 2 ^ w) (shr-shr x a t)

-- all ones but a number's
ones-less : (j k x : ℕ) → x < 2 ^ (j + k) → 2 ^ (j + k) - 1 - x ≡ (2 ^ j - 1 - x / 2 ^ k) * 2 ^ k + (2 ^ k - 1 - x % 2 ^ k)
ones-less j k x h =
    let l : x / 2 ^ k * 2 ^ k ≤ (2 ^ j - 1) * 2 ^ k = mul-le-mul_right (2 ^ k) (le_ones j (shr_lt j k h)) in
    let e : (2 ^ j - 1 - x / 2 ^ k) * 2 ^ k ≡ (2 ^ j - 1) * 2 ^ k - x / 2 ^ k * 2 ^ k
    = mul_comm _ (2 ^ k) ∙ mul-sub (2 ^ k) (2 ^ j - 1) (x / 2 ^ k) ∙ ap₂ ◌-◌ (mul_comm (2 ^ k) _) (mul_comm (2 ^ k) _) in
    rw (ones_split j k, e) (omega (arith, l, split x k, mod-lt x (pow_pos k)))

less-lt : (k n : ℕ) → 2 ^ k - 1 - n < 2 ^ k
less-lt k n = omega (arith, pow_pos k)

cut-less : (j w t x : ℕ) → x < 2 ^ (j + w + t) → cut (2 ^ (j + w + t) - 1 - x) t w ≡ 2 ^ w - 1 - cut x t w
cut-less j w t x h =
    rw (ones-less (j + w) t x h, high (2 ^ (j + w) - 1 - x / 2 ^ t) t (less-lt t (x % 2 ^ t)), ones-less j w (x / 2 ^ t) (shr_lt (j + w) t h))
    (low (2 ^ j - 1 - x / 2 ^ t / 2 ^ w) w (less-lt w (x / 2 ^ t % 2 ^ w)))

-- a byte merged by a mask
module _ (a s m : ℕ) where
  pub merge-by-lt : m < 256 → merge_by a s m < 256
  merge-by-lt h = or_lt 8 (bit_and a (255 - m)) (bit_and s m) (omega (arith, and_le_r a (255 - m))) (omega (arith, and_le_r s m))

  pub merge-by-none : a < 256 → merge_by a s 0 ≡ a
  merge-by-none h = rw (and_zero_r s, or_zero_r (bit_and a 255)) (and_mask a 8 ∙ mod-eq_of_lt h)

  module _ (t w : ℕ) where
    cut-both : merge_by a s m / 2 ^ t % 2 ^ w ≡ bit_or (bit_and (cut a t w) (cut (255 - m) t w)) (bit_and (cut s t w) (cut m t w))
    cut-both =
        rw (or_shr (bit_and a (255 - m)) (bit_and s m) t, or_mod (bit_and a (255 - m) / 2 ^ t) (bit_and s m / 2 ^ t) w, and_shr a (255 - m) t, and_shr s m t, and_mod (a / 2 ^ t) ((255 - m) / 2 ^ t) w, and_mod (s / 2 ^ t) (m / 2 ^ t) w)

    cut-byte-less : m < 256 → t + w ≤ 8 → cut (255 - m) t w ≡ 2 ^ w - 1 - cut m t w
    cut-byte-less h r =
        let all : 8 - (t + w) + w + t ≡ 8 = omega arith in
        subst (λ (n : ℕ). m < 2 ^ n → cut (2 ^ n - 1 - m) t w ≡ 2 ^ w - 1 - cut m t w) all (cut-less (8 - (t + w)) w t m) h

    -- its bits where the mask has all or none
    pub cut-merged : m < 256 → t + w ≤ 8 → (v : Bool) → cut m t w ≡ cond v (2 ^ w - 1) 0 → cut (merge_by a s m) t w ≡ cond v (cut s t w) (cut a t w)
    cut-merged h r true q =
        let z : 2 ^ w - 1 - (2 ^ w - 1) ≡ 0 = omega arith in
        rw (cut-both, cut-byte-less h r, q, z, and_zero_r (cut a t w), or_zero_l (bit_and (cut s t w) (2 ^ w - 1)))
        (and_mask (cut s t w) w ∙ mod-eq_of_lt (cut-lt s t w))
    cut-merged h r false q =
        let z : 2 ^ w - 1 - 0 ≡ 2 ^ w - 1 = omega arith in
        rw (cut-both, cut-byte-less h r, q, z, and_zero_r (cut s t w), or_zero_r (bit_and (cut a t w) (2 ^ w - 1)))
        (and_mask (cut a t w) w ∙ mod-eq_of_lt (cut-lt a t w))
