-- The bits of two masks joined.
use mathlib.Core.Path.{◌≡◌, refl, ap, ◌∙◌}
use mathlib.Core.Bool.{◌&&◌, ◌||◌}
use Prim.Native.Nat.{ℕ, zero, suc, ◌/◌, ◌%◌, ◌^◌, ◌<◌}
use native.Mathlib.Nat.{mod-lt}
use native.Mathlib.Omega.{arith}
use lib.Bits.{bit_and, bit_or, and_shr, and_mod, or_shr, or_mod}
use lib.Dec.{eqb}
use Rattle.rules.specs.Numbers.{bit_of}

bit-and : (x y : ℕ) → x < 2 → y < 2 → eqb (bit_and x y) 1 ≡ (eqb x 1 && eqb y 1)
bit-and zero zero hx hy = refl
bit-and zero (suc zero) hx hy = refl
bit-and zero (suc (suc y)) hx hy = absurd (omega arith)
bit-and (suc zero) zero hx hy = refl
bit-and (suc zero) (suc zero) hx hy = refl
bit-and (suc zero) (suc (suc y)) hx hy = absurd (omega arith)
bit-and (suc (suc x)) y hx hy = absurd (omega arith)

bit-or : (x y : ℕ) → x < 2 → y < 2 → eqb (bit_or x y) 1 ≡ (eqb x 1 || eqb y 1)
bit-or zero zero hx hy = refl
bit-or zero (suc zero) hx hy = refl
bit-or zero (suc (suc y)) hx hy = absurd (omega arith)
bit-or (suc zero) zero hx hy = refl
bit-or (suc zero) (suc zero) hx hy = refl
bit-or (suc zero) (suc (suc y)) hx hy = absurd (omega arith)
bit-or (suc (suc x)) y hx hy = absurd (omega arith)

pub and-bit : (x y n : ℕ) → bit_of (bit_and x y) n ≡ (bit_of x n && bit_of y n)
and-bit x y n =
    ap (λ (a : ℕ). eqb a 1) (ap (λ (a : ℕ). a % 2) (and_shr x y n) ∙ and_mod (x / 2 ^ n) (y / 2 ^ n) 1)
    ∙ bit-and (x / 2 ^ n % 2) (y / 2 ^ n % 2) (mod-lt (x / 2 ^ n) (omega arith)) (mod-lt (y / 2 ^ n) (omega arith))

pub or-bit : (x y n : ℕ) → bit_of (bit_or x y) n ≡ (bit_of x n || bit_of y n)
or-bit x y n =
    ap (λ (a : ℕ). eqb a 1) (ap (λ (a : ℕ). a % 2) (or_shr x y n) ∙ or_mod (x / 2 ^ n) (y / 2 ^ n) 1)
    ∙ bit-or (x / 2 ^ n % 2) (y / 2 ^ n % 2) (mod-lt (x / 2 ^ n) (omega arith)) (mod-lt (y / 2 ^ n) (omega arith))
