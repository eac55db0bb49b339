-- Bits of a number, and sums and searches over a range: the arithmetic that the rules are said in.
use Rattle.std.specs.Prelude.{Bool, false, ◌||◌, cond, ℕ, zero, suc, ◌+◌, ◌/◌, ◌%◌, ◌^◌, eqb}

-- the w bits of a number from bit t on
abbrev pub cut : ℕ → ℕ → ℕ → ℕ
cut x t w = x / 2 ^ t % 2 ^ w

-- bit n of a mask
abbrev pub bit_of : ℕ → ℕ → Bool
bit_of mask n = eqb (mask / 2 ^ n % 2) 1

-- f 0 + .. + f (n - 1)
unfoldable pub sum : ℕ → (ℕ → ℕ) → ℕ
sum zero f = 0
sum (suc n) f = sum n f + f n

-- one of f 0 .. f (n - 1) is true
unfoldable pub any : ℕ → (ℕ → Bool) → Bool
any zero f = false
any (suc n) f = any n f || f n

-- the lowest of the n numbers from i on at which f is true, or 0
unfoldable pub lowest : ℕ → ℕ → (ℕ → Bool) → ℕ
lowest zero i f = 0
lowest (suc n) i f = cond (f i) i (lowest n (suc i) f)
