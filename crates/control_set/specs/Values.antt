-- The number of a field's bits.
use Rattle.std.specs.Prelude.{Bool, ◌&&◌, cond, ℕ, ℤ, pos, ◌-ℤ◌, leb}

-- the number that the bits of a field stand for, in two's complement of a byte if signed
abbrev pub number_by : Bool → ℕ → ℤ
number_by signed n = cond (signed && leb 128 n) (pos n -ℤ pos 256) (pos n)
