-- A field by plain numbers: the bits that it takes of a byte, its place in a bank, and what get_field and put_field say of them.
use Rattle.std.specs.Prelude.{ℕ, ◌+◌, ◌*◌, ◌^◌, ◌≤◌, ◌<◌, length, get_or, set, ℤ}
use Rattle.std.specs.Int.Signed.{mag}
use Rattle.rules.specs.Numbers.{cut}
use Rattle.rules.specs.Place.{lane_byte, lane_bit, Width}
use Rattle.rules.specs.Layout.{bank_size, HasBytes, set_start}
use Rattle.rules.specs.Bank.{Bank, merge}

-- at least one bit, and no bit past the byte's end
pub record Room (bit width : ℕ) : Type 0 where
  pub some : 0 < width
  pub room : bit + width ≤ 8

-- a field's byte in its set
abbrev pub byte_in : ℕ → ℕ → ℕ → ℕ → ℕ
byte_in offset p w i = offset + p * w + lane_byte w i

-- a field of a whole bank: of a set and a lane that exist, in its set's 256 bytes
pub record Spot (b : Bank) (s offset p w i : ℕ) : Type 0 where
  pub size : bank_size ≤ length b
  pub bytes : HasBytes s
  pub whole : Width w
  pub low : 1 ≤ i
  pub top : i ≤ 8
  pub inside : byte_in offset p w i < 256

-- w bits of a byte, and the bank with other bits there
abbrev pub bits_in : Bank → ℕ → ℕ → ℕ → ℕ
bits_in b at bit w = cut (get_or b at 0) bit w

abbrev pub with_bits_in : Bank → ℕ → ℕ → ℕ → ℕ → Bank
with_bits_in b at bit w v = set b at (merge (get_or b at 0) bit w v)

-- the field's bits, and the bank with other bits in it
abbrev pub bits_at : Bank → ℕ → ℕ → ℕ → ℕ → ℕ → ℕ
bits_at b s offset p w i = bits_in b (set_start s + byte_in offset p w i) (lane_bit w i) w

abbrev pub with_bits : Bank → ℕ → ℕ → ℕ → ℕ → ℕ → ℕ → Bank
with_bits b s offset p w i v = with_bits_in b (set_start s + byte_in offset p w i) (lane_bit w i) w v

-- a number that w bits hold, read as a signed or as an unsigned one
abbrev pub InBits : ℕ → ℤ → Type 0
InBits w v = mag v < 2 ^ w
