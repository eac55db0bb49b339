-- The bytes of an entry that say more of its values, and what is made of them.
use Rattle.std.specs.Prelude.{Option, Some, None, List, ℕ, ◌+◌, pos, negsuc}
use Rattle.std.specs.Int.Bits.{bit_and}
use Rattle.rules.specs.Descriptor.{byte_at, high_first}
use Rattle.rules.specs.Accept.{signed_byte}
use Rattle.descriptor.specs.declared.table.Values.{Values}
use Rattle.descriptor.specs.declared.table.Values.TheVariants.{UpTo as up_to, SignedByte as every_byte, Codes as codes_in, MinToMax as between, Stepped as with_step}
use Rattle.descriptor.specs.declared.Range.{Range}
use Rattle.descriptor.specs.declared.Accepted.{Accepted}
use Rattle.descriptor.specs.declared.Accepted.TheVariants.{Within as within_range, Codes as in_codes}

-- the numbers of a signed byte
abbrev pub signed_range : Range
signed_range = record { low = negsuc 127; high = pos 127 }

-- by what the fields of an entry's ID hold, from the entry's byte A on: the values that they accept
unfoldable pub accepted_at : Values → List ℕ → ℕ → Accepted
accepted_at (up_to n) s at = within_range (record { low = pos 0; high = n })
accepted_at every_byte s at = within_range signed_range
accepted_at (codes_in p l) s at = in_codes (bit_and l (high_first s (at + p) 2))
accepted_at (between p q) s at = within_range (record { low = signed_byte (byte_at s (at + p)); high = signed_byte (byte_at s (at + q)) })
accepted_at (with_step p) s at = within_range signed_range

-- and the step beside them
unfoldable pub step_at : Values → List ℕ → ℕ → Option ℕ
step_at (up_to n) s at = None
step_at every_byte s at = None
step_at (codes_in p l) s at = None
step_at (between p q) s at = None
step_at (with_step p) s at = Some (byte_at s (at + p))
