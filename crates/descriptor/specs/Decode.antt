-- One entry of a walk, in terms of the rules' decode of it.
use Rattle.std.specs.Prelude.{◌≡◌, Bool, true, false, ◌&&◌, not, List, ℕ, ◌+◌, ◌-◌, ◌≤◌, ◌<◌, length, leb, Option, None, Some, Result, Ok, Err}
use Rattle.rules.specs.declared.Entry.{Entry}
use Rattle.rules.specs.declared.State.{State}
use Rattle.rules.specs.Descriptor.{byte_at, entry_at, length_checks, reserved, entry_limit}
use Rattle.rules.specs.Load.{next}
use Rattle.descriptor.specs.declared.decode.Past.{Past}
use Rattle.descriptor.specs.declared.table.Side.{Side}
use Rattle.descriptor.specs.declared.table.Side.TheVariants.{Rw as of_rw, Ro as of_ro, Both as of_both}
use Rattle.descriptor.specs.declared.table.Row.{Row}
use Rattle.descriptor.specs.declared.state.Count.{Count}
use Rattle.descriptor.specs.Rows.{row_at}
use Rattle.descriptor.specs.Counts.{count_of, Small}

-- 1 and 2 of the entry at a place: its Length
abbrev pub length_in : Result Entry ℕ → Result ℕ ℕ
length_in (Ok e) = Ok e.length
length_in (Err n) = Err n

unfoldable pub length_at : ℕ → List ℕ → ℕ → Result ℕ ℕ
length_at a s at = length_in (length_checks a (length s - at) (entry_at a s at 0) (Ok (entry_at a s at 0)))

-- past an entry: the place and the counts after it
abbrev pub past : ℕ → Count → Result Past ℕ
past at c = Ok (record { at = at; counts = c })

-- what a walk makes of a decode
abbrev pub decoding_of : ℕ → State → Result Entry ℕ → Result Past ℕ
decoding_of at st (Ok e) = past (at + e.length) (count_of (next st e))
decoding_of at st (Err n) = Err n

-- the step of an entry is in the string, and four codes up to the last one exist
pub record StepIn (row : Row) (s : List ℕ) (from last : ℕ) : Type 0 where
  pub four : 3 ≤ last
  pub some : 0 < row.least
  pub room : from + row.least ≤ length s

-- four codes up to the last one are not reserved
abbrev pub reserved_to : Option ℕ → ℕ → Bool
reserved_to None x = false
reserved_to (Some last) x = reserved (last - 3, last) x

-- the test of 5: the step is the last byte of the least Length
unfoldable pub reserved_by : Row → List ℕ → ℕ → Bool
reserved_by row s from = reserved_to row.last_step (byte_at s (from + row.least - 1))

-- whether an ID may stand in a string, by its side
abbrev pub stands_by : Side → Bool → Bool
stands_by of_rw in_ro = not in_ro
stands_by of_ro in_ro = in_ro
stands_by of_both in_ro = true

-- the test of 6
abbrev pub late_by : ℕ → Bool → Bool → Bool
late_by id media passed = leb 2 id && (leb id 8 && (not media && passed))

-- a place of a string past 16, 1 and 2, with the row of the entry's ID
pub record Standing (row : Row) (a : ℕ) (s : List ℕ) (at : ℕ) (c : Count) : Type 0 where
  pub row-is : row ≡ row_at (byte_at s at)
  pub room : at + row.least + a ≤ length s
  pub few : c.entries < entry_limit
  pub small : Small c
