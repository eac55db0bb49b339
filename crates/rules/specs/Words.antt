-- The declared types of src/lib.rt under the names that the rules use, and what a refusal reports.
use Rattle.std.specs.Prelude.{ℕ, ℤ, Option, Some, None, Result, Ok}
pub use Rattle.rules.specs.declared.Refusal.{Refusal}
pub use Rattle.rules.specs.declared.Refusal.TheVariants.{Plain as plain, AtEntry as at_entry, AtLane as at_lane}
pub use Rattle.rules.specs.declared.Entry.{Entry}
pub use Rattle.rules.specs.declared.State.{State}
pub use Rattle.rules.specs.declared.Loaded.{Loaded}
pub use Rattle.rules.specs.declared.Passed.{Passed}
pub use Rattle.rules.specs.declared.Call.{Call}
pub use Rattle.rules.specs.declared.Call.TheVariants.{Select as select, Write as write, Read as read, ByteWrite as byte_write, ByteRead as byte_read, Publish as publish, Apply as apply}
pub use Rattle.rules.specs.declared.Answer.{Answer}
pub use Rattle.rules.specs.declared.Answer.TheVariants.{Yes, Number}
pub use Rattle.rules.specs.declared.Placed.{Placed}
pub use Rattle.rules.specs.declared.Field.{Field}
pub use Rattle.rules.specs.declared.Owned.{Owned}
pub use Rattle.rules.specs.declared.Taken.{Taken}

-- the field of an entry, part and lane
abbrev pub the_field : ℕ → ℕ → ℕ → Field
the_field e p i = record { entry = e; part = p; lane = i }

-- what calls answer that are not refused: of the load both entry counts, staged and active length
abbrev pub accepted : ℕ → ℕ → ℕ → ℕ → Result Loaded Refusal
accepted n k c t = Ok (record { rw_count = n; ro_count = k; staged_length = c; active_length = t })

-- of a load entry by entry the state after the entry and its Length, or nothing at the end
abbrev pub past : State → ℕ → Result (Option Passed) Refusal
past st n = Ok (Some (record { state = st; length = n }))

pattern abbrev pub passed_all : Result (Option Passed) Refusal
passed_all = Ok None

-- of a call on the bank yes, or a number
pattern abbrev pub says_yes : Result Answer Refusal
says_yes = Ok Yes

pattern abbrev pub number : ℤ → Result Answer Refusal
number v = Ok (Number v)

-- of place an offset, page, byte and lowest bit
abbrev pub placed_at : ℕ → ℕ → ℕ → ℕ → Result Placed Refusal
placed_at k page byte q = Ok (record { offset = k; page = page; byte = byte; bit = q })

-- of owner entry, part and lane, or a gap, and the number of entries looked at
abbrev pub owned_by : ℕ → ℕ → ℕ → ℕ → Result Owned Refusal
owned_by e p i n = Ok (record { field = Some (the_field e p i); looked = n })

abbrev pub no_owner : ℕ → Result Owned Refusal
no_owner n = Ok (record { field = None; looked = n })

-- of a reader an entry's start and length, or nothing at the end
abbrev pub taken : ℕ → ℕ → Result (Option Taken) Refusal
taken start length = Ok (Some (record { start = start; length = length }))

pattern abbrev pub no_more : Result (Option Taken) Refusal
no_more = Ok None

-- "A refusal gives its number and the extras above": the number; the extra is the entry of `at_entry` or the lane of `at_lane`
abbrev pub number_of : Refusal → ℕ
number_of (plain n) = n
number_of (at_entry n e) = n
number_of (at_lane n i) = n
