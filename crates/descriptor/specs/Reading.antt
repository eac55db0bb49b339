-- An RW entry by its place: what apply needs of it, by any rows lent; and what its fields accept, as far as apply judges it.
use Rattle.std.specs.Prelude.{Bool, false, ◌&&◌, ◌||◌, cond, List, ℕ, ◌+◌, pos, ltb, leb, eqb, length, get_or, Result, Ok, Err}
use Rattle.std.specs.Int.Bits.{bit_and}
use Rattle.rules.specs.declared.Refusal.{Refusal}
use Rattle.rules.specs.declared.Refusal.TheVariants.{Plain as plain}
use Rattle.rules.specs.declared.Entry.{Entry}
use Rattle.rules.specs.Descriptor.{mask_bytes, entry_at}
use Rattle.rules.specs.Place.{nothing, width_of}
use Rattle.rules.specs.Parameter.{Values, numbers, if_in_mask, min_to_max, row_of}
use Rattle.descriptor.specs.declared.table.Row.{Row}
use Rattle.descriptor.specs.declared.Fields.{Fields}
use Rattle.descriptor.specs.declared.Named.{Named}
use Rattle.descriptor.specs.declared.Read.{Read}
use Rattle.descriptor.specs.declared.Range.{Range}
use Rattle.descriptor.specs.Rows.{space, no_row}
use Rattle.descriptor.specs.Decode.{length_at}
use Rattle.descriptor.specs.Find.{named_of, code_bits, low_of, high_of}

-- the class of an ID, and the row of its class. An ID behind the classes has class 0, a class behind the rows has no fields
unfoldable pub class_by : List ℕ → ℕ → ℕ
class_by classes id = cond (ltb id 19) (get_or classes id 0) 0

unfoldable pub row_by : List ℕ → List Row → ℕ → Row
row_by classes rows id = cond (ltb (class_by classes id) 11) (get_or rows (class_by classes id) no_row) space

-- where the fields of an entry lie, by its row and its offset
abbrev pub spaced_by : Row → ℕ → Fields
spaced_by r sum = record { offset = sum; parts = r.parts; width = r.width }

-- what a call needs of an entry, its fields' parts and bits a lane as a row says
abbrev pub shaped : Row → Named → Named
shaped r f =
    record {
      ro = f.ro;
      id = f.id;
      fields = spaced_by r f.fields.offset;
      signed = f.signed;
      accepted = f.accepted;
      step = f.step;
    }

-- what apply needs of an entry, and where the next one begins, in the string and in a set
abbrev pub read_of : List ℕ → List Row → Entry → Read
read_of classes rows e =
    record {
      mask = e.mask;
      named = shaped (row_by classes rows e.id) (named_of false e);
      next = record { at = e.start + e.length; sum = e.offset + e.memory };
    }

-- a place at which an entry can stand (`Marks.OnEntry`): its first bytes up to MemoryLength are in the string, of at most 120 bytes, and
-- its space begins in a set, of at most 256
abbrev pub can_stand : ℕ → List ℕ → ℕ → ℕ → Bool
can_stand a s start offset = (leb start 120 && leb offset 256) && ltb (start + 2 + a) (length s)

-- the entry at a place, as its bytes say; where none can stand, an entry of no bytes, behind which the place is the same
unfoldable pub read_by : List ℕ → List Row → ℕ → List ℕ → ℕ → ℕ → Read
read_by classes rows count s start offset =
    cond (can_stand (mask_bytes count) s start offset)
    (read_of classes rows (entry_at (mask_bytes count) s start offset))
    (record { mask = 0; named = named_of false nothing; next = record { at = start; sum = offset } })

-- whether fields have 2 or 4 bits a lane
abbrev pub has_patterns : ℕ → Bool
has_patterns w = eqb w 2 || eqb w 4

-- the accepted patterns of an entry with such fields, a bit for each: the codes of the table that are in its mask, or the numbers of the
-- table
abbrev pub patterns_in : Values → Entry → ℕ
patterns_in (numbers l) e = code_bits l
patterns_in (if_in_mask l) e = bit_and (code_bits l) e.codes
patterns_in min_to_max e = 0

unfoldable pub patterns_of : Entry → ℕ
patterns_of e = cond (has_patterns (width_of e)) (patterns_in (row_of e.id).values e) 0

-- of the entry at a place
unfoldable pub patterns_by : ℕ → List ℕ → ℕ → ℕ
patterns_by count s start = cond (leb start 120) (patterns_of (entry_at (mask_bytes count) s start 0)) 0

-- Min and Max of the entry at a place; of an entry without, the lowest and the highest number of the table
unfoldable pub range_by : ℕ → List ℕ → ℕ → Range
range_by count s start =
    let e : Entry = entry_at (mask_bytes count) s start 0 in
    cond (leb start 120)
    (record { low = low_of (row_of e.id).values e; high = high_of (row_of e.id).values e })
    (record { low = pos 0; high = pos 0 })

-- its Length, or 1 or 2; 1 past the end
abbrev pub lengthed : Result ℕ ℕ → Result ℕ Refusal
lengthed (Ok n) = Ok n
lengthed (Err n) = Err (plain n)

unfoldable pub length_by : ℕ → List ℕ → ℕ → Result ℕ Refusal
length_by count s start = cond (ltb start (length s)) (lengthed (length_at (mask_bytes count) s start)) (Err (plain 1))
