-- The constant rows as lists, and what the fields of an ID hold by the table.
use Rattle.std.specs.Prelude.{Bool, true, false, cond, List, [], ◌∷◌, ℕ, ◌+◌, get_or, Option, None, Some}
use Rattle.rules.specs.Parameter.{Extra, code_mask, min, max, step, Values as Column, numbers, if_in_mask, min_to_max, row_of}
use Rattle.rules.specs.Descriptor.{Position, absent, after, position_of}
use Rattle.descriptor.specs.declared.table.Side.{Side}
use Rattle.descriptor.specs.declared.table.Side.TheVariants.{Rw as of_rw, Ro as of_ro, Both as of_both}
use Rattle.descriptor.specs.declared.table.Row.{Row}
use Rattle.descriptor.specs.declared.table.Values.{Values}
use Rattle.descriptor.specs.declared.table.Values.TheVariants.{UpTo as up_to, SignedByte as every_byte, Codes as codes_in, MinToMax as between, Stepped as with_step}
use Rattle.descriptor.specs.Find.{highest, code_bits}

abbrev pub classes : List ℕ
classes = 0 ∷ 1 ∷ 2 ∷ 3 ∷ 4 ∷ 2 ∷ 2 ∷ 5 ∷ 4 ∷ 6 ∷ 6 ∷ 2 ∷ 2 ∷ 7 ∷ 4 ∷ 8 ∷ 8 ∷ 9 ∷ 10 ∷ []

abbrev row : ℕ → ℕ → Side → Option ℕ → ℕ → ℕ → Row
row least needed side last parts width = record { least = least; needed = needed; side = side; last_step = last; parts = parts; width = width }

-- of no class
abbrev pub no_row : Row
no_row = row 0 0 of_rw None 0 0

-- the first one: 00h, and every ID that no other has
abbrev pub space : Row
space = row 3 0 of_both None 0 0

-- least Length, bytes needed, side, last step code, parts, bits a lane
abbrev pub rows : List Row
rows =
    space
    ∷ row 3 0 of_rw None 0 0
    ∷ row 4 1 of_rw None 1 1
    ∷ row 4 2 of_rw None 1 2
    ∷ row 6 4 of_rw None 1 4
    ∷ row 7 8 of_rw None 2 4
    ∷ row 8 8 of_rw (Some 4) 1 8
    ∷ row 8 8 of_rw (Some 3) 1 8
    ∷ row 4 8 of_rw None 1 8
    ∷ row 4 16 of_ro None 2 8
    ∷ row 6 8 of_ro (Some 3) 1 8
    ∷ []

-- the class of an ID
unfoldable pub class_of : ℕ → ℕ
class_of id = get_or classes id 0

-- the row of an ID
abbrev pub row_at : ℕ → Row
row_at id = get_or rows (class_of id) no_row

-- an extra's place in an entry (+ A): PropertyFlags stand at 3
abbrev pub place_number : Position → ℕ
place_number absent = 0
place_number (after n) = 4 + n

abbrev pub place_in : Extra → List Extra → ℕ
place_in x l = place_number (position_of x l)

-- every number of a signed byte, with the place of a step where there is one
abbrev pub byte_by : Position → Values
byte_by absent = every_byte
byte_by (after n) = with_step (place_number (after n))

-- by the column of accepted values; no signed number has another range than a byte's (`Wides`)
abbrev pub values_in : Bool → Column → List Extra → Values
values_in s (numbers l) x = cond s (byte_by (position_of step x)) (up_to (highest l))
values_in s (if_in_mask l) x = codes_in (place_in code_mask x) (code_bits l)
values_in s min_to_max x = between (place_in min x) (place_in max x)

-- what the fields of an ID hold, by the table
unfoldable pub values_of : ℕ → Values
values_of id = values_in (row_of id).signed (row_of id).values (row_of id).extras

-- whether they are numbers in two's complement
abbrev pub are_signed : Values → Bool
are_signed (up_to n) = false
are_signed every_byte = true
are_signed (codes_in p l) = false
are_signed (between p q) = true
are_signed (with_step p) = true

-- whether an entry's Min and Max say what its fields accept
abbrev pub is_limited : Column → Bool
is_limited (numbers l) = false
is_limited (if_in_mask l) = false
is_limited min_to_max = true
