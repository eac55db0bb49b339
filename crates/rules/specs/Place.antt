-- "Where a field lies": the fields of a map, their places, and the owner of a bit.
use Rattle.std.specs.Prelude.{◌≡◌, Bool, false, ◌&&◌, cond, ℕ, zero, suc, ◌+◌, ◌-◌, ◌*◌, ◌/◌, ◌%◌, ◌≤◌, ◌<◌, length, get_or, ltb, leb, eqb}
use Rattle.rules.specs.Words.{Entry}
use Rattle.rules.specs.Parameter.{row_of}
use Rattle.rules.specs.Load.{Map}
use Rattle.rules.specs.Layout.{HasBytes, has_bytes}

-- what stands past the last entry: an entry without fields
abbrev pub nothing : Entry
nothing = record { id = 0; start = 0; length = 0; mask = 0; memory = 0; media = false; codes = 0; min = 0; max = 0; step = 0; offset = 0 }

abbrev pub entry : Map → ℕ → Entry
entry m e = get_or m.entries e nothing

-- the parts of an entry
unfoldable pub parts_of : Entry → ℕ
parts_of e = (row_of e.id).parts

-- "W is the bits a lane."
unfoldable pub width_of : Entry → ℕ
width_of e = (row_of e.id).width

-- W divides 8: so many lanes fill a byte
pub record Width (w : ℕ) : Type 0 where
  pub lanes : ℕ
  pub fills : lanes * w ≡ 8

-- "A field of 11h or 12h holds a two's complement number, any other an unsigned one."; 02, note 1: and one "with a signed range"
unfoldable pub signed_of : Entry → Bool
signed_of e = (row_of e.id).signed

-- the sets that a call may name: 0 and 1 are staged, 2 is active
abbrev pub is_set : ℕ → Bool
is_set s = ltb s 3

abbrev pub is_staged : ℕ → Bool
is_staged s = ltb s 2

abbrev pub is_rw : Map → ℕ → Bool
is_rw m e = ltb e m.rw_count

-- the entries that a set holds, "staged: RW only", and its length
unfoldable pub held_by : Map → ℕ → ℕ
held_by m s = cond (is_staged s) m.rw_count (length m.entries)

unfoldable pub length_of : Map → ℕ → ℕ
length_of m s = cond (is_staged s) m.staged m.active

-- "lane i, 1 to 8"
abbrev pub is_lane : ℕ → Bool
is_lane i = leb 1 i && leb i 8

-- entry e has a field of part p and lane i
abbrev pub has_field : Map → ℕ → ℕ → ℕ → Bool
has_field m e p i = ltb e (length m.entries) && (ltb p (parts_of (entry m e)) && is_lane i)

-- "each set, entry, part and lane that the set holds"
abbrev pub holds : Map → ℕ → ℕ → ℕ → ℕ → Bool
holds m s e p i = has_bytes s && (ltb e (held_by m s) && (ltb p (parts_of (entry m e)) && is_lane i))

-- set s holds the field of entry e, part p and lane i: what the test `holds` says
pub record Field (m : Map) (s e p i : ℕ) : Type 0 where
  pub set : HasBytes s
  pub ent : e < held_by m s
  pub part : p < parts_of (entry m e)
  pub low : 1 ≤ i
  pub top : i ≤ 8

-- "For lane i, 1 to 8, let b = (i − 1) × W": the lane's first bit in its part, in byte b div 8, at bit b mod 8 there
abbrev pub lane_start : ℕ → ℕ → ℕ
lane_start w i = (i - 1) * w

abbrev pub lane_byte : ℕ → ℕ → ℕ
lane_byte w i = lane_start w i / 8

abbrev pub lane_bit : ℕ → ℕ → ℕ
lane_bit w i = lane_start w i % 8

-- "Part p starts at offset + p × W": a field's byte in its set, and its lowest bit in that byte
abbrev pub field_byte : Entry → ℕ → ℕ → ℕ
field_byte e p i = e.offset + p * width_of e + lane_byte (width_of e) i

abbrev pub field_bit : Entry → ℕ → ℕ
field_bit e i = lane_bit (width_of e) i

-- "the field is the W bits from bit b mod 8 of byte start + b div 8": it covers bit q of byte k
abbrev pub covers : Entry → ℕ → ℕ → ℕ → ℕ → Bool
covers e p i k q = eqb (field_byte e p i) k && (leb (field_bit e i) q && ltb q (field_bit e i + width_of e))

-- whose a bit is: the field's of an entry, part and lane, or nobody's
pub data Owner : Type 0 where
  field : ℕ → ℕ → ℕ → Owner
  gap : Owner

-- the first of f 0 .. f (n - 1) that is no gap
abbrev pub or_else : Owner → Owner → Owner
or_else gap y = y
or_else (field e p i) y = field e p i

unfoldable pub first_owner : ℕ → (ℕ → Owner) → Owner
first_owner zero f = gap
first_owner (suc n) f = or_else (first_owner n f) (f n)

-- the owner of bit q of byte k: the field that covers it. "All bits in no field, surplus MemoryLength included, are gaps."
unfoldable pub owner_of : Map → ℕ → ℕ → ℕ → Owner
owner_of m s k q =
    first_owner (held_by m s) λ e.
    first_owner (parts_of (entry m e)) λ p.
    first_owner 8 λ j.
    cond (covers (entry m e) p (suc j) k q) (field e p (suc j)) gap
