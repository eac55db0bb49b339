-- "What a module advertises": the bytes of one entry; and "Refusals": the checks of one entry, 16 and 1 to 7, in their order.
use Rattle.std.specs.Prelude.{Bool, true, false, ◌&&◌, ◌||◌, not, cond, List, [], ◌∷◌, ℕ, zero, suc, ◌+◌, ◌-◌, ◌*◌, ◌%◌, length, get_or, ltb, leb, eqb, Result, Ok, Err}
use Rattle.rules.specs.Words.{Entry, State}
use Rattle.rules.specs.Numbers.{bit_of}
use Rattle.rules.specs.Parameter.{Side, RW, RO, both, Extra, index, target, code_mask, min, max, step, row_of}

-- "A, the bytes of an application mask, is 1 for a count of 1 to 8 and 2 above."
unfoldable pub mask_bytes : ℕ → ℕ
mask_bytes count = cond (leb count 8) 1 2

-- an AppSel that names an application
abbrev pub is_app : ℕ → ℕ → Bool
is_app count a = leb 1 a && leb a count

-- "Bit n of the mask means AppSel n + 1; bits above the count are ignored"
abbrev pub has_app : ℕ → ℕ → ℕ → Bool
has_app count mask a = is_app count a && bit_of mask (a - 1)

abbrev pub byte_at : List ℕ → ℕ → ℕ
byte_at s i = get_or s i 0

-- n bytes from a place on as one number, "high byte first"
unfoldable pub high_first : List ℕ → ℕ → ℕ → ℕ
high_first s at zero = 0
high_first s at (suc n) = high_first s at n * 256 + byte_at s (at + n)

-- an extra's bytes: "A code mask is 2 bytes"
abbrev pub size_of : Extra → ℕ
size_of code_mask = 2
size_of index = 1
size_of target = 1
size_of min = 1
size_of max = 1
size_of step = 1

-- the place of an extra that is read: an ID without it, or so many bytes past PropertyFlags
pub data Position : Type 0 where
  absent : Position
  after : ℕ → Position

abbrev pub further : ℕ → Position → Position
further n absent = absent
further n (after k) = after (n + k)

-- the extras, told apart by a number
abbrev pub kind : Extra → ℕ
kind index = 0
kind target = 1
kind code_mask = 2
kind min = 3
kind max = 4
kind step = 5

abbrev pub same : Extra → Extra → Bool
same x y = eqb (kind x) (kind y)

-- "then the extras named in the table", one after the other
abbrev pub position_of : Extra → List Extra → Position
position_of x [] = absent
position_of x (y ∷ l) = cond (same x y) (after 0) (further (size_of y) (position_of x l))

-- what stands there, from PropertyFlags' next byte on: a code mask ("2 bytes, high byte first"), and any other extra; 0 where there is none
unfoldable pub codes_of : Position → List ℕ → ℕ → ℕ
codes_of absent s at = 0
codes_of (after n) s at = high_first s (at + n) 2

unfoldable pub byte_of : Position → List ℕ → ℕ → ℕ
byte_of absent s at = 0
byte_of (after n) s at = byte_at s (at + n)

-- "for the IDs of the table, PropertyFlags, 1 byte"; the others' "flags are not read". "Bit 0 set means media side"
abbrev pub media_side : Bool → ℕ → Bool
media_side read flags = read && eqb (flags % 2) 1

-- "An entry is: ID, 1 byte; Length, 1 byte, counting the whole entry; application mask, A bytes, high byte first; MemoryLength,
-- 1 byte; for the IDs of the table, PropertyFlags, 1 byte; then the extras named in the table": the one at a place of a string
-- with masks of a bytes, its offset given
abbrev pub entry_at : ℕ → List ℕ → ℕ → ℕ → Entry
entry_at a s at offset =
    record {
      id = byte_at s at;
      start = at;
      length = byte_at s (at + 1);
      mask = high_first s (at + 2) a;
      memory = byte_at s (at + 2 + a);
      media = media_side (row_of (byte_at s at)).flags (byte_at s (at + 3 + a));
      codes = codes_of (position_of code_mask (row_of (byte_at s at)).extras) s (at + 4 + a);
      min = byte_of (position_of min (row_of (byte_at s at)).extras) s (at + 4 + a);
      max = byte_of (position_of max (row_of (byte_at s at)).extras) s (at + 4 + a);
      step = byte_of (position_of step (row_of (byte_at s at)).extras) s (at + 4 + a);
      offset = offset;
    }

-- whether an ID of a side may stand in a string: the test is true in the RO string
abbrev pub may_stand : Side → Bool → Bool
may_stand RW ro = not ro
may_stand RO ro = ro
may_stand both ro = true

-- 1: "one byte left, or Length exceeds the bytes left, both counted from the entry's ID on"
abbrev pub overruns : ℕ → Entry → Bool
overruns left e = eqb left 1 || ltb left e.length

-- 6: "an ID of 02h to 08h, host side, after a media-side table entry of the RW string" (in the RO string such an ID fails 3); 02, note 1:
-- 09h to 0Eh "only as the earlier media-side entry"
abbrev pub late_host : Entry → Bool → Bool
late_host e passed = leb 2 e.id && (leb e.id 8 && (not e.media && passed))

-- a check: its number if the entry fails it, else what follows
unfoldable pub refuse : Bool → ℕ → Result Entry ℕ → Result Entry ℕ
refuse true n d = Err n
refuse false n d = d

-- "Within an entry, in this order": 1, and 2, "Length below the least"; `left` is the number of bytes left
unfoldable pub length_checks : ℕ → ℕ → Entry → Result Entry ℕ → Result Entry ℕ
length_checks a left e rest =
    refuse (overruns left e) 1
    (refuse (ltb e.length ((row_of e.id).least + a)) 2
    rest)

-- 5: "step above 3"; 02, note 1: "a reserved step code"
abbrev pub reserved : ℕ × ℕ → ℕ → Bool
reserved steps n = ltb n steps.0 || ltb steps.1 n

-- 3: "ID in the wrong string"; 4: "MemoryLength below the bytes needed"; 5; 6; 7: "the sum of MemoryLengths passes 256"
unfoldable pub content_checks : State → Entry → Result Entry ℕ
content_checks st e =
    refuse (not (may_stand (row_of e.id).side st.ro)) 3
    (refuse (ltb e.memory (row_of e.id).needed) 4
    (refuse (reserved (row_of e.id).steps e.step) 5
    (refuse (late_host e st.media) 6
    (refuse (ltb 256 (st.sum + e.memory)) 7
    (Ok e)))))

-- how many entries a string may have: any number, as 01 has it, or at most a given one
pub data Limit : Type 0 where
  unlimited : Limit
  up_to : ℕ → Limit

-- 02, note 7: "In all modules delivered so far the longest string has 16 entries. That becomes the limit for each string"
abbrev pub entry_limit : ℕ
entry_limit = 16

abbrev pub limited : Limit
limited = up_to entry_limit

-- 16: "a 17th entry", before which as many as the limit stand in its string
abbrev pub full : Limit → State → Bool
full unlimited st = false
full (up_to n) st = leb n st.entries

-- one entry: what stands at a place of a string, for a walk that keeps a state; 16 is "given before the other checks of that entry"
unfoldable pub decode_within : Limit → ℕ → List ℕ → ℕ → State → Result Entry ℕ
decode_within limit a s at st =
    refuse (full limit st) 16
    (length_checks a (length s - at) (entry_at a s at st.sum)
    (content_checks st (entry_at a s at st.sum)))

abbrev pub decode_at : ℕ → List ℕ → ℕ → State → Result Entry ℕ
decode_at = decode_within limited
