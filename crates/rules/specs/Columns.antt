-- "Every rule about an ID is read from this table": the table line by line as 01 prints it, 02's lines after it, and what its columns say of an ID as facts.
-- Parameter has the same cells by ID, for the definitions; demands 1 and 2 join the two, so that a slip in either is refused.
use Rattle.std.specs.Prelude.{◌≡◌, ◌⊎◌, List, [], ◌∷◌, ℕ, ◌+◌, ◌-◌, ◌*◌, ◌/◌, ◌%◌, ◌^◌, ◌≤◌, ◌<◌, ℤ, pos, negsuc, ◌≤ℤ◌}
use Rattle.rules.specs.Words.{Entry}
use Rattle.rules.specs.Parameter.{Extra, index, target, code_mask, min, max, step, Range, Values, numbers, if_in_mask, min_to_max}
use Rattle.rules.specs.Descriptor.{byte_at}

-- from one number to another, both included
infix 70 ◌⋯◌
abbrev pub ◌⋯◌ : ℤ → ℤ → Range
a ⋯ b = record { low = a; high = b }

-- the cells of a line; `least` is without A. The column of sides is said by 3 (Conditions).
pub record Cells : Type 0 where
  pub parts : ℕ
  pub width : ℕ
  pub needed : ℕ
  pub least : ℕ
  pub extras : List Extra
  pub steps : ℕ × ℕ
  pub values : Values

pub record Line : Type 0 where
  pub ids : List ℕ
  pub cells : Cells

abbrev pub line : List ℕ → ℕ → ℕ → ℕ → ℕ → List Extra → ℕ × ℕ → Values → Line
line i p w n l x t v = record { ids = i; cells = record { parts = p; width = w; needed = n; least = l; extras = x; steps = t; values = v } }

-- IDs; parts, bits a lane, bytes needed, least Length (+ A); extras; first and last step code
-- that is not reserved (0 alone where there is no step); accepted values (`negsuc 127` is −128)
abbrev pub lines : List Line
lines =
    line (0x02 ∷ 0x05 ∷ 0x06 ∷ []) 1 1 1 4 [] (0, 0) (numbers (pos 0 ⋯ pos 1 ∷ []))
    ∷ line (0x03 ∷ []) 1 2 2 4 [] (0, 0) (numbers (pos 0 ⋯ pos 2 ∷ []))
    ∷ line (0x04 ∷ []) 1 4 4 6 (code_mask ∷ []) (0, 0) (if_in_mask (pos 0 ⋯ pos 15 ∷ []))
    ∷ line (0x07 ∷ []) 2 4 8 7 (index ∷ code_mask ∷ []) (0, 0) (if_in_mask (pos 0 ⋯ pos 7 ∷ pos 11 ⋯ pos 15 ∷ []))
    ∷ line (0x08 ∷ []) 1 4 4 6 (code_mask ∷ []) (0, 0) (if_in_mask (pos 0 ⋯ pos 3 ∷ pos 15 ⋯ pos 15 ∷ []))
    ∷ line (0x0F ∷ 0x10 ∷ []) 1 8 8 4 [] (0, 0) (numbers (pos 0 ⋯ pos 255 ∷ []))
    ∷ line (0x11 ∷ []) 2 8 16 4 [] (0, 0) (numbers (negsuc 127 ⋯ pos 127 ∷ []))
    ∷ line (0x12 ∷ []) 1 8 8 6 (index ∷ step ∷ []) (0, 3) (numbers (negsuc 127 ⋯ pos 127 ∷ []))
    -- 02, note 1; 09h and 0Ah: 5.11, 5.12; 0Bh and 0Ch: 5.13, 5.14; 0Dh: 5.15; 0Eh: 5.16
    ∷ line (0x09 ∷ 0x0A ∷ []) 1 8 8 8 (target ∷ min ∷ max ∷ step ∷ []) (1, 4) min_to_max
    ∷ line (0x0B ∷ 0x0C ∷ []) 1 1 1 4 [] (0, 0) (numbers (pos 0 ⋯ pos 1 ∷ []))
    ∷ line (0x0D ∷ []) 1 8 8 8 (index ∷ max ∷ min ∷ step ∷ []) (0, 3) min_to_max
    ∷ line (0x0E ∷ []) 1 4 4 6 (code_mask ∷ []) (0, 0) (if_in_mask (pos 0 ⋯ pos 15 ∷ []))
    ∷ []

-- 00h "reserves space", 01h and 13h to FFh "are opaque: space, no fields"
abbrev pub Space : ℕ → Type 0
Space id = (id ≡ 0x00) ⊎ ((id ≡ 0x01) ⊎ (0x13 ≤ id))

abbrev pub Among : ℕ → List ℕ → Type 0
Among id [] = ⊥
Among id (x ∷ l) = (id ≡ x) ⊎ Among id l

-- something holds of the cells of a line that has the ID
abbrev pub SomeLine : List Line → ℕ → (Cells → Type 0) → Type 0
SomeLine [] id P = ⊥
SomeLine (l ∷ ls) id P = (Among id l.ids × P l.cells) ⊎ SomeLine ls id P

abbrev pub OfLine : ℕ → (Cells → Type 0) → Type 0
OfLine id P = SomeLine lines id P

-- an ID of the table
abbrev pub InTable : ℕ → Type 0
InTable id = OfLine id (λ c. Unit {0})

-- "accepted values": a number is in one of the ranges
abbrev pub InRanges : List Range → ℤ → Type 0
InRanges [] v = ⊥
InRanges (r ∷ l) v = ((r.low ≤ℤ v) × (v ≤ℤ r.high)) ⊎ InRanges l v

-- "value v is in it if bit v is 1"
abbrev pub InMask : ℕ → ℤ → Type 0
InMask mask (pos n) = mask / 2 ^ n % 2 ≡ 1
InMask mask (negsuc n) = ⊥

-- a byte of two's complement: 00h to 7Fh are 0 to 127, 80h to FFh are −128 to −1
abbrev pub SignedByte : ℕ → ℤ → Type 0
SignedByte n z = ((n < 128) × (z ≡ pos n)) ⊎ ((128 ≤ n) × (z ≡ negsuc (255 - n)))

abbrev pub Takes : Values → Entry → ℤ → Type 0
Takes (numbers l) e v = InRanges l v
Takes (if_in_mask l) e v = InRanges l v × InMask e.codes v
Takes min_to_max e v = (low : ℤ) × (high : ℤ) × SignedByte e.min low × SignedByte e.max high × (low ≤ℤ v) × (v ≤ℤ high)

-- an entry accepts a number; one whose ID has no line accepts none
abbrev pub Accepts : Entry → ℤ → Type 0
Accepts e v = OfLine e.id (λ c. Takes c.values e v)

-- a Length is "below the least", a MemoryLength "below the bytes needed"; "Both kinds have least Length 3 + A and need 0 bytes"
abbrev pub BelowLeast : ℕ → ℕ → ℕ → Type 0
BelowLeast a id size = OfLine id (λ c. size < c.least + a) ⊎ (Space id × (size < 3 + a))

abbrev pub BelowNeeded : ℕ → ℕ → Type 0
BelowNeeded id memory = OfLine id (λ c. memory < c.needed) ⊎ (Space id × (memory < 0))

-- "parts" and "bits a lane"
abbrev pub Shaped : ℕ → ℕ → ℕ → Type 0
Shaped id parts width = OfLine id (λ c. (parts ≡ c.parts) × (width ≡ c.width)) ⊎ (Space id × (parts ≡ 0))

-- "A field of 11h or 12h holds a two's complement number, any other an unsigned one."; 02, note 1: "A field with a signed range holds
-- a two's complement number, as 11h does."
abbrev pub signed_ids : List ℕ
signed_ids = 0x11 ∷ 0x12 ∷ 0x09 ∷ 0x0A ∷ 0x0D ∷ []

abbrev pub TwosComplement : ℕ → Type 0
TwosComplement id = Among id signed_ids

-- what an entry says of its extras is what a string says from a place on: "A code mask is 2 bytes, high byte first"
abbrev pub ExtrasAt : List Extra → List ℕ → ℕ → Entry → Type 0
ExtrasAt [] s at e = Unit {0}
ExtrasAt (index ∷ l) s at e = ExtrasAt l s (at + 1) e
ExtrasAt (target ∷ l) s at e = ExtrasAt l s (at + 1) e
ExtrasAt (code_mask ∷ l) s at e = (e.codes ≡ byte_at s at * 256 + byte_at s (at + 1)) × ExtrasAt l s (at + 2) e
ExtrasAt (min ∷ l) s at e = (e.min ≡ byte_at s at) × ExtrasAt l s (at + 1) e
ExtrasAt (max ∷ l) s at e = (e.max ≡ byte_at s at) × ExtrasAt l s (at + 1) e
ExtrasAt (step ∷ l) s at e = (e.step ≡ byte_at s at) × ExtrasAt l s (at + 1) e

-- "step above 3", "a reserved step code": of extras that a string has from a place on, with the first and the last code that is not
abbrev pub ReservedStep : ℕ × ℕ → List Extra → List ℕ → ℕ → Type 0
ReservedStep t [] s at = ⊥
ReservedStep t (index ∷ l) s at = ReservedStep t l s (at + 1)
ReservedStep t (target ∷ l) s at = ReservedStep t l s (at + 1)
ReservedStep t (code_mask ∷ l) s at = ReservedStep t l s (at + 2)
ReservedStep t (min ∷ l) s at = ReservedStep t l s (at + 1)
ReservedStep t (max ∷ l) s at = ReservedStep t l s (at + 1)
ReservedStep t (step ∷ l) s at = (byte_at s at < t.0) ⊎ (t.1 < byte_at s at)

-- "PropertyFlags, 1 byte; then the extras named in the table", for an entry of a string with masks of a bytes
abbrev pub ExtrasRead : ℕ → List ℕ → Entry → Type 0
ExtrasRead a s e = OfLine e.id (λ c. ExtrasAt c.extras s (e.start + 4 + a) e) ⊎ Space e.id
