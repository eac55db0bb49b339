-- 02, note 2, "Register addresses": the page and byte of an offset, for each set, from Table 4-1 of the agreement ("CMIS base Control
-- Set Memory Map") "with its overflow pages".
use Rattle.std.specs.Prelude.{◌≡◌, ◌⊎◌, ◌&&◌, cond, List, [], ◌∷◌, ◌++◌, ℕ, zero, suc, ◌+◌, ◌-◌, ◌≤◌, get_or, eqb}

-- an address: a byte of a page
pub record Address : Type 0 where
  pub page : ℕ
  pub byte : ℕ

-- bytes of a page, from the first to the last
pub record Range : Type 0 where
  pub page : ℕ
  pub first : ℕ
  pub last : ℕ

abbrev pub range : ℕ → ℕ → ℕ → Range
range p f l = record { page = p; first = f; last = l }

-- a line of the table: "Page", "Bytes", "Overflow Page", "Overflow Page Bytes"
pub record Line : Type 0 where
  pub main : Range
  pub overflow : Range

abbrev pub line : ℕ → ℕ → ℕ → ℕ → ℕ → ℕ → Line
line p f l p' f' l' = record { main = range p f l; overflow = range p' f' l' }

-- Table 4-1, by set: "Staged Control Set 0", "Staged Control Set 1", "Active Control Set"
unfoldable pub line_of : ℕ → Line
line_of zero = line 0x10 153 175 0x18 144 199
line_of (suc zero) = line 0x10 188 210 0x18 200 255
line_of (suc (suc s)) = line 0x11 214 234 0x19 152 207

-- so many bytes of a page, from one on
unfoldable pub bytes_from : ℕ → ℕ → ℕ → List Address
bytes_from page byte zero = []
bytes_from page byte (suc n) = record { page = page; byte = byte } ∷ bytes_from page (suc byte) n

abbrev pub size_of : Range → ℕ
size_of r = suc r.last - r.first

abbrev pub bytes_of : Range → List Address
bytes_of r = bytes_from r.page r.first (size_of r)

-- the bytes that the table gives a set, in order: the space in page 10h or 11h "must be filled first before moving on to the overflow
-- pages" (4.4)
abbrev pub addresses_in : Line → List Address
addresses_in l = bytes_of l.main ++ bytes_of l.overflow

-- the address at an index; "An offset past the last byte that the table gives its set has no address: place answers page 0 and byte 0."
abbrev pub address_in : Line → ℕ → Address
address_in l k = get_or (addresses_in l) k (record { page = 0; byte = 0 })

-- the index of an address; the list's length where it isn't there
unfoldable pub index_of : List Address → ℕ → ℕ → ℕ
index_of [] page byte = 0
index_of (a ∷ l) page byte = cond (eqb a.page page && eqb a.byte byte) 0 (suc (index_of l page byte))

-- of a set: its bytes, the address of an offset, and the offset of an address
abbrev pub addresses : ℕ → List Address
addresses s = addresses_in (line_of s)

unfoldable pub address_of : ℕ → ℕ → Address
address_of s k = address_in (line_of s) k

unfoldable pub offset_of : ℕ → ℕ → ℕ → ℕ
offset_of s page byte = index_of (addresses s) page byte

-- The table again, as facts, with the offsets that its bytes are. An address lies in a range whose first byte is offset `from`: offset k is as far
-- behind `from` as the byte is behind the range's first
abbrev pub Lies : Range → ℕ → ℕ → ℕ → ℕ → Type 0
Lies r from k page byte = (page ≡ r.page) × (r.first ≤ byte) × (byte ≤ r.last) × (k + r.first ≡ from + byte)

-- offset k of a set has the address: of a staged set the offsets 0 to 22 and 23 to 78, of the active set 0 to 20 and 21 to 76
abbrev pub HasAddress : ℕ → ℕ → ℕ → ℕ → Type 0
HasAddress zero k page byte = Lies (range 0x10 153 175) 0 k page byte ⊎ Lies (range 0x18 144 199) 23 k page byte
HasAddress (suc zero) k page byte = Lies (range 0x10 188 210) 0 k page byte ⊎ Lies (range 0x18 200 255) 23 k page byte
HasAddress (suc (suc zero)) k page byte = Lies (range 0x11 214 234) 0 k page byte ⊎ Lies (range 0x19 152 207) 21 k page byte
HasAddress (suc (suc (suc s))) k page byte = ⊥
