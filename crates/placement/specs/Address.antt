-- What the functions over the lines of Table 4-1 give: the rules' line, address and offset.
use Rattle.std.specs.Prelude.{Bool, ◌&&◌, Option, Some, None, cond, ℕ, length, ltb, leb, eqb}
use Rattle.rules.specs.Address.{Range as TableRange, line_of, addresses, address_of, offset_of}
use Rattle.placement.specs.declared.address.Bytes.{Bytes}
use Rattle.placement.specs.declared.address.Line.{Line}
use Rattle.placement.specs.declared.address.Address.{Address}

abbrev pub range_is : TableRange → Bytes
range_is r = record { page = r.page; first = r.first; last = r.last }

abbrev pub row_as : ℕ → ℕ → ℕ → ℕ → ℕ → ℕ → Line
row_as p f l p' f' l' = record { main = record { page = p; first = f; last = l }; overflow = record { page = p'; first = f'; last = l' } }

abbrev pub line_is : ℕ → Line
line_is s = record { main = range_is (line_of s).main; overflow = range_is (line_of s).overflow }

-- an address is one of the bytes of a range
abbrev pub is_inside : Bytes → ℕ → ℕ → Bool
is_inside r page byte = eqb page r.page && (leb r.first byte && leb byte r.last)

-- none past the last byte that the table gives the set
unfoldable pub address_is : ℕ → ℕ → Option Address
address_is s k = cond (ltb k (length (addresses s))) (Some (record { page = (address_of s k).page; byte = (address_of s k).byte })) None

-- none where the table doesn't give the address to the set
unfoldable pub offset_is : ℕ → ℕ → ℕ → Option ℕ
offset_is s page byte = cond (ltb (offset_of s page byte) (length (addresses s))) (Some (offset_of s page byte)) None
