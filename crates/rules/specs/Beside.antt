-- "Beside demand 3": place, owner, the entry call with the call beside it, and weight. None of them writes a byte. Each is said of what
-- is read of the strings.
use Rattle.std.specs.Prelude.{Bool, ◌&&◌, not, cond, List, [], ◌∷◌, ℕ, suc, ◌+◌, length, take, drop, ltb, leb, eqb, Result, Err}
use Rattle.rules.specs.Words.{plain, Entry, read, the_field, Answer, says_yes, number, Placed, placed_at, Owned, owned_by, no_owner, Refusal}
use Rattle.rules.specs.Load.{Map, Reading, read_of}
use Rattle.rules.specs.Place.{entry, is_set, is_rw, is_lane, length_of, field_byte, field_bit, Owner, field, gap, owner_of}
use Rattle.rules.specs.Accept.{weight_of}
use Rattle.rules.specs.Refuse.{Verdict, passes, refuses, refuse_if, order_of, bank_order, judge}
use Rattle.rules.specs.Bank.{Bank, number_in}
use Rattle.rules.specs.Address.{addresses, address_of, offset_of}

-- "place (set, entry, part, lane) answers byte and lowest bit"; 02, note 2: "page, byte and lowest bit beside the offset". Refused as read is
abbrev pub placed_in : ℕ → ℕ → ℕ → Result Placed Refusal
placed_in s k q = placed_at k (address_of s k).page (address_of s k).byte q

abbrev pub placed : Verdict → Result Placed Refusal → Result Placed Refusal
placed passes x = x
placed (refuses r) x = Err r

abbrev pub place_on : Reading → ℕ → ℕ → ℕ → ℕ → Result Placed Refusal
place_on r s e p i =
    placed (order_of r (judge r.map (read s (the_field e p i)))) (placed_in s (field_byte (entry r.map e) p i) (field_bit (entry r.map e) i))

unfoldable pub place_of : ℕ → List ℕ → List ℕ → ℕ → ℕ → ℕ → ℕ → Result Placed Refusal
place_of count rw ro s e p i = place_on (read_of count rw ro) s e p i

-- an entry's space, from offset up to offset + MemoryLength, not included; 02, note 12: "An entry with MemoryLength 0 covers no byte"
abbrev pub spans : Entry → ℕ → Bool
spans e k = leb e.offset k && ltb k (e.offset + e.memory)

-- "it shall look through the entries in order and stop at the one whose space covers the byte": its index; the list's length where none does
unfoldable pub cover_index : List Entry → ℕ → ℕ
cover_index [] k = 0
cover_index (e ∷ l) k = cond (spans e k) 0 (suc (cover_index l k))

-- "the number of entries looked at, equal to that entry's number plus one"
abbrev pub looked_at : Map → ℕ → ℕ
looked_at m k = suc (cover_index m.entries k)

-- "owner (set, offset, bit 0 to 7) answers entry, part and lane, or gap"; 02, note 12: it "also carries the number of entries looked at".
-- 10: a set, offset or bit that doesn't exist
abbrev pub owned_as : ℕ → Owner → Result Owned Refusal
owned_as n (field e p i) = owned_by e p i n
owned_as n gap = no_owner n

abbrev pub owned : Verdict → Result Owned Refusal → Result Owned Refusal
owned passes x = x
owned (refuses r) x = Err r

abbrev pub is_bit : Map → ℕ → ℕ → ℕ → Bool
is_bit m s k q = is_set s && (ltb k (length_of m s) && ltb q 8)

abbrev pub owner_if : Bool → Reading → ℕ → ℕ → ℕ → Result Owned Refusal
owner_if there r s k q = owned (order_of r (refuse_if (not there) (plain 10) ∷ [])) (owned_as (looked_at r.map k) (owner_of r.map s k q))

abbrev pub owner_on : Reading → ℕ → ℕ → ℕ → Result Owned Refusal
owner_on r s k q = owner_if (is_bit r.map s k q) r s k q

unfoldable pub owner_call : ℕ → List ℕ → List ℕ → ℕ → ℕ → ℕ → Result Owned Refusal
owner_call count rw ro s k q = owner_on (read_of count rw ro) s k q

-- 02, note 2: "Owner accepts either form, and an address outside its set is refusal 10.": an offset, or a page and a byte that stand for one
abbrev pub is_bit_at : Map → ℕ → ℕ → ℕ → ℕ → Bool
is_bit_at m s page byte q = ltb (offset_of s page byte) (length (addresses s)) && is_bit m s (offset_of s page byte) q

abbrev pub owner_at_on : Reading → ℕ → ℕ → ℕ → ℕ → Result Owned Refusal
owner_at_on r s page byte q = owner_if (is_bit_at r.map s page byte q) r s (offset_of s page byte) q

unfoldable pub owner_at_call : ℕ → List ℕ → List ℕ → ℕ → ℕ → ℕ → ℕ → Result Owned Refusal
owner_at_call count rw ro s page byte q = owner_at_on (read_of count rw ro) s page byte q

-- the entry call; 10: an entry that doesn't exist
unfoldable pub entry_verdict : Reading → ℕ → Verdict
entry_verdict r e = order_of r (refuse_if (not (ltb e (length r.map.entries))) (plain 10) ∷ [])

abbrev pub answered : Verdict → Result Answer Refusal → Result Answer Refusal
answered passes x = x
answered (refuses r) x = Err r

-- "a call beside it gives the number"
abbrev pub entry_answer_on : Reading → ℕ → Result Answer Refusal
entry_answer_on r e = answered (entry_verdict r e) says_yes

unfoldable pub entry_answer : ℕ → List ℕ → List ℕ → ℕ → Result Answer Refusal
entry_answer count rw ro e = entry_answer_on (read_of count rw ro) e

-- "hands back that entry's own bytes, as a part of the lent string (refused: an empty part ..)"
abbrev pub own_bytes : List ℕ → Entry → List ℕ
own_bytes s e = take e.length (drop e.start s)

abbrev pub part_or : Verdict → List ℕ → List ℕ
part_or passes l = l
part_or (refuses r) l = []

abbrev pub entry_bytes_on : Reading → List ℕ → List ℕ → ℕ → List ℕ
entry_bytes_on r rw ro e = part_or (entry_verdict r e) (own_bytes (cond (is_rw r.map e) rw ro) (entry r.map e))

unfoldable pub entry_bytes : ℕ → List ℕ → List ℕ → ℕ → List ℕ
entry_bytes count rw ro e = entry_bytes_on (read_of count rw ro) rw ro e

-- "weight (12h entry, lane) answers the active number times 10, 20, 25 or 40 for step 0 to 3, in thousandths";
-- 10: an entry or lane that doesn't exist, "weight of other than 12h"
abbrev pub is_weighed : Map → ℕ → ℕ → Bool
is_weighed m e i = ltb e (length m.entries) && (eqb (entry m e).id 0x12 && is_lane i)

abbrev pub weight_on : Reading → Bank → ℕ → ℕ → Result Answer Refusal
weight_on r b e i =
    answered
    (bank_order r (length b) (refuse_if (not (is_weighed r.map e i)) (plain 10) ∷ []))
    (number (weight_of (entry r.map e).step (number_in r.map b 2 e 0 i)))

unfoldable pub weight_call : ℕ → List ℕ → List ℕ → Bank → ℕ → ℕ → Result Answer Refusal
weight_call count rw ro b e i = weight_on (read_of count rw ro) b e i
