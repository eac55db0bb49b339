-- The statements: the three demands and the twelve settings. proofs/Demands.antt proves each.
use Rattle.std.specs.Prelude.{◌≡◌, ◌↔◌, true, false, ◌||◌, cond, List, [], ◌∷◌, ◌++◌, ℕ, suc, ◌+◌, ◌≤◌, ◌<◌, ℤ, pos, negsuc, length, get_or, take, drop, T, eqb, Result, Err}
use Rattle.rules.specs.Words.{Refusal, plain, at_entry, Entry, State, accepted, Call, read, the_field, Answer, placed_at, owned_by, no_owner, no_more}
use Rattle.rules.specs.Numbers.{cut}
use Rattle.rules.specs.Descriptor.{mask_bytes, has_app, byte_at, entry_at, decode_at}
use Rattle.rules.specs.Load.{start, into_ro, entry_number, Map, load_of, rw_entries, ro_entries, total, map_of}
use Rattle.rules.specs.Place.{nothing, entry, parts_of, width_of, signed_of, is_rw, length_of, holds, field_byte, field_bit, covers}
use Rattle.rules.specs.Accept.{accepts, to_bits, from_bits, weight_of}
use Rattle.rules.specs.Layout.{bank_size, HasBytes, set_start}
use Rattle.rules.specs.Bank.{Bank, number_in, app_sel_in, bank_call, fresh_call, bank_makes}
use Rattle.rules.specs.Table.{Table, fresh_table, table_makes}
use Rattle.rules.specs.Machine.{Command, run}
use Rattle.rules.specs.Address.{address_of, HasAddress}
use Rattle.rules.specs.Beside.{place_of, owner_call, owner_at_call, entry_answer, entry_bytes, weight_call}
use Rattle.rules.specs.Reader.{take_of}
use Rattle.rules.specs.Columns.{Accepts, Shaped, TwosComplement, ExtrasRead}
use Rattle.rules.specs.Conditions.{gives, First, entry_rules, Way, PastMedia, entries_past, Lane, plan_rules, call_rules, string_rules, bank_rules, ReaderSized, reader_rules}

-- 02, note 2: the address of a byte of a set, within the set's length
pub record InSet (m : Map) (s page byte : ℕ) : Type 0 where
  pub offset : ℕ
  pub given : HasAddress s offset page byte
  pub short : offset < length_of m s

-- DEMAND 1: "A refused call gives the number that 01's order picks, changes no byte, and does its own checking."

-- a bank after a call: as it was in its length and past its size; as it was altogether if the call is refused
pub record Keeps (b after : Bank) (is_refused : Type 0) : Type 0 where
  pub size : length after ≡ length b
  pub beyond : drop bank_size after ≡ drop bank_size b
  pub whole : is_refused → after ≡ b

-- any strings, any count, any bank
pub record Refusals (count : ℕ) (rw ro : List ℕ) (b : Bank) : Type 0 where
  -- one entry, at any place of a string of any content, at any state: the first check that it fails, in the order 16, 1 to 7
  pub one-entry : (a : ℕ) (s : List ℕ) (at : ℕ) (st : State) (n : ℕ) → (decode_at a s at st ≡ Err n) ↔ First (entry_rules a s at st) n
  -- "after a media-side table entry of the RW string": what the state of a walk says is what the bytes that it went past say
  pub media : (a : ℕ) (s : List ℕ) (at : ℕ) (st : State) (w : Way a s at st 0 start) → (st.media ≡ true) ↔ PastMedia w
  -- "a 17th entry", of either string by itself, and "its entry number": the state of a walk counts the entries of its string that it went past,
  -- of which there are at most 16; the number of the next one counts those of the RW string too. And it says which string this is
  pub rw-numbers : (a : ℕ) (s : List ℕ) (at : ℕ) (st : State) (w : Way a s at st 0 start)
      → (st.ro ≡ false) × (st.entries ≡ entries_past w) × (entry_number st ≡ entries_past w) × (entries_past w ≤ 16)
  pub ro-numbers : (a : ℕ) (s : List ℕ) (at : ℕ) (st middle : State) (w : Way a s at st 0 (into_ro middle))
      → (st.ro ≡ true) × (st.entries ≡ entries_past w) × (entry_number st ≡ middle.entries + entries_past w) × (entries_past w ≤ 16)
  -- the calls of demand 3, fresh, and the calls beside: a refusal is answered exactly if it is the first in 01's order
  pub call : (c : Call) (x : Refusal)
      → ((bank_call count rw ro c b).0 ≡ Err x) ↔ First (bank_rules count rw ro b (call_rules (map_of count rw ro) c ++ plan_rules (map_of count rw ro) c b)) x
  pub fresh : (x : Refusal) → ((fresh_call count rw ro b).0 ≡ Err x) ↔ First (bank_rules count rw ro b []) x
  pub load : (x : Refusal) → (load_of count rw ro ≡ Err x) ↔ First (string_rules count rw ro []) x
  pub place : (s e p i : ℕ) (x : Refusal)
      → (place_of count rw ro s e p i ≡ Err x) ↔ First (string_rules count rw ro (call_rules (map_of count rw ro) (read s (the_field e p i)))) x
  pub owner : (s k q : ℕ) (x : Refusal)
      → (owner_call count rw ro s k q ≡ Err x)
      ↔ First (string_rules count rw ro (gives (plain 10) (¬ ((s < 3) × (k < length_of (map_of count rw ro) s) × (q < 8))) ∷ [])) x
  -- 02, note 2: "an address outside its set is refusal 10"; a set that doesn't exist has none
  pub owner_at : (s page byte q : ℕ) (x : Refusal)
      → (owner_at_call count rw ro s page byte q ≡ Err x)
      ↔ First (string_rules count rw ro (gives (plain 10) (¬ (InSet (map_of count rw ro) s page byte × (q < 8))) ∷ [])) x
  pub own-entry : (e : ℕ) (x : Refusal)
      → (entry_answer count rw ro e ≡ Err x)
      ↔ First (string_rules count rw ro (gives (plain 10) (¬ (e < length (map_of count rw ro).entries)) ∷ [])) x
  -- "refused: an empty part"
  pub own-part : (e : ℕ) → (entry_bytes count rw ro e ≡ []) ↔ ((x : Refusal) × (entry_answer count rw ro e ≡ Err x))
  pub weight : (e i : ℕ) (x : Refusal)
      → (weight_call count rw ro b e i ≡ Err x)
      ↔ First
      (bank_rules count rw ro b
      (gives (plain 10) (¬ ((e < length (map_of count rw ro).entries) × ((entry (map_of count rw ro) e).id ≡ 0x12) × Lane i)) ∷ []))
      x
  -- the reader, over one string, at any position: its refusals, and "the end (no byte left from its position on, after check 9)"
  pub reader : (s : List ℕ) (position : ℕ) (x : Refusal) → (take_of count s position ≡ Err x) ↔ First (reader_rules count s position) x
  pub reader-end : (s : List ℕ) (position : ℕ) → (take_of count s position ≡ no_more) ↔ (ReaderSized count s × (length s ≤ position))
  -- "every lent byte keeps its content"; "Longer buffers are untouched beyond."
  pub call-keeps : (c : Call) → Keeps b (bank_call count rw ro c b).1 ((x : Refusal) × ((bank_call count rw ro c b).0 ≡ Err x))
  pub fresh-keeps : Keeps b (fresh_call count rw ro b).1 ((x : Refusal) × ((fresh_call count rw ro b).0 ≡ Err x))

abbrev pub Demand1 : Type 0
Demand1 = (count : ℕ) (rw ro : List ℕ) (b : Bank) → Refusals count rw ro b

-- DEMAND 2: "A bit belongs to a parameter, part and lane exactly when that field's placing covers it; owner and place agree both ways."

-- descriptors and count that the load accepts
pub record Accepted (count : ℕ) (rw ro : List ℕ) : Type 0 where
  pub rw_count : ℕ
  pub ro_count : ℕ
  pub staged : ℕ
  pub active : ℕ
  pub loads : load_of count rw ro ≡ accepted rw_count ro_count staged active

-- the place that the place call gives a field covers bit q of offset k
pub record PlaceCovers (count : ℕ) (rw ro : List ℕ) (s e p i k q : ℕ) : Type 0 where
  pub page : ℕ
  pub byte : ℕ
  pub bit : ℕ
  pub at : place_of count rw ro s e p i ≡ placed_at k page byte bit
  pub low : bit ≤ q
  pub top : q < bit + width_of (entry (map_of count rw ro) e)

-- the space of entry e covers byte k
pub record Spans (m : Map) (e k : ℕ) : Type 0 where
  pub there : e < length m.entries
  pub low : (entry m e).offset ≤ k
  pub top : k < (entry m e).offset + (entry m e).memory

-- 02, note 12: "the number of entries looked at, equal to that entry's number plus one"
pub record LooksAt (m : Map) (k n : ℕ) : Type 0 where
  pub last : ℕ
  pub covers : Spans m last k
  pub counts : n ≡ suc last

-- the sum of the Lengths
abbrev pub lengths : List Entry → ℕ
lengths [] = 0
lengths (e ∷ l) = e.length + lengths l

-- entries that fill a string from its first byte to its last, each directly after the one before, and say what its bytes say
pub record Fills (a : ℕ) (s : List ℕ) (l : List Entry) : Type 0 where
  pub ends : lengths l ≡ length s
  pub starts : (n : ℕ) → n < length l → (get_or l n nothing).start ≡ lengths (take n l)
  pub says : (n : ℕ) → n < length l → get_or l n nothing ≡ entry_at a s (get_or l n nothing).start (get_or l n nothing).offset

-- the entry call's part is the entry's own bytes of the entry's own string
pub record OwnBytes (count : ℕ) (rw ro : List ℕ) (e : ℕ) : Type 0 where
  pub size : length (entry_bytes count rw ro e) ≡ (entry (map_of count rw ro) e).length
  pub bytes : (k : ℕ)
      → k < (entry (map_of count rw ro) e).length
      → byte_at (entry_bytes count rw ro e) k ≡ byte_at (cond (is_rw (map_of count rw ro) e) rw ro) ((entry (map_of count rw ro) e).start + k)

pub record OwnerAndPlace (count : ℕ) (rw ro : List ℕ) : Type 0 where
  -- a bit belongs to an entry, part and lane exactly when the placing of that lane's field covers the bit; the entries up to that one are looked at
  pub owner-is : (s k q e p i n : ℕ) → (owner_call count rw ro s k q ≡ owned_by e p i n) ↔ (PlaceCovers count rw ro s e p i k q × (n ≡ suc e))
  -- a bit of a set is a gap exactly when no field's placing covers it; the entries up to the one whose space covers its byte are looked at
  pub owner-gap : (s k q n : ℕ)
      → s < 3
      → k < length_of (map_of count rw ro) s
      → q < 8
      → (owner_call count rw ro s k q ≡ no_owner n) ↔ (((e p i : ℕ) → ¬ (PlaceCovers count rw ro s e p i k q)) × LooksAt (map_of count rw ro) k n)
  -- a field that is placed owns its place
  pub place-owned : (s e p i k page byte q : ℕ) → place_of count rw ro s e p i ≡ placed_at k page byte q → owner_call count rw ro s k q ≡ owned_by e p i (suc e)
  -- every byte of a set is covered by the space of one entry alone; 02, note 12: "An entry with MemoryLength 0 covers no byte"
  pub one-space : (s k : ℕ) → k < length_of (map_of count rw ro) s → (e : ℕ) × Spans (map_of count rw ro) e k
  pub no-other : (e e' k : ℕ) → Spans (map_of count rw ro) e k → Spans (map_of count rw ro) e' k → e ≡ e'
  pub no-space : (e k : ℕ) → (entry (map_of count rw ro) e).memory ≡ 0 → ¬ (Spans (map_of count rw ro) e k)
  -- every field that a set holds is placed, within its entry and within one byte
  pub placed : (s e p i : ℕ)
      → T (holds (map_of count rw ro) s e p i)
      → let k : ℕ = field_byte (entry (map_of count rw ro) e) p i in
      place_of count rw ro s e p i ≡ placed_at k (address_of s k).page (address_of s k).byte (field_bit (entry (map_of count rw ro) e) i)
  pub inside : (s e p i k q : ℕ)
      → PlaceCovers count rw ro s e p i k q
      → ((entry (map_of count rw ro) e).offset ≤ k)
      × (k < (entry (map_of count rw ro) e).offset + (entry (map_of count rw ro) e).memory)
      × (k < length_of (map_of count rw ro) s)
      × (q < 8)
  -- no two fields of a set share a bit
  pub disjoint : (s e p i e' p' i' k q : ℕ)
      → PlaceCovers count rw ro s e p i k q
      → PlaceCovers count rw ro s e' p' i' k q
      → (e ≡ e') × (p ≡ p') × (i ≡ i')
  -- the entries are those of the strings, every byte of them read
  pub rw-fills : Fills (mask_bytes count) rw (rw_entries count rw)
  pub ro-fills : Fills (mask_bytes count) ro (ro_entries count rw ro)
  -- "both entry counts and both lengths": of the RW and the RO entries, the RW sum and the sum of all
  pub loads :
      load_of count rw ro
      ≡ accepted (length (rw_entries count rw)) (length (ro_entries count rw ro)) (total (rw_entries count rw)) (total (rw_entries count rw ++ ro_entries count rw ro))
  -- 02, note 7: 16 entries are "the limit for each string .. so that the target card can hold its map"
  pub few : (length (rw_entries count rw) ≤ 16) × (length (ro_entries count rw ro) ≤ 16)
  -- "An entry's offset is the sum of the MemoryLengths before it."
  pub offsets : (e : ℕ) → e < length (map_of count rw ro).entries → (entry (map_of count rw ro) e).offset ≡ total (take e (map_of count rw ro).entries)
  -- "hands back that entry's own bytes"
  pub own-bytes : (e : ℕ) → e < length (map_of count rw ro).entries → OwnBytes count rw ro e
  -- "Every rule about an ID is read from this table": the accepted values of an entry, by its ID, its code mask, its Min and Max; its parts and bits a lane
  pub accepted-values : (e : ℕ) (v : ℤ)
      → T (accepts (entry (map_of count rw ro) e) v) ↔ Accepts (entry (map_of count rw ro) e) v
  pub shapes : (e : ℕ)
      → Shaped (entry (map_of count rw ro) e).id (parts_of (entry (map_of count rw ro) e)) (width_of (entry (map_of count rw ro) e))
  -- "A field of 11h or 12h holds a two's complement number, any other an unsigned one."; 02, note 1: and one "with a signed range"
  pub signs : (e : ℕ) → (signed_of (entry (map_of count rw ro) e) ≡ true) ↔ TwosComplement (entry (map_of count rw ro) e).id
  -- "then the extras named in the table"
  pub rw-extras : (n : ℕ) → n < length (rw_entries count rw) → ExtrasRead (mask_bytes count) rw (get_or (rw_entries count rw) n nothing)
  pub ro-extras : (n : ℕ) → n < length (ro_entries count rw ro) → ExtrasRead (mask_bytes count) ro (get_or (ro_entries count rw ro) n nothing)

abbrev pub Demand2 : Type 0
Demand2 = (count : ℕ) (rw ro : List ℕ) → Accepted count rw ro → OwnerAndPlace count rw ro

-- DEMAND 3: "The packed bank and the plain table of 01, started fresh, give equal lists of answers .. and end with equal numbers,
-- every other bit of the three sets 0."

-- bit q of byte k of a set
abbrev pub bit_in : Bank → ℕ → ℕ → ℕ → ℕ
bit_in b s k q = cut (get_or b (set_start s + k) 0) q 1

-- the bank shows the table: every field and every AppSel, and nothing else in the three sets
pub record Shows (m : Map) (b : Bank) (t : Table) : Type 0 where
  pub fields : (s e p i : ℕ) → T (holds m s e p i) → number_in m b s e p i ≡ t.numbers s e p i
  pub apps : (s i : ℕ) → s < 2 → 1 ≤ i → i ≤ 8 → app_sel_in b s i ≡ t.apps s i
  pub others : (s k q : ℕ)
      → HasBytes s
      → k < 256
      → q < 8
      → ((e p i : ℕ) → T (holds m s e p i) → ¬ (T (covers (entry m e) p i k q)))
      → bit_in b s k q ≡ 0

-- the two machines on a list of calls, each from what its fresh left
abbrev pub bank_run : ℕ → List ℕ → List ℕ → Bank → List Command → List (Result Answer Refusal) × Bank
bank_run count rw ro bank calls = run (bank_makes count rw ro) calls (fresh_call count rw ro bank).1

abbrev pub table_run : ℕ → List ℕ → List ℕ → List Command → List (Result Answer Refusal) × Table
table_run count rw ro calls = run (table_makes count rw ro) calls fresh_table

-- equal lists of answers, a bank that shows the table, and all bytes past the bank's size as they were
pub record ListAgrees (count : ℕ) (rw ro : List ℕ) (bank : Bank) (calls : List Command) : Type 0 where
  pub answers : (bank_run count rw ro bank calls).0 ≡ (table_run count rw ro calls).0
  pub shows : Shows (map_of count rw ro) (bank_run count rw ro bank calls).1 (table_run count rw ro calls).1
  pub size : length (bank_run count rw ro bank calls).1 ≡ length bank
  pub beyond : drop bank_size (bank_run count rw ro bank calls).1 ≡ drop bank_size bank

-- descriptors and count that the load accepts, a bank of at least its size and of any content, every list of the seven calls
abbrev pub Demand3 : Type 0
Demand3 =
    (count : ℕ) (rw ro bank : List ℕ)
    → Accepted count rw ro
    → bank_size ≤ length bank
    → (calls : List Command)
    → ListAgrees count rw ro bank calls

-- a fresh that is accepted
pub record FreshAccepted (count : ℕ) (rw ro : List ℕ) (bank : Bank) : Type 0 where
  pub rw_count : ℕ
  pub ro_count : ℕ
  pub staged : ℕ
  pub active : ℕ
  pub fresh : (fresh_call count rw ro bank).0 ≡ accepted rw_count ro_count staged active

-- "Before a list of demand 3 stands an accepted fresh": the same, with that as the only premise
abbrev pub Demand3-after-fresh : Type 0
Demand3-after-fresh =
    (count : ℕ) (rw ro bank : List ℕ) → FreshAccepted count rw ro bank → (calls : List Command) → ListAgrees count rw ro bank calls

-- the twelve settings, each of any entry that has the ID, offset or code mask named
pub record Twelve : Type 0 where
  -- mask 0Bh, count 4: AppSel 1, 2, 4
  pub P1 : (a : ℕ) → has_app 4 0x0B a ≡ (eqb a 1 || (eqb a 2 || eqb a 4))
  -- 03h at offset 1, lane 5: byte 2, bit 0
  pub P2 : (e : Entry) → e.id ≡ 0x03 → e.offset ≡ 1 → (field_byte e 0 5 ≡ 2) × (field_bit e 5 ≡ 0)
  -- 04h at 3, lane 2: byte 3, bit 4
  pub P3 : (e : Entry) → e.id ≡ 0x04 → e.offset ≡ 3 → (field_byte e 0 2 ≡ 3) × (field_bit e 2 ≡ 4)
  -- 04h at 3, lane 7: byte 6, bit 0
  pub P4 : (e : Entry) → e.id ≡ 0x04 → e.offset ≡ 3 → (field_byte e 0 7 ≡ 6) × (field_bit e 7 ≡ 0)
  -- 07h at 9, part 1, lane 1: byte 13, bit 0
  pub P5 : (e : Entry) → e.id ≡ 0x07 → e.offset ≡ 9 → (field_byte e 1 1 ≡ 13) × (field_bit e 1 ≡ 0)
  -- −14 is stored F2h and at step 0 weighs −140
  pub P6 : (to_bits 8 (negsuc 13) ≡ 0xF2) × (from_bits true 8 0xF2 ≡ negsuc 13) × (weight_of 0 (negsuc 13) ≡ negsuc 139)
  -- −128 is 80h
  pub P7 : (to_bits 8 (negsuc 127) ≡ 0x80) × (from_bits true 8 0x80 ≡ negsuc 127)
  -- Length 0, two bytes left: refusal 2, whatever the ID
  pub P8 : (id : ℕ) → load_of 4 (id ∷ 0 ∷ []) [] ≡ Err (at_entry 2 0)
  -- 04h with MemoryLength 3: refusal 4; with 5: accepted
  pub P9 :
      (load_of 4 (0x04 ∷ 7 ∷ 0x0F ∷ 3 ∷ 0 ∷ 0xFF ∷ 0xFF ∷ []) [] ≡ Err (at_entry 4 0))
      × (load_of 4 (0x04 ∷ 7 ∷ 0x0F ∷ 5 ∷ 0 ∷ 0xFF ∷ 0xFF ∷ []) [] ≡ accepted 1 0 5 5)
  -- 04h, mask 1FFFh: 12 accepted, 13 not
  pub P10 : (e : Entry) → e.id ≡ 0x04 → e.codes ≡ 0x1FFF → (accepts e (pos 12) ≡ true) × (accepts e (pos 13) ≡ false)
  -- 08h, mask FFFFh: 3 and 15 accepted, 4 not
  pub P11 :
      (e : Entry)
      → e.id ≡ 0x08
      → e.codes ≡ 0xFFFF
      → (accepts e (pos 3) ≡ true) × (accepts e (pos 15) ≡ true) × (accepts e (pos 4) ≡ false)
  -- two 00h entries reserving 255 and 1: accepted; 255 and 2: refusal 7
  pub P12 :
      (load_of 4 (0 ∷ 4 ∷ 0 ∷ 255 ∷ 0 ∷ 4 ∷ 0 ∷ 1 ∷ []) [] ≡ accepted 2 0 256 256)
      × (load_of 4 (0 ∷ 4 ∷ 0 ∷ 255 ∷ 0 ∷ 4 ∷ 0 ∷ 2 ∷ []) [] ≡ Err (at_entry 7 1))
