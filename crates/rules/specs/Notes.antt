-- What 02 says of its notes: the statements. proofs/Demands.antt proves each, beside the demands.
use Rattle.std.specs.Prelude.{◌≡◌, ◌↔◌, true, false, cond, List, [], ℕ, zero, suc, ◌+◌, ◌≤◌, ◌<◌, length, take, drop, Option, Result, Ok, Err, Some}
use Rattle.rules.specs.Words.{Refusal, plain, at_entry, at_lane, State, Loaded, Passed, passed_all, Call, read, the_field, number, placed_at, owned_by, no_owner}
use Rattle.rules.specs.Descriptor.{mask_bytes, byte_at, unlimited}
use Rattle.rules.specs.Load.{start, into_ro, entry_number, Turn, Reading, fold_of, walk_within, read_within, read_of, sized, load_on, load_of, resume_of, pass_of, map_of}
use Rattle.rules.specs.Place.{entry, width_of}
use Rattle.rules.specs.Bank.{Bank, bank_call_on, bank_call, fresh_on, fresh_call}
use Rattle.rules.specs.Table.{Table, table_call_on, table_call}
use Rattle.rules.specs.Machine.{Command}
use Rattle.rules.specs.Address.{address_of, offset_of, HasAddress}
use Rattle.rules.specs.Beside.{place_on, place_of, owner_on, owner_call, owner_at_on, owner_at_call, entry_answer_on, entry_answer, entry_bytes_on, entry_bytes, weight_on, weight_call}
use Rattle.rules.specs.MapProgram.{rw_bytes, ro_bytes, output_on, map_output}
use Rattle.rules.specs.Demands.{InSet, Accepted, LooksAt, bank_run, table_run, FreshAccepted}

-- 02, NOTE 2: "A user who asks owner at the address and bit that place gives for a field (page 0, byte 0 aside) is told that field, and read
-- gives the number that the plain table holds."

-- "page 0, byte 0 aside"
abbrev pub NoAddress : ℕ → ℕ → Type 0
NoAddress page byte = (page ≡ 0) × (byte ≡ 0)

-- the bytes that Table 4-1 gives a set: 23, 23 and 21, and 56 on each overflow page
abbrev pub bytes_given : ℕ → ℕ
bytes_given zero = 79
bytes_given (suc zero) = 79
bytes_given (suc (suc s)) = 77

-- address and offset, by Table 4-1
pub record OneToOne : Type 0 where
  -- an offset has the address that the table gives it, and the address that offset; one that the table gives none has page 0 and byte 0, which
  -- the table gives to none
  pub given : (s k page byte : ℕ) → HasAddress s k page byte → address_of s k ≡ record { page = page; byte = byte }
  pub back : (s k page byte : ℕ) → HasAddress s k page byte → offset_of s page byte ≡ k
  pub counts : (s k : ℕ) → s < 3 → ((page : ℕ) × (byte : ℕ) × HasAddress s k page byte) ↔ (k < bytes_given s)
  pub none : (s k : ℕ) → s < 3 → ((page byte : ℕ) → ¬ (HasAddress s k page byte)) ↔ NoAddress (address_of s k).page (address_of s k).byte
  pub some : (s k page byte : ℕ) → HasAddress s k page byte → ¬ (NoAddress page byte)
  -- an offset has one address alone, and an address is one offset of one set alone
  pub one-address : (s k page byte page' byte' : ℕ) → HasAddress s k page byte → HasAddress s k page' byte' → (page ≡ page') × (byte ≡ byte')
  pub one-offset : (s k s' k' page byte : ℕ) → HasAddress s k page byte → HasAddress s' k' page byte → (s ≡ s') × (k ≡ k')

-- the place that the place call gives a field has an address, and covers bit q there
pub record PlaceCoversAt (count : ℕ) (rw ro : List ℕ) (s e p i page byte q : ℕ) : Type 0 where
  pub offset : ℕ
  pub bit : ℕ
  pub at : place_of count rw ro s e p i ≡ placed_at offset page byte bit
  pub some : ¬ (NoAddress page byte)
  pub low : bit ≤ q
  pub top : q < bit + width_of (entry (map_of count rw ro) e)

pub record OwnerAtAddress (count : ℕ) (rw ro : List ℕ) : Type 0 where
  -- the address that place gives is Table 4-1's
  pub place-given : (s e p i k page byte q : ℕ) → place_of count rw ro s e p i ≡ placed_at k page byte q → ¬ (NoAddress page byte) → HasAddress s k page byte
  pub place-none : (s e p i k page byte q : ℕ)
      → place_of count rw ro s e p i ≡ placed_at k page byte q
      → NoAddress page byte
      → (page' byte' : ℕ)
      → ¬ (HasAddress s k page' byte')
  -- "Owner accepts either form": at an address it answers what it answers at its offset
  pub either-form : (s k page byte q : ℕ) → HasAddress s k page byte → owner_at_call count rw ro s page byte q ≡ owner_call count rw ro s k q
  -- both ways, at every bit of an address: it tells a field exactly when that field's place covers the bit there, and a gap exactly when no
  -- field's does
  pub owner-is : (s page byte q e p i n : ℕ)
      → (owner_at_call count rw ro s page byte q ≡ owned_by e p i n) ↔ (PlaceCoversAt count rw ro s e p i page byte q × (n ≡ suc e))
  pub owner-gap : (s page byte q n : ℕ)
      → (at : InSet (map_of count rw ro) s page byte)
      → q < 8
      → (owner_at_call count rw ro s page byte q ≡ no_owner n)
      ↔ (((e p i : ℕ) → ¬ (PlaceCoversAt count rw ro s e p i page byte q)) × LooksAt (map_of count rw ro) at.offset n)

-- after a list of calls, of a field and each of its bits
pub record Told (count : ℕ) (rw ro : List ℕ) (bank : Bank) (calls : List Command) : Type 0 where
  pub field : (s e p i k page byte bit : ℕ)
      → place_of count rw ro s e p i ≡ placed_at k page byte bit
      → ((q : ℕ) → ¬ (NoAddress page byte) → bit ≤ q → q < bit + width_of (entry (map_of count rw ro) e) → owner_at_call count rw ro s page byte q ≡ owned_by e p i (suc e))
      × ((bank_call count rw ro (read s (the_field e p i)) (bank_run count rw ro bank calls).1).0 ≡ number ((table_run count rw ro calls).1.numbers s e p i))

pub record Note2 : Type 0 where
  pub addresses : OneToOne
  pub owners : (count : ℕ) (rw ro : List ℕ) → Accepted count rw ro → OwnerAtAddress count rw ro
  pub told : (count : ℕ) (rw ro bank : List ℕ) → FreshAccepted count rw ro bank → (calls : List Command) → Told count rw ro bank calls

-- 02, NOTE 7: "Whoever lends two strings of at most 16 entries each sees the same answers as before."

-- how many entries of a string a walk without a limit comes to, the one that fails a check among them
abbrev pub tally : Turn ℕ
tally (Ok e) st k = suc (k e)
tally (Err n) st k = 1

abbrev pub comes_to : ℕ → List ℕ → State → ℕ
comes_to a s begin = fold_of unlimited tally (λ _. 0) a s 0 begin

-- "two strings of at most 16 entries each": the RO string is read if the RW string's walk ends
pub record AtMost16 (count : ℕ) (rw ro : List ℕ) : Type 0 where
  pub in-rw : comes_to (mask_bytes count) rw start ≤ 16
  pub in-ro : (middle : State)
      → walk_within unlimited (mask_bytes count) rw 0 start ≡ Ok middle
      → comes_to (mask_bytes count) ro (into_ro middle) ≤ 16

-- what is read of the strings without a limit
abbrev pub read_before : ℕ → List ℕ → List ℕ → Reading
read_before = read_within unlimited

-- what is read, and so load, map and every call, its answer and the bank after it
pub record AsBefore (count : ℕ) (rw ro : List ℕ) : Type 0 where
  pub reading : read_of count rw ro ≡ read_before count rw ro
  pub load : load_of count rw ro ≡ load_on (read_before count rw ro)
  pub map : map_of count rw ro ≡ (read_before count rw ro).map
  pub call : (c : Call) (b : Bank) → bank_call count rw ro c b ≡ bank_call_on (read_before count rw ro) c b
  pub fresh : (b : Bank) → fresh_call count rw ro b ≡ fresh_on (read_before count rw ro) b
  pub table : (c : Call) (t : Table) → table_call count rw ro c t ≡ table_call_on (read_before count rw ro) c t
  pub place : (s e p i : ℕ) → place_of count rw ro s e p i ≡ place_on (read_before count rw ro) s e p i
  pub owner : (s k q : ℕ) → owner_call count rw ro s k q ≡ owner_on (read_before count rw ro) s k q
  pub owner_at : (s page byte q : ℕ) → owner_at_call count rw ro s page byte q ≡ owner_at_on (read_before count rw ro) s page byte q
  pub own-entry : (e : ℕ) → entry_answer count rw ro e ≡ entry_answer_on (read_before count rw ro) e
  pub own-part : (e : ℕ) → entry_bytes count rw ro e ≡ entry_bytes_on (read_before count rw ro) rw ro e
  pub weight : (b : Bank) (e i : ℕ) → weight_call count rw ro b e i ≡ weight_on (read_before count rw ro) b e i
  pub program : (input : List ℕ)
      → byte_at input 0 ≡ count
      → rw_bytes input ≡ rw
      → ro_bytes input ≡ ro
      → map_output input ≡ output_on (read_before count rw ro) input

abbrev pub Note7 : Type 0
Note7 = (count : ℕ) (rw ro : List ℕ) → AtMost16 count rw ro → AsBefore count rw ro

-- 02, NOTE 8: "Prove that a load broken off after any entry and taken up again so gives the same answer or refusal."

-- a load broken off: what it "keeps", and "the bytes not yet read"
pub record Break : Type 0 where
  pub kept : State
  pub rw : List ℕ
  pub ro : List ℕ

abbrev pub resume_at : ℕ → Break → Result Loaded Refusal
resume_at count b = resume_of count b.kept b.rw b.ro

-- an entry further, whose bytes are read; where none passes, as it was
abbrev pub left_by : Break → Result (Option Passed) Refusal → Break
left_by b (Ok (Some e)) =
    cond e.state.ro (record { kept = e.state; rw = []; ro = drop e.length b.ro }) (record { kept = e.state; rw = drop e.length b.rw; ro = b.ro })
left_by b passed_all = b
left_by b (Err r) = b

unfoldable pub further : ℕ → ℕ → Break → Break
further count zero b = b
further count (suc k) b = let at : Break = further count k b in left_by at (pass_of count at.kept at.rw at.ro)

-- how many entries a load passes
abbrev pub passes : Result Loaded Refusal → ℕ
passes (Ok l) = l.rw_count + l.ro_count
passes (Err (plain n)) = 0
passes (Err (at_entry n e)) = e
passes (Err (at_lane n i)) = 0

-- n bytes of a string with its whole first entry, whose Length is the second byte
abbrev pub WholeEntry : ℕ → List ℕ → Type 0
WholeEntry n s = (2 ≤ n) × (byte_at s 1 ≤ n) × (n ≤ length s)

pub record TakenUp (count : ℕ) (rw ro : List ℕ) : Type 0 where
  -- the load goes on from the beginning
  pub begins : load_of count rw ro ≡ resume_of count start rw ro
  -- broken off after any entry
  pub after : (k : ℕ) → resume_at count (further count k (record { kept = start; rw = rw; ro = ro })) ≡ load_of count rw ro
  -- .. which is so many entries after the beginning, up to the last that the load passes
  pub counts : (k : ℕ) → k ≤ passes (load_of count rw ro) → entry_number (further count k (record { kept = start; rw = rw; ro = ro })).kept ≡ k
  -- taken up in any state, with any bytes, and broken off again: as often as one likes
  pub again : (st : State) (k : ℕ) → resume_at count (further count k (record { kept = st; rw = rw; ro = ro })) ≡ resume_of count st rw ro
  -- an entry that isn't passed is refused as the load refuses it
  pub refuses : (st : State) (r : Refusal) → pass_of count st rw ro ≡ Err r → resume_of count st rw ro ≡ Err r
  -- of the bytes not yet read, those of the entry itself pass it: the others needn't be there yet
  pub rw-entry : (n : ℕ) (st : State) → st.ro ≡ false → sized count rw ro ≡ true → WholeEntry n rw → pass_of count st (take n rw) [] ≡ pass_of count st rw ro
  pub ro-entry : (n : ℕ) (st : State) → st.ro ≡ true → sized count rw ro ≡ true → WholeEntry n ro → pass_of count st [] (take n ro) ≡ pass_of count st rw ro
  pub first-ro-entry : (n : ℕ) (st : State) → st.ro ≡ false → sized count rw ro ≡ true → rw ≡ [] → WholeEntry n ro → pass_of count st [] (take n ro) ≡ pass_of count st rw ro

abbrev pub Note8 : Type 0
Note8 = (count : ℕ) (rw ro : List ℕ) → TakenUp count rw ro
