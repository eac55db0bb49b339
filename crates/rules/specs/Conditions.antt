-- "Refusals by who causes them": the condition of each number as a fact, in 01's words, and 01's order as a list of rules.
-- Demand 1 says that a call is refused exactly by the first rule that applies.
use Rattle.std.specs.Prelude.{◌≡◌, ◌⊎◌, Bool, true, false, List, [], ◌∷◌, ℕ, suc, ◌+◌, ◌-◌, ◌%◌, ◌≤◌, ◌<◌, length, T, Ok, Err}
use Rattle.rules.specs.Words.{Refusal, plain, at_entry, at_lane, Entry, State, Call, select, write, read, byte_write, byte_read, publish, apply}
use Rattle.rules.specs.Numbers.{bit_of}
use Rattle.rules.specs.Descriptor.{mask_bytes, byte_at, decode_at}
use Rattle.rules.specs.Load.{start, next, into_ro, entry_number, Map}
use Rattle.rules.specs.Place.{entry, parts_of, length_of}
use Rattle.rules.specs.Layout.{bank_size}
use Rattle.rules.specs.Bank.{Bank, app_sel_in, number_in}
use Rattle.rules.specs.Columns.{Accepts, BelowLeast, BelowNeeded, InTable, OfLine, ReservedStep}

-- a rule tells which refusals it gives; A is a refusal, or a number alone
abbrev pub Rule : Type 0 → Type 1
Rule A = A → Type 0

-- this refusal, under a condition
abbrev pub gives : {A : Type 0} → A → Type 0 → Rule A
gives r condition x = (x ≡ r) × condition

-- the first rule of a list that gives a refusal
abbrev pub First : {A : Type 0} → List (Rule A) → A → Type 0
First [] x = ⊥
First {A} (rule ∷ rules) x = rule x ⊎ (((y : A) → ¬ (rule y)) × First rules x)

-- The module's maker: 1 to 7 "Within an entry, in this order"; 02, note 7: 16 "before the other checks of that entry"

-- 3: "01h to 10h only in RW, 11h and 12h only in RO"
abbrev pub WrongString : Bool → ℕ → Type 0
WrongString true id = (0x01 ≤ id) × (id ≤ 0x10)
WrongString false id = (0x11 ≤ id) × (id ≤ 0x12)

-- a media-side table entry at a place of a string: PropertyFlags, "Bit 0 set means media side"
abbrev pub MediaSide : ℕ → List ℕ → ℕ → Type 0
MediaSide a s at = InTable (byte_at s at) × (byte_at s (at + 3 + a) % 2 ≡ 1)

-- an entry at a place of a string, by its bytes, for a walk that keeps a state; `left` is the number of bytes left
abbrev pub entry_rules : ℕ → List ℕ → ℕ → State → List (Rule ℕ)
entry_rules a s at st =
    let left : ℕ = length s - at in
    let id : ℕ = byte_at s at in
    let size : ℕ = byte_at s (at + 1) in
    let memory : ℕ = byte_at s (at + 2 + a) in
    gives 16 (16 ≤ st.entries)
    ∷ gives 1 ((left ≡ 1) ⊎ (left < size))
    ∷ gives 2 (BelowLeast a id size)
    ∷ gives 3 (WrongString st.ro id)
    ∷ gives 4 (BelowNeeded id memory)
    ∷ gives 5 (OfLine id (λ c. ReservedStep c.steps c.extras s (at + 4 + a)))
    ∷ gives 6 ((0x02 ≤ id) × (id ≤ 0x08) × (¬ (MediaSide a s at)) × (st.media ≡ true))
    ∷ gives 7 (256 < st.sum + memory)
    ∷ []

-- a walk from a place and a state to others: each entry between them passes
pub data Way (a : ℕ) (s : List ℕ) (to : ℕ) (end : State) : ℕ → State → Type 0 where
  here : Way a s to end to end
  past : {at : ℕ} {st : State} (e : Entry)
      → at < length s
      → decode_at a s at st ≡ Ok e
      → Way a s to end (at + e.length) (next st e)
      → Way a s to end at st

-- "after a media-side table entry": one that the walk goes past
abbrev pub PastMedia : {a : ℕ} {s : List ℕ} {to : ℕ} {end : State} {from : ℕ} {st : State} → Way a s to end from st → Type 0
PastMedia here = ⊥
PastMedia {a} {s} (past {at} e l d w) = MediaSide a s at ⊎ PastMedia w

-- the entries that it goes past
abbrev pub entries_past : {a : ℕ} {s : List ℕ} {to : ℕ} {end : State} {from : ℕ} {st : State} → Way a s to end from st → ℕ
entries_past here = 0
entries_past (past e l d w) = suc (entries_past w)

-- "The first entry that fails any check ends the load; its entry number is answered too."
pub record Stops (a : ℕ) (s : List ℕ) (from : ℕ) (begin : State) (x : Refusal) : Type 0 where
  pub at : ℕ
  pub st : State
  pub way : Way a s at st from begin
  pub left : at < length s
  pub number : ℕ
  pub fails : decode_at a s at st ≡ Err number
  pub says : x ≡ at_entry number (entry_number st)

-- no byte is left
pub record Ends (a : ℕ) (s : List ℕ) (from : ℕ) (begin end : State) : Type 0 where
  pub at : ℕ
  pub way : Way a s at end from begin
  pub none : length s ≤ at

-- "RW first, RO after"
abbrev pub strings_rule : ℕ → List ℕ → List ℕ → Rule Refusal
strings_rule count rw ro x =
    Stops (mask_bytes count) rw 0 start x
    ⊎ ((middle : State) × Ends (mask_bytes count) rw 0 start middle × Stops (mask_bytes count) ro 0 (into_ro middle) x)

-- The caller

-- 9: "count not 1 to 15, or a string over 120"
abbrev pub Sized : ℕ → List ℕ → List ℕ → Type 0
Sized count rw ro = (1 ≤ count) × (count ≤ 15) × (length rw ≤ 120) × (length ro ≤ 120)

-- 10: "a set, lane, entry, part, offset or bit that doesn't exist, or a field of an entry without that field"
abbrev pub Lane : ℕ → Type 0
Lane i = (1 ≤ i) × (i ≤ 8)

abbrev pub HasField : Map → ℕ → ℕ → ℕ → Type 0
HasField m e p i = (e < length m.entries) × (p < parts_of (entry m e)) × Lane i

abbrev pub Exists : Map → Call → Type 0
Exists m (select s i a) = (s < 3) × Lane i
Exists m (write s f v) = (s < 3) × HasField m f.entry f.part f.lane
Exists m (read s f) = (s < 3) × HasField m f.entry f.part f.lane
Exists m (byte_write s k v) = (s < 3) × (k < length_of m s)
Exists m (byte_read s k) = (s < 3) × (k < length_of m s)
Exists m (publish f v) = HasField m f.entry f.part f.lane
Exists m (apply s lanes) = s < 3

-- 11: "write, byte write, select or apply on set 2; an RO entry in a staged set; publish to an RW entry"
abbrev pub Misdirected : Map → Call → Type 0
Misdirected m (select s i a) = s ≡ 2
Misdirected m (write s f v) = (s ≡ 2) ⊎ (m.rw_count ≤ f.entry)
Misdirected m (read s f) = (s < 2) × (m.rw_count ≤ f.entry)
Misdirected m (byte_write s k v) = s ≡ 2
Misdirected m (byte_read s k) = ⊥
Misdirected m (publish f v) = f.entry < m.rw_count
Misdirected m (apply s lanes) = s ≡ 2

-- 12: "value or app not accepted"
abbrev pub Unaccepted : Map → Call → Type 0
Unaccepted m (select s i a) = m.count < a
Unaccepted m (write s f v) = ¬ (Accepts (entry m f.entry) v)
Unaccepted m (read s f) = ⊥
Unaccepted m (byte_write s k v) = ⊥
Unaccepted m (byte_read s k) = ⊥
Unaccepted m (publish f v) = ¬ (Accepts (entry m f.entry) v)
Unaccepted m (apply s lanes) = ⊥

-- The host's plan, "at apply, with the lowest such lane"
pub record Lowest (bad : ℕ → Type 0) (i : ℕ) : Type 0 where
  pub lane : Lane i
  pub is : bad i
  pub below : (j : ℕ) → 1 ≤ j → j < i → ¬ (bad j)

-- bit i − 1 of the lane mask is set
abbrev pub Chosen : ℕ → ℕ → Type 0
Chosen lanes i = T (bit_of lanes (i - 1))

-- 13: "a chosen lane's AppSel is 0 or above the count"
abbrev pub LacksApp : Map → Bank → ℕ → ℕ → ℕ → Type 0
LacksApp m b s lanes i = Chosen lanes i × ((app_sel_in b s i ≡ 0) ⊎ (m.count < app_sel_in b s i))

-- a field of entry e is copied in lane i
abbrev pub Copied : Map → Bank → ℕ → ℕ → ℕ → ℕ → Type 0
Copied m b s lanes e i =
    Chosen lanes i × (1 ≤ app_sel_in b s i) × (app_sel_in b s i ≤ m.count) × T (bit_of (entry m e).mask (app_sel_in b s i - 1))

-- 14: "a field to be copied holds a value not accepted"
pub record HoldsBad (m : Map) (b : Bank) (s lanes i : ℕ) : Type 0 where
  pub e : ℕ
  pub p : ℕ
  pub ent : e < m.rw_count
  pub part : p < parts_of (entry m e)
  pub copied : Copied m b s lanes e i
  pub bad : ¬ (Accepts (entry m e) (number_in m b s e p i))

abbrev pub plan_rules : Map → Call → Bank → List (Rule Refusal)
plan_rules m (select s i a) b = []
plan_rules m (write s f v) b = []
plan_rules m (read s f) b = []
plan_rules m (byte_write s k v) b = []
plan_rules m (byte_read s k) b = []
plan_rules m (publish f v) b = []
plan_rules m (apply s lanes) b =
    (λ x. (i : ℕ) × (x ≡ at_lane 13 i) × Lowest (LacksApp m b s lanes) i)
    ∷ (λ x. (i : ℕ) × (x ≡ at_lane 14 i) × Lowest (HoldsBad m b s lanes) i)
    ∷ []

-- "Order: 9, 8, 1 to 7, 10, 11, then 12, or 13 before 14.", 16 with 1 to 7
abbrev pub call_rules : Map → Call → List (Rule Refusal)
call_rules m c = gives (plain 10) (¬ (Exists m c)) ∷ gives (plain 11) (Misdirected m c) ∷ gives (plain 12) (Unaccepted m c) ∷ []

abbrev pub string_rules : ℕ → List ℕ → List ℕ → List (Rule Refusal) → List (Rule Refusal)
string_rules count rw ro rest = gives (plain 9) (¬ (Sized count rw ro)) ∷ strings_rule count rw ro ∷ rest

abbrev pub bank_rules : ℕ → List ℕ → List ℕ → Bank → List (Rule Refusal) → List (Rule Refusal)
bank_rules count rw ro b rest =
    gives (plain 9) (¬ (Sized count rw ro)) ∷ gives (plain 8) (length b < bank_size) ∷ strings_rule count rw ro ∷ rest

-- The reader: "the checks 9, 1 and 2 alone, in that order"

abbrev pub ReaderSized : ℕ → List ℕ → Type 0
ReaderSized count s = (1 ≤ count) × (count ≤ 15) × (length s ≤ 120)

abbrev pub reader_rules : ℕ → List ℕ → ℕ → List (Rule Refusal)
reader_rules count s position =
    let left : ℕ = length s - position in
    let size : ℕ = byte_at s (position + 1) in
    gives (plain 9) (¬ (ReaderSized count s))
    ∷ gives (plain 1) ((position < length s) × ((left ≡ 1) ⊎ (left < size)))
    ∷ gives (plain 2) ((position < length s) × BelowLeast (mask_bytes count) (byte_at s position) size)
    ∷ []
