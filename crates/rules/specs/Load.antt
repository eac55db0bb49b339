-- The load, "the check of both strings": RW entries first, RO after, up to the first entry that fails any check.
use Rattle.std.specs.Prelude.{Bool, true, false, ◌&&◌, ◌||◌, cond, List, [], ◌∷◌, ◌++◌, ℕ, zero, suc, ◌+◌, length, ltb, leb, Option, Result, Ok, Err}
use Rattle.rules.specs.Words.{plain, at_entry, Entry, State, Loaded, accepted, Passed, past, passed_all, Refusal}
use Rattle.rules.specs.Descriptor.{mask_bytes, Limit, limited, decode_within, decode_at}

-- What a walk keeps between two entries; 02, note 8: "After an entry it keeps a fixed few numbers and flags, no byte of a string". A state is
-- made here alone: at the beginning, past an entry, and into the RO string.
abbrev pub start : State
start = record { ro = false; media = false; entries = 0; before = 0; sum = 0; staged = 0 }

abbrev pub next : State → Entry → State
next st e =
    record {
      ro = st.ro;
      media = st.media || e.media;
      entries = st.entries + 1;
      before = st.before;
      sum = st.sum + e.memory;
      staged = st.staged;
    }

-- "RW first, RO after": the RO string's entries stand after those of the RW string, whose sum is the staged length; the sum goes on, and what
-- has been passed stays so
abbrev pub into_ro : State → State
into_ro st = record { ro = true; media = st.media; entries = 0; before = st.entries; sum = st.sum; staged = st.sum }

-- "Entries are numbered from 0, RW first, RO after.": the number of the next entry
abbrev pub entry_number : State → ℕ
entry_number st = st.before + st.entries

-- what the load answers at the end of the RO string: both entry counts, staged and active length
abbrev pub answer : State → Result Loaded Refusal
answer st = accepted st.before st.entries st.staged st.sum

-- one turn of a walk: what is made of a decode, given what the walk makes of all that follows an entry
abbrev pub Turn : Type 0 → Type 0
Turn A = (Result Entry ℕ) → State → (Entry → A) → A

-- "The first entry that fails any check ends the load; its entry number is answered too."
abbrev pub onward : Turn (Result State Refusal)
onward (Ok e) st k = k e
onward (Err n) st k = Err (at_entry n (entry_number st))

-- the entries of a string, each with its offset
abbrev pub gather : Turn (List Entry)
gather (Ok e) st k = e ∷ k e
gather (Err n) st k = []

abbrev pub after : Result State Refusal → (State → Result Loaded Refusal) → Result Loaded Refusal
after (Ok st) k = k st
after (Err r) k = Err r

abbrev pub on_end : Result State Refusal → (State → List Entry) → List Entry
on_end (Ok st) k = k st
on_end (Err r) k = []

-- the sum of the MemoryLengths
unfoldable pub total : List Entry → ℕ
total [] = 0
total (e ∷ l) = e.memory + total l

-- 9: "count not 1 to 15, or a string over 120"
abbrev pub sized : ℕ → List ℕ → List ℕ → Bool
sized count rw ro = leb 1 count && (leb count 15 && (leb (length rw) 120 && leb (length ro) 120))

-- the map: the count, the entries, how many of them are RW, and the lengths
pub record Map : Type 0 where
  pub count : ℕ
  pub entries : List Entry
  pub rw_count : ℕ
  pub staged : ℕ
  pub active : ℕ

-- what the calls use of the strings: 9, the walk of both, and the map
pub record Reading : Type 0 where
  pub sized : Bool
  pub walked : Result Loaded Refusal
  pub map : Map

-- with any limit of a string's entries
module _ (limit : Limit) where
  -- every walk of a string, from a place and a state on, is this fold: "The next entry begins directly after the last byte." An entry
  -- takes more than one byte, so the string's length bounds the turns
  unfoldable pub fold_by : {A : Type 0} → Turn A → (State → A) → ℕ → ℕ → List ℕ → ℕ → State → A
  fold_by on end a zero s at st = end st
  fold_by {A} on end a (suc fuel) s at st =
      let more : A = on (decode_within limit a s at st) st (λ e. fold_by on end a fuel s (at + e.length) (next st e)) in
      cond (ltb at (length s)) more (end st)

  unfoldable pub fold_of : {A : Type 0} → Turn A → (State → A) → ℕ → List ℕ → ℕ → State → A
  fold_of on end a s at st = fold_by on end a (length s) s at st

  unfoldable pub walk_within : ℕ → List ℕ → ℕ → State → Result State Refusal
  walk_within a s at st = fold_of onward Ok a s at st

  unfoldable pub entries_within : ℕ → List ℕ → ℕ → State → List Entry
  entries_within a s at st = fold_of gather (λ _. []) a s at st

  -- 16 and 1 to 7 from a state on; 02, note 8: it "decides the rest from these and the bytes not yet read". In the RW string these bytes are its
  -- rest and the RO string; in the RO string they are its rest
  unfoldable pub rest_within : ℕ → State → List ℕ → List ℕ → Result Loaded Refusal
  rest_within count st rw ro =
      let last : State → Result Loaded Refusal = λ m. after (walk_within (mask_bytes count) ro 0 m) answer in
      cond st.ro (last st) (after (walk_within (mask_bytes count) rw 0 st) λ m. last (into_ro m))

  -- over both strings
  unfoldable pub strings_within : ℕ → List ℕ → List ℕ → Result Loaded Refusal
  strings_within count rw ro = rest_within count start rw ro

  -- the entries of the strings
  unfoldable pub rw_within : ℕ → List ℕ → List Entry
  rw_within count rw = entries_within (mask_bytes count) rw 0 start

  unfoldable pub ro_within : ℕ → List ℕ → List ℕ → List Entry
  ro_within count rw ro = on_end (walk_within (mask_bytes count) rw 0 start) λ st. entries_within (mask_bytes count) ro 0 (into_ro st)

  unfoldable pub both_within : ℕ → List ℕ → List ℕ → List Entry
  both_within count rw ro = rw_within count rw ++ ro_within count rw ro

  -- "The staged length is the RW sum, the active length the sum of all."
  unfoldable pub map_within : ℕ → List ℕ → List ℕ → Map
  map_within count rw ro =
      record {
        count = count;
        entries = both_within count rw ro;
        rw_count = length (rw_within count rw);
        staged = total (rw_within count rw);
        active = total (both_within count rw ro);
      }

  abbrev pub read_within : ℕ → List ℕ → List ℕ → Reading
  read_within count rw ro = record { sized = sized count rw ro; walked = strings_within count rw ro; map = map_within count rw ro }

-- the whole load: 9, then 16 and 1 to 7
abbrev pub load_on : Reading → Result Loaded Refusal
load_on r = cond r.sized r.walked (Err (plain 9))

-- with the limit of note 7
abbrev pub walk_of : ℕ → List ℕ → ℕ → State → Result State Refusal
walk_of = walk_within limited

abbrev pub entries_from : ℕ → List ℕ → ℕ → State → List Entry
entries_from = entries_within limited

abbrev pub rest_of : ℕ → State → List ℕ → List ℕ → Result Loaded Refusal
rest_of = rest_within limited

abbrev pub strings_of : ℕ → List ℕ → List ℕ → Result Loaded Refusal
strings_of = strings_within limited

abbrev pub rw_entries : ℕ → List ℕ → List Entry
rw_entries = rw_within limited

abbrev pub ro_entries : ℕ → List ℕ → List ℕ → List Entry
ro_entries = ro_within limited

abbrev pub entries_of : ℕ → List ℕ → List ℕ → List Entry
entries_of = both_within limited

abbrev pub map_of : ℕ → List ℕ → List ℕ → Map
map_of = map_within limited

abbrev pub read_of : ℕ → List ℕ → List ℕ → Reading
read_of = read_within limited

unfoldable pub load_of : ℕ → List ℕ → List ℕ → Result Loaded Refusal
load_of count rw ro = load_on (read_of count rw ro)

-- 02, note 8: "a load broken off after any entry and taken up again": given what it kept and the bytes not yet read, it answers what the load
-- answers. 9 is asked of what it is given
unfoldable pub resume_of : ℕ → State → List ℕ → List ℕ → Result Loaded Refusal
resume_of count st rw ro = cond (sized count rw ro) (rest_of count st rw ro) (Err (plain 9))

-- one entry of it: what is kept after the entry, and its Length
abbrev pub passed : State → Result Entry ℕ → Result (Option Passed) Refusal
passed st (Ok e) = past (next st e) e.length
passed st (Err n) = Err (at_entry n (entry_number st))

abbrev pub pass_in : ℕ → List ℕ → State → Result (Option Passed) Refusal
pass_in a s st = cond (ltb 0 (length s)) (passed st (decode_at a s 0 st)) passed_all

-- in the string that the load is in; with no byte of the RW string left, the first entry of the RO string
unfoldable pub pass_of : ℕ → State → List ℕ → List ℕ → Result (Option Passed) Refusal
pass_of count st rw ro =
    let a : ℕ = mask_bytes count in
    let one : Result (Option Passed) Refusal = cond st.ro (pass_in a ro st) (cond (ltb 0 (length rw)) (pass_in a rw st) (pass_in a ro (into_ro st))) in
    cond (sized count rw ro) one (Err (plain 9))
