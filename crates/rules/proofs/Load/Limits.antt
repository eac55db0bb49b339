-- 02, note 7: where a walk without a limit comes to at most n entries of a string, a walk with the limit n is the same, and so is all
-- that is read of two such strings.
use Rattle.std.specs.Prelude.{Result, Ok, Err}
use mathlib.Core.Path.{◌≡◌, refl, ap}
use mathlib.Core.Bool.{Bool, true, false, cond}
use mathlib.Core.List.{List, [], ◌∷◌}
use Prim.Native.Nat.{ℕ, zero, suc, ◌+◌, ◌≤◌, ◌<◌}
use native.Mathlib.Omega.{arith}
use lib.ListN.{length}
use lib.Dec.{ltb}
use borrow.Author.Tests.{lt-leb}
use Rattle.rules.specs.Words.{Entry, State, Refusal}
use Rattle.rules.specs.Descriptor.{mask_bytes, unlimited, up_to, limited, entry_limit, decode_within}
use Rattle.rules.specs.Load.{start, next, into_ro, answer, Turn, onward, gather, after, on_end, fold_by, fold_of, walk_within, entries_within, rest_within, strings_within, rw_within, ro_within, both_within, map_within, Reading, read_of, load_on, load_of}
use Rattle.rules.specs.Bank.{bank_call_on, bank_call, fresh_on, fresh_call}
use Rattle.rules.specs.Table.{table_call_on, table_call}
use Rattle.rules.specs.Beside.{place_on, place_of, owner_on, owner_call, owner_at_on, owner_at_call, entry_answer_on, entry_answer, entry_bytes_on, entry_bytes, weight_on, weight_call}
use Rattle.rules.specs.MapProgram.{output_on, map_output}
use Rattle.rules.specs.Notes.{tally, AtMost16, AsBefore, read_before}

-- an entry before which fewer than n stand
decode-same : (n : ℕ) (a : ℕ) (s : List ℕ) (at : ℕ) (st : State)
    → st.entries < n
    → decode_within (up_to n) a s at st ≡ decode_within unlimited a s at st
unfolding decode_within
decode-same n a s at st h = rw (lt-leb n st.entries h)

-- a walk that makes of an entry what it makes of the rest behind it
module _ {A : Type 0} (on : Turn A) (end : State → A)
    (uses : (e : Entry) (st : State) (k k' : Entry → A) → k e ≡ k' e → on (Ok e) st k ≡ on (Ok e) st k')
    (fails : (n : ℕ) (st : State) (k k' : Entry → A) → on (Err n) st k ≡ on (Err n) st k')
    (n : ℕ) (a : ℕ) (s : List ℕ) where
  fold-same : (f at : ℕ) (st : State)
      → st.entries + fold_by unlimited tally (λ _. 0) a f s at st ≤ n
      → fold_by (up_to n) on end a f s at st ≡ fold_by unlimited on end a f s at st
  unfolding fold_by
  fold-same zero at st h = refl
  fold-same (suc f) at st h = go (ltb at (length s)) (decode_within unlimited a s at st) refl (λ e. fold-same f (at + e.length) (next st e)) h
    where
      rest : Entry → A
      rest e = fold_by unlimited on end a f s (at + e.length) (next st e)

      within : Entry → A
      within e = fold_by (up_to n) on end a f s (at + e.length) (next st e)

      met : Entry → ℕ
      met e = fold_by unlimited tally (λ _. 0) a f s (at + e.length) (next st e)

      go : (b : Bool) (d : Result Entry ℕ)
          → decode_within unlimited a s at st ≡ d
          → ((e : Entry) → st.entries + 1 + met e ≤ n → within e ≡ rest e)
          → st.entries + cond b (tally d st met) 0 ≤ n
          → cond b (on (decode_within (up_to n) a s at st) st within) (end st) ≡ cond b (on d st rest) (end st)
      go false d q ih h = refl
      go true (Err k) q ih h = rw (decode-same n a s at st (omega arith), q) (fails k st within rest)
      go true (Ok e) q ih h =
          rw (decode-same n a s at st (omega arith), q)
          (uses e st within rest (ih e (omega arith)))

module _ (n : ℕ) (a : ℕ) (s : List ℕ) (begin : State) (none : begin.entries ≡ 0) (h : fold_of unlimited tally (λ _. 0) a s 0 begin ≤ n) where
  walk-same : walk_within (up_to n) a s 0 begin ≡ walk_within unlimited a s 0 begin
  unfolding walk_within fold_of
  walk-same =
      fold-same onward Ok (λ e st k k' q. q) (λ m st k k'. refl) n a s (length s) 0 begin (omega arith)

  entries-same : entries_within (up_to n) a s 0 begin ≡ entries_within unlimited a s 0 begin
  unfolding entries_within fold_of
  entries-same =
      fold-same gather (λ _. []) (λ e st k k' q. ap (λ l. e ∷ l) q) (λ m st k k'. refl) n a s (length s) 0 begin (omega arith)

module _ (count : ℕ) (first last : List ℕ) (few : AtMost16 count first last) where
  abbrev a : ℕ
  a = mask_bytes count

  rw-walk : walk_within limited a first 0 start ≡ walk_within unlimited a first 0 start
  rw-walk = walk-same entry_limit a first start refl few.in-rw

  strings-same : strings_within limited count first last ≡ strings_within unlimited count first last
  unfolding strings_within rest_within
  strings-same = rw rw-walk (go (walk_within unlimited a first 0 start) refl)
    where
      go : (w : Result State Refusal)
          → walk_within unlimited a first 0 start ≡ w
          → after w (λ m. after (walk_within limited a last 0 (into_ro m)) answer)
          ≡ after w (λ m. after (walk_within unlimited a last 0 (into_ro m)) answer)
      go (Err r) q = refl
      go (Ok m) q = rw (walk-same entry_limit a last (into_ro m) refl (few.in-ro m q))

  rw-same : rw_within limited count first ≡ rw_within unlimited count first
  unfolding rw_within
  rw-same = entries-same entry_limit a first start refl few.in-rw

  ro-same : ro_within limited count first last ≡ ro_within unlimited count first last
  unfolding ro_within
  ro-same = rw rw-walk (go (walk_within unlimited a first 0 start) refl)
    where
      go : (w : Result State Refusal)
          → walk_within unlimited a first 0 start ≡ w
          → on_end w (λ m. entries_within limited a last 0 (into_ro m)) ≡ on_end w (λ m. entries_within unlimited a last 0 (into_ro m))
      go (Err r) q = refl
      go (Ok m) q = entries-same entry_limit a last (into_ro m) refl (few.in-ro m q)

  map-same : map_within limited count first last ≡ map_within unlimited count first last
  unfolding map_within both_within
  map-same = rw (rw-same, ro-same)

  read-same : read_of count first last ≡ read_before count first last
  read-same = rw (strings-same, map-same)

-- every call is said of what is read
pub as-before : (count : ℕ) (rw ro : List ℕ) → AtMost16 count rw ro → AsBefore count rw ro
unfolding load_of bank_call fresh_call table_call place_of owner_call owner_at_call entry_answer entry_bytes weight_call map_output
as-before count first last few =
    let same = read-same count first last few in
    record {
      reading = same;
      load = ap load_on same;
      map = ap (λ (r : Reading). r.map) same;
      call = λ c b. ap (λ r. bank_call_on r c b) same;
      fresh = λ b. ap (λ r. fresh_on r b) same;
      table = λ c t. ap (λ r. table_call_on r c t) same;
      place = λ s e p i. ap (λ r. place_on r s e p i) same;
      owner = λ s k q. ap (λ r. owner_on r s k q) same;
      owner_at = λ s page byte q. ap (λ r. owner_at_on r s page byte q) same;
      own-entry = λ e. ap (λ r. entry_answer_on r e) same;
      own-part = λ e. ap (λ r. entry_bytes_on r first last e) same;
      weight = λ b e i. ap (λ r. weight_on r b e i) same;
      program = λ input x y z. rw (x, y, z) (ap (λ r. output_on r input) same);
    }
