-- The entries of accepted strings fill them: each begins directly after the one before, from the first byte to the last.
-- `Filled` says it of a list from a place on, with the state at which each entry passes the checks.
use Rattle.std.specs.Prelude.{Result, Ok, Err}
use mathlib.Core.Path.{◌≡◌, refl, ap}
use mathlib.Core.Bool.{Bool, true, false, cond}
use mathlib.Core.List.{List, [], ◌∷◌}
use Prim.Native.Nat.{ℕ, zero, suc, ◌+◌, ◌≤◌, ◌<◌}
use native.Mathlib.Nat.{zero-add}
use native.Mathlib.Omega.{arith}
use lib.ListN.{length, get_or, take}
use lib.Dec.{ltb}
use borrow.Author.Tests.{ltb-true, ltb-false}
use Rattle.rules.specs.Words.{Entry, State, Refusal}
use Rattle.rules.specs.Descriptor.{mask_bytes, entry_at, decode_at, limited}
use Rattle.rules.specs.Load.{start, next, into_ro, fold_by, fold_of, onward, walk_of, gather, entries_from, rw_entries, ro_entries, entries_within, ro_within, rw_within, walk_within}
use Rattle.rules.specs.Place.{nothing}
use Rattle.rules.specs.Columns.{ExtrasRead}
use Rattle.rules.specs.Demands.{Accepted, lengths, Fills}
use Rattle.rules.proofs.Load.Checks.{decode-passed}
use Rattle.rules.proofs.Table.Columns.{extras-say}
use Rattle.rules.proofs.Load.Walks.{Map-accepted, load-accepted}

-- an entry that passes the checks at a place of a string
pub record Stands (a : ℕ) (s : List ℕ) (from : ℕ) (e : Entry) : Type 0 where
  pub st : State
  pub left : from < length s
  pub passes : decode_at a s from st ≡ Ok e

-- entries that stand one directly after the other, from a place of a string to its end
abbrev pub Filled : ℕ → List ℕ → ℕ → List Entry → Type 0
Filled a s from [] = from ≡ length s
Filled a s from (e ∷ l) = Stands a s from e × Filled a s (from + e.length) l

module _ (a : ℕ) (s : List ℕ) where
  module _ (end : State) where
    -- one turn of the two walks
    filled-turn :
        (f at : ℕ) (st : State) (k : Entry → Result State Refusal) (l : Entry → List Entry)
        → ((e : Entry) → at + e.length ≤ length s → length s ≤ at + e.length + f → k e ≡ Ok end → Filled a s (at + e.length) (l e))
        → at ≤ length s
        → length s ≤ at + suc f
        → (b : Bool) (d : Result Entry ℕ)
        → ltb at (length s) ≡ b
        → decode_at a s at st ≡ d
        → cond b (onward d st k) (Ok st) ≡ Ok end
        → Filled a s at (cond b (gather d st l) [])
    filled-turn f at st k l ih u g false d t q h = omega (arith, ltb-false)
    filled-turn f at st k l ih u g true (Err n) t q h = let z : ◌≡◌ {A = ℕ} 0 1 = cc in absurd (omega arith)
    filled-turn f at st k l ih u g true (Ok e) t q h =
        let p = decode-passed a s at st e q in
        let lt = ltb-true at (length s) t in
        (record { st = st; left = lt; passes = q }, ih e (omega arith) (omega arith) h)

    filled-by :
        (f at : ℕ) (st : State)
        → at ≤ length s
        → length s ≤ at + f
        → fold_by limited onward Ok a f s at st ≡ Ok end
        → Filled a s at (fold_by limited gather (λ _. []) a f s at st)
    unfolding fold_by
    filled-by zero at st u g h = omega arith
    filled-by (suc f) at st u g h =
        filled-turn f at st
        (λ e. fold_by limited onward Ok a f s (at + e.length) (next st e))
        (λ e. fold_by limited gather (λ _. []) a f s (at + e.length) (next st e))
        (λ e. filled-by f (at + e.length) (next st e))
        u
        g
        (ltb at (length s))
        (decode_at a s at st)
        refl
        refl
        h

    walk-filled : (at : ℕ) (st : State) → at ≤ length s → walk_of a s at st ≡ Ok end → Filled a s at (entries_from a s at st)
    unfolding walk_within fold_of entries_within
    walk-filled at st u h = filled-by (length s) at st u (omega arith) h

  -- an entry stands after all those before it
  filled-at :
      (from : ℕ) (l : List Entry) (n : ℕ)
      → Filled a s from l
      → n < length l
      → Stands a s (from + lengths (take n l)) (get_or l n nothing)
  filled-at from [] n g h = absurd (omega arith)
  filled-at from (e ∷ l) zero g h = let q : from + 0 ≡ from = omega arith in rw q g.0
  filled-at from (e ∷ l) (suc n) g h =
      let q : from + (e.length + lengths (take n l)) ≡ from + e.length + lengths (take n l) = omega arith in
      rw q (filled-at (from + e.length) l n g.1 (omega arith))

  pub filled-nth : (l : List Entry) (n : ℕ) → Filled a s 0 l → n < length l → Stands a s (lengths (take n l)) (get_or l n nothing)
  filled-nth l n g h = rw zero-add at (filled-at 0 l n g h)

  filled-ends : (from : ℕ) (l : List Entry) → Filled a s from l → from + lengths l ≡ length s
  filled-ends from [] g = omega arith
  filled-ends from (e ∷ l) g = omega (arith, filled-ends (from + e.length) l g.1)

  pub stands-start : {from : ℕ} {e : Entry} → Stands a s from e → e.start ≡ from
  stands-start {from} {e} g = ap (λ (x : Entry). x.start) (decode-passed a s from g.st e g.passes).entry

  -- an entry says what the bytes at its start say
  stands-says : {from : ℕ} {e : Entry} → Stands a s from e → e ≡ entry_at a s e.start e.offset
  stands-says {from} {e} g = rw (decode-passed a s from g.st e g.passes).entry refl

  pub filled-extras : (l : List Entry) → Filled a s 0 l → (n : ℕ) → n < length l → ExtrasRead a s (get_or l n nothing)
  filled-extras l g n h =
      let x = get_or l n nothing in extras-say a s x.start x.offset (stands-says (filled-nth l n g h))

  filled-fills : (l : List Entry) → Filled a s 0 l → Fills a s l
  filled-fills l g =
      record {
        ends = omega (arith, filled-ends 0 l g);
        starts = λ n h. stands-start (filled-nth l n g h);
        says = λ n h. stands-says (filled-nth l n g h);
      }

module _ (count : ℕ) (first last : List ℕ) (ok : Accepted count first last) where
  a : Map-accepted count first last ok.rw_count ok.ro_count ok.staged ok.active
  a = load-accepted count first last _ _ _ _ ok.loads

  pub rw-filled : Filled (mask_bytes count) first 0 (rw_entries count first)
  unfolding rw_within
  rw-filled = walk-filled (mask_bytes count) first a.middle 0 start (omega arith) a.rw-ends

  pub ro-filled : Filled (mask_bytes count) last 0 (ro_entries count first last)
  unfolding ro_within
  ro-filled =
      rw a.rw-ends (walk-filled (mask_bytes count) last a.end 0 (into_ro a.middle) (omega arith) a.ro-ends)

  pub rw-fills : Fills (mask_bytes count) first (rw_entries count first)
  rw-fills = filled-fills (mask_bytes count) first (rw_entries count first) rw-filled

  pub ro-fills : Fills (mask_bytes count) last (ro_entries count first last)
  ro-fills = filled-fills (mask_bytes count) last (ro_entries count first last) ro-filled
