-- The reader as its functions' contracts state it (specs/Take.antt): it moves only past an entry; and on a string that the load accepts it takes
-- from the beginning the walk's entries, start and length of each in order, and then the end, however often it is asked.
use Rattle.std.specs.Prelude.{Option, Result, Err}
use mathlib.Core.Path.{◌≡◌, refl, ap}
use mathlib.Core.List.{List, ◌∷◌, ◌++◌, map}
use Prim.Native.Nat.{ℕ, zero, suc, ◌+◌, ◌<◌}
use native.Mathlib.Nat.{zero-add, suc-add}
use native.Mathlib.Omega.{arith}
use lib.ListN.{length, get_or, take, drop, replicate}
use lib.Seq.{take-length, drop-length, drop-cons}
use denote.Ref.{Bor}
use Rattle.rules.specs.Words.{no_more, taken}
use Rattle.rules.specs.declared.Entry.{Entry}
use Rattle.rules.specs.declared.Refusal.{Refusal}
use Rattle.rules.specs.declared.Taken.{Taken}
use Rattle.rules.specs.Load.{rw_entries, ro_entries}
use Rattle.rules.specs.Place.{nothing}
use Rattle.rules.specs.Demands.{Accepted, lengths}
use Rattle.rules.proofs.Demands.{demand2}
use Rattle.rules.proofs.Refusals.ReaderRules as ReaderRules
use Rattle.rules.proofs.Load.ReaderWalk.{Reads, rw-reads, ro-reads}
use Rattle.reader.specs.declared.Reader.{Reader}
use Rattle.reader.specs.Take.{reader_of, taken_by, moved_by, takes_of}

-- a reader over a string at a position
abbrev over : Bor (List ℕ) → ℕ → Reader
over s position = record { src = s; at = position }

-- ---- moved_by
module _ (count : ℕ) (r : Reader) where
  pub moved-entry : (start n : ℕ) → taken_by count r ≡ taken start n → moved_by count r ≡ over r.src (r.at + n)
  moved-entry start n h = ap (over r.src) (ReaderRules.moved-entry count r.src.now r.at start n h)

  pub moved-end : taken_by count r ≡ no_more → moved_by count r ≡ r
  moved-end h = ap (over r.src) (ReaderRules.moved-end count r.src.now r.at h)

  pub moved-refused : (x : Refusal) → taken_by count r ≡ Err x → moved_by count r ≡ r
  moved-refused x h = ap (over r.src) (ReaderRules.moved-refused count r.src.now r.at x h)

-- ---- takes_of
abbrev pub part_of : Entry → Result (Option Taken) Refusal
part_of e = taken e.start e.length

module _ (count : ℕ) (s : Bor (List ℕ)) (l : List Entry) (reads : Reads count s.now l) (fills : lengths l ≡ length s.now) (k : ℕ) where
  takes-end : (n : ℕ) → takes_of count n (over s (length s.now)) ≡ replicate n no_more
  unfolding takes_of
  takes-end zero = refl
  takes-end (suc n) = rw reads.ends (ap (λ t. no_more ∷ t) (takes-end n))

  takes-from : (m n : ℕ) → n + m ≡ length l → takes_of count (m + k) (over s (lengths (take n l))) ≡ map part_of (drop n l) ++ replicate k no_more
  unfolding takes_of
  takes-from zero n h =
      let e : n ≡ length l = omega arith in
      rw (e, zero-add, take-length, drop-length, fills) (takes-end k)
  takes-from (suc m) n h =
      let lt : n < length l = omega arith in
      rw (suc-add, reads.moves n lt, reads.takes n lt, drop-cons l n nothing lt) (ap (λ t. part_of (get_or l n nothing) ∷ t) (takes-from m (suc n) (omega arith)))

  takes-all : takes_of count (length l + k) (over s 0) ≡ map part_of l ++ replicate k no_more
  takes-all = takes-from (length l) 0 (omega arith)

-- over the RW string, and over the RO string
pub rw-takes : (count : ℕ) (s : Bor (List ℕ)) (ro : List ℕ) → Accepted count s.now ro → (k : ℕ)
    → takes_of count (length (rw_entries count s.now) + k) (reader_of s) ≡ map part_of (rw_entries count s.now) ++ replicate k no_more
rw-takes count s ro ok k = takes-all count s (rw_entries count s.now) (rw-reads count s.now ro ok) (demand2 count s.now ro ok).rw-fills.ends k

pub ro-takes : (count : ℕ) (first : List ℕ) (s : Bor (List ℕ)) → Accepted count first s.now → (k : ℕ)
    → takes_of count (length (ro_entries count first s.now) + k) (reader_of s) ≡ map part_of (ro_entries count first s.now) ++ replicate k no_more
ro-takes count first s ok k = takes-all count s (ro_entries count first s.now) (ro-reads count first s.now ok) (demand2 count first s.now ok).ro-fills.ends k
