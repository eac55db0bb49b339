-- What is taken from a string at a position, and by a reader: what the rules say it is, and where they say the reader stands after it.
use Rattle.std.specs.Prelude.{List, [], ◌∷◌, ℕ, zero, suc, ◌+◌, ◌≤◌, ⊤, Option, Some, None, Result, Ok, Err}
use Rattle.std.specs.Borrow.{Bor}
use Rattle.rules.specs.declared.Refusal.{Refusal}
use Rattle.rules.specs.declared.Taken.{Taken}
use Rattle.rules.specs.Reader.{take_of, moved_to}
use Rattle.reader.specs.declared.Taking.{Taking}
use Rattle.reader.specs.declared.Reader.{Reader}

-- an entry that is taken ends within so many bytes
abbrev pub EndsWithin : ℕ → Result (Option Taken) Refusal → Type 0
EndsWithin n (Ok (Some e)) = e.start + e.length ≤ n
EndsWithin n (Ok None) = ⊤
EndsWithin n (Err r) = ⊤

abbrev pub taking_of : ℕ → List ℕ → ℕ → Taking
taking_of count s at = record { taken = take_of count s at; at = moved_to (take_of count s at) at }

-- a reader at the beginning of a string
abbrev pub reader_of : Bor (List ℕ) → Reader
reader_of s = record { src = s; at = 0 }

-- what it takes, and the reader after it, over the same string; "moves only past an entry"
abbrev pub taken_by : ℕ → Reader → Result (Option Taken) Refusal
taken_by count r = take_of count r.src.now r.at

abbrev pub moved_by : ℕ → Reader → Reader
moved_by count r = record { src = r.src; at = moved_to (taken_by count r) r.at }

-- what it takes, so many times
unfoldable pub takes_of : ℕ → ℕ → Reader → List (Result (Option Taken) Refusal)
takes_of count zero r = []
takes_of count (suc n) r = taken_by count r ∷ takes_of count n (moved_by count r)
