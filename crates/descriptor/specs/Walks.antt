-- A walk of the strings: what it is given, how it ends at an entry that fails a check, and how it comes to the RO string.
use Rattle.std.specs.Prelude.{cond, List, ℕ, ◌+◌, ◌≤◌, Result, Ok, Err}
use Rattle.rules.specs.declared.Refusal.{Refusal}
use Rattle.rules.specs.declared.State.{State}
use Rattle.rules.specs.declared.Refusal.TheVariants.{AtEntry as at_entry}
use Rattle.rules.specs.Load.{into_ro, walk_of}
use Rattle.descriptor.specs.declared.decode.Past.{Past}
use Rattle.descriptor.specs.declared.state.Count.{Count}
use Rattle.descriptor.specs.declared.walk.Stop.{Stop}
use Rattle.descriptor.specs.declared.walk.Entered.{Entered}
use Rattle.descriptor.specs.Counts.{count_of, refuses, Small}

-- a refusal of a string alone, with so many entries before the string
abbrev pub refusal_at : Stop → ℕ → Refusal
refusal_at stop before = at_entry stop.number (before + stop.entries)

-- past an entry its counts, or its refusal with the number of its entry in the string
abbrev pub stopped_of : Result Past ℕ → ℕ → Result Count Stop
stopped_of (Ok p) k = Ok p.counts
stopped_of (Err n) k = refuses n k

-- past the RW string
abbrev pub past_rw : Result State Refusal → Result State Refusal
past_rw (Ok st) = Ok (into_ro st)
past_rw (Err r) = Err r

-- the state in which the RO string begins or goes on
unfoldable pub to_ro : ℕ → List ℕ → State → Result State Refusal
to_ro a rw st = cond st.ro (Ok st) (past_rw (walk_of a rw 0 st))

-- how many entries stand before that string, the staged length and the counts there
abbrev pub entered : ℕ → ℕ → Count → Result Entered Refusal
entered before staged c = Ok (record { before = before; staged = staged; counts = c })

abbrev pub entered_of : Result State Refusal → Result Entered Refusal
entered_of (Ok st) = entered st.before st.staged (count_of st)
entered_of (Err r) = Err r

abbrev pub entered_by : ℕ → List ℕ → State → Result Entered Refusal
entered_by a rw st = entered_of (to_ro a rw st)

abbrev pub SmallEntered : Result Entered Refusal → Type 0
SmallEntered (Ok e) = (e.before ≤ 255) × Small e.counts
SmallEntered (Err r) = Unit
