-- Where an entry stands: its string, its start and length there and its offset in a set, refused as the entry call is.
use Rattle.std.specs.Prelude.{Bool, not, List, ℕ, ◌+◌, Result, Ok, Err}
use Rattle.rules.specs.declared.Refusal.{Refusal}
use Rattle.rules.specs.Load.{Reading, read_of}
use Rattle.rules.specs.Place.{entry, is_rw}
use Rattle.rules.specs.Refuse.{Verdict, passes, refuses}
use Rattle.rules.specs.Beside.{entry_verdict}
use Rattle.rules.specs.Descriptor.{byte_at}
use Rattle.descriptor.specs.Marks.{mark_after}
use Rattle.descriptor.specs.declared.Mark.{Mark}
use Rattle.descriptor.specs.declared.Located.{Located}

abbrev pub at : Bool → Mark → ℕ → Result Located Refusal
at in_ro mark length = Ok (record { ro = in_ro; mark = mark; length = length })

-- entry n of a string whose entries can be passed
abbrev pub located_after : Bool → ℕ → List ℕ → ℕ → ℕ → Located
located_after in_ro a s sum n = record { ro = in_ro; mark = mark_after a s sum n; length = byte_at s ((mark_after a s sum n).at + 1) }

abbrev pub located : Verdict → Result Located Refusal → Result Located Refusal
located passes x = x
located (refuses r) x = Err r

abbrev pub located_on : Reading → ℕ → Result Located Refusal
located_on r e =
    located
    (entry_verdict r e)
    (at (not (is_rw r.map e)) (record { at = (entry r.map e).start; sum = (entry r.map e).offset }) (entry r.map e).length)

unfoldable pub located_of : ℕ → List ℕ → List ℕ → ℕ → Result Located Refusal
located_of count rw ro e = located_on (read_of count rw ro) e
