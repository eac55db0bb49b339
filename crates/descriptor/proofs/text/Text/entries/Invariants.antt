-- The lines of the entries so far are written, and the state is one in the string.
use mathlib.Core.Path.{◌≡◌}
use Prim.Native.Nat.{◌-◌}
use lib.ListN.{length}
use Rattle.descriptor.proofs.Lines.{Writing}
use Rattle.descriptor.proofs.text.Text.entries.Given as goal

abbrev pub invariant-loop-from : goal.invariant-loop-from
invariant-loop-from l = Writing l.walk.a l.walk.s.now l.initial.st l.initial.self l.from l.st l.self × (l.walk.in_ro ≡ l.st.ro)

abbrev pub decreases-loop-from : goal.decreases-loop-from
decreases-loop-from l = length l.walk.s.now - l.from
