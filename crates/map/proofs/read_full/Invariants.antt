-- `read_full`: what it has read is what the reader gave, and each turn reads more of it.
use Rattle.std.proofs.Common.{◌≤◌, ◌-◌, length, take}
use Rattle.std.specs.Io.KnownBytes.{Consumes}
use Rattle.map.proofs.read_full.Given as goal

abbrev pub invariant-loop-n : goal.invariant-loop-n
invariant-loop-n g l = (l.n ≤ length l.input) × Consumes (g.R.Read.remaining l.initial.reader) (g.R.Read.remaining l.reader) (take l.n l.input)

abbrev pub decreases-loop-n : goal.decreases-loop-n
decreases-loop-n g l = length l.input - l.n
