-- `line`: the numbers so far are added.
use Rattle.std.proofs.Common.{◌*◌, take}
use Rattle.descriptor.specs.Text.{Adds}
use Rattle.descriptor.proofs.Adds.{spaces}
use Rattle.descriptor.proofs.text.Text.line.Given as goal

abbrev pub invariant-loop-n : goal.invariant-loop-n
invariant-loop-n l = Adds (4 * l.n-index) (spaces (take l.n-index l.numbers)) l.initial.self l.self
