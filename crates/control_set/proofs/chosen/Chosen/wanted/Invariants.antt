-- The lanes so far.
use Rattle.control_set.specs.Chosen.{Wanted}
use Rattle.control_set.proofs.chosen.Chosen.wanted.Given as goal

abbrev pub invariant-loop-number : goal.invariant-loop-number
invariant-loop-number l = Wanted l.number l.self l.apps
