-- The bytes of the active set so far are merged.
use Rattle.control_set.specs.Plan.{AllBytes, Merged}
use Rattle.control_set.proofs.copy.copy_planned.Given as goal

abbrev pub invariant-loop-at : goal.invariant-loop-at
invariant-loop-at l = record {
  bytes : AllBytes l.initial.bank;
  merged : Merged l.at l.staged l.plan l.initial.bank l.bank;
}
