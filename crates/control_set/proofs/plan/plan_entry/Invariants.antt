-- The parts so far.
use Rattle.control_set.specs.Plan.{Parts}
use Rattle.control_set.proofs.plan.plan_entry.Given as goal

abbrev pub invariant-loop-part : goal.invariant-loop-part
invariant-loop-part l = Parts l.part l.f.offset l.f.width l.bits l.initial.plan l.plan
