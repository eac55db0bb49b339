-- So many entries are read.
use Rattle.std.proofs.Common.{◌≡◌, ◌≤◌}
use Rattle.rules.specs.Descriptor.{mask_bytes}
use Rattle.descriptor.specs.Marks.{mark_after}
use Rattle.control_set.specs.Plan.{own_entry}
use Rattle.control_set.proofs.Plans.{Upto}
use Rattle.control_set.proofs.plan.plan_all.Given as goal

abbrev pub invariant-loop : goal.invariant-loop
invariant-loop l =
    (l.counter ≤ l.entries)
    × (l.mark ≡ mark_after (mask_bytes l.served.chosen.desc.count) l.served.chosen.desc.rw.now 0 l.counter)
    × Upto l.served.chosen (own_entry l.served.chosen) l.counter l.plan l.spreads l.last l.refused
