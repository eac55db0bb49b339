-- The test is asked of the lanes so far.
use Rattle.std.proofs.Common.{◌≤◌, ◌<◌}
use Rattle.rules.specs.Refuse.{chooses}
use Rattle.control_set.specs.declared.lanes.Lane.{Lane}
use Rattle.control_set.proofs.lanes.lanes_where.Given as goal

abbrev pub invariant-loop-number : goal.invariant-loop-number
invariant-loop-number g l = (1 ≤ l.number) × ((i : Lane) → i.number < l.number → goal.F-post g l.test i (chooses l.lanes i.number))
