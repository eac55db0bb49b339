-- `lanes_where` meets its contract.
use Rattle.std.proofs.Common.{arith}
use Rattle.control_set.proofs.LaneMasks.{lanes-next}
use Rattle.control_set.proofs.lanes.lanes_where.Goals as goal

pub loop-number-preserved : goal.loop-number-preserved
loop-number-preserved g c =
    let l = c.loop-number in
    (omega arith, rw c.with_lane-lanes.ensures (lanes-next (λ i v. goal.F-post g c.args.test i v) _ l.lanes c.test.result l.invariant.1 c.test.ensures))
