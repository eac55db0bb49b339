-- `line` meets its contract.
use Rattle.descriptor.proofs.Adds.{adds-none, adds-number, adds-line, spaces}
use Rattle.descriptor.proofs.text.Text.line.Goals as goal

pub loop-n-init : goal.loop-n-init
unfolding spaces
loop-n-init c = adds-none _

pub loop-n-preserved : goal.loop-n-preserved
loop-n-preserved c = adds-number _ _ c.loop-n-test.true c.loop-n.invariant c.spaced.ensures

pub returns : goal.returns
returns c = adds-line _ _ c.loop-n.auto.n-index-end c.loop-n-test.false c.loop-n.invariant c.push.ensures
