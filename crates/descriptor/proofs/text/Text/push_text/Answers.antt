-- `push_text` meets its contract.
use Rattle.descriptor.proofs.Adds.{adds-next}
use Rattle.descriptor.proofs.text.Text.push_text.Goals as goal

pub loop-byte-preserved : goal.loop-byte-preserved
loop-byte-preserved c = adds-next _ _ c.loop-byte-test.true c.loop-byte.invariant c.push.ensures
