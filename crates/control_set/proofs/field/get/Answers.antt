-- `get` meets its contract.
use lib.Bits.{and_mask}
use Rattle.control_set.proofs.field.get.Goals as goal

pub returns : goal.returns
returns c = rw (c.ones.ensures, and_mask)
