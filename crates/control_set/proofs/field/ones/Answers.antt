-- `ones` meets its contract.
use Rattle.control_set.proofs.Masks.{ones-byte}
use Rattle.control_set.proofs.field.ones.Goals as goal

pub returns : goal.returns
returns c = ones-byte c.args.width c.requires.1
