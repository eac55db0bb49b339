-- `entry` meets its contract.
use Rattle.descriptor.proofs.Adds.{adds-then}
use Rattle.descriptor.proofs.text.Text.entry.Goals as goal

pub returns : goal.returns
returns c = rw (← c.entry_number.ensures) (adds-then c.decimal.ensures c.line.ensures)
