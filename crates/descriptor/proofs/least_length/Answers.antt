-- `least_length` meets its contract.
use Rattle.std.proofs.Common.{refl}
use Rattle.descriptor.proofs.TableRows.{row}
use Rattle.descriptor.proofs.least_length.Goals as goal

pub returns : goal.returns
returns c = rw (c.row_of.ensures, (row c.args.id).least, c.mask_bytes.ensures.0) refl
