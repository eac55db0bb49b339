-- `admit_field` meets its contract.
use Rattle.rules.proofs.Bank.Places.{size-is}
use Rattle.control_set.proofs.FieldCalls.{found-gated}
use Rattle.control_set.proofs.gate.admit_field.Goals as goal

pub returns : goal.returns
returns c =
    let g = c.args in
    found-gated g.desc.count g.desc.rw.now g.desc.ro.now g.size g.field.entry g.field.part g.field.lane c.find.result (rw size-is c.find.ensures)
