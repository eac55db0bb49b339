-- `named` meets its contract.
use Rattle.descriptor.proofs.Wides.{named-read}
use Rattle.descriptor.proofs.reading.EntryAt.named.Goals as goal

pub returns : goal.returns
returns c =
    let g = c.args in
    rw (c.fields_by.ensures, c.accepted.ensures, c.step.ensures, c.are_signed.ensures, c.values_of-values.ensures)
    (named-read g.in_ro g.self.a g.self.s.now g.self.at g.sum c.id-id.result g.row c.id-id.ensures)
