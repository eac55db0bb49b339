-- `fields` meets its contract.
use mathlib.Core.Path.{◌∙◌}
use Rattle.rules.specs.Descriptor.{entry_at}
use Rattle.descriptor.proofs.LentRows.{spaced-table}
use Rattle.descriptor.proofs.lent.Walk.fields.Goals as goal

pub returns : goal.returns
returns c =
    let g = c.args in
    c.fields_by.ensures ∙ rw (c.row_of.ensures, c.byte_at.ensures) (spaced-table (entry_at g.self.a g.self.s.now g.mark.at g.mark.sum))
