-- `named` meets its contract.
use mathlib.Core.Path.{◌∙◌}
use Rattle.rules.specs.Descriptor.{entry_at}
use Rattle.descriptor.proofs.LentRows.{shaped-table}
use Rattle.descriptor.proofs.lent.Walk.named.Goals as goal

pub returns : goal.returns
returns c =
    let g = c.args in
    c.named.ensures ∙ rw (c.row_of.ensures, c.id.ensures) (shaped-table g.self.in_ro (entry_at g.self.a g.self.s.now g.mark.at g.mark.sum))
