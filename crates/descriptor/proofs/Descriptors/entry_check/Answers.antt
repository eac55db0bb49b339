-- `entry_check` meets its contract.
use Rattle.std.proofs.Common.{◌∙◌, sym}
use Rattle.rules.proofs.Basics.Results.{handed-on}
use Rattle.descriptor.proofs.Locates.{located-yes, located-no}
use Rattle.descriptor.proofs.Descriptors.entry_check.Goals as goal

pub returns : goal.returns
returns c = let g = c.args in located-yes g.self.count g.self.rw.now g.self.ro.now g.entry _ _ _ (sym c.in_ok-locate.ensures)

pub returns-in_err-locate : goal.returns-in_err-locate
returns-in_err-locate c =
    let g = c.args in
    handed-on _ c.from_residual.ensures.1 ∙ (located-no g.self.count g.self.rw.now g.self.ro.now g.entry _ (sym c.in_err-locate.ensures))
