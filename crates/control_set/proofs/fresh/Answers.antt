-- `fresh` meets its contract: refused by the gate, or cleared with the load's numbers.
use Rattle.std.proofs.Common.{refl}
use Rattle.rules.proofs.Basics.Results.{handed-on}
use Rattle.control_set.proofs.Outcomes.{answered, fresh-shut, fresh-open}
use Rattle.control_set.proofs.fresh.Goals as goal

pub returns-in_err-loaded : goal.returns-in_err-loaded
returns-in_err-loaded c = let g = c.args in answered (fresh-shut g.desc.count g.desc.rw.now g.desc.ro.now g.bank.now _ c.in_err-loaded.ensures) (handed-on _ c.from_residual.ensures.1) refl

pub returns : goal.returns
returns c = let g = c.args in answered (fresh-open g.desc.count g.desc.rw.now g.desc.ro.now g.bank.now c.in_ok-loaded.ensures) refl c.clear.ensures
