-- `load` meets its contract: 9, else what the walks say.
use Rattle.std.specs.Prelude.{Err}
use Rattle.std.proofs.Common.{sym, ap, ◌∙◌}
use Rattle.rules.proofs.Basics.Results.{handed-on}
use Rattle.rules.proofs.Load.Loads.{load-9}
use Rattle.descriptor.proofs.Limits.{limits-refused}
use Rattle.descriptor.proofs.Descriptors.load.Goals as goal

pub returns-in_err-check_limits : goal.returns-in_err-check_limits
returns-in_err-check_limits c =
    let g = c.args.self in
    let (p, q) = limits-refused _ _ _ _ c.in_err-check_limits.ensures in
    handed-on _ c.from_residual.ensures.1 ∙ ap Err q ∙ sym (load-9 g.count g.rw.now g.ro.now p)
