-- `admit` meets its contract: past 9 and 8, the load checks the entries.
use Rattle.rules.proofs.Basics.Results.{handed-on}
use Rattle.control_set.proofs.Outcomes.{gated}
use Rattle.control_set.proofs.gate.admit.Goals as goal

pub returns-in_err-check_size : goal.returns-in_err-check_size
returns-in_err-check_size c = rw (handed-on _ c.from_residual.ensures.1) c.in_err-check_size.ensures

pub returns : goal.returns
returns c =
    let g = c.args in
    let (fine, size) = c.in_ok-check_size.ensures in
    gated g.desc.count g.desc.rw.now g.desc.ro.now g.size _ fine size c.load.ensures
