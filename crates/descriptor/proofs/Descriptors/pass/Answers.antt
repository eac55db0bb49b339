-- `pass` meets its contract.
use Rattle.std.proofs.Common.{Err, sym, ap, ◌∙◌}
use Rattle.rules.proofs.Basics.Results.{handed-on}
use Rattle.descriptor.proofs.Limits.{limits-passed, limits-refused}
use Rattle.rules.proofs.Load.Resumes.{pass-9, pass-in-ro, pass-in-rw, pass-into-ro}
use Rattle.descriptor.proofs.Descriptors.pass.Goals as goal

pub walk-requires : goal.walk-requires
walk-requires c = limits-passed _ _ _ _ c.in_ok-check_limits.ensures

pub walk-requires-then-self-gt0 : goal.walk-requires-then-self-gt0
walk-requires-then-self-gt0 c = limits-passed _ _ _ _ c.in_ok-check_limits.ensures

pub walk-requires-2 : goal.walk-requires-2
walk-requires-2 c = limits-passed _ _ _ _ c.in_ok-check_limits.ensures

pub returns-in_err-check_limits : goal.returns-in_err-check_limits
returns-in_err-check_limits c =
    let g = c.args in
    let (p, q) = limits-refused _ _ _ _ c.in_err-check_limits.ensures in
    handed-on _ c.from_residual.ensures.1 ∙ ap Err q ∙ sym (pass-9 g.self.count g.self.rw.now g.self.ro.now g.st p)

pub returns-then-st : goal.returns-then-st
returns-then-st c =
    let g = c.args in
    rw (c.walk.ensures.0, c.walk.ensures.1) at c.pass.ensures ∙ sym (pass-in-ro g.self.count g.self.rw.now g.self.ro.now g.st (limits-passed _ _ _ _ c.in_ok-check_limits.ensures) c.if-st.true)

pub returns-then-self-gt0 : goal.returns-then-self-gt0
returns-then-self-gt0 c =
    let g = c.args in
    rw (c.walk-then-self-gt0.ensures.0, c.walk-then-self-gt0.ensures.1) at c.pass-then-self-gt0.ensures
    ∙ sym (pass-in-rw g.self.count g.self.rw.now g.self.ro.now g.st (limits-passed _ _ _ _ c.in_ok-check_limits.ensures) c.if-st.false c.if-self-gt0.true)

pub returns : goal.returns
returns c =
    let g = c.args in
    rw (c.walk-2.ensures.0, c.walk-2.ensures.1, c.into_ro.ensures) at c.pass-2.ensures
    ∙ sym (pass-into-ro g.self.count g.self.rw.now g.self.ro.now g.st (limits-passed _ _ _ _ c.in_ok-check_limits.ensures) c.if-st.false c.if-self-gt0.false)
