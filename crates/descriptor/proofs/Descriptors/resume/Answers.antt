-- `resume` meets its contract: the two walks are those of the rules.
use Rattle.rules.proofs.Basics.Results.{handed-on}
use Rattle.descriptor.specs.declared.state.Count.{Count}
use Rattle.descriptor.specs.declared.walk.Stop.{Stop}
use Rattle.std.specs.Prelude.{Result, Err}
use Rattle.std.proofs.Common.{◌≡◌, sym, ap, ◌∙◌}
use Rattle.rules.specs.Load.{resume_of}
use Rattle.rules.proofs.Load.Resumes.{resume-9}
use Rattle.descriptor.proofs.Limits.{limits-passed, limits-refused}
use Rattle.descriptor.proofs.Both.{closed, resume-rw-refused, resume-closed}
use Rattle.descriptor.proofs.Descriptors.resume.Goals as goal
use Rattle.descriptor.proofs.Descriptors.resume.Goals.{After-scan}

-- the walk of the RO string closes the load
closes : (c : After-scan) → (x : Result Count Stop) → c.scan.result ≡ x → closed c.in_ok-last.last.before c.in_ok-last.last.staged x ≡ resume_of c.args.self.count c.args.st c.args.self.rw.now c.args.self.ro.now
closes c x q =
    let g = c.args in
    resume-closed g.self.count g.st g.self.rw.now g.self.ro.now (limits-passed _ _ _ _ c.in_ok-check_limits.ensures) _ _ _
    (rw (c.walk.ensures.0, c.walk.ensures.1) at c.in_ok-last.ensures.answer)
    x
    (rw (q, c.walk-2.ensures.0, c.walk-2.ensures.1, c.walk-2.ensures.2) at c.scan.ensures.answer)

pub walk-requires : goal.walk-requires
walk-requires c = limits-passed _ _ _ _ c.in_ok-check_limits.ensures

pub walk-requires-2 : goal.walk-requires-2
walk-requires-2 c = limits-passed _ _ _ _ c.in_ok-check_limits.ensures

pub returns-in_err-check_limits : goal.returns-in_err-check_limits
returns-in_err-check_limits c =
    let g = c.args in
    let (p, q) = limits-refused _ _ _ _ c.in_err-check_limits.ensures in
    handed-on _ c.from_residual.ensures.1 ∙ ap Err q ∙ sym (resume-9 g.self.count g.self.rw.now g.self.ro.now g.st p)

pub returns-in_err-last : goal.returns-in_err-last
returns-in_err-last c =
    let g = c.args in
    handed-on _ c.from_residual-in_err-last.ensures.1 ∙ (resume-rw-refused g.self.count g.st g.self.rw.now g.self.ro.now (limits-passed _ _ _ _ c.in_ok-check_limits.ensures) _ (rw (c.walk.ensures.0, c.walk.ensures.1) at c.in_err-last.ensures.answer))

pub returns-in-Err : goal.returns-in-Err
returns-in-Err c = ap Err c.after.ensures ∙ closes (goal.at.returns-in-Err c).After-scan _ c.in-Err.is

pub returns-in-Ok : goal.returns-in-Ok
returns-in-Ok c = closes (goal.at.returns-in-Ok c).After-scan _ c.in-Ok.is
