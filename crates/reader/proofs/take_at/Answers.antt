-- `take_at` meets its contract.
use Rattle.std.proofs.Common.{refl, sym, ap, ◌∙◌, Err, arith}
use Rattle.std.proofs.lemmas.Bool.{lt-ltb, le-ltb}
use Rattle.rules.specs.Descriptor.{mask_bytes}
use Rattle.rules.specs.Reader.{taken_of, take_of}
use Rattle.rules.proofs.Basics.Results.{handed-on}
use Rattle.descriptor.proofs.Limits.{limits-passed, limits-refused}
use Rattle.descriptor.proofs.Lengths.{Measured, length-refused, read-passed, read-refused}
use Rattle.reader.proofs.take_at.Goals as goal
use Rattle.reader.proofs.take_at.Goals.{In_ok-length}

measured : (c : In_ok-length) → let g = c.args in Measured (mask_bytes g.count) g.s.now g.at c.in_ok-length.length
measured c = let g = c.args in read-passed g.count g.s.now g.at c.if-s-at.false _ c.in_ok-length.ensures

pub returns-in_err-check_limits-clause-answer : goal.returns-in_err-check_limits-clause-answer
unfolding take_of
returns-in_err-check_limits-clause-answer c =
    let (p, q) = limits-refused _ _ _ _ c.in_err-check_limits.ensures in
    handed-on _ c.from_residual.ensures.1 ∙ ap Err q ∙ rw p refl

pub returns-then-s-at-clause-answer : goal.returns-then-s-at-clause-answer
unfolding take_of
returns-then-s-at-clause-answer c =
    rw (limits-passed _ _ _ _ c.in_ok-check_limits.ensures, le-ltb _ _ c.if-s-at.true) refl

pub returns-in_err-length-clause-answer : goal.returns-in_err-length-clause-answer
unfolding take_of
returns-in_err-length-clause-answer c =
    let g = c.args in
    let r = read-refused g.count g.s.now g.at c.if-s-at.false _ c.in_err-length.ensures in
    handed-on _ c.from_residual-in_err-length.ensures.1
    ∙ ap Err r.is
    ∙ rw (limits-passed _ _ _ _ c.in_ok-check_limits.ensures, lt-ltb _ _ c.if-s-at.false)
    (sym (ap taken_of (length-refused (mask_bytes g.count) g.s.now g.at r.number r.by 0 _)))

pub returns-clause-answer : goal.returns-clause-answer
unfolding take_of
returns-clause-answer c =
    let g = c.args in
    let m = measured (goal.at.returns-clause-answer c).In_ok-length in
    rw (limits-passed _ _ _ _ c.in_ok-check_limits.ensures, lt-ltb _ _ c.if-s-at.false, m.is) (sym (ap taken_of (m.passes 0 _)))

pub returns-clause-inside : goal.returns-clause-inside
returns-clause-inside c =
    let m = measured (goal.at.returns-clause-inside c).In_ok-length in
    omega (arith, m.inside, c.if-s-at.false)
