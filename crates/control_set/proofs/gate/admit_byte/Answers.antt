-- `admit_byte` meets its contract: past 9 and 8, the entry that covers the byte gives the rest.
use Rattle.std.proofs.Common.{Ok, ap, ◌∙◌, ◌≤◌, ◌<◌, sym, arith}
use Rattle.std.proofs.Math.Nat.{mul-le-mul}
use Rattle.rules.proofs.Basics.Results.{handed-on}
use Rattle.descriptor.proofs.Sets.{spaced-passed, spaced-refused}
use Rattle.descriptor.proofs.Covers.{Covering, cover-one}
use Rattle.control_set.proofs.ByteCalls.{byte-refused, byte-none, byte-10, byte-small, byte-has}
use Rattle.control_set.proofs.gate.admit_byte.Goals as goal
use Rattle.control_set.proofs.gate.admit_byte.Goals.{In-Some}

-- the entry that covers the byte, in what the match binds
covering : (c : In-Some) →
    let g = c.args in
    let x = c.in-Some.by in
    Covering g.desc.count g.desc.rw.now g.desc.ro.now g.offset x.ro x.number x.fields
covering c = let g = c.args in (cover-one g.desc.count g.desc.rw.now g.desc.ro.now g.offset _ _ _ _ (sym (ap Ok (sym c.in-Some.is) ∙ c.in_ok-covered.ensures))).0

small : (c : In-Some) →
    let g = c.args in
    let x = c.in-Some.by in
    (x.fields.offset ≤ g.offset) × (g.offset < 256) × (x.fields.parts < 16) × (x.fields.width < 16)
small c =
    let g = c.args in
    byte-small g.desc.count g.desc.rw.now g.desc.ro.now g.size g.set g.offset c.in_ok-check_size.ensures.0 c.in_ok-check_size.ensures.1 (covering c)

pub returns-in_err-check_size : goal.returns-in_err-check_size
returns-in_err-check_size c = rw (handed-on _ c.from_residual.ensures.1) (λ rest _. c.in_err-check_size.ensures rest)

pub returns-in_err-spaced : goal.returns-in_err-spaced
returns-in_err-spaced c =
    let g = c.args in
    let (p, q) = spaced-refused c.in-Some.by g.set _ c.in_err-spaced.ensures in
    rw (handed-on _ c.from_residual-in_err-spaced.ensures.1, q)
    (byte-10 g.desc.count g.desc.rw.now g.desc.ro.now g.size g.set g.offset c.in_ok-check_size.ensures.0 c.in_ok-check_size.ensures.1
    (covering (goal.at.returns-in_err-spaced c).In-Some) p)

pub overflow_sub-result : goal.overflow_sub-result
overflow_sub-result c = (small (goal.at.overflow_sub-result c).In-Some).0

pub overflow_mul-result : goal.overflow_mul-result
overflow_mul-result c =
    let x = c.in-Some.by in
    let h = small (goal.at.overflow_mul-result c).In-Some in
    let u : x.fields.parts ≤ 15 = omega arith in
    let v : x.fields.width ≤ 15 = omega arith in
    omega (arith, mul-le-mul u v)

pub returns-in_err-covered : goal.returns-in_err-covered
returns-in_err-covered c =
    let g = c.args in
    rw (handed-on _ c.from_residual-in_err-covered.ensures.1)
    (λ rest _. byte-refused g.desc.count g.desc.rw.now g.desc.ro.now g.size g.set g.offset c.in_ok-check_size.ensures.0 c.in_ok-check_size.ensures.1 _ (sym c.in_err-covered.ensures) rest)

pub returns-in_default : goal.returns-in_default
returns-in_default c =
    let g = c.args in
    byte-none g.desc.count g.desc.rw.now g.desc.ro.now g.size g.set g.offset c.in_ok-check_size.ensures.0 c.in_ok-check_size.ensures.1
    (sym (ap Ok (sym c.in_default.is) ∙ c.in_ok-covered.ensures))

pub returns : goal.returns
returns c =
    let g = c.args in
    byte-has g.desc.count g.desc.rw.now g.desc.ro.now g.size g.set g.offset c.in_ok-check_size.ensures.0 c.in_ok-check_size.ensures.1
    (covering (goal.at.returns c).In-Some) (spaced-passed c.in-Some.by g.set _ c.in_ok-spaced.ensures)
