-- `plan_part` meets its contract.
use Rattle.std.proofs.Common.{◌≡◌, ◌∙◌, ◌+◌, ◌-◌, arith}
use Rattle.control_set.proofs.Plans.{laid}
use Rattle.control_set.proofs.plan.plan_part.Goals as goal

pub returns : goal.returns
returns c =
    let e : c.args.at + 8 - c.args.at ≡ 8 = omega arith in
    rw e (laid c.args.at c.args.bits c.args.plan.now _ (omega arith) (c.copy_from_slice.ensures.after ∙ c.to_le_bytes.ensures))
