-- `plan_entry` meets its contract.
use Rattle.control_set.proofs.LaneMasks.{width-le, whole-width}
use Rattle.control_set.proofs.Plans.{parts-next}
use Rattle.control_set.proofs.plan.plan_entry.Goals as goal

pub loop-part-preserved : goal.loop-part-preserved
loop-part-preserved c = parts-next (width-le c.args.f.fields.width (whole-width c.args.f.fields.width c.args.f.placed.whole)) c.requires.0 c.loop-part.invariant c.plan_part.ensures
