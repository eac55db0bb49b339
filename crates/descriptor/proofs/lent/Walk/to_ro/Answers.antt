-- `to_ro` meets its contract.
use Rattle.std.specs.Prelude.{Err}
use Rattle.std.proofs.Common.{ap, ◌∙◌}
use Rattle.descriptor.proofs.Both.{entered-ro, entered-rw}
use Rattle.descriptor.proofs.lent.Walk.to_ro.Goals as goal

pub returns-then-begin-clause-answer : goal.returns-then-begin-clause-answer
returns-then-begin-clause-answer c = rw c.from.ensures.0 (entered-ro _ _ _ c.if-begin.true)

pub returns-in-Ok-clause-answer : goal.returns-in-Ok-clause-answer
returns-in-Ok-clause-answer c = entered-rw _ _ _ c.if-begin.false (rw (c.from-2.ensures.0, c.requires) at c.in-Ok.ensures.answer)

pub returns-in-Err-clause-answer : goal.returns-in-Err-clause-answer
returns-in-Err-clause-answer c =
    ap Err c.after.ensures ∙ entered-rw _ _ _ c.if-begin.false (rw (c.from-2.ensures.0, c.requires) at c.in-Err.ensures.answer)
