-- `length_read` meets its contract.
use Rattle.std.proofs.Common.{refl, ap}
use Rattle.std.proofs.lemmas.Bool.{lt-ltb, le-ltb}
use Rattle.descriptor.specs.Reading.{lengthed, length_by}
use Rattle.descriptor.proofs.Descriptors.length_read.Goals as goal

pub returns-then-self-start : goal.returns-then-self-start
unfolding length_by
returns-then-self-start c = rw (le-ltb _ _ c.if-self-start.true) refl

pub returns-in-Ok : goal.returns-in-Ok
unfolding length_by
returns-in-Ok c = rw (lt-ltb _ _ c.if-self-start.false, ← c.mask_bytes.ensures.0) (ap lengthed c.in-Ok.ensures)

pub returns-in-Err : goal.returns-in-Err
unfolding length_by
returns-in-Err c = rw (lt-ltb _ _ c.if-self-start.false, ← c.mask_bytes.ensures.0) (ap lengthed c.in-Err.ensures)
