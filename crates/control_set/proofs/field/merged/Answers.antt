-- `merged` meets its contract.
use Rattle.control_set.proofs.Masks.{merge-masked}
use Rattle.control_set.proofs.field.merged.Goals as goal

pub returns : goal.returns
returns c =
    let s = c.args in
    merge-masked s.byte s.bit s.width s.value c.ones.result c.ranges.byte.fits c.requires.room c.requires.value_bound c.ones.ensures
