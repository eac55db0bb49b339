-- `field_in` meets its contract.
use Rattle.std.proofs.Common.{◌*◌, refl}
use borrow.Author.Tests.{le-ltb, lt-ltb}
use Rattle.placement.specs.Owner.{field_in}
use Rattle.placement.proofs.Small.{product-some, part-is, lane-is}
use Rattle.placement.proofs.field_in.Goals as goal

pub returns-then-not-byte-c : goal.returns-then-not-byte-c
unfolding field_in
returns-then-not-byte-c c = let g = c.args in rw (le-ltb g.byte (g.c.fields.parts * g.c.fields.width) c.if-not-byte-c.true) refl

-- past the test W is not 0
pub returns : goal.returns
unfolding field_in
returns c =
    let g = c.args in
    let h = c.if-not-byte-c.false in
    let some = product-some g.c.fields.parts g.c.fields.width _ h in
    rw (
      lt-ltb g.byte (g.c.fields.parts * g.c.fields.width) h,
      part-is g.byte g.c.fields.width g.bit some c.requires.3,
      lane-is g.byte g.c.fields.width g.bit some c.requires.3,
    )
    refl
