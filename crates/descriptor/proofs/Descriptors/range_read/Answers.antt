-- `range_read` meets its contract.
use Rattle.std.proofs.Common.{refl}
use borrow.Author.Tests.{le-leb, lt-leb}
use Rattle.rules.specs.Descriptor.{mask_bytes, entry_at}
use Rattle.descriptor.specs.Reading.{range_by}
use Rattle.descriptor.proofs.Accepts.{range-is}
use Rattle.descriptor.proofs.Wides.{accepted-read}
use Rattle.descriptor.proofs.Descriptors.range_read.Goals as goal

pub returns-then-start-le120 : goal.returns-then-start-le120
unfolding range_by
returns-then-start-le120 c =
    let g = c.args in
    let a = mask_bytes g.self.count in
    rw (
      le-leb g.start 120 c.if-start-le120.true,
      c.range.ensures,
      c.accepted.ensures,
      c.rw_entry.ensures.0,
      c.rw_entry.ensures.1,
      c.rw_entry.ensures.2,
      c.values_of-values.ensures,
      c.byte_at.ensures,
      accepted-read a g.self.rw.now g.start 0,
    )
    (range-is (entry_at a g.self.rw.now g.start 0))

pub returns : goal.returns
unfolding range_by
returns c = rw (lt-leb c.args.start 120 c.if-start-le120.false) refl
