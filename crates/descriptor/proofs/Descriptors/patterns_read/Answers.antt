-- `patterns_read` meets its contract.
use mathlib.Core.Path.{refl}
use borrow.Author.Tests.{le-leb, lt-leb}
use Rattle.descriptor.specs.Reading.{patterns_by}
use Rattle.descriptor.proofs.Descriptors.patterns_read.Goals as goal

pub returns-then-start-le120 : goal.returns-then-start-le120
unfolding patterns_by
returns-then-start-le120 c = rw (le-leb c.args.start 120 c.if-start-le120.true, ← c.rw_entry.ensures.0, ← c.rw_entry.ensures.1, ← c.rw_entry.ensures.2) c.patterns.ensures

pub returns : goal.returns
unfolding patterns_by
returns c = rw (lt-leb c.args.start 120 c.if-start-le120.false) refl
