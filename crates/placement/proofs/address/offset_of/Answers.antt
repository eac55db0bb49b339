-- `offset_of` meets its contract.
use Rattle.std.proofs.Common.{arith}
use Rattle.placement.proofs.Addressing.{small, main-offset, overflow-offset, overflow-inside, no-offset}
use Rattle.placement.proofs.address.offset_of.Goals as goal

pub returns-then-has : goal.returns-then-has
returns-then-has c = main-offset c.args.set c.line_of.ensures c.args.at.page c.args.at.byte (rw c.has.ensures at c.if-has.true)

pub overflow_add-result : goal.overflow_add-result
overflow_add-result c = omega (arith, small c.args.set c.line_of.ensures)

pub returns-then-not-has : goal.returns-then-not-has
returns-then-not-has c =
    let g = c.args in
    no-offset g.set c.line_of.ensures g.at.page g.at.byte (rw c.has.ensures at c.if-has.false) (rw c.has-2.ensures at c.if-not-has.true)

pub overflow_sub-result-2 : goal.overflow_sub-result-2
overflow_sub-result-2 c = omega (arith, small c.args.set c.line_of.ensures)

pub overflow_add-result-2 : goal.overflow_add-result-2
overflow_add-result-2 c =
    let g = c.args in
    omega (arith, small g.set c.line_of.ensures, overflow-inside g.set c.line_of.ensures g.at.page g.at.byte (rw c.has-2.ensures at c.if-not-has.false))

pub returns : goal.returns
returns c =
    let g = c.args in
    overflow-offset g.set c.line_of.ensures g.at.page g.at.byte (rw c.has.ensures at c.if-has.false) (rw c.has-2.ensures at c.if-not-has.false)
