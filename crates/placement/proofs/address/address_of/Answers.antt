-- `address_of` meets its contract.
use Rattle.std.proofs.Common.{arith}
use Rattle.placement.proofs.Addressing.{small, main-address, overflow-address, no-address}
use Rattle.placement.proofs.address.address_of.Goals as goal

pub overflow_add-bytes : goal.overflow_add-bytes
overflow_add-bytes c = omega (arith, small c.args.set c.line_of.ensures)

pub overflow_sub-bytes : goal.overflow_sub-bytes
overflow_sub-bytes c = omega (arith, small c.args.set c.line_of.ensures)

pub returns-then-offset-bytes : goal.returns-then-offset-bytes
returns-then-offset-bytes c = main-address c.args.set c.line_of.ensures c.args.offset c.if-offset-bytes.true

pub overflow_add-overflow : goal.overflow_add-overflow
overflow_add-overflow c = omega (arith, small c.args.set c.line_of.ensures)

pub overflow_sub-overflow : goal.overflow_sub-overflow
overflow_sub-overflow c = omega (arith, small c.args.set c.line_of.ensures)

pub returns-then-past-overflow : goal.returns-then-past-overflow
returns-then-past-overflow c =
    overflow-address c.args.set c.line_of.ensures c.args.offset c.if-offset-bytes.false c.if-past-overflow.true

pub returns : goal.returns
returns c = no-address c.args.set c.line_of.ensures c.args.offset c.if-offset-bytes.false c.if-past-overflow.false
