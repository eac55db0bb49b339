-- `byte_of` meets its contract.
use mathlib.Core.Path.{refl}
use native.Mathlib.Omega.{arith}
use Rattle.rules.proofs.Bank.Places.{size-is, set-inside}
use Rattle.control_set.proofs.bank.byte_of.Goals as goal

pub overflow_add-result : goal.overflow_add-result
overflow_add-result c = record { fits = omega (arith, size-is, c.set_start.ensures, set-inside c.args.set c.args.offset c.requires.0 c.requires.1) }

pub returns : goal.returns
returns c = rw c.set_start.ensures (refl, set-inside c.args.set c.args.offset c.requires.0 c.requires.1)
