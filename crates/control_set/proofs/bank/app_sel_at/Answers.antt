-- `app_sel_at` meets its contract.
use mathlib.Core.Path.{refl}
use native.Mathlib.Omega.{arith}
use Rattle.rules.specs.Layout.{app_sel_at}
use Rattle.rules.proofs.Bank.Places.{size-is, app-inside}
use Rattle.control_set.proofs.bank.app_sel_at.Goals as goal

pub overflow_add-result : goal.overflow_add-result
unfolding app_sel_at
overflow_add-result c = record { fits = omega (arith, size-is, c.app_sel_start.ensures, app-inside c.args.set c.args.lane.number c.requires c.args.lane.real.1) }

pub returns : goal.returns
unfolding app_sel_at
returns c = rw c.app_sel_start.ensures (refl, app-inside c.args.set c.args.lane.number c.requires c.args.lane.real.1)
