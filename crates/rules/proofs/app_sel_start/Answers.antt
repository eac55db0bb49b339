-- `app_sel_start` meets its contract.
use mathlib.Core.Path.{sym}
use native.Mathlib.Omega.{arith}
use Rattle.rules.specs.Layout.{app_sel_start}
use Rattle.rules.proofs.Bank.Places.{app-start-last}
use Rattle.rules.proofs.app_sel_start.Goals as goal

pub returns-then-set-eq0 : goal.returns-then-set-eq0
unfolding app_sel_start
returns-then-set-eq0 c = rw c.if-set-eq0.true

pub returns : goal.returns
returns c = sym (app-start-last c.args.set (omega arith))
