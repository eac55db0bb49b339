-- `set_start` meets its contract.
use mathlib.Core.Path.{sym}
use native.Mathlib.Omega.{arith}
use Rattle.rules.proofs.Bank.Places.{set-start-staged, set-start-last}
use Rattle.rules.proofs.set_start.Goals as goal

pub returns-then-set-lt2 : goal.returns-then-set-lt2
returns-then-set-lt2 c = sym (set-start-staged c.args.set (omega arith))

pub returns : goal.returns
returns c = sym (set-start-last c.args.set (omega arith))
