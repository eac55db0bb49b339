-- 9, as the load tests it.
use Rattle.std.specs.Prelude.{cond, List, ℕ, Result, Ok, Err}
use Rattle.rules.specs.declared.Refusal.{Refusal}
use Rattle.rules.specs.declared.Refusal.TheVariants.{Plain as plain}
use Rattle.rules.specs.Load.{sized}

unfoldable pub limits_of : ℕ → List ℕ → List ℕ → Result Unit Refusal
limits_of count rw ro = cond (sized count rw ro) (Ok tt) (Err (plain 9))
