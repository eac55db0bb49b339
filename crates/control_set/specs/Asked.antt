-- What apply is asked: a count that can be, a staged set, and a bank for it.
use Rattle.std.specs.Prelude.{ℕ, ◌≤◌, ◌<◌, length}
use Rattle.rules.specs.Layout.{bank_size}
use Rattle.rules.specs.Bank.{Bank}

pub record Asked (n s : ℕ) (b : Bank) : Type 0 where
  pub count : n ≤ 15
  pub staged : s < 2
  pub size : bank_size ≤ length b
