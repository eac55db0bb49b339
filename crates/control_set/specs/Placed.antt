-- The fields of an entry: some parts, of a width that divides 8, in a set's 256 bytes.
use Rattle.std.specs.Prelude.{◌≡◌, ℕ, ◌+◌, ◌*◌, ◌%◌, ◌≤◌, ◌<◌}

pub record Placed (offset parts width : ℕ) : Type 0 where
  pub some : 0 < parts
  pub whole : 8 % width ≡ 0
  pub inside : offset + parts * width ≤ 256
