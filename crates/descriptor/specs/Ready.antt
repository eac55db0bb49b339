-- A string that can be walked: an application mask has one or two bytes, and the string at most 120.
use Rattle.std.specs.Prelude.{List, ℕ, ◌≤◌, length}

pub record Ready (a : ℕ) (s : List ℕ) : Type 0 where
  pub mask-low : 1 ≤ a
  pub mask-top : a ≤ 2
  pub short : length s ≤ 120

-- an entry whose bytes can be read: no place of one is past what a number holds
pub record Readable (a at : ℕ) : Type 0 where
  pub mask-low : 1 ≤ a
  pub mask-top : a ≤ 2
  pub low : at ≤ 120
