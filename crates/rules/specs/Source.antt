-- "apply": where a field of the active set takes its number from. Each machine finds the source of a field from its own state.
use Rattle.std.specs.Prelude.{Bool, true, false}

pub data Source : Type 0 where
  -- "the others keep their active number"
  kept : Source
  -- "is copied to the active set"
  copied : Source

-- 14 is about "a field to be copied"
abbrev pub is_copied : Source → Bool
is_copied kept = false
is_copied copied = true
