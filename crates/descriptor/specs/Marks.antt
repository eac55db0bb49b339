-- A pass over the entries of a string that the load accepts, by their Lengths and MemoryLengths alone.
use Rattle.std.specs.Prelude.{List, ℕ, zero, suc, ◌+◌, ◌≤◌, ◌<◌, length}
use Rattle.rules.specs.Descriptor.{byte_at}
use Rattle.descriptor.specs.declared.Mark.{Mark}

-- past the entry at a mark: its Length further in the string, its MemoryLength further in a set
abbrev pub past : ℕ → List ℕ → Mark → Mark
past a s mark = record { at = mark.at + byte_at s (mark.at + 1); sum = mark.sum + byte_at s (mark.at + 2 + a) }

-- a mark at which an entry can stand: its first bytes up to MemoryLength are in the string, and its space begins in a set
pub record OnEntry (a : ℕ) (s : List ℕ) (mark : Mark) : Type 0 where
  pub inside : mark.at + 2 + a < length s
  pub place : mark.at ≤ 120
  pub space : mark.sum ≤ 256

-- past n entries, the first of which has its space at a sum
unfoldable pub mark_after : ℕ → List ℕ → ℕ → ℕ → Mark
mark_after a s sum zero = record { at = 0; sum = sum }
mark_after a s sum (suc n) = past a s (mark_after a s sum n)

-- n entries can be passed
abbrev pub Passable : ℕ → List ℕ → ℕ → ℕ → Type 0
Passable a s sum n = (i : ℕ) → i < n → OnEntry a s (mark_after a s sum i)
