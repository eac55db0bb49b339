-- What an accepted map is: entries in a row from offset 0 on, each with room for its fields, all within 256 bytes.
use mathlib.Core.Path.{◌≡◌}
use mathlib.Core.List.{List, [], ◌∷◌}
use Prim.Native.Nat.{ℕ, zero, suc, ◌+◌, ◌*◌, ◌≤◌, ◌<◌}
use native.Mathlib.Omega.{arith}
use lib.ListN.{length, get_or}
use Rattle.rules.specs.Words.{Entry}
use Rattle.rules.specs.Load.{Map}
use Rattle.rules.specs.Place.{nothing, entry, parts_of, width_of, is_staged, held_by, length_of, Width}
use Rattle.rules.proofs.Basics.Tests.{by-test}

pub record GoodEntry (e : Entry) : Type 0 where
  pub width : 0 < parts_of e → Width (width_of e)
  pub room : parts_of e * width_of e ≤ e.memory

-- the offsets are the running sums of the MemoryLengths from `from` on, and the whole takes at most 256 bytes
abbrev pub Good : ℕ → List Entry → Type 0
Good from [] = from ≤ 256
Good from (e ∷ l) = GoodEntry e × (e.offset ≡ from) × Good (from + e.memory) l

pub record GoodMap (m : Map) : Type 0 where
  pub list : Good 0 m.entries
  pub count : m.count ≤ 15
  pub rw_count : m.rw_count ≤ length m.entries
  pub ends : (s e : ℕ) → e < held_by m s → (entry m e).offset + (entry m e).memory ≤ length_of m s
  pub lengths : (s : ℕ) → length_of m s ≤ 256

-- a list, by index
pub good-at : (from : ℕ) (l : List Entry) (n : ℕ) → Good from l → n < length l → GoodEntry (get_or l n nothing)
good-at from [] n g h = absurd (omega arith)
good-at from (e ∷ l) zero g h = g.0
good-at from (e ∷ l) (suc n) g h = good-at (from + e.memory) l n g.2 (omega arith)

pub starts : (from : ℕ) (l : List Entry) (n : ℕ) → Good from l → n < length l → from ≤ (get_or l n nothing).offset
starts from [] n g h = omega arith
starts from (e ∷ l) zero g h = omega arith
starts from (e ∷ l) (suc n) g h = omega (arith, starts (from + e.memory) l n g.2 (omega arith))

pub apart :
    (from : ℕ) (l : List Entry) (n k : ℕ)
    → Good from l
    → n < k
    → k < length l
    → (get_or l n nothing).offset + (get_or l n nothing).memory ≤ (get_or l k nothing).offset
apart from [] n k g l h = omega arith
apart from (e ∷ m) n zero g l h = omega arith
apart from (e ∷ m) zero (suc k) g l h = omega (arith, starts (from + e.memory) m k g.2 (omega arith))
apart from (e ∷ m) (suc n) (suc k) g l h = apart (from + e.memory) m n k g.2 (omega arith) (omega arith)

module _ (m : Map) (g : GoodMap m) where
  -- what a set holds are entries of the map
  pub held-lt : (s e : ℕ) → e < held_by m s → e < length m.entries
  unfolding held_by
  held-lt s e =
      by-test (λ n. e < n → e < length m.entries) (is_staged s) m.rw_count (length m.entries) (λ _ h. omega (arith, g.rw_count)) (λ _ h. h)

  -- RW entries are held by every set
  pub rw-held : (s e : ℕ) → e < m.rw_count → e < held_by m s
  unfolding held_by
  rw-held s e h = by-test (λ n. e < n) (is_staged s) m.rw_count (length m.entries) (λ _. h) (λ _. omega (arith, g.rw_count))

  pub entry-good : (s e : ℕ) → e < held_by m s → GoodEntry (entry m e)
  entry-good s e h = good-at 0 m.entries e g.list (held-lt s e h)

  pub entry-ends : (s e : ℕ) → e < held_by m s → (entry m e).offset + (entry m e).memory ≤ 256
  entry-ends s e h = omega (arith, g.ends s e h, g.lengths s)

  pub entries-apart :
      (s s' n k : ℕ) → n < held_by m s → k < held_by m s' → n < k → (entry m n).offset + (entry m n).memory ≤ (entry m k).offset
  entries-apart s s' n k hn hk l = apart 0 m.entries n k g.list l (held-lt s' k hk)
