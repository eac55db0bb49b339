-- DEMAND 2 and note 2 of the code: `place` answers `place_of`, `owner` answers `owner_call` and `owner_at` answers `owner_at_call` (src/lib.rt), and
-- these agree both ways.
use mathlib.Core.Path.{◌≡◌}
use mathlib.Core.Logic.{◌↔◌}
use mathlib.Core.List.{List}
use Prim.Native.Nat.{ℕ, suc}
use Rattle.rules.specs.Words.{owned_by, placed_at}
use Rattle.rules.specs.Beside.{place_of, owner_call, owner_at_call}
use Rattle.rules.specs.Demands.{Accepted, PlaceCovers}
use Rattle.rules.specs.Notes.{PlaceCoversAt}
use Rattle.rules.proofs.Demands.{demand2, note2}

module _ (count : ℕ) (rw ro : List ℕ) (ok : Accepted count rw ro) where
  -- a bit's owner is the field whose place covers it, and no other; the entries up to the field's are looked at
  pub owner-of-place : (s k q e p i n : ℕ) → (owner_call count rw ro s k q ≡ owned_by e p i n) ↔ (PlaceCovers count rw ro s e p i k q × (n ≡ suc e))
  owner-of-place = (demand2 count rw ro ok).owner-is

  -- a field owns the place that it is given
  pub place-is-owned : (s e p i k page byte q : ℕ) → place_of count rw ro s e p i ≡ placed_at k page byte q → owner_call count rw ro s k q ≡ owned_by e p i (suc e)
  place-is-owned = (demand2 count rw ro ok).place-owned

  -- the same by an address
  pub owner-of-place-at : (s page byte q e p i n : ℕ) → (owner_at_call count rw ro s page byte q ≡ owned_by e p i n) ↔ (PlaceCoversAt count rw ro s e p i page byte q × (n ≡ suc e))
  owner-of-place-at = (note2.owners count rw ro ok).owner-is
