-- A test that holds at every ID: computed at each ID that the table names, and shown once for all others.
use mathlib.Core.Path.{◌≡◌, refl}
use mathlib.Core.Bool.{Bool, true, false, ◌&&◌, beq}
use Prim.Native.Nat.{ℕ, zero, suc, ◌≤◌, ◌<◌}
use native.Mathlib.Omega.{arith}
use native.Mathlib.Decide.{ℕ_discrete, dec_lt}
use lib.Dec.{T}
use Rattle.rules.proofs.Basics.Tests.{and₂}

abbrev pub below : ℕ → (ℕ → Bool) → Bool
below zero f = true
below (suc n) f = f n && below n f

pub below-at : (n : ℕ) (f : ℕ → Bool) → T (below n f) → (k : ℕ) → k < n → T (f k)
below-at zero f t k l = absurd (omega arith)
below-at (suc n) f t k l = go (ℕ_discrete k n) (below-at n f (and₂ (f n) (below n f) t).1 k)
  where
    go : Dec (k ≡ n) → (k < n → T (f k)) → T (f k)
    go (yes q) r = rw q (and₂ (f n) (below n f) t).0
    go (no q) r = r (omega arith)

pub every-id : (f : ℕ → Bool) → T (below 19 f) → ((id : ℕ) → 19 ≤ id → T (f id)) → (id : ℕ) → T (f id)
every-id f t rest id = go (dec_lt id 19)
  where
    go : Dec (id < 19) → T (f id)
    go (yes l) = below-at 19 f t id l
    go (no l) = rest id (omega arith)

-- two tests that agree at every ID
pub by-row :
    (f g : ℕ → Bool) → T (below 19 (λ id. beq (f id) (g id))) → ((id : ℕ) → 19 ≤ id → f id ≡ g id) → (id : ℕ) → f id ≡ g id
by-row f g low high id = go (dec_lt id 19)
  where
    same : (t u : Bool) → T (beq t u) → t ≡ u
    same true true h = refl
    same true false h = absurd h
    same false true h = absurd h
    same false false h = refl

    go : Dec (id < 19) → f id ≡ g id
    go (yes l) = same (f id) (g id) (below-at 19 (λ k. beq (f k) (g k)) low id l)
    go (no l) = high id (omega arith)
