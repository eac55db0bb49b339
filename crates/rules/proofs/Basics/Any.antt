-- Laws of `any` and `lowest`: the searches over a range.
use mathlib.Core.Path.{◌≡◌, refl, ap₂}
use mathlib.Core.Bool.{Bool, ◌||◌}
use mathlib.Core.Logic.{◌⊎◌, inl, inr}
use Prim.Native.Nat.{ℕ, zero, suc, ◌+◌, ◌≤◌, ◌<◌}
use native.Mathlib.Omega.{arith}
use native.Mathlib.Decide.{ℕ_discrete}
use lib.Dec.{T}
use Rattle.rules.specs.Numbers.{any, lowest}
use Rattle.rules.proofs.Basics.Tests.{or-left, or-right, or-cases}

pub any-here : (n : ℕ) (f : ℕ → Bool) (k : ℕ) → k < n → T (f k) → T (any n f)
unfolding any
any-here zero f k l h = absurd (omega arith)
any-here (suc n) f k l h = go (ℕ_discrete k n) (λ l'. any-here n f k l' h)
  where
    go : Dec (k ≡ n) → (k < n → T (any n f)) → T (any n f || f n)
    go (yes q) r = or-right (any n f) (f n) (rw q at h)
    go (no q) r = or-left (any n f) (f n) (r (omega arith))

pub any-some : (n : ℕ) (f : ℕ → Bool) → T (any n f) → (k : ℕ) × (k < n) × T (f k)
unfolding any
any-some zero f h = absurd h
any-some (suc n) f h = go (or-cases (any n f) (f n) h) (any-some n f)
  where
    go : T (any n f) ⊎ T (f n) → (T (any n f) → (k : ℕ) × (k < n) × T (f k)) → (k : ℕ) × (k < suc n) × T (f k)
    go (inl a) r = let (k, l, t) = r a in (k, omega arith, t)
    go (inr a) r = (n, omega arith, a)

pub any-ext : (n : ℕ) (f h : ℕ → Bool) → ((k : ℕ) → k < n → f k ≡ h k) → any n f ≡ any n h
unfolding any
any-ext zero f h e = refl
any-ext (suc n) f h e = ap₂ ◌||◌ (any-ext n f h (λ k l. e k (omega arith))) (e n (omega arith))

pub lowest-ext : (n i : ℕ) (f h : ℕ → Bool) → ((j : ℕ) → i ≤ j → j < i + n → f j ≡ h j) → lowest n i f ≡ lowest n i h
unfolding lowest
lowest-ext zero i f h e = refl
lowest-ext (suc n) i f h e =
    rw (e i (omega arith) (omega arith), lowest-ext n (suc i) f h (λ j l u. e j (omega arith) (omega arith)))
