-- What a test says as a fact: `T t ↔ A`, for the tests of numbers and for what is built of tests.
use mathlib.Core.Path.{◌≡◌}
use mathlib.Core.Logic.{◌⊎◌, inl, inr, ⊎_elim, ◌↔◌}
use mathlib.Core.Bool.{Bool, true, ◌&&◌, ◌||◌, not}
use Prim.Native.Nat.{ℕ, ◌≤◌, ◌<◌}
use lib.Dec.{T, ltb, leb, eqb, ltb→lt, lt→ltb, leb→le, le→leb, eqb→eq, T_not, not_T}
use borrow.Author.Tests.{eq-eqb}
use Rattle.rules.proofs.Basics.Tests.{is-true, from-true, and₂, both-true, or-cases, or-left, or-right}

pub lt-says : (a b : ℕ) → T (ltb a b) ↔ (a < b)
lt-says a b = (ltb→lt a b, lt→ltb a b)

pub le-says : (a b : ℕ) → T (leb a b) ↔ (a ≤ b)
le-says a b = (leb→le a b, le→leb a b)

pub eq-says : (a b : ℕ) → T (eqb a b) ↔ (a ≡ b)
eq-says a b = (eqb→eq a b, λ q. from-true (eq-eqb a b q))

pub true-says : (t : Bool) → T t ↔ (t ≡ true)
true-says t = (is-true t, from-true)

pub not-says : {A : Type 0} (t : Bool) → T t ↔ A → T (not t) ↔ (¬ A)
not-says t h = (λ n a. T_not t n (h.1 a), λ n. not_T t (λ y. n (h.0 y)))

pub or-says : {A B : Type 0} (a b : Bool) → T a ↔ A → T b ↔ B → T (a || b) ↔ (A ⊎ B)
or-says a b h k =
    (λ t. ⊎_elim (λ x. inl (h.0 x)) (λ x. inr (k.0 x)) (or-cases a b t), ⊎_elim (λ x. or-left a b (h.1 x)) (λ x. or-right a b (k.1 x)))

pub and-says : {A B : Type 0} (a b : Bool) → T a ↔ A → T b ↔ B → T (a && b) ↔ (A × B)
and-says a b h k =
    (λ t. let (x, y) = and₂ a b t in (h.0 x, k.0 y), λ t. both-true a b (h.1 t.0) (k.1 t.1))

pub and-says₃ : {A B C : Type 0} (a b c : Bool) → T a ↔ A → T b ↔ B → T c ↔ C → T (a && (b && c)) ↔ (A × B × C)
and-says₃ {A} {B} {C} a b c h k l = flat (and-says a (b && c) h (and-says b c k l))
  where
    flat : T (a && (b && c)) ↔ (A × (B × C)) → T (a && (b && c)) ↔ (A × B × C)
    flat f = (λ t. let (x, y) = f.0 t in (x, y.0, y.1), λ t. f.1 (t.0, (t.1, t.2)))

pub and-says₄ :
    {A B C D : Type 0} (a b c d : Bool) → T a ↔ A → T b ↔ B → T c ↔ C → T d ↔ D → T (a && (b && (c && d))) ↔ (A × B × C × D)
and-says₄ {A} {B} {C} {D} a b c d h k l m = flat (and-says a (b && (c && d)) h (and-says₃ b c d k l m))
  where
    flat : T (a && (b && (c && d))) ↔ (A × (B × C × D)) → T (a && (b && (c && d))) ↔ (A × B × C × D)
    flat f = (λ t. let (x, y) = f.0 t in (x, y.0, y.1, y.2), λ t. f.1 (t.0, (t.1, t.2, t.3)))
