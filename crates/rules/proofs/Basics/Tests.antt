-- What a conjunction of tests says, part by part; and how two machines that go by one test are compared.
use mathlib.Core.Path.{◌≡◌, refl}
use mathlib.Core.Logic.{◌⊎◌, inl, inr}
use mathlib.Core.Bool.{Bool, true, false, ◌&&◌, ◌||◌, not, cond}
use Prim.Native.Nat.{ℕ}
use native.Mathlib.Omega.{arith}
use lib.Dec.{T}

pub and₂ : (a b : Bool) → T (a && b) → T a × T b
and₂ true b h = (tt, h)
and₂ false b h = absurd h

pub and₃ : (a b c : Bool) → T (a && (b && c)) → T a × T b × T c
and₃ true true c h = (tt, tt, h)
and₃ true false c h = absurd h
and₃ false b c h = absurd h

pub and₄ : (a b c d : Bool) → T (a && (b && (c && d))) → T a × T b × T c × T d
and₄ true b c d h = let r : T b × T c × T d = and₃ b c d h in (tt, r.0, r.1, r.2)
and₄ false b c d h = absurd h

pub and₅ : (a b c d e : Bool) → T (a && (b && (c && (d && e)))) → T a × T b × T c × T d × T e
and₅ true b c d e h = let r : T b × T c × T d × T e = and₄ b c d e h in (tt, r.0, r.1, r.2, r.3)
and₅ false b c d e h = absurd h

pub is-true : (t : Bool) → T t → t ≡ true
is-true true h = refl
is-true false h = absurd h

pub is-false : (t : Bool) → T (not t) → t ≡ false
is-false true h = absurd h
is-false false h = refl

-- a fact about `cond` by cases on its test, which each case knows
pub by-test {ℓ κ} : {A : Type ℓ} (P : A → Type κ) (t : Bool) (x y : A) → (T t → P x) → (T (not t) → P y) → P (cond t x y)
by-test P true x y f g = f tt
by-test P false x y f g = g tt

pub by-test₂ {ℓ κ} :
    {A B : Type ℓ} (P : A → B → Type κ) (t : Bool) (x y : A) (x' y' : B)
    → (T t → P x x')
    → (T (not t) → P y y')
    → P (cond t x y) (cond t x' y')
by-test₂ P true x y x' y' f g = f tt
by-test₂ P false x y x' y' f g = g tt

pub either : (t : Bool) → T t ⊎ T (not t)
either true = inl tt
either false = inr tt

pub or-right : (a b : Bool) → T b → T (a || b)
or-right true b h = tt
or-right false b h = h

pub or-left : (a b : Bool) → T a → T (a || b)
or-left true b h = tt
or-left false b h = absurd h

pub or-cases : (a b : Bool) → T (a || b) → T a ⊎ T b
or-cases true b h = inl tt
or-cases false b h = inr h

pub or-yes : (a : Bool) → (a || true) ≡ true
or-yes true = refl
or-yes false = refl

pub or-no : (a b : Bool) → (a || b) ≡ false → (a ≡ false) × (b ≡ false)
or-no true b h = let o : ◌≡◌ {A = ℕ} 0 1 = cc in absurd (omega arith)
or-no false b h = (refl, h)

pub not-or : (a b : Bool) → T (not (a || b)) → T (not a) × T (not b)
not-or true b h = absurd h
not-or false b h = (tt, h)

pub not-not : (a : Bool) → T (not (not a)) → T a
not-not true h = tt
not-not false h = absurd h

-- not both: where the first holds, the second doesn't
pub not-and : (a b : Bool) → T (not (a && b)) → T a → T (not b)
not-and true b h k = h
not-and false b h k = absurd k

pub both-true : (a b : Bool) → T a → T b → T (a && b)
both-true true b h k = k
both-true false b h k = h

-- a test that is true or false, as a fact and as an equation
pub from-true : {t : Bool} → t ≡ true → T t
from-true e = rw e tt

pub and-yes : (a : Bool) → (a && true) ≡ a
and-yes true = refl
and-yes false = refl

pub and-no : (a : Bool) → (a && false) ≡ false
and-no true = refl
and-no false = refl
