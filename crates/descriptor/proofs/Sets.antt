-- What the tests of a set say: of a field that is named, and of the entry whose space has a byte.
use Rattle.std.specs.Prelude.{Result, Ok, Err}
use mathlib.Core.Path.{◌≡◌, refl}
use mathlib.Core.Logic.{◌⊎◌, inl, inr}
use mathlib.Core.Bool.{Bool, true, false, ◌&&◌, not, cond}
use Prim.Native.Nat.{ℕ}
use native.Mathlib.Omega.{arith}
use Rattle.rules.specs.declared.Refusal.{Refusal}
use Rattle.rules.specs.declared.Refusal.TheVariants.{Plain as plain}
use Rattle.rules.specs.Place.{is_set, is_staged}
use Rattle.descriptor.specs.declared.Named.{Named}
use Rattle.descriptor.specs.declared.Covered.{Covered}
use Rattle.descriptor.specs.Find.{shown_in}
use Rattle.descriptor.specs.Cover.{spaced_in}

pub shown-passed : (f : Named) (s : ℕ) (u : Unit) → Ok u ≡ shown_in f s → (is_set s ≡ true) × ((is_staged s && f.ro) ≡ false)
unfolding shown_in
shown-passed f s u h = go (is_set s) (is_staged s && f.ro) h
  where
    go : (a b : Bool) → ◌≡◌ {A = Result Unit Refusal} (Ok u) (cond a (cond b (Err (plain 11)) (Ok tt)) (Err (plain 10))) → (a ≡ true) × (b ≡ false)
    go true false q = (refl, refl)
    go true true q = let o : ◌≡◌ {A = ℕ} 0 1 = cc in absurd (omega arith)
    go false b q = let o : ◌≡◌ {A = ℕ} 0 1 = cc in absurd (omega arith)

-- 10, or past it 11
pub shown-refused :
    (f : Named) (s : ℕ) (r : Refusal)
    → Err r ≡ shown_in f s
    → ((is_set s ≡ false) × (r ≡ plain 10)) ⊎ ((is_set s ≡ true) × ((is_staged s && f.ro) ≡ true) × (r ≡ plain 11))
unfolding shown_in
shown-refused f s r h = go (is_set s) (is_staged s && f.ro) h
  where
    go : (a b : Bool)
        → ◌≡◌ {A = Result Unit Refusal} (Err r) (cond a (cond b (Err (plain 11)) (Ok tt)) (Err (plain 10)))
        → ((a ≡ false) × (r ≡ plain 10)) ⊎ ((a ≡ true) × (b ≡ true) × (r ≡ plain 11))
    go true false q = let o : ◌≡◌ {A = ℕ} 0 1 = cc in absurd (omega arith)
    go true true q = inr (refl, refl, cc)
    go false b q = inl (refl, cc)

pub spaced-passed : (c : Covered) (s : ℕ) (u : Unit) → Ok u ≡ spaced_in c s → (is_set s && not (is_staged s && c.ro)) ≡ true
unfolding spaced_in
spaced-passed c s u h = go (is_set s && not (is_staged s && c.ro)) h
  where
    go : (b : Bool) → ◌≡◌ {A = Result Unit Refusal} (Ok u) (cond b (Ok tt) (Err (plain 10))) → b ≡ true
    go true q = refl
    go false q = let o : ◌≡◌ {A = ℕ} 0 1 = cc in absurd (omega arith)

pub spaced-refused : (c : Covered) (s : ℕ) (r : Refusal) → Err r ≡ spaced_in c s → ((is_set s && not (is_staged s && c.ro)) ≡ false) × (r ≡ plain 10)
unfolding spaced_in
spaced-refused c s r h = go (is_set s && not (is_staged s && c.ro)) h
  where
    go : (b : Bool) → ◌≡◌ {A = Result Unit Refusal} (Err r) (cond b (Ok tt) (Err (plain 10))) → (b ≡ false) × (r ≡ plain 10)
    go true q = let o : ◌≡◌ {A = ℕ} 0 1 = cc in absurd (omega arith)
    go false q = (refl, cc)
