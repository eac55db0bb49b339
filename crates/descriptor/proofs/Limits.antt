-- What the check of 9 answers says of its test, and that strings which load have passed it.
use Rattle.std.specs.Prelude.{Result, Ok, Err}
use mathlib.Core.Path.{◌≡◌, refl, sym, ◌∙◌}
use mathlib.Core.Bool.{Bool, true, false, cond}
use mathlib.Core.List.{List}
use Prim.Native.Nat.{ℕ}
use native.Mathlib.Omega.{arith}
use Rattle.rules.specs.declared.Refusal.{Refusal}
use Rattle.rules.specs.declared.Refusal.TheVariants.{Plain as plain}
use Rattle.rules.specs.declared.Loaded.{Loaded}
use Rattle.rules.specs.Load.{sized, load_of}
use Rattle.rules.specs.Demands.{Accepted}
use Rattle.rules.proofs.Load.Loads.{load-9}
use Rattle.descriptor.specs.Limits.{limits_of}

module _ (count : ℕ) (rw ro : List ℕ) where
  pub limits-passed : (u : Unit) → Ok u ≡ limits_of count rw ro → sized count rw ro ≡ true
  unfolding limits_of
  limits-passed u h = go (sized count rw ro) h
    where
      go : (b : Bool) → ◌≡◌ {A = Result Unit Refusal} (Ok u) (cond b (Ok tt) (Err (plain 9))) → b ≡ true
      go true q = refl
      go false q = let o : ◌≡◌ {A = ℕ} 0 1 = cc in absurd (omega arith)

  pub limits-refused : (r : Refusal) → Err r ≡ limits_of count rw ro → (sized count rw ro ≡ false) × (r ≡ plain 9)
  unfolding limits_of
  limits-refused r h = go (sized count rw ro) h
    where
      go : (b : Bool) → ◌≡◌ {A = Result Unit Refusal} (Err r) (cond b (Ok tt) (Err (plain 9))) → (b ≡ false) × (r ≡ plain 9)
      go true q = let o : ◌≡◌ {A = ℕ} 0 1 = cc in absurd (omega arith)
      go false q = (refl, cc)

  pub load-sized : (l : Loaded) → Ok l ≡ load_of count rw ro → sized count rw ro ≡ true
  load-sized l h = go (sized count rw ro) refl
    where
      go : (b : Bool) → sized count rw ro ≡ b → b ≡ true
      go true q = refl
      go false q = let o : Ok l ≡ Err (plain 9) = h ∙ load-9 count rw ro q in let z : ◌≡◌ {A = ℕ} 0 1 = cc in absurd (omega arith)

  pub accepted-sized : Accepted count rw ro → sized count rw ro ≡ true
  accepted-sized ok = load-sized _ (sym ok.loads)
