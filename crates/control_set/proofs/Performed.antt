-- DEMAND 3 of the code: every sequence of calls of `perform` from an accepted `fresh` answers as the plain table does, and the bank
-- then shows the table. `perform` and each single call answer `bank_call .. .0` and leave `bank_call .. .1` (src/lib.rt).
use Rattle.std.specs.Prelude.{Result}
use mathlib.Core.Path.{◌≡◌, refl, ap₂, ◌∙◌}
use mathlib.Core.List.{List, [], ◌∷◌}
use Prim.Native.Nat.{ℕ}
use Rattle.rules.specs.declared.Refusal.{Refusal}
use Rattle.rules.specs.declared.Call.{Call}
use Rattle.rules.specs.declared.Answer.{Answer}
use lib.ListN.{length, drop}
use Rattle.rules.specs.Load.{map_of}
use Rattle.rules.specs.Layout.{bank_size}
use Rattle.rules.specs.Machine.{Command, call, run}
use Rattle.rules.specs.Bank.{Bank, bank_call, fresh_call, bank_makes}
use Rattle.rules.specs.Demands.{Shows, table_run, FreshAccepted}
use Rattle.rules.proofs.Demands.{demand3-after-fresh}

-- a sequence of calls from one bank to another: each answer, and each bank that the next call gets, as `perform` ensures
pub data Performs (count : ℕ) (rw ro : List ℕ) : Bank → List Command → List (Result Answer Refusal) → Bank → Type 0 where
  none : {b : Bank} → Performs count rw ro b [] [] b
  also :
      {b b₁ b₂ : Bank} {c : Call} {cs : List Command} {a : (Result Answer Refusal)} {rs : List (Result Answer Refusal)}
      → a ≡ (bank_call count rw ro c b).0
      → b₁ ≡ (bank_call count rw ro c b).1
      → Performs count rw ro b₁ cs rs b₂
      → Performs count rw ro b (call c ∷ cs) (a ∷ rs) b₂

pub record AsTable (count : ℕ) (rw ro : List ℕ) (bank : Bank) (calls : List Command) (answers : List (Result Answer Refusal)) (b : Bank) : Type 0 where
  pub same : answers ≡ (table_run count rw ro calls).0
  pub shows : Shows (map_of count rw ro) b (table_run count rw ro calls).1
  pub size : length b ≡ length bank
  pub beyond : drop bank_size b ≡ drop bank_size bank

module _ (count : ℕ) (first last : List ℕ) where
  runs :
      {b b' : Bank} {cs : List Command} {rs : List (Result Answer Refusal)}
      → Performs count first last b cs rs b'
      → (rs ≡ (run (bank_makes count first last) cs b).0) × (b' ≡ (run (bank_makes count first last) cs b).1)
  unfolding run bank_makes
  runs none = (refl, refl)
  runs (also p q h) = let (x, y) = runs h in (ap₂ ◌∷◌ p (rw q at x), rw q at y)

  pub performed-as-table :
      (bank : Bank)
      → FreshAccepted count first last bank
      → {cs : List Command} {rs : List (Result Answer Refusal)} {b : Bank}
      → Performs count first last (fresh_call count first last bank).1 cs rs b
      → AsTable count first last bank cs rs b
  performed-as-table bank f {cs} h =
      let (x, y) = runs h in
      let t = demand3-after-fresh count first last bank f cs in
      record { same = x ∙ t.answers; shows = rw y t.shows; size = rw y t.size; beyond = rw y t.beyond }
