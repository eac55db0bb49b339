-- A call that sets a number, past 10 and 11: a value that is not accepted is 12, else the bank after it is `store_of`'s.
use Rattle.std.specs.Prelude.{Err}
use mathlib.Core.Path.{◌≡◌, refl, sym, ap, ◌∙◌}
use mathlib.Core.Bool.{Bool, true, false, not, cond}
use mathlib.Core.List.{List}
use Prim.Native.Nat.{ℕ}
use lib.IntN.{ℤ}
use lib.ListN.{length}
use Rattle.rules.specs.Words.{says_yes}
use Rattle.rules.specs.declared.Call.{Call}
use Rattle.rules.specs.declared.Refusal.TheVariants.{Plain as plain}
use Rattle.rules.specs.Load.{map_of}
use Rattle.rules.specs.Place.{entry, Field}
use Rattle.rules.specs.Accept.{accepts, to_bits}
use Rattle.rules.specs.Refuse.{passes, first_of, exists, misdirected, unaccepted}
use Rattle.rules.specs.Bank.{Bank, with_number, bank_plan, bank_does, bank_call}
use Rattle.descriptor.specs.declared.Named.{Named}
use Rattle.descriptor.specs.Find.{accepted_by}
use Rattle.control_set.specs.Field.{with_bits}
use Rattle.control_set.specs.Store.{Storable, stored_by, store_of}
use Rattle.control_set.proofs.Outcomes.{call-12, call-done}
use Rattle.control_set.specs.Gate.{Entered}
use Rattle.control_set.proofs.FieldCalls.{entered-opened, spot-there, stored-there, value-tested, value-bits}

module _ (count : ℕ) (first last : List ℕ) (b : Bank) {e p i : ℕ} {f : Named} (t : Entered count first last (length b) e p i f) where
  pub storable : {s : ℕ} → Field (map_of count first last) s e p i → (v : ℤ) → Storable b s f p i v
  storable x v =
      record { spot = spot-there count first last b t x; bits = value-bits count first last b t x v }

  pub call-stores :
      (c : Call) (s : ℕ) (v : ℤ)
      → Field (map_of count first last) s e p i
      → exists (map_of count first last) c ≡ true
      → misdirected (map_of count first last) c ≡ false
      → unaccepted (map_of count first last) c ≡ not (accepts (entry (map_of count first last) e) v)
      → first_of (bank_plan (map_of count first last) c b) ≡ passes
      → bank_does (map_of count first last) c b ≡ (says_yes, with_number (map_of count first last) b s e p i v)
      → bank_call count first last c b ≡ (stored_by f v, store_of b s f p i v)
  unfolding store_of
  call-stores c s v w h l u q d = go (accepted_by f v) refl
    where
      tested : (x : Bool) → accepted_by f v ≡ x → unaccepted (map_of count first last) c ≡ not x
      tested x y = u ∙ value-tested count first last b t v ∙ ap not y

      go : (x : Bool) → accepted_by f v ≡ x
          → bank_call count first last c b
          ≡ (cond x says_yes (Err (plain 12)), cond x (with_bits b s f.fields.offset p f.fields.width i (to_bits f.fields.width v)) b)
      go true y =
          call-done count first last c b (entered-opened count first last b t) h l (tested true y) q
          ∙ d
          ∙ ap (λ (z : Bank). (says_yes, z)) (sym (stored-there count first last b t s v))
      go false y = call-12 count first last c b (entered-opened count first last b t) h l (tested false y)
