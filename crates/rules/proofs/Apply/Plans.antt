-- Apply on a bank and a table that agree: its refusals 13 and 14 and the sources of its fields are the same, as they follow from what
-- the staged set holds, and the two agree after it.
use mathlib.Core.Path.{◌≡◌, ap, ap₂, ◌∙◌}
use mathlib.Core.Logic.{◌⊎◌, inl, inr}
use mathlib.Core.Bool.{Bool, ◌&&◌, not, cond}
use mathlib.Core.List.{List, [], ◌∷◌}
use Prim.Native.Nat.{ℕ, ◌≤◌, ◌<◌}
use native.Mathlib.Omega.{arith}
use lib.Dec.{T, eqb, eqb→eq, ltb→lt}
use Rattle.rules.specs.Words.{apply}
use Rattle.rules.specs.Load.{Map}
use Rattle.rules.specs.Place.{entry, parts_of, signed_of, width_of, is_rw, holds, Field}
use Rattle.rules.specs.Accept.{accepts, from_bits}
use Rattle.rules.specs.Refuse.{first_of, at_lowest}
use Rattle.rules.specs.Source.{Source, kept, copied, is_copied}
use Rattle.rules.specs.Bank.{Bank, number_in, bank_lacks_app, bank_source, bits_from, bank_holds_bad, bank_plan, apply_bank}
use Rattle.rules.specs.Table.{Table, table_lacks_app, table_source, number_from, table_holds_bad, table_plan, gives, table_does}
use Rattle.rules.proofs.Bank.Places.{named-has-bytes}
use Rattle.rules.proofs.Basics.Tests.{and₂, by-test₂, either, is-true, is-false, and-yes}
use Rattle.rules.proofs.Basics.Any.{any-ext, lowest-ext}
use Rattle.rules.proofs.Place.AcceptedMap.{GoodMap, rw-held}
use Rattle.rules.proofs.Place.Fields.{field-holds}
use Rattle.rules.proofs.Lists.Relation.{Holds}
use Rattle.rules.proofs.Apply.Applied.{Applied, apply-is, apply-bytes, apply-field, apply-apps, apply-gaps, apply-beyond}

pub lowest-same : (n : ℕ) (f h : ℕ → Bool) → ((i : ℕ) → 1 ≤ i → i ≤ 8 → f i ≡ h i) → at_lowest n f ≡ at_lowest n h
unfolding at_lowest
lowest-same n f h q = rw (lowest-ext 8 1 f h (λ j l u. q j l (omega arith)))

module _ (m : Map) (g : GoodMap m) (tail : List ℕ) (b : Bank) (t : Table) (r : Holds m tail b t) (s lanes : ℕ) (hs : s < 2) where
  staged-field : {e p i : ℕ} → e < m.rw_count → p < parts_of (entry m e) → 1 ≤ i → i ≤ 8 → Field m s e p i
  staged-field {e} he hp l u = record { set = named-has-bytes s (omega arith); ent = rw-held m g s e he; part = hp; low = l; top = u }

  source-same : (e i : ℕ) → 1 ≤ i → i ≤ 8 → bank_source m b s lanes e i ≡ table_source m t s lanes e i
  unfolding bank_source table_source
  source-same e i l u = rw (r.apps s i hs l u)

  lacks-same : (i : ℕ) → 1 ≤ i → i ≤ 8 → bank_lacks_app m b s lanes i ≡ table_lacks_app m t s lanes i
  unfolding bank_lacks_app table_lacks_app
  lacks-same i l u = rw (r.apps s i hs l u)

  bad-same : (i : ℕ) → 1 ≤ i → i ≤ 8 → bank_holds_bad m b s lanes i ≡ table_holds_bad m t s lanes i
  unfolding bank_holds_bad table_holds_bad
  bad-same i l u =
      any-ext m.rw_count _ _ λ e he. any-ext (parts_of (entry m e)) _ _ λ p hp.
      ap₂ (λ c v. is_copied c && not (accepts (entry m e) v)) (source-same e i l u) (r.fields s e p i (staged-field he hp l u))

  pub plan-same : first_of (bank_plan m (apply s lanes) b) ≡ first_of (table_plan m (apply s lanes) t)
  unfolding bank_plan table_plan
  plan-same =
      ap₂
      (λ x y. first_of (x ∷ y ∷ []))
      (lowest-same 13 (bank_lacks_app m b s lanes) (table_lacks_app m t s lanes) lacks-same)
      (lowest-same 14 (bank_holds_bad m b s lanes) (table_holds_bad m t s lanes) bad-same)

  -- a source has the same number in both
  from-same :
      (c : Source) (e p i : ℕ)
      → e < m.rw_count
      → Field m 2 e p i
      → from_bits (signed_of (entry m e)) (width_of (entry m e)) (bits_from c m b s e p i) ≡ number_from c t s e p i
  unfolding number_in
  from-same kept e p i he f = r.fields 2 e p i f
  from-same copied e p i he f = r.fields s e p i (staged-field he f.part f.low f.top)

  -- of a field that there is, `gives` asks for its set and its entry
  gives-is : (s' e p i : ℕ) → Field m s' e p i → gives m s' e p i ≡ (eqb s' 2 && is_rw m e)
  gives-is s' e p i f = go (either (eqb s' 2))
    where
      go : T (eqb s' 2) ⊎ T (not (eqb s' 2)) → gives m s' e p i ≡ (eqb s' 2 && is_rw m e)
      go (inl q) = let held : T (holds m 2 e p i) = rw (eqb→eq s' 2 q) at (field-holds f) in rw (is-true (holds m 2 e p i) held, and-yes (is_rw m e))
      go (inr n) = rw (is-false (eqb s' 2) n)

  abbrev after : Bank
  after = apply_bank m s lanes b

  applied : Applied m s lanes b after
  applied = apply-is m g s lanes b r.size

  apply-number :
      (s' e p i : ℕ)
      → Field m s' e p i
      → number_in m after s' e p i ≡ cond (gives m s' e p i) (number_from (table_source m t s lanes e i) t s e p i) (t.numbers s' e p i)
  unfolding number_in
  apply-number s' e p i f =
      ap (from_bits (signed_of (entry m e)) (width_of (entry m e))) (apply-field m g s lanes b after applied s' e p i f)
      ∙ rw (gives-is s' e p i f, source-same e i f.low f.top)
      (by-test₂ (λ n z. from_bits (signed_of (entry m e)) (width_of (entry m e)) n ≡ z) (eqb s' 2 && is_rw m e) _ _ _ _
      (λ y. let (a₁, a₂) = and₂ (eqb s' 2) (is_rw m e) y in
      from-same (table_source m t s lanes e i) e p i (ltb→lt _ _ a₂) (rw (eqb→eq s' 2 a₁) at f))
      (λ _. r.fields s' e p i f))

  pub apply-holds : Holds m tail (apply_bank m s lanes b) (table_does m (apply s lanes) t).1
  unfolding table_does
  apply-holds =
      record {
        size = rw applied.size r.size;
        beyond = apply-beyond m g s lanes b after applied ∙ r.beyond;
        bytes = apply-bytes m g s lanes b r.size r.bytes;
        fields = apply-number;
        apps = λ s' i hs' l u. apply-apps m g s lanes b after applied s' i hs' u ∙ r.apps s' i hs' l u;
        gaps = λ s' k hs' hk nc. apply-gaps m g s lanes b after applied s' k hs' hk nc ∙ r.gaps s' k hs' hk nc;
      }
