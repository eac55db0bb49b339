-- A call on lanes reads only bits of their fields and their AppSels: on two banks that have those in common its outcome is one.
use mathlib.Core.Path.{◌≡◌, refl, sym, ap, ap₂, ◌∙◌}
use mathlib.Core.Logic.{◌⊎◌, inl, inr}
use mathlib.Core.Bool.{◌&&◌, not, cond}
use mathlib.Core.List.{[], ◌∷◌, ◌++◌}
use Prim.Native.Nat.{ℕ, ◌^◌, ◌≤◌, ◌<◌}
use native.Mathlib.Omega.{arith}
use native.Mathlib.Decide.{ℕ_discrete}
use lib.ListN.{length, get_or, set}
use lib.Seq.{get_or-set_same, get_or-set_other}
use lib.Dec.{T, eqb, eqb_refl, eqb→eq, ltb→lt}
use Rattle.rules.specs.Words.{Call, select, write, read, byte_write, byte_read, publish, apply, number}
use Rattle.rules.specs.Load.{Map, map_of, read_of}
use Rattle.rules.specs.Place.{entry, parts_of, width_of, signed_of, is_rw, Field}
use Rattle.rules.specs.Accept.{accepts, from_bits}
use Rattle.rules.specs.Layout.{bank_size, app_sel_at}
use Rattle.rules.specs.Refuse.{Verdict, first_of, judge, bank_order, chooses}
use Rattle.rules.specs.Source.{Source, kept, copied, is_copied}
use Rattle.rules.specs.Bank.{Bank, field_at, get_field, put_field, number_in, with_number, bank_lacks_app, bank_source, bits_from, bank_holds_bad, bank_plan, apply_bank, bank_does, bank_call}
use Rattle.rules.proofs.Basics.Tests.{and₂, by-test₂, either, is-false}
use Rattle.rules.proofs.Basics.Any.{any-ext}
use Rattle.rules.proofs.Place.AcceptedMap.{GoodMap, rw-held}
use Rattle.rules.proofs.Load.Walks.{map-good}
use Rattle.rules.proofs.Bank.Places.{app-inside, named-has-bytes}
use Rattle.rules.proofs.Place.Fields.{field-in-set, no-app}
use Rattle.rules.proofs.Bank.FieldWritten.{eqb₄, get-put-any, put-elsewhere}
use Rattle.rules.proofs.Lists.Allowed.{select-allowed, write-field, write-fits, read-field, publish-field, publish-fits, apply-staged, bits-lt}
use Rattle.rules.proofs.Apply.Plans.{lowest-same}
use Rattle.rules.proofs.Apply.Applied.{apply-is, apply-field, apply-apps}
use Rattle.rules.proofs.Refusals.Verdicts.{Judged, first-append, first-same, judge-passes, decide-both}
use Rattle.rules.proofs.Refusals.Orders.{bank-order-passes, bank-order-same}
use Rattle.rules.specs.Footprint.{on_lane, laned, SameLane, SameOn, Alike, ReadsOnly}

module _ (m : Map) (g : GoodMap m) (b b' : Bank) (size : bank_size ≤ length b) (size' : bank_size ≤ length b') where
  -- a lane that is the same stays so, whatever call does the same to both banks
  module _ (j : ℕ) (l : 1 ≤ j) (u : j ≤ 8) (r : SameLane m j b b') where
    same-put : (s e p i v : ℕ) → Field m s e p i → v < 2 ^ width_of (entry m e) → SameLane m j (put_field m b s e p i v) (put_field m b' s e p i v)
    same-put s e p i v f hv =
        record {
          fields = λ s' e' p' f'.
              get-put-any m g b size s e p i v f hv s' e' p' j f'
              ∙ ap (cond (eqb₄ s e p i s' e' p' j) v) (r.fields s' e' p' f')
              ∙ sym (get-put-any m g b' size' s e p i v f hv s' e' p' j f');
          apps = λ s' hs.
              put-elsewhere m g b size s e p i v f hv (app_sel_at s' j) (no-app m g f s' j hs u)
              ∙ r.apps s' hs
              ∙ sym (put-elsewhere m g b' size' s e p i v f hv (app_sel_at s' j) (no-app m g f s' j hs u));
        }

    same-select : (s i a : ℕ) → s < 2 → i ≤ 8 → SameLane m j (set b (app_sel_at s i) a) (set b' (app_sel_at s i) a)
    unfolding get_field
    same-select s i a hs hi =
        record {
          fields = λ s' e p f.
              rw (
                get_or-set_other b (app_sel_at s i) (field_at m s' e p j) a 0 (λ x. no-app m g f s i hs hi (sym x)),
                get_or-set_other b' (app_sel_at s i) (field_at m s' e p j) a 0 (λ x. no-app m g f s i hs hi (sym x)),
              )
              (r.fields s' e p f);
          apps = λ s' hs'. go s' hs' (ℕ_discrete (app_sel_at s' j) (app_sel_at s i));
        }
      where
        go : (s' : ℕ) → s' < 2 → Dec (app_sel_at s' j ≡ app_sel_at s i)
            → get_or (set b (app_sel_at s i) a) (app_sel_at s' j) 0 ≡ get_or (set b' (app_sel_at s i) a) (app_sel_at s' j) 0
        go s' hs' (yes q) = let inside = app-inside s i hs hi in rw (q, get_or-set_same b (app_sel_at s i) a 0 (omega arith), get_or-set_same b' (app_sel_at s i) a 0 (omega arith))
        go s' hs' (no ne) =
            get_or-set_other b (app_sel_at s i) (app_sel_at s' j) a 0 ne ∙ r.apps s' hs' ∙ sym (get_or-set_other b' (app_sel_at s i) (app_sel_at s' j) a 0 ne)

    same-source : (s lanes e : ℕ) → s < 2 → bank_source m b s lanes e j ≡ bank_source m b' s lanes e j
    unfolding bank_source
    same-source s lanes e hs = rw (r.apps s hs)

    same-from : (c : Source) (s e p : ℕ) → s < 2 → e < m.rw_count → Field m 2 e p j → bits_from c m b s e p j ≡ bits_from c m b' s e p j
    same-from kept s e p hs he f = r.fields 2 e p f
    same-from copied s e p hs he f = r.fields s e p (field-in-set s (named-has-bytes s (omega arith)) (rw-held m g s e he) f)

    same-apply : (s lanes : ℕ) → s < 2 → SameLane m j (apply_bank m s lanes b) (apply_bank m s lanes b')
    same-apply s lanes hs =
        let x = apply-is m g s lanes b size in
        let x' = apply-is m g s lanes b' size' in
        record {
          fields = λ s' e p f.
              apply-field m g s lanes b _ x s' e p j f
              ∙ rw (same-source s lanes e hs)
              (by-test₂ ◌≡◌ (eqb s' 2 && is_rw m e)
              (bits_from (bank_source m b' s lanes e j) m b s e p j) (get_field m b s' e p j) (bits_from (bank_source m b' s lanes e j) m b' s e p j) (get_field m b' s' e p j)
              (λ y. let (a₁, a₂) = and₂ (eqb s' 2) (is_rw m e) y in same-from (bank_source m b' s lanes e j) s e p hs (ltb→lt _ _ a₂) (rw (eqb→eq s' 2 a₁) at f))
              (λ _. r.fields s' e p f))
              ∙ sym (apply-field m g s lanes b' _ x' s' e p j f);
          apps = λ s' hs'.
              apply-apps m g s lanes b _ x s' j hs' u
              ∙ r.apps s' hs'
              ∙ sym (apply-apps m g s lanes b' _ x' s' j hs' u);
        }

    same-number : (s e p : ℕ) → Field m s e p j → number_in m b s e p j ≡ number_in m b' s e p j
    unfolding number_in
    same-number s e p f = ap (from_bits (signed_of (entry m e)) (width_of (entry m e))) (r.fields s e p f)

  -- 13 and 14, from the lanes that apply chooses
  module _ (s lanes : ℕ) (hs : s < 2) (same : SameOn m (chooses lanes) b b') where
    lacks-same : (i : ℕ) → 1 ≤ i → i ≤ 8 → bank_lacks_app m b s lanes i ≡ bank_lacks_app m b' s lanes i
    unfolding bank_lacks_app
    lacks-same i l u = go (either (chooses lanes i))
      where
        go : T (chooses lanes i) ⊎ T (not (chooses lanes i)) → bank_lacks_app m b s lanes i ≡ bank_lacks_app m b' s lanes i
        go (inl y) = rw ((same i l u y).apps s hs)
        go (inr n) = rw (is-false (chooses lanes i) n)

    bad-same : (i : ℕ) → 1 ≤ i → i ≤ 8 → bank_holds_bad m b s lanes i ≡ bank_holds_bad m b' s lanes i
    unfolding bank_holds_bad bank_source
    bad-same i l u = any-ext m.rw_count _ _ λ e he. any-ext (parts_of (entry m e)) _ _ λ p hp. go e p he hp (either (chooses lanes i))
      where
        go : (e p : ℕ) → e < m.rw_count → p < parts_of (entry m e) → T (chooses lanes i) ⊎ T (not (chooses lanes i))
            → (is_copied (bank_source m b s lanes e i) && not (accepts (entry m e) (number_in m b s e p i)))
            ≡ (is_copied (bank_source m b' s lanes e i) && not (accepts (entry m e) (number_in m b' s e p i)))
        go e p he hp (inl y) =
            ap₂ (λ c v. is_copied c && not (accepts (entry m e) v)) (same-source i l u (same i l u y) s lanes e hs)
            (same-number i l u (same i l u y) s e p (record { set = named-has-bytes s (omega arith); ent = rw-held m g s e he; part = hp; low = l; top = u }))
        go e p he hp (inr n) = rw (is-false (chooses lanes i) n)

    plan-alike : first_of (bank_plan m (apply s lanes) b) ≡ first_of (bank_plan m (apply s lanes) b')
    unfolding bank_plan
    plan-alike =
        ap₂ (λ x y. first_of (x ∷ y ∷ []))
        (lowest-same 13 (bank_lacks_app m b s lanes) (bank_lacks_app m b' s lanes) lacks-same)
        (lowest-same 14 (bank_holds_bad m b s lanes) (bank_holds_bad m b' s lanes) bad-same)

  -- a call that passes 10, 11 and 12
  plans-alike :
      (c : Call) → Judged m c → SameOn m (on_lane c) b b' → first_of (bank_plan m c b) ≡ first_of (bank_plan m c b')
  unfolding bank_plan
  plans-alike (select s i a) j same = refl
  plans-alike (write s f v) j same = refl
  plans-alike (read s f) j same = refl
  plans-alike (byte_write s k v) j same = refl
  plans-alike (byte_read s k) j same = refl
  plans-alike (publish f v) j same = refl
  plans-alike (apply s lanes) j same = plan-alike s lanes (apply-staged m j) same

  does-alike :
      (c : Call) → T (laned c) → Judged m c → SameOn m (on_lane c) b b' → Alike m b b' (bank_does m c b) (bank_does m c b')
  unfolding bank_does with_number
  does-alike (select s i a) h j same =
      let (hs, hi, hj, ha) = select-allowed m j in
      record { answer = refl; lanes = λ n l u r. same-select n l u r s i a hs hj }
  does-alike (write s f v) h j same =
      let x : Field m s f.entry f.part f.lane = write-field m g j in
      record { answer = refl; lanes = λ n l u r. same-put n l u r s f.entry f.part f.lane _ x (bits-lt m g v x (write-fits m j)) }
  does-alike (read s f) h j same =
      let x : Field m s f.entry f.part f.lane = read-field m g j in
      record { answer = ap number (same-number f.lane x.low x.top (same f.lane x.low x.top (eqb_refl f.lane)) s f.entry f.part x); lanes = λ n l u r. r }
  does-alike (byte_write s k v) h j same = absurd h
  does-alike (byte_read s k) h j same = absurd h
  does-alike (publish f v) h j same =
      let x : Field m 2 f.entry f.part f.lane = publish-field m j in
      record { answer = refl; lanes = λ n l u r. same-put n l u r 2 f.entry f.part f.lane _ x (bits-lt m g v x (publish-fits m j)) }
  does-alike (apply s lanes) h j same = record { answer = refl; lanes = λ n l u r. same-apply n l u r s lanes (apply-staged m j) }

pub call-reads : ReadsOnly
unfolding bank_call
call-reads count first last c b b' h q same =
    rw (← q, order-alike)
    (decide-both (Alike m b b') (order b') b b' (bank_does m c b) (bank_does m c b')
    (λ _. record { answer = refl; lanes = λ i l u r. r })
    (λ v. let (a, z, r) = bank-order-passes count first last (length b) (judge m c ++ bank_plan m c b') v in
    does-alike m (map-good count first last a) b b' z (omega arith) c h (judge-passes m c (first-append (judge m c) (bank_plan m c b') r).0) same))
  where
    m : Map
    m = map_of count first last

    order : Bank → Verdict
    order x = bank_order (read_of count first last) (length b) (judge m c ++ bank_plan m c x)

    order-alike : order b ≡ order b'
    order-alike =
        bank-order-same count first last (length b) (judge m c ++ bank_plan m c b) (judge m c ++ bank_plan m c b')
        (λ a z. first-same (judge m c) (bank_plan m c b) (bank_plan m c b')
        (λ p. plans-alike m (map-good count first last a) b b' z (omega arith) c (judge-passes m c p) same))
