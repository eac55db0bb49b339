-- A call on lanes writes only bits of their fields and their AppSels.
use mathlib.Core.Path.{◌≡◌, refl, sym, ◌∙◌}
use mathlib.Core.Logic.{◌⊎◌, inl, inr, ◌≢◌}
use mathlib.Core.Bool.{Bool, not}
use mathlib.Core.List.{◌++◌}
use Prim.Native.Nat.{ℕ, ◌+◌, ◌^◌, ◌≤◌, ◌<◌}
use lib.ListN.{length, set, length-set}
use lib.Seq.{get_or-set_other}
use lib.Dec.{T, T_not, eqb_refl}
use Rattle.rules.specs.Words.{Call, select, write, read, byte_write, byte_read, publish, apply}
use Rattle.rules.specs.Load.{Map, map_of, read_of}
use Rattle.rules.specs.Place.{entry, width_of, Field}
use Rattle.rules.specs.Layout.{bank_size, set_start, app_sel_at}
use Rattle.rules.specs.Refuse.{Verdict, passes, refuses, decide, judge, bank_order, chooses}
use Rattle.rules.specs.Source.{kept}
use Rattle.rules.specs.Bank.{Bank, field_at, get_field, put_field, with_number, bank_source, bits_from, bank_plan, apply_bank, bank_does, bank_call}
use Rattle.rules.proofs.Basics.Tests.{either, is-false}
use Rattle.rules.proofs.Bank.Places.{app-apart, app-no-set}
use Rattle.rules.proofs.Place.AcceptedMap.{GoodMap}
use Rattle.rules.proofs.Load.Walks.{map-good}
use Rattle.rules.proofs.Place.Fields.{no-app}
use Rattle.rules.proofs.Bank.FieldWritten.{other₄, get-put-other, put-bit, put-own, put-elsewhere, put-size}
use Rattle.rules.proofs.Lists.Allowed.{select-allowed, write-field, write-fits, publish-field, publish-fits, bits-lt}
use Rattle.rules.proofs.Apply.Applied.{apply-keeps, given-lt}
use Rattle.rules.proofs.Refusals.Verdicts.{Judged, first-append, judge-passes}
use Rattle.rules.proofs.Refusals.Orders.{bank-order-passes}
use Rattle.rules.specs.Footprint.{on_lane, laned, OnlyOn, WritesOnly}

only-self : (m : Map) (on : ℕ → Bool) (b : Bank) → OnlyOn m on b b
only-self m on b = record { size = refl; bits = λ _ _ _ _ _ _. refl; lanes = λ _ _ _ _. record { fields = λ _ _ _ _. refl; apps = λ _ _. refl } }

only-then : {m : Map} {on : ℕ → Bool} {b c d : Bank} → OnlyOn m on b c → OnlyOn m on c d → OnlyOn m on b d
only-then h k =
    record {
      size = k.size ∙ h.size;
      bits = λ s n q hs hn out. k.bits s n q hs hn out ∙ h.bits s n q hs hn out;
      lanes = λ i l u off.
          record {
            fields = λ s e p f. (k.lanes i l u off).fields s e p f ∙ (h.lanes i l u off).fields s e p f;
            apps = λ s hs. (k.lanes i l u off).apps s hs ∙ (h.lanes i l u off).apps s hs;
          };
    }

-- a lane that a call is on is no lane that it is not on
lanes-differ : (on : ℕ → Bool) (i j : ℕ) → T (on i) → T (not (on j)) → j ≢ i
lanes-differ on i j y n q = T_not (on j) n (rw q y)

module _ (m : Map) (g : GoodMap m) (on : ℕ → Bool) (b : Bank) (size : bank_size ≤ length b) where
  -- bits put into a field of a lane
  only-put : (s e p i v : ℕ) → Field m s e p i → v < 2 ^ width_of (entry m e) → T (on i) → OnlyOn m on b (put_field m b s e p i v)
  only-put s e p i v f hv y =
      record {
        size = put-size m g b size s e p i v f hv;
        bits = λ s' k q hs hk out. put-bit m g b size s e p i v f hv s' k q hs hk (λ es c. T_not (on i) (out e p i (rw es f) c) y);
        lanes = λ j l u n.
            record {
              fields = λ s' e' p' f'. get-put-other m g b size s e p i v f hv s' e' p' j f' (other₄ s e p i s' e' p' j (λ _ _ _. lanes-differ on i j y n));
              apps = λ s' hs. put-elsewhere m g b size s e p i v f hv (app_sel_at s' j) (no-app m g f s' j hs u);
            };
      }

  -- an AppSel of a lane
  only-select : (s i a : ℕ) → s < 2 → 1 ≤ i → i ≤ 8 → T (on i) → OnlyOn m on b (set b (app_sel_at s i) a)
  unfolding get_field
  only-select s i a hs hi hj y =
      record {
        size = length-set b (app_sel_at s i) a;
        bits = λ s' k q hs' hk out. rw (get_or-set_other b (app_sel_at s i) (set_start s' + k) a 0 (λ x. app-no-set s i s' k hs hj hs' hk (sym x)));
        lanes = λ j l u n.
            let ne : j ≢ i = lanes-differ on i j y n in
            record {
              fields = λ s' e p f. rw (get_or-set_other b (app_sel_at s i) (field_at m s' e p j) a 0 (λ x. no-app m g f s i hs hj (sym x)));
              apps = λ s' hs'. get_or-set_other b (app_sel_at s i) (app_sel_at s' j) a 0 (λ x. ne (app-apart s' j s i hs' hs l u hi hj x).1);
            };
      }

-- an accepted call
module _ (m : Map) (g : GoodMap m) (b : Bank) (size : bank_size ≤ length b) where
  -- a field of a lane that is not chosen keeps its bits
  source-off : (s lanes e i : ℕ) → T (not (chooses lanes i)) → bank_source m b s lanes e i ≡ kept
  unfolding bank_source
  source-off s lanes e i n = rw (is-false (chooses lanes i) n) refl

  only-apply : (s lanes : ℕ) → OnlyOn m (chooses lanes) b (apply_bank m s lanes b)
  only-apply s lanes =
      apply-keeps m g s lanes b (OnlyOn m (chooses lanes) b)
      (λ e p i x he f k. give e p i x f k (either (chooses lanes i)))
      (only-self m (chooses lanes) b)
    where
      give : (e p i : ℕ) (x : Bank) → Field m 2 e p i → OnlyOn m (chooses lanes) b x → T (chooses lanes i) ⊎ T (not (chooses lanes i))
          → OnlyOn m (chooses lanes) b (put_field m x 2 e p i (bits_from (bank_source m b s lanes e i) m b s e p i))
      give e p i x f k (inl y) = only-then k (only-put m g (chooses lanes) x (rw k.size size) 2 e p i _ f (given-lt m g s lanes b e p i) y)
      give e p i x f k (inr n) = rw (source-off s lanes e i n, ← (k.lanes i f.low f.top n).fields 2 e p f, put-own m x 2 e p i) k

  does-only : (c : Call) → T (laned c) → Judged m c → OnlyOn m (on_lane c) b (bank_does m c b).1
  unfolding bank_does with_number
  does-only (select s i a) h j = let (hs, hi, hj, ha) = select-allowed m j in only-select m g (on_lane (select s i a)) b size s i a hs hi hj (eqb_refl i)
  does-only (write s f v) h j =
      let x : Field m s f.entry f.part f.lane = write-field m g j in
      only-put m g (on_lane (write s f v)) b size s f.entry f.part f.lane _ x (bits-lt m g v x (write-fits m j)) (eqb_refl f.lane)
  does-only (read s f) h j = only-self m _ b
  does-only (byte_write s k v) h j = absurd h
  does-only (byte_read s k) h j = absurd h
  does-only (publish f v) h j =
      let x : Field m 2 f.entry f.part f.lane = publish-field m j in
      only-put m g (on_lane (publish f v)) b size 2 f.entry f.part f.lane _ x (bits-lt m g v x (publish-fits m j)) (eqb_refl f.lane)
  does-only (apply s lanes) h j = only-apply s lanes

pub call-writes : WritesOnly
unfolding bank_call
call-writes count first last c b h = go (bank_order (read_of count first last) (length b) (judge m c ++ bank_plan m c b)) refl
  where
    m : Map
    m = map_of count first last

    go : (v : Verdict) → bank_order (read_of count first last) (length b) (judge m c ++ bank_plan m c b) ≡ v → OnlyOn m (on_lane c) b (decide v b (bank_does m c b)).1
    go (refuses r) q = only-self m (on_lane c) b
    go passes q =
        let (a, z, r) = bank-order-passes count first last (length b) _ q in
        does-only m (map-good count first last a) b z c h (judge-passes m c (first-append (judge m c) (bank_plan m c b) r).0)
