-- The host's plan at apply, 13 and 14: each comes with the lowest lane that its condition holds of.
use mathlib.Core.Path.{◌≡◌, refl, sym, ◌∙◌}
use mathlib.Core.Logic.Iff
use mathlib.Core.Logic.{◌⊎◌, inl, inr, ◌↔◌}
use mathlib.Core.Bool.{Bool, true, false, ◌&&◌, not, cond}
use Prim.Native.Nat.{ℕ, zero, suc, ◌+◌, ◌-◌, ◌≤◌, ◌<◌}
use native.Mathlib.Omega.{arith}
use native.Mathlib.Decide.{ℕ_discrete, dec_lt}
use lib.Dec.{T, leb, eqb}
use borrow.Author.Tests.{ne_eqb}
use Rattle.rules.specs.Words.{at_lane, Call, select, write, read, byte_write, byte_read, publish, apply}
use Rattle.rules.specs.Numbers.{bit_of, lowest}
use Rattle.rules.specs.Descriptor.{is_app, has_app}
use Rattle.rules.specs.Load.{Map}
use Rattle.rules.specs.Place.{entry, parts_of}
use Rattle.rules.specs.Accept.{accepts}
use Rattle.rules.specs.Refuse.{passes, refuses, chooses, at_lowest}
use Rattle.rules.specs.Source.{kept, copied, is_copied}
use Rattle.rules.specs.Bank.{Bank, number_in, app_sel_in, bank_lacks_app, bank_source, bank_holds_bad, bank_plan}
use Rattle.rules.specs.Columns.{Accepts}
use Rattle.rules.specs.Conditions.{Lowest, LacksApp, Copied, HoldsBad, plan_rules}
use Rattle.rules.proofs.Basics.Tests.{from-true}
use Rattle.rules.proofs.Basics.Any.{any-here, any-some}
use Rattle.rules.proofs.Basics.Facts.{le-says, not-says, and-says, and-says₃}
use Rattle.rules.proofs.Table.Columns.{accepts-says}
use Rattle.rules.proofs.Refusals.Firsts.{Says, AllSay, none, also}

module _ (f : ℕ → Bool) (bad : ℕ → Type 0) (same : (i : ℕ) → T (f i) ↔ bad i) where
  -- l is the lowest of the n numbers from i on that is bad
  record From (n i l : ℕ) : Type 0 where
    low : i ≤ l
    top : l < i + n
    is : bad l
    below : (j : ℕ) → i ≤ j → j < l → ¬ (bad j)

  lowest-from : (n i l : ℕ) → 0 < l → lowest n i f ≡ l → From n i l
  unfolding lowest
  lowest-from zero i l p h = absurd (omega arith)
  lowest-from (suc n) i l p h = go (f i) refl h (lowest-from n (suc i) l p)
    where
      go : (t : Bool) → f i ≡ t → cond t i (lowest n (suc i) f) ≡ l → (lowest n (suc i) f ≡ l → From n (suc i) l) → From (suc n) i l
      go true q e r =
          record { low = omega arith; top = omega arith; is = rw (← e) ((same i).0 (from-true q)); below = λ j a b. absurd (omega arith) }
      go false q e r = let g = r e in record { low = omega (arith, g.low); top = omega (arith, g.top); is = g.is; below = below g }
        where
          below : From n (suc i) l → (j : ℕ) → i ≤ j → j < l → ¬ (bad j)
          below g j a b = at (ℕ_discrete j i)
            where
              at : Dec (j ≡ i) → ¬ (bad j)
              at (yes e) h = rw q at ((same i).1 (rw e at h))
              at (no ne) h = g.below j (omega arith) b h

  from-lowest : (n i l : ℕ) → From n i l → lowest n i f ≡ l
  unfolding lowest
  from-lowest zero i l g = absurd (omega (arith, g.low, g.top))
  from-lowest (suc n) i l g = go (f i) refl (ℕ_discrete i l) (from-lowest n (suc i) l)
    where
      go : (t : Bool) → f i ≡ t → Dec (i ≡ l) → (From n (suc i) l → lowest n (suc i) f ≡ l) → cond t i (lowest n (suc i) f) ≡ l
      go true q (yes e) r = e
      go true q (no ne) r = absurd (g.below i (omega arith) (omega (arith, g.low)) ((same i).0 (from-true q)))
      go false q (yes e) r = absurd (rw q at ((same i).1 (rw (← e) at g.is)))
      go false q (no ne) r =
          r (record { low = omega (arith, g.low); top = omega (arith, g.top); is = g.is; below = λ j a b. g.below j (omega arith) b })

  pub lowest-says : (n : ℕ) → Says (at_lowest n f) (λ x. (i : ℕ) × (x ≡ at_lane n i) × Lowest bad i)
  unfolding at_lowest
  lowest-says n x = go (lowest 8 1 f) refl
    where
      is : (i : ℕ) → Lowest bad i → lowest 8 1 f ≡ i
      is i w = from-lowest 8 1 i (record { low = w.lane.0; top = omega (arith, w.lane); is = w.is; below = w.below })

      go : (l : ℕ) → lowest 8 1 f ≡ l
          → (cond (eqb l 0) passes (refuses (at_lane n l)) ≡ refuses x) ↔ ((i : ℕ) × (x ≡ at_lane n i) × Lowest bad i)
      go zero q = (λ h. let o : ◌≡◌ {A = ℕ} 0 1 = cc in absurd (omega arith), λ h. absurd (omega (arith, is h.0 h.2, h.2.lane)))
      go (suc k) q =
          let g = lowest-from 8 1 (suc k) (omega arith) q in
          let w : Lowest bad (suc k) = record { lane = (omega arith, omega (arith, g.top)); is = g.is; below = g.below } in
          rw (ne_eqb (suc k) 0 (omega arith))
          (λ h. let e : x ≡ at_lane n (suc k) = cc in (suc k, e, w), λ h. let e : suc k ≡ h.0 = sym q ∙ is h.0 h.2 in rw (h.1, e) refl)

app-says : (count a : ℕ) → T (is_app count a) ↔ ((1 ≤ a) × (a ≤ count))
app-says count a = and-says (leb 1 a) (leb a count) (le-says 1 a) (le-says a count)

-- 13
lacks-app : (count a : ℕ) → T (not (is_app count a)) ↔ ((a ≡ 0) ⊎ (count < a))
lacks-app count a = Iff.trans (not-says (is_app count a) (app-says count a)) (λ n. go n (ℕ_discrete a 0) (dec_lt count a), back)
  where
    go : ¬ ((1 ≤ a) × (a ≤ count)) → Dec (a ≡ 0) → Dec (count < a) → (a ≡ 0) ⊎ (count < a)
    go n (yes z) d = inl z
    go n (no z) (yes l) = inr l
    go n (no z) (no l) = absurd (n (omega arith, omega arith))

    back : (a ≡ 0) ⊎ (count < a) → ¬ ((1 ≤ a) × (a ≤ count))
    back (inl z) h = omega arith
    back (inr l) h = omega arith

-- a field to be copied
pub is-copied : (t : Bool) → is_copied (cond t copied kept) ≡ t
is-copied true = refl
is-copied false = refl

module _ (m : Map) (b : Bank) (s lanes : ℕ) where
  lacks-says : (i : ℕ) → T (bank_lacks_app m b s lanes i) ↔ LacksApp m b s lanes i
  unfolding bank_lacks_app
  lacks-says i = and-says (chooses lanes i) (not (is_app m.count (app_sel_in b s i))) Iff.rfl (lacks-app m.count (app_sel_in b s i))

  copied-says : (e i : ℕ) → T (is_copied (bank_source m b s lanes e i)) ↔ Copied m b s lanes e i
  unfolding bank_source
  copied-says e i =
      rw (is-copied (chooses lanes i && has_app m.count (entry m e).mask (app_sel_in b s i)))
      (λ h. let (c, (l, u), t) = says.0 h in (c, l, u, t), λ h. says.1 (h.0, (h.1, h.2), h.3))
    where
      a : ℕ
      a = app_sel_in b s i

      says : T (chooses lanes i && has_app m.count (entry m e).mask a) ↔ (T (chooses lanes i) × ((1 ≤ a) × (a ≤ m.count)) × T (bit_of (entry m e).mask (a - 1)))
      says = and-says₃ (chooses lanes i) (is_app m.count a) (bit_of (entry m e).mask (a - 1)) Iff.rfl (app-says m.count a) Iff.rfl

  -- 14
  holds-says : (i : ℕ) → T (bank_holds_bad m b s lanes i) ↔ HoldsBad m b s lanes i
  unfolding bank_holds_bad
  holds-says i = (to, back)
    where
      says : (e p : ℕ)
          → T (is_copied (bank_source m b s lanes e i) && not (accepts (entry m e) (number_in m b s e p i)))
          ↔ (Copied m b s lanes e i × ¬ (Accepts (entry m e) (number_in m b s e p i)))
      says e p = and-says (is_copied (bank_source m b s lanes e i)) _ (copied-says e i) (not-says (accepts (entry m e) (number_in m b s e p i)) (accepts-says (entry m e) _))

      back : HoldsBad m b s lanes i → T (bank_holds_bad m b s lanes i)
      back h =
          any-here m.rw_count _ h.e h.ent
          (any-here (parts_of (entry m h.e)) _ h.p h.part ((says h.e h.p).1 (h.copied, h.bad)))

      to : T (bank_holds_bad m b s lanes i) → HoldsBad m b s lanes i
      to h =
          let (e, he, h₁) = any-some m.rw_count _ h in
          let (p, hp, h₂) = any-some (parts_of (entry m e)) _ h₁ in
          let (c, n) = (says e p).0 h₂ in
          record { e = e; p = p; ent = he; part = hp; copied = c; bad = n }

pub plan-says : (m : Map) (c : Call) (b : Bank) → AllSay (bank_plan m c b) (plan_rules m c b)
unfolding bank_plan
plan-says m (select s i a) b = none
plan-says m (write s f v) b = none
plan-says m (read s f) b = none
plan-says m (byte_write s k v) b = none
plan-says m (byte_read s k) b = none
plan-says m (publish f v) b = none
plan-says m (apply s lanes) b =
    also
    (lowest-says (bank_lacks_app m b s lanes) (LacksApp m b s lanes) (lacks-says m b s lanes) 13)
    (also (lowest-says (bank_holds_bad m b s lanes) (HoldsBad m b s lanes) (holds-says m b s lanes) 14) none)
