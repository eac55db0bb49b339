-- The law of `field_bits`: the bits of a byte that belong to fields are the whole byte where it has fields, and 0 where it has none.
use mathlib.Core.Path.{◌≡◌, ap, ◌∙◌}
use mathlib.Core.Logic.{◌⊎◌, inl, inr}
use mathlib.Core.Bool.{true, false, not, cond}
use Prim.Native.Nat.{ℕ, ◌*◌, ◌%◌, ◌^◌, ◌<◌}
use native.Mathlib.Nat.{mul-one}
use lib.Dec.{T, T_not}
use Rattle.rules.specs.Numbers.{cut, sum}
use Rattle.rules.specs.Load.{Map}
use Rattle.rules.specs.Place.{owner_of}
use Rattle.rules.specs.Bank.{is_gap, field_bits}
use Rattle.rules.specs.Layout.{HasBytes}
use Rattle.rules.proofs.Basics.Tests.{either, is-true, is-false}
use Rattle.rules.proofs.Basics.Sums.{sum-zero, sum-ext}
use Rattle.rules.proofs.Place.LanesOfByte.{digits-sum}
use Rattle.rules.proofs.Place.AcceptedMap.{GoodMap}
use Rattle.rules.proofs.Place.CoveredBytes.{covered, in-covered, in-field, field-covered}
use Rattle.rules.proofs.Place.Owners.{Covers, covers-says, covers-owner, owner-none}

module _ (m : Map) (g : GoodMap m) (s k : ℕ) (hs : HasBytes s) where
  -- each bit of a byte with fields has an owner
  owned-in : T (covered m s k) → (q : ℕ) → q < 8 → is_gap (owner_of m s k q) ≡ false
  owned-in c q hq =
      let (e, h) = in-covered m s k c in
      let (p, i, f, x) = in-field m g h hs q hq in
      ap is_gap (covers-owner m g s k q hs e p i f x)

  -- no bit of any other byte has one
  gap-in : T (not (covered m s k)) → (q : ℕ) → is_gap (owner_of m s k q) ≡ true
  gap-in n q =
      ap is_gap (owner-none m g s k q hs λ e p i f c.
      let here : Covers m e p i k q = covers-says c in T_not (covered m s k) n (rw here.byte at (field-covered m g f)))

  pub field-bits : (x : ℕ) → field_bits m s k x ≡ cond (covered m s k) (x % 256) 0
  unfolding field_bits
  field-bits x = go (either (covered m s k))
    where
      go : T (covered m s k) ⊎ T (not (covered m s k)) → sum 8 (λ q. cond (is_gap (owner_of m s k q)) 0 (cut x q 1 * 2 ^ q)) ≡ cond (covered m s k) (x % 256) 0
      go (inl c) =
          rw (is-true (covered m s k) c)
          (sum-ext 8 _ (λ q. cut x (q * 1) 1 * 2 ^ (q * 1)) (λ q l. rw (owned-in c q l, mul-one q))
          ∙ digits-sum 1 8 x)
      go (inr n) = rw (is-false (covered m s k) n) (sum-zero 8 _ (λ q l. rw (gap-in n q)))
