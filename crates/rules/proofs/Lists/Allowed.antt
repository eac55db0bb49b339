-- What a call that passes 10, 11 and 12 is about: a staged set, a lane, a field that its set holds, a value that fits it.
use mathlib.Core.Bool.{not}
use Prim.Native.Nat.{ℕ, ◌^◌, ◌≤◌, ◌<◌}
use native.Mathlib.Omega.{arith}
use lib.IntN.{ℤ}
use lib.Dec.{T, leb, eqb, ltb→lt, leb→le, nltb→le}
use Rattle.rules.specs.Words.{select, write, read, publish, apply, the_field}
use Rattle.rules.specs.Load.{Map}
use Rattle.rules.specs.Place.{entry, width_of, signed_of, is_set, is_rw, has_field, Field}
use Rattle.rules.specs.Accept.{accepts, to_bits}
use Rattle.rules.specs.Refuse.{exists, misdirected, unaccepted}
use Rattle.rules.proofs.Bank.Places.{named-has-bytes}
use Rattle.rules.proofs.Basics.Tests.{and₂, and₃, not-or, not-not}
use Rattle.rules.proofs.Place.Lanes.{width-pos}
use Rattle.rules.proofs.Table.Numbers.{fits, to-lt}
use Rattle.rules.proofs.Table.Rows.{accepts-fits}
use Rattle.rules.proofs.Place.AcceptedMap.{GoodMap, rw-held}
use Rattle.rules.proofs.Place.Fields.{field-width, field-of, staged-set, active-held, read-held}
use Rattle.rules.proofs.Refusals.Verdicts.{Judged}

module _ (m : Map) where
  pub select-allowed : {s i a : ℕ} → Judged m (select s i a) → (s < 2) × (1 ≤ i) × (i ≤ 8) × (a ≤ m.count)
  unfolding exists misdirected unaccepted
  select-allowed {s} {i} {a} j =
      let (h₁, h₂, h₃) = and₃ (is_set s) (leb 1 i) (leb i 8) j.there in
      (staged-set s h₁ j.may, leb→le _ _ h₂, leb→le _ _ h₃, nltb→le _ _ j.fine)

  pub apply-staged : {s lanes : ℕ} → Judged m (apply s lanes) → s < 2
  unfolding exists misdirected
  apply-staged {s} j = staged-set s j.there j.may

  pub write-fits : {s e p i : ℕ} {v : ℤ} → Judged m (write s (the_field e p i) v) → T (fits (signed_of (entry m e)) (width_of (entry m e)) v)
  unfolding unaccepted
  write-fits {s} {e} {p} {i} {v} j = accepts-fits (entry m e) v (not-not (accepts (entry m e) v) j.fine)

  pub publish-fits : {e p i : ℕ} {v : ℤ} → Judged m (publish (the_field e p i) v) → T (fits (signed_of (entry m e)) (width_of (entry m e)) v)
  unfolding unaccepted
  publish-fits {e} {p} {i} {v} j = accepts-fits (entry m e) v (not-not (accepts (entry m e) v) j.fine)

  pub publish-field : {e p i : ℕ} {v : ℤ} → Judged m (publish (the_field e p i) v) → Field m 2 e p i
  unfolding exists
  publish-field {e} {p} {i} j = field-of m 2 e p i (named-has-bytes 2 (omega arith)) (active-held m e p i j.there) j.there

module _ (m : Map) (g : GoodMap m) where
  pub write-field : {s e p i : ℕ} {v : ℤ} → Judged m (write s (the_field e p i) v) → Field m s e p i
  unfolding exists misdirected
  write-field {s} {e} {p} {i} j =
      let (h₁, h₂) = and₂ (is_set s) (has_field m e p i) j.there in
      let (h₃, h₄) = not-or (eqb s 2) (not (is_rw m e)) j.may in
      field-of m s e p i (named-has-bytes s (ltb→lt _ _ h₁)) (rw-held m g s e (ltb→lt _ _ (not-not (is_rw m e) h₄))) h₂

  pub read-field : {s e p i : ℕ} → Judged m (read s (the_field e p i)) → Field m s e p i
  unfolding exists misdirected
  read-field {s} {e} {p} {i} j =
      let (h₁, h₂) = and₂ (is_set s) (has_field m e p i) j.there in
      field-of m s e p i (named-has-bytes s (ltb→lt _ _ h₁)) (read-held m g s e p i h₁ h₂ j.may) h₂

  -- the bits of a number that fits a field
  pub bits-lt : {s e p i : ℕ} (v : ℤ) → Field m s e p i → T (fits (signed_of (entry m e)) (width_of (entry m e)) v) → to_bits (width_of (entry m e)) v < 2 ^ width_of (entry m e)
  bits-lt {s} {e} v f h = to-lt (width_of (entry m e)) (width-pos (width_of (entry m e)) (field-width m g f)) (signed_of (entry m e)) v h
