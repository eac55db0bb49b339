-- Where fields lie: each in its entry, no two overlapping.
use mathlib.Core.Path.{◌≡◌, sym, ap, ◌∙◌}
use mathlib.Core.Logic.{◌⊎◌, inl, inr, ◌≢◌}
use mathlib.Core.Bool.{◌&&◌, not}
use Prim.Native.Nat.{ℕ, suc, ◌+◌, ◌*◌, ◌/◌, ◌≤◌, ◌<◌}
use native.Mathlib.Omega.{arith}
use native.Mathlib.Decide.{ℕ_discrete, dec_lt}
use lib.Arith.{digits_lt, digits_div}
use lib.ListN.{length}
use lib.Dec.{T, T_not, ltb, leb, eqb, ltb→lt, leb→le, lt→ltb, le→leb, nltb→le}
use borrow.Author.Tests.{eq-eqb}
use Rattle.rules.specs.Words.{Entry}
use Rattle.rules.specs.Load.{Map}
use Rattle.rules.specs.Place.{entry, parts_of, width_of, is_set, is_staged, is_rw, is_lane, held_by, has_field, holds, lane_byte, field_byte, field_bit, covers, Width, Field}
use Rattle.rules.specs.Layout.{bank_size, HasBytes, has_bytes, set_start, app_sel_at}
use Rattle.rules.specs.Bank.{field_at}
use Rattle.rules.proofs.Basics.Tests.{and₂, and₄, and₅, both-true, from-true, either, not-not, not-and}
use Rattle.rules.proofs.Place.Lanes.{lane-byte-lt, lane-room}
use Rattle.rules.proofs.Bank.Places.{set-inside, set-apart, app-no-set, has-bytes, has-bytes-test}
use Rattle.rules.proofs.Place.AcceptedMap.{GoodMap, rw-held, entry-good, entry-ends, entries-apart}

pub holds-field : (m : Map) (s e p i : ℕ) → T (holds m s e p i) → Field m s e p i
holds-field m s e p i h =
    let (h₀, h₁, h₂, h₃, h₄) = and₅ (has_bytes s) (ltb e (held_by m s)) (ltb p (parts_of (entry m e))) (leb 1 i) (leb i 8) h in
    record { set = has-bytes s h₀; ent = ltb→lt _ _ h₁; part = ltb→lt _ _ h₂; low = leb→le _ _ h₃; top = leb→le _ _ h₄ }

pub field-holds : {m : Map} {s e p i : ℕ} → Field m s e p i → T (holds m s e p i)
field-holds {m} {s} {e} {p} {i} f =
    both-true (has_bytes s) _ (has-bytes-test s f.set)
    (both-true (ltb e (held_by m s)) _ (lt→ltb _ _ f.ent)
    (both-true (ltb p (parts_of (entry m e))) _ (lt→ltb _ _ f.part) (both-true (leb 1 i) _ (le→leb _ _ f.low) (le→leb _ _ f.top))))

-- an entry's field, in a set that holds the entry
-- a lane counted from 0
pub lane-field : (m : Map) (s : ℕ) → HasBytes s → (e p j : ℕ) → e < held_by m s → p < parts_of (entry m e) → j < 8 → Field m s e p (suc j)
lane-field m s hs e p j he hp hj = record { set = hs; ent = he; part = hp; low = omega arith; top = omega arith }

pub field-of : (m : Map) (s e p i : ℕ) → HasBytes s → e < held_by m s → T (has_field m e p i) → Field m s e p i
field-of m s e p i hs he h =
    let (h₁, h₂, h₃, h₄) = and₄ (ltb e (length m.entries)) (ltb p (parts_of (entry m e))) (leb 1 i) (leb i 8) h in
    record { set = hs; ent = he; part = ltb→lt _ _ h₂; low = leb→le _ _ h₃; top = leb→le _ _ h₄ }

-- a set that is there and is not set 2 is staged
pub staged-set : (s : ℕ) → T (is_set s) → T (not (eqb s 2)) → s < 2
staged-set s h n = let l : s < 3 = ltb→lt _ _ h in omega (arith, n≢ (ℕ_discrete s 2))
  where
    n≢ : Dec (s ≡ 2) → s ≢ 2
    n≢ (yes q) = absurd (T_not (eqb s 2) n (from-true (eq-eqb s 2 q)))
    n≢ (no q) = q

-- every entry is held by the active set
pub active-held : (m : Map) (e p i : ℕ) → T (has_field m e p i) → e < held_by m 2
unfolding held_by
active-held m e p i h = ltb→lt _ _ (and₂ (ltb e (length m.entries)) (ltb p (parts_of (entry m e)) && is_lane i) h).0

-- a set holds an entry that may be read in it
pub read-held : (m : Map) → GoodMap m → (s e p i : ℕ) → T (is_set s) → T (has_field m e p i) → T (not (is_staged s && not (is_rw m e))) → e < held_by m s
read-held m g s e p i hs h n = go (either (is_staged s))
  where
    go : T (is_staged s) ⊎ T (not (is_staged s)) → e < held_by m s
    go (inl a) = rw-held m g s e (ltb→lt _ _ (not-not (is_rw m e) (not-and (is_staged s) (not (is_rw m e)) n a)))
    go (inr a) = let q : s ≡ 2 = omega (arith, ltb→lt s 3 hs, nltb→le s 2 a) in rw q (active-held m e p i h)

-- the same field in another set that holds the entry
pub field-in-set : {m : Map} {s e p i : ℕ} (s' : ℕ) → HasBytes s' → e < held_by m s' → Field m s e p i → Field m s' e p i
field-in-set s' hs he f = record { set = hs; ent = he; part = f.part; low = f.low; top = f.top }

-- what the test `covers` asks: the bit's byte is the field's, and the bit one of the field's there
pub covers-bit : (e : Entry) (p i k q : ℕ) → field_byte e p i ≡ k → field_bit e i ≤ q → q < field_bit e i + width_of e → T (covers e p i k q)
covers-bit e p i k q here low top =
    both-true (eqb (field_byte e p i) k) _ (from-true (eq-eqb _ _ here)) (both-true (leb (field_bit e i) q) _ (le→leb _ _ low) (lt→ltb _ _ top))

module _ (m : Map) (g : GoodMap m) where
  pub field-width : {s e p i : ℕ} → Field m s e p i → Width (width_of (entry m e))
  field-width {s} {e} f = (entry-good m g s e f.ent).width (omega (arith, f.part))

  -- a field's byte lies in its entry's parts, so in its entry, so in its set; its bits in that byte
  pub in-parts :
      {s e p i : ℕ}
      → Field m s e p i
      → p * width_of (entry m e) + lane_byte (width_of (entry m e)) i < parts_of (entry m e) * width_of (entry m e)
  in-parts {s} {e} {p} {i} f = digits_lt f.part (lane-byte-lt (width_of (entry m e)) (field-width f) i f.low f.top)

  pub in-entry : {s e p i : ℕ} → Field m s e p i → field_byte (entry m e) p i < (entry m e).offset + (entry m e).memory
  in-entry {s} {e} f = omega (arith, in-parts f, (entry-good m g s e f.ent).room)

  pub in-set : {s e p i : ℕ} → Field m s e p i → field_byte (entry m e) p i < 256
  in-set {s} {e} f = omega (arith, in-entry f, entry-ends m g s e f.ent)

  -- its place in the bank: inside, no AppSel's, and byte k of a set only where both are the field's own
  pub in-bank : {s e p i : ℕ} → Field m s e p i → field_at m s e p i < bank_size
  in-bank {s} f = set-inside s _ f.set (in-set f)

  pub no-app : {s e p i : ℕ} → Field m s e p i → (s' i' : ℕ) → s' < 2 → i' ≤ 8 → app_sel_at s' i' ≢ field_at m s e p i
  no-app {s} f s' i' hs hi = app-no-set s' i' s _ hs hi f.set (in-set f)

  pub own-place : {s e p i : ℕ} → Field m s e p i → (s' k : ℕ) → HasBytes s' → k < 256 → set_start s' + k ≡ field_at m s e p i → (s' ≡ s) × (k ≡ field_byte (entry m e) p i)
  own-place {s} f s' k hs hk = set-apart s' k s _ hs f.set hk (in-set f)

  pub in-byte : {s e p i : ℕ} → Field m s e p i → field_bit (entry m e) i + width_of (entry m e) ≤ 8
  in-byte {s} {e} {p} {i} f = lane-room (width_of (entry m e)) (field-width f) i f.low

  -- two fields in one byte are lanes of one part
  module _ {s e p i s' e' p' i' : ℕ} (f : Field m s e p i) (f' : Field m s' e' p' i') where
    pub same-entry : field_byte (entry m e) p i ≡ field_byte (entry m e') p' i' → e ≡ e'
    same-entry q = go (dec_lt e e') (dec_lt e' e)
      where
        go : Dec (e < e') → Dec (e' < e) → e ≡ e'
        go (yes l) d = omega (arith, entries-apart m g s s' e e' f.ent f'.ent l, in-entry f)
        go (no a) (yes l) = omega (arith, entries-apart m g s' s e' e f'.ent f.ent l, in-entry f')
        go (no a) (no b) = omega arith

    pub same-set : field_at m s e p i ≡ field_at m s' e' p' i' → s ≡ s'
    same-set q = (set-apart s _ s' _ f.set f'.set (in-set f) (in-set f') q).0

    pub same-byte : field_at m s e p i ≡ field_at m s' e' p' i' → field_byte (entry m e) p i ≡ field_byte (entry m e') p' i'
    same-byte q = (set-apart s _ s' _ f.set f'.set (in-set f) (in-set f') q).1

  pub same-part : {s e p i s' p' i' : ℕ} → Field m s e p i → Field m s' e p' i' → field_byte (entry m e) p i ≡ field_byte (entry m e) p' i' → p ≡ p'
  same-part {s} {e} {p} {i} {s'} {p'} {i'} f f' q =
      sym (digits_div p (lane-byte-lt (width_of (entry m e)) (field-width f) i f.low f.top))
      ∙ ap (λ n. n / width_of (entry m e)) (let a : p * width_of (entry m e) + lane_byte (width_of (entry m e)) i ≡ p' * width_of (entry m e) + lane_byte (width_of (entry m e)) i' = omega arith in a)
      ∙ digits_div p' (lane-byte-lt (width_of (entry m e)) (field-width f) i' f'.low f'.top)
