-- The owner of a bit, from the entry that covers its byte.
use Rattle.std.specs.Prelude.{Option, Some, None, Result, Ok, Err}
use mathlib.Core.Path.{◌≡◌, refl, sym, ap, ◌∙◌}
use mathlib.Core.Bool.{Bool, true, false, ◌&&◌, not, cond}
use mathlib.Core.List.{List}
use Prim.Native.Nat.{ℕ, ◌+◌, ◌-◌, ◌*◌, ◌/◌, ◌%◌, ◌≤◌, ◌<◌}
use native.Mathlib.Numerals.{add-one}
use native.Mathlib.Omega.{arith}
use lib.Dec.{T, ltb, ltb→lt}
use borrow.Author.Tests.{ltb-true, ltb-false, le-ltb}
use Rattle.rules.specs.declared.Refusal.{Refusal}
use Rattle.rules.specs.Words.{no_owner, owned_by}
use Rattle.rules.specs.declared.Refusal.TheVariants.{Plain as plain}
use Rattle.rules.specs.Load.{Map, map_of}
use Rattle.rules.specs.Place.{entry, parts_of, width_of, is_set, is_staged, held_by, length_of, owner_of}
use Rattle.rules.specs.Beside.{looked_at, owned_as, is_bit, owner_call}
use Rattle.rules.specs.Demands.{Accepted}
use Rattle.rules.proofs.Basics.Tests.{and₃, is-false, from-true, and-no}
use Rattle.rules.proofs.Place.AcceptedMap.{GoodMap}
use Rattle.rules.proofs.Load.Walks.{map-good}
use Rattle.rules.proofs.Load.EntryHeads.{entry-fits}
use Rattle.rules.proofs.Place.OwnerAt.{owner-field, owner-surplus}
use Rattle.rules.proofs.Place.PlaceCalls.{owner-refused, owner-10, owner-is, space-in-set, space-held}
use Rattle.rules.proofs.Bank.Places.{named-has-bytes}
use Rattle.descriptor.proofs.TableRows.{parts-few, width-narrow}
use Rattle.descriptor.specs.declared.Fields.{Fields}
use Rattle.descriptor.specs.declared.Covered.{Covered}
use Rattle.descriptor.specs.Cover.{cover_of}
use Rattle.descriptor.proofs.Covers.{Covering, cover-refused, cover-none, cover-one}
use Rattle.placement.specs.Owner.{field_in, has_space, owned_from, Near}

-- no entry covers the byte: no set has it
pub owns-none :
    (count : ℕ) (rw ro : List ℕ) (s k q : ℕ)
    → Accepted count rw ro
    → ((t : ℕ) → length_of (map_of count rw ro) t ≤ k)
    → Err (plain 10) ≡ owner_call count rw ro s k q
owns-none count first last s k q ok past =
    owner-10 count first last s k q ok (rw (le-ltb k (length_of (map_of count first last) s) (past s)) (and-no (is_set s)))

module _ (count : ℕ) (first last : List ℕ) {k : ℕ} {in_ro : Bool} {n : ℕ} {f : Fields} (c : Covering count first last k in_ro n f) (s q : ℕ) where
  abbrev m : Map
  m = map_of count first last

  g : GoodMap m
  g = map-good count first last c.ok

  -- the code's test is the rule's: an RO entry's space lies past the staged sets
  bit-is : is_bit m s k q ≡ has_space s in_ro q
  bit-is = rw (space-in-set count first last c.ok s n k c.there c.low c.top, c.side) refl

  owns-10 : has_space s in_ro q ≡ false → Err (plain 10) ≡ owner_call count first last s k q
  owns-10 h = owner-10 count first last s k q c.ok (bit-is ∙ h)

  owns-near : (f.parts < 16) × (f.width < 16) × (f.offset ≤ k) × (k - f.offset ≤ 256)
  owns-near =
      let z : (entry m n).offset ≡ f.offset = c.offset-is in
      (rw (← c.parts-is) (parts-few (entry m n)), rw (← c.width-is) (width-narrow (entry m n)), omega (arith, c.low), omega (arith, c.top, entry-fits count first last c.ok n c.there))

  module _ (h : has_space s in_ro q ≡ true) where
    tests : T (is_set s) × T (not (is_staged s && in_ro)) × T (ltb q 8)
    tests = and₃ (is_set s) (not (is_staged s && in_ro)) (ltb q 8) (from-true h)

    held : n < held_by m s
    held =
        space-held count first last c.ok s n k c.there c.low c.top
        (rw c.side (is-false (is_staged s && in_ro) tests.1))

    -- the field, or the surplus past the parts
    in-entry : field_in n (parts_of (entry m n)) (width_of (entry m n)) (looked_at m k) (k - (entry m n).offset) q ≡ owned_as (looked_at m k) (owner_of m s k q)
    unfolding field_in
    in-entry = go (ltb (k - (entry m n).offset) (parts_of (entry m n) * width_of (entry m n))) refl
      where
        set : s < 3
        set = ltb→lt s 3 tests.0

        bit : q < 8
        bit = ltb→lt q 8 tests.2

        go : (b : Bool) → ltb (k - (entry m n).offset) (parts_of (entry m n) * width_of (entry m n)) ≡ b
            → cond b
            (owned_by n ((k - (entry m n).offset) / width_of (entry m n)) (((k - (entry m n).offset) % width_of (entry m n) * 8 + q) / width_of (entry m n) + 1) (looked_at m k))
            (no_owner (looked_at m k))
            ≡ owned_as (looked_at m k) (owner_of m s k q)
        go true x =
            let l : k - (entry m n).offset < parts_of (entry m n) * width_of (entry m n) = ltb-true _ _ x in
            rw add-one (sym (ap (owned_as (looked_at m k)) (owner-field m g s k q (named-has-bytes s set) bit (record { ent = held; low = c.low; top = omega arith }))))
        go false x =
            let l : parts_of (entry m n) * width_of (entry m n) ≤ k - (entry m n).offset = ltb-false _ _ x in
            sym (ap (owned_as (looked_at m k)) (owner-surplus m g s k q (named-has-bytes s set) bit n held (omega (arith, c.low)) c.top))

    owns-field : {z : ℕ} → looked_at (map_of count first last) k ≡ z → field_in n f.parts f.width z (k - f.offset) q ≡ owner_call count first last s k q
    owns-field counts =
        rw (← c.parts-is, ← c.width-is, ← c.offset-is, ← counts) in-entry
        ∙ owner-is count first last s k q c.ok (bit-is ∙ h)

-- from what covers the byte
module _ (count : ℕ) (first last : List ℕ) (k : ℕ) where
  pub near : Near (cover_of count first last k) k
  near = go (cover_of count first last k) refl
    where
      go : (x : Result (Option Covered) Refusal) → cover_of count first last k ≡ x → Near x k
      go (Ok (Some c)) e = owns-near count first last (cover-one count first last k _ _ _ _ e).0 0 0
      go (Ok None) e = tt
      go (Err r) e = tt

  pub owns : (s q : ℕ) → owned_from (cover_of count first last k) s k q ≡ owner_call count first last s k q
  owns s q = go (cover_of count first last k) refl
    where
      go : (x : Result (Option Covered) Refusal) → cover_of count first last k ≡ x → owned_from x s k q ≡ owner_call count first last s k q
      go (Ok (Some c)) e = at (has_space s c.ro q) refl
        where
          both : Covering count first last k c.ro c.number c.fields × (looked_at (map_of count first last) k ≡ c.looked)
          both = cover-one count first last k c.ro c.number c.fields c.looked e

          at : (b : Bool) → has_space s c.ro q ≡ b
              → cond b (field_in c.number c.fields.parts c.fields.width c.looked (k - c.fields.offset) q) (Err (plain 10)) ≡ owner_call count first last s k q
          at true h = owns-field count first last both.0 s q h both.1
          at false h = owns-10 count first last both.0 s q h
      go (Ok None) e = let (ok, past) = cover-none count first last k e in owns-none count first last s k q ok past
      go (Err r) e = owner-refused count first last s k q r (cover-refused count first last k r e)
