-- NOTE 2: the owner call by an address and the place call, on accepted strings, agree both ways.
use Rattle.std.specs.Prelude.{Err}
use mathlib.Core.Path.{◌≡◌, refl, sym, ap, ◌∙◌}
use mathlib.Core.Logic.{◌⊎◌, inl, inr}
use mathlib.Core.Bool.{not}
use mathlib.Core.List.{List, [], ◌∷◌}
use Prim.Native.Nat.{ℕ, suc}
use native.Mathlib.Omega.{arith}
use lib.ListN.{length}
use lib.Dec.{T, ltb, ltb→lt}
use Rattle.rules.specs.Words.{plain, placed_at, owned_by}
use Rattle.rules.specs.Load.{Map, map_of}
use Rattle.rules.specs.Place.{is_set}
use Rattle.rules.specs.Refuse.{refuse_if}
use Rattle.rules.specs.Address.{Address, addresses, offset_of, HasAddress}
use Rattle.rules.specs.Beside.{place_of, owner_call, is_bit_at, owner_at_call}
use Rattle.rules.specs.Demands.{Accepted, PlaceCovers, OwnerAndPlace}
use Rattle.rules.specs.Notes.{NoAddress, PlaceCoversAt, OwnerAtAddress}
use Rattle.rules.proofs.Basics.Tests.{and₃, either, is-false}
use Rattle.rules.proofs.Refusals.Orders.{order-accepted}
use Rattle.rules.proofs.Place.Addresses.{gives-set, given-address, given-short, given-offset, offset-given, gives-some, some-given, one-to-one}
use Rattle.rules.proofs.Place.PlaceCalls.{owner-at-is}
use Rattle.rules.proofs.Place.PlaceOwner.{placed-set, placed-address, both-ways}

module _ (count : ℕ) (first last : List ℕ) (ok : Accepted count first last) where
  abbrev m : Map
  m = map_of count first last

  two : OwnerAndPlace count first last
  two = both-ways count first last ok

  -- either form
  same : (s k page byte q : ℕ) → HasAddress s k page byte → owner_at_call count first last s page byte q ≡ owner_call count first last s k q
  same s k page byte q h =
      sym (owner-at-is count first last s page byte q (rw (given-offset s k page byte h) (given-short s k page byte h)))
      ∙ rw (given-offset s k page byte h) refl

  -- the address that place gives
  placed-given : (s e p i k page byte q : ℕ) → place_of count first last s e p i ≡ placed_at k page byte q → ¬ (NoAddress page byte) → HasAddress s k page byte
  placed-given s e p i k page byte q h n =
      let (a, b) = placed-address count first last ok s e p i k page byte q h in
      rw (a, b) at (some-given s k (placed-set count first last ok s e p i k page byte q h) (rw (a, b) n))

  -- a field's place with its offset, and with its address
  at-offset : {s e p i page byte q : ℕ} (c : PlaceCoversAt count first last s e p i page byte q) → PlaceCovers count first last s e p i c.offset q
  at-offset {s} {e} {p} {i} {page} {byte} c = record { page = page; byte = byte; bit = c.bit; at = c.at; low = c.low; top = c.top }

  covers-given : {s e p i page byte q : ℕ} (c : PlaceCoversAt count first last s e p i page byte q) → HasAddress s c.offset page byte
  covers-given {s} {e} {p} {i} {page} {byte} c = placed-given s e p i c.offset page byte c.bit c.at c.some

  at-address : {s e p i k page byte q : ℕ} → HasAddress s k page byte → PlaceCovers count first last s e p i k q → PlaceCoversAt count first last s e p i page byte q
  at-address {s} {e} {p} {i} {k} {page} {byte} h c =
      let (a, b) = placed-address count first last ok s e p i k c.page c.byte c.bit c.at in
      let z = given-address s k page byte h in
      let x : c.page ≡ page = sym a ∙ ap (λ (y : Address). y.page) z in
      let y : c.byte ≡ byte = sym b ∙ ap (λ (w : Address). w.byte) z in
      record { offset = k; bit = c.bit; at = rw (x, y) at c.at; some = gives-some s k page byte h; low = c.low; top = c.top }

  -- an answer that is no refusal is of a byte of the set
  answered-given : (s page byte q : ℕ) → T (is_bit_at m s page byte q) → HasAddress s (offset_of s page byte) page byte
  answered-given s page byte q t =
      let (a, b, c) = and₃ (ltb (offset_of s page byte) (length (addresses s))) (is_set s) _ t in
      offset-given s page byte (ltb→lt _ _ b) (ltb→lt _ _ a)

  refused-at : (s page byte q : ℕ) → T (not (is_bit_at m s page byte q)) → owner_at_call count first last s page byte q ≡ Err (plain 10)
  unfolding owner_at_call
  refused-at s page byte q t =
      rw (order-accepted count first last ok (refuse_if (not (is_bit_at m s page byte q)) (plain 10) ∷ []), is-false (is_bit_at m s page byte q) t) refl

  told : (s page byte q e p i n : ℕ) → owner_at_call count first last s page byte q ≡ owned_by e p i n → PlaceCoversAt count first last s e p i page byte q × (n ≡ suc e)
  told s page byte q e p i n h = go (either (is_bit_at m s page byte q))
    where
      go : T (is_bit_at m s page byte q) ⊎ T (not (is_bit_at m s page byte q)) → PlaceCoversAt count first last s e p i page byte q × (n ≡ suc e)
      go (inl t) =
          let k = offset_of s page byte in
          let d = answered-given s page byte q t in
          let (c, z) = (two.owner-is s k q e p i n).0 (sym (same s k page byte q d) ∙ h) in
          (at-address {k = k} d c, z)
      go (inr t) = let z : Err (plain 10) ≡ owned_by e p i n = sym (refused-at s page byte q t) ∙ h in let o : ◌≡◌ {A = ℕ} 0 1 = cc in absurd (omega arith)

  pub at-addresses : OwnerAtAddress count first last
  at-addresses =
      record {
        place-given = placed-given;
        place-none = λ s e p i k page byte q h n page' byte' x.
            let (a, b) = placed-address count first last ok s e p i k page byte q h in
            let z = given-address s k page' byte' x in
            gives-some s k page' byte' x (sym (ap (λ (y : Address). y.page) z) ∙ a ∙ n.0, sym (ap (λ (y : Address). y.byte) z) ∙ b ∙ n.1);
        either-form = same;
        owner-is = λ s page byte q e p i n. (
          told s page byte q e p i n,
          λ c. same s c.0.offset page byte q (covers-given c.0) ∙ (two.owner-is s c.0.offset q e p i n).1 (at-offset c.0, c.1),
        );
        owner-gap = λ s page byte q n z hq.
            let k = z.offset in
            let d : HasAddress s k page byte = z.given in
            let both = two.owner-gap s k q n (gives-set s k page byte d) z.short hq in (
              λ h.
                  let (none, looks) = both.0 (sym (same s k page byte q d) ∙ h) in
                  (λ e p i c. none e p i (rw (one-to-one.one-offset s c.offset s k page byte (covers-given c) d).1 at (at-offset c)), looks),
              λ h. same s k page byte q d ∙ both.1 (λ e p i c. h.0 e p i (at-address {k = k} d c), h.1),
            );
      }
