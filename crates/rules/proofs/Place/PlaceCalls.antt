-- The laws of `place_of` and `owner_call` that a function's proof cites, one for each way out, in 01's order.
use Rattle.std.specs.Prelude.{Result, Err, Ok}
use mathlib.Core.Path.{◌≡◌, refl, sym, ◌∙◌}
use mathlib.Core.Bool.{Bool, true, false, ◌&&◌, not, cond}
use mathlib.Core.List.{List, [], ◌∷◌}
use Prim.Native.Nat.{ℕ, ◌+◌, ◌≤◌, ◌<◌}
use native.Mathlib.Omega.{arith}
use lib.ListN.{length}
use lib.Dec.{ltb}
use borrow.Author.Tests.{ltb-true, ltb-false, lt-ltb, le-ltb}
use Rattle.rules.specs.Words.{Refusal, plain, Loaded, read, the_field}
use Rattle.rules.specs.Load.{Map, load_of, map_of, read_of}
use Rattle.rules.specs.Place.{entry, is_set, is_staged, is_rw, has_field, held_by, length_of, field_byte, field_bit, owner_of}
use Rattle.rules.specs.Refuse.{Verdict, passes, refuses, refuse_if, first_of, check9, check_entries, order_of, exists, misdirected, unaccepted, judge}
use Rattle.rules.specs.Address.{addresses, offset_of}
use Rattle.rules.specs.Beside.{placed_in, placed, place_of, looked_at, owned_as, is_bit, owner_call, is_bit_at, owner_at_call}
use Rattle.rules.specs.Demands.{Accepted}
use Rattle.rules.proofs.Basics.Tests.{and-no}
use Rattle.rules.proofs.Place.AcceptedMap.{GoodMap}
use Rattle.rules.proofs.Load.Walks.{map-good}
use Rattle.rules.proofs.Refusals.Orders.{order-refused, order-accepted}
use Rattle.rules.proofs.Load.EntryHeads.{ro-after}

module _ (count : ℕ) (first last : List ℕ) where
  abbrev m : Map
  m = map_of count first last

  -- place

  module _ (s e p i : ℕ) where
    -- a call on a field that is refused, before its set is looked at
    pub place-refused :
        (r : Refusal)
        → order_of (read_of count first last) (refuse_if (not (has_field (map_of count first last) e p i)) (plain 10) ∷ []) ≡ refuses r
        → Err r ≡ place_of count first last s e p i
    unfolding order_of place_of judge exists
    place-refused r h = go (check9 (read_of count first last)) (check_entries (read_of count first last)) (has_field m e p i) h
      where
        go : (a b : Verdict) (t : Bool) → first_of (a ∷ b ∷ refuse_if (not t) (plain 10) ∷ []) ≡ refuses r
            → Err r
            ≡ placed (first_of (a ∷ b ∷ refuse_if (not (is_set s && t)) (plain 10) ∷ refuse_if (misdirected m (read s (the_field e p i))) (plain 11) ∷ refuse_if (unaccepted m (read s (the_field e p i))) (plain 12) ∷ []))
            (placed_in s (field_byte (entry m e) p i) (field_bit (entry m e) i))
        go (refuses x) b t q = let z : x ≡ r = cc in rw z refl
        go passes (refuses x) t q = let z : x ≡ r = cc in rw z refl
        go passes passes true q = let o : ◌≡◌ {A = ℕ} 0 1 = cc in absurd (omega arith)
        go passes passes false q = let z : plain 10 ≡ r = cc in rw (and-no (is_set s), z) refl

    module _ (ok : Accepted count first last) (h : has_field (map_of count first last) e p i ≡ true) where
      place-is : place_of count first last s e p i ≡ placed (first_of (judge m (read s (the_field e p i)))) (placed_in s (field_byte (entry m e) p i) (field_bit (entry m e) i))
      unfolding place_of
      place-is = rw (order-accepted count first last ok (judge m (read s (the_field e p i)))) refl

      -- 10 of a set
      pub place-10 : is_set s ≡ false → Err (plain 10) ≡ place_of count first last s e p i
      unfolding judge exists
      place-10 l = sym (place-is ∙ rw l refl)

      module _ (l : is_set s ≡ true) where
        pub place-11 : (is_staged s && not (is_rw (map_of count first last) e)) ≡ true → Err (plain 11) ≡ place_of count first last s e p i
        unfolding judge exists misdirected
        place-11 t = sym (place-is ∙ rw (l, h, t) refl)

        pub place-at :
            (is_staged s && not (is_rw (map_of count first last) e)) ≡ false
            → placed_in s (field_byte (entry (map_of count first last) e) p i) (field_bit (entry (map_of count first last) e) i) ≡ place_of count first last s e p i
        unfolding judge exists misdirected unaccepted
        place-at t = sym (place-is ∙ rw (l, h, t) refl)

  -- owner

  module _ (s k q : ℕ) where
    pub owner-refused : (r : Refusal) → load_of count first last ≡ Err r → Err r ≡ owner_call count first last s k q
    unfolding owner_call
    owner-refused r h = rw (order-refused count first last r h (refuse_if (not (is_bit m s k q)) (plain 10) ∷ [])) refl

    module _ (ok : Accepted count first last) where
      pub owner-10 : is_bit (map_of count first last) s k q ≡ false → Err (plain 10) ≡ owner_call count first last s k q
      unfolding owner_call
      owner-10 h = rw (order-accepted count first last ok (refuse_if (not (is_bit m s k q)) (plain 10) ∷ []), h) refl

      pub owner-is : is_bit (map_of count first last) s k q ≡ true → owned_as (looked_at (map_of count first last) k) (owner_of (map_of count first last) s k q) ≡ owner_call count first last s k q
      unfolding owner_call
      owner-is h = rw (order-accepted count first last ok (refuse_if (not (is_bit m s k q)) (plain 10) ∷ []), h) refl

  -- owner by an address

  module _ (s page byte q : ℕ) where
    -- of the set: as at its offset
    pub owner-at-is : offset_of s page byte < length (addresses s) → owner_call count first last s (offset_of s page byte) q ≡ owner_at_call count first last s page byte q
    unfolding owner_call owner_at_call
    owner-at-is h = rw (lt-ltb (offset_of s page byte) (length (addresses s)) h) refl

    -- of no byte of the set: as at an offset that no set has
    pub owner-at-10 : length (addresses s) ≤ offset_of s page byte → owner_call count first last s 256 q ≡ owner_at_call count first last s page byte q
    unfolding owner_at_call
    owner-at-10 h = go (load_of count first last) refl
      where
        outside : is_bit_at m s page byte q ≡ false
        outside = rw (le-ltb (offset_of s page byte) (length (addresses s)) h) refl

        go : (x : Result Loaded Refusal) → load_of count first last ≡ x → owner_call count first last s 256 q ≡ owner_at_call count first last s page byte q
        go (Err r) x =
            sym (owner-refused s 256 q r x) ∙ rw (order-refused count first last r x (refuse_if (not (is_bit_at m s page byte q)) (plain 10) ∷ [])) refl
        go (Ok l) x =
            let ok : Accepted count first last = record { rw_count = l.rw_count; ro_count = l.ro_count; staged = l.staged_length; active = l.active_length; loads = x } in
            let far : ltb 256 (length_of m s) ≡ false = le-ltb 256 (length_of m s) ((map-good count first last ok).lengths s) in
            sym (owner-10 s 256 q ok (rw (far, and-no (is_set s)) refl))
            ∙ rw (order-accepted count first last ok (refuse_if (not (is_bit_at m s page byte q)) (plain 10) ∷ []), outside) refl

  -- a byte in the space of an entry lies in each set that holds the entry, and in no other
  module _ (ok : Accepted count first last) (s e k : ℕ) (l : e < length (map_of count first last).entries)
      (low : (entry (map_of count first last) e).offset ≤ k) (top : k < (entry (map_of count first last) e).offset + (entry (map_of count first last) e).memory) where
    g : GoodMap m
    g = map-good count first last ok

    before-end : (s' : ℕ) → e < held_by m s' → k < length_of m s'
    before-end s' h = omega (arith, g.ends s' e h)

    pub space-in-set : ltb k (length_of (map_of count first last) s) ≡ not (is_staged s && not (is_rw (map_of count first last) e))
    unfolding held_by length_of
    space-in-set = go (is_staged s) (is_rw m e) refl
      where
        go : (b t : Bool) → is_rw m e ≡ t → ltb k (cond b m.staged m.active) ≡ not (b && not t)
        go true true q = lt-ltb k m.staged (before-end 0 (ltb-true e m.rw_count q))
        go true false q = le-ltb k m.staged (omega (arith, ro-after count first last ok e (ltb-false e m.rw_count q) l))
        go false t q = lt-ltb k m.active (before-end 2 l)

    -- a set that has the byte holds the entry
    pub space-held : (is_staged s && not (is_rw (map_of count first last) e)) ≡ false → e < held_by (map_of count first last) s
    unfolding held_by
    space-held h = go (is_staged s) (is_rw m e) refl h
      where
        go : (b t : Bool) → is_rw m e ≡ t → (b && not t) ≡ false → e < cond b m.rw_count (length m.entries)
        go true true q x = ltb-true e m.rw_count q
        go true false q x = let o : ◌≡◌ {A = ℕ} 0 1 = cc in absurd (omega arith)
        go false t q x = l
