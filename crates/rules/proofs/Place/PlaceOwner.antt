-- DEMAND 2: the place call and the owner call, on accepted strings, agree both ways.
use Rattle.std.specs.Prelude.{Err}
use mathlib.Core.Path.{◌≡◌, refl, sym, ap, ◌∙◌}
use mathlib.Core.Logic.{◌⊎◌, inl, inr}
use mathlib.Core.Bool.{◌&&◌, not, cond}
use mathlib.Core.List.{List, [], ◌∷◌}
use Prim.Native.Nat.{ℕ, zero, suc, ◌+◌, ◌<◌}
use native.Mathlib.Omega.{arith}
use lib.ListN.{length, get_or, take}
use lib.Dec.{T, ltb, leb, ltb→lt, lt→ltb, le→leb}
use borrow.Author.Tests.{lt-ltb}
use Rattle.rules.specs.Words.{plain, Entry, read, the_field, placed_at, owned_by, no_owner}
use Rattle.rules.specs.Descriptor.{mask_bytes}
use Rattle.rules.specs.Load.{Map, rw_entries, ro_entries, map_of, total}
use Rattle.rules.specs.Place.{nothing, entry, parts_of, width_of, is_set, is_staged, is_rw, held_by, length_of, field_byte, field_bit, covers, owner_of, Owner, field, gap, Field}
use Rattle.rules.specs.Refuse.{Verdict, passes, refuses, refuse_if, first_of, exists, misdirected, unaccepted, judge}
use Rattle.rules.specs.Address.{address_of}
use Rattle.rules.specs.Beside.{placed_in, placed, place_of, cover_index, looked_at, owned_as, owned, is_bit, owner_call}
use Rattle.rules.specs.Demands.{Accepted, PlaceCovers, Spans, OwnerAndPlace}
use Rattle.rules.proofs.Bank.Places.{named-has-bytes, has-bytes-named}
use Rattle.rules.proofs.Basics.Tests.{and₂, either, is-true, is-false, both-true}
use Rattle.rules.proofs.Table.Columns.{accepts-says, shape-says, sign-says}
use Rattle.rules.proofs.Place.Lanes.{width-pos}
use Rattle.rules.proofs.Place.AcceptedMap.{Good, GoodMap, held-lt}
use Rattle.rules.proofs.Load.Walks.{map-good, load-counts, load-few, check9-passes, check_entries-passes}
use Rattle.rules.proofs.Place.Fields.{holds-field, covers-bit, field-width, in-entry, in-byte}
use Rattle.rules.proofs.Lists.Allowed.{read-field}
use Rattle.rules.proofs.Load.Fills.{filled-extras, rw-filled, ro-filled, rw-fills, ro-fills}
use Rattle.rules.proofs.Load.EntryBytes.{entry-own}
use Rattle.rules.proofs.Refusals.Verdicts.{judge-passes, judged-passes, order-open}
use Rattle.rules.proofs.Place.CoverIndex.{index-is, set-covered}
use Rattle.rules.proofs.Place.Owners.{Covers, covers-says, covers-same, owner-covers, covers-owner, owner-none}
use Rattle.rules.proofs.Basics.Results.{placed-same, owned-same, some-same, none-some}

-- a field that a set holds is one that may be read, and the other way round
module _ (m : Map) (g : GoodMap m) where
  -- a staged set holds no RO entry
  held-allowed : (s e : ℕ) → e < held_by m s → T (not (is_staged s && not (is_rw m e)))
  unfolding held_by
  held-allowed s e = go (either (is_staged s))
    where
      go : T (is_staged s) ⊎ T (not (is_staged s)) → e < cond (is_staged s) m.rw_count (length m.entries) → T (not (is_staged s && not (is_rw m e)))
      go (inl a) h = let l : e < m.rw_count = rw (is-true (is_staged s) a) at h in rw (is-true (is_staged s) a, lt-ltb e m.rw_count l) tt
      go (inr a) h = rw (is-false (is_staged s) a) tt

  pub field-reads : {s e p i : ℕ} → Field m s e p i → first_of (judge m (read s (the_field e p i))) ≡ passes
  unfolding exists misdirected unaccepted
  field-reads {s} {e} {p} {i} f =
      judged-passes m (read s (the_field e p i))
      (record {
        there = both-true (is_set s) _ (lt→ltb _ _ (has-bytes-named s f.set))
            (both-true (ltb e (length m.entries)) _ (lt→ltb _ _ (held-lt m g s e f.ent))
            (both-true (ltb p (parts_of (entry m e))) _ (lt→ltb _ _ f.part) (both-true (leb 1 i) _ (le→leb _ _ f.low) (le→leb _ _ f.top))));
        may = held-allowed s e f.ent;
        fine = tt;
      })

  reads-field : (s e p i : ℕ) → first_of (judge m (read s (the_field e p i))) ≡ passes → Field m s e p i
  reads-field s e p i q = read-field m g (judge-passes m (read s (the_field e p i)) q)

owned-field : (c : ℕ) (o : Owner) {e p i n : ℕ} → owned_as c o ≡ owned_by e p i n → o ≡ field e p i
owned-field c (field e p i) h = let f = some-same _ _ (owned-same _ _ h).0 in rw (f.0, f.1, f.2) refl
owned-field c gap h = absurd (none-some (owned-same _ _ h).0)

owned-gap : (c : ℕ) (o : Owner) {n : ℕ} → owned_as c o ≡ no_owner n → c ≡ n
owned-gap c (field e p i) h = absurd (none-some (sym (owned-same _ _ h).0))
owned-gap c gap h = (owned-same _ _ h).1

offset-at : (n : ℕ) (l : List Entry) → Good n l → (k : ℕ) → k < length l → (get_or l k nothing).offset ≡ n + total (take k l)
unfolding total
offset-at n [] p k h = absurd (omega arith)
offset-at n (i ∷ l) p zero h = omega (arith, p.1)
offset-at n (i ∷ l) p (suc k) h = omega (arith, offset-at (n + i.memory) l p.2 k (omega arith))

module _ (count : ℕ) (first last : List ℕ) (ok : Accepted count first last) where
  m : Map
  m = map_of count first last

  g : GoodMap m
  unfolding m
  g = map-good count first last ok

  -- the place call
  place-is : (s e p i : ℕ) → place_of count first last s e p i ≡ placed (first_of (judge m (read s (the_field e p i)))) (placed_in s (field_byte (entry m e) p i) (field_bit (entry m e) i))
  unfolding place_of m
  place-is s e p i =
      rw (order-open count first last (check9-passes count first last ok) (check_entries-passes count first last ok) (judge (map_of count first last) (read s (the_field e p i))))

  place-field : (s e p i : ℕ) → Field m s e p i → place_of count first last s e p i ≡ placed_in s (field_byte (entry m e) p i) (field_bit (entry m e) i)
  place-field s e p i f = rw (place-is s e p i, field-reads m g f) refl

  record At (s e p i k page reg q : ℕ) : Type 0 where
    field : Field m s e p i
    byte : field_byte (entry m e) p i ≡ k
    bit : field_bit (entry m e) i ≡ q
    on : (address_of s k).page ≡ page
    at : (address_of s k).byte ≡ reg

  field-place : (s e p i k page reg q : ℕ) → place_of count first last s e p i ≡ placed_at k page reg q → At s e p i k page reg q
  field-place s e p i k page reg q h = go (first_of (judge m (read s (the_field e p i)))) refl (sym (place-is s e p i) ∙ h)
    where
      go : (v : Verdict) → first_of (judge m (read s (the_field e p i))) ≡ v → placed v (placed_in s (field_byte (entry m e) p i) (field_bit (entry m e) i)) ≡ placed_at k page reg q → At s e p i k page reg q
      go passes x y =
          let l = placed-same _ _ y in
          record { field = reads-field m g s e p i x; byte = l.0; bit = l.3; on = rw (← l.0) l.1; at = rw (← l.0) l.2 }
      go (refuses r) x y = let o : ◌≡◌ {A = ℕ} 0 1 = cc in absurd (omega arith)

  -- a field that is placed, and its address
  module _ (s e p i k page reg q : ℕ) (h : place_of count first last s e p i ≡ placed_at k page reg q) where
    pub placed-field : Field (map_of count first last) s e p i
    unfolding m
    placed-field = (field-place s e p i k page reg q h).field

    pub placed-set : s < 3
    placed-set = has-bytes-named s placed-field.set

    pub placed-address : ((address_of s k).page ≡ page) × ((address_of s k).byte ≡ reg)
    placed-address = let a = field-place s e p i k page reg q h in (a.on, a.at)

  -- the owner call
  owner-call : (s k q : ℕ) → owner_call count first last s k q ≡ owned (first_of (refuse_if (not (is_bit m s k q)) (plain 10) ∷ [])) (owned_as (looked_at m k) (owner_of m s k q))
  unfolding owner_call m
  owner-call s k q =
      rw (order-open count first last (check9-passes count first last ok) (check_entries-passes count first last ok) (refuse_if (not (is_bit (map_of count first last) s k q)) (plain 10) ∷ []))

  owner-in : (s k q : ℕ) → T (is_bit m s k q) → owner_call count first last s k q ≡ owned_as (looked_at m k) (owner_of m s k q)
  owner-in s k q h = rw (owner-call s k q, is-true (is_bit m s k q) h) refl

  owner-out : (s k q : ℕ) → T (not (is_bit m s k q)) → owner_call count first last s k q ≡ Err (plain 10)
  owner-out s k q h = rw (owner-call s k q, is-false (is_bit m s k q) h) refl

  bit-there : (s k q : ℕ) → s < 3 → k < length_of m s → q < 8 → T (is_bit m s k q)
  bit-there s k q hs hk hq = both-true (is_set s) _ (lt→ltb _ _ hs) (both-true (ltb k (length_of m s)) _ (lt→ltb _ _ hk) (lt→ltb _ _ hq))

  -- a place that covers a bit: the field, and the bit's own bounds
  record On (s e p i k q : ℕ) : Type 0 where
    field : Field m s e p i
    covers : Covers m e p i k q
    there : T (is_bit m s k q)
    short : k < length_of m s
    bit : q < 8

  place-on : (s e p i k q : ℕ) → PlaceCovers count first last s e p i k q → On s e p i k q
  unfolding m
  place-on s e p i k q c =
      let a : At s e p i k c.page c.byte c.bit = field-place s e p i k c.page c.byte c.bit c.at in
      let f : Field m s e p i = a.field in
      let hk : k < length_of m s = omega (arith, a.byte, in-entry m g f, g.ends s e f.ent) in
      let hq : q < 8 = omega (arith, a.bit, c.top, in-byte m g f) in
      record {
        field = f;
        covers = record { byte = a.byte; low = omega (arith, a.bit, c.low); top = omega (arith, a.bit, c.top) };
        there = bit-there s k q (has-bytes-named s f.set) hk hq;
        short = hk;
        bit = hq;
      }

  covers-true : {e p i k q : ℕ} → Covers m e p i k q → T (covers (entry m e) p i k q)
  covers-true {e} {p} {i} {k} {q} c = covers-bit (entry m e) p i k q c.byte c.low c.top

  on-spans : {s e p i k q : ℕ} → On s e p i k q → Spans m e k
  on-spans {s} {e} o =
      let y = o.covers.byte in
      record { there = held-lt m g s e o.field.ent; low = omega (arith, y); top = omega (arith, y, in-entry m g o.field) }

  looks-at : {e k : ℕ} → Spans m e k → looked_at m k ≡ suc e
  looks-at c = ap suc (index-is m g c)

  on-owner : (s e p i k q : ℕ) → On s e p i k q → owner_call count first last s k q ≡ owned_by e p i (suc e)
  on-owner s e p i k q o =
      owner-in s k q o.there
      ∙ rw (looks-at (on-spans o), covers-owner m g s k q o.field.set e p i o.field (covers-true o.covers)) refl

  covered-place : (s e p i k q : ℕ) → Field m s e p i → T (covers (entry m e) p i k q) → PlaceCovers count first last s e p i k q
  unfolding m
  covered-place s e p i k q f c =
      let x : Covers m e p i k q = covers-says c in
      record {
        page = (address_of s k).page;
        byte = (address_of s k).byte;
        bit = field_bit (entry m e) i;
        at = place-field s e p i f ∙ ap (λ n. placed_in s n (field_bit (entry m e) i)) x.byte;
        low = x.low;
        top = x.top;
      }

  owner-place : (s k q e p i n : ℕ) → owner_call count first last s k q ≡ owned_by e p i n → PlaceCovers count first last s e p i k q
  owner-place s k q e p i n h = go (either (is_bit m s k q))
    where
      go : T (is_bit m s k q) ⊎ T (not (is_bit m s k q)) → PlaceCovers count first last s e p i k q
      go (inl t) =
          let hs : s < 3 = ltb→lt _ _ (and₂ (is_set s) (ltb k (length_of m s) && ltb q 8) t).0 in
          let (f, c) = owner-covers m g s k q (named-has-bytes s hs) e p i (owned-field (looked_at m k) (owner_of m s k q) (sym (owner-in s k q t) ∙ h)) in
          covered-place s e p i k q f c
      go (inr t) = let z : Err (plain 10) ≡ owned_by e p i n = sym (owner-out s k q t) ∙ h in let o : ◌≡◌ {A = ℕ} 0 1 = cc in absurd (omega arith)

  pub both-ways : OwnerAndPlace count first last
  unfolding m
  both-ways =
      record {
        owner-is = λ s k q e p i n. (
          λ h.
              let c = owner-place s k q e p i n h in
              let z : owned_by e p i (suc e) ≡ owned_by e p i n = sym (on-owner s e p i k q (place-on s e p i k q c)) ∙ h in
              (c, sym (owned-same _ _ z).1),
          λ c. on-owner s e p i k q (place-on s e p i k q c.0) ∙ ap (owned_by e p i) (sym c.1),
        );
        owner-gap = λ s k q n hs hk hq.
            let there = owner-in s k q (bit-there s k q hs hk hq) in (
              λ h. (
                λ e p i c. let z : owned_by e p i (suc e) ≡ no_owner n = sym (on-owner s e p i k q (place-on s e p i k q c)) ∙ h in none-some (sym (owned-same _ _ z).0),
                record { last = cover_index m.entries k; covers = set-covered count first last s k ok hk; counts = sym (owned-gap (looked_at m k) (owner_of m s k q) (sym there ∙ h)) },
              ),
              λ h.
                  there
                  ∙ ap (owned_as (looked_at m k)) (owner-none m g s k q (named-has-bytes s hs) (λ e p i f c. h.0 e p i (covered-place s e p i k q f c)))
                  ∙ ap no_owner (looks-at h.1.covers ∙ sym h.1.counts),
            );
        place-owned = λ s e p i k page reg q h. on-owner s e p i k q (place-on s e p i k q (lowest s e p i k page reg q h));
        one-space = λ s k h. (cover_index m.entries k, set-covered count first last s k ok h);
        no-other = λ e e' k c c'. sym (index-is m g c) ∙ index-is m g c';
        no-space = λ e k h c. omega (arith, h, c.low, c.top);
        placed = λ s e p i h. place-field s e p i (holds-field m s e p i h);
        inside = λ s e p i k q c.
            let o : On s e p i k q = place-on s e p i k q c in
            ((on-spans o).low, (on-spans o).top, o.short, o.bit);
        disjoint = λ s e p i e' p' i' k q c c'.
            let o : On s e p i k q = place-on s e p i k q c in
            let o' : On s e' p' i' k q = place-on s e' p' i' k q c' in
            covers-same m g o.field o'.field o.covers o'.covers;
        rw-fills = rw-fills count first last ok;
        ro-fills = ro-fills count first last ok;
        loads = load-counts count first last ok;
        few = load-few count first last ok;
        offsets = λ e h. omega (arith, offset-at 0 m.entries g.list e h);
        own-bytes = entry-own count first last ok;
        accepted-values = λ e v. accepts-says (entry m e) v;
        shapes = λ e. shape-says (entry m e);
        signs = λ e. sign-says (entry m e);
        rw-extras = filled-extras (mask_bytes count) first (rw_entries count first) (rw-filled count first last ok);
        ro-extras = filled-extras (mask_bytes count) last (ro_entries count first last) (ro-filled count first last ok);
      }
    where
      lowest : (s e p i k page reg q : ℕ) → place_of count first last s e p i ≡ placed_at k page reg q → PlaceCovers count first last s e p i k q
      lowest s e p i k page reg q h =
          let a : At s e p i k page reg q = field-place s e p i k page reg q h in
          record { page = page; byte = reg; bit = q; at = h; low = omega arith; top = omega (arith, width-pos (width_of (entry m e)) (field-width m g a.field)) }
