-- Which bytes of a set hold fields: a part fills whole bytes, so a byte is all fields or all gap.
use mathlib.Core.Path.{◌≡◌}
use mathlib.Core.Bool.{Bool, ◌&&◌}
use Prim.Native.Nat.{ℕ, zero, suc, ◌+◌, ◌-◌, ◌*◌, ◌/◌, ◌%◌, ◌≤◌, ◌<◌}
use native.Mathlib.Nat.{div-add-mod', div-lt_iff_lt-mul, mod-lt}
use native.Mathlib.Omega.{arith}
use native.Mathlib.Decide.{dec_lt}
use lib.Dec.{T, ltb, leb, ltb→lt, leb→le, lt→ltb, le→leb}
use Rattle.rules.specs.Numbers.{any}
use Rattle.rules.specs.Words.{Entry}
use Rattle.rules.specs.Load.{Map}
use Rattle.rules.specs.Place.{entry, parts_of, width_of, held_by, field_byte, covers, Width, Field}
use Rattle.rules.specs.Layout.{HasBytes}
use Rattle.rules.proofs.Basics.Tests.{and₂, both-true}
use Rattle.rules.proofs.Basics.Any.{any-here, any-some}
use Rattle.rules.proofs.Place.Lanes.{width-pos, LaneOf, lane-of}
use Rattle.rules.proofs.Place.AcceptedMap.{GoodMap, entry-good, entries-apart}
use Rattle.rules.proofs.Place.Fields.{covers-bit, in-parts}

-- byte k lies in an entry's parts
abbrev in_parts : Entry → ℕ → Bool
in_parts e k = leb e.offset k && ltb k (e.offset + parts_of e * width_of e)

-- byte k of set s has fields
unfoldable pub covered : Map → ℕ → ℕ → Bool
covered m s k = any (held_by m s) λ e. in_parts (entry m e) k

-- byte k lies in the parts of entry e, which set s holds
pub record In (m : Map) (s e k : ℕ) : Type 0 where
  pub ent : e < held_by m s
  pub low : (entry m e).offset ≤ k
  pub top : k < (entry m e).offset + parts_of (entry m e) * width_of (entry m e)

pub covered-in : {m : Map} {s e k : ℕ} → In m s e k → T (covered m s k)
unfolding covered
covered-in {m} {s} {e} {k} h =
    any-here (held_by m s) (λ e. in_parts (entry m e) k) e h.ent (both-true (leb (entry m e).offset k) _ (le→leb _ _ h.low) (lt→ltb _ _ h.top))

pub in-covered : (m : Map) (s k : ℕ) → T (covered m s k) → (e : ℕ) × In m s e k
unfolding covered
in-covered m s k h =
    let (e, l, t) = any-some (held_by m s) (λ e. in_parts (entry m e) k) h in
    let (a, b) = and₂ (leb (entry m e).offset k) (ltb k ((entry m e).offset + parts_of (entry m e) * width_of (entry m e))) t in
    (e, record { ent = l; low = leb→le _ _ a; top = ltb→lt _ _ b })

module _ (m : Map) (g : GoodMap m) where
  pub field_in : {s e p i : ℕ} → Field m s e p i → In m s e (field_byte (entry m e) p i)
  field_in f = record { ent = f.ent; low = omega arith; top = omega (arith, in-parts m g f) }

  pub field-covered : {s e p i : ℕ} → Field m s e p i → T (covered m s (field_byte (entry m e) p i))
  field-covered f = covered-in (field_in f)

  -- a byte lies in one entry only
  pub in-same : {s e e' k : ℕ} → In m s e k → In m s e' k → e ≡ e'
  in-same {s} {e} {e'} h h' = go (dec_lt e e') (dec_lt e' e)
    where
      go : Dec (e < e') → Dec (e' < e) → e ≡ e'
      go (yes l) d = omega (arith, entries-apart m g s s e e' h.ent h'.ent l, (entry-good m g s e h.ent).room)
      go (no a) (yes l) = omega (arith, entries-apart m g s s e' e h'.ent h.ent l, (entry-good m g s e' h'.ent).room)
      go (no a) (no b) = omega arith

  -- the part of a byte that lies in an entry, and the byte's number in it
  module _ {s e k : ℕ} (h : In m s e k) where
    pub in-width : Width (width_of (entry m e))
    in-width = (entry-good m g s e h.ent).width (some (parts_of (entry m e)) (omega arith))
      where
        some : (n : ℕ) → 0 < n * width_of (entry m e) → 0 < n
        some zero l = absurd (omega arith)
        some (suc n) l = omega arith

    abbrev pub part_at : ℕ
    part_at = (k - (entry m e).offset) / width_of (entry m e)

    abbrev pub byte_in_part : ℕ
    byte_in_part = (k - (entry m e).offset) % width_of (entry m e)

    pub placed : k ≡ (entry m e).offset + part_at * width_of (entry m e) + byte_in_part
    placed = omega (arith, div-add-mod' (k - (entry m e).offset) (width_of (entry m e)))

    pub byte-lt : byte_in_part < width_of (entry m e)
    byte-lt = mod-lt (k - (entry m e).offset) (width-pos (width_of (entry m e)) in-width)

    pub part-lt : part_at < parts_of (entry m e)
    part-lt = (div-lt_iff_lt-mul (width-pos (width_of (entry m e)) in-width)).1 (omega arith)

    -- each bit of such a byte lies in a field
    pub in-field : HasBytes s → (q : ℕ) → q < 8 → (p : ℕ) × (i : ℕ) × Field m s e p i × T (covers (entry m e) p i k q)
    in-field hs q hq =
        let l : LaneOf (width_of (entry m e)) byte_in_part q = lane-of (width_of (entry m e)) byte_in_part q in-width byte-lt hq in
        let here : field_byte (entry m e) part_at l.i ≡ k = omega (arith, placed) in (
          part_at,
          l.i,
          record { set = hs; ent = h.ent; part = part-lt; low = l.low; top = l.top },
          covers-bit (entry m e) part_at l.i k q here l.from l.to,
        )
