-- The entry whose space covers a byte: every byte of a set has one, and one alone, and its number is `cover_index`.
use mathlib.Core.Path.{◌≡◌, refl, ap}
use mathlib.Core.Bool.{Bool, true, false, ◌&&◌, cond}
use mathlib.Core.List.{List, [], ◌∷◌}
use Prim.Native.Nat.{ℕ, zero, suc, ◌+◌, ◌≤◌, ◌<◌}
use native.Mathlib.Omega.{arith}
use lib.ListN.{length, get_or}
use lib.Dec.{ltb, leb, ltb→lt, leb→le}
use borrow.Author.Tests.{ltb-true, ltb-false, lt-ltb, le-ltb, le-leb}
use Rattle.rules.specs.Words.{Entry}
use Rattle.rules.specs.Load.{Map, total, map_of}
use Rattle.rules.specs.Place.{nothing, entry, length_of}
use Rattle.rules.specs.Beside.{spans, cover_index}
use Rattle.rules.specs.Demands.{Accepted, Spans}
use Rattle.rules.proofs.Basics.Tests.{and-no, and₂, from-true}
use Rattle.rules.proofs.Place.AcceptedMap.{Good, GoodMap, starts}
use Rattle.rules.proofs.Load.Walks.{map-good, length-most}

-- lists: an entry that covers the byte is the first that does
index-first :
    (from : ℕ) (l : List Entry) (n k : ℕ)
    → Good from l
    → n < length l
    → (get_or l n nothing).offset ≤ k
    → k < (get_or l n nothing).offset + (get_or l n nothing).memory
    → cover_index l k ≡ n
unfolding cover_index
index-first from [] n k g h low top = absurd (omega arith)
index-first from (e ∷ l) zero k g h low top = rw (le-leb e.offset k low, lt-ltb k (e.offset + e.memory) top) refl
index-first from (e ∷ l) (suc n) k g h low top =
    let b : ltb k (e.offset + e.memory) ≡ false
    = le-ltb k (e.offset + e.memory) (omega (arith, g.1, starts (from + e.memory) l n g.2 (omega arith))) in
    rw (b, and-no (leb e.offset k)) (ap suc (index-first (from + e.memory) l n k g.2 (omega arith) low top))

-- the entry of the index covers the byte
index-covers : (l : List Entry) (k : ℕ) → cover_index l k < length l → spans (get_or l (cover_index l k) nothing) k ≡ true
unfolding cover_index
index-covers [] k h = absurd (omega arith)
index-covers (e ∷ l) k h = go (spans e k) refl (index-covers l k) h
  where
    go : (b : Bool) → spans e k ≡ b → (cover_index l k < length l → spans (get_or l (cover_index l k) nothing) k ≡ true)
        → cond b 0 (suc (cover_index l k)) < suc (length l)
        → spans (get_or (e ∷ l) (cond b 0 (suc (cover_index l k))) nothing) k ≡ true
    go true q r x = q
    go false q r x = r (omega arith)

-- where no entry does, the byte lies past all of them
index-past : (from : ℕ) (l : List Entry) (k : ℕ) → Good from l → from ≤ k → length l ≤ cover_index l k → from + total l ≤ k
unfolding cover_index total
index-past from [] k g h n = omega arith
index-past from (e ∷ l) k g h n = go (ltb k (e.offset + e.memory)) refl (index-past (from + e.memory) l k g.2) n
  where
    go : (b : Bool) → ltb k (e.offset + e.memory) ≡ b → (from + e.memory ≤ k → length l ≤ cover_index l k → from + e.memory + total l ≤ k)
        → suc (length l) ≤ cond (leb e.offset k && b) 0 (suc (cover_index l k))
        → from + (e.memory + total l) ≤ k
    go true q r x =
        let y : leb e.offset k ≡ true = le-leb e.offset k (omega (arith, g.1)) in
        let z : suc (length l) ≤ 0 = rw y at x in
        absurd (omega arith)
    go false q r x =
        let y : suc (length l) ≤ suc (cover_index l k) = rw (and-no (leb e.offset k)) at x in
        let z : e.offset + e.memory ≤ k = ltb-false k (e.offset + e.memory) q in
        omega (arith, r (omega (arith, g.1)) (omega arith))

-- maps
pub index-spans : (m : Map) (k : ℕ) → cover_index m.entries k < length m.entries → Spans m (cover_index m.entries k) k
index-spans m k h =
    let e = entry m (cover_index m.entries k) in
    let (x, y) = and₂ (leb e.offset k) (ltb k (e.offset + e.memory)) (from-true (index-covers m.entries k h)) in
    record { there = h; low = leb→le _ _ x; top = ltb→lt _ _ y }

module _ (m : Map) (g : GoodMap m) where
  pub index-none : (k : ℕ) → length m.entries ≤ cover_index m.entries k → total m.entries ≤ k
  index-none k h = omega (arith, index-past 0 m.entries k g.list (omega arith) h)

  pub index-is : {e k : ℕ} → Spans m e k → cover_index m.entries k ≡ e
  index-is {e} {k} c = index-first 0 m.entries e k g.list c.there c.low c.top

-- a byte of a set is covered
pub set-covered :
    (count : ℕ) (rw ro : List ℕ) (s k : ℕ)
    → Accepted count rw ro
    → k < length_of (map_of count rw ro) s
    → Spans (map_of count rw ro) (cover_index (map_of count rw ro).entries k) k
set-covered count first last s k ok h = go (ltb (cover_index m.entries k) (length m.entries)) refl
  where
    m : Map
    m = map_of count first last

    go : (b : Bool) → ltb (cover_index m.entries k) (length m.entries) ≡ b → Spans m (cover_index m.entries k) k
    go true q = index-spans m k (ltb-true _ _ q)
    go false q = absurd (omega (arith, index-none m (map-good count first last ok) k (ltb-false _ _ q), length-most count first last s))
