-- An entry of accepted strings is what the bytes at its start say. And the two strings in a row: an entry begins after the Lengths of
-- all entries before it, and its space after their MemoryLengths.
use mathlib.Core.Path.{◌≡◌, refl, sym, ap, ◌∙◌}
use mathlib.Core.Bool.{Bool, true, false, cond}
use mathlib.Core.List.{List, [], ◌∷◌, ◌++◌}
use Prim.Native.Nat.{ℕ, zero, suc, ◌+◌, ◌-◌, ◌*◌, ◌≤◌, ◌<◌}
use native.Mathlib.Omega.{arith}
use lib.ListN.{length, get_or, take, length-append, get_or-append}
use lib.Seq.{get_or-append-add, take-append-le, take-append-add}
use lib.Dec.{leb, leb→le}
use borrow.Author.Tests.{ltb-true, ltb-false}
use Rattle.rules.specs.Words.{Entry}
use Rattle.rules.specs.Descriptor.{mask_bytes, entry_at, entry_limit}
use Rattle.rules.specs.Load.{rw_entries, ro_entries, total, map_of, both_within, map_within}
use Rattle.rules.specs.Place.{nothing, entry, is_rw, held_by}
use Rattle.rules.specs.Demands.{Accepted, lengths}
use Rattle.rules.proofs.Basics.Tests.{and₄}
use Rattle.rules.proofs.Load.Checks.{decode-passed}
use Rattle.rules.proofs.Place.AcceptedMap.{entry-ends}
use Rattle.rules.proofs.Load.Walks.{load-accepted, load-few, total-append, map-good}
use Rattle.rules.proofs.Place.PlaceOwner.{both-ways}
use Rattle.rules.proofs.Load.Fills.{Stands, Filled, filled-nth, stands-start, rw-filled, ro-filled, rw-fills, ro-fills}

-- an entry says what the bytes at its start say, and its ID, Length, mask and MemoryLength are there
pub record Head (a : ℕ) (s : List ℕ) (e : Entry) : Type 0 where
  pub says : e ≡ entry_at a s e.start e.offset
  pub room : e.start + 2 + a < length s

module _ (a : ℕ) (s : List ℕ) where
  stands-head : {from : ℕ} {e : Entry} → Stands a s from e → Head a s e
  stands-head {from} {e} g =
      let p = decode-passed a s from g.st e g.passes in
      let b = stands-start a s g in
      record { says = rw p.entry refl; room = omega arith }

  pub filled-head : (l : List Entry) (n : ℕ) → Filled a s 0 l → n < length l → Head a s (get_or l n nothing)
  filled-head l n g h = stands-head (filled-nth a s l n g h)

-- the Lengths and the MemoryLengths before the next entry
pub lengths-next : (l : List Entry) (n : ℕ) → n < length l → lengths (take (suc n) l) ≡ lengths (take n l) + (get_or l n nothing).length
lengths-next [] n h = absurd (omega arith)
lengths-next (e ∷ l) zero h = omega arith
lengths-next (e ∷ l) (suc n) h = omega (arith, lengths-next l n (omega arith))

pub lengths-most : (l : List Entry) (n : ℕ) → lengths (take n l) ≤ lengths l
lengths-most [] zero = omega arith
lengths-most [] (suc n) = omega arith
lengths-most (e ∷ l) zero = omega arith
lengths-most (e ∷ l) (suc n) = omega (arith, lengths-most l n)

pub total-next : (l : List Entry) (n : ℕ) → n < length l → total (take (suc n) l) ≡ total (take n l) + (get_or l n nothing).memory
unfolding total
total-next [] n h = absurd (omega arith)
total-next (e ∷ l) zero h = omega arith
total-next (e ∷ l) (suc n) h = omega (arith, total-next l n (omega arith))

-- 9: no string is over 120
pub strings-short : (count : ℕ) (rw ro : List ℕ) → Accepted count rw ro → (length rw ≤ 120) × (length ro ≤ 120)
strings-short count first last ok =
    let z = (load-accepted count first last _ _ _ _ ok.loads).sized in
    let (x, y, v, w) = and₄ (leb 1 count) (leb count 15) (leb (length first) 120) (leb (length last) 120) z in
    (leb→le _ _ v, leb→le _ _ w)

lengths-append : (l r : List Entry) → lengths (l ++ r) ≡ lengths l + lengths r
lengths-append [] r = omega arith
lengths-append (e ∷ l) r = omega (arith, lengths-append l r)

module _ (count : ℕ) (first last : List ℕ) (ok : Accepted count first last) where
  abbrev r : List Entry
  r = rw_entries count first

  abbrev o : List Entry
  o = ro_entries count first last

  pub few-entries : length (map_of count first last).entries ≤ 2 * entry_limit
  unfolding map_within both_within
  few-entries = omega (arith, length-append r o, load-few count first last ok)

  -- no space passes byte 256
  pub entry-fits :
      (e : ℕ)
      → e < length (map_of count first last).entries
      → (entry (map_of count first last) e).offset + (entry (map_of count first last) e).memory ≤ 256
  unfolding held_by
  entry-fits e l = entry-ends (map_of count first last) (map-good count first last ok) 2 e l

  -- an entry of the RW string
  module _ (e : ℕ) (h : e < (map_of count first last).rw_count) where
    pub in-rw : entry (map_of count first last) e ≡ get_or (rw_entries count first) e nothing
    unfolding map_within both_within
    in-rw = get_or-append r o nothing e h

    pub rw-head : Head (mask_bytes count) first (entry (map_of count first last) e)
    unfolding map_within
    rw-head = rw in-rw (filled-head (mask_bytes count) first r e (rw-filled count first last ok) h)

    pub rw-place : lengths (take e (map_of count first last).entries) ≡ (entry (map_of count first last) e).start
    unfolding map_within both_within
    rw-place =
        let l : e ≤ length r = omega arith in
        ap lengths (take-append-le e r o l) ∙ sym (rw in-rw ((rw-fills count first last ok).starts e h))

    pub rw-offset : (get_or (rw_entries count first) e nothing).offset ≡ total (take e (rw_entries count first))
    unfolding map_within both_within
    rw-offset =
        let l : e ≤ length r = omega arith in
        rw (← in-rw) ((both-ways count first last ok).offsets e (omega (arith, length-append r o)) ∙ ap total (take-append-le e r o l))

  -- an entry of the RO string
  module _ (e : ℕ) (h : (map_of count first last).rw_count ≤ e) (l : e < length (map_of count first last).entries) where
    n : ℕ
    n = e - (map_of count first last).rw_count

    split : e ≡ length r + n
    unfolding map_within n
    split = omega arith

    n-lt : n < length o
    unfolding map_within both_within n
    n-lt = omega (arith, length-append r o)

    in-ro : entry (map_of count first last) e ≡ get_or o n nothing
    unfolding map_within both_within
    in-ro = ap (λ i. get_or (r ++ o) i nothing) split ∙ get_or-append-add r o n nothing

    pub ro-head : Head (mask_bytes count) last (entry (map_of count first last) e)
    ro-head = rw in-ro (filled-head (mask_bytes count) last o n (ro-filled count first last ok) n-lt)

    pub ro-place : lengths (take e (map_of count first last).entries) ≡ length first + (entry (map_of count first last) e).start
    unfolding map_within both_within
    ro-place =
        ap (λ i. lengths (take i (r ++ o))) split
        ∙ ap lengths (take-append-add r o n)
        ∙ lengths-append r (take n o)
        ∙ rw in-ro (omega (arith, (rw-fills count first last ok).ends, (ro-fills count first last ok).starts n n-lt))

    -- "The staged length is the RW sum": an RO entry's space begins there, or later
    pub ro-after : (map_of count first last).staged ≤ (entry (map_of count first last) e).offset
    unfolding map_within both_within
    ro-after =
        let z : total (take e (r ++ o)) ≡ total r + total (take n o)
        = ap (λ i. total (take i (r ++ o))) split ∙ ap total (take-append-add r o n) ∙ total-append r (take n o) in
        omega (arith, (both-ways count first last ok).offsets e l)

  -- an entry of either string
  pub entry-head :
      (e : ℕ)
      → e < length (map_of count first last).entries
      → Head (mask_bytes count) (cond (is_rw (map_of count first last) e) first last) (entry (map_of count first last) e)
  entry-head e l = go (is_rw (map_of count first last) e) refl
    where
      go : (b : Bool) → is_rw (map_of count first last) e ≡ b → Head (mask_bytes count) (cond b first last) (entry (map_of count first last) e)
      go true q = rw-head e (ltb-true e (map_of count first last).rw_count q)
      go false q = ro-head e (ltb-false e (map_of count first last).rw_count q) l
