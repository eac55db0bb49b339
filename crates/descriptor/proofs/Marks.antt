-- The law of every pass over a string that the load accepts: past n entries it stands at entry n, by its start in the string and its offset in a
-- set, all inside the string and no sum above 256; past all of them, where their spaces end.
use mathlib.Core.Path.{◌≡◌, refl, sym, ap, ◌∙◌}
use mathlib.Core.Bool.{Bool, true, false, cond}
use mathlib.Core.List.{List, [], ◌∷◌, ◌++◌}
use Prim.Native.Nat.{ℕ, zero, suc, ◌+◌, ◌≤◌, ◌<◌}
use native.Mathlib.Nat.{zero-add}
use native.Mathlib.Omega.{arith}
use lib.ListN.{length, get_or, take, length-append, get_or-append}
use lib.Seq.{get_or-append-add, take-length}
use lib.Dec.{leb}
use Rattle.rules.specs.Words.{accepted}
use Rattle.rules.specs.declared.Entry.{Entry}
use Rattle.rules.specs.Descriptor.{mask_bytes, byte_at}
use Rattle.rules.specs.Load.{load_of, rw_entries, ro_entries, total, map_of, both_within, map_within}
use Rattle.rules.specs.Place.{nothing, entry}
use Rattle.rules.specs.Demands.{Accepted, lengths}
use Rattle.rules.proofs.Basics.Tests.{by-test}
use Rattle.rules.proofs.Place.AcceptedMap.{Good}
use Rattle.rules.proofs.Load.Walks.{Map-accepted, load-accepted, total-append}
use Rattle.rules.proofs.Load.Fills.{Filled, filled-nth, stands-start, rw-filled, ro-filled}
use Rattle.rules.proofs.Load.EntryHeads.{Head, filled-head, strings-short, lengths-next, total-next}
use Rattle.descriptor.specs.declared.Mark.{Mark}
use Rattle.descriptor.specs.Marks.{OnEntry, mark_after, Passable}

-- where an entry stands
abbrev pub mark_of : Entry → Mark
mark_of e = record { at = e.start; sum = e.offset }

-- a string, where its spaces begin, and its entries
pub record Marked (a : ℕ) (s : List ℕ) (sum : ℕ) (l : List Entry) : Type 0 where
  pub mask : a ≤ 2
  pub heads : (n : ℕ) → n < length l → Head a s (get_or l n nothing)
  pub stands : (n : ℕ) → n < length l → mark_after a s sum n ≡ mark_of (get_or l n nothing)
  pub on : (n : ℕ) → n < length l → OnEntry a s (mark_after a s sum n)
  pub ends : (mark_after a s sum (length l)).sum ≡ sum + total l

-- the offsets of entries in a row are the sums of the MemoryLengths
good-offset : (from : ℕ) (l : List Entry) (n : ℕ) → Good from l → n < length l → (get_or l n nothing).offset ≡ from + total (take n l)
unfolding total
good-offset from [] n g h = absurd (omega arith)
good-offset from (e ∷ l) zero g h = omega (arith, g.1)
good-offset from (e ∷ l) (suc n) g h = omega (arith, good-offset (from + e.memory) l n g.2 (omega arith))

good-top : (from : ℕ) (l : List Entry) → Good from l → from + total l ≤ 256
unfolding total
good-top from [] g = omega arith
good-top from (e ∷ l) g = omega (arith, good-top (from + e.memory) l g.2)

good-most : (from : ℕ) (l : List Entry) (n : ℕ) → Good from l → from + total (take n l) ≤ 256
unfolding total
good-most from [] zero g = omega arith
good-most from [] (suc n) g = omega arith
good-most from (e ∷ l) zero g = omega (arith, good-top (from + e.memory) l g.2)
good-most from (e ∷ l) (suc n) g = omega (arith, good-most (from + e.memory) l n g.2)

good-later : (from : ℕ) (l r : List Entry) → Good from (l ++ r) → Good (from + total l) r
unfolding total
good-later from [] r g = let q : from + 0 ≡ from = omega arith in rw q g
good-later from (e ∷ l) r g = let q : from + (e.memory + total l) ≡ from + e.memory + total l = omega arith in rw q (good-later (from + e.memory) l r g.2)

same-mark : {x y u v : ℕ} → x ≡ u → y ≡ v → ◌≡◌ {A = Mark} (record { at = x; sum = y }) (record { at = u; sum = v })
same-mark p q = rw (p, q) refl

module _ (a : ℕ) (s : List ℕ) (sum : ℕ) (l : List Entry) (filled : Filled a s 0 l) (good : Good sum l) where
  -- Lengths and MemoryLengths are passed
  after : (n : ℕ) → n ≤ length l → mark_after a s sum n ≡ record { at = lengths (take n l); sum = sum + total (take n l) }
  unfolding mark_after total
  after zero h = same-mark refl (omega arith)
  after (suc n) h =
      let e : Entry = get_or l n nothing in
      let w = filled-head a s l n filled h in
      let b : e.start ≡ lengths (take n l) = stands-start a s (filled-nth a s l n filled h) in
      let p : e.length ≡ byte_at s (lengths (take n l) + 1) = rw b at (ap (λ x. x.length) w.says) in
      let q : e.memory ≡ byte_at s (lengths (take n l) + 2 + a) = rw b at (ap (λ x. x.memory) w.says) in
      rw (after n (omega arith)) (same-mark (omega (arith, lengths-next l n h)) (omega (arith, total-next l n h)))

  stands-at : (n : ℕ) → n < length l → mark_after a s sum n ≡ mark_of (get_or l n nothing)
  stands-at n h =
      after n (omega arith)
      ∙ same-mark (sym (stands-start a s (filled-nth a s l n filled h))) (sym (good-offset sum l n good h))

  filled-marked : a ≤ 2 → length s ≤ 120 → Marked a s sum l
  filled-marked mask short =
      record {
        mask = mask;
        heads = λ n h. filled-head a s l n filled h;
        stands = stands-at;
        on = λ n h.
            let w = filled-head a s l n filled h in
            let top = good-most sum l n good in
            rw (stands-at n h)
            (record { inside = w.room; place = omega (arith, w.room); space = omega (arith, good-offset sum l n good h) });
        ends = ap (λ (m : Mark). m.sum) (after (length l) (omega arith)) ∙ rw (take-length l) refl;
      }

mask-top : (count : ℕ) → mask_bytes count ≤ 2
unfolding mask_bytes
mask-top count = by-test (λ n. n ≤ 2) (leb count 8) 1 2 (λ _. omega arith) (λ _. omega arith)

ro-good : (count : ℕ) (rw ro : List ℕ) → Accepted count rw ro → Good (total (rw_entries count rw)) (ro_entries count rw ro)
unfolding both_within
ro-good count first last ok =
    rw zero-add at (good-later 0 (rw_entries count first) (ro_entries count first last) (load-accepted count first last _ _ _ _ ok.loads).good)

-- THE LAW, for the RW string and for the RO string, whose spaces begin where those of the RW string end
pub marked :
    (count : ℕ) (rw ro : List ℕ)
    → Accepted count rw ro
    → (in_ro : Bool)
    → Marked (mask_bytes count) (cond in_ro ro rw) (cond in_ro (total (rw_entries count rw)) 0) (cond in_ro (ro_entries count rw ro) (rw_entries count rw))
marked count first last ok false =
    let m = load-accepted count first last _ _ _ _ ok.loads in
    filled-marked (mask_bytes count) first 0 (rw_entries count first) (rw-filled count first last ok) m.rw-good (mask-top count) (strings-short count first last ok).0
marked count first last ok true =
    filled-marked (mask_bytes count) last (total (rw_entries count first)) (ro_entries count first last) (ro-filled count first last ok) (ro-good count first last ok) (mask-top count) (strings-short count first last ok).1

-- the same in the numbers that an accepted load answers, and of the map's entries: entry i of a string is the map's entry i, or n + i in the RO string
module _ (count : ℕ) (first last : List ℕ) (n k c t : ℕ) (h : load_of count first last ≡ accepted n k c t) where
  pub accepts : Accepted count first last
  accepts = record { rw_count = n; ro_count = k; staged = c; active = t; loads = h }

  a : Map-accepted count first last n k c t
  a = load-accepted count first last n k c t h

  pub rw-count : (map_of count first last).rw_count ≡ n
  unfolding map_within
  rw-count = sym a.rw_count

  pub all-count : length (map_of count first last).entries ≡ n + k
  unfolding map_within both_within
  all-count = omega (arith, a.rw_count, a.ro_count, length-append (rw_entries count first) (ro_entries count first last))

  pub active-is : (map_of count first last).active ≡ t
  unfolding map_within
  active-is = sym a.active

  -- the entries of a string
  its : (in_ro : Bool) → length (cond in_ro (ro_entries count first last) (rw_entries count first)) ≡ cond in_ro k n
  its true = sym a.ro_count
  its false = sym a.rw_count

  law : (in_ro : Bool) → Marked (mask_bytes count) (cond in_ro last first) (cond in_ro c 0) (cond in_ro (ro_entries count first last) (rw_entries count first))
  law true = rw a.staged (marked count first last accepts true)
  law false = marked count first last accepts false

  numbered : (in_ro : Bool) (i : ℕ) → i < cond in_ro k n → get_or (cond in_ro (ro_entries count first last) (rw_entries count first)) i nothing ≡ entry (map_of count first last) (cond in_ro (n + i) i)
  unfolding map_within both_within
  numbered true i l = sym (rw a.rw_count (get_or-append-add (rw_entries count first) (ro_entries count first last) i nothing))
  numbered false i l = sym (get_or-append (rw_entries count first) (ro_entries count first last) nothing i (rw (← a.rw_count) l))

  module _ (in_ro : Bool) where
    pub passable : (i : ℕ) → i ≤ cond in_ro k n → Passable (mask_bytes count) (cond in_ro last first) (cond in_ro c 0) i
    passable i l j u = (law in_ro).on j (rw (its in_ro) (omega arith))

    pub entry-stands : (i : ℕ) → i < cond in_ro k n → mark_after (mask_bytes count) (cond in_ro last first) (cond in_ro c 0) i ≡ mark_of (entry (map_of count first last) (cond in_ro (n + i) i))
    entry-stands i l = (law in_ro).stands i (rw (its in_ro) l) ∙ ap mark_of (numbered in_ro i l)

    pub entry-heads : (i : ℕ) → i < cond in_ro k n → Head (mask_bytes count) (cond in_ro last first) (entry (map_of count first last) (cond in_ro (n + i) i))
    entry-heads i l = rw (← numbered in_ro i l) ((law in_ro).heads i (rw (its in_ro) l))

  -- past all of a string's entries
  pub string-ends : (in_ro : Bool) → (mark_after (mask_bytes count) (cond in_ro last first) (cond in_ro c 0) (cond in_ro k n)).sum ≡ cond in_ro t c
  unfolding both_within
  string-ends true = rw (its true) at (law true).ends ∙ omega (arith, a.staged, a.active, total-append (rw_entries count first) (ro_entries count first last))
  string-ends false = rw (its false) at (law false).ends ∙ omega (arith, a.staged)
