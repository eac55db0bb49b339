-- The laws of `cover_of`: from the load's answer and where the searches end, and what a caller learns from each answer.
use Rattle.std.specs.Prelude.{Option, Result, Err, Ok}
use mathlib.Core.Path.{◌≡◌, refl, sym, ap, ◌∙◌}
use mathlib.Core.Bool.{Bool, true, false, not, cond}
use mathlib.Core.List.{List, []}
use Prim.Native.Nat.{ℕ, suc, ◌+◌, ◌*◌, ◌≤◌, ◌<◌}
use native.Mathlib.Omega.{arith}
use lib.ListN.{length}
use lib.Dec.{ltb}
use borrow.Author.Tests.{ltb-true, ltb-false, lt-ltb, le-ltb}
use Rattle.rules.specs.Words.{accepted}
use Rattle.rules.specs.declared.Refusal.{Refusal}
use Rattle.rules.specs.declared.Refusal.TheVariants.{Plain as plain}
use Rattle.rules.specs.declared.Loaded.{Loaded}
use Rattle.rules.specs.Descriptor.{mask_bytes, byte_at, entry_at, entry_limit}
use Rattle.rules.specs.Load.{Map, sized, load_of, map_of}
use Rattle.rules.specs.Place.{entry, parts_of, width_of, is_rw, held_by, length_of}
use Rattle.rules.specs.Refuse.{check9, order_of}
use Rattle.rules.specs.Beside.{cover_index, looked_at}
use Rattle.rules.specs.Demands.{Accepted}
use Rattle.rules.proofs.Place.CoverIndex.{index-spans, index-none, index-is}
use Rattle.rules.proofs.Load.Walks.{map-good, length-most}
use Rattle.rules.proofs.Load.EntryHeads.{Head, strings-short, few-entries}
use Rattle.rules.proofs.Refusals.Orders.{order-refused, order-accepted}
use Rattle.descriptor.specs.declared.Fields.{Fields}
use Rattle.descriptor.specs.declared.Covered.{Covered}
use Rattle.descriptor.specs.Find.{fields_of}
use Rattle.descriptor.specs.Cover.{none_covers, by, cover_in, cover_of, Reachable, Hits, Misses}
use Rattle.descriptor.specs.declared.search.Hit.{Hit}
use Rattle.descriptor.proofs.Marks.{mark_of, accepts, rw-count, all-count, active-is, passable, entry-stands, entry-heads, string-ends}

-- an entry whose space covers byte k
pub record Covering (count : ℕ) (rw ro : List ℕ) (k : ℕ) (in_ro : Bool) (n : ℕ) (f : Fields) : Type 0 where
  pub ok : Accepted count rw ro
  pub there : n < length (map_of count rw ro).entries
  pub side : not (is_rw (map_of count rw ro) n) ≡ in_ro
  pub offset-is : (entry (map_of count rw ro) n).offset ≡ f.offset
  pub parts-is : parts_of (entry (map_of count rw ro) n) ≡ f.parts
  pub width-is : width_of (entry (map_of count rw ro) n) ≡ f.width
  pub low : (entry (map_of count rw ro) n).offset ≤ k
  pub top : k < (entry (map_of count rw ro) n).offset + (entry (map_of count rw ro) n).memory

-- what each answer says
data Says (count : ℕ) (rw ro : List ℕ) (k : ℕ) : Result (Option Covered) Refusal → Type 0 where
  refused : (r : Refusal) → load_of count rw ro ≡ Err r → Says count rw ro k (Err r)
  none : Accepted count rw ro → ((s : ℕ) → length_of (map_of count rw ro) s ≤ k) → Says count rw ro k none_covers
  one : {in_ro : Bool} {n : ℕ} {f : Fields} {c : ℕ}
      → Covering count rw ro k in_ro n f
      → looked_at (map_of count rw ro) k ≡ c
      → Says count rw ro k (by n f c in_ro)

module _ (count : ℕ) (first last : List ℕ) (k : ℕ) where
  abbrev m : Map
  m = map_of count first last

  pub cover-9 : sized count first last ≡ false → Err (plain 9) ≡ cover_of count first last k
  unfolding cover_of order_of check9
  cover-9 h = rw h refl

  pub cover-rejected : (r : Refusal) → load_of count first last ≡ Err r → Err r ≡ cover_of count first last k
  unfolding cover_of
  cover-rejected r h = rw (order-refused count first last r h []) refl

  pub cover-accepted : Accepted count first last → cover_in (map_of count first last) k ≡ cover_of count first last k
  unfolding cover_of
  cover-accepted ok = rw (order-accepted count first last ok []) refl

  in-map : Accepted count first last → Says count first last k (cover_in m k)
  unfolding cover_in
  in-map ok = go (ltb (cover_index m.entries k) (length m.entries)) refl
    where
      n : ℕ
      n = cover_index m.entries k

      go : (b : Bool) → ltb n (length m.entries) ≡ b → Says count first last k (cond b (by n (fields_of (entry m n)) (looked_at m k) (not (is_rw m n))) none_covers)
      go true q =
          let x = index-spans m k (ltb-true n (length m.entries) q) in
          one (record { ok = ok; there = x.there; side = refl; offset-is = refl; parts-is = refl; width-is = refl; low = x.low; top = x.top }) refl
      go false q =
          let z = index-none m (map-good count first last ok) k (ltb-false n (length m.entries) q) in
          none ok (λ s. omega (arith, length-most count first last s))

  says : Says count first last k (cover_of count first last k)
  says = go (load_of count first last) refl
    where
      go : (x : Result Loaded Refusal) → load_of count first last ≡ x → Says count first last k (cover_of count first last k)
      go (Err r) q = rw (← cover-rejected r q) (refused r q)
      go (Ok l) q =
          let ok : Accepted count first last = record { rw_count = l.rw_count; ro_count = l.ro_count; staged = l.staged_length; active = l.active_length; loads = q } in
          rw (← cover-accepted ok) (in-map ok)

-- for callers: what each answer says
module _ (count : ℕ) (first last : List ℕ) (k : ℕ) where
  pub cover-refused : (r : Refusal) → cover_of count first last k ≡ Err r → load_of count first last ≡ Err r
  cover-refused r q = go (rw q at (says count first last k))
    where
      go : Says count first last k (Err r) → load_of count first last ≡ Err r
      go (refused x h) = h

  pub cover-none : cover_of count first last k ≡ none_covers → Accepted count first last × ((s : ℕ) → length_of (map_of count first last) s ≤ k)
  cover-none q = go (rw q at (says count first last k))
    where
      go : Says count first last k none_covers → Accepted count first last × ((s : ℕ) → length_of (map_of count first last) s ≤ k)
      go (none ok h) = (ok, h)

  pub cover-one :
      (in_ro : Bool) (n : ℕ) (f : Fields) (c : ℕ)
      → cover_of count first last k ≡ by n f c in_ro
      → Covering count first last k in_ro n f × (looked_at (map_of count first last) k ≡ c)
  cover-one in_ro n f c q = go (rw q at (says count first last k))
    where
      go : Says count first last k (by n f c in_ro) → Covering count first last k in_ro n f × (looked_at (map_of count first last) k ≡ c)
      go (one x y) = (x, y)

-- for `cover`: what the search of each string finds
module _ (count : ℕ) (first last : List ℕ) (k n c d t : ℕ) (h : load_of count first last ≡ accepted n c d t) where
  abbrev p : Map
  p = map_of count first last

  ok : Accepted count first last
  ok = accepts count first last n c d t h

  -- the entry that covers the byte, from the bytes where it stands
  covers-at :
      (e : ℕ) {s : List ℕ} {i o : ℕ}
      → e < length p.entries
      → Head (mask_bytes count) s (entry p e)
      → mark_of (entry p e) ≡ record { at = i; sum = o }
      → o ≤ k
      → k < o + byte_at s (i + 2 + mask_bytes count)
      → (by e (fields_of (entry_at (mask_bytes count) s i o)) (suc e) (not (is_rw p e)) ≡ cover_of count first last k)
  unfolding cover_in
  covers-at e {s} {i} {o} l w q low top =
      let a : (entry p e).start ≡ i = ap (λ x. x.at) q in
      let b : (entry p e).offset ≡ o = ap (λ x. x.sum) q in
      let is : entry p e ≡ entry_at (mask_bytes count) s i o = w.says ∙ rw (a, b) refl in
      let memory : (entry p e).memory ≡ byte_at s ((entry p e).start + 2 + mask_bytes count) = ap (λ x. x.memory) w.says in
      let y : k < (entry p e).offset + (entry p e).memory = rw (memory, a, b) top in
      let j : cover_index p.entries k ≡ e = index-is p (map-good count first last ok) (record { there = l; low = omega arith; top = y }) in
      rw (← is, ← b) (sym (rw (j, lt-ltb e (length p.entries) l) refl)) ∙ cover-accepted count first last k ok

  short : (b : Bool) → length (cond b last first) ≤ 120
  short true = (strings-short count first last ok).1
  short false = (strings-short count first last ok).0

  -- both strings together have at most twice the limit
  pub covers-few : n + c ≤ 2 * entry_limit
  covers-few = omega (arith, all-count count first last n c d t h, few-entries count first last ok)

  module _ (in_ro : Bool) where
    pub covers-seeks : Reachable (mask_bytes count) (cond in_ro last first) (cond in_ro d 0) (cond in_ro c n) k
    covers-seeks i l _ = passable count first last n c d t h in_ro (cond in_ro c n) (omega arith) i l

    -- the entries up to entry i of the string
    counted : (b : Bool) (i : ℕ) → cond b n 0 + suc i ≡ suc (cond b (n + i) i)
    counted true i = omega arith
    counted false i = omega arith

    -- the number of entry i of the string
    in-string : (i : ℕ) → i < cond in_ro c n → (cond in_ro (n + i) i < length p.entries) × (not (is_rw p (cond in_ro (n + i) i)) ≡ in_ro)
    in-string i = go in_ro
      where
        go : (b : Bool) → i < cond b c n → (cond b (n + i) i < length p.entries) × (not (is_rw p (cond b (n + i) i)) ≡ b)
        go true l = (
          omega (arith, all-count count first last n c d t h),
          rw (le-ltb (n + i) p.rw_count (omega (arith, rw-count count first last n c d t h))) refl,
        )
        go false l = (
          omega (arith, all-count count first last n c d t h),
          rw (lt-ltb i p.rw_count (omega (arith, rw-count count first last n c d t h))) refl,
        )

    module _ {looked : ℕ} {x : Hit} (f : Hits (mask_bytes count) (cond in_ro last first) (cond in_ro d 0) (cond in_ro c n) k (cond in_ro n 0) looked x) where
      pub covers-found :
          (by (cond in_ro (n + x.number) x.number) (fields_of (entry_at (mask_bytes count) (cond in_ro last first) x.mark.at x.mark.sum)) looked in_ro ≡ cover_of count first last k)
          × (cond in_ro (n + x.number) x.number ≤ 2 * entry_limit)
      covers-found =
          let (u, v) = in-string x.number f.inside in
          let e = cond in_ro (n + x.number) x.number in
          let q = sym (entry-stands count first last n c d t h in_ro x.number f.inside) ∙ f.is in
          let w = covers-at e u (entry-heads count first last n c d t h in_ro x.number f.inside) q f.low f.top in
          (rw (f.counted, counted in_ro x.number) (rw v at w), omega (arith, few-entries count first last ok))

    -- none: the byte lies past the spaces of the string
    pub covers-past :
        {looked : ℕ}
        → Misses (mask_bytes count) (cond in_ro last first) (cond in_ro d 0) (cond in_ro c n) k (cond in_ro n 0) looked
        → cond in_ro t d ≤ k
    covers-past f = rw (string-ends count first last n c d t h in_ro) at f.low

  -- none in either string
  pub covers-none : t ≤ k → none_covers ≡ cover_of count first last k
  unfolding cover_in held_by length_of
  covers-none past = go (ltb (cover_index p.entries k) (length p.entries)) refl ∙ cover-accepted count first last k ok
    where
      go : (b : Bool) → ltb (cover_index p.entries k) (length p.entries) ≡ b
          → none_covers ≡ cond b (by (cover_index p.entries k) (fields_of (entry p (cover_index p.entries k))) (looked_at p k) (not (is_rw p (cover_index p.entries k)))) none_covers
      go true q =
          let x = index-spans p k (ltb-true _ _ q) in
          absurd (omega (arith, active-is count first last n c d t h, x.top, (map-good count first last ok).ends 2 _ x.there))
      go false q = refl
