-- A walk that ends, and the entries that it went over; and what an accepted load says of its map.
use Rattle.std.specs.Prelude.{Result, Ok, Err}
use mathlib.Core.Path.{◌≡◌, refl, sym, ap, ◌∙◌, subst}
use mathlib.Core.Bool.{Bool, true, false, cond}
use mathlib.Core.List.{List, [], ◌∷◌, ◌++◌}
use Prim.Native.Nat.{ℕ, zero, suc, ◌+◌, ◌≤◌, ◌<◌}
use native.Mathlib.Omega.{arith}
use native.Mathlib.Nat.{zero-add}
use lib.ListN.{length, get_or, length-append, get_or-append}
use lib.Dec.{T, ltb, leb, leb→le}
use Rattle.rules.specs.Words.{plain, Entry, State, accepted, Refusal}
use Rattle.rules.specs.Descriptor.{mask_bytes, decode_at, limited, entry_limit}
use Rattle.rules.specs.Load.{start, next, into_ro, answer, fold_by, fold_of, onward, walk_of, gather, entries_from, sized, after, strings_of, load_of, rw_entries, ro_entries, entries_of, total, map_of, both_within, entries_within, map_within, read_of, ro_within, rw_within, rest_within, strings_within, walk_within}
use Rattle.rules.specs.Place.{nothing, entry, is_staged, held_by, length_of}
use Rattle.rules.specs.Refuse.{passes, check9, check_entries}
use Rattle.rules.specs.Demands.{Accepted}
use Rattle.rules.proofs.Basics.Tests.{and₄, by-test, from-true, is-true}
use Rattle.rules.proofs.Place.AcceptedMap.{Good, GoodMap}
use Rattle.rules.proofs.Load.Checks.{decode-passed}
use Rattle.rules.proofs.Basics.Results.{loaded-same}

pub record Listed (st end : State) (l : List Entry) : Type 0 where
  pub side : end.ro ≡ st.ro
  pub before : end.before ≡ st.before
  pub staged : end.staged ≡ st.staged
  pub counts : end.entries ≡ st.entries + length l
  pub sums : end.sum ≡ st.sum + total l
  pub most : end.sum ≤ 256
  pub good : Good st.sum l

here : (st end : State) → st.sum ≤ 256 → ◌≡◌ {A = Result State Refusal} (Ok st) (Ok end) → Listed st end []
unfolding total
here st end g h =
    let q : st ≡ end = cc in rw (← q) (record { side = refl; before = refl; staged = refl; counts = omega arith; sums = omega arith; most = g; good = g })

module _ (a : ℕ) (s : List ℕ) (end : State) where
  turned :
      (at : ℕ) (st : State) (k : Entry → Result State Refusal) (l : Entry → List Entry)
      → ((e : Entry) → (next st e).sum ≤ 256 → k e ≡ Ok end → Listed (next st e) end (l e))
      → st.sum ≤ 256
      → (b : Bool) (d : Result Entry ℕ)
      → decode_at a s at st ≡ d
      → cond b (onward d st k) (Ok st) ≡ Ok end
      → Listed st end (cond b (gather d st l) [])
  unfolding total
  turned at st k l ih g false d q h = here st end g h
  turned at st k l ih g true (Err n) q h = let z : ◌≡◌ {A = ℕ} 0 1 = cc in absurd (omega arith)
  turned at st k l ih g true (Ok e) q h =
      let p = decode-passed a s at st e q in
      let r = ih e p.sum h in
      let off : e.offset ≡ st.sum = ap (λ (x : Entry). x.offset) p.entry in
      record {
        side = r.side;
        before = r.before;
        staged = r.staged;
        counts = omega arith;
        sums = omega arith;
        most = r.most;
        good = (p.good, off, r.good);
      }

  by-fuel : (f at : ℕ) (st : State) → st.sum ≤ 256 → fold_by limited onward Ok a f s at st ≡ Ok end → Listed st end (fold_by limited gather (λ _. []) a f s at st)
  unfolding fold_by
  by-fuel zero at st g h = here st end g h
  by-fuel (suc f) at st g h =
      turned at st
      (λ e. fold_by limited onward Ok a f s (at + e.length) (next st e))
      (λ e. fold_by limited gather (λ _. []) a f s (at + e.length) (next st e))
      (λ e. by-fuel f (at + e.length) (next st e))
      g
      (ltb at (length s))
      (decode_at a s at st)
      refl
      h

  pub walk-listed : (at : ℕ) (st : State) → st.sum ≤ 256 → walk_of a s at st ≡ Ok end → Listed st end (entries_from a s at st)
  unfolding walk_within fold_of entries_within
  walk-listed at st g h = by-fuel (length s) at st g h

-- no walk passes more entries of a string than the limit
few-by :
    (a f : ℕ) (s : List ℕ) (at : ℕ) (st : State)
    → st.entries ≤ entry_limit
    → st.entries + length (fold_by limited gather (λ _. []) a f s at st) ≤ entry_limit
unfolding fold_by
few-by a zero s at st h = omega arith
few-by a (suc f) s at st h = go (ltb at (length s)) (decode_at a s at st) refl (λ e. few-by a f s (at + e.length) (next st e))
  where
    rest : Entry → List Entry
    rest e = fold_by limited gather (λ _. []) a f s (at + e.length) (next st e)

    go :
        (b : Bool) (d : Result Entry ℕ)
        → decode_at a s at st ≡ d
        → ((e : Entry) → st.entries + 1 ≤ entry_limit → st.entries + 1 + length (rest e) ≤ entry_limit)
        → st.entries + length (cond b (gather d st rest) []) ≤ entry_limit
    go false d q ih = omega arith
    go true (Err n) q ih = omega arith
    go true (Ok e) q ih =
        let l : st.entries < entry_limit = (decode-passed a s at st e q).few in
        omega (arith, ih e (omega arith))

-- a walk that ends: how far its entries and its sum come
pub walk-counts :
    (a : ℕ) (s : List ℕ) (at : ℕ) (begin end : State)
    → begin.entries ≤ entry_limit
    → begin.sum ≤ 256
    → walk_of a s at begin ≡ Ok end
    → (end.entries ≤ entry_limit) × (end.sum ≤ 256)
unfolding entries_within fold_of
walk-counts a s at begin end few g h =
    let l = walk-listed a s end at begin g h in
    let n = few-by a (length s) s at begin few in
    (omega arith, l.most)

-- two lists in a row
good-append : (n : ℕ) (l r : List Entry) → Good n l → Good (n + total l) r → Good n (l ++ r)
unfolding total
good-append n [] r p q = let e : n + 0 ≡ n = omega arith in subst (λ (m : ℕ). Good m r) e q
good-append n (i ∷ l) r p q =
    let e : n + (i.memory + total l) ≡ n + i.memory + total l = omega arith in
    (p.0, p.1, good-append (n + i.memory) l r p.2 (subst (λ (m : ℕ). Good m r) e q))

pub total-append : (l r : List Entry) → total (l ++ r) ≡ total l + total r
unfolding total
total-append [] r = sym (zero-add (total r))
total-append (i ∷ l) r = let e = total-append l r in omega arith

-- no set is longer than the sum of all
pub length-most : (count : ℕ) (rw ro : List ℕ) (s : ℕ) → length_of (map_of count rw ro) s ≤ total (map_of count rw ro).entries
unfolding map_within length_of both_within
length-most count first last s =
    by-test (λ n. n ≤ total (rw_entries count first ++ ro_entries count first last)) (is_staged s) _ _
    (λ _. omega (arith, total-append (rw_entries count first) (ro_entries count first last)))
    (λ _. omega arith)

-- an entry ends within its list's sum
ends-all : (n : ℕ) (l : List Entry) (k : ℕ) → Good n l → k < length l → (get_or l k nothing).offset + (get_or l k nothing).memory ≤ n + total l
unfolding total
ends-all n [] k g h = absurd (omega arith)
ends-all n (e ∷ l) zero g h = omega (arith, g.1)
ends-all n (e ∷ l) (suc k) g h = omega (arith, ends-all (n + e.memory) l k g.2 (omega arith))

-- all that an accepted load fixes: the states at which its two walks end, its counts and sums
pub record Map-accepted (count : ℕ) (rw ro : List ℕ) (n k c t : ℕ) : Type 0 where
  pub middle : State
  pub end : State
  pub rw-ends : walk_of (mask_bytes count) rw 0 start ≡ Ok middle
  pub ro-ends : walk_of (mask_bytes count) ro 0 (into_ro middle) ≡ Ok end
  pub rw_count : n ≡ length (rw_entries count rw)
  pub ro_count : k ≡ length (ro_entries count rw ro)
  pub staged : c ≡ total (rw_entries count rw)
  pub active : t ≡ total (entries_of count rw ro)
  pub rw-good : Good 0 (rw_entries count rw)
  pub good : Good 0 (entries_of count rw ro)
  pub most : total (entries_of count rw ro) ≤ 256
  pub few : (length (rw_entries count rw) ≤ entry_limit) × (length (ro_entries count rw ro) ≤ entry_limit)
  pub sized : T (sized count rw ro)
  pub strings : strings_of count rw ro ≡ accepted n k c t

module _ (count : ℕ) (first last : List ℕ) (m e : State) (p : walk_of (mask_bytes count) first 0 start ≡ Ok m)
    (q : walk_of (mask_bytes count) last 0 (into_ro m) ≡ Ok e) where
  ro-entries : ro_entries count first last ≡ entries_from (mask_bytes count) last 0 (into_ro m)
  unfolding ro_within
  ro-entries = rw p

  both-ended : T (sized count first last) → strings_of count first last ≡ answer e
      → Map-accepted count first last e.before e.entries e.staged e.sum
  unfolding rw_within both_within
  both-ended z w =
      let l = walk-listed (mask_bytes count) first m 0 start (omega arith) p in
      let r = rw (← ro-entries) at (walk-listed (mask_bytes count) last e 0 (into_ro m) l.most q) in
      let t = total-append (rw_entries count first) (ro_entries count first last) in
      let g : m.sum ≡ 0 + total (rw_entries count first) = omega arith in
      let c = walk-counts (mask_bytes count) first 0 start m (omega arith) (omega arith) p in
      let d = walk-counts (mask_bytes count) last 0 (into_ro m) e (omega arith) l.most q in
      record {
        middle = m;
        end = e;
        rw-ends = p;
        ro-ends = q;
        rw_count = omega (arith, r.before);
        ro_count = omega arith;
        staged = omega (arith, r.staged);
        active = omega arith;
        rw-good = l.good;
        good = good-append 0 (rw_entries count first) (ro_entries count first last) l.good (rw g at r.good);
        most = omega arith;
        few = (omega arith, omega arith);
        sized = z;
        strings = w;
      }

strings-def :
    (count : ℕ) (first last : List ℕ)
    → strings_of count first last
    ≡ after (walk_of (mask_bytes count) first 0 start) (λ m. after (walk_of (mask_bytes count) last 0 (into_ro m)) answer)
unfolding strings_within rest_within
strings-def count first last = refl

module _ (count : ℕ) (first last : List ℕ) (n k c t : ℕ) where
  second :
      (m : State)
      → walk_of (mask_bytes count) first 0 start ≡ Ok m
      → T (sized count first last)
      → strings_of count first last ≡ accepted n k c t
      → (w : Result State Refusal)
      → walk_of (mask_bytes count) last 0 (into_ro m) ≡ w
      → after w answer ≡ accepted n k c t
      → Map-accepted count first last n k c t
  second m p z y (Err r) q h = let o : ◌≡◌ {A = ℕ} 0 1 = cc in absurd (omega arith)
  second m p z y (Ok e) q h =
      let ns = loaded-same _ _ h in
      rw (← ns.0, ← ns.1, ← ns.2, ← ns.3) (both-ended count first last m e p q z (y ∙ sym h))

  strings-accepted : T (sized count first last) → strings_of count first last ≡ accepted n k c t → Map-accepted count first last n k c t
  strings-accepted z h = go (walk_of (mask_bytes count) first 0 start) refl (split h)
    where
      split : strings_of count first last ≡ accepted n k c t
          → after (walk_of (mask_bytes count) first 0 start) (λ m. after (walk_of (mask_bytes count) last 0 (into_ro m)) answer) ≡ accepted n k c t
      split x = sym (strings-def count first last) ∙ x

      go : (w : Result State Refusal) → walk_of (mask_bytes count) first 0 start ≡ w
          → after w (λ m. after (walk_of (mask_bytes count) last 0 (into_ro m)) answer) ≡ accepted n k c t
          → Map-accepted count first last n k c t
      go (Err r) p x = let o : ◌≡◌ {A = ℕ} 0 1 = cc in absurd (omega arith)
      go (Ok m) p x = second m p z h (walk_of (mask_bytes count) last 0 (into_ro m)) refl x

  pub load-accepted : load_of count first last ≡ accepted n k c t → Map-accepted count first last n k c t
  unfolding load_of
  load-accepted h = go (sized count first last) refl h
    where
      go : (b : Bool) → sized count first last ≡ b → cond b (strings_of count first last) (Err (plain 9)) ≡ accepted n k c t → Map-accepted count first last n k c t
      go true q x = strings-accepted (from-true q) x
      go false q x = let o : ◌≡◌ {A = ℕ} 0 1 = cc in absurd (omega arith)

-- an accepted load passes 9 and the checks of the entries, and its map is good
pub check9-passes : (count : ℕ) (rw ro : List ℕ) → Accepted count rw ro → check9 (read_of count rw ro) ≡ passes
unfolding check9
check9-passes count first last h = rw (is-true (sized count first last) (load-accepted count first last _ _ _ _ h.loads).sized)

pub check_entries-passes : (count : ℕ) (rw ro : List ℕ) → Accepted count rw ro → check_entries (read_of count rw ro) ≡ passes
unfolding check_entries
check_entries-passes count first last h = rw (load-accepted count first last _ _ _ _ h.loads).strings

pub map-good : (count : ℕ) (rw ro : List ℕ) → Accepted count rw ro → GoodMap (map_of count rw ro)
unfolding map_within held_by length_of both_within
map-good count first last h =
    record {
      list = a.good;
      count = leb→le count 15 (and₄ (leb 1 count) (leb count 15) (leb (length first) 120) (leb (length last) 120) a.sized).1;
      rw_count = omega (arith, length-append (rw_entries count first) (ro_entries count first last));
      ends = ends;
      lengths = λ s. by-test (λ n. n ≤ 256) (is_staged s) _ _ (λ _. omega (arith, a.most, both)) (λ _. a.most);
    }
  where
    a : Map-accepted count first last h.rw_count h.ro_count h.staged h.active
    a = load-accepted count first last h.rw_count h.ro_count h.staged h.active h.loads

    both : total (rw_entries count first ++ ro_entries count first last) ≡ total (rw_entries count first) + total (ro_entries count first last)
    both = total-append (rw_entries count first) (ro_entries count first last)

    ends : (s e : ℕ) → e < held_by (map_of count first last) s → (entry (map_of count first last) e).offset + (entry (map_of count first last) e).memory ≤ length_of (map_of count first last) s
    ends s e = go (is_staged s)
      where
        go : (b : Bool) → e < cond b (length (rw_entries count first)) (length (rw_entries count first ++ ro_entries count first last))
            → (get_or (rw_entries count first ++ ro_entries count first last) e nothing).offset + (get_or (rw_entries count first ++ ro_entries count first last) e nothing).memory
            ≤ cond b (total (rw_entries count first)) (total (rw_entries count first ++ ro_entries count first last))
        go true l =
            rw
            (get_or-append (rw_entries count first) (ro_entries count first last) nothing e l)
            (omega (arith, ends-all 0 (rw_entries count first) e a.rw-good l))
        go false l = omega (arith, ends-all 0 (rw_entries count first ++ ro_entries count first last) e a.good l)

-- both strings walked to their ends, by what each walk counted and summed
pub strings-walked :
    (count : ℕ) (rw ro : List ℕ) (m e : State)
    → walk_of (mask_bytes count) rw 0 start ≡ Ok m
    → walk_of (mask_bytes count) ro 0 (into_ro m) ≡ Ok e
    → strings_of count rw ro ≡ accepted m.entries e.entries m.sum e.sum
strings-walked count first last m e p q =
    let l = walk-listed (mask_bytes count) first m 0 start (omega arith) p in
    let r = walk-listed (mask_bytes count) last e 0 (into_ro m) l.most q in
    strings-def count first last ∙ rw (p, q, r.before, r.staged) refl

-- no string of an accepted load has more entries than the limit
pub load-few : (count : ℕ) (rw ro : List ℕ) → Accepted count rw ro → (length (rw_entries count rw) ≤ entry_limit) × (length (ro_entries count rw ro) ≤ entry_limit)
load-few count first last ok = (load-accepted count first last _ _ _ _ ok.loads).few

-- the counts and lengths that an accepted load answers: of the RW and the RO entries, the RW sum and the sum of all
pub load-counts :
    (count : ℕ) (rw ro : List ℕ)
    → Accepted count rw ro
    → load_of count rw ro
    ≡ accepted (length (rw_entries count rw)) (length (ro_entries count rw ro)) (total (rw_entries count rw)) (total (rw_entries count rw ++ ro_entries count rw ro))
unfolding both_within
load-counts count first last ok =
    let a = load-accepted count first last _ _ _ _ ok.loads in
    ok.loads ∙ rw (a.rw_count, a.ro_count, a.staged, a.active) refl
