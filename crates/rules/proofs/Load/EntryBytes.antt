-- The entry call's part is the entry's own bytes, as many as its Length says, and at least 4.
-- So an empty part is handed back exactly when the call is refused.
use Rattle.std.specs.Prelude.{Err}
use mathlib.Core.Path.{◌≡◌, refl, ap, ◌∙◌}
use mathlib.Core.Bool.{not, cond}
use mathlib.Core.List.{List, [], ◌++◌}
use mathlib.Core.Logic.{◌↔◌}
use Prim.Native.Nat.{ℕ, ◌+◌, ◌-◌, ◌≤◌, ◌<◌}
use native.Mathlib.Omega.{arith}
use lib.ListN.{length, get_or, length-append, length-take, length-drop, get_or-append}
use lib.Seq.{get_or-append-add, get_or-take, get_or-drop}
use lib.Dec.{T, ltb, leb, ltb→lt, nltb→le}
use borrow.Author.Tests.{ltb-true, lt-ltb, not-false}
use Rattle.rules.specs.Words.{Refusal, Entry, says_yes}
use Rattle.rules.specs.Descriptor.{mask_bytes, byte_at}
use Rattle.rules.specs.Load.{rw_entries, ro_entries, map_of, both_within, map_within, read_of}
use Rattle.rules.specs.Place.{nothing, entry, is_rw}
use Rattle.rules.specs.Refuse.{Verdict, passes, refuses}
use Rattle.rules.specs.Beside.{entry_verdict, answered, entry_answer, own_bytes, part_or, entry_bytes}
use Rattle.rules.specs.Demands.{Accepted, OwnBytes}
use Rattle.rules.proofs.Basics.Tests.{by-test}
use Rattle.rules.proofs.Load.Checks.{decode-passed}
use Rattle.rules.proofs.Load.Walks.{check9-passes, check_entries-passes}
use Rattle.rules.proofs.Load.Fills.{Filled, filled-nth, stands-start, rw-filled, ro-filled}
use Rattle.rules.proofs.Refusals.Orders.{order-passes}
use Rattle.rules.proofs.Refusals.Verdicts.{first-passes, refuse-if-passes, order-open}

-- the bytes of a string that are an entry's own
pub record OwnPart (s : List ℕ) (e : Entry) : Type 0 where
  pub size : length (own_bytes s e) ≡ e.length
  pub least : 4 ≤ e.length
  pub inside : e.start + e.length ≤ length s
  pub says : e.length ≡ byte_at s (e.start + 1)

mask-least : (count : ℕ) → 1 ≤ mask_bytes count
unfolding mask_bytes
mask-least count = by-test (λ n. 1 ≤ n) (leb count 8) 1 2 (λ _. omega arith) (λ _. omega arith)

filled-part :
    (count : ℕ) (s : List ℕ) (l : List Entry) (n : ℕ)
    → Filled (mask_bytes count) s 0 l
    → n < length l
    → OwnPart s (get_or l n nothing)
filled-part count s l n g h =
    let w = filled-nth (mask_bytes count) s l n g h in
    let e : Entry = get_or l n nothing in
    let p = decode-passed (mask_bytes count) s _ w.st e w.passes in
    let b = stands-start (mask_bytes count) s w in
    record {
      size = simp (length-take, length-drop) (omega arith);
      least = omega (arith, mask-least count);
      inside = omega arith;
      says = rw p.entry refl;
    }

module _ (count : ℕ) (first last : List ℕ) (ok : Accepted count first last) (e : ℕ) (h : e < length (map_of count first last).entries) where
  pub entry-part : OwnPart (cond (is_rw (map_of count first last) e) first last) (entry (map_of count first last) e)
  unfolding map_within both_within
  entry-part = by-test (λ s. OwnPart s (get_or (r ++ o) e nothing)) (ltb e (length r)) first last in-rw in-ro
    where
      r : List Entry
      r = rw_entries count first

      o : List Entry
      o = ro_entries count first last

      in-rw : T (ltb e (length r)) → OwnPart first (get_or (r ++ o) e nothing)
      in-rw t =
          rw
          (get_or-append r o nothing e (ltb→lt _ _ t))
          (filled-part count first r e (rw-filled count first last ok) (ltb→lt _ _ t))

      in-ro : T (not (ltb e (length r))) → OwnPart last (get_or (r ++ o) e nothing)
      in-ro t =
          let le : length r ≤ e = nltb→le _ _ t in
          let q : e ≡ length r + (e - length r) = omega arith in
          rw
          (ap (λ i. get_or (r ++ o) i nothing) q ∙ get_or-append-add r o (e - length r) nothing)
          (filled-part count last o (e - length r) (ro-filled count first last ok) (omega (arith, length-append r o)))

  verdict-accepted : entry_verdict (read_of count first last) e ≡ passes
  unfolding entry_verdict
  verdict-accepted =
      rw (
        order-open count first last (check9-passes count first last ok) (check_entries-passes count first last ok),
        lt-ltb e (length (map_of count first last).entries) h,
      )

  bytes-own :
      entry_bytes count first last e ≡ own_bytes (cond (is_rw (map_of count first last) e) first last) (entry (map_of count first last) e)
  unfolding entry_bytes
  bytes-own = rw verdict-accepted

  pub entry-own : OwnBytes count first last e
  entry-own = record { size = rw bytes-own entry-part.size; bytes = λ k l. rw (bytes-own, get_or-take, get_or-drop) }

module _ (count : ℕ) (first last : List ℕ) (e : ℕ) where
  -- a call that is not refused: the load accepts, and the entry is one of the map's
  pub verdict-passes : entry_verdict (read_of count first last) e ≡ passes → Accepted count first last × (e < length (map_of count first last).entries)
  unfolding entry_verdict
  verdict-passes h =
      let p = order-passes count first last _ h in
      (p.0, ltb-true _ _ (not-false _ (refuse-if-passes _ _ (first-passes _ [] p.1).0)))

  pub part-empty : (entry_bytes count first last e ≡ []) ↔ ((x : Refusal) × (entry_answer count first last e ≡ Err x))
  unfolding entry_bytes entry_answer
  part-empty = go (entry_verdict (read_of count first last) e) refl
    where
      own : List ℕ
      own = own_bytes (cond (is_rw (map_of count first last) e) first last) (entry (map_of count first last) e)

      go : (v : Verdict) → entry_verdict (read_of count first last) e ≡ v → (part_or v own ≡ []) ↔ ((x : Refusal) × (answered v says_yes ≡ Err x))
      go (refuses r) q = (λ _. (r, refl), λ _. refl)
      go passes q = (
        λ z.
            let (ok, h) = verdict-passes q in
            let p = entry-part count first last ok e h in
            let n : length own ≡ 0 = ap length z in
            absurd (omega arith),
        λ x. let y = x.1 in let o : ◌≡◌ {A = ℕ} 0 1 = cc in absurd (omega arith),
      )
