-- What a call leaves of a bank: its length and every byte past its size; and all of it where the call is refused.
use Rattle.std.specs.Prelude.{Err}
use mathlib.Core.Path.{◌≡◌, refl}
use mathlib.Core.List.{List, [], ◌++◌}
use Prim.Native.Nat.{ℕ, ◌+◌, ◌≤◌, ◌<◌}
use native.Mathlib.Omega.{arith}
use lib.ListN.{length, set, drop, replicate, length-append, length-drop, length-set, length-replicate}
use lib.Dec.{ltb, ltb→lt}
use lib.Seq.{drop-set-lt, drop_at}
use Rattle.rules.specs.Words.{Refusal, Call, select, write, read, byte_write, byte_read, publish, apply}
use Rattle.rules.specs.Load.{load_of, Map, map_of, read_of}
use Rattle.rules.specs.Place.{is_set, length_of, Field}
use Rattle.rules.specs.Layout.{bank_size, set_start, app_sel_at}
use Rattle.rules.specs.Refuse.{Verdict, passes, refuses, decide, exists, judge, bank_order}
use Rattle.rules.specs.Bank.{Bank, put_field, with_number, bank_plan, apply_bank, bank_does, bank_call, fresh_bank, freshened, fresh_call}
use Rattle.rules.specs.Demands.{Keeps}
use Rattle.rules.proofs.Basics.Tests.{and₂}
use Rattle.rules.proofs.Bank.Places.{set-inside, app-inside, named-has-bytes}
use Rattle.rules.proofs.Place.AcceptedMap.{GoodMap}
use Rattle.rules.proofs.Load.Walks.{map-good}
use Rattle.rules.proofs.Place.Fields.{in-bank}
use Rattle.rules.proofs.Apply.Applied.{apply-is, apply-beyond}
use Rattle.rules.proofs.Lists.Allowed.{select-allowed, write-field, publish-field}
use Rattle.rules.proofs.Refusals.Verdicts.{first-append, Judged, judge-passes}
use Rattle.rules.proofs.Refusals.Orders.{bank-order-passes}
use Rattle.rules.proofs.Refusals.Refused.{does-answers, accepted-loads}

-- a bank as it was in its length and past its size
record Kept (b after : Bank) : Type 0 where
  size : length after ≡ length b
  beyond : drop bank_size after ≡ drop bank_size b

kept-self : (b : Bank) → Kept b b
kept-self b = record { size = refl; beyond = refl }

kept-set : (b : Bank) (at v : ℕ) → at < bank_size → Kept b (set b at v)
kept-set b at v h = record { size = length-set b at v; beyond = drop-set-lt bank_size b at v h }

module _ (m : Map) (g : GoodMap m) where
  kept-put : (b : Bank) (s e p i v : ℕ) → Field m s e p i → Kept b (put_field m b s e p i v)
  unfolding put_field
  kept-put b s e p i v f = kept-set b _ _ (in-bank m g f)

  kept-apply : (s lanes : ℕ) (b : Bank) → bank_size ≤ length b → Kept b (apply_bank m s lanes b)
  kept-apply s lanes b size = let r = apply-is m g s lanes b size in record { size = r.size; beyond = apply-beyond m g s lanes b _ r }

  -- an accepted call
  does-keeps : (c : Call) (b : Bank) → bank_size ≤ length b → Judged m c → Kept b (bank_does m c b).1
  unfolding bank_does with_number exists
  does-keeps (select s i a) b size j = let (hs, hi, hj, ha) = select-allowed m j in kept-set b (app_sel_at s i) a (app-inside s i hs hj)
  does-keeps (write s f v) b size j = kept-put b s f.entry f.part f.lane _ (write-field m g j)
  does-keeps (read s f) b size j = kept-self b
  does-keeps (byte_write s k v) b size j =
      let (h₁, h₂) = and₂ (is_set s) (ltb k (length_of m s)) j.there in
      kept-set b (set_start s + k) _ (set-inside s k (named-has-bytes s (ltb→lt s 3 h₁)) (omega (arith, ltb→lt k (length_of m s) h₂, g.lengths s)))
  does-keeps (byte_read s k) b size j = kept-self b
  does-keeps (publish f v) b size j = kept-put b 2 f.entry f.part f.lane _ (publish-field m j)
  does-keeps (apply s lanes) b size j = kept-apply s lanes b size

module _ (count : ℕ) (first last : List ℕ) (b : Bank) where
  pub call-keeps : (c : Call) → Keeps b (bank_call count first last c b).1 ((x : Refusal) × ((bank_call count first last c b).0 ≡ Err x))
  unfolding bank_call
  call-keeps c = go (bank_order (read_of count first last) (length b) (judge (map_of count first last) c ++ bank_plan (map_of count first last) c b)) refl
    where
      m : Map
      m = map_of count first last

      go : (v : Verdict) → bank_order (read_of count first last) (length b) (judge m c ++ bank_plan m c b) ≡ v
          → Keeps b (decide v b (bank_does m c b)).1 ((x : Refusal) × ((decide v b (bank_does m c b)).0 ≡ Err x))
      go (refuses r) q = record { size = refl; beyond = refl; whole = λ _. refl }
      go passes q =
          let (a, z, r) = bank-order-passes count first last (length b) _ q in
          let j : Judged m c = judge-passes m c (first-append (judge m c) (bank_plan m c b) r).0 in
          let k = does-keeps m (map-good count first last a) c b z j in
          record { size = k.size; beyond = k.beyond; whole = λ y. absurd (does-answers m c b y.0 y.1) }

  -- a bank of zeros and what stands past them
  fresh-kept :
      (n : ℕ)
      → n ≤ length b
      → (length (replicate n 0 ++ drop n b) ≡ length b) × (drop n (replicate n 0 ++ drop n b) ≡ drop n b)
  fresh-kept n h =
      let l : length (replicate {A = ℕ} n 0) ≡ n = length-replicate n 0 in
      (omega (arith, length-append (replicate n 0) (drop n b), length-drop n b), drop_at (replicate n 0) (drop n b) n l)

  pub fresh-keeps : Keeps b (fresh_call count first last b).1 ((x : Refusal) × ((fresh_call count first last b).0 ≡ Err x))
  unfolding fresh_call fresh_bank load_of
  fresh-keeps = go (bank_order (read_of count first last) (length b) []) refl
    where
      go : (v : Verdict) → bank_order (read_of count first last) (length b) [] ≡ v
          → Keeps b (freshened v (load_of count first last) b).1 ((x : Refusal) × ((freshened v (load_of count first last) b).0 ≡ Err x))
      go (refuses r) q = record { size = refl; beyond = refl; whole = λ _. refl }
      go passes q =
          let (a, z, r) = bank-order-passes count first last (length b) [] q in
          let k = fresh-kept bank_size z in
          record { size = k.0; beyond = k.1; whole = λ y. absurd (accepted-loads count first last a y.0 y.1) }
