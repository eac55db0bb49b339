-- DEMAND 3: every list of calls keeps the relation of bank and table; from fresh on; and the relation shows what is asked.
use mathlib.Core.Path.{◌≡◌, refl, sym, ap, ◌∙◌}
use mathlib.Core.Logic.{◌⊎◌, inl, inr}
use mathlib.Core.Bool.{Bool, true, false, not}
use mathlib.Core.List.{List, [], ◌++◌}
use Prim.Native.Nat.{ℕ, ◌+◌, ◌-◌, ◌%◌, ◌^◌, ◌≤◌, ◌<◌}
use native.Mathlib.Nat.{zero-div, zero-mod}
use native.Mathlib.Omega.{arith}
use lib.IntN.{pos}
use lib.ListN.{length, get_or, replicate, drop, length-replicate, length-append, length-drop, get_or-append, get_or-replicate}
use lib.Seq.{drop_at}
use lib.Pow.{pow_pos}
use borrow.Author.Tests.{lt-ltb}
use lib.Dec.{T}
use Rattle.rules.specs.Numbers.{cut}
use Rattle.rules.specs.Words.{Call}
use Rattle.rules.specs.Load.{Map, map_of}
use Rattle.rules.specs.Place.{entry, width_of, signed_of, holds, field_bit, covers}
use Rattle.rules.specs.Accept.{from_bits}
use Rattle.rules.specs.Refuse.{first_of, judge}
use Rattle.rules.specs.Layout.{bank_size, HasBytes, set_start, app_sel_at}
use Rattle.rules.specs.Bank.{Bank, field_at, get_field, number_in, bank_plan, fresh_bank, bank_call, fresh_call, bank_makes}
use Rattle.rules.specs.Table.{Table, fresh_table, table_plan, table_call, table_makes}
use Rattle.rules.specs.Machine.{Command, call, run}
use Rattle.rules.specs.Demands.{Accepted, bit_in, Shows, bank_run, Demand3}
use Rattle.rules.proofs.Basics.Tests.{either}
use Rattle.rules.proofs.Place.AcceptedMap.{GoodMap}
use Rattle.rules.proofs.Load.Walks.{map-good, check9-passes, check_entries-passes}
use Rattle.rules.proofs.Bank.Places.{set-inside, app-inside}
use Rattle.rules.proofs.Place.Fields.{holds-field, field-holds, in-bank}
use Rattle.rules.proofs.Place.CoveredBytes.{covered, in-covered, in-field}
use Rattle.rules.proofs.Lists.Relation.{Holds}
use Rattle.rules.proofs.Refusals.Verdicts.{first-append, first-same, judge-passes, order-open, bank-order-open, decide-both}
use Rattle.rules.proofs.Lists.Calls.{Same, does, plans}
use Rattle.rules.proofs.Lists.Machines.{Alike, run-alike}

-- one call, and a list of calls, on accepted strings
module _ (count : ℕ) (first last : List ℕ) (ok : Accepted count first last) (tail : List ℕ) where
  abbrev m : Map
  m = map_of count first last

  good : GoodMap m
  good = map-good count first last ok

  -- the two machines' checks give one verdict
  order-same :
      (c : Call) (b : Bank) (t : Table)
      → Holds m tail b t
      → first_of (judge m c ++ bank_plan m c b) ≡ first_of (judge m c ++ table_plan m c t)
  order-same c b t r =
      first-same (judge m c) (bank_plan m c b) (table_plan m c t) (λ h. plans m good tail b t r c (judge-passes m c h))

  one-call : (c : Call) (b : Bank) (t : Table) → Holds m tail b t → Same m tail (bank_call count first last c b) (table_call count first last c t)
  unfolding bank_call table_call
  one-call c b t r =
      rw (
        bank-order-open count first last (check9-passes count first last ok) (check_entries-passes count first last ok) (length b) (judge m c ++ bank_plan m c b) r.size,
        order-open count first last (check9-passes count first last ok) (check_entries-passes count first last ok) (judge m c ++ table_plan m c t),
        order-same c b t r,
      )
      (decide-both (Same m tail) (first_of (judge m c ++ table_plan m c t)) b t _ _
      (λ _. record { answer = refl; after = r })
      (λ h. does m good tail b t r c (judge-passes m c (first-append (judge m c) (table_plan m c t) h).0)))

  makes : (c : Command) (b : Bank) (t : Table) → Holds m tail b t → Same m tail (bank_makes count first last c b) (table_makes count first last c t)
  unfolding bank_makes table_makes
  makes (call c) b t r = one-call c b t r

  runs :
      (cs : List Command) (b : Bank) (t : Table)
      → Holds m tail b t
      → Alike (Holds m tail) (run (bank_makes count first last) cs b) (run (table_makes count first last) cs t)
  runs = run-alike (bank_makes count first last) (table_makes count first last) (Holds m tail) makes

-- a fresh bank and a fresh table
zeros-at : (n k : ℕ) (tail : List ℕ) → k < n → get_or (replicate n 0 ++ tail) k 0 ≡ 0
zeros-at n k tail l =
    get_or-append (replicate n 0) tail 0 k (rw (length-replicate {A = ℕ} n 0) l) ∙ get_or-replicate n k 0 0 l

cut-zero : (t w : ℕ) → cut 0 t w ≡ 0
cut-zero t w = ap (λ n. n % 2 ^ w) (zero-div (2 ^ t)) ∙ zero-mod (2 ^ w)

zero-number : (x : Bool) (w : ℕ) → from_bits x w 0 ≡ pos 0
unfolding from_bits
zero-number false w = refl
zero-number true w = rw (lt-ltb 0 (2 ^ (w - 1)) (pow_pos (w - 1)))

zero-holds : (m : Map) → GoodMap m → (tail : List ℕ) (n : ℕ) → n ≡ bank_size → Holds m tail (replicate n 0 ++ tail) fresh_table
unfolding number_in get_field
zero-holds m g tail n q =
    record {
      size = rw (length-append (replicate n 0) tail, length-replicate {A = ℕ} n 0) (omega arith);
      beyond = drop_at (replicate n 0) tail bank_size (length-replicate n 0 ∙ q);
      bytes = λ k l. rw (zeros-at n k tail (omega arith)) (omega arith);
      fields = λ s e p i f.
          rw
          (zeros-at n (field_at m s e p i) tail (omega (arith, in-bank m g f)), cut-zero (field_bit (entry m e) i) (width_of (entry m e)))
          (zero-number (signed_of (entry m e)) (width_of (entry m e)));
      apps = λ s i hs l u. zeros-at n (app_sel_at s i) tail (omega (arith, app-inside s i hs u));
      gaps = λ s k hs hk nc. zeros-at n (set_start s + k) tail (omega (arith, set-inside s k hs hk));
    }

-- what the relation shows
module _ (m : Map) (g : GoodMap m) (tail : List ℕ) (b : Bank) (t : Table) (r : Holds m tail b t) where
  other-bits :
      (s k q : ℕ)
      → HasBytes s
      → k < 256
      → q < 8
      → ((e p i : ℕ) → T (holds m s e p i) → ¬ (T (covers (entry m e) p i k q)))
      → T (covered m s k) ⊎ T (not (covered m s k))
      → bit_in b s k q ≡ 0
  other-bits s k q hs hk hq none (inr nc) = rw (r.gaps s k hs hk nc) (cut-zero q 1)
  other-bits s k q hs hk hq none (inl c) =
      let (e, h) = in-covered m s k c in
      let (p, i, f, x) = in-field m g h hs q hq in
      absurd (none e p i (field-holds f) x)

  shows : Shows m b t
  shows =
      record {
        fields = λ s e p i h. r.fields s e p i (holds-field m s e p i h);
        apps = r.apps;
        others = λ s k q hs hk hq none. other-bits s k q hs hk hq none (either (covered m s k));
      }

fresh-bank :
    (count : ℕ) (first last : List ℕ) (bank : Bank)
    → Accepted count first last
    → bank_size ≤ length bank
    → (fresh_call count first last bank).1 ≡ replicate bank_size 0 ++ drop bank_size bank
unfolding fresh_call fresh_bank
fresh-bank count first last bank ok size =
    rw (bank-order-open count first last (check9-passes count first last ok) (check_entries-passes count first last ok) (length bank) [] size) refl

pub lists-agree : Demand3
lists-agree count first last bank ok size calls =
    let m : Map = map_of count first last in
    let g : GoodMap m = map-good count first last ok in
    let r = runs count first last ok (drop bank_size bank) calls (fresh_call count first last bank).1 fresh_table (rw (fresh-bank count first last bank ok size) (zero-holds m g (drop bank_size bank) bank_size refl)) in
    record {
      answers = r.answer;
      shows = shows m g (drop bank_size bank) _ _ r.after;
      size = omega (arith, size, r.after.size, sym (length-drop bank_size (bank_run count first last bank calls).1) ∙ ap length r.after.beyond ∙ length-drop bank_size bank);
      beyond = r.after.beyond;
    }
