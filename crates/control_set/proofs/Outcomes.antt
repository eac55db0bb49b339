-- The ways out of a call on a bank, from what the gate says and from the rules' tests of its arguments.
use Rattle.std.specs.Prelude.{Result, Ok, Err}
use mathlib.Core.Path.{◌≡◌, refl, sym, ◌∙◌}
use mathlib.Core.Bool.{true, false}
use mathlib.Core.List.{List, [], ◌++◌}
use Prim.Native.Nat.{ℕ, ◌≤◌}
use lib.ListN.{length}
use Rattle.rules.specs.Words.{accepted}
use Rattle.rules.specs.declared.Refusal.{Refusal}
use Rattle.rules.specs.declared.Refusal.TheVariants.{Plain as plain}
use Rattle.rules.specs.declared.Call.{Call}
use Rattle.rules.specs.declared.Field.{Field}
use Rattle.rules.specs.declared.Answer.{Answer}
use Rattle.rules.specs.declared.Loaded.{Loaded}
use Rattle.rules.specs.Layout.{bank_size}
use Rattle.rules.specs.Load.{sized, load_of, Map, map_of, map_within, read_of}
use Rattle.rules.specs.Refuse.{Verdict, passes, refuses, first_of, decide, bank_order, exists, misdirected, unaccepted, judge}
use Rattle.rules.specs.Bank.{Bank, bank_plan, bank_does, bank_call, fresh_bank, fresh_call}
use Rattle.rules.specs.Demands.{Accepted}
use Rattle.rules.proofs.Load.Walks.{map-good}
use Rattle.rules.proofs.Refusals.Orders.{bank-order-refused, bank-order-accepted}
use Rattle.rules.proofs.Refusals.CallOrder.{meets, judge-10, judge-11, judge-12, judge-ok, call-refused, call-does}
use Rattle.control_set.specs.Gate.{Opened, Gated}

-- what the two clauses of a call ask, from the outcome that a law gives
pub answered : {A B : Type 0} {x : A × B} {r r' : A} {b b' : B} → x ≡ (r', b') → r ≡ r' → b ≡ b' → record { answer : r ≡ x.0; after : b ≡ x.1 }
answered e p q = let (l, k) = meets e p q in record { answer = l; after = k }

-- past 9 and 8 the load gives what the gate gives
pub gated : (count : ℕ) (first last : List ℕ) (size : ℕ) (l : Result Loaded Refusal)
    → sized count first last ≡ true → bank_size ≤ size → l ≡ load_of count first last → Gated count first last size l
gated count first last size (Ok l) z h q = record { size-is = h; loads = sym q }
gated count first last size (Err r) z h q = λ rest. bank-order-refused count first last r z (sym q) size rest h

-- an accepted load has a count of at most 15
pub count-top : (count : ℕ) (first last : List ℕ) {n k s t : ℕ} → load_of count first last ≡ accepted n k s t → count ≤ 15
unfolding map_within
count-top count first last {n} {k} {s} {t} h = (map-good count first last (record { rw_count = n; ro_count = k; staged = s; active = t; loads = h })).count

module _ (count : ℕ) (first last : List ℕ) (c : Call) (b : Bank) where
  abbrev m : Map
  m = map_of count first last

  -- 9, 8 and the checks of the entries
  pub call-shut : (r : Refusal) → ((rest : List Verdict) → bank_order (read_of count first last) (length b) rest ≡ refuses r) → bank_call count first last c b ≡ (Err r, b)
  call-shut r h = call-refused count first last c b r (h (judge m c ++ bank_plan m c b))

  module _ {n k s t : ℕ} (o : Opened count first last (length b) n k s t) where
    pub opened-accepted : Accepted count first last
    opened-accepted = record { rw_count = n; ro_count = k; staged = s; active = t; loads = o.loads }

    order : bank_order (read_of count first last) (length b) (judge m c ++ bank_plan m c b) ≡ first_of (judge m c ++ bank_plan m c b)
    order = bank-order-accepted count first last opened-accepted (length b) (judge m c ++ bank_plan m c b) o.size-is

    pub call-10 : exists m c ≡ false → bank_call count first last c b ≡ (Err (plain 10), b)
    call-10 h = call-refused count first last c b (plain 10) (order ∙ judge-10 m c (bank_plan m c b) h)

    module _ (h : exists m c ≡ true) where
      pub call-11 : misdirected m c ≡ true → bank_call count first last c b ≡ (Err (plain 11), b)
      call-11 l = call-refused count first last c b (plain 11) (order ∙ judge-11 m c (bank_plan m c b) h l)

      module _ (l : misdirected m c ≡ false) where
        pub call-12 : unaccepted m c ≡ true → bank_call count first last c b ≡ (Err (plain 12), b)
        call-12 u = call-refused count first last c b (plain 12) (order ∙ judge-12 m c (bank_plan m c b) h l u)

        pub call-done : unaccepted m c ≡ false → first_of (bank_plan m c b) ≡ passes → bank_call count first last c b ≡ bank_does m c b
        call-done u q = call-does count first last c b (order ∙ judge-ok m c (bank_plan m c b) h l u ∙ q)

-- a call that reads leaves the bank
module _ (count : ℕ) (first last : List ℕ) (b : Bank) where
  decided : (v : Verdict) (a : Result Answer Refusal) → b ≡ (decide v b (a, b)).1
  decided passes a = refl
  decided (refuses r) a = refl

  kept : (c : Call) (a : Result Answer Refusal) → bank_does (map_of count first last) c b ≡ (a, b) → b ≡ (bank_call count first last c b).1
  unfolding bank_call
  kept c a h = rw h (decided (bank_order (read_of count first last) (length b) (judge (map_of count first last) c ++ bank_plan (map_of count first last) c b)) a)

  pub read-keeps : (s : ℕ) (f : Field) → b ≡ (bank_call count first last (Call.Read s f) b).1
  unfolding bank_does
  read-keeps s f = kept (Call.Read s f) _ refl

  pub byte-read-keeps : (s k : ℕ) → b ≡ (bank_call count first last (Call.ByteRead s k) b).1
  unfolding bank_does
  byte-read-keeps s k = kept (Call.ByteRead s k) _ refl

-- fresh
module _ (count : ℕ) (first last : List ℕ) (b : Bank) where
  pub fresh-shut : (r : Refusal) → ((rest : List Verdict) → bank_order (read_of count first last) (length b) rest ≡ refuses r) → fresh_call count first last b ≡ (Err r, b)
  unfolding fresh_call
  fresh-shut r h = rw (h []) refl

  pub fresh-open : {n k s t : ℕ} → Opened count first last (length b) n k s t → fresh_call count first last b ≡ (accepted n k s t, fresh_bank b)
  unfolding fresh_call load_of
  fresh-open {n} {k} {s} {t} o =
      rw (
        bank-order-accepted count first last (record { rw_count = n; ro_count = k; staged = s; active = t; loads = o.loads }) (length b) [] o.size-is,
        o.loads,
      )
      refl
