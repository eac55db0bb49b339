-- Each call's refusals, against the rules of 01: a call answers a refusal exactly if its order gives it.
use Rattle.std.specs.Prelude.{Result, Err, Ok}
use mathlib.Core.Path.{◌≡◌, refl, sym, ◌∙◌}
use mathlib.Core.Logic.Iff
use mathlib.Core.Logic.{◌↔◌}
use mathlib.Core.Bool.{Bool, true, false, not, cond}
use mathlib.Core.List.{List, [], ◌∷◌, ◌++◌}
use Prim.Native.Nat.{ℕ, ◌<◌}
use native.Mathlib.Omega.{arith}
use lib.IntN.{ℤ}
use lib.ListN.{length}
use lib.Dec.{T, ltb, eqb, ltb→lt, lt→ltb}
use Rattle.rules.specs.Words.{Refusal, plain, Loaded, Call, select, write, read, byte_write, byte_read, publish, apply, the_field, says_yes, number}
use Rattle.rules.specs.Load.{sized, strings_of, load_of, Map, map_of, read_of}
use Rattle.rules.specs.Place.{entry, is_set, is_lane, length_of, field_byte, field_bit, Owner, field, gap, owner_of}
use Rattle.rules.specs.Accept.{weight_of}
use Rattle.rules.specs.Refuse.{Verdict, passes, refuses, refuse_if, first_of, decide, check9, refusal_of, check_entries, order_of}
use Rattle.rules.specs.Bank.{Bank, number_in, bank_does, bank_call, freshened, fresh_call}
use Rattle.rules.specs.Address.{addresses, offset_of}
use Rattle.rules.specs.Beside.{placed_in, placed, place_of, looked_at, owned_as, owned, is_bit, owner_call, is_bit_at, owner_at_call, answered, entry_verdict, entry_answer, is_weighed, weight_call}
use Rattle.rules.specs.Conditions.{Rule, gives, First, Lane, plan_rules, call_rules, string_rules, bank_rules}
use Rattle.rules.specs.Demands.{Accepted, InSet}
use Rattle.rules.proofs.Basics.Facts.{lt-says, eq-says, and-says₃}
use Rattle.rules.proofs.Basics.Tests.{and₄, both-true}
use Rattle.rules.proofs.Place.Addresses.{gives-set, given-short, given-offset, offset-given}
use Rattle.rules.proofs.Refusals.Firsts.{Says, none, also, all-append, refuse-not-says}
use Rattle.rules.proofs.Refusals.Orders.{bank-order-passes}
use Rattle.rules.proofs.Refusals.OrderRules.{lane-says, judge-says, refusal-of, order-says, bank-says}
use Rattle.rules.proofs.Refusals.PlanRules.{plan-says}
use Rattle.rules.proofs.Basics.Results.{err-same}

-- an answer that is the verdict's refusal, or no refusal
module _ {Z : Type 0} (bad : Refusal → Z) (same : (x y : Refusal) → bad x ≡ bad y → x ≡ y) (out : Verdict → Z)
    (hands : (r : Refusal) → out (refuses r) ≡ bad r) where
  pub answer-says :
      {rule : Rule Refusal} (v : Verdict)
      → Says v rule
      → (v ≡ passes → (x : Refusal) → ¬ (out passes ≡ bad x))
      → (x : Refusal)
      → (out v ≡ bad x) ↔ rule x
  answer-says {rule} v s accepting x = Iff.trans (go v accepting) (s x)
    where
      go : (w : Verdict) → (w ≡ passes → (y : Refusal) → ¬ (out passes ≡ bad y)) → (out w ≡ bad x) ↔ (w ≡ refuses x)
      go passes n = (λ h. absurd (n refl x h), λ h. let o : ◌≡◌ {A = ℕ} 0 1 = cc in absurd (omega arith))
      go (refuses r) n =
          (λ h. let e : r ≡ x = same r x (sym (hands r) ∙ h) in rw e refl, λ h. let e : r ≡ x = cc in hands r ∙ rw e refl)

-- what an accepted call answers is no refusal
yes-answers : (x : Refusal) → ¬ (says_yes ≡ Err x)
yes-answers x h = let o : ◌≡◌ {A = ℕ} 0 1 = cc in omega arith

number-answers : (n : ℤ) (x : Refusal) → ¬ (number n ≡ Err x)
number-answers n x h = let o : ◌≡◌ {A = ℕ} 0 1 = cc in omega arith

pub does-answers : (m : Map) (c : Call) (b : Bank) (x : Refusal) → ¬ ((bank_does m c b).0 ≡ Err x)
unfolding bank_does
does-answers m (select s i a) b x = yes-answers x
does-answers m (write s f v) b x = yes-answers x
does-answers m (read s f) b x = number-answers _ x
does-answers m (byte_write s k v) b x = yes-answers x
does-answers m (byte_read s k) b x = number-answers _ x
does-answers m (publish f v) b x = yes-answers x
does-answers m (apply s lanes) b x = yes-answers x

-- the owner of a bit is a field or a gap
owner-answers : (n : ℕ) (o : Owner) (x : Refusal) → ¬ (owned_as n o ≡ Err x)
owner-answers n (field e p i) x h = let o : ◌≡◌ {A = ℕ} 0 1 = cc in omega arith
owner-answers n gap x h = let o : ◌≡◌ {A = ℕ} 0 1 = cc in omega arith

module _ (count : ℕ) (first last : List ℕ) where
  abbrev m : Map
  m = map_of count first last

  -- the calls that take no bank
  load-order : refusal_of (load_of count first last) ≡ order_of (read_of count first last) []
  unfolding load_of order_of check9 check_entries
  load-order = go (sized count first last) (strings_of count first last)
    where
      go : (t : Bool) (l : Result Loaded Refusal) → refusal_of (cond t l (Err (plain 9))) ≡ first_of (refuse_if (not t) (plain 9) ∷ refusal_of l ∷ [])
      go true (Ok l) = refl
      go true (Err r) = refl
      go false l = refl

  pub load-says : (x : Refusal) → (load_of count first last ≡ Err x) ↔ First (string_rules count first last []) x
  load-says x =
      Iff.trans (Iff.symm (refusal-of (load_of count first last) x)) (rw load-order (order-says count first last none x))

  pub accepted-loads : Accepted count first last → (x : Refusal) → ¬ (load_of count first last ≡ Err x)
  accepted-loads a x h = let o : ◌≡◌ {A = ℕ} 0 1 = cc in omega arith

  pub place-says :
      (s e p i : ℕ) (x : Refusal)
      → (place_of count first last s e p i ≡ Err x)
      ↔ First (string_rules count first last (call_rules m (read s (the_field e p i)))) x
  unfolding place_of
  place-says s e p i =
      answer-says Err (λ x y h. cc) (λ v. placed v (placed_in s (field_byte (entry m e) p i) (field_bit (entry m e) i))) (λ r. refl) _
      (order-says count first last (judge-says m (read s (the_field e p i))))
      (λ _ x h. let o : ◌≡◌ {A = ℕ} 0 1 = cc in omega arith)

  pub owner-says :
      (s k q : ℕ) (x : Refusal)
      → (owner_call count first last s k q ≡ Err x)
      ↔ First (string_rules count first last (gives (plain 10) (¬ ((s < 3) × (k < length_of m s) × (q < 8))) ∷ [])) x
  unfolding owner_call
  owner-says s k q =
      answer-says Err (λ x y h. cc) (λ v. owned v (owned_as (looked_at m k) (owner_of m s k q))) (λ r. refl) _
      (order-says count first last (also (refuse-not-says (is_bit m s k q) (plain 10) bit) none))
      (λ _. owner-answers (looked_at m k) (owner_of m s k q))
    where
      bit : T (is_bit m s k q) ↔ ((s < 3) × (k < length_of m s) × (q < 8))
      bit = and-says₃ (is_set s) (ltb k (length_of m s)) (ltb q 8) (lt-says s 3) (lt-says k _) (lt-says q 8)

  pub owner-at-says :
      (s page byte q : ℕ) (x : Refusal)
      → (owner_at_call count first last s page byte q ≡ Err x)
      ↔ First (string_rules count first last (gives (plain 10) (¬ (InSet m s page byte × (q < 8))) ∷ [])) x
  unfolding owner_at_call
  owner-at-says s page byte q =
      answer-says Err (λ x y h. cc) (λ v. owned v (owned_as (looked_at m k) (owner_of m s k q))) (λ r. refl) _
      (order-says count first last (also (refuse-not-says (is_bit_at m s page byte q) (plain 10) bit) none))
      (λ _. owner-answers (looked_at m k) (owner_of m s k q))
    where
      k : ℕ
      k = offset_of s page byte

      bit : T (is_bit_at m s page byte q) ↔ (InSet m s page byte × (q < 8))
      bit = (
        λ t.
            let (a, b, c, d) = and₄ (ltb k (length (addresses s))) (is_set s) (ltb k (length_of m s)) (ltb q 8) t in
            (record { offset = k; given = offset-given s page byte (ltb→lt _ _ b) (ltb→lt _ _ a); short = ltb→lt _ _ c }, ltb→lt _ _ d),
        λ z.
            let h = z.0.given in
            let e : k ≡ z.0.offset = given-offset s z.0.offset page byte h in
            let within : k < length (addresses s) = omega (arith, given-short s z.0.offset page byte h) in
            let short : k < length_of m s = omega (arith, z.0.short) in
            both-true (ltb k (length (addresses s))) _ (lt→ltb _ _ within)
            (both-true (is_set s) _ (lt→ltb _ _ (gives-set s z.0.offset page byte h))
            (both-true (ltb k (length_of m s)) _ (lt→ltb _ _ short) (lt→ltb _ _ z.1))),
      )

  pub own-entry-says :
      (e : ℕ) (x : Refusal)
      → (entry_answer count first last e ≡ Err x)
      ↔ First (string_rules count first last (gives (plain 10) (¬ (e < length m.entries)) ∷ [])) x
  unfolding entry_answer entry_verdict
  own-entry-says e =
      answer-says Err err-same (λ v. answered v says_yes) (λ r. refl) _
      (order-says count first last (also (refuse-not-says (ltb e (length m.entries)) (plain 10) (lt-says e _)) none))
      (λ _. yes-answers)

  -- the calls that take a bank
  module _ (b : Bank) where
    pub weight-says :
        (e i : ℕ) (x : Refusal)
        → (weight_call count first last b e i ≡ Err x)
        ↔ First
        (bank_rules count first last b
        (gives (plain 10) (¬ ((e < length m.entries) × ((entry m e).id ≡ 0x12) × Lane i)) ∷ []))
        x
    unfolding weight_call
    weight-says e i =
        answer-says Err err-same (λ v. answered v (number (weight_of (entry m e).step (number_in m b 2 e 0 i)))) (λ r. refl) _
        (bank-says count first last (also (refuse-not-says (is_weighed m e i) (plain 10) weighed) none) b)
        (λ _. number-answers _)
      where
        weighed : T (is_weighed m e i) ↔ ((e < length m.entries) × ((entry m e).id ≡ 0x12) × Lane i)
        weighed =
            and-says₃ (ltb e (length m.entries)) (eqb (entry m e).id 0x12) (is_lane i) (lt-says e _) (eq-says _ 0x12) (lane-says i)

    pub call-says :
        (c : Call) (x : Refusal)
        → ((bank_call count first last c b).0 ≡ Err x)
        ↔ First (bank_rules count first last b (call_rules m c ++ plan_rules m c b)) x
    unfolding bank_call
    call-says c =
        answer-says Err err-same (λ v. (decide v b (bank_does m c b)).0) (λ r. refl) _
        (bank-says count first last (all-append (judge-says m c) (plan-says m c b)) b)
        (λ _. does-answers m c b)

    pub fresh-says : (x : Refusal) → ((fresh_call count first last b).0 ≡ Err x) ↔ First (bank_rules count first last b []) x
    unfolding fresh_call load_of
    fresh-says =
        answer-says Err (λ x y h. cc) (λ v. (freshened v (load_of count first last) b).0) (λ r. refl) _
        (bank-says count first last none b)
        (λ p. accepted-loads (bank-order-passes count first last (length b) [] p).0)
