-- The laws of `bank_call` that a function's proof cites, one for each way out, in the order 9, 8, the checks of the entries, 10, 11, 12, then what is left.
use Rattle.std.specs.Prelude.{Err}
use mathlib.Core.Path.{◌≡◌, refl, sym, ap, ◌∙◌}
use mathlib.Core.Bool.{true, false}
use mathlib.Core.List.{List, ◌++◌}
use Prim.Native.Nat.{ℕ, ◌≤◌, ◌<◌}
use lib.ListN.{length}
use borrow.Author.Tests.{lt-ltb, le-ltb}
use Rattle.rules.specs.Words.{Refusal, plain, Call}
use Rattle.rules.specs.Load.{Map, sized, strings_of, map_of, read_of}
use Rattle.rules.specs.Layout.{bank_size}
use Rattle.rules.specs.Refuse.{Verdict, passes, refuses, first_of, check9, check8, check_entries, order_of, bank_order, exists, misdirected, unaccepted, judge}
use Rattle.rules.specs.Bank.{Bank, bank_plan, bank_does, bank_call}

-- judge, and what follows it
module _ (m : Map) (c : Call) (rest : List Verdict) where
  pub judge-10 : exists m c ≡ false → first_of (judge m c ++ rest) ≡ refuses (plain 10)
  unfolding judge
  judge-10 h = rw h

  pub judge-11 : exists m c ≡ true → misdirected m c ≡ true → first_of (judge m c ++ rest) ≡ refuses (plain 11)
  unfolding judge
  judge-11 h k = rw (h, k)

  pub judge-12 : exists m c ≡ true → misdirected m c ≡ false → unaccepted m c ≡ true → first_of (judge m c ++ rest) ≡ refuses (plain 12)
  unfolding judge
  judge-12 h k l = rw (h, k, l)

  pub judge-ok : exists m c ≡ true → misdirected m c ≡ false → unaccepted m c ≡ false → first_of (judge m c ++ rest) ≡ first_of rest
  unfolding judge
  judge-ok h k l = rw (h, k, l)

-- the order with and without a bank
module _ (count : ℕ) (first last : List ℕ) (rest : List Verdict) where
  pub order-9 : sized count first last ≡ false → order_of (read_of count first last) rest ≡ refuses (plain 9)
  unfolding order_of check9
  order-9 h = rw h

  pub order-entries : sized count first last ≡ true → (r : Refusal) → strings_of count first last ≡ Err r → order_of (read_of count first last) rest ≡ refuses r
  unfolding order_of check9 check_entries
  order-entries h r k = rw (h, k)

  pub bank-order-9 : (size : ℕ) → sized count first last ≡ false → bank_order (read_of count first last) size rest ≡ refuses (plain 9)
  unfolding bank_order check9
  bank-order-9 size h = rw h

  pub bank-order-8 : (size : ℕ) → sized count first last ≡ true → size < bank_size → bank_order (read_of count first last) size rest ≡ refuses (plain 8)
  unfolding bank_order check9 check8
  bank-order-8 size h l = rw (h, lt-ltb size bank_size l)

  pub bank-order-entries :
      (size : ℕ)
      → sized count first last ≡ true
      → bank_size ≤ size
      → (r : Refusal)
      → strings_of count first last ≡ Err r
      → bank_order (read_of count first last) size rest ≡ refuses r
  unfolding bank_order check9 check8 check_entries
  bank-order-entries size h l r k = rw (h, le-ltb size bank_size l, k)

-- a bank call, from its verdict
module _ (count : ℕ) (first last : List ℕ) (c : Call) (b : Bank) where
  abbrev order : Verdict
  order = bank_order (read_of count first last) (length b) (judge (map_of count first last) c ++ bank_plan (map_of count first last) c b)

  pub call-refused : (r : Refusal) → order ≡ refuses r → bank_call count first last c b ≡ (Err r, b)
  unfolding bank_call
  call-refused r h = rw h refl

  pub call-does : order ≡ passes → bank_call count first last c b ≡ bank_does (map_of count first last) c b
  unfolding bank_call
  call-does h = rw h refl

-- what a contract asks, from the outcome that a law gives
pub meets : {A B : Type 0} {x : A × B} {r r' : A} {b b' : B} → x ≡ (r', b') → r ≡ r' → b ≡ b' → (r ≡ x.0) × (b ≡ x.1)
meets e p q = (p ∙ sym (ap (λ x. x.0) e), q ∙ sym (ap (λ x. x.1) e))
