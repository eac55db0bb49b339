-- An order of checks that passes: each of its checks passes, so the load accepts the strings and the bank has its size.
use Rattle.std.specs.Prelude.{Result, Err, Ok}
use mathlib.Core.Path.{◌≡◌, refl, sym, ◌∙◌}
use mathlib.Core.Bool.{Bool, true, false, cond}
use mathlib.Core.List.{List, [], ◌∷◌}
use Prim.Native.Nat.{ℕ, ◌≤◌}
use lib.Dec.{ltb}
use native.Mathlib.Omega.{arith}
use borrow.Author.Tests.{not-false, ltb-false}
use Rattle.rules.specs.Words.{Refusal, plain, Loaded}
use Rattle.rules.specs.Load.{sized, strings_of, load_of, read_of}
use Rattle.rules.specs.Refuse.{Verdict, passes, refuses, first_of, check9, check8, refusal_of, check_entries, order_of, bank_order}
use Rattle.rules.specs.Layout.{bank_size}
use Rattle.rules.specs.Demands.{Accepted}
use Rattle.rules.proofs.Refusals.Verdicts.{refuse-if-passes, first-passes, first-same, order-open, bank-order-open}
use Rattle.rules.proofs.Load.Walks.{check9-passes, check_entries-passes}
use Rattle.rules.proofs.Refusals.CallOrder.{order-9, order-entries, bank-order-entries}
use Rattle.rules.proofs.Load.Loads.{load-strings}

module _ (count : ℕ) (first last : List ℕ) where
  checks-accepted : check9 (read_of count first last) ≡ passes → check_entries (read_of count first last) ≡ passes → Accepted count first last
  unfolding check9 check_entries
  checks-accepted h k = go (strings_of count first last) refl k
    where
      big : sized count first last ≡ true
      big = not-false _ (refuse-if-passes _ _ h)

      go : (x : Result Loaded Refusal) → strings_of count first last ≡ x → refusal_of x ≡ passes → Accepted count first last
      go (Ok l) q y = record { rw_count = l.rw_count; ro_count = l.ro_count; staged = l.staged_length; active = l.active_length; loads = load-strings count first last big ∙ q }
      go (Err r) q y = let o : ◌≡◌ {A = ℕ} 0 1 = cc in absurd (omega arith)

  pub order-passes : (rest : List Verdict) → order_of (read_of count first last) rest ≡ passes → Accepted count first last × (first_of rest ≡ passes)
  unfolding order_of
  order-passes rest h =
      let p = first-passes (check9 (read_of count first last)) (check_entries (read_of count first last) ∷ rest) h in
      let q = first-passes (check_entries (read_of count first last)) rest p.1 in
      (checks-accepted p.0 q.0, q.1)

  pub bank-order-passes :
      (size : ℕ) (rest : List Verdict)
      → bank_order (read_of count first last) size rest ≡ passes
      → Accepted count first last × (bank_size ≤ size) × (first_of rest ≡ passes)
  unfolding bank_order check8
  bank-order-passes size rest h =
      let p = first-passes (check9 (read_of count first last)) (check8 size ∷ check_entries (read_of count first last) ∷ rest) h in
      let q = first-passes (check8 size) (check_entries (read_of count first last) ∷ rest) p.1 in
      let r = first-passes (check_entries (read_of count first last)) rest q.1 in
      let small = refuse-if-passes (ltb size bank_size) _ q.0 in
      (checks-accepted p.0 r.0, omega (arith, ltb-false), r.1)

  -- what follows the checks of the entries counts only where they and 9 and 8 pass
  pub bank-order-same :
      (size : ℕ) (rest rest' : List Verdict)
      → (Accepted count first last → bank_size ≤ size → first_of rest ≡ first_of rest')
      → bank_order (read_of count first last) size rest ≡ bank_order (read_of count first last) size rest'
  unfolding bank_order
  bank-order-same size rest rest' h =
      first-same (check9 (read_of count first last) ∷ check8 size ∷ check_entries (read_of count first last) ∷ []) rest rest'
      (λ p. let (a, z, r) = bank-order-passes size [] p in h a z)

  -- the order of a call without a bank, from what the load says
  pub order-refused : (r : Refusal) → load_of count first last ≡ Err r → (rest : List Verdict) → order_of (read_of count first last) rest ≡ refuses r
  unfolding load_of
  order-refused r h rest = go (sized count first last) refl h
    where
      go : (t : Bool) → sized count first last ≡ t → cond t (strings_of count first last) (Err (plain 9)) ≡ Err r → order_of (read_of count first last) rest ≡ refuses r
      go true q x = order-entries count first last rest q r x
      go false q x = let e : plain 9 ≡ r = cc in rw (← e) (order-9 count first last rest q)

  pub order-accepted : Accepted count first last → (rest : List Verdict) → order_of (read_of count first last) rest ≡ first_of rest
  order-accepted ok rest = order-open count first last (check9-passes count first last ok) (check_entries-passes count first last ok) rest

  -- the order of a call with a bank that is long enough, from what the load says
  pub bank-order-refused :
      (r : Refusal)
      → sized count first last ≡ true
      → load_of count first last ≡ Err r
      → (size : ℕ) (rest : List Verdict)
      → bank_size ≤ size
      → bank_order (read_of count first last) size rest ≡ refuses r
  bank-order-refused r h q size rest l = bank-order-entries count first last rest size h l r (sym (load-strings count first last h) ∙ q)

  pub bank-order-accepted : Accepted count first last → (size : ℕ) (rest : List Verdict) → bank_size ≤ size → bank_order (read_of count first last) size rest ≡ first_of rest
  bank-order-accepted ok size rest l = bank-order-open count first last (check9-passes count first last ok) (check_entries-passes count first last ok) size rest l
