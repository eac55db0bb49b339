-- A fresh is accepted exactly when the load is and the bank has its size.
use Rattle.std.specs.Prelude.{Result}
use mathlib.Core.Path.{◌≡◌, refl}
use mathlib.Core.List.{List, []}
use Prim.Native.Nat.{ℕ, ◌≤◌}
use native.Mathlib.Omega.{arith}
use lib.ListN.{length}
use Rattle.rules.specs.Words.{Loaded, accepted, Refusal}
use Rattle.rules.specs.Load.{load_of, read_of}
use Rattle.rules.specs.Layout.{bank_size}
use Rattle.rules.specs.Refuse.{Verdict, passes, refuses, bank_order}
use Rattle.rules.specs.Bank.{Bank, freshened, fresh_call}
use Rattle.rules.specs.Demands.{Accepted, FreshAccepted, Demand3-after-fresh}
use Rattle.rules.proofs.Refusals.Orders.{bank-order-passes}
use Rattle.rules.proofs.Lists.Lists.{lists-agree}

-- a fresh that is accepted passed 9, 8 and the checks of the entries
record Through (v : Verdict) (answer : Result Loaded Refusal) (n k c d : ℕ) : Type 0 where
  passed : v ≡ passes
  answers : answer ≡ accepted n k c d

through : (v : Verdict) (answer : Result Loaded Refusal) (b : Bank) (n k c d : ℕ) → (freshened v answer b).0 ≡ accepted n k c d → Through v answer n k c d
through passes answer b n k c d h = record { passed = refl; answers = h }
through (refuses r) answer b n k c d h = let o : ◌≡◌ {A = ℕ} 0 1 = cc in absurd (omega arith)

module _ (count : ℕ) (first last : List ℕ) (bank : Bank) (h : FreshAccepted count first last bank) where
  whole : Through (bank_order (read_of count first last) (length bank) []) (load_of count first last) h.rw_count h.ro_count h.staged h.active
  unfolding fresh_call load_of
  whole = through (bank_order (read_of count first last) (length bank) []) (load_of count first last) bank h.rw_count h.ro_count h.staged h.active h.fresh

  pub fresh-accepts : Accepted count first last
  fresh-accepts = record { rw_count = h.rw_count; ro_count = h.ro_count; staged = h.staged; active = h.active; loads = whole.answers }

  pub fresh-sized : bank_size ≤ length bank
  fresh-sized = (bank-order-passes count first last (length bank) [] whole.passed).1

pub lists-agree-after-fresh : Demand3-after-fresh
lists-agree-after-fresh count first last bank h calls =
    lists-agree count first last bank (fresh-accepts count first last bank h) (fresh-sized count first last bank h) calls
