-- NOTE 2, as it is said: after every list of calls, owner at the address that place gives a field tells that field, and read gives the
-- number that the plain table holds.
use mathlib.Core.Path.{◌≡◌, refl, ap, ◌∙◌}
use mathlib.Core.List.{List, append-nil}
use Prim.Native.Nat.{ℕ, suc, ◌≤◌}
use native.Mathlib.Omega.{arith}
use lib.ListN.{length}
use Rattle.rules.specs.Words.{read, the_field, number}
use Rattle.rules.specs.Load.{map_of}
use Rattle.rules.specs.Place.{Field}
use Rattle.rules.specs.Layout.{bank_size}
use Rattle.rules.specs.Refuse.{judge}
use Rattle.rules.specs.Bank.{Bank, number_in, bank_plan, bank_does, bank_call}
use Rattle.rules.specs.Machine.{Command}
use Rattle.rules.specs.Demands.{Accepted, FreshAccepted, ListAgrees, bank_run}
use Rattle.rules.specs.Notes.{Told}
use Rattle.rules.proofs.Load.Walks.{map-good, check9-passes, check_entries-passes}
use Rattle.rules.proofs.Place.Fields.{field-holds}
use Rattle.rules.proofs.Place.PlaceOwner.{field-reads, placed-field}
use Rattle.rules.proofs.Place.AddressOwner.{at-addresses}
use Rattle.rules.proofs.Refusals.Verdicts.{bank-order-open}
use Rattle.rules.proofs.Lists.Lists.{lists-agree}
use Rattle.rules.proofs.Lists.Fresh.{fresh-accepts, fresh-sized}

-- read of a field that a set holds
read-number :
    (count : ℕ) (first last : List ℕ) (b : Bank) (s e p i : ℕ)
    → Accepted count first last
    → bank_size ≤ length b
    → Field (map_of count first last) s e p i
    → (bank_call count first last (read s (the_field e p i)) b).0 ≡ number (number_in (map_of count first last) b s e p i)
unfolding bank_call bank_plan bank_does
read-number count first last b s e p i ok size f =
    rw (
      append-nil (judge (map_of count first last) (read s (the_field e p i))),
      bank-order-open count first last (check9-passes count first last ok) (check_entries-passes count first last ok) (length b) (judge (map_of count first last) (read s (the_field e p i))) size,
      field-reads (map_of count first last) (map-good count first last ok) f,
    )
    refl

pub told-after-fresh : (count : ℕ) (rw ro bank : List ℕ) → FreshAccepted count rw ro bank → (calls : List Command) → Told count rw ro bank calls
told-after-fresh count first last bank h calls =
    record {
      field = λ s e p i k page byte bit x.
          let f : Field (map_of count first last) s e p i = placed-field count first last ok s e p i k page byte bit x in (
            λ q n low top.
                ((at-addresses count first last ok).owner-is s page byte q e p i (suc e)).1
                (record { offset = k; bit = bit; at = x; some = n; low = low; top = top }, refl),
            read-number count first last (bank_run count first last bank calls).1 s e p i ok (omega (arith, agrees.size, fresh-sized count first last bank h)) f
                ∙ ap number (agrees.shows.fields s e p i (field-holds f)),
          );
    }
  where
    ok : Accepted count first last
    ok = fresh-accepts count first last bank h

    agrees : ListAgrees count first last bank calls
    agrees = lists-agree count first last bank ok (fresh-sized count first last bank h) calls
