-- The reader against the rules of 01: the refusals that it gives, where it gives the end, and where it moves.
use Rattle.std.specs.Prelude.{Option, Result, Ok, Err}
use mathlib.Core.Path.{◌≡◌, refl, ap, sym}
use mathlib.Core.Logic.Iff
use mathlib.Core.Logic.{◌↔◌}
use mathlib.Core.Bool.{Bool, true, false, ◌&&◌, not, cond}
use mathlib.Core.List.{List, [], ◌∷◌}
use Prim.Native.Nat.{ℕ, ◌+◌, ◌-◌, ◌≤◌}
use native.Mathlib.Omega.{arith}
use lib.ListN.{length}
use lib.Dec.{T, ltb, eqb}
use Rattle.rules.specs.Words.{Refusal, plain, Entry, Taken, taken, no_more}
use Rattle.rules.specs.Parameter.{row_of}
use Rattle.rules.specs.Descriptor.{mask_bytes, entry_at, overruns, refuse, length_checks}
use Rattle.rules.specs.Load.{sized}
use Rattle.rules.specs.Refuse.{Verdict, passes, refuses, refuse_if, first_of}
use Rattle.rules.specs.Reader.{taken_of, take_of, moved_to}
use Rattle.rules.specs.Conditions.{First, ReaderSized, reader_rules}
use Rattle.rules.proofs.Basics.Facts.{lt-says, eq-says, or-says, and-says}
use Rattle.rules.proofs.Table.Columns.{least-says}
use Rattle.rules.proofs.Refusals.Firsts.{Says, none, also, first-says, refuse-says, refuse-not-says}
use Rattle.rules.proofs.Refusals.OrderRules.{not-lt-says, sized-says}
use Rattle.rules.proofs.Refusals.Refused.{answer-says}
use Rattle.rules.proofs.Basics.Results.{taken-same}

-- the reader as an order of checks: what it gives for a verdict
abbrev given : Bool → Entry → Verdict → Result (Option Taken) Refusal
given more e passes = cond more (taken e.start e.length) no_more
given more e (refuses x) = Err x

given-accepts : (more : Bool) (e : Entry) (x : Refusal) → ¬ (given more e passes ≡ Err x)
given-accepts true e x h = let o : ◌≡◌ {A = ℕ} 0 1 = cc in omega arith
given-accepts false e x h = let o : ◌≡◌ {A = ℕ} 0 1 = cc in omega arith

module _ (count : ℕ) (s : List ℕ) (position : ℕ) where
  abbrev e : Entry
  e = entry_at (mask_bytes count) s position 0

  abbrev left : ℕ
  left = length s - position

  abbrev more : Bool
  more = ltb position (length s)

  abbrev short : Bool
  short = ltb e.length ((row_of e.id).least + mask_bytes count)

  abbrev order : Verdict
  order =
      first_of
      (refuse_if (not (sized count s [])) (plain 9)
      ∷ refuse_if (more && overruns left e) (plain 1)
      ∷ refuse_if (more && short) (plain 2)
      ∷ [])

  take-order : take_of count s position ≡ given more e order
  unfolding take_of length_checks refuse
  take-order = go (sized count s []) more (overruns left e) short
    where
      go : (z m o b : Bool) → cond z (cond m (taken_of (refuse o 1 (refuse b 2 (Ok e)))) no_more) (Err (plain 9))
          ≡ given m e (first_of (refuse_if (not z) (plain 9) ∷ refuse_if (m && o) (plain 1) ∷ refuse_if (m && b) (plain 2) ∷ []))
      go false m o b = refl
      go true false o b = refl
      go true true true b = refl
      go true true false true = refl
      go true true false false = refl

  one-says : T (sized count s []) ↔ ReaderSized count s
  one-says = Iff.trans (sized-says count s []) (λ h. (h.0, h.1, h.2), λ h. (h.0, h.1, h.2, omega arith))

  order-says : Says order (First (reader_rules count s position))
  order-says =
      first-says
      (also (refuse-not-says (sized count s []) (plain 9) one-says)
      (also
      (refuse-says (more && overruns left e) (plain 1)
      (and-says more (overruns left e) (lt-says _ _) (or-says (eqb left 1) (ltb left e.length) (eq-says _ _) (lt-says _ _))))
      (also (refuse-says (more && short) (plain 2) (and-says more short (lt-says _ _) (least-says e.id (mask_bytes count) e.length))) none)))

  pub take-says : (x : Refusal) → (take_of count s position ≡ Err x) ↔ First (reader_rules count s position) x
  take-says = rw take-order (answer-says Err (λ x y h. cc) (given more e) (λ r. refl) order order-says (λ _. given-accepts more e))

  pub take-end-says : (take_of count s position ≡ no_more) ↔ (ReaderSized count s × (length s ≤ position))
  unfolding take_of
  take-end-says = Iff.trans (go (sized count s []) more (length_checks (mask_bytes count) left e (Ok e))) (Iff.and one-says (not-lt-says position (length s)))
    where
      go : (z m : Bool) (d : Result Entry ℕ) → (cond z (cond m (taken_of d) no_more) (Err (plain 9)) ≡ no_more) ↔ (T z × T (not m))
      go false m d = (λ h. let o : ◌≡◌ {A = ℕ} 0 1 = cc in absurd (omega arith), λ h. absurd h.0)
      go true false d = (λ h. (tt, tt), λ h. refl)
      go true true (Ok x) = (λ h. let o : ◌≡◌ {A = ℕ} 0 1 = cc in absurd (omega arith), λ h. absurd h.1)
      go true true (Err n) = (λ h. let o : ◌≡◌ {A = ℕ} 0 1 = cc in absurd (omega arith), λ h. absurd h.1)

  -- an entry that is taken stands at the position
  pub take-start : (start n : ℕ) → take_of count s position ≡ taken start n → start ≡ position
  unfolding take_of length_checks refuse
  take-start start n = go (sized count s []) more (overruns left e) short
    where
      go : (z m o b : Bool) → cond z (cond m (taken_of (refuse o 1 (refuse b 2 (Ok e)))) no_more) (Err (plain 9)) ≡ taken start n → start ≡ position
      go false m o b h = let x : ◌≡◌ {A = ℕ} 0 1 = cc in absurd (omega arith)
      go true false o b h = let x : ◌≡◌ {A = ℕ} 0 1 = cc in absurd (omega arith)
      go true true true b h = let x : ◌≡◌ {A = ℕ} 0 1 = cc in absurd (omega arith)
      go true true false true h = let x : ◌≡◌ {A = ℕ} 0 1 = cc in absurd (omega arith)
      go true true false false h = sym (taken-same _ _ h).0

  -- "and moves only past an entry"
  pub moved-entry : (start n : ℕ) → take_of count s position ≡ taken start n → moved_to (take_of count s position) position ≡ position + n
  moved-entry start n h = rw h (ap (λ (p : ℕ). p + n) (take-start start n h))

  pub moved-end : take_of count s position ≡ no_more → moved_to (take_of count s position) position ≡ position
  moved-end h = rw h refl

  pub moved-refused : (x : Refusal) → take_of count s position ≡ Err x → moved_to (take_of count s position) position ≡ position
  moved-refused x h = rw h refl
