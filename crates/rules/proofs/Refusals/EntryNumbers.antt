-- The state of a walk counts the entries that it has passed, and none passes more of a string than the limit.
use mathlib.Core.Path.{◌≡◌, refl}
use mathlib.Core.Bool.{true, false}
use mathlib.Core.List.{List}
use Prim.Native.Nat.{ℕ, ◌+◌, ◌≤◌}
use native.Mathlib.Omega.{arith}
use Rattle.rules.specs.Words.{State}
use Rattle.rules.specs.Descriptor.{entry_limit}
use Rattle.rules.specs.Load.{start, into_ro, entry_number}
use Rattle.rules.specs.Conditions.{Way, here, past, entries_past}
use Rattle.rules.proofs.Load.Checks.{decode-passed}

module _ (a : ℕ) (s : List ℕ) where
  counted : {to : ℕ} {end : State} {from : ℕ} {begin : State} (w : Way a s to end from begin)
      → (end.ro ≡ begin.ro) × (end.before ≡ begin.before) × (end.entries ≡ begin.entries + entries_past w)
  counted here = (refl, refl, omega arith)
  counted (past e l d w) = let c = counted w in (c.0, c.1, omega arith)

  within : {to : ℕ} {end : State} {from : ℕ} {begin : State} (w : Way a s to end from begin)
      → begin.entries ≤ entry_limit
      → begin.entries + entries_past w ≤ entry_limit
  within here h = omega arith
  within {begin} (past {at} e l d w) h = omega (arith, within w (omega (arith, (decode-passed a s at begin e d).few)))

module _ (a : ℕ) (s : List ℕ) (at : ℕ) (st : State) where
  pub rw-numbers : (w : Way a s at st 0 start) → (st.ro ≡ false) × (st.entries ≡ entries_past w) × (entry_number st ≡ entries_past w) × (entries_past w ≤ 16)
  rw-numbers w =
      let c = counted a s w in
      (c.0, omega (arith, c.2), omega (arith, c.1, c.2), omega (arith, within a s w (omega arith)))

  pub ro-numbers : (middle : State) (w : Way a s at st 0 (into_ro middle))
      → (st.ro ≡ true) × (st.entries ≡ entries_past w) × (entry_number st ≡ middle.entries + entries_past w) × (entries_past w ≤ 16)
  ro-numbers middle w =
      let c = counted a s w in
      (c.0, omega (arith, c.2), omega (arith, c.1, c.2), omega (arith, within a s w (omega arith)))
