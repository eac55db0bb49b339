-- What decoding reads of the row of its entry, in terms of the table.
use mathlib.Core.Path.{◌≡◌, refl}
use mathlib.Core.Bool.{Bool}
use mathlib.Core.List.{List}
use Prim.Native.Nat.{ℕ, ◌+◌, ◌-◌, ◌≤◌}
use native.Mathlib.Omega.{arith}
use lib.Dec.{T, ltb, eqb, eqb→eq}
use Rattle.std.specs.Prelude.{Option, None, Some, IfSome}
use Rattle.rules.specs.Parameter.{row_of, step}
use Rattle.rules.specs.Descriptor.{byte_at, Position, absent, after, position_of, byte_of, media_side, may_stand, reserved}
use Rattle.rules.proofs.Basics.Tests.{and₂, and₃}
use Rattle.rules.proofs.Table.Rows.{row-least}
use Rattle.descriptor.specs.declared.state.Count.{Count}
use Rattle.descriptor.specs.declared.table.Row.{Row}
use Rattle.descriptor.specs.Decode.{StepIn, reserved_to, reserved_by, stands_by, Standing}
use Rattle.descriptor.proofs.TableRows.{row, step_test}

-- a step is judged as the row says
step-by : (steps : ℕ × ℕ) (p : Position) (l : Row) (s : List ℕ) (at a : ℕ)
    → T (step_test steps p l.last_step l.least)
    → reserved_by l s (at + a) ≡ reserved steps (byte_of p s (at + 4 + a))
unfolding reserved_by byte_of
step-by steps p l s at a t = go p l.last_step t
  where
    go : (p : Position) (last : Option ℕ) → T (step_test steps p last l.least) → reserved_to last (byte_at s (at + a + l.least - 1)) ≡ reserved steps (byte_of p s (at + 4 + a))
    go absent None t =
        let (v, w) = and₂ (eqb steps.0 0) (eqb steps.1 0) t in
        rw (eqb→eq steps.0 0 v, eqb→eq steps.1 0 w) refl
    go absent (Some last) t = absurd t
    go (after n) None t = absurd t
    go (after n) (Some last) t =
        let (v, w, x) = and₃ (eqb (steps.0 + 3) last) (eqb steps.1 last) (eqb (n + 5) l.least) t in
        let b : steps.0 + 3 ≡ last = eqb→eq _ _ v in
        let d : n + 5 ≡ l.least = eqb→eq _ _ x in
        let f : last - 3 ≡ steps.0 = omega arith in
        let q : at + a + l.least - 1 ≡ at + 4 + a + n = omega arith in
        rw (f, q, ← eqb→eq steps.1 last w) refl

module _ {l : Row} {a : ℕ} {s : List ℕ} {at : ℕ} {c : Count} (g : Standing l a s at c) where
  abbrev id : ℕ
  id = byte_at s at

  pub side-is : (ro : Bool) → stands_by l.side ro ≡ may_stand (row_of id).side ro
  side-is ro = rw g.row-is ((row id).side ro)

  pub media-is : (flags : ℕ) → media_side (ltb 3 l.least) flags ≡ media_side (row_of id).flags flags
  media-is flags = rw (g.row-is, (row id).flags) refl

  pub needed-is : l.needed ≡ (row_of id).needed
  needed-is = rw g.row-is (row id).needed

  pub step-is : reserved_by l s (at + a) ≡ reserved (row_of id).steps (byte_of (position_of step (row_of id).extras) s (at + 4 + a))
  step-is = step-by (row_of id).steps (position_of step (row_of id).extras) l s at a (rw (← g.row-is) at (row id).stepped)

  -- the least Length, up to MemoryLength at the least, is in the string
  pub low : 3 ≤ l.least
  low = rw (g.row-is, (row id).least) (row-least id)

  pub step-in : IfSome l.last_step (StepIn l s (at + a))
  step-in = go (position_of step (row_of id).extras) l.last_step (rw (← g.row-is) at (row id).stepped)
    where
      go : (p : Position) (last : Option ℕ) → T (step_test (row_of id).steps p last l.least) → IfSome last (StepIn l s (at + a))
      go absent None t = tt
      go absent (Some last) t = absurd t
      go (after n) None t = tt
      go (after n) (Some last) t =
          let (v, _, _) = and₃ (eqb ((row_of id).steps.0 + 3) last) (eqb (row_of id).steps.1 last) (eqb (n + 5) l.least) t in
          let b : (row_of id).steps.0 + 3 ≡ last = eqb→eq _ _ v in
          record { four = omega arith; some = omega (arith, low); room = omega (arith, g.room) }
