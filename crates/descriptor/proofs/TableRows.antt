-- The rows of the code are those of the table, at every ID: one test, computed for each ID that the table names and for the others.
-- And the bounds of what the table says.
use mathlib.Core.Path.{◌≡◌, refl}
use mathlib.Core.Bool.{Bool, true, false, ◌&&◌, ◌||◌, not, cond, beq}
use mathlib.Core.List.{List}
use Prim.Native.Nat.{ℕ, ◌+◌, ◌<◌}
use lib.IntN.{ℤ, pos, negsuc}
use native.Mathlib.Omega.{arith}
use borrow.Author.Tests.{ne_eqb}
use lib.Dec.{T, eqb, eqb→eq, ltb, ltb→lt}
use lib.ListN.{get_or-eq_default}
use Rattle.rules.specs.declared.Entry.{Entry}
use Rattle.std.specs.Prelude.{Option, None, Some}
use Rattle.rules.specs.Parameter.{Row as TableRow, row_of, rows as table_rows, space, Side as TableSide, both, Extra, code_mask, min, max, step, Values as Column, numbers, if_in_mask, min_to_max}
use Rattle.rules.specs.Descriptor.{Position, absent, after, position_of, may_stand}
use Rattle.rules.specs.Place.{parts_of, width_of}
use Rattle.rules.proofs.Basics.Tests.{and₂, and₃, and₄}
use Rattle.rules.proofs.Table.Rows.{looked-up}
use Rattle.rules.proofs.Basics.Ids.{every-id}
use Rattle.descriptor.specs.declared.table.Side.{Side}
use Rattle.descriptor.specs.declared.table.Row.{Row}
use Rattle.descriptor.specs.Rows.{classes, class_of, row_at}
use Rattle.descriptor.specs.Decode.{stands_by}
use Rattle.descriptor.specs.Find.{lowest, highest}

pub same-test : (a b : Bool) → T (beq a b) → a ≡ b
same-test true true h = refl
same-test true false h = absurd h
same-test false true h = absurd h
same-test false false h = refl

pub class-small : (id : ℕ) → class_of id < 11
unfolding class_of
class-small id = ltb→lt _ 11 (looked-up (λ k. ltb k 11) classes 0 tt tt id)

-- one test only where another holds
abbrev pub only : Bool → Bool → Bool
only a b = not a || b

pub only-then : (a b : Bool) → T (only a b) → T a → T b
only-then true b h _ = h
only-then false b h t = absurd t

-- a side lets an ID stand where the table does
abbrev pub side_test : Side → TableSide → Bool
side_test x y = beq (stands_by x true) (may_stand y true) && beq (stands_by x false) (may_stand y false)

side-says : (x : Side) (y : TableSide) (ro : Bool) → T (side_test x y) → stands_by x ro ≡ may_stand y ro
side-says x y true t = let (p, _) = and₂ (beq (stands_by x true) (may_stand y true)) _ t in same-test _ _ p
side-says x y false t = let (_, p) = and₂ (beq (stands_by x true) (may_stand y true)) _ t in same-test _ _ p

-- a step is the last byte of the least Length, and four codes up to the last one are not reserved
abbrev pub step_test : ℕ × ℕ → Position → Option ℕ → ℕ → Bool
step_test steps absent None least = eqb steps.0 0 && eqb steps.1 0
step_test steps absent (Some last) least = false
step_test steps (after n) None least = false
step_test steps (after n) (Some last) least = eqb (steps.0 + 3) last && (eqb steps.1 last && eqb (n + 5) least)

-- what the row of an ID says is what the table says of it
pub record Says (id : ℕ) : Type 0 where
  pub least : (row_at id).least ≡ (row_of id).least
  pub needed : (row_at id).needed ≡ (row_of id).needed
  pub side : (ro : Bool) → stands_by (row_at id).side ro ≡ may_stand (row_of id).side ro
  pub flags : ltb 3 (row_at id).least ≡ (row_of id).flags
  pub stepped : T (step_test (row_of id).steps (position_of step (row_of id).extras) (row_at id).last_step (row_at id).least)
  pub parts : (row_at id).parts ≡ (row_of id).parts
  pub width : (row_at id).width ≡ (row_of id).width

abbrev row_test : TableRow → Row → Bool
row_test r l =
    (eqb l.least r.least && (eqb l.needed r.needed && (side_test l.side r.side && beq (ltb 3 l.least) r.flags)))
    && (step_test r.steps (position_of step r.extras) l.last_step l.least && (eqb l.parts r.parts && eqb l.width r.width))

row-tested : (id : ℕ) → T (row_test (row_of id) (row_at id))
unfolding row_of class_of
row-tested =
    every-id (λ id. row_test (row_of id) (row_at id)) tt
    λ id l. rw (get_or-eq_default classes 0 {n = id} l, get_or-eq_default table_rows (space both) {n = id} l) tt

pub row : (id : ℕ) → Says id
row id =
    let r = row_of id in
    let l = row_at id in
    let (u, v) = and₂ (eqb l.least r.least && (eqb l.needed r.needed && (side_test l.side r.side && beq (ltb 3 l.least) r.flags))) _ (row-tested id) in
    let (t₁, t₂, t₃, t₄) = and₄ (eqb l.least r.least) (eqb l.needed r.needed) (side_test l.side r.side) _ u in
    let (t₅, t₆, t₇) = and₃ (step_test r.steps (position_of step r.extras) l.last_step l.least) (eqb l.parts r.parts) _ v in
    record {
      least = eqb→eq _ _ t₁;
      needed = eqb→eq _ _ t₂;
      side = λ ro. side-says l.side r.side ro t₃;
      flags = same-test _ _ t₄;
      stepped = t₅;
      parts = eqb→eq _ _ t₆;
      width = eqb→eq _ _ t₇;
    }

-- equal numbers
abbrev pub eq_z : ℤ → ℤ → Bool
eq_z (pos a) (pos b) = eqb a b
eq_z (pos a) (negsuc b) = false
eq_z (negsuc a) (pos b) = false
eq_z (negsuc a) (negsuc b) = eqb a b

pub eq_z→eq : (a b : ℤ) → T (eq_z a b) → a ≡ b
eq_z→eq (pos a) (pos b) h = rw (eqb→eq a b h)
eq_z→eq (pos a) (negsuc b) h = absurd h
eq_z→eq (negsuc a) (pos b) h = absurd h
eq_z→eq (negsuc a) (negsuc b) h = rw (eqb→eq a b h)

abbrev pub present : Position → Bool
present absent = false
present (after n) = true

-- what the fields of an ID hold: unsigned numbers begin at 0, signed ones are a byte's; a code mask, or Min and Max, stand where they are read;
-- a step is read of 12h alone
abbrev pub held_test : Bool → Bool → Column → List Extra → Bool
held_test t s (numbers l) x =
    beq t (s && present (position_of step x))
    && (eq_z (lowest l) (cond s (negsuc 127) (pos 0)) && only s (eq_z (highest l) (pos 127)))
held_test t s (if_in_mask l) x = beq t false && (beq s false && present (position_of code_mask x))
held_test t s min_to_max x = beq t false && (beq s true && (present (position_of min x) && present (position_of max x)))

pub held-tested : (id : ℕ) → T (held_test (eqb id 0x12) (row_of id).signed (row_of id).values (row_of id).extras)
unfolding row_of
held-tested =
    every-id (λ id. held_test (eqb id 0x12) (row_of id).signed (row_of id).values (row_of id).extras) tt
    λ id l. rw (ne_eqb id 0x12 (omega arith), get_or-eq_default table_rows (space both) {n = id} l) tt

-- the numbers of an ID's fields are small
pub record Small (id : ℕ) : Type 0 where
  pub few : (row_of id).parts < 16
  pub narrow : (row_of id).width < 16

abbrev small_test : TableRow → Bool
small_test r = ltb r.parts 16 && ltb r.width 16

small-tested : (id : ℕ) → T (small_test (row_of id))
unfolding row_of
small-tested = looked-up small_test table_rows (space both) tt tt

pub small : (id : ℕ) → Small id
small id =
    let (t₁, t₂) = and₂ (ltb (row_of id).parts 16) (ltb (row_of id).width 16) (small-tested id) in
    record { few = ltb→lt _ _ t₁; narrow = ltb→lt _ _ t₂ }

-- for callers
pub parts-few : (e : Entry) → parts_of e < 16
unfolding parts_of
parts-few e = (small e.id).few

pub width-narrow : (e : Entry) → width_of e < 16
unfolding width_of
width-narrow e = (small e.id).narrow
