-- The reading of an entry: what is read by its ID is what the table says of it.
use mathlib.Core.Path.{◌≡◌, refl, sym, ap}
use mathlib.Core.Bool.{Bool, true, false, ◌&&◌, cond, beq}
use mathlib.Core.List.{List}
use Prim.Native.Nat.{ℕ, suc, ◌+◌, ◌-◌}
use native.Mathlib.Omega.{arith}
use lib.IntN.{pos, negsuc}
use lib.Dec.{T, eqb, ltb}
use mir.Syntax.{w8}
use mir.Val.{to_z, sel}
use Rattle.std.specs.Prelude.{Some, None}
use Rattle.rules.specs.declared.Entry.{Entry}
use Rattle.rules.specs.Parameter.{row_of, Extra, code_mask, min, max, step, Values as Column, numbers, if_in_mask, min_to_max}
use Rattle.rules.specs.Descriptor.{byte_at, high_first, Position, absent, after, position_of, codes_of, byte_of, entry_at}
use Rattle.rules.specs.Accept.{from_bits, signed_byte}
use Rattle.rules.specs.Place.{signed_of}
use Rattle.rules.proofs.Basics.Tests.{and₂, and₃, and₄}
use Rattle.descriptor.specs.declared.Named.{Named}
use Rattle.descriptor.specs.declared.Accepted.TheVariants.{Within as within_range}
use Rattle.descriptor.specs.declared.table.Row.{Row}
use Rattle.descriptor.specs.declared.table.Values.{Values}
use Rattle.descriptor.specs.Rows.{place_number, byte_by, values_in, values_of, are_signed}
use Rattle.descriptor.specs.Wide.{accepted_at, step_at}
use Rattle.descriptor.specs.Find.{lowest, highest, accepted_of, named_of}
use Rattle.descriptor.specs.Reading.{shaped}
use Rattle.descriptor.proofs.TableRows.{same-test, eq_z, eq_z→eq, present, held_test, held-tested}

-- a byte read as a signed number
pub as-signed : (n : ℕ) → to_z w8 n ≡ signed_byte n
unfolding from_bits
as-signed n = go (ltb n 128)
  where
    go : (b : Bool) → sel b (pos n) (negsuc (256 - suc n)) ≡ cond b (pos n) (negsuc (256 - suc n))
    go true = refl
    go false = refl

-- what is read of an entry by what its ID's fields hold
record Says (v : Values) (t g : Bool) (x : Column) (s : List ℕ) (at : ℕ) (e : Entry) : Type 0 where
  signed : are_signed v ≡ g
  accepted : accepted_at v s at ≡ accepted_of x e
  step : step_at v s at ≡ cond t (Some e.step) None

module _ (s : List ℕ) (start a : ℕ) where
  -- an extra stands at its place
  byte-is : (p : Position) → T (present p) → byte_at s (start + a + place_number p) ≡ byte_of p s (start + 4 + a)
  unfolding byte_of
  byte-is absent h = absurd h
  byte-is (after n) h = let e : start + a + (4 + n) ≡ start + 4 + a + n = omega arith in rw e refl

  codes-is : (p : Position) → T (present p) → high_first s (start + a + place_number p) 2 ≡ codes_of p s (start + 4 + a)
  unfolding codes_of
  codes-is absent h = absurd h
  codes-is (after n) h = let e : start + a + (4 + n) ≡ start + 4 + a + n = omega arith in rw e refl

  module _ (l : List Extra) (e : Entry) (min-is : e.min ≡ byte_of (position_of min l) s (start + 4 + a)) (max-is : e.max ≡ byte_of (position_of max l) s (start + 4 + a))
      (mask-is : e.codes ≡ codes_of (position_of code_mask l) s (start + 4 + a)) (step-is : e.step ≡ byte_of (position_of step l) s (start + 4 + a)) where
    bytes : (t : Bool) (r : Column) (p : Position)
        → e.step ≡ byte_of p s (start + 4 + a)
        → t ≡ present p
        → within_range (record { low = negsuc 127; high = pos 127 }) ≡ accepted_of r e
        → Says (byte_by p) t true r s (start + a) e
    unfolding accepted_at step_at
    bytes t r absent q h w = record { signed = refl; accepted = w; step = ap (λ b. cond b (Some e.step) None) (sym h) }
    bytes t r (after n) q h w = record { signed = refl; accepted = w; step = rw (h, q) (ap Some (byte-is (after n) tt)) }

    says : (t g : Bool) (x : Column) → T (held_test t g x l) → Says (values_in g x l) t g x s (start + a) e
    unfolding accepted_at step_at
    says t true (numbers r) h =
        let (p, q, u) = and₃ (beq t (present (position_of step l))) (eq_z (lowest r) (negsuc 127)) (eq_z (highest r) (pos 127)) h in
        bytes t (numbers r) (position_of step l) step-is (same-test _ _ p) (rw (eq_z→eq (lowest r) (negsuc 127) q, eq_z→eq (highest r) (pos 127) u) refl)
    says t false (numbers r) h =
        let (p, q) = and₂ (beq t false) (eq_z (lowest r) (pos 0) && true) h in
        let (u, _) = and₂ (eq_z (lowest r) (pos 0)) true q in
        record { signed = refl; accepted = rw (eq_z→eq (lowest r) (pos 0) u) refl; step = rw (same-test t false p) refl }
    says t g (if_in_mask r) h =
        let (p, q, u) = and₃ (beq t false) (beq g false) (present (position_of code_mask l)) h in
        record { signed = sym (same-test g false q); accepted = rw (codes-is (position_of code_mask l) u, mask-is) refl; step = rw (same-test t false p) refl }
    says t g min_to_max h =
        let (p, q, u, w) = and₄ (beq t false) (beq g true) (present (position_of min l)) (present (position_of max l)) h in
        record {
          signed = sym (same-test g true q);
          accepted = rw (byte-is (position_of min l) u, byte-is (position_of max l) w, min-is, max-is) refl;
          step = rw (same-test t false p) refl;
        }

read-says : (a : ℕ) (s : List ℕ) (start offset : ℕ) →
    let x = byte_at s start in
    Says (values_of x) (eqb x 0x12) (row_of x).signed (row_of x).values s (start + a) (entry_at a s start offset)
unfolding values_of
read-says a s start offset =
    let x : ℕ = byte_at s start in
    says s start a (row_of x).extras (entry_at a s start offset) refl refl refl refl (eqb x 0x12) (row_of x).signed (row_of x).values (held-tested x)

-- what fields accept
pub accepted-read : (a : ℕ) (s : List ℕ) (start offset : ℕ) →
    let e = entry_at a s start offset in
    accepted_at (values_of (byte_at s start)) s (start + a) ≡ accepted_of (row_of e.id).values e
accepted-read a s start offset = (read-says a s start offset).accepted

-- what a call needs of an entry, by the shape of its fields
pub named-read :
    (in_ro : Bool) (a : ℕ) (s : List ℕ) (start offset id : ℕ) (l : Row)
    → id ≡ byte_at s start
    → ◌≡◌ {A = Named}
    (record {
      ro = in_ro;
      id = id;
      fields = record { offset = offset; parts = l.parts; width = l.width };
      signed = are_signed (values_of id);
      accepted = accepted_at (values_of id) s (start + a);
      step = step_at (values_of id) s (start + a);
    })
    (shaped l (named_of in_ro (entry_at a s start offset)))
unfolding named_of signed_of
named-read in_ro a s start offset id l q =
    let r = read-says a s start offset in
    rw q (rw (r.signed, r.accepted, r.step) refl)
