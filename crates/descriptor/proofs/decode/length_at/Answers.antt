-- `length_at` meets its contract: 1 and 2 are tested as the rules test them.
use Rattle.std.proofs.Common.{◌≡◌, refl, false, ◌+◌, ◌-◌, length, arith}
use Rattle.std.proofs.lemmas.Bool.{lt-ltb, le-ltb, eq-eqb, ne_eqb}
use Rattle.rules.specs.Descriptor.{byte_at, entry_at, overruns, refuse, length_checks}
use Rattle.descriptor.specs.Decode.{length_at}
use Rattle.descriptor.proofs.TableRows.{row}
use Rattle.descriptor.proofs.decode.length_at.Goals as goal
use Rattle.descriptor.proofs.decode.length_at.Goals.{Else-s-at}

-- 1 is passed
one : (c : Else-s-at) → let g = c.args in overruns (length g.s.now - g.at) (entry_at g.a g.s.now g.at 0) ≡ false
one c =
    let g = c.args in
    rw (ne_eqb (length g.s.now - g.at) 1 (omega arith), le-ltb (length g.s.now - g.at) (byte_at g.s.now (g.at + 1)) (omega arith)) refl

pub returns-then-at-s : goal.returns-then-at-s
unfolding length_at length_checks refuse
returns-then-at-s c = let g = c.args in rw (eq-eqb (length g.s.now - g.at) 1 (omega arith)) refl

pub returns-then-s-at : goal.returns-then-s-at
unfolding length_at length_checks refuse
returns-then-s-at c =
    let g = c.args in
    rw (ne_eqb (length g.s.now - g.at) 1 (omega arith), lt-ltb (length g.s.now - g.at) (byte_at g.s.now (g.at + 1)) (omega arith)) refl

pub returns-then-length-row : goal.returns-then-length-row
unfolding length_at length_checks refuse
returns-then-length-row c =
    let short = rw (c.requires.0, (row (byte_at c.args.s.now c.args.at)).least) at c.if-length-row.true in
    rw (one (goal.at.returns-then-length-row c).Else-s-at, lt-ltb _ _ short) refl

pub returns : goal.returns
unfolding length_at length_checks refuse
returns c =
    let long = rw (c.requires.0, (row (byte_at c.args.s.now c.args.at)).least) at c.if-length-row.false in
    rw (one (goal.at.returns c).Else-s-at, le-ltb _ _ long) refl
