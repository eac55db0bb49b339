-- `has_range` meets its contract: its test is the table's, for every ID.
use mathlib.Core.Path.{refl}
use mathlib.Core.Bool.{◌||◌}
use native.Mathlib.Omega.{arith}
use borrow.Author.Tests.{ne_eqb}
use lib.Dec.{eqb}
use lib.ListN.{get_or-eq_default}
use Rattle.rules.specs.Parameter.{rows, space, both, row_of}
use Rattle.rules.proofs.Basics.Ids.{by-row}
use Rattle.descriptor.specs.Rows.{is_limited}
use Rattle.descriptor.proofs.has_range.Goals as goal

pub returns : goal.returns
unfolding row_of
returns c =
    by-row (λ id. (eqb id 9 || eqb id 10) || eqb id 13) (λ id. is_limited (row_of id).values) tt
    (λ id l. rw (ne_eqb id 9 (omega arith), ne_eqb id 10 (omega arith), ne_eqb id 13 (omega arith), get_or-eq_default rows (space both) {n = id} l) refl)
    c.args.id
