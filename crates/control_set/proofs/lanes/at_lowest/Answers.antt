-- `at_lowest` meets its contract.
use Rattle.std.proofs.Common.{refl, suc, add-one, arith, ne_eqb}
use lib.Count.{count_trailing_zeros}
use Rattle.rules.specs.Refuse.{at_lowest}
use Rattle.control_set.proofs.LaneMasks.{lowest-trailing, lanes-zero}
use Rattle.control_set.proofs.lanes.at_lowest.Goals as goal

pub returns-then-lanes-eq0 : goal.returns-then-lanes-eq0
returns-then-lanes-eq0 c i l u = rw c.if-lanes-eq0.true (lanes-zero i)

pub returns : goal.returns
unfolding at_lowest
returns c =
    let m = c.args.lanes in
    rw (lowest-trailing m c.if-lanes-eq0.false c.ranges.lanes.fits, add-one (count_trailing_zeros 8 m), ne_eqb (suc (count_trailing_zeros 8 m)) 0 (λ z. omega arith)) refl
