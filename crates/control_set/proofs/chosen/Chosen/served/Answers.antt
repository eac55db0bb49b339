-- `served` meets its contract.
use Rattle.std.specs.Prelude.{Ok, Err}
use Rattle.rules.proofs.Basics.Results.{handed-on}
use Rattle.control_set.specs.Lanes.{NoLane}
use Rattle.control_set.specs.Chosen.{lacks_by}
use Rattle.control_set.proofs.LaneMasks.{lanes-at-lowest}
use Rattle.control_set.proofs.chosen.Chosen.served.Goals as goal
use Rattle.control_set.proofs.chosen.Chosen.served.Goals.{In_ok-at_lowest}

clear : (c : In_ok-at_lowest) → NoLane (lacks_by c.args.self)
clear c = lanes-at-lowest 13 _ _ (Ok tt) c.lacking.ensures c.in_ok-at_lowest.ensures

pub wanted-requires : goal.wanted-requires
wanted-requires c = clear (goal.at.wanted-requires c).In_ok-at_lowest

pub invariant_of-result : goal.invariant_of-result
invariant_of-result c =
    record { serves = record { clear = clear (goal.at.invariant_of-result c).In_ok-at_lowest; wanted = c.wanted.ensures } }

pub returns-in_err-at_lowest : goal.returns-in_err-at_lowest
returns-in_err-at_lowest c = rw (handed-on _ c.from_residual.ensures.1) (lanes-at-lowest 13 _ _ (Err _) c.lacking.ensures c.in_err-at_lowest.ensures)
