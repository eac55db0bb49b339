-- `of` meets its contract.
use Rattle.control_set.proofs.Spots.{width-room}
use Rattle.control_set.proofs.place.Place.of.Goals as goal

pub invariant_of-result : goal.invariant_of-result
invariant_of-result c = record { inside = c.byte_of.ensures.1; room = width-room c.args.f.now.width c.args.lane.number c.requires.1 c.args.lane.real.0 }
