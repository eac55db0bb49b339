-- `placed_in` meets its contract.
use Rattle.std.proofs.Common.{refl}
use Rattle.placement.proofs.Addressing.{place-at}
use Rattle.placement.proofs.placed_in.Goals as goal

pub returns : goal.returns
returns c =
    let (page, byte) = place-at c.args.set c.args.offset _ (rw c.address_of.ensures at c.unwrap_or-at.ensures) in
    rw (page, byte) refl
