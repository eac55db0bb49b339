-- `wanted` meets its contract.
use Rattle.std.proofs.Common.{◌≡◌, ◌%◌, ◌^◌, arith}
use lib.Bits.{bit_and, and_mask}
use Rattle.control_set.specs.Chosen.{app_of}
use Rattle.control_set.proofs.CopiedLanes.{wanted-next}
use Rattle.control_set.proofs.chosen.Chosen.wanted.Goals as goal

pub loop-number-preserved : goal.loop-number-preserved
loop-number-preserved c =
    let g = c.args in
    let l = c.loop-number in
    let app = app_of g.self l.number in
    let e : bit_and app 15 ≡ app % 2 ^ 4 = and_mask app 4 in
    rw (c.has-has.ensures, c.app.ensures, e) (wanted-next g.self c.requires l.number (omega arith) (omega arith) l.apps l.invariant)
