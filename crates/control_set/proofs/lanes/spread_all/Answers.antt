-- `spread_all` meets its contract: its rows pass the test of their widths.
use native.Mathlib.Omega.{arith}
use lib.Bits.{and_mask}
use Rattle.control_set.proofs.LaneMasks.{spreads-mask, spreads-table, spreads-all, row}
use Rattle.control_set.proofs.lanes.spread_all.Goals as goal

pub returns : goal.returns
returns c =
    let m = c.args.lanes in
    let h = c.ranges.lanes.fits in
    rw (and_mask m 4)
    (spreads-all (spreads-mask m h) (spreads-table 2 (λ n. (row n).0) (omega arith) tt m h) (spreads-table 4 (λ n. (row n).1) (omega arith) tt m h) (spreads-table 8 (λ n. (row n).2) (omega arith) tt m h) c.args.spreads.now c.told-spreads)
