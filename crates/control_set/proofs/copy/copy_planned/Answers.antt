-- `copy_planned` meets its contract.
use native.Mathlib.Omega.{arith}
use lib.ListN.{get_or}
use Rattle.rules.proofs.Bank.Places.{size-is, set-start-last, named-has-bytes}
use Rattle.control_set.specs.Plan.{merge_by}
use Rattle.control_set.proofs.Copies.{mid-byte, merged-next, merged-all}
use Rattle.control_set.proofs.copy.copy_planned.Goals as goal

pub byte_of-requires : goal.byte_of-requires
byte_of-requires c = (named-has-bytes _ (omega arith), omega arith)

pub slice_bounds-put_bits-end : goal.slice_bounds-put_bits-end
slice_bounds-put_bits-end c = omega (arith, size-is)

pub loop-at-preserved : goal.loop-at-preserved
loop-at-preserved c =
    let l = c.loop-at in
    record {
      bytes = l.invariant.bytes;
      merged = rw (c.put_bits.ensures, mid-byte 512 256 l.at l.bank (omega arith) (omega (arith, size-is)) (λ x. merge_by x (get_or l.bank c.byte_of.result 0) (get_or c.args.plan.now l.at 0)), ← set-start-last 2 (omega arith), c.byte_of.ensures.0)
          (merged-next c.requires.set.0 (omega arith) (omega (arith, l.invariant.merged.size)) l.invariant.merged);
    }

pub returns : goal.returns
returns c =
    let i = c.loop-at.invariant in
    merged-all (omega arith) i.bytes (λ k l. c.requires.none k (omega arith)) i.merged
