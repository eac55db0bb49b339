-- `entries` meets its contract.
use mathlib.Core.Path.{sym, ◌∙◌}
use native.Mathlib.Omega.{arith}
use Rattle.rules.specs.Descriptor.{decode_at}
use Rattle.rules.proofs.Load.Checks.{decode-passed}
use Rattle.descriptor.proofs.Scan.{Went, went, failed-by, next-small, decoding-is}
use Rattle.descriptor.proofs.Lines.{writing-begin, writing-next, writing-stop, writing-end}
use Rattle.descriptor.proofs.text.Text.entries.Goals as goal
use Rattle.descriptor.proofs.text.Text.entries.Goals.{In-Ok}

-- the entry that a turn goes past
gone : (c : In-Ok) → Went c.loop-from.from c.loop-from.st (decode_at c.args.walk.a c.args.walk.s.now c.loop-from.from c.loop-from.st) c.in-Ok.past.at c.in-Ok.past.counts
gone c = went _ _ _ _ _ (sym (decoding-is _ _ _ _ c.from.ensures.0 (rw c.loop-from.invariant.1 at c.decode.ensures)) ∙ c.in-Ok.is)

pub loop-from-init : goal.loop-from-init
loop-from-init c = (writing-begin _ _ _ _ c.requires.before_le_entry_limit.0 c.requires.before_le_entry_limit.1, c.requires.in_ro)

pub returns-in_default : goal.returns-in_default
returns-in_default c =
    writing-stop c.loop-from.invariant.0 c.loop-from-test.true _
    (failed-by _ c.loop-from.st _ _ (sym (decoding-is _ _ _ c.loop-from.st c.from.ensures.0 (rw c.loop-from.invariant.1 at c.decode.ensures)) ∙ c.in_default.is))

pub entry-requires-clause-printable : goal.entry-requires-clause-printable
entry-requires-clause-printable c =
    let w = gone (goal.at.entry-requires-clause-printable c).In-Ok in
    let e = decode-passed _ _ _ _ _ w.decodes in
    let p = c.args.walk.ready in
    record {
      inside = omega (arith, e.within, e.long, p.mask-low);
      number = omega (arith, e.few, c.loop-from.invariant.0.few);
      sum = omega (arith, c.loop-from.invariant.0.sum);
    }

pub entry-requires-clause-room : goal.entry-requires-clause-room
entry-requires-clause-room c =
    let w = gone (goal.at.entry-requires-clause-room c).In-Ok in
    let e = decode-passed _ _ _ _ _ w.decodes in
    omega (arith, c.loop-from.invariant.0.adds.size, c.loop-from.invariant.0.adds.room, e.within, e.long)

pub within-st-requires : goal.within-st-requires
within-st-requires c = let w = gone (goal.at.within-st-requires c).In-Ok in rw w.keeps (next-small _ _ _ _ _ w.decodes)

pub loop-from-smaller : goal.loop-from-smaller
loop-from-smaller c =
    let w = gone (goal.at.loop-from-smaller c).In-Ok in
    let e = decode-passed _ _ _ _ _ w.decodes in
    rw w.to (omega (arith, e.long, c.loop-from-test.true))

pub loop-from-preserved : goal.loop-from-preserved
loop-from-preserved c =
    let w = gone (goal.at.loop-from-preserved c).In-Ok in
    rw c.within-st.ensures (writing-next c.loop-from.invariant.0 c.loop-from-test.true c.args.walk.ready.mask-low w c.entry.ensures, c.loop-from.invariant.1)

pub returns : goal.returns
returns c = writing-end c.loop-from.invariant.0 c.loop-from-test.false
