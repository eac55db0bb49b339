-- `scan` meets its contract.
use Rattle.std.proofs.Common.{◌∙◌, sym, arith}
use Rattle.rules.specs.Descriptor.{decode_at}
use Rattle.rules.proofs.Load.Checks.{decode-passed}
use Rattle.descriptor.specs.Counts.{alone}
use Rattle.descriptor.proofs.Scan.{Went, went, failed-by, next-small, scan-begin, scan-end, scan-stop, scan-one, scan-goes}
use Rattle.descriptor.proofs.lent.Walk.scan.Goals as goal
use Rattle.descriptor.proofs.lent.Walk.scan.Goals.{In-Ok}

-- the entry that a turn goes past
gone : (c : In-Ok) →
    let st = alone c.args.self.in_ro c.loop-at.c in
    Went c.loop-at.at st (decode_at c.args.self.a c.args.self.s.now c.loop-at.at st) c.in-Ok.past.at c.in-Ok.past.counts
gone c = went _ _ _ _ _ (sym c.in-Ok.ensures)

pub loop-at-init : goal.loop-at-init
loop-at-init c = scan-begin _ _ _ _ _ c.requires

pub returns-in_default-clause-answer : goal.returns-in_default-clause-answer
returns-in_default-clause-answer c =
    let st = alone c.args.self.in_ro c.loop-at.c in
    c.stopped.ensures ∙ rw c.in_default.is (scan-stop c.loop-at.invariant c.loop-at-test.true _ (failed-by c.loop-at.at st _ _ (sym c.in_default.ensures)))

pub returns-then-one-clause-answer : goal.returns-then-one-clause-answer
returns-then-one-clause-answer c =
    let w = gone (goal.at.returns-then-one-clause-answer c).In-Ok in
    rw w.keeps (scan-one c.loop-at.invariant c.loop-at-test.true w.e w.decodes c.if-one.true)

pub returns-then-one-clause-small : goal.returns-then-one-clause-small
returns-then-one-clause-small c =
    let w = gone (goal.at.returns-then-one-clause-small c).In-Ok in
    rw w.keeps (next-small _ _ _ _ _ w.decodes)

pub loop-at-smaller : goal.loop-at-smaller
loop-at-smaller c =
    let w = gone (goal.at.loop-at-smaller c).In-Ok in
    let p = decode-passed _ _ _ _ _ w.decodes in
    rw w.to (omega (arith, p.long))

pub loop-at-preserved : goal.loop-at-preserved
loop-at-preserved c = scan-goes c.loop-at.invariant c.loop-at-test.true c.if-one.false (gone (goal.at.loop-at-preserved c).In-Ok)

pub returns-clause-answer : goal.returns-clause-answer
returns-clause-answer c = scan-end c.loop-at.invariant c.loop-at-test.false
