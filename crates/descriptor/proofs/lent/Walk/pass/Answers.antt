-- `pass` meets its contract.
use Rattle.std.proofs.Common.{◌≡◌, Err, ap, ◌∙◌, ◌<◌, length, arith, lt-ltb}
use Rattle.rules.specs.Words.{past}
use Rattle.rules.specs.Descriptor.{byte_at, decode_at}
use Rattle.rules.specs.Load.{passed}
use Rattle.descriptor.specs.Counts.{with_count}
use Rattle.descriptor.proofs.Scan.{passes-entry, refuses-entry}
use Rattle.descriptor.proofs.lent.Walk.pass.Goals as goal
use Rattle.descriptor.proofs.lent.Walk.pass.Goals.{In-Ok}

-- the entry that is passed
passes : (c : In-Ok) →
    let g = c.args in
    (1 < length g.self.s.now) × (past (with_count g.st c.in-Ok.c) (byte_at g.self.s.now 1) ≡ passed g.st (decode_at g.self.a g.self.s.now 0 g.st))
passes c =
    let g = c.args in
    passes-entry g.self.a g.self.s.now g.st (omega arith) _ (rw (c.from.ensures.0, c.requires) at c.in-Ok.ensures.answer)

pub bounds-self-1 : goal.bounds-self-1
bounds-self-1 c = (passes (goal.at.bounds-self-1 c).In-Ok).0

pub returns-in-Ok : goal.returns-in-Ok
returns-in-Ok c = rw (lt-ltb 0 (length c.args.self.s.now) (omega arith), c.within.ensures) (passes (goal.at.returns-in-Ok c).In-Ok).1

pub returns-in-Err : goal.returns-in-Err
returns-in-Err c =
    let g = c.args in
    let some : 0 < length g.self.s.now = omega arith in
    rw (lt-ltb 0 (length g.self.s.now) some)
    (ap Err c.after.ensures ∙ refuses-entry g.self.a g.self.s.now g.st some _ (rw (c.from.ensures.0, c.requires) at c.in-Err.ensures.answer))
