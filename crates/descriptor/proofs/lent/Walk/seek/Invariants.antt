-- `seek`: so many entries are passed.
use Rattle.std.proofs.Common.{◌≡◌}
use Rattle.descriptor.specs.Marks.{mark_after}
use Rattle.descriptor.proofs.lent.Walk.seek.Given as goal

abbrev pub invariant-loop-i : goal.invariant-loop-i
invariant-loop-i l = l.mark ≡ mark_after l.self.a l.self.s.now l.sum l._i
