-- `scan`: the walk so far is that of the rules.
use Rattle.std.proofs.Common.{length, ◌-◌}
use Rattle.descriptor.proofs.Scan.{Scanning}
use Rattle.descriptor.proofs.lent.Walk.scan.Given as goal

abbrev pub invariant-loop-at : goal.invariant-loop-at
invariant-loop-at l = Scanning l.self.in_ro l.self.a l.self.s.now l.one l.fn.begin l.at l.c

abbrev pub decreases-loop-at : goal.decreases-loop-at
decreases-loop-at l = length l.self.s.now - l.at
