-- `look`: so many entries are passed, their spaces end at the byte or before it, and each was counted.
use Rattle.std.proofs.Common.{◌≡◌, ◌+◌, ◌≤◌}
use Rattle.descriptor.specs.Marks.{mark_after}
use Rattle.descriptor.proofs.lent.Walk.look.Given as goal

abbrev pub invariant-loop-number : goal.invariant-loop-number
invariant-loop-number l =
    record {
      is : l.mark ≡ mark_after l.self.a l.self.s.now l.sum l.number;
      low : l.mark.sum ≤ l.offset;
      counted : l.looked ≡ l.initial.looked + l.number;
    }
