-- `push_text`: the bytes so far are added.
use Rattle.std.proofs.Common.{take}
use Rattle.descriptor.specs.Text.{Adds}
use Rattle.descriptor.proofs.text.Text.push_text.Given as goal

abbrev pub invariant-loop-byte : goal.invariant-loop-byte
invariant-loop-byte l = Adds l.byte-index (take l.byte-index l.text) l.initial.self l.self
