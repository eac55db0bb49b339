-- `EntryAt::mask` meets its contract.
use mathlib.Core.Path.{sym, ◌∙◌}
use Prim.Native.Nat.{◌+◌}
use Rattle.rules.proofs.Load.Checks.{high-one}
use Rattle.descriptor.proofs.reading.EntryAt.mask.Goals as goal

pub returns-then-self-eq1 : goal.returns-then-self-eq1
returns-then-self-eq1 c =
    rw c.if-self-eq1.true (c.byte_at.ensures ∙ sym (high-one c.args.self.s.now (c.args.self.at + 2)))
