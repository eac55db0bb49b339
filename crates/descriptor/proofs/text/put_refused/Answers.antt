-- `put_refused` meets its contract.
use native.Mathlib.Omega.{arith}
use mathlib.Core.Path.{refl}
use Rattle.std.proofs.Common.{rules}
use Rattle.rules.specs.MapProgram.{refused_line}
use Rattle.descriptor.proofs.Adds.{adds-then, printed}
use Rattle.descriptor.proofs.text.put_refused.Goals as goal

pub returns : goal.returns
unfolding refused_line
returns c =
    printed (adds-then c.push_text.ensures (rw c.number.ensures at c.line.ensures)) (omega arith) (omega arith) refl (search rules)
