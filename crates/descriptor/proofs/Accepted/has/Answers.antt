-- `Accepted::has` meets its contract.
use Rattle.std.proofs.Common.{sym, ◌∙◌}
use mir.Facts.{to_z-of_z}
use Rattle.descriptor.specs.Find.{accepted_in}
use Rattle.descriptor.proofs.Accepts.{code-bit}
use Rattle.descriptor.proofs.Accepted.has.Goals as goal

pub returns-then-has : goal.returns-then-has
unfolding accepted_in
returns-then-has c =
    let plain = to_z-of_z c.ranges.value in
    let code = rw plain at (sym c.has-in-Codes.ensures ∙ c.if-has.true) in
    rw (c.in-Codes.is, plain, code) (code-bit c.in-Codes.codes c.args.value code)
