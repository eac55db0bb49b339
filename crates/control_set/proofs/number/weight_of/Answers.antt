-- `weight_of` meets its contract.
use Rattle.std.proofs.Common.{◌≡◌, ◌∙◌, rules, arith}
use lib.IntN.{pos}
use mir.Syntax.{w64}
use mir.Val.{to_z, of_z}
use mir.Facts.{to_z-of_z}
use Rattle.rules.specs.Accept.{thousandths, weight_of}
use Rattle.control_set.proofs.Signs.{weight-fits}
use Rattle.control_set.proofs.number.weight_of.Goals as goal

-- the two factors, as the machine reads them back
pub returns : goal.returns
unfolding weight_of
returns c =
    let scaled : to_z w64 (of_z w64 c.scale.result) ≡ pos (thousandths c.args.step) = to_z-of_z {w = w64} (record { sfits = c.scale.type_inv }) ∙ c.scale.ensures in
    let plain : to_z w64 (of_z w64 c.from.result) ≡ c.from.result = search rules in
    rw (plain, c.from.ensures, to_z-of_z c.ranges.value, scaled)
    (to_z-of_z (weight-fits c.args.step c.args.value (omega (arith, c.ranges.value.sfits))))
