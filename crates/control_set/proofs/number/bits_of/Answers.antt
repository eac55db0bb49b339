-- `bits_of` meets its contract.
use Rattle.std.proofs.Common.{◌≡◌, refl, rules}
use mir.Syntax.{w64}
use mir.Val.{to_z, of_z}
use mir.Facts.{to_z-of_z}
use Rattle.control_set.proofs.Signs.{bits-euclid}
use Rattle.control_set.proofs.number.bits_of.Goals as goal

pub returns : goal.returns
returns c =
    let plain : to_z w64 (of_z w64 c.rem_euclid.result) ≡ c.rem_euclid.result = search rules in
    let value = rw (to_z-of_z c.ranges.value) at c.rem_euclid.ensures.value in
    rw (plain, value, bits-euclid c.args.value c.requires) refl
