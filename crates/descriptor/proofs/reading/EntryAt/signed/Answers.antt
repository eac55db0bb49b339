-- `EntryAt::signed` meets its contract.
use Rattle.std.proofs.Common.{◌≡◌, rules}
use mir.Syntax.{w8, w64}
use mir.Val.{to_z, of_z}
use Rattle.descriptor.proofs.Wides.{as-signed}
use Rattle.descriptor.proofs.reading.EntryAt.signed.Goals as goal

pub returns : goal.returns
returns c =
    let plain : to_z w64 (of_z w64 c.from.result) ≡ c.from.result = search rules in
    let small : to_z w8 (of_z w8 c.cast_signed.result) ≡ c.cast_signed.result = search rules in
    rw (plain, c.from.ensures, small, c.cast_signed.ensures, c.byte.ensures) (as-signed _)
