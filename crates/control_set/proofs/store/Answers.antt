-- `store` meets its contract: an accepted value's bits go into the field.
use borrow.Author.Rules.{rules}
use mathlib.Core.Path.{◌≡◌, ◌∙◌}
use mathlib.Core.Bool.{true, false}
use mir.Facts.{to_z-of_z}
use Rattle.descriptor.specs.Find.{accepted_by}
use Rattle.control_set.specs.Store.{store_of}
use Rattle.control_set.proofs.store.Goals as goal

pub returns-then-not-has-clause-after : goal.returns-then-not-has-clause-after
unfolding store_of
returns-then-not-has-clause-after c = let no : accepted_by c.args.f c.args.value ≡ false = search rules in rw no

pub returns-clause-after : goal.returns-clause-after
unfolding store_of
returns-clause-after c =
    let yes : accepted_by c.args.f c.args.value ≡ true = search rules in
    let stored = (rw (to_z-of_z c.ranges.value) at c.bits_of.ensures) ∙ (c.requires.bits yes).1 in
    let (byte, bit, width) = c.of-place.ensures in
    rw (yes, c.write_field.ensures, byte, bit, width, stored)
