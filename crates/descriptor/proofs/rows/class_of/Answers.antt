-- `class_of` meets its contract.
use Rattle.std.proofs.Common.{◌≡◌, refl, ◌∙◌}
use Rattle.descriptor.specs.Rows.{class_of}
use Rattle.descriptor.proofs.TableRows.{class-small}
use Rattle.descriptor.proofs.LentRows.{class-table}
use Rattle.descriptor.proofs.rows.class_of.Goals as goal

pub returns : goal.returns
returns c =
    let id = c.args.id in
    let q : c.class_in.result ≡ class_of id = c.class_in.ensures ∙ class-table id in
    rw q (refl, class-small id)
