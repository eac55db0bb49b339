-- `owner_at` meets its contract.
use Rattle.std.proofs.Common.{ap, sym, subst, ◌∙◌}
use Rattle.rules.proofs.Basics.Results.{handed-on}
use Rattle.descriptor.proofs.Marks.{accepts}
use Rattle.placement.specs.Owner.{owned_from, Near}
use Rattle.placement.proofs.Owns.{near, owns}
use Rattle.placement.proofs.Addressing.{owns-at, owns-refused, owns-nothing}
use Rattle.placement.proofs.owner_at.Goals as goal

pub owned-requires : goal.owned-requires
owned-requires c =
    let g = c.args in
    subst (λ x. Near x c.in-Some.offset) (sym c.in_ok-covered.ensures) (near g.desc.count g.desc.rw.now g.desc.ro.now c.in-Some.offset)

pub returns : goal.returns
returns c =
    let g = c.args in
    c.owned.ensures
    ∙ ap (λ x. owned_from x g.set c.in-Some.offset g.bit) c.in_ok-covered.ensures
    ∙ owns g.desc.count g.desc.rw.now g.desc.ro.now c.in-Some.offset g.set g.bit
    ∙ owns-at g.desc.count g.desc.rw.now g.desc.ro.now g.set g.page g.byte g.bit c.in-Some.offset c.in-Some.ensures

pub returns-in_err-covered : goal.returns-in_err-covered
returns-in_err-covered c =
    let g = c.args in
    handed-on _ c.from_residual-in_err-covered.ensures.1
    ∙ ap (λ x. owned_from x g.set c.in-Some.offset g.bit) c.in_err-covered.ensures
    ∙ owns g.desc.count g.desc.rw.now g.desc.ro.now c.in-Some.offset g.set g.bit
    ∙ owns-at g.desc.count g.desc.rw.now g.desc.ro.now g.set g.page g.byte g.bit c.in-Some.offset c.in-Some.ensures

pub returns-in_err-load : goal.returns-in_err-load
returns-in_err-load c =
    let g = c.args in
    handed-on _ c.from_residual.ensures.1
    ∙ owns-refused g.desc.count g.desc.rw.now g.desc.ro.now g.set g.page g.byte g.bit c.in_default.ensures _ (sym c.in_err-load.ensures)

pub returns-in_default : goal.returns-in_default
returns-in_default c =
    let g = c.args in
    owns-nothing g.desc.count g.desc.rw.now g.desc.ro.now g.set g.page g.byte g.bit c.in_default.ensures
    (accepts g.desc.count g.desc.rw.now g.desc.ro.now _ _ _ _ (sym c.in_ok-load.ensures))
