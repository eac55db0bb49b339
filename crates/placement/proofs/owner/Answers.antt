-- `owner` meets its contract.
use Rattle.std.proofs.Common.{ap, sym, subst, ◌∙◌}
use Rattle.rules.proofs.Basics.Results.{handed-on}
use Rattle.placement.specs.Owner.{owned_from, Near}
use Rattle.placement.proofs.Owns.{near, owns}
use Rattle.placement.proofs.owner.Goals as goal

pub owned-requires : goal.owned-requires
owned-requires c =
    let g = c.args in
    subst (λ x. Near x g.offset) (sym c.in_ok-covered.ensures) (near g.desc.count g.desc.rw.now g.desc.ro.now g.offset)

pub returns : goal.returns
returns c =
    let g = c.args in
    c.owned.ensures
    ∙ ap (λ x. owned_from x g.set g.offset g.bit) c.in_ok-covered.ensures
    ∙ owns g.desc.count g.desc.rw.now g.desc.ro.now g.offset g.set g.bit

pub returns-in_err-covered : goal.returns-in_err-covered
returns-in_err-covered c =
    let g = c.args in
    handed-on _ c.from_residual.ensures.1 ∙
    (ap (λ x. owned_from x g.set g.offset g.bit) c.in_err-covered.ensures ∙ owns g.desc.count g.desc.rw.now g.desc.ro.now g.offset g.set g.bit)
