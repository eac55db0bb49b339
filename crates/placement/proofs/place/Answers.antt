-- `place` meets its contract.
use Rattle.std.proofs.Common.{◌≤◌, ◌<◌, false, refl, sym, ◌∙◌, ⊎_elim, arith}
use Rattle.rules.proofs.Place.PlaceCalls.{place-refused}
use Rattle.rules.proofs.Basics.Results.{handed-on}
use Rattle.descriptor.specs.Find.{InMap}
use Rattle.descriptor.proofs.Finds.{found-refused, found-in}
use Rattle.descriptor.proofs.Sets.{shown-passed, shown-refused}
use Rattle.placement.proofs.Placing.{offset-small, width-small, asked, placing-10, placing-11, placing-at}
use Rattle.placement.proofs.Small.{There, product-fits, part-fits, place-fits}
use Rattle.placement.proofs.place.Goals as goal
use Rattle.placement.proofs.place.Goals.{In_ok-f}

-- the entry that was found, in what the match binds
in-map : (c : In_ok-f) → let g = c.args in InMap g.desc.count g.desc.rw.now g.desc.ro.now g.field.entry g.field.part g.field.lane c.in_ok-f.f
in-map c = let g = c.args in found-in g.desc.count g.desc.rw.now g.desc.ro.now false g.field.entry g.field.part g.field.lane refl _ (sym c.in_ok-f.ensures)

-- the part and the lane are there; the width and the entry's offset are small
there : (c : In_ok-f) → There c.args.field.part c.args.field.lane
there c = let g = c.args in asked g.desc.count g.desc.rw.now g.desc.ro.now (in-map c)

narrow : (c : In_ok-f) → c.in_ok-f.f.fields.width < 16
narrow c = let g = c.args in width-small g.desc.count g.desc.rw.now g.desc.ro.now (in-map c)

offset : (c : In_ok-f) → c.in_ok-f.f.fields.offset ≤ 256
offset c = let g = c.args in offset-small g.desc.count g.desc.rw.now g.desc.ro.now (in-map c)

pub returns-in_err-shown : goal.returns-in_err-shown
returns-in_err-shown c =
    let g = c.args in
    let z = in-map (goal.at.returns-in_err-shown c).In_ok-f in
    handed-on _ c.from_residual-in_err-shown.ensures.1
    ∙ ⊎_elim
    (λ h. rw h.1 (placing-10 g.desc.count g.desc.rw.now g.desc.ro.now z g.set h.0))
    (λ h. rw h.2 (placing-11 g.desc.count g.desc.rw.now g.desc.ro.now z g.set h.0 h.1))
    (shown-refused c.in_ok-f.f g.set _ c.in_err-shown.ensures)

pub overflow_sub-first : goal.overflow_sub-first
overflow_sub-first c = omega (arith, there (goal.at.overflow_sub-first c).In_ok-f)

pub overflow_mul-first : goal.overflow_mul-first
overflow_mul-first c =
    let k = (goal.at.overflow_mul-first c).In_ok-f in
    product-fits _ _ (omega (arith, there k)) (narrow k)

pub overflow_mul-offset : goal.overflow_mul-offset
overflow_mul-offset c =
    let k = (goal.at.overflow_mul-offset c).In_ok-f in
    product-fits _ _ (there k).part (narrow k)

pub overflow_add-offset : goal.overflow_add-offset
overflow_add-offset c =
    let k = (goal.at.overflow_add-offset c).In_ok-f in
    part-fits _ _ _ (offset k) (there k).part (narrow k)

pub overflow_add-offset-2 : goal.overflow_add-offset-2
overflow_add-offset-2 c =
    let k = (goal.at.overflow_add-offset-2 c).In_ok-f in
    place-fits _ _ _ (offset k) (there k).part (narrow k) _ (omega (arith, there k))

pub returns-in_err-f : goal.returns-in_err-f
returns-in_err-f c =
    let g = c.args in
    handed-on _ c.from_residual.ensures.1 ∙
    (place-refused g.desc.count g.desc.rw.now g.desc.ro.now g.set g.field.entry g.field.part g.field.lane _
    (found-refused g.desc.count g.desc.rw.now g.desc.ro.now false g.field.entry g.field.part g.field.lane refl _ (sym c.in_err-f.ensures)))

pub returns : goal.returns
returns c =
    let g = c.args in
    let h = shown-passed c.in_ok-f.f g.set _ c.in_ok-shown.ensures in
    c.placed_in.ensures ∙ placing-at g.desc.count g.desc.rw.now g.desc.ro.now (in-map (goal.at.returns c).In_ok-f) g.set h.0 h.1
