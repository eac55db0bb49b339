-- `publish` meets its contract: each of its tests is the rules' test of that number.
use Rattle.std.proofs.Common.{◌≡◌, true, false, refl, ◌∙◌}
use mir.Facts.{to_z-of_z}
use Rattle.rules.specs.declared.Call.{Call}
use Rattle.rules.specs.Load.{map_of}
use Rattle.rules.specs.Refuse.{exists, misdirected, unaccepted}
use Rattle.rules.specs.Bank.{bank_plan, bank_does}
use Rattle.rules.specs.Place.{Field}
use Rattle.rules.proofs.Basics.Results.{handed-on}
use Rattle.control_set.proofs.Outcomes.{answered, call-11}
use Rattle.control_set.proofs.FieldCalls.{entered-opened, call-unfound, no-publish, publish-tested, publish-directed, publish-there}
use Rattle.control_set.proofs.Stores.{storable, call-stores}
use Rattle.control_set.proofs.publish.Goals as goal
use Rattle.control_set.proofs.publish.Goals.{In_ok-f, Else-not-f}

-- what is passed: 10 and 11
there : (c : In_ok-f) → let g = c.args in exists (map_of g.desc.count g.desc.rw.now g.desc.ro.now) (Call.Publish g.field g.value) ≡ true
there c = let g = c.args in publish-tested g.desc.count g.desc.rw.now g.desc.ro.now g.bank.now c.in_ok-f.ensures g.value

may : (c : Else-not-f) → let g = c.args in misdirected (map_of g.desc.count g.desc.rw.now g.desc.ro.now) (Call.Publish g.field g.value) ≡ false
may c = let g = c.args in publish-directed g.desc.count g.desc.rw.now g.desc.ro.now g.bank.now c.in_ok-f.ensures g.value ∙ c.if-not-f.false

-- the field
field : (c : In_ok-f) → let g = c.args in Field (map_of g.desc.count g.desc.rw.now g.desc.ro.now) 2 g.field.entry g.field.part g.field.lane
field c = let g = c.args in publish-there g.desc.count g.desc.rw.now g.desc.ro.now g.bank.now c.in_ok-f.ensures

pub returns-in_err-f : goal.returns-in_err-f
returns-in_err-f c =
    let g = c.args in
    answered
    (call-unfound g.desc.count g.desc.rw.now g.desc.ro.now g.bank.now g.field.entry g.field.part g.field.lane (Call.Publish g.field g.value) (λ l. no-publish g.desc.count g.desc.rw.now g.desc.ro.now g.bank.now g.field.entry g.field.part g.field.lane l g.value) _ c.in_err-f.ensures)
    (handed-on _ c.from_residual.ensures.1)
    refl

pub returns-then-not-f : goal.returns-then-not-f
returns-then-not-f c =
    let g = c.args in
    let t = c.in_ok-f.ensures in
    answered
    (call-11 g.desc.count g.desc.rw.now g.desc.ro.now (Call.Publish g.field g.value) g.bank.now (entered-opened g.desc.count g.desc.rw.now g.desc.ro.now g.bank.now t) (there (goal.at.returns-then-not-f c).In_ok-f) (publish-directed g.desc.count g.desc.rw.now g.desc.ro.now g.bank.now t g.value ∙ c.if-not-f.true))
    refl
    refl

pub store-requires : goal.store-requires
store-requires c =
    let g = c.args in
    rw (to_z-of_z c.ranges.value) (storable g.desc.count g.desc.rw.now g.desc.ro.now g.bank.now c.in_ok-f.ensures (field (goal.at.store-requires c).In_ok-f) g.value)

pub returns : goal.returns
unfolding unaccepted bank_plan bank_does
returns c =
    let g = c.args in
    let at = goal.at.returns c in
    answered
    (call-stores g.desc.count g.desc.rw.now g.desc.ro.now g.bank.now c.in_ok-f.ensures (Call.Publish g.field g.value) 2 g.value (field at.In_ok-f) (there at.In_ok-f) (may at.Else-not-f) refl refl refl)
    (rw (to_z-of_z c.ranges.value) at c.store.ensures.answer)
    (rw (to_z-of_z c.ranges.value) at c.store.ensures.after)
