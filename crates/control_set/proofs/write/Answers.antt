-- `write` meets its contract: each of its tests is the rules' test of that number.
use Rattle.std.proofs.Common.{◌≡◌, true, false, refl, ◌∙◌}
use mir.Facts.{to_z-of_z}
use borrow.Author.Tests.{lt-ltb, le-ltb}
use Rattle.rules.specs.declared.Call.{Call}
use Rattle.rules.specs.Load.{map_of}
use Rattle.rules.specs.Refuse.{exists, misdirected, unaccepted}
use Rattle.rules.specs.Bank.{bank_plan, bank_does}
use Rattle.rules.specs.Place.{Field}
use Rattle.rules.proofs.Basics.Results.{handed-on}
use Rattle.control_set.proofs.Outcomes.{answered, call-10, call-11}
use Rattle.control_set.proofs.FieldCalls.{entered-opened, call-unfound, no-write, write-tested, write-directed, write-there}
use Rattle.control_set.proofs.Stores.{storable, call-stores}
use Rattle.control_set.proofs.write.Goals as goal
use Rattle.control_set.proofs.write.Goals.{Else-not-set, Else-set-f}

-- what is passed: 10 and 11
there : (c : Else-not-set) → let g = c.args in exists (map_of g.desc.count g.desc.rw.now g.desc.ro.now) (Call.Write g.set g.field g.value) ≡ true
there c = let g = c.args in write-tested g.desc.count g.desc.rw.now g.desc.ro.now g.bank.now c.in_ok-f.ensures g.set g.value ∙ lt-ltb _ _ c.if-not-set.false

may : (c : Else-set-f) → let g = c.args in misdirected (map_of g.desc.count g.desc.rw.now g.desc.ro.now) (Call.Write g.set g.field g.value) ≡ false
may c = let g = c.args in write-directed g.desc.count g.desc.rw.now g.desc.ro.now g.bank.now c.in_ok-f.ensures g.set g.value ∙ c.if-set-f.false

-- the field
field : (c : Else-set-f) → let g = c.args in Field (map_of g.desc.count g.desc.rw.now g.desc.ro.now) g.set g.field.entry g.field.part g.field.lane
field c = let g = c.args in write-there g.desc.count g.desc.rw.now g.desc.ro.now g.bank.now c.in_ok-f.ensures g.set (lt-ltb _ _ c.if-not-set.false) c.if-set-f.false

pub returns-in_err-f : goal.returns-in_err-f
returns-in_err-f c =
    let g = c.args in
    answered
    (call-unfound g.desc.count g.desc.rw.now g.desc.ro.now g.bank.now g.field.entry g.field.part g.field.lane (Call.Write g.set g.field g.value) (λ l. no-write g.desc.count g.desc.rw.now g.desc.ro.now g.bank.now g.field.entry g.field.part g.field.lane l g.set g.value) _ c.in_err-f.ensures)
    (handed-on _ c.from_residual.ensures.1)
    refl

pub returns-then-not-set : goal.returns-then-not-set
returns-then-not-set c =
    let g = c.args in
    let t = c.in_ok-f.ensures in
    answered
    (call-10 g.desc.count g.desc.rw.now g.desc.ro.now (Call.Write g.set g.field g.value) g.bank.now (entered-opened g.desc.count g.desc.rw.now g.desc.ro.now g.bank.now t) (write-tested g.desc.count g.desc.rw.now g.desc.ro.now g.bank.now t g.set g.value ∙ le-ltb _ _ c.if-not-set.true))
    refl
    refl

pub returns-then-set-f : goal.returns-then-set-f
returns-then-set-f c =
    let g = c.args in
    let t = c.in_ok-f.ensures in
    answered
    (call-11 g.desc.count g.desc.rw.now g.desc.ro.now (Call.Write g.set g.field g.value) g.bank.now (entered-opened g.desc.count g.desc.rw.now g.desc.ro.now g.bank.now t) (there (goal.at.returns-then-set-f c).Else-not-set) (write-directed g.desc.count g.desc.rw.now g.desc.ro.now g.bank.now t g.set g.value ∙ c.if-set-f.true))
    refl
    refl

pub store-requires : goal.store-requires
store-requires c =
    let g = c.args in
    rw (to_z-of_z c.ranges.value) (storable g.desc.count g.desc.rw.now g.desc.ro.now g.bank.now c.in_ok-f.ensures (field (goal.at.store-requires c).Else-set-f) g.value)

pub returns : goal.returns
unfolding unaccepted bank_plan bank_does
returns c =
    let g = c.args in
    let at = goal.at.returns c in
    answered
    (call-stores g.desc.count g.desc.rw.now g.desc.ro.now g.bank.now c.in_ok-f.ensures (Call.Write g.set g.field g.value) g.set g.value (field at.Else-set-f) (there at.Else-not-set) (may at.Else-set-f) refl refl refl)
    (rw (to_z-of_z c.ranges.value) at c.store.ensures.answer)
    (rw (to_z-of_z c.ranges.value) at c.store.ensures.after)
