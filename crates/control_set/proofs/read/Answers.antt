-- `read` meets its contract: each of its tests is the rules' test of that number.
use Rattle.std.proofs.Common.{◌≡◌, true, false, ◌&&◌, ⊎_elim, refl, sym, ap, ◌∙◌, w64, Err}
use mir.Facts.{to_z-of_z}
use Rattle.rules.specs.declared.Call.{Call}
use Rattle.rules.specs.Words.{number}
use Rattle.rules.specs.Load.{map_of}
use Rattle.rules.specs.Refuse.{exists, misdirected, unaccepted}
use Rattle.rules.specs.Bank.{bank_plan, bank_does}
use Rattle.rules.specs.Place.{is_set, is_staged, Field}
use Rattle.rules.proofs.Basics.Results.{handed-on}
use Rattle.descriptor.proofs.Sets.{shown-passed, shown-refused}
use Rattle.control_set.specs.Field.{Spot}
use Rattle.control_set.proofs.Outcomes.{answered, call-10, call-11, call-done}
use Rattle.control_set.proofs.FieldCalls.{entered-opened, call-unfound, no-read, read-tested, read-directed, read-there, spot-there, number-there}
use Rattle.control_set.proofs.read.Goals as goal
use Rattle.control_set.proofs.read.Goals.{In_ok-shown}

-- what is passed: 10 and 11
passed : (c : In_ok-shown) → (is_set c.args.set ≡ true) × ((is_staged c.args.set && c.in_ok-f.f.ro) ≡ false)
passed c = shown-passed c.in_ok-f.f c.args.set _ c.in_ok-shown.ensures

there : (c : In_ok-shown) → let g = c.args in exists (map_of g.desc.count g.desc.rw.now g.desc.ro.now) (Call.Read g.set g.field) ≡ true
there c = let g = c.args in read-tested g.desc.count g.desc.rw.now g.desc.ro.now g.bank.now c.in_ok-f.ensures g.set ∙ (passed c).0

may : (c : In_ok-shown) → let g = c.args in misdirected (map_of g.desc.count g.desc.rw.now g.desc.ro.now) (Call.Read g.set g.field) ≡ false
may c = let g = c.args in read-directed g.desc.count g.desc.rw.now g.desc.ro.now g.bank.now c.in_ok-f.ensures g.set ∙ (passed c).1

-- the field
field : (c : In_ok-shown) → let g = c.args in Field (map_of g.desc.count g.desc.rw.now g.desc.ro.now) g.set g.field.entry g.field.part g.field.lane
field c = let g = c.args in read-there g.desc.count g.desc.rw.now g.desc.ro.now g.bank.now c.in_ok-f.ensures g.set (passed c).0 (passed c).1

pub returns-in_err-f : goal.returns-in_err-f
returns-in_err-f c =
    let g = c.args in
    let h =
    answered
    (call-unfound g.desc.count g.desc.rw.now g.desc.ro.now g.bank.now g.field.entry g.field.part g.field.lane (Call.Read g.set g.field) (λ l. no-read g.desc.count g.desc.rw.now g.desc.ro.now g.bank.now g.field.entry g.field.part g.field.lane l g.set) _ c.in_err-f.ensures)
    (handed-on _ c.from_residual.ensures.1)
    refl
    in record { answer = h.answer }

pub returns-in_err-shown : goal.returns-in_err-shown
returns-in_err-shown c =
    let g = c.args in
    let t = c.in_ok-f.ensures in
    let o = entered-opened g.desc.count g.desc.rw.now g.desc.ro.now g.bank.now t in
    let q = read-tested g.desc.count g.desc.rw.now g.desc.ro.now g.bank.now t g.set in
    let r = handed-on _ c.from_residual-in_err-shown.ensures.1 in
    ⊎_elim
    (λ h. record { answer = r ∙ ap Err h.1 ∙ sym (ap (λ x. x.0) (call-10 g.desc.count g.desc.rw.now g.desc.ro.now (Call.Read g.set g.field) g.bank.now o (q ∙ h.0))) })
    (λ h. record {
      answer = r
          ∙ ap Err h.2
          ∙ sym (ap (λ x. x.0) (call-11 g.desc.count g.desc.rw.now g.desc.ro.now (Call.Read g.set g.field) g.bank.now o (q ∙ h.0) (read-directed g.desc.count g.desc.rw.now g.desc.ro.now g.bank.now t g.set ∙ h.1)));
    })
    (shown-refused c.in_ok-f.f g.set _ c.in_err-shown.ensures)

spot : (c : In_ok-shown) → let g = c.args in Spot g.bank.now g.set c.in_ok-f.f.fields.offset g.field.part c.in_ok-f.f.fields.width g.field.lane
spot c = let g = c.args in spot-there g.desc.count g.desc.rw.now g.desc.ro.now g.bank.now c.in_ok-f.ensures (field c)

pub invariant_of-lane : goal.invariant_of-lane
invariant_of-lane c = let s = spot (goal.at.invariant_of-lane c).In_ok-shown in record { real = (s.low, s.top) }

pub of-place-requires : goal.of-place-requires
of-place-requires c = let s = spot (goal.at.of-place-requires c).In_ok-shown in (s.bytes, s.whole, s.inside)

pub read_field-bits-requires : goal.read_field-bits-requires
read_field-bits-requires c = let s = spot (goal.at.read_field-bits-requires c).In_ok-shown in s.size

pub returns : goal.returns
unfolding unaccepted bank_plan bank_does
returns c =
    let g = c.args in
    let at = goal.at.returns c in
    let t = c.in_ok-f.ensures in
    let (byte, bit, width) = c.of-place.ensures in
    let x = rw (c.read_field-bits.ensures, byte, bit, width) at c.number_of.ensures in
    let n = to_z-of_z {w = w64} (record { sfits = c.number_of.type_inv }) ∙ x ∙ number-there g.desc.count g.desc.rw.now g.desc.ro.now g.bank.now t (field at.In_ok-shown) in
    let h =
    answered
    (call-done g.desc.count g.desc.rw.now g.desc.ro.now (Call.Read g.set g.field) g.bank.now (entered-opened g.desc.count g.desc.rw.now g.desc.ro.now g.bank.now t) (there at.In_ok-shown) (may at.In_ok-shown) refl refl)
    (ap number n)
    refl
    in record { answer = h.answer }
