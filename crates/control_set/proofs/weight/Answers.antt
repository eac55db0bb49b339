-- `weight` meets its contract: refused by the gate, or 10, or the active number of a 12h field by its step.
use borrow.Author.Rules.{rules}
use Rattle.std.proofs.Common.{◌≡◌, true, sym, ap, ◌∙◌, w8, w64, to_z, of_z}
use mir.Facts.{to_z-of_z}
use Rattle.rules.specs.Words.{number}
use Rattle.rules.proofs.Basics.Results.{handed-on}
use Rattle.control_set.specs.Field.{Spot, bits_at}
use Rattle.control_set.specs.Values.{number_by}
use Rattle.control_set.proofs.FieldCalls.{weight-unfound, weight-10, weight-spot, weight-is}
use Rattle.control_set.proofs.weight.Goals as goal
use Rattle.control_set.proofs.weight.Goals.{In-Some, After-cast_signed}

-- the number of its bits, as the machine hands it on
numbered : (c : After-cast_signed) →
    to_z w8 (of_z w8 c.cast_signed.result) ≡ number_by true (bits_at c.args.bank.now 2 c.in_ok-f.f.fields.offset 0 c.in_ok-f.f.fields.width c.args.lane)
numbered c =
    let is : c.cast_signed.result ≡ number_by true c.read_field-bits.result = search rules in
    let (byte, bit, width) = c.of-place.ensures in
    let small : to_z w8 (of_z w8 c.cast_signed.result) ≡ c.cast_signed.result = search rules in
    small ∙ is ∙ ap (number_by true) (rw (byte, bit, width) at c.read_field-bits.ensures)

pub returns-in_err-f : goal.returns-in_err-f
returns-in_err-f c =
    let g = c.args in
    handed-on _ c.from_residual.ensures.1 ∙ weight-unfound g.desc.count g.desc.rw.now g.desc.ro.now g.bank.now g.entry g.lane _ c.in_err-f.ensures

pub returns-in_default : goal.returns-in_default
returns-in_default c =
    let g = c.args in
    weight-10 g.desc.count g.desc.rw.now g.desc.ro.now g.bank.now g.entry g.lane c.in_ok-f.ensures (sym c.in_default.is)

spot : (c : In-Some) → Spot c.args.bank.now 2 c.in_ok-f.f.fields.offset 0 c.in_ok-f.f.fields.width c.args.lane
spot c = let g = c.args in weight-spot g.desc.count g.desc.rw.now g.desc.ro.now g.bank.now g.entry g.lane c.in_ok-f.ensures c.in-Some.step (sym c.in-Some.is)

pub of-place-requires : goal.of-place-requires
of-place-requires c = let s = spot (goal.at.of-place-requires c).In-Some in (s.bytes, s.whole, s.inside)

pub read_field-bits-requires : goal.read_field-bits-requires
read_field-bits-requires c = let s = spot (goal.at.read_field-bits-requires c).In-Some in s.size

pub returns : goal.returns
returns c =
    let g = c.args in
    let w = rw (numbered (goal.at.returns c).After-cast_signed) at c.weight_of.ensures in
    ap number (to_z-of_z {w = w64} (record { sfits = c.weight_of.type_inv }) ∙ w)
    ∙ weight-is g.desc.count g.desc.rw.now g.desc.ro.now g.bank.now g.entry g.lane c.in_ok-f.ensures c.in-Some.step (sym c.in-Some.is)
