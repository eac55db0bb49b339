-- `byte_read` meets its contract: refused by the gate, or the byte where it has fields and 0 where it has none.
use Rattle.std.proofs.Common.{◌+◌, w64, pos, refl, ap, ◌∙◌}
use mir.Facts.{to_z-of_z}
use Rattle.rules.specs.declared.Call.{Call}
use Rattle.rules.specs.Words.{number}
use Rattle.rules.specs.Layout.{set_start}
use Rattle.rules.proofs.Refusals.CallOrder.{meets}
use Rattle.rules.proofs.Bank.Places.{named-has-bytes}
use Rattle.rules.proofs.Basics.Results.{handed-on}
use Rattle.control_set.proofs.ByteCalls.{byte-unreached, byte-read-away, byte-read-done}
use Rattle.control_set.proofs.byte_read.Goals as goal

pub returns-in_err-shown : goal.returns-in_err-shown
returns-in_err-shown c =
    let g = c.args in
    (meets (byte-unreached g.desc.count g.desc.rw.now g.desc.ro.now g.bank.now g.set g.offset (Call.ByteRead g.set g.offset) (byte-read-away g.desc.count g.desc.rw.now g.desc.ro.now g.bank.now g.set g.offset) _ c.in_err-shown.ensures) (handed-on _ c.from_residual.ensures.1) refl).0

pub byte_of-requires : goal.byte_of-requires
byte_of-requires c = (named-has-bytes _ c.in_ok-shown.ensures.is_set, c.in_ok-shown.ensures.top)

pub returns-then-shown : goal.returns-then-shown
returns-then-shown c =
    let g = c.args in
    (meets
    (byte-read-done g.desc.count g.desc.rw.now g.desc.ro.now g.bank.now g.set g.offset c.in_ok-shown.ensures (c.type_inv.bank (set_start g.set + g.offset)).fits)
    (ap number (to_z-of_z {w = w64} {z = c.from.result} (record { sfits = c.from.type_inv }) ∙ c.from.ensures) ∙ rw (c.if-shown.true, c.byte_of.ensures.0) refl)
    refl).0

pub returns : goal.returns
returns c =
    let g = c.args in
    (meets {r = number (pos 0)} (byte-read-done g.desc.count g.desc.rw.now g.desc.ro.now g.bank.now g.set g.offset c.in_ok-shown.ensures (c.type_inv.bank (set_start g.set + g.offset)).fits) (rw c.if-shown.false refl) refl).0
