-- `byte_write` meets its contract: refused by the gate, or 11, or the byte where it has fields and 0 where it has none.
use Rattle.std.proofs.Common.{refl, arith}
use Rattle.rules.specs.declared.Call.{Call}
use Rattle.rules.proofs.Bank.Places.{named-has-bytes}
use Rattle.rules.proofs.Basics.Results.{handed-on}
use Rattle.control_set.proofs.ByteCalls.{byte-unreached, byte-write-away, byte-write-11, byte-write-done}
use Rattle.control_set.proofs.Outcomes.{answered}
use Rattle.control_set.proofs.byte_write.Goals as goal
use Rattle.control_set.proofs.byte_write.Goals.{then-fields, else-fields}

pub returns-in_err-fields : goal.returns-in_err-fields
returns-in_err-fields c =
    let g = c.args in
    answered (byte-unreached g.desc.count g.desc.rw.now g.desc.ro.now g.bank.now g.set g.offset (Call.ByteWrite g.set g.offset g.value) (byte-write-away g.desc.count g.desc.rw.now g.desc.ro.now g.bank.now g.set g.offset g.value) _ c.in_err-fields.ensures) (handed-on _ c.from_residual.ensures.1) refl

pub returns-then-set-eq2 : goal.returns-then-set-eq2
returns-then-set-eq2 c =
    let g = c.args in
    answered (byte-write-11 g.desc.count g.desc.rw.now g.desc.ro.now g.bank.now g.set g.offset c.in_ok-fields.ensures g.value c.if-set-eq2.true) refl refl

pub byte_of-requires : goal.byte_of-requires
byte_of-requires c = (named-has-bytes _ c.in_ok-fields.ensures.is_set, c.in_ok-fields.ensures.top)

pub returns : goal.returns
returns c =
    let g = c.args in
    let e = byte-write-done g.desc.count g.desc.rw.now g.desc.ro.now g.bank.now g.set g.offset c.in_ok-fields.ensures g.value c.if-set-eq2.false (omega (arith, c.ranges.value)) in
    elim c.if-fields.branch [
      | then-fields w ↦ answered (rw (w.if-fields.true, ← c.byte_of.ensures.0) at e) refl (rw w.bank-is refl)
      | else-fields w ↦ answered (rw (w.if-fields.false, ← c.byte_of.ensures.0) at e) refl (rw w.bank-is refl)
    ]
