-- `map_text` meets its contract.
use Rattle.descriptor.proofs.Maps.{prints-short, prints-whole}
use Rattle.descriptor.proofs.map_text.Goals as goal

pub returns-then-input-ro_start : goal.returns-then-input-ro_start
returns-then-input-ro_start c =
    let x = prints-short c.args.input.now _ _ c.byte_at.ensures c.byte_at-ro_size.ensures c.if-input-ro_start.true c.put_refused.ensures in
    record { size = x.size; room = x.room; text = x.bytes }

pub returns : goal.returns
returns c =
    let x = prints-whole c.args.input.now _ _ c.byte_at.ensures c.byte_at-ro_size.ensures c.if-input-ro_start.false c.put_strings.ensures in
    record { size = x.size; room = x.room; text = x.bytes }
