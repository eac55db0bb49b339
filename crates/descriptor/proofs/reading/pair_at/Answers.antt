-- `pair_at` meets its contract.
use Rattle.std.proofs.Common.{sym, ◌∙◌}
use Rattle.rules.proofs.Load.Checks.{high-two}
use Rattle.descriptor.proofs.reading.pair_at.Goals as goal

pub returns : goal.returns
returns c = c.from_be_bytes.ensures ∙ rw (c.byte_at.ensures, c.byte_at-2.ensures) (sym (high-two c.args.s.now c.args.at))
