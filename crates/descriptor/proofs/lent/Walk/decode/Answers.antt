-- `decode` meets its contract: 16 is tested as the rules test it, and `checked` does the rest.
use Rattle.std.proofs.Common.{refl, arith}
use Rattle.std.proofs.lemmas.Bool.{le-leb, lt-leb}
use Rattle.rules.specs.Descriptor.{entry_limit, refuse, decode_within}
use Rattle.descriptor.proofs.lent.Walk.decode.Goals as goal

pub returns-then-c-ge-ENTRY_LIMIT : goal.returns-then-c-ge-ENTRY_LIMIT
unfolding decode_within refuse
returns-then-c-ge-ENTRY_LIMIT c = rw (le-leb entry_limit c.args.c.entries (omega arith)) refl

pub returns : goal.returns
unfolding decode_within refuse
returns c = rw (lt-leb entry_limit c.args.c.entries (omega arith)) c.checked.ensures
