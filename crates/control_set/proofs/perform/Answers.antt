-- `perform` meets its contract: what is left are the calls that read, which leave the bank.
use Rattle.control_set.proofs.Outcomes.{read-keeps, byte-read-keeps}
use Rattle.control_set.proofs.perform.Goals as goal

pub returns-in-Read-clause-after : goal.returns-in-Read-clause-after
returns-in-Read-clause-after c = let g = c.args in rw c.in-Read.is (read-keeps g.desc.count g.desc.rw.now g.desc.ro.now g.bank.now _ _)

pub returns-in-ByteRead-clause-after : goal.returns-in-ByteRead-clause-after
returns-in-ByteRead-clause-after c = let g = c.args in rw c.in-ByteRead.is (byte-read-keeps g.desc.count g.desc.rw.now g.desc.ro.now g.bank.now _ _)
