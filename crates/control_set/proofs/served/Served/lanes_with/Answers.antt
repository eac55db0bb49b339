-- `lanes_with` meets its contract.
use Rattle.std.proofs.Common.{rules, arith}
use Rattle.control_set.proofs.served.Served.lanes_with.Goals as goal

pub returns : goal.returns
returns c i l u = let p = c.lanes_where.ensures (record { number = i; real = (l, omega arith) }) in search rules
