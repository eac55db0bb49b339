-- `check_size` meets its contract.
use Rattle.std.proofs.Common.{arith}
use Rattle.rules.proofs.Bank.Places.{size-is}
use Rattle.rules.proofs.Refusals.CallOrder.{bank-order-9, bank-order-8}
use Rattle.rules.proofs.Basics.Results.{handed-on}
use Rattle.descriptor.proofs.Limits.{limits-passed, limits-refused}
use Rattle.control_set.proofs.gate.check_size.Goals as goal

pub returns-in_err-check_limits : goal.returns-in_err-check_limits
returns-in_err-check_limits c =
    let g = c.args in
    let (p, q) = limits-refused _ _ _ _ c.in_err-check_limits.ensures in
    rw (handed-on _ c.from_residual.ensures.1, q) (λ rest. bank-order-9 g.desc.count g.desc.rw.now g.desc.ro.now rest g.size p)

pub returns-then-size-lt-BANK_SIZE : goal.returns-then-size-lt-BANK_SIZE
returns-then-size-lt-BANK_SIZE c =
    λ rest. let g = c.args in bank-order-8 g.desc.count g.desc.rw.now g.desc.ro.now rest g.size (limits-passed _ _ _ _ c.in_ok-check_limits.ensures) (omega (arith, size-is))

pub returns : goal.returns
returns c = (limits-passed _ _ _ _ c.in_ok-check_limits.ensures, omega (arith, size-is))
