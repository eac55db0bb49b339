-- `decimal` meets its contract.
use mathlib.Core.Path.{◌≡◌}
use Prim.Native.Nat.{◌/◌, ◌%◌}
use native.Mathlib.Omega.{arith}
use Rattle.rules.proofs.Program.Decimals.{decimal-one, decimal-two, decimal-three}
use Rattle.descriptor.proofs.Adds.{adds-then, adds-most}
use Rattle.descriptor.proofs.text.Text.decimal.Goals as goal
use Rattle.descriptor.proofs.text.Text.decimal.Goals.{then-n-ge100, else-n-ge100, then-n-ge10, else-n-ge10}

pub returns : goal.returns
returns c =
    elim c.if-n-ge100.branch [
      | then-n-ge100 v ↦
          elim c.if-n-ge10.branch [
            | then-n-ge10 w ↦
                let tens = rw v.self-is at w.digit-then-n-ge10.ensures in
                let ones = rw w.self-is at c.digit-2.ensures in
                rw (decimal-three _ v.if-n-ge100.true c.requires.0) (adds-then v.digit.ensures (adds-then tens ones))
            | else-n-ge10 w ↦ absurd (omega (arith, v.if-n-ge100.true, w.if-n-ge10.false))
          ]
      | else-n-ge100 v ↦
          elim c.if-n-ge10.branch [
            | then-n-ge10 w ↦
                let tens = rw v.self-is at w.digit-then-n-ge10.ensures in
                let ones = rw w.self-is at c.digit-2.ensures in
                let small : c.args.n / 10 % 10 ≡ c.args.n / 10 = omega (arith, v.if-n-ge100.false) in
                rw (decimal-two _ w.if-n-ge10.true v.if-n-ge100.false) (adds-most 3 (omega arith) (adds-then (rw small at tens) ones))
            | else-n-ge10 w ↦
                let small : c.args.n % 10 ≡ c.args.n = omega (arith, w.if-n-ge10.false) in
                let ones = rw (w.self-is, v.self-is, small) at c.digit-2.ensures in
                rw (decimal-one _ w.if-n-ge10.false) (adds-most 3 (omega arith) ones)
          ]
    ]
