-- `clear` meets its contract.
use Rattle.std.proofs.Common.{◌≡◌, ◌∙◌, length, replicate, take, refl, ap, arith}
use lib.ListN.{length-take}
use Rattle.rules.specs.Bank.{fresh_bank}
use Rattle.rules.proofs.Bank.Places.{size-is}
use Rattle.control_set.proofs.clear.Goals as goal

pub slice_bounds-fill-end : goal.slice_bounds-fill-end
slice_bounds-fill-end c = omega (arith, size-is)

pub slice_bounds-fill-end-2 : goal.slice_bounds-fill-end-2
slice_bounds-fill-end-2 c = simp length-take (omega (arith, size-is))

pub returns : goal.returns
unfolding fresh_bank
returns c =
    let n : length (take 784 c.args.bank.now) ≡ 784 = simp length-take (omega (arith, size-is)) in
    let k : c.fill.new.self ≡ replicate 784 0 = c.fill.ensures.after (λ y e. e) ∙ ap (λ i. replicate i 0) n in
    rw (size-is, k) refl
