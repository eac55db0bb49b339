-- `passing_lanes` meets its contract.
use Rattle.std.proofs.Common.{◌≡◌, arith}
use Rattle.rules.specs.Numbers.{any}
use Rattle.rules.proofs.Bank.Places.{named-has-bytes}
use Rattle.control_set.specs.Field.{bits_at}
use Rattle.control_set.specs.Plan.{passing}
use Rattle.control_set.proofs.LaneMasks.{lanes-any, lanes-zero}
use Rattle.control_set.proofs.Spots.{bits-at-lt}
use Rattle.control_set.proofs.JudgedFields.{spread-spot}
use Rattle.control_set.proofs.judge.passing_lanes.Goals as goal

pub loop-part-init : goal.loop-part-init
unfolding any
loop-part-init g c t h i l u = lanes-zero i

pub lanes_where-lanes-requires : goal.lanes_where-lanes-requires
lanes_where-lanes-requires g c lane =
    let a = c.args in
    let k = a.chosen in (
      rw c.requires.width_value (spread-spot a.f k.bank.now k.asked.size k.set (named-has-bytes k.set (omega (arith, k.asked.staged))) c.loop-part.part-counter lane.number c.loop-part-test.true lane.real.0 lane.real.1),
      c.requires.callable _ (bits-at-lt k.bank.now k.set a.f.fields.offset c.loop-part.part-counter g.row.WIDTH lane.number),
    )

pub loop-part-preserved : goal.loop-part-preserved
loop-part-preserved g c t h =
    let a = c.args in
    lanes-any (λ p i. t (bits_at a.chosen.bank.now a.chosen.set a.f.fields.offset p a.f.fields.width i)) _ _ _ (c.loop-part.invariant t h)
    (λ i l u.
    let k = bits-at-lt a.chosen.bank.now a.chosen.set a.f.fields.offset c.loop-part.part-counter g.row.WIDTH i in
    let q = c.lanes_where-lanes.ensures (record { number = i; real = (l, omega arith) }) in
    rw (← c.requires.width_value) (h _ _ k q.1))

pub returns : goal.returns
unfolding passing
returns g c t h =
    let e : c.loop-part.part-counter ≡ c.args.f.fields.parts = omega arith in
    rw e at (c.loop-part.invariant t h)
