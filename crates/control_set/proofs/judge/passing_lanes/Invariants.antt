-- The lanes that pass in some part so far.
use Rattle.std.proofs.Common.{Bool, ℕ, ◌≡◌, ◌<◌, ◌^◌}
use Rattle.rules.specs.Numbers.{any}
use Rattle.control_set.specs.Field.{bits_at}
use Rattle.control_set.specs.Lanes.{Lanes}
use Rattle.control_set.proofs.judge.passing_lanes.Given as goal

abbrev pub invariant-loop-part : goal.invariant-loop-part
invariant-loop-part g l =
    (t : ℕ → Bool)
    → ((bits : ℕ) (v : Bool) → bits < 2 ^ g.row.WIDTH → goal.F-post g l.test bits v → v ≡ t bits)
    → Lanes 9 (λ i. any l.part-counter λ p. t (bits_at l.chosen.bank.now l.chosen.set l.f.offset p l.f.width i)) l.lanes
