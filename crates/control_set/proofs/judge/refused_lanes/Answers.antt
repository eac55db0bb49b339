-- `refused_lanes` meets its contract.
use Rattle.std.proofs.Common.{rules, not, sym, ◌∙◌}
use Rattle.rules.specs.Numbers.{bit_of}
use Rattle.control_set.specs.Plan.{in_range}
use Rattle.control_set.proofs.LaneMasks.{lanes-zero}
use Rattle.control_set.proofs.JudgedFields.{by-wide, by-none, by-patterns, by-range}
use Rattle.control_set.proofs.judge.refused_lanes.Goals as goal

pub returns-then-width-eq2 : goal.returns-then-width-eq2
returns-then-width-eq2 c i l u =
    let g = c.args in
    c.passing_lanes.ensures (λ n. not (bit_of c.patterns_read-patterns.result n)) (λ bits v h p. search rules) i l u
    ∙ rw c.patterns_read-patterns.ensures (by-patterns c.requires g.f.placed.some g.chosen.set g.chosen.bank.now i c.if-width.true)

pub returns-then-width : goal.returns-then-width
returns-then-width c i l u =
    let g = c.args in
    c.passing_lanes-then-width.ensures (λ n. not (bit_of c.patterns_read-patterns.result n)) (λ bits v h p. search rules) i l u
    ∙ rw c.patterns_read-patterns.ensures (by-patterns c.requires g.f.placed.some g.chosen.set g.chosen.bank.now i c.if-width.true)

pub passing_lanes-requires-then-has_range-clause-width_value : goal.passing_lanes-requires-then-has_range-clause-width_value
passing_lanes-requires-then-has_range-clause-width_value c = sym (by-wide c.requires c.if-width.false (sym c.has_range.ensures ∙ c.if-has_range.true))

pub returns-then-has_range : goal.returns-then-has_range
returns-then-has_range c i l u =
    let g = c.args in
    c.passing_lanes-then-has_range.ensures (λ n. not (in_range c.range_read-range.result n)) (λ bits v h p. search rules) i l u
    ∙ rw c.range_read-range.ensures
    (by-range c.requires g.f.placed.some g.chosen.set g.chosen.bank.now i c.if-width.false (sym c.has_range.ensures ∙ c.if-has_range.true))

pub returns : goal.returns
returns c i l u =
    lanes-zero i
    ∙ sym (by-none c.requires c.args.f.placed.some c.args.chosen.set c.args.chosen.bank.now i c.if-width.false (sym c.has_range.ensures ∙ c.if-has_range.false))
