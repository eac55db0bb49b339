-- `plan_all` meets its contract.
use Rattle.std.proofs.Common.{◌≡◌, false, ℕ, suc, ◌≤◌, ◌<◌, refl, sym, ap, ◌∙◌, add-one, arith}
use Rattle.rules.specs.declared.Entry.{Entry}
use Rattle.rules.specs.Descriptor.{mask_bytes}
use Rattle.rules.specs.Place.{Width, parts_of, width_of}
use Rattle.descriptor.specs.declared.Read.{Read}
use Rattle.descriptor.specs.Find.{named_of, fields_of}
use Rattle.descriptor.specs.Marks.{mark_after}
use Rattle.descriptor.specs.declared.Fields.{Fields}
use Rattle.control_set.specs.Placed.{Placed}
use Rattle.control_set.specs.Plan.{Walk, rw_entry}
use Rattle.control_set.proofs.LaneMasks.{whole-width, width-le, lanes-at-lowest}
use Rattle.control_set.proofs.Plans.{no-bits, planned-start, upto-none, upto-skip, upto-next}
use Rattle.control_set.proofs.plan.plan_all.Goals as goal
use Rattle.control_set.proofs.plan.plan_all.Goals.{After-entry_read-entry, then-fields-gt0, else-fields-gt0}

-- the entries, as the string's are bytes
entries : (c : After-entry_read-entry) → Walk c.args.served.chosen.desc.count c.args.served.chosen.desc.rw.now c.args.entries
entries c = c.requires.walk

-- the next entry is read
known : (c : After-entry_read-entry) →
    let count = c.args.served.chosen.desc.count in
    let e = rw_entry count c.args.served.chosen.desc.rw.now c.loop.counter in
    let next = mark_after (mask_bytes count) c.args.served.chosen.desc.rw.now 0 (suc c.loop.counter) in
    ◌≡◌ {A = Read} c.entry_read-entry.result (record { mask = e.mask; named = named_of false e; next = next })
known c =
    let i = c.loop.invariant in
    c.entry_read-entry.ensures ∙ rw i.1 ((entries c).read _ c.loop-test.true)

-- and its fields
fields : (c : After-entry_read-entry) → ◌≡◌ {A = Fields} c.entry_read-entry.result.named.fields (fields_of (rw_entry c.args.served.chosen.desc.count c.args.served.chosen.desc.rw.now c.loop.counter))
unfolding named_of
fields c = ap (λ (x : Read). x.named.fields) (known c)

offset : (c : After-entry_read-entry) → c.entry_read-entry.result.named.fields.offset ≡ c.loop.mark.sum
unfolding named_of
offset c =
    let at = c.loop.invariant.1 in
    ap (λ (x : Fields). x.offset) (fields c) ∙ ap (λ (x : Entry). x.offset) (sym (rw (← at) at ((entries c).is _ c.loop-test.true)))

placed : (c : After-entry_read-entry) → let f = c.entry_read-entry.result.named.fields in 0 < f.parts → Placed f.offset f.parts f.width
placed c h = let k = fields c in rw k ((entries c).arranged.spread _ c.loop-test.true (rw k at h))

whole : (c : After-entry_read-entry) → 0 < c.entry_read-entry.result.named.fields.parts → Width c.entry_read-entry.result.named.fields.width
whole c h = whole-width _ (placed c h).whole

none : {n : ℕ} → n ≤ 0 → n ≡ 0
none h = omega arith

pub loop-init : goal.loop-init
unfolding mark_after
loop-init c = (omega arith, refl, upto-none _ _ _ _ refl (no-bits 9) c.requires.planned)

pub offset_bounds-spreads-fields : goal.offset_bounds-spreads-fields
offset_bounds-spreads-fields c =
    let w = width-le _ (whole (goal.at.offset_bounds-spreads-fields c).After-entry_read-entry c.if-fields-gt0.true) in
    record { fits = omega (arith, w) }

pub bounds-spreads-fields : goal.bounds-spreads-fields
bounds-spreads-fields c =
    omega (arith, width-le _ (whole (goal.at.bounds-spreads-fields c).After-entry_read-entry c.if-fields-gt0.true))

pub invariant_of-f : goal.invariant_of-f
invariant_of-f c = record { placed = placed (goal.at.invariant_of-f c).After-entry_read-entry c.if-fields-gt0.true }

pub plan_entry-requires : goal.plan_entry-requires
plan_entry-requires c =
    let r = (goal.at.plan_entry-requires c).After-entry_read-entry in
    let a = (entries r).arranged in
    let p = c.loop.invariant.2.planned in
    let k = fields r in
    let h = c.loop-test.true in
    ((c.lanes_of-last.ensures.cached.spread.by _ (whole r c.if-fields-gt0.true)).room, rw k (planned-start a h p _))

pub refused_lanes-bad-requires : goal.refused_lanes-bad-requires
unfolding named_of parts_of width_of
refused_lanes-bad-requires c =
    let r = (goal.at.refused_lanes-bad-requires c).After-entry_read-entry in
    let walk = entries r in
    let h = c.loop-test.true in
    let i = c.loop.invariant in
    let is = rw (← i.1) at (walk.is _ h) in
    record {
      low = rw i.1 (walk.low _ h);
      id = ap (λ (x : Entry). x.id) is ∙ sym (ap (λ (x : Read). x.named.id) (known r));
      parts = ap parts_of is ∙ sym (ap (λ (x : Fields). x.parts) (fields r));
      width = ap width_of is ∙ sym (ap (λ (x : Fields). x.width) (fields r));
    }

pub returns-clause-answer : goal.returns-clause-answer
returns-clause-answer c =
    let e : c.loop.counter ≡ c.args.entries = omega arith in
    lanes-at-lowest 14 _ _ _ (rw e at c.loop.invariant.2.lanes) c.at_lowest.ensures

pub loop-preserved : goal.loop-preserved
loop-preserved c =
    let r = (goal.at.loop-preserved c).After-entry_read-entry in
    let a = (entries r).arranged in
    let u = c.loop.invariant.2 in
    let k = fields r in
    let h = c.loop-test.true in
    let parts = ap (λ (x : Fields). x.parts) k in
    let width = ap (λ (x : Fields). x.width) k in
    let i = c.loop.invariant in (
      omega arith,
      rw (add-one c.loop.counter) (ap (λ (x : Read). x.next) (known r)),
      elim c.if-fields-gt0.branch [
        | then-fields-gt0 w ↦
            rw (w.plan-is, w.spreads-is, w.last-is, w.refused-is)
            (upto-next a h u w.refused_lanes-bad.result (rw (ap (λ (x : Read). x.mask) (known r)) at w.lanes_of-last.ensures.lanes) w.lanes_of-last.ensures.cached
            (rw (offset r, i.1, (entries r).is _ h) at w.refused_lanes-bad.ensures)
            (rw width at (whole r w.if-fields-gt0.true)) (rw k at w.plan_entry.ensures))
        | else-fields-gt0 w ↦ rw (w.plan-is, w.spreads-is, w.last-is, w.refused-is) (upto-skip a h u (none (rw parts at w.if-fields-gt0.false)))
      ],
    )
