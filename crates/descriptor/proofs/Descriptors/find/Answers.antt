-- `find` meets its contract.
use Rattle.std.proofs.Common.{◌≡◌, ◌≤◌, cond, Err, sym, ap, ◌∙◌}
use Rattle.rules.specs.Descriptor.{mask_bytes, entry_at}
use Rattle.rules.proofs.Basics.Results.{handed-on}
use Rattle.descriptor.specs.Find.{named_of, found_of, held_in}
use Rattle.descriptor.proofs.Limits.{limits-passed, limits-refused}
use Rattle.descriptor.proofs.Finds.{found-9, found-8, located-refused-found, located-sized, located-found}
use Rattle.descriptor.proofs.Descriptors.find.Goals as goal
use Rattle.descriptor.proofs.Descriptors.find.Goals.{In_ok-place}

-- what stands at the place that was found
reads : (c : In_ok-place) →
    let g = c.args in
    let x = c.in_ok-place.place in
    (held_in (named_of x.ro (entry_at (mask_bytes g.self.count) (cond x.ro g.self.ro.now g.self.rw.now) x.mark.at x.mark.sum)) g.field.part g.field.lane
    ≡ found_of g.self.count g.self.rw.now g.self.ro.now g.short g.field.entry g.field.part g.field.lane)
    × (x.mark.at ≤ 120)
reads c = let g = c.args in located-found g.self.count g.self.rw.now g.self.ro.now g.short g.field.entry g.field.part g.field.lane c.if-short.false _ _ _ (sym c.in_ok-place.ensures)

pub returns-in_err-check_limits : goal.returns-in_err-check_limits
returns-in_err-check_limits c =
    let g = c.args in
    let (p, q) = limits-refused _ _ _ _ c.in_err-check_limits.ensures in
    handed-on _ c.from_residual.ensures.1 ∙ ap Err q ∙ found-9 g.self.count g.self.rw.now g.self.ro.now g.short g.field.entry g.field.part g.field.lane p

pub returns-then-short : goal.returns-then-short
returns-then-short c =
    let g = c.args in
    found-8 g.self.count g.self.rw.now g.self.ro.now g.short g.field.entry g.field.part g.field.lane (limits-passed _ _ _ _ c.in_ok-check_limits.ensures) c.if-short.true

pub walk-requires : goal.walk-requires
walk-requires c =
    let g = c.args in
    located-sized g.self.count g.self.rw.now g.self.ro.now g.short g.field.entry g.field.part g.field.lane c.if-short.false _ _ _ (sym c.in_ok-place.ensures)

pub named-requires : goal.named-requires
named-requires c = (reads (goal.at.named-requires c).In_ok-place).1

pub returns-in_err-place : goal.returns-in_err-place
returns-in_err-place c =
    let g = c.args in
    handed-on _ c.from_residual-in_err-place.ensures.1 ∙ (located-refused-found g.self.count g.self.rw.now g.self.ro.now g.short g.field.entry g.field.part g.field.lane c.if-short.false _ (sym c.in_err-place.ensures))

pub returns : goal.returns
returns c =
    c.holding.ensures ∙ rw (c.named.ensures, c.walk.ensures.0, c.walk.ensures.1, c.walk.ensures.2) (reads (goal.at.returns c).In_ok-place).0
