-- `cover` meets its contract.
use Rattle.std.proofs.Common.{◌≡◌, ◌+◌, ◌*◌, ◌≤◌, true, false, sym, ◌∙◌, zero-add, arith}
use Rattle.rules.specs.Descriptor.{mask_bytes, entry_at, entry_limit}
use Rattle.rules.proofs.Basics.Results.{handed-on}
use Rattle.descriptor.specs.Find.{fields_of, named_of}
use Rattle.descriptor.specs.Cover.{by, cover_of, Misses}
use Rattle.descriptor.proofs.Limits.{load-sized}
use Rattle.descriptor.proofs.Covers.{cover-rejected, covers-few, covers-seeks, covers-found, covers-past, covers-none}
use Rattle.descriptor.proofs.Descriptors.cover.Goals as goal
use Rattle.descriptor.proofs.Descriptors.cover.Goals.{In-Some, In_default, In-Some-look, In_default-look}

-- none in the RW string
no-first : (c : In_default) → let g = c.args in Misses (mask_bytes g.self.count) g.self.rw.now 0 c.in_ok-loaded.loaded.rw_count g.offset 0 c.look.new.looked
no-first c = rw (← c.walk-rw.ensures.0, ← c.walk-rw.ensures.1) c.in_default.ensures.none

-- the entry that covers the byte
in-first : (c : In-Some) →
    let g = c.args in
    let h = c.in-Some.first in
    let e = entry_at (mask_bytes g.self.count) g.self.rw.now h.mark.at h.mark.sum in
    (by h.number (fields_of e) c.look.new.looked false ≡ cover_of g.self.count g.self.rw.now g.self.ro.now g.offset)
    × (h.number ≤ 2 * entry_limit)
in-first c =
    let g = c.args in
    covers-found g.self.count g.self.rw.now g.self.ro.now g.offset _ _ _ _ (sym c.in_ok-loaded.ensures) false (rw (← c.walk-rw.ensures.0, ← c.walk-rw.ensures.1) c.in-Some.ensures.hit)

in-last : (c : In-Some-look) →
    let g = c.args in
    let h = c.in-Some-look.last in
    let e = entry_at (mask_bytes g.self.count) g.self.ro.now h.mark.at h.mark.sum in
    let n = c.in_ok-loaded.loaded.rw_count + h.number in
    (by n (fields_of e) c.look-2.new.looked true ≡ cover_of g.self.count g.self.rw.now g.self.ro.now g.offset)
    × (n ≤ 2 * entry_limit)
in-last c =
    let g = c.args in
    let all = (no-first (goal.at.In-Some-look c).In_default).counted ∙ zero-add _ in
    covers-found g.self.count g.self.rw.now g.self.ro.now g.offset _ _ _ _ (sym c.in_ok-loaded.ensures) true (rw (← c.walk-ro.ensures.0, ← c.walk-ro.ensures.1, ← all) c.in-Some-look.ensures.hit)

pub walk-rw-requires : goal.walk-rw-requires
walk-rw-requires c = load-sized _ _ _ _ c.in_ok-loaded.ensures

pub walk-ro-requires : goal.walk-ro-requires
walk-ro-requires c = load-sized _ _ _ _ c.in_ok-loaded.ensures

pub look-requires : goal.look-requires
look-requires c =
    let g = c.args in (
      rw (c.walk-rw.ensures.0, c.walk-rw.ensures.1) (covers-seeks g.self.count g.self.rw.now g.self.ro.now g.offset _ _ _ _ (sym c.in_ok-loaded.ensures) false),
      omega arith,
      omega (arith, covers-few g.self.count g.self.rw.now g.self.ro.now g.offset _ _ _ _ (sym c.in_ok-loaded.ensures)),
    )

pub covered-requires : goal.covered-requires
covered-requires c = omega (arith, (in-first (goal.at.covered-requires c).In-Some).1)

pub returns-in-Some : goal.returns-in-Some
unfolding named_of
returns-in-Some c = rw (c.covered.ensures, c.walk-rw.ensures.0, c.walk-rw.ensures.1, c.walk-rw.ensures.2, zero-add c.in-Some.first.number) (in-first (goal.at.returns-in-Some c).In-Some).0

pub look-requires-2 : goal.look-requires-2
look-requires-2 c =
    let g = c.args in
    let h = no-first (goal.at.look-requires-2 c).In_default in (
      rw (c.walk-ro.ensures.0, c.walk-ro.ensures.1) (covers-seeks g.self.count g.self.rw.now g.self.ro.now g.offset _ _ _ _ (sym c.in_ok-loaded.ensures) true),
      covers-past g.self.count g.self.rw.now g.self.ro.now g.offset _ _ _ _ (sym c.in_ok-loaded.ensures) false h,
      omega (arith, h.counted, covers-few g.self.count g.self.rw.now g.self.ro.now g.offset _ _ _ _ (sym c.in_ok-loaded.ensures)),
    )

pub covered-requires-in-Some-look : goal.covered-requires-in-Some-look
covered-requires-in-Some-look c = (in-last (goal.at.covered-requires-in-Some-look c).In-Some-look).1

pub returns-in-Some-look : goal.returns-in-Some-look
unfolding named_of
returns-in-Some-look c =
    rw (c.covered-in-Some-look.ensures, c.walk-ro.ensures.0, c.walk-ro.ensures.1, c.walk-ro.ensures.2) (in-last (goal.at.returns-in-Some-look c).In-Some-look).0

pub returns-in_err-loaded : goal.returns-in_err-loaded
returns-in_err-loaded c =
    let g = c.args in
    handed-on _ c.from_residual.ensures.1 ∙ cover-rejected g.self.count g.self.rw.now g.self.ro.now g.offset _ (sym c.in_err-loaded.ensures)

pub returns : goal.returns
returns c =
    let g = c.args in
    let all = (no-first (goal.at.returns c).In_default).counted ∙ zero-add _ in
    let h : Misses (mask_bytes g.self.count) g.self.ro.now c.in_ok-loaded.loaded.staged_length c.in_ok-loaded.loaded.ro_count g.offset c.in_ok-loaded.loaded.rw_count c.look-2.new.looked =
    rw (← c.walk-ro.ensures.0, ← c.walk-ro.ensures.1, ← all) c.in_default-look.ensures.none in
    covers-none g.self.count g.self.rw.now g.self.ro.now g.offset _ _ _ _ (sym c.in_ok-loaded.ensures) (covers-past g.self.count g.self.rw.now g.self.ro.now g.offset _ _ _ _ (sym c.in_ok-loaded.ensures) true h)
