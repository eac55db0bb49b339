-- `entry_read` meets its contract.
use borrow.Author.Tests.{le-ltb}
use mathlib.Core.Path.{refl, sym, ◌∙◌}
use Prim.Native.Nat.{◌+◌, ◌≤◌}
use lib.Dec.{leb, leb→le}
use lib.ListN.{length}
use Rattle.rules.proofs.Basics.Tests.{and₂, from-true}
use Rattle.rules.specs.Descriptor.{mask_bytes}
use Rattle.rules.specs.Place.{parts_of, width_of, signed_of}
use Rattle.rules.specs.Parameter.{row_of}
use Rattle.descriptor.specs.Find.{named_of}
use Rattle.descriptor.specs.Marks.{OnEntry}
use Rattle.descriptor.specs.Reading.{read_by}
use Rattle.descriptor.proofs.EntryReads.{read-on}
use Rattle.descriptor.proofs.Descriptors.entry_read.Goals as goal

pub returns-then-mark-a : goal.returns-then-mark-a
returns-then-mark-a c =
    let g = c.args in
    let m = c.mask_bytes-a in
    let (p, q) = and₂ (leb g.mark.at 120) (leb g.mark.sum 256) (from-true c.if-mark.true) in
    -- an entry can stand there
    let on : OnEntry m.result g.self.rw.now g.mark
    = record { inside = c.if-mark-a.true; place = leb→le _ _ p; space = leb→le _ _ q } in
    c.read.ensures
    ∙ rw (c.rw_entry.ensures.0, c.rw_entry.ensures.1, c.rw_entry.ensures.2)
    (sym (read-on g.classes.now g.rows.now g.self.count g.self.rw.now g.mark (rw m.ensures.0 at on)))

pub returns-else-mark-a : goal.returns-else-mark-a
unfolding read_by named_of row_of parts_of width_of signed_of
returns-else-mark-a c =
    let g = c.args in
    let a = mask_bytes g.self.count in
    let h : length g.self.rw.now ≤ g.mark.at + 2 + a = rw c.mask_bytes-a.ensures.0 at c.if-mark-a.false in
    rw (c.if-mark.true, le-ltb (g.mark.at + 2 + a) (length g.self.rw.now) h) refl

pub returns-else-mark : goal.returns-else-mark
unfolding read_by named_of row_of parts_of width_of signed_of
returns-else-mark c = rw c.if-mark.false refl
