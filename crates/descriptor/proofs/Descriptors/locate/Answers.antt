-- `locate` meets its contract.
use Rattle.std.proofs.Common.{◌∙◌, sym, refl, true, false, arith}
use Rattle.rules.proofs.Basics.Results.{handed-on}
use Rattle.descriptor.proofs.Limits.{load-sized}
use Rattle.descriptor.proofs.Locates.{located-refused, located-seeks, located-at, located-10}
use Rattle.descriptor.proofs.Descriptors.locate.Goals as goal

pub locate-requires : goal.locate-requires
locate-requires c =
    let g = c.args in
    rw (c.walk.ensures.0, c.walk.ensures.1) (located-seeks g.self.count g.self.rw.now g.self.ro.now g.entry _ _ _ _ (sym c.in_ok-loaded.ensures) false g.entry c.if-entry-loaded.true refl)

pub walk-requires : goal.walk-requires
walk-requires c = load-sized _ _ _ _ c.in_ok-loaded.ensures

pub walk-requires-then-n-loaded : goal.walk-requires-then-n-loaded
walk-requires-then-n-loaded c = load-sized _ _ _ _ c.in_ok-loaded.ensures

pub returns-then-entry-loaded : goal.returns-then-entry-loaded
returns-then-entry-loaded c =
    let g = c.args in
    rw (c.locate.ensures, c.walk.ensures.0, c.walk.ensures.1, c.walk.ensures.2)
    (located-at g.self.count g.self.rw.now g.self.ro.now g.entry _ _ _ _ (sym c.in_ok-loaded.ensures) false g.entry c.if-entry-loaded.true refl)

pub locate-requires-then-n-loaded : goal.locate-requires-then-n-loaded
locate-requires-then-n-loaded c =
    let g = c.args in
    rw (c.walk-then-n-loaded.ensures.0, c.walk-then-n-loaded.ensures.1) (located-seeks g.self.count g.self.rw.now g.self.ro.now g.entry _ _ _ _ (sym c.in_ok-loaded.ensures) true _ c.if-n-loaded.true (omega arith))

pub returns-then-n-loaded : goal.returns-then-n-loaded
returns-then-n-loaded c =
    let g = c.args in
    rw (c.locate-then-n-loaded.ensures, c.walk-then-n-loaded.ensures.0, c.walk-then-n-loaded.ensures.1, c.walk-then-n-loaded.ensures.2)
    (located-at g.self.count g.self.rw.now g.self.ro.now g.entry _ _ _ _ (sym c.in_ok-loaded.ensures) true _ c.if-n-loaded.true (omega arith))

pub returns-in_err-loaded : goal.returns-in_err-loaded
returns-in_err-loaded c =
    let g = c.args in
    handed-on _ c.from_residual.ensures.1 ∙ (located-refused g.self.count g.self.rw.now g.self.ro.now g.entry _ (sym c.in_err-loaded.ensures))

pub returns : goal.returns
returns c =
    let g = c.args in
    located-10 g.self.count g.self.rw.now g.self.ro.now g.entry _ _ _ _ (sym c.in_ok-loaded.ensures) (omega arith)
