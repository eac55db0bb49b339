-- `owned` meets its contract: 10 of the set, then of the bit, or the field that has the bit.
use Rattle.std.proofs.Common.{◌≡◌, refl, ap, ◌∙◌, Bool, true, false, ◌&&◌, not, Err}
use Rattle.std.proofs.lemmas.Bool.{lt-ltb, le-ltb}
use lib.Dec.{ltb}
use Rattle.rules.specs.Place.{is_set, is_staged}
use Rattle.rules.proofs.Basics.Results.{handed-on}
use Rattle.descriptor.proofs.Sets.{spaced-passed, spaced-refused}
use Rattle.placement.proofs.owned.Goals as goal

-- a test behind two others
behind : (a b t u : Bool) → (a && b) ≡ u → (a && (b && t)) ≡ (u && t)
behind true b t u h = ap (λ x. x && t) h
behind false b t u h = rw (← h) refl

pub returns-in_err-spaced : goal.returns-in_err-spaced
returns-in_err-spaced c =
    let g = c.args in
    let (p, q) = spaced-refused c.in-Some.c g.set _ c.in_err-spaced.ensures in
    handed-on _ c.from_residual.ensures.1
    ∙ ap Err q
    ∙ rw (c.in-Some.is, behind (is_set g.set) (not (is_staged g.set && c.in-Some.c.ro)) (ltb g.bit 8) false p) refl

pub returns-then-not-bit : goal.returns-then-not-bit
returns-then-not-bit c =
    let g = c.args in
    let p = spaced-passed c.in-Some.c g.set _ c.in_ok-spaced.ensures in
    rw (c.in-Some.is, behind (is_set g.set) (not (is_staged g.set && c.in-Some.c.ro)) (ltb g.bit 8) true p, le-ltb g.bit 8 c.if-not-bit.true) refl

pub returns : goal.returns
returns c =
    let g = c.args in
    let p = spaced-passed c.in-Some.c g.set _ c.in_ok-spaced.ensures in
    c.field_in.ensures
    ∙ rw (c.in-Some.is, behind (is_set g.set) (not (is_staged g.set && c.in-Some.c.ro)) (ltb g.bit 8) true p, lt-ltb g.bit 8 c.if-not-bit.false) refl
