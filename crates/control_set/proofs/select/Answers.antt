-- `select` meets its contract: each of its tests is the rules' test of that number.
use borrow.Author.Rules.{rules}
use lib.Dec.{leb}
use Rattle.std.proofs.Common.{◌≡◌, ◌≤◌, ◌&&◌, true, false, refl, arith, eq-eqb}
use borrow.Author.Tests.{lt-ltb, le-ltb, ne_eqb}
use Rattle.rules.specs.declared.Call.{Call}
use Rattle.rules.specs.Load.{map_of, map_within}
use Rattle.rules.specs.Refuse.{exists, misdirected, unaccepted}
use Rattle.rules.specs.Bank.{bank_plan, bank_does}
use Rattle.rules.proofs.Basics.Results.{handed-on}
use Rattle.control_set.proofs.Outcomes.{answered, count-top, call-shut, call-10, call-11, call-12, call-done}
use Rattle.control_set.proofs.select.Goals as goal
use Rattle.control_set.proofs.select.Goals.{Else-not-set-contains, Else-set-eq2, Else-desc-app}

-- what is passed: 10, 11 and 12
there : (c : Else-not-set-contains) → let g = c.args in exists (map_of g.desc.count g.desc.rw.now g.desc.ro.now) (Call.Select g.set g.lane g.app) ≡ true
unfolding exists
there c =
    let is : c.contains.result ≡ (leb 1 c.args.lane && leb c.args.lane 8) = search rules in
    rw is at c.if-not-set-contains.false

may : (c : Else-set-eq2) → let g = c.args in misdirected (map_of g.desc.count g.desc.rw.now g.desc.ro.now) (Call.Select g.set g.lane g.app) ≡ false
unfolding misdirected
may c = ne_eqb _ _ c.if-set-eq2.false

fine : (c : Else-desc-app) → let g = c.args in unaccepted (map_of g.desc.count g.desc.rw.now g.desc.ro.now) (Call.Select g.set g.lane g.app) ≡ false
unfolding unaccepted map_within
fine c = le-ltb _ _ c.if-desc-app.false

pub returns-in_err-admit : goal.returns-in_err-admit
returns-in_err-admit c =
    let g = c.args in
    answered (call-shut g.desc.count g.desc.rw.now g.desc.ro.now (Call.Select g.set g.lane g.app) g.bank.now _ c.in_err-admit.ensures) (handed-on _ c.from_residual.ensures.1) refl

pub returns-then-not-set-contains : goal.returns-then-not-set-contains
unfolding exists
returns-then-not-set-contains c =
    let g = c.args in
    let is : c.contains.result ≡ (leb 1 g.lane && leb g.lane 8) = search rules in
    answered (call-10 g.desc.count g.desc.rw.now g.desc.ro.now (Call.Select g.set g.lane g.app) g.bank.now c.in_ok-admit.ensures (rw is at c.if-not-set-contains.true)) refl refl

pub returns-then-set-eq2 : goal.returns-then-set-eq2
unfolding misdirected
returns-then-set-eq2 c =
    let g = c.args in
    answered (call-11 g.desc.count g.desc.rw.now g.desc.ro.now (Call.Select g.set g.lane g.app) g.bank.now c.in_ok-admit.ensures (there (goal.at.returns-then-set-eq2 c).Else-not-set-contains) (eq-eqb _ _ c.if-set-eq2.true)) refl refl

pub returns-then-desc-app : goal.returns-then-desc-app
unfolding unaccepted map_within
returns-then-desc-app c =
    let g = c.args in
    let at = goal.at.returns-then-desc-app c in
    answered (call-12 g.desc.count g.desc.rw.now g.desc.ro.now (Call.Select g.set g.lane g.app) g.bank.now c.in_ok-admit.ensures (there at.Else-not-set-contains) (may at.Else-set-eq2) (lt-ltb _ _ c.if-desc-app.true)) refl refl

pub overflow_cast-bank : goal.overflow_cast-bank
overflow_cast-bank c =
    let g = c.args in
    let l : g.desc.count ≤ 15 = count-top g.desc.count g.desc.rw.now g.desc.ro.now c.in_ok-admit.ensures.loads in
    omega arith

pub returns : goal.returns
unfolding bank_plan bank_does
returns c =
    let g = c.args in
    let at = goal.at.returns c in
    answered
    (call-done g.desc.count g.desc.rw.now g.desc.ro.now (Call.Select g.set g.lane g.app) g.bank.now c.in_ok-admit.ensures (there at.Else-not-set-contains) (may at.Else-set-eq2) (fine at.Else-desc-app) refl)
    refl
    (rw c.app_sel_at.ensures.0 refl)
