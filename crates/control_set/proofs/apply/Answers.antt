-- `apply` meets its contract: each of its tests is the rules' test of that number, and its copy is theirs.
use Rattle.std.proofs.Common.{ℕ, ◌<◌, get_or, refl, arith}
use borrow.Author.Tests.{lt-ltb, le-ltb, eq-eqb}
use Rattle.rules.specs.declared.Call.{Call}
use Rattle.rules.proofs.Basics.Results.{handed-on}
use Rattle.control_set.proofs.Outcomes.{answered, call-shut}
use Rattle.control_set.proofs.Plans.{planned-none, no-bits}
use Rattle.control_set.proofs.Applies.{walk, staged-most, staged-none, apply-asked, apply-10, apply-11, apply-13, apply-14, apply-done, apply-copied}
use Rattle.control_set.proofs.apply.Goals as goal
use Rattle.control_set.proofs.apply.Goals.{In_ok-loaded}

-- the bank before the copy
bytes : (c : In_ok-loaded) → (j : ℕ) → get_or c.args.bank.now j 0 < 256
bytes c j = (c.type_inv.bank j).fits

pub returns-then-set-gt2 : goal.returns-then-set-gt2
returns-then-set-gt2 c =
    let g = c.args in
    answered (apply-10 g.desc.count g.desc.rw.now g.desc.ro.now _ _ _ _ c.in_ok-loaded.ensures.loads g.set g.lanes g.bank.now c.in_ok-loaded.ensures.size-is (le-ltb g.set 3 (omega arith))) refl refl

pub returns-then-set-eq2 : goal.returns-then-set-eq2
returns-then-set-eq2 c =
    let g = c.args in
    answered (apply-11 g.desc.count g.desc.rw.now g.desc.ro.now _ _ _ _ c.in_ok-loaded.ensures.loads g.set g.lanes g.bank.now c.in_ok-loaded.ensures.size-is (lt-ltb g.set 3 (omega arith)) (eq-eqb _ 2 c.if-set-eq2.true)) refl refl

pub invariant_of-chosen : goal.invariant_of-chosen
invariant_of-chosen c =
    let g = c.args in
    record { asked = apply-asked g.desc.count g.desc.rw.now g.desc.ro.now _ _ _ _ c.in_ok-loaded.ensures.loads g.set g.lanes g.bank.now c.in_ok-loaded.ensures.size-is (omega arith) }

pub returns-in_err-served : goal.returns-in_err-served
returns-in_err-served c =
    let g = c.args in
    answered (apply-13 g.desc.count g.desc.rw.now g.desc.ro.now _ _ _ _ c.in_ok-loaded.ensures.loads _ refl _ c.in_err-served.ensures) (handed-on _ c.from_residual-in_err-served.ensures.1) refl

pub plan_all-requires : goal.plan_all-requires
plan_all-requires c =
    let g = c.args in
    rw c.in_ok-served.ensures
    (record {
      walk = walk g.desc.count g.desc.rw.now g.desc.ro.now _ _ _ _ c.in_ok-loaded.ensures.loads;
      planned = planned-none _ _ _ refl (no-bits 264);
    })

pub copy_planned-requires : goal.copy_planned-requires
copy_planned-requires c =
    let g = c.args in
    record {
      set = (omega arith, staged-most g.desc.count g.desc.rw.now g.desc.ro.now _ _ _ _ c.in_ok-loaded.ensures.loads, c.in_ok-loaded.ensures.size-is);
      none = staged-none g.desc.count g.desc.rw.now g.desc.ro.now _ _ _ _ c.in_ok-loaded.ensures.loads (rw c.in_ok-served.ensures at c.plan_all.ensures.after);
    }

pub returns-in_err-plan_all : goal.returns-in_err-plan_all
returns-in_err-plan_all c =
    let g = c.args in
    let e = c.in_ok-served.ensures in
    answered (apply-14 g.desc.count g.desc.rw.now g.desc.ro.now _ _ _ _ c.in_ok-loaded.ensures.loads _ refl (rw e at c.in_ok-served.served.serves.clear) _ (rw e at c.in_err-plan_all.ensures.answer)) (handed-on _ c.from_residual-in_err-plan_all.ensures.1) refl

pub returns-in_err-loaded : goal.returns-in_err-loaded
returns-in_err-loaded c =
    let g = c.args in
    answered (call-shut g.desc.count g.desc.rw.now g.desc.ro.now (Call.Apply g.set g.lanes) g.bank.now _ c.in_err-loaded.ensures) (handed-on _ c.from_residual.ensures.1) refl

pub returns : goal.returns
returns c =
    let g = c.args in
    let e = c.in_ok-served.ensures in
    answered (apply-done g.desc.count g.desc.rw.now g.desc.ro.now _ _ _ _ c.in_ok-loaded.ensures.loads _ refl (rw e at c.in_ok-served.served.serves.clear) (rw e at c.in_ok-plan_all.ensures.answer)) refl
    (apply-copied g.desc.count g.desc.rw.now g.desc.ro.now _ _ _ _ c.in_ok-loaded.ensures.loads _ refl (λ j _. bytes (goal.at.returns c).In_ok-loaded j) (rw e at c.plan_all.ensures.after) c.copy_planned.ensures)
