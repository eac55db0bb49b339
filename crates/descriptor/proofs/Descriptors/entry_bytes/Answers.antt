-- `entry_bytes` meets its contract.
use Rattle.std.proofs.Common.{◌≡◌, ℕ, ◌+◌, ◌-◌, ◌≤◌, ◌⊎◌, inl, inr, ⊎_elim, Bool, true, false, cond, List, length, take, drop, sym, arith}
use native.Mathlib.Nat.{add-sub_cancel_left}
use Rattle.rules.specs.Beside.{entry_bytes}
use Rattle.descriptor.proofs.Locates.{Span, located-empty, located-span}
use Rattle.descriptor.proofs.Descriptors.entry_bytes.Goals as goal
use Rattle.descriptor.proofs.Descriptors.entry_bytes.Goals.{In-Ok}

-- the entry's own bytes in the string that it stands in
span : (c : In-Ok) →
    let g = c.args in
    let x = c.in-Ok.found in
    Span (cond x.ro g.self.ro.now g.self.rw.now) x.mark.at x.length (entry_bytes g.self.count g.self.rw.now g.self.ro.now g.entry)
span c = let g = c.args in located-span g.self.count g.self.rw.now g.self.ro.now g.entry _ _ _ (sym c.in-Ok.ensures)

-- one of the two strings has it
either-has : (x : Bool) (l r : List ℕ) (n : ℕ) → n ≤ length (cond x l r) → (n ≤ length l) ⊎ (n ≤ length r)
either-has true l r n h = inl h
either-has false l r n h = inr h

-- a part, by its end
cut : {s b : List ℕ} {i n : ℕ} → Span s i n b → take (i + n - i) (drop i s) ≡ b
cut {s} {b} {i} {n} h = rw (add-sub_cancel_left i n) h.is

pub returns-in_default : goal.returns-in_default
returns-in_default c = let g = c.args in located-empty g.self.count g.self.rw.now g.self.ro.now g.entry _ (sym c.in_default.ensures)

pub overflow_add-end : goal.overflow_add-end
overflow_add-end c =
    let h = (span (goal.at.overflow_add-end c).In-Ok).inside in
    ⊎_elim (λ h. omega arith) (λ h. omega arith) (either-has c.in-Ok.found.ro c.args.self.ro.now c.args.self.rw.now _ h)

pub slice_bounds-result-end-2 : goal.slice_bounds-result-end-2
slice_bounds-result-end-2 c = let h = span (goal.at.slice_bounds-result-end-2 c).In-Ok in rw c.string.ensures h.inside

pub returns : goal.returns
returns c = let h = span (goal.at.returns c).In-Ok in rw c.string.ensures (cut h)
