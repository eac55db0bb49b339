-- The law of `fold_by`, for every walk of a string: the fold from a later place on is the fold of the whole.
-- A loop over a string keeps `Folded` as its invariant: it begins so, goes past an entry so, and ends by `done` or `out`.
use Rattle.std.specs.Prelude.{Ok}
use mathlib.Core.Path.{◌≡◌, refl, sym, ◌∙◌}
use mathlib.Core.List.{List}
use Prim.Native.Nat.{ℕ, zero, suc, ◌+◌, ◌≤◌, ◌<◌}
use native.Mathlib.Omega.{arith}
use lib.ListN.{length}
use borrow.Author.Tests.{lt-ltb, le-ltb}
use Rattle.rules.specs.Words.{Entry, State}
use Rattle.rules.specs.Descriptor.{decode_at, limited}
use Rattle.rules.specs.Load.{next, Turn, fold_by, fold_of}
use Rattle.rules.proofs.Load.Checks.{decode-passed}

pub record Folded {A : Type 0} (on : Turn A) (end : State → A) (a : ℕ) (s : List ℕ) (at₀ : ℕ) (st₀ : State) (at : ℕ) (st : State) : Type 0 where
  pub fuel : ℕ
  pub enough : length s ≤ at + fuel
  pub same : fold_by limited on end a fuel s at st ≡ fold_of limited on end a s at₀ st₀

pub more : (f n at : ℕ) → n ≤ at + f → at < n → (k : ℕ) × (f ≡ suc k)
more zero n at g h = absurd (omega arith)
more (suc f) n at g h = (f, refl)

module _ {A : Type 0} (on : Turn A) (end : State → A) (a : ℕ) (s : List ℕ) where
  pub begin : (at : ℕ) (st : State) → Folded on end a s at st at st
  unfolding fold_of
  begin at st = record { fuel = length s; enough = omega arith; same = refl }

  pub done-by : (f at : ℕ) (st : State) → length s ≤ at → fold_by limited on end a f s at st ≡ end st
  unfolding fold_by
  done-by zero at st h = refl
  done-by (suc f) at st h = rw (le-ltb at (length s) h)

  pub turn-by :
      (f at : ℕ) (st : State)
      → at < length s
      → fold_by limited on end a (suc f) s at st ≡ on (decode_at a s at st) st (λ e. fold_by limited on end a f s (at + e.length) (next st e))
  unfolding fold_by
  turn-by f at st h = rw (lt-ltb at (length s) h)

module _ {A : Type 0} {on : Turn A} {end : State → A} {a : ℕ} {s : List ℕ} {at₀ : ℕ} {st₀ : State} {at : ℕ} {st : State}
    (r : Folded on end a s at₀ st₀ at st) where
  -- no byte is left
  pub done : length s ≤ at → end st ≡ fold_of limited on end a s at₀ st₀
  done h = sym (done-by on end a s r.fuel at st h) ∙ r.same

  module _ (h : at < length s) where
    rest : (k : ℕ) → r.fuel ≡ suc k → on (decode_at a s at st) st (λ e. fold_by limited on end a k s (at + e.length) (next st e)) ≡ fold_of limited on end a s at₀ st₀
    rest k q = sym (turn-by on end a s k at st h) ∙ (rw q at r.same)

    -- a turn that ends the walk with the answer x
    pub out : (x : A) → ((k : Entry → A) → x ≡ on (decode_at a s at st) st k) → x ≡ fold_of limited on end a s at₀ st₀
    out x g =
        let m = more r.fuel (length s) at r.enough h in
        g (λ e. fold_by limited on end a m.0 s (at + e.length) (next st e)) ∙ rest m.0 m.1

    -- a turn that goes on past an entry
    pub turn :
        (e : Entry)
        → decode_at a s at st ≡ Ok e
        → ((k : Entry → A) → k e ≡ on (Ok e) st k)
        → Folded on end a s at₀ st₀ (at + e.length) (next st e)
    turn e d g =
        let m = more r.fuel (length s) at r.enough h in
        let p = decode-passed a s at st e d in
        record {
          fuel = m.0;
          enough = omega arith;
          same = g (λ x. fold_by limited on end a m.0 s (at + x.length) (next st x)) ∙ (rw d at (rest m.0 m.1));
        }
