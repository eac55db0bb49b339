-- Equal answers have equal values, and equal refusals are one.
use mathlib.Core.Path.{◌≡◌, ap, ◌∙◌}
use Prim.Native.Nat.{ℕ}
use native.Mathlib.Omega.{arith}
use Rattle.std.specs.Prelude.{Option, Some, None, Result, Ok, Err, IsErrAnd}
use Rattle.std.proofs.lemmas.Result.{err_from_is_err_and}
use Rattle.rules.specs.Words.{Refusal, Loaded, Placed, Field, Owned, Taken}

module _ {A E : Type 0} where
  pub ok-same : (x y : A) → ◌≡◌ {A = Result A E} (Ok x) (Ok y) → x ≡ y
  ok-same x y h = cc

  pub err-same : (x y : E) → ◌≡◌ {A = Result A E} (Err x) (Err y) → x ≡ y
  err-same x y h = cc

-- the numbers of two loads that are one
pub loaded-same : (x y : Loaded)
    → ◌≡◌ {A = Result Loaded Refusal} (Ok x) (Ok y)
    → (x.rw_count ≡ y.rw_count) × (x.ro_count ≡ y.ro_count) × (x.staged_length ≡ y.staged_length) × (x.active_length ≡ y.active_length)
loaded-same x y h =
    let q : x ≡ y = ok-same x y h in
    (ap (λ (l : Loaded). l.rw_count) q, ap (λ (l : Loaded). l.ro_count) q, ap (λ (l : Loaded). l.staged_length) q, ap (λ (l : Loaded). l.active_length) q)

pub taken-same : (x y : Taken) → ◌≡◌ {A = Result (Option Taken) Refusal} (Ok (Some x)) (Ok (Some y)) → (x.start ≡ y.start) × (x.length ≡ y.length)
taken-same x y h = let q : x ≡ y = cc in (ap (λ (t : Taken). t.start) q, ap (λ (t : Taken). t.length) q)

pub placed-same : (x y : Placed)
    → ◌≡◌ {A = Result Placed Refusal} (Ok x) (Ok y)
    → (x.offset ≡ y.offset) × (x.page ≡ y.page) × (x.byte ≡ y.byte) × (x.bit ≡ y.bit)
placed-same x y h =
    let q : x ≡ y = ok-same x y h in
    (ap (λ (l : Placed). l.offset) q, ap (λ (l : Placed). l.page) q, ap (λ (l : Placed). l.byte) q, ap (λ (l : Placed). l.bit) q)

-- a field that a bit belongs to, and how many entries are looked at
pub owned-same : (x y : Owned) → ◌≡◌ {A = Result Owned Refusal} (Ok x) (Ok y) → (x.field ≡ y.field) × (x.looked ≡ y.looked)
owned-same x y h = let q : x ≡ y = ok-same x y h in (ap (λ (o : Owned). o.field) q, ap (λ (o : Owned). o.looked) q)

pub some-same : (x y : Field) → ◌≡◌ {A = Option Field} (Some x) (Some y) → (x.entry ≡ y.entry) × (x.part ≡ y.part) × (x.lane ≡ y.lane)
some-same x y h = let q : x ≡ y = cc in (ap (λ (f : Field). f.entry) q, ap (λ (f : Field). f.part) q, ap (λ (f : Field). f.lane) q)

pub none-some : {x : Field} → ¬ (◌≡◌ {A = Option Field} None (Some x))
none-some h = let o : ◌≡◌ {A = ℕ} 0 1 = cc in absurd (omega arith)

-- what `?` hands on: the refusal as it is
pub handed-on : {A E : Type 0} {e : E} (r : Result A E) → IsErrAnd r (λ x. x ≡ e) → r ≡ Err e
handed-on r h = let p = err_from_is_err_and r h in p.1 ∙ ap Err p.2
