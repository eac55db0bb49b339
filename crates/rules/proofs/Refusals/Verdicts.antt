-- The first of several checks that refuses: what it says that none does, and how two lists of checks are compared.
use Rattle.std.specs.Prelude.{Result, Err}
use mathlib.Core.Path.{◌≡◌, refl}
use mathlib.Core.Bool.{Bool, true, false, not}
use mathlib.Core.List.{List, [], ◌∷◌, ◌++◌}
use Prim.Native.Nat.{ℕ, ◌≤◌}
use native.Mathlib.Omega.{arith}
use lib.Dec.{T}
use borrow.Author.Tests.{le-ltb}
use Rattle.rules.specs.Words.{Refusal, plain, Call, Answer}
use Rattle.rules.specs.Layout.{bank_size}
use Rattle.rules.specs.Load.{Map, read_of}
use Rattle.rules.specs.Refuse.{Verdict, passes, refuses, refuse_if, first_of, decide, check9, check8, check_entries, order_of, bank_order, exists, misdirected, unaccepted, judge}
use Rattle.rules.proofs.Basics.Tests.{is-true, is-false}

-- refuse_if and first_of

pub refuse-if-passes : (b : Bool) (r : Refusal) → refuse_if b r ≡ passes → b ≡ false
refuse-if-passes true r h = let o : ◌≡◌ {A = ℕ} 0 1 = cc in absurd (omega arith)
refuse-if-passes false r h = refl

pub first-passes : (v : Verdict) (l : List Verdict) → first_of (v ∷ l) ≡ passes → (v ≡ passes) × (first_of l ≡ passes)
first-passes passes l h = (refl, h)
first-passes (refuses r) l h = let o : ◌≡◌ {A = ℕ} 0 1 = cc in absurd (omega arith)

pub first-append : (l r : List Verdict) → first_of (l ++ r) ≡ passes → (first_of l ≡ passes) × (first_of r ≡ passes)
first-append [] r h = (refl, h)
first-append (passes ∷ l) r h = first-append l r h
first-append (refuses x ∷ l) r h = let o : ◌≡◌ {A = ℕ} 0 1 = cc in absurd (omega arith)

-- what follows counts only where nothing before it refuses
pub first-same : (l r r' : List Verdict) → (first_of l ≡ passes → first_of r ≡ first_of r') → first_of (l ++ r) ≡ first_of (l ++ r')
first-same [] r r' h = h refl
first-same (passes ∷ l) r r' h = first-same l r r' h
first-same (refuses x ∷ l) r r' h = refl

-- judge

-- a call that passes 10, 11 and 12
pub record Judged (m : Map) (c : Call) : Type 0 where
  pub there : T (exists m c)
  pub may : T (not (misdirected m c))
  pub fine : T (not (unaccepted m c))

three :
    (x y z : Bool)
    → first_of (refuse_if (not x) (plain 10) ∷ refuse_if y (plain 11) ∷ refuse_if z (plain 12) ∷ []) ≡ passes
    → T x × T (not y) × T (not z)
three true false false h = (tt, tt, tt)
three true false true h = let o : ◌≡◌ {A = ℕ} 0 1 = cc in absurd (omega arith)
three true true z h = let o : ◌≡◌ {A = ℕ} 0 1 = cc in absurd (omega arith)
three false y z h = let o : ◌≡◌ {A = ℕ} 0 1 = cc in absurd (omega arith)

pub judge-passes : (m : Map) (c : Call) → first_of (judge m c) ≡ passes → Judged m c
unfolding judge
judge-passes m c h =
    let r : T (exists m c) × T (not (misdirected m c)) × T (not (unaccepted m c)) = three (exists m c) (misdirected m c) (unaccepted m c) h in
    record { there = r.0; may = r.1; fine = r.2 }

pub judged-passes : (m : Map) (c : Call) → Judged m c → first_of (judge m c) ≡ passes
unfolding judge
judged-passes m c j =
    rw (is-true (exists m c) j.there, is-false (misdirected m c) j.may, is-false (unaccepted m c) j.fine)

-- decide

-- two machines that go by one verdict: both refuse and stay, or both do
pub decide-both :
    {A B : Type 0} (P : Result Answer Refusal × A → Result Answer Refusal × B → Type 0) (v : Verdict) (a : A) (b : B) (x : Result Answer Refusal × A) (y : Result Answer Refusal × B)
    → ((r : Refusal) → P (Err r, a) (Err r, b))
    → (v ≡ passes → P x y)
    → P (decide v a x) (decide v b y)
decide-both P passes a b x y f h = h refl
decide-both P (refuses r) a b x y f h = f r

-- the order

pub check8-passes : (n : ℕ) → bank_size ≤ n → check8 n ≡ passes
unfolding check8
check8-passes n h = rw (le-ltb n bank_size h)

-- past 9, 8 and the checks of the entries the rest decides
module _ (count : ℕ) (first last : List ℕ) (h₉ : check9 (read_of count first last) ≡ passes) (h₁ : check_entries (read_of count first last) ≡ passes) where
  pub order-open : (rest : List Verdict) → order_of (read_of count first last) rest ≡ first_of rest
  unfolding order_of
  order-open rest = rw (h₉, h₁)

  pub bank-order-open : (size : ℕ) (rest : List Verdict) → bank_size ≤ size → bank_order (read_of count first last) size rest ≡ first_of rest
  unfolding bank_order
  bank-order-open size rest l = rw (h₉, check8-passes size l, h₁)
