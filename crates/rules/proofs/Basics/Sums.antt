-- Sums over a range.
use mathlib.Core.Path.{◌≡◌, refl, sym, ap, ◌∙◌}
use mathlib.Core.Logic.{◌≢◌}
use Prim.Native.Nat.{ℕ, zero, suc, ◌+◌, ◌*◌, ◌<◌}
use native.Mathlib.Nat.{add-zero, add-suc, add_assoc, zero-mul, suc-mul}
use native.Mathlib.Omega.{arith}
use native.Mathlib.Decide.{ℕ_discrete}
use Rattle.rules.specs.Numbers.{sum}

pub sum-zero : (n : ℕ) (f : ℕ → ℕ) → ((i : ℕ) → i < n → f i ≡ 0) → sum n f ≡ 0
unfolding sum
sum-zero zero f h = refl
sum-zero (suc n) f h = omega (arith, sum-zero n f (λ i l. h i (omega arith)), h n (omega arith))

pub sum-ext : (n : ℕ) (f g : ℕ → ℕ) → ((i : ℕ) → i < n → f i ≡ g i) → sum n f ≡ sum n g
unfolding sum
sum-ext zero f g h = refl
sum-ext (suc n) f g h = omega (arith, sum-ext n f g (λ i l. h i (omega arith)), h n (omega arith))

pub sum-one : (n : ℕ) (f : ℕ → ℕ) (k : ℕ) → k < n → ((i : ℕ) → i < n → i ≢ k → f i ≡ 0) → sum n f ≡ f k
unfolding sum
sum-one zero f k l h = omega arith
sum-one (suc n) f k l h = go (ℕ_discrete k n) (λ l'. sum-one n f k l' (λ i li. h i (omega arith)))
  where
    go : Dec (k ≡ n) → (k < n → sum n f ≡ f k) → sum n f + f n ≡ f k
    go (yes e) r = rw e (omega (arith, sum-zero n f (λ i li. h i (omega arith) (omega arith))))
    go (no ne) r = omega (arith, h n (omega arith) (λ e. ne (sym e)), r (omega arith))

pub sum-add : (m n : ℕ) (f : ℕ → ℕ) → sum (m + n) f ≡ sum m f + sum n (λ c. f (m + c))
unfolding sum
sum-add m zero f = ap (λ k. sum k f) (add-zero m) ∙ sym (add-zero (sum m f))
sum-add m (suc n) f = ap (λ k. sum k f) (add-suc m n) ∙ ap (λ x. x + f (m + n)) (sum-add m n f) ∙ add_assoc _ _ _

-- a sum over a × d numbers, d at a time
pub sum-blocks : (a d : ℕ) (f : ℕ → ℕ) → sum (a * d) f ≡ sum a (λ i. sum d (λ c. f (i * d + c)))
unfolding sum
sum-blocks zero d f = ap (λ n. sum n f) (zero-mul d)
sum-blocks (suc a) d f =
    ap (λ n. sum n f) (suc-mul a d) ∙ sum-add (a * d) d f ∙ ap (λ x. x + sum d (λ c. f (a * d + c))) (sum-blocks a d f)
