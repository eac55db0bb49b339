-- The digits of `decimal`, for the numbers that the map program prints: one, two or three of them.
use mathlib.Core.Path.{◌≡◌, ap, ◌∙◌}
use mathlib.Core.List.{List, [], ◌∷◌, ◌++◌}
use Prim.Native.Nat.{ℕ, zero, suc, ◌+◌, ◌/◌, ◌%◌, ◌≤◌, ◌<◌}
use native.Mathlib.Nat.{div-div-eq-div-mul}
use native.Mathlib.Omega.{arith}
use borrow.Author.Tests.{lt-ltb, le-ltb}
use Rattle.rules.specs.MapProgram.{digits, decimal}

digits-last : (f n : ℕ) → n < 10 → digits (suc f) n ≡ (48 + n) ∷ []
unfolding digits
digits-last f n h = rw (lt-ltb n 10 h)

digits-more : (f n : ℕ) → 10 ≤ n → digits (suc f) n ≡ digits f (n / 10) ++ ((48 + n % 10) ∷ [])
unfolding digits
digits-more f n h = rw (le-ltb n 10 h)

digits-two : (f n : ℕ) → 10 ≤ n → n < 100 → digits (suc (suc f)) n ≡ (48 + n / 10) ∷ (48 + n % 10) ∷ []
digits-two f n h k =
    digits-more (suc f) n h ∙ ap (λ (l : List ℕ). l ++ ((48 + n % 10) ∷ [])) (digits-last f (n / 10) (omega arith))

digits-three : (f n : ℕ) → 100 ≤ n → n < 1000 → digits (suc (suc (suc f))) n ≡ (48 + n / 100) ∷ (48 + n / 10 % 10) ∷ (48 + n % 10) ∷ []
digits-three f n h k =
    digits-more (suc (suc f)) n (omega arith)
    ∙ ap (λ (l : List ℕ). l ++ ((48 + n % 10) ∷ [])) (digits-two f (n / 10) (omega arith) (omega arith))
    ∙ ap (λ (d : ℕ). (48 + d) ∷ (48 + n / 10 % 10) ∷ (48 + n % 10) ∷ []) (div-div-eq-div-mul n 10 10)

pub decimal-one : (n : ℕ) → n < 10 → decimal n ≡ (48 + n) ∷ []
unfolding decimal
decimal-one n h = digits-last n n h

pub decimal-two : (n : ℕ) → 10 ≤ n → n < 100 → decimal n ≡ (48 + n / 10) ∷ (48 + n % 10) ∷ []
unfolding decimal
decimal-two zero h k = absurd (omega arith)
decimal-two (suc n) h k = digits-two n (suc n) h k

pub decimal-three : (n : ℕ) → 100 ≤ n → n < 1000 → decimal n ≡ (48 + n / 100) ∷ (48 + n / 10 % 10) ∷ (48 + n % 10) ∷ []
unfolding decimal
decimal-three zero h k = absurd (omega arith)
decimal-three (suc zero) h k = absurd (omega arith)
decimal-three (suc (suc n)) h k = digits-three n (suc (suc n)) h k
