-- The layout of a bank: sets lie apart, AppSels lie apart and apart from the sets, all inside the bank's size. Beside these laws
-- only the numbers that the code has are used.
use mathlib.Core.Path.{◌≡◌, refl}
use mathlib.Core.Logic.{◌≢◌}
use Prim.Native.Nat.{ℕ, zero, suc, ◌+◌, ◌*◌, ◌≤◌, ◌<◌}
use native.Mathlib.Omega.{arith}
use lib.Dec.{T, ltb→lt, lt→ltb}
use Rattle.rules.specs.Layout.{bank_size, HasBytes, has_bytes, set_start, app_sel_start, app_sel_at}

-- the sets that have bytes: the test, and those that a call may name
pub has-bytes : (s : ℕ) → T (has_bytes s) → HasBytes s
unfolding HasBytes has_bytes
has-bytes s h = ltb→lt s 3 h

pub has-bytes-test : (s : ℕ) → HasBytes s → T (has_bytes s)
unfolding HasBytes has_bytes
has-bytes-test s h = lt→ltb s 3 h

-- every set that has bytes may be named
pub has-bytes-named : (s : ℕ) → HasBytes s → s < 3
unfolding HasBytes
has-bytes-named s h = h

pub named-has-bytes : (s : ℕ) → s < 3 → HasBytes s
unfolding HasBytes
named-has-bytes s h = h

set-start : (s : ℕ) → HasBytes s → set_start s ≡ 256 * s
unfolding set_start HasBytes
set-start zero h = refl
set-start (suc zero) h = refl
set-start (suc (suc zero)) h = refl
set-start (suc (suc (suc s))) h = absurd (omega arith)

app-start : (s : ℕ) → s < 2 → app_sel_start s ≡ 768 + 8 * s
unfolding app_sel_start
app-start zero h = refl
app-start (suc zero) h = refl
app-start (suc (suc s)) h = absurd (omega arith)

-- the numbers that the code has
pub size-is : bank_size ≡ 784
unfolding bank_size
size-is = refl

pub set-start-staged : (s : ℕ) → s < 2 → set_start s ≡ 256 * s
unfolding set_start
set-start-staged zero h = refl
set-start-staged (suc zero) h = refl
set-start-staged (suc (suc s)) h = absurd (omega arith)

pub set-start-last : (s : ℕ) → 2 ≤ s → set_start s ≡ 512
unfolding set_start
set-start-last zero h = absurd (omega arith)
set-start-last (suc zero) h = absurd (omega arith)
set-start-last (suc (suc s)) h = refl

pub app-start-last : (s : ℕ) → 1 ≤ s → app_sel_start s ≡ 776
unfolding app_sel_start
app-start-last zero h = absurd (omega arith)
app-start-last (suc s) h = refl

-- byte k of a set
pub set-inside : (s k : ℕ) → HasBytes s → k < 256 → set_start s + k < bank_size
unfolding bank_size HasBytes
set-inside s k h l = omega (arith, set-start s h)

pub set-apart : (s k s' k' : ℕ) → HasBytes s → HasBytes s' → k < 256 → k' < 256 → set_start s + k ≡ set_start s' + k' → (s ≡ s') × (k ≡ k')
set-apart s k s' k' h h' l l' q =
    let e : s ≡ s' = omega (arith, set-start s h, set-start s' h') in
    (e, omega (arith, set-start s h, set-start s' h'))

-- the AppSel of a lane of a staged set
pub app-inside : (s i : ℕ) → s < 2 → i ≤ 8 → app_sel_at s i < bank_size
unfolding bank_size app_sel_at
app-inside s i h l = omega (arith, app-start s h)

pub app-apart : (s i s' i' : ℕ) → s < 2 → s' < 2 → 1 ≤ i → i ≤ 8 → 1 ≤ i' → i' ≤ 8 → app_sel_at s i ≡ app_sel_at s' i' → (s ≡ s') × (i ≡ i')
unfolding app_sel_at
app-apart s i s' i' h h' l u l' u' q =
    let e : s ≡ s' = omega (arith, app-start s h, app-start s' h') in
    (e, omega (arith, app-start s h, app-start s' h'))

pub app-no-set : (s i s' k : ℕ) → s < 2 → i ≤ 8 → HasBytes s' → k < 256 → app_sel_at s i ≢ set_start s' + k
unfolding app_sel_at HasBytes
app-no-set s i s' k h u h' l q = omega (arith, app-start s h, set-start s' h')
