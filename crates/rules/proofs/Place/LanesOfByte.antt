-- The lanes of a part fill its bytes: a byte is the sum of its lanes' bits, each at its place.
use mathlib.Core.Path.{◌≡◌, sym, ap, ◌∙◌}
use mathlib.Core.Bool.{cond}
use mathlib.Core.Logic.{◌≢◌}
use Prim.Native.Nat.{ℕ, zero, suc, ◌+◌, ◌*◌, ◌%◌, ◌^◌, ◌<◌}
use native.Mathlib.Nat.{zero-mul, suc-mul, mod-one, add_comm}
use lib.Pow.{mod-pow-add}
use lib.Dec.{eqb}
use borrow.Author.Tests.{eq-eqb, ne_eqb}
use Rattle.rules.specs.Numbers.{cut, sum}
use Rattle.rules.specs.Place.{lane_byte, lane_bit, Width}
use Rattle.rules.proofs.Basics.Sums.{sum-zero, sum-ext, sum-one, sum-blocks}
use Rattle.rules.proofs.Place.Lanes.{full, lane-at-byte, lane-at-bit}

abbrev pub lane_sum : ℕ → ℕ → ℕ → ℕ
lane_sum w n x = sum 8 (λ j. cond (eqb (lane_byte w (suc j)) n) (cut x (lane_bit w (suc j)) w * 2 ^ lane_bit w (suc j)) 0)

-- the lowest n digits of w bits make up the lowest n × w bits
pub digits-sum : (w n x : ℕ) → sum n (λ j. cut x (j * w) w * 2 ^ (j * w)) ≡ x % 2 ^ (n * w)
unfolding sum
digits-sum w zero x = sym (rw zero-mul (mod-one x))
digits-sum w (suc n) x =
    ap (λ k. k + cut x (n * w) w * 2 ^ (n * w)) (digits-sum w n x)
    ∙ add_comm _ _
    ∙ sym (mod-pow-add x w (n * w))
    ∙ ap (λ k. x % 2 ^ k) (add_comm w (n * w) ∙ sym (suc-mul n w))

module _ (w : ℕ) (h : Width w) (n x : ℕ) (l : n < w) where
  abbrev term : ℕ → ℕ
  term j = cond (eqb (lane_byte w (suc j)) n) (cut x (lane_bit w (suc j)) w * 2 ^ lane_bit w (suc j)) 0

  here : (c : ℕ) → c < h.lanes → term (n * h.lanes + c) ≡ cut x (c * w) w * 2 ^ (c * w)
  here c lc =
      rw (eq-eqb (lane_byte w (suc (n * h.lanes + c))) n (lane-at-byte w h n c lc), lane-at-bit w h n c lc)

  elsewhere : (i : ℕ) → i ≢ n → (c : ℕ) → c < h.lanes → term (i * h.lanes + c) ≡ 0
  elsewhere i ne c lc =
      rw (ne_eqb (lane_byte w (suc (i * h.lanes + c))) n (λ q. ne (sym (lane-at-byte w h i c lc) ∙ q)))

  pub tile : lane_sum w n x ≡ x % 256
  tile =
      ap (λ k. sum k term) (sym (full w h))
      ∙ sum-blocks w h.lanes term
      ∙ sum-one w _ n l (λ i li ne. sum-zero h.lanes _ (elsewhere i ne))
      ∙ sum-ext h.lanes _ _ here
      ∙ digits-sum w h.lanes x
      ∙ ap (λ k. x % 2 ^ k) h.fills
