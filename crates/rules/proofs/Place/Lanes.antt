-- The lanes of a part, over any width W that divides 8. Each fact about a width is shown here, once.
use mathlib.Core.Path.{◌≡◌, sym, ap, ◌∙◌}
use mathlib.Core.Logic.{◌⊎◌, inl, inr, ◌≢◌}
use Prim.Native.Nat.{ℕ, zero, suc, ◌+◌, ◌-◌, ◌*◌, ◌/◌, ◌%◌, ◌≤◌, ◌<◌}
use native.Mathlib.Nat.{mul-zero, zero-mul, mul_comm, mul_assoc, add-mul, suc-mul, mul-le-mul_right, mul-lt-mul_of_pos_right, div-add-mod', mod-lt, div-lt_iff_lt-mul, mul-div-mul_right, div-mul-le_self, lt-div-mul-add}
use native.Mathlib.Omega.{arith}
use native.Mathlib.Decide.{dec_lt}
use lib.Arith.{digits_lt, digits_div, digits_mod}
use Rattle.rules.specs.Place.{lane_byte, lane_bit, Width}

pub width-pos : (w : ℕ) → Width w → 0 < w
width-pos zero h = let e : h.lanes * 0 ≡ 0 = mul-zero h.lanes in absurd (omega (arith, h.fills))
width-pos (suc w) h = omega arith

lanes-pos : (d w : ℕ) → d * w ≡ 8 → 0 < d
lanes-pos zero w e = absurd (omega (arith, zero-mul w))
lanes-pos (suc d) w e = omega arith

module _ (w : ℕ) (h : Width w) where
  some : 0 < h.lanes
  some = lanes-pos h.lanes w h.fills

  pub full : w * h.lanes ≡ 8
  full = mul_comm w h.lanes ∙ h.fills

  pred : (j : ℕ) → suc j - 1 ≡ j
  pred j = omega arith

  -- lane j + 1 lies in byte j / lanes of its part, from bit (j % lanes) × W on
  pub lane-byte : (j : ℕ) → lane_byte w (suc j) ≡ j / h.lanes
  lane-byte j = rw (pred j) (ap (λ n. (j * w) / n) (sym h.fills) ∙ mul-div-mul_right j h.lanes (width-pos w h))

  low-lt : (j : ℕ) → (j % h.lanes) * w < 8
  low-lt j = rw (← h.fills) (mul-lt-mul_of_pos_right (mod-lt j some) (width-pos w h))

  split-lane : (j : ℕ) → j * w ≡ (j / h.lanes) * 8 + (j % h.lanes) * w
  split-lane j =
      ap (λ n. n * w) (sym (div-add-mod' j h.lanes))
      ∙ add-mul (j / h.lanes * h.lanes) (j % h.lanes) w
      ∙ ap (λ n. n + (j % h.lanes) * w) (mul_assoc (j / h.lanes) h.lanes w ∙ ap (λ n. (j / h.lanes) * n) h.fills)

  pub lane-bit : (j : ℕ) → lane_bit w (suc j) ≡ (j % h.lanes) * w
  lane-bit j = rw (pred j) (ap (λ n. n % 8) (split-lane j) ∙ digits_mod (j / h.lanes) (low-lt j))

  -- a lane's byte lies in its part, and its bits in that byte
  pub lane-byte-lt : (i : ℕ) → 1 ≤ i → i ≤ 8 → lane_byte w i < w
  lane-byte-lt zero l t = omega arith
  lane-byte-lt (suc j) l t = rw (lane-byte j) ((div-lt_iff_lt-mul some).1 (omega (arith, full)))

  room : (r : ℕ) → r < h.lanes → r * w + w ≤ 8
  room r l = let e : suc r * w ≡ r * w + w = suc-mul r w in omega (arith, mul-le-mul_right w l, h.fills)

  pub lane-room : (i : ℕ) → 1 ≤ i → lane_bit w i + w ≤ 8
  lane-room zero l = omega arith
  lane-room (suc j) l = rw (lane-bit j) (room (j % h.lanes) (mod-lt j some))

  -- two lanes of one byte: the lower ends where the higher begins, or before
  lanes-order : (j k : ℕ) → j < k → j / h.lanes ≡ k / h.lanes → lane_bit w (suc j) + w ≤ lane_bit w (suc k)
  lanes-order j k l e =
      let q : j / h.lanes * h.lanes ≡ k / h.lanes * h.lanes = ap (λ n. n * h.lanes) e in
      let r : j % h.lanes < k % h.lanes = omega (arith, div-add-mod' j h.lanes, div-add-mod' k h.lanes) in
      let s : suc (j % h.lanes) * w ≡ (j % h.lanes) * w + w = suc-mul (j % h.lanes) w in
      rw (lane-bit j, lane-bit k) (omega (arith, mul-le-mul_right w r))

  pub lanes-apart :
      (i k : ℕ)
      → 1 ≤ i
      → 1 ≤ k
      → i ≢ k
      → lane_byte w i ≡ lane_byte w k
      → (lane_bit w i + w ≤ lane_bit w k) ⊎ (lane_bit w k + w ≤ lane_bit w i)
  lanes-apart zero k hi hk ne e = absurd (omega arith)
  lanes-apart (suc i) zero hi hk ne e = absurd (omega arith)
  lanes-apart (suc i) (suc k) hi hk ne e = go (dec_lt i k)
    where
      same : i / h.lanes ≡ k / h.lanes
      same = sym (lane-byte i) ∙ e ∙ lane-byte k

      go : Dec (i < k) → (lane_bit w (suc i) + w ≤ lane_bit w (suc k)) ⊎ (lane_bit w (suc k) + w ≤ lane_bit w (suc i))
      go (yes l) = inl (lanes-order i k l same)
      go (no l) = inr (lanes-order k i (omega arith) (sym same))

  -- the place of lane (n × lanes + c) + 1: byte n, bit c × W
  pub lane-at-byte : (n c : ℕ) → c < h.lanes → lane_byte w (suc (n * h.lanes + c)) ≡ n
  lane-at-byte n c l = lane-byte (n * h.lanes + c) ∙ digits_div n l

  pub lane-at-bit : (n c : ℕ) → c < h.lanes → lane_bit w (suc (n * h.lanes + c)) ≡ c * w
  lane-at-bit n c l = lane-bit (n * h.lanes + c) ∙ ap (λ x. x * w) (digits_mod n l)

-- the lane that has bit q of byte n of a part
pub record LaneOf (w n q : ℕ) : Type 0 where
  pub i : ℕ
  pub low : 1 ≤ i
  pub top : i ≤ 8
  pub byte : lane_byte w i ≡ n
  pub from : lane_bit w i ≤ q
  pub to : q < lane_bit w i + w

pub lane-of : (w n q : ℕ) → Width w → n < w → q < 8 → LaneOf w n q
lane-of w n q h ln lq =
    let c : q / w < h.lanes = (div-lt_iff_lt-mul (width-pos w h)).1 (omega (arith, h.fills)) in
    let t : n * h.lanes + q / w < w * h.lanes = digits_lt ln c in
    record {
      i = suc (n * h.lanes + q / w);
      low = omega arith;
      top = omega (arith, full w h);
      byte = lane-at-byte w h n (q / w) c;
      from = rw (lane-at-bit w h n (q / w) c) (div-mul-le_self q w);
      to = rw (lane-at-bit w h n (q / w) c) (lt-div-mul-add (width-pos w h));
    }
