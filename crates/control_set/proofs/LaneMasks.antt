-- Masks of lanes, bit by bit, and their bits spread over a part.
use Rattle.std.specs.Prelude.{Result, Ok, Err}
use Rattle.std.specs.Coded.{×_prop, le_prop}
use mathlib.Core.Path.{◌≡◌, refl, sym, ap, ap₂, ◌∙◌, subst}
use mathlib.Core.Logic.{◌≢◌, inr}
use mathlib.Core.Bool.{Bool, true, false, ◌&&◌, ◌||◌, cond}
use mathlib.Core.List.{List, [], ◌∷◌, ◌++◌, map}
use Prim.Native.Nat.{ℕ, zero, suc, ◌+◌, ◌-◌, ◌*◌, ◌/◌, ◌%◌, ◌^◌, ◌≤◌, ◌<◌}
use native.Mathlib.Nat.{zero-div, zero-mod, div-add-mod', div-one, zero-add, add_comm, add-mul, zero-mul, mul-zero, mul-one, suc-mul, mul-le-mul_right}
use native.Mathlib.Omega.{arith}
use native.Mathlib.Decide.{ℕ_discrete, dec_lt}
use native.Mathlib.Numerals.{add-one}
use lib.Arith.{digits_lt}
use lib.Bits.{bit_and, bit_or}
use lib.Dec.{T, eqb, ltb, ltb→lt, eqb→eq}
use lib.ListN.{length, get_or, set, length-set}
use lib.Seq.{get_or-set_same, get_or-set_other}
use lib.Pow.{pow_pos, pow-add, high, low, shl_exact, shr-shr}
use lib.Count.{count_trailing_zeros}
use Rattle.rules.specs.Numbers.{cut, any, bit_of, lowest}
use Rattle.rules.specs.Place.{lane_byte, lane_bit, Width}
use Rattle.rules.specs.declared.Refusal.{Refusal}
use Rattle.rules.specs.Refuse.{passes, chooses, at_lowest}
use Rattle.rules.specs.Bank.{merge}
use Rattle.rules.proofs.Apply.Plans.{lowest-same}
use Rattle.rules.proofs.Basics.Digits.{cut-lt, cut-merge, cut-merge-other}
use Rattle.rules.proofs.Basics.Ids.{below, below-at}
use Rattle.rules.proofs.Basics.Tests.{and₂}
use Rattle.rules.proofs.Place.Lanes.{lane-room}
use Rattle.descriptor.proofs.Bits.{and-bit, or-bit}
use Rattle.control_set.specs.declared.lanes.Lane.{Lane}
use Rattle.control_set.specs.declared.lanes.Spread.{Spread}
use Rattle.control_set.specs.Lanes.{Lanes, NoLane, AtLowest, Spreads, SpreadsAll}
use Rattle.control_set.proofs.Masks.{cut-cut}

-- a lane is its number
same-lane : (i k : Lane) → i.number ≡ k.number → i ≡ k
same-lane i k e =
    subst (λ (n : ℕ). (r : (1 ≤ n) × (n ≤ 8)) → i ≡ record { number = n; real = r }) e
    (λ r. ap (λ (x : (1 ≤ i.number) × (i.number ≤ 8)). record { number = i.number; real = x }) (×_prop le_prop le_prop i.real r))
    k.real

pub bit-lt : (v : Bool) → cond v 1 0 < 2 ^ 1
bit-lt true = omega arith
bit-lt false = omega arith

bit-is : (v : Bool) → eqb (cond v 1 0) 1 ≡ v
bit-is true = refl
bit-is false = refl

-- what holds of each lane below k and whether it is in a mask, and of k by a test, holds of the mask with k by that test
pub lanes-next :
    (P : Lane → Bool → Type 0) (k : Lane) (lanes : ℕ) (v : Bool)
    → ((i : Lane) → i.number < k.number → P i (chooses lanes i.number))
    → P k v
    → (i : Lane) → i.number < k.number + 1 → P i (chooses (merge lanes (k.number - 1) 1 (cond v 1 0)) i.number)
lanes-next P k lanes v h q i u = go (ℕ_discrete i.number k.number)
  where
    go : Dec (i.number ≡ k.number) → P i (chooses (merge lanes (k.number - 1) 1 (cond v 1 0)) i.number)
    go (yes e) =
        let r : chooses (merge lanes (k.number - 1) 1 (cond v 1 0)) k.number ≡ v
        = ap (λ n. eqb n 1) (cut-merge lanes (k.number - 1) 1 (cond v 1 0) (bit-lt v)) ∙ bit-is v in
        rw (same-lane i k e, r) q
    go (no ne) =
        let r : chooses (merge lanes (k.number - 1) 1 (cond v 1 0)) i.number ≡ chooses lanes i.number
        = ap (λ n. eqb n 1) (cut-merge-other lanes (k.number - 1) 1 (cond v 1 0) (bit-lt v) (i.number - 1) 1 (inr (omega (arith, i.real, k.real)))) in
        rw r (h i (omega arith))

-- the lanes of both masks, and of one of them
module _ {f g : ℕ → Bool} (a b : ℕ) (p : Lanes 9 f a) (q : Lanes 9 g b) where
  pub lanes-and : Lanes 9 (λ i. f i && g i) (bit_and a b)
  lanes-and i l u = and-bit a b (i - 1) ∙ ap₂ ◌&&◌ (p i l u) (q i l u)

  pub lanes-or : Lanes 9 (λ i. f i || g i) (bit_or a b)
  lanes-or i l u = or-bit a b (i - 1) ∙ ap₂ ◌||◌ (p i l u) (q i l u)

-- of several: f 0 .. f (n - 1) so far, then f n
module _ (f : ℕ → ℕ → Bool) (n : ℕ) where
  pub lanes-any : (a b : ℕ) → Lanes 9 (λ i. any n λ k. f k i) a → Lanes 9 (f n) b → Lanes 9 (λ i. any (n + 1) λ k. f k i) (bit_or a b)
  unfolding any
  lanes-any a b p q = rw (add-one n) (lanes-or a b p q)

pub any-clear : (n : ℕ) (f : ℕ → Bool) → ((k : ℕ) → f k ≡ false) → any n f ≡ false
unfolding any
any-clear zero f h = refl
any-clear (suc n) f h = rw (any-clear n f h, h n) refl

pub lanes-zero : (i : ℕ) → chooses 0 i ≡ false
lanes-zero i = rw (zero-div (2 ^ (i - 1))) refl

-- the lowest lane
pub lanes-at-lowest : (n lanes : ℕ) (f : ℕ → Bool) (r : Result Unit Refusal) → Lanes 9 f lanes → AtLowest n (chooses lanes) r → AtLowest n f r
lanes-at-lowest n lanes f (Ok _) h z = λ i l u. sym (h i l (omega arith)) ∙ z i l u
lanes-at-lowest n lanes f (Err r) h z = lowest-same n f (chooses lanes) (λ i l u. sym (h i l (omega arith))) ∙ z

pub no-lane : (n : ℕ) (f : ℕ → Bool) → NoLane f → at_lowest n f ≡ passes
unfolding lowest at_lowest
no-lane n f h = lowest-same n f (λ _. false) h ∙ refl

-- it is the place of the mask's lowest 1: a test that computes, of each mask but 0
abbrev lowest_at : ℕ → Bool
lowest_at m = eqb (lowest 8 1 (chooses (suc m))) (suc (count_trailing_zeros 8 (suc m)))

lowest-by-test : T (below 255 lowest_at)
unfolding lowest count_trailing_zeros
lowest-by-test = tt

pub lowest-trailing : (lanes : ℕ) → lanes ≢ 0 → lanes < 256 → lowest 8 1 (chooses lanes) ≡ suc (count_trailing_zeros 8 lanes)
lowest-trailing zero ne l = absurd (ne refl)
lowest-trailing (suc m) ne l = eqb→eq _ _ (below-at 255 lowest_at lowest-by-test m (omega arith))

-- a lane's field, by the byte of the part that it lies in
pub spread-lane :
    {w lanes bits : ℕ}
    → Width w
    → Spreads w lanes bits
    → (i : ℕ) → 1 ≤ i → i ≤ 8
    → cut (cut bits (8 * lane_byte w i) 8) (lane_bit w i) w ≡ cond (chooses lanes i) (2 ^ w - 1) 0
spread-lane {w} {lanes} {bits} h r i l u =
    let e : 8 * lane_byte w i + lane_bit w i ≡ (i - 1) * w = omega (arith, div-add-mod' ((i - 1) * w) 8) in
    cut-cut bits (8 * lane_byte w i) 8 (lane_bit w i) w (lane-room w h i l)
    ∙ ap (λ n. cut bits n w) e
    ∙ r.lane i l u

pub width-le : (w : ℕ) → Width w → w ≤ 8
width-le w h = omega (arith, lane-room w h 1 (omega arith))

-- no lane
spreads-zero : (w : ℕ) → Spreads w 0 0
spreads-zero w =
    record {
      lane = λ i l u. rw (lanes-zero i, zero-div (2 ^ ((i - 1) * w))) (zero-mod (2 ^ w));
      room = pow_pos (8 * w);
    }

pub spreads-all-zero : (l : List ℕ) → length l ≡ 9 → ((k : ℕ) → get_or l k 0 ≡ 0) → SpreadsAll 0 l
spreads-all-zero l n h = record { size = n; by = λ w _. rw (h w) (spreads-zero w) }

-- the mask itself
bit-own : (x : ℕ) → x < 2 → x ≡ cond (eqb x 1) 1 0
bit-own zero l = refl
bit-own (suc zero) l = refl
bit-own (suc (suc x)) l = absurd (omega arith)

pub spreads-mask : (lanes : ℕ) → lanes < 256 → Spreads 1 lanes lanes
spreads-mask lanes h =
    record {
      lane = λ i l u. rw (mul-one (i - 1)) (bit-own (cut lanes (i - 1) 1) (cut-lt lanes (i - 1) 1));
      room = h;
    }

-- the fields of four lanes
record Half (w lanes bits : ℕ) : Type 0 where
  pub lane : (k : ℕ) → k < 4 → cut bits (k * w) w ≡ cond (bit_of lanes k) (2 ^ w - 1) 0
  pub room : bits < 2 ^ (4 * w)

-- a table of them by mask: a test that computes, and what it says
abbrev in_lane : ℕ → ℕ → ℕ → ℕ → Bool
in_lane w lanes bits k = eqb (cut bits (k * w) w) (cond (bit_of lanes k) (2 ^ w - 1) 0)

abbrev in_half : ℕ → (ℕ → ℕ) → ℕ → Bool
in_half w t n = ltb (t n) (2 ^ (4 * w)) && below 4 (in_lane w n (t n))

abbrev pub halves : ℕ → (ℕ → ℕ) → Bool
halves w t = below 16 (in_half w t)

half-at : (w : ℕ) (t : ℕ → ℕ) → T (halves w t) → (n : ℕ) → n < 16 → Half w n (t n)
half-at w t ok n l =
    let (room, lane) = and₂ _ _ (below-at 16 (in_half w t) ok n l) in
    record { lane = λ k u. eqb→eq _ _ (below-at 4 (in_lane w n (t n)) lane k u); room = ltb→lt _ _ room }

low-cut : (x n t w : ℕ) → t + w ≤ n → cut (x % 2 ^ n) t w ≡ cut x t w
low-cut x n t w h = rw (zero-add t, div-one x) at (cut-cut x 0 n t w h)

-- of a mask's lower and upper half
two-halves : {w lanes a b : ℕ} → Half w (lanes % 2 ^ 4) a → Half w (lanes / 2 ^ 4) b → Spreads w lanes (b * 2 ^ (4 * w) + a)
two-halves {w} {lanes} {a} {b} p q = record { lane = λ i l u. go i l u (dec_lt (i - 1) 4); room = rw (e, pow-add 2 (4 * w) (4 * w)) (digits_lt q.room p.room) }
  where
    e : 8 * w ≡ 4 * w + 4 * w
    e = omega arith

    go : (i : ℕ) → 1 ≤ i → i ≤ 8 → Dec (i - 1 < 4) → cut (b * 2 ^ (4 * w) + a) ((i - 1) * w) w ≡ cond (chooses lanes i) (2 ^ w - 1) 0
    go i l u (yes h) =
        let m : suc (i - 1) * w ≤ 4 * w = mul-le-mul_right w h in
        rw (← low-cut (b * 2 ^ (4 * w) + a) (4 * w) ((i - 1) * w) w (omega (arith, m, suc-mul (i - 1) w)), low b (4 * w) p.room, ← low-cut lanes 4 (i - 1) 1 (omega arith))
        (p.lane (i - 1) h)
    go i l u (no h) =
        let k : i - 1 ≡ 4 + (i - 5) = omega arith in
        rw (k, add-mul 4 (i - 5) w, ← shr-shr (b * 2 ^ (4 * w) + a) (4 * w) ((i - 5) * w), high b (4 * w) p.room, ← shr-shr lanes 4 (i - 5))
        (q.lane (i - 5) (omega arith))

-- as `spread_all` takes them from a table
module _ (w : ℕ) (t : ℕ → ℕ) (small : w ≤ 8) (ok : T (halves w t)) (lanes : ℕ) (h : lanes < 256) where
  pub spreads-table : Spreads w lanes (t (lanes % 16) + t (lanes / 16) * 2 ^ (4 * w) % 2 ^ 64)
  spreads-table =
      let q = half-at w t ok (lanes / 16) (omega arith) in
      rw (shl_exact (4 * w) (4 * w) 64 q.room (omega arith), add_comm (t (lanes % 16)) _)
      (two-halves (half-at w t ok (lanes % 16) (omega arith)) q)

-- the rows, of k lanes: each lane doubles them
abbrev more : ℕ → ℕ → ℕ → ℕ
more k w bits = (2 ^ w - 1) * 2 ^ (k * w) + bits

abbrev rows : ℕ → List Spread
rows zero = (0, 0, 0) ∷ []
rows (suc k) = rows k ++ map (λ x. (more k 2 x.0, more k 4 x.1, more k 8 x.2)) (rows k)

abbrev pub row : ℕ → Spread
row n = get_or (rows 4) n (0, 0, 0)

-- by width: W is 1, 2, 4 or 8
widths : (P : ℕ → Type 0) → P 1 → P 2 → P 4 → P 8 → (w n : ℕ) → n * w ≡ 8 → P w
widths P a b c d zero n e = absurd (omega (arith, mul-zero n))
widths P a b c d (suc zero) n e = a
widths P a b c d (suc (suc zero)) n e = b
widths P a b c d (suc (suc (suc zero))) n e = absurd (omega arith)
widths P a b c d (suc (suc (suc (suc zero)))) n e = c
widths P a b c d (suc (suc (suc (suc (suc zero))))) n e = absurd (omega arith)
widths P a b c d (suc (suc (suc (suc (suc (suc zero)))))) n e = absurd (omega arith)
widths P a b c d (suc (suc (suc (suc (suc (suc (suc zero))))))) n e = absurd (omega arith)
widths P a b c d (suc (suc (suc (suc (suc (suc (suc (suc zero)))))))) n e = d
widths P a b c d (suc (suc (suc (suc (suc (suc (suc (suc (suc w))))))))) zero e = absurd (omega (arith, zero-mul (9 + w)))
widths P a b c d (suc (suc (suc (suc (suc (suc (suc (suc (suc w))))))))) (suc n) e = absurd (omega (arith, suc-mul n (9 + w)))

pub width-whole : (w : ℕ) → Width w → 8 % w ≡ 0
width-whole w x = widths (λ n. 8 % n ≡ 0) refl refl refl refl w x.lanes x.fills

pub whole-width : (w : ℕ) → 8 % w ≡ 0 → Width w
whole-width w h = record { lanes = 8 / w; fills = omega (arith, div-add-mod' 8 w) }

module _ {lanes : ℕ} where
  put : (w v : ℕ) (l : List ℕ) → w < length l → Spreads w lanes v → Spreads w lanes (get_or (set l w v) w 0)
  put w v l u h = rw (get_or-set_same l w v 0 u) h

  kept : (w k v : ℕ) (l : List ℕ) → w ≢ k → Spreads w lanes (get_or l w 0) → Spreads w lanes (get_or (set l k v) w 0)
  kept w k v l ne h = rw (get_or-set_other l k w v 0 ne) h

  -- as `spread_all` stores them
  module _ {a b c d : ℕ} (p : Spreads 1 lanes a) (q : Spreads 2 lanes b) (r : Spreads 4 lanes c) (s : Spreads 8 lanes d) where
    pub spreads-all : (l : List ℕ) → length l ≡ 9 → SpreadsAll lanes (set (set (set (set l 1 a) 2 b) 4 c) 8 d)
    spreads-all l h =
        record {
          size = simp length-set h;
          by = λ w x. widths (λ (n : ℕ). Spreads n lanes (get_or l₈ n 0)) one two four eight w x.lanes x.fills;
        }
      where
        l₁ : List ℕ
        l₁ = set l 1 a

        l₂ : List ℕ
        l₂ = set l₁ 2 b

        l₄ : List ℕ
        l₄ = set l₂ 4 c

        l₈ : List ℕ
        l₈ = set l₄ 8 d

        one : Spreads 1 lanes (get_or l₈ 1 0)
        one = kept 1 8 d l₄ (omega arith) (kept 1 4 c l₂ (omega arith) (kept 1 2 b l₁ (omega arith) (put 1 a l (omega arith) p)))

        two : Spreads 2 lanes (get_or l₈ 2 0)
        two = kept 2 8 d l₄ (omega arith) (kept 2 4 c l₂ (omega arith) (put 2 b l₁ (simp length-set (omega arith)) q))

        four : Spreads 4 lanes (get_or l₈ 4 0)
        four = kept 4 8 d l₄ (omega arith) (put 4 c l₂ (simp length-set (omega arith)) r)

        eight : Spreads 8 lanes (get_or l₈ 8 0)
        eight = put 8 d l₄ (simp length-set (omega arith)) s
