-- The plan byte by byte, part by part and entry by entry.
use mathlib.Core.Path.{◌≡◌, refl, sym, ap, ◌∙◌}
use mathlib.Core.Logic.{◌⊎◌, inl, inr}
use mathlib.Core.Bool.{Bool, true, false, ◌||◌, cond}
use mathlib.Core.List.{List, ◌++◌}
use Prim.Native.Nat.{ℕ, zero, suc, ◌+◌, ◌-◌, ◌*◌, ◌/◌, ◌%◌, ◌^◌, ◌≤◌, ◌<◌}
use native.Mathlib.Nat.{suc-mul, div-eq_of_lt, div-one, zero-div}
use native.Mathlib.Omega.{arith}
use native.Mathlib.Numerals.{add-one}
use native.Mathlib.Decide.{ℕ_discrete, dec_lt}
use borrow.Rule.Slice.PartMut.{put_mid, post_of, same_len_mid}
use lib.Arith.{digits_lt}
use lib.Bits.{bit_and, bit_or}
use lib.Pow.{pow_mono}
use lib.ListN.{length, get_or, replicate, take, drop, length-take, length-drop}
use lib.Seq.{get_or-take, get_or-drop}
use Rattle.std.specs.Int.{w64, to_le_bytes}
use Rattle.std.proofs.lemmas.List.{get_or_append_left, get_or-append_right}
use Rattle.rules.specs.Numbers.{cut, any}
use Rattle.rules.specs.Place.{lane_byte, lane_bit, Width, parts_of, width_of}
use Rattle.rules.specs.Refuse.{chooses}
use Rattle.rules.proofs.Basics.Digits.{cut-lt}
use Rattle.rules.proofs.Basics.Tests.{and-no}
use Rattle.rules.proofs.Place.Lanes.{lane-byte-lt}
use Rattle.control_set.specs.declared.chosen.Chosen.{Chosen}
use Rattle.control_set.specs.declared.plan.Last.{Last}
use Rattle.rules.specs.declared.Entry.{Entry}
use Rattle.control_set.specs.Field.{byte_in}
use Rattle.control_set.specs.Lanes.{Lanes, Spreads}
use Rattle.control_set.specs.Chosen.{app_of, copies_by, has_one_of}
use Rattle.control_set.specs.Plan.{end_of, Arranged, refused_in, refused_among, AllBytes, Cached, Laid, Parts, Planned}
use Rattle.control_set.proofs.LaneMasks.{whole-width, spread-lane, spreads-all-zero, lanes-zero, lanes-and, lanes-or}

or-false : (t : Bool) → (t || false) ≡ t
or-false true = refl
or-false false = refl

pub no-bits : (n k : ℕ) → get_or {A = ℕ} (replicate n 0) k 0 ≡ 0
no-bits zero k = refl
no-bits (suc n) zero = refl
no-bits (suc n) (suc k) = no-bits n k

-- the eight bytes of some bits, written from one on
byte : (bits j : ℕ) → j < 8 → get_or (to_le_bytes w64 bits) j 0 ≡ cut bits (8 * j) 8
byte bits zero h = ap (λ (n : ℕ). n % 256) (sym (div-one bits))
byte bits (suc zero) h = refl
byte bits (suc (suc zero)) h = refl
byte bits (suc (suc (suc zero))) h = refl
byte bits (suc (suc (suc (suc zero)))) h = refl
byte bits (suc (suc (suc (suc (suc zero))))) h = refl
byte bits (suc (suc (suc (suc (suc (suc zero)))))) h = refl
byte bits (suc (suc (suc (suc (suc (suc (suc zero))))))) h = refl
byte bits (suc (suc (suc (suc (suc (suc (suc (suc j)))))))) h = absurd (omega arith)

pub laid : (at bits : ℕ) (old new : List ℕ) → at + 8 ≤ length old → new ≡ to_le_bytes w64 bits → Laid 8 at bits old (put_mid at 8 old new)
laid at bits old new room is =
    record {
      size = same_len_mid at 8 old new (size ∙ sym (simp (length-take, length-drop) (omega arith)));
      small = λ b k. small b k (dec_lt k at) (dec_lt k (at + 8));
      here = here;
      rest = rest;
    }
  where
    size : length new ≡ 8
    size = ap length is

    first : length (take at old) ≡ at
    first = simp length-take (omega arith)

    here : (j : ℕ) → j < 8 → get_or (put_mid at 8 old new) (at + j) 0 ≡ cut bits (8 * j) 8
    here j h =
        let e : at + j - at ≡ j = omega arith in
        get_or-append_right (take at old) (new ++ post_of at 8 old) at (at + j) 0 first (omega arith)
        ∙ rw (e, get_or_append_left new (post_of at 8 old) 0 j (omega (arith, size)), is) (byte bits j h)

    rest : (k : ℕ) → (k < at) ⊎ (at + 8 ≤ k) → get_or (put_mid at 8 old new) k 0 ≡ get_or old k 0
    rest k (inl l) = get_or_append_left (take at old) (new ++ post_of at 8 old) 0 k (omega (arith, first)) ∙ get_or-take at old k 0 l
    rest k (inr l) =
        let e : at + (8 + (k - at - 8)) ≡ k = omega arith in
        get_or-append_right (take at old) (new ++ post_of at 8 old) at k 0 first (omega arith)
        ∙ get_or-append_right new (post_of at 8 old) 8 (k - at) 0 size (omega arith)
        ∙ get_or-drop 8 (drop at old) (k - at - 8) 0
        ∙ get_or-drop at old (8 + (k - at - 8)) 0
        ∙ ap (λ (n : ℕ). get_or old n 0) e

    small : AllBytes old → (k : ℕ) → Dec (k < at) → Dec (k < at + 8) → get_or (put_mid at 8 old new) k 0 < 256
    small b k (yes l) d = rw (rest k (inl l)) (b k)
    small b k (no l) (no u) = rw (rest k (inr (omega arith))) (b k)
    small b k (no l) (yes u) =
        let e : at + (k - at) ≡ k = omega arith in
        rw (← e, here (k - at) (omega arith)) (cut-lt bits (8 * (k - at)) 8)

-- a part has no bits past its end
past-end : (w bits j : ℕ) → bits < 2 ^ (8 * w) → w ≤ j → cut bits (8 * j) 8 ≡ 0
past-end w bits j h l = let z : bits / 2 ^ (8 * j) ≡ 0 = div-eq_of_lt (omega (arith, h, pow_mono {i = 8 * w} {j = 8 * j} (omega arith))) in rw z refl

-- part by part
pub parts-next :
    {n offset w bits : ℕ} {old new after : List ℕ}
    → w ≤ 8
    → bits < 2 ^ (8 * w)
    → Parts n offset w bits old new
    → Laid 8 (offset + n * w) bits new after
    → Parts (n + 1) offset w bits old after
parts-next {n} {offset} {w} {bits} {old} {new} {after} u₈ h r l =
    record {
      size = l.size ∙ r.size;
      small = λ b. l.small (r.small b);
      here = λ p j hp hj. here p j hp hj (ℕ_discrete p n);
      before = λ k u. l.rest k (inl (omega arith)) ∙ r.before k u;
      behind = λ k u. behind k u (dec_lt k (at + 8));
    }
  where
    at : ℕ
    at = offset + n * w

    next : (n + 1) * w ≡ n * w + w
    next = rw (add-one n) (suc-mul n w)

    p<n : {p : ℕ} → ¬ (p ≡ n) → p < n + 1 → p < n
    p<n ne l = omega arith

    here : (p j : ℕ) → p < n + 1 → j < w → Dec (p ≡ n) → get_or after (offset + p * w + j) 0 ≡ cut bits (8 * j) 8
    here p j hp hj (yes e) = rw e (l.here j (omega arith))
    here p j hp hj (no ne) =
        let u : p * w + j < n * w = digits_lt (p<n ne hp) hj in
        l.rest _ (inl (omega arith)) ∙ r.here p j (omega arith) hj

    behind : (k : ℕ) → offset + (n + 1) * w ≤ k → Dec (k < at + 8) → get_or after k 0 ≡ 0
    behind k u (yes b) =
        let e : at + (k - at) ≡ k = omega (arith, next) in
        rw e at (l.here (k - at) (omega (arith, next))) ∙ past-end w bits (k - at) h (omega (arith, next))
    behind k u (no b) = l.rest k (inr (omega arith)) ∙ r.behind k (omega (arith, next))

-- entry by entry
pub planned-none : (c : Chosen) (h : ℕ → Entry) (plan : List ℕ) → length plan ≡ 264 → ((k : ℕ) → get_or plan k 0 ≡ 0) → Planned c 0 h plan
planned-none c h plan q z = record { size = q; small = λ k. rw (z k) (omega arith); fields = λ e p i he. absurd (omega arith); rest = λ k _. z k }

module _ {c : Chosen} {h : ℕ → Entry} {total n : ℕ} (a : Arranged total h) (hn : n < total) {plan : List ℕ} (r : Planned c n h plan) where
  -- nothing is planned from the next entry on
  pub planned-start : (bits : ℕ) → Parts 0 (h n).offset (width_of (h n)) bits plan plan
  planned-start bits =
      record {
        size = refl;
        small = λ x. x;
        here = λ p j hp. absurd (omega arith);
        before = λ k _. refl;
        behind = λ k l. r.rest k (λ e he. inr (omega (arith, a.order e n he hn)));
      }

  -- an entry without fields
  pub planned-skip : parts_of (h n) ≡ 0 → Planned c (n + 1) h plan
  planned-skip z =
      record {
        size = r.size;
        small = r.small;
        fields = λ e p i he hp l u. fields e p i he hp l u (ℕ_discrete e n);
        rest = λ k out. r.rest k (λ e he. out e (omega arith));
      }
    where
      fields : (e p i : ℕ) → e < n + 1 → p < parts_of (h e) → 1 ≤ i → i ≤ 8 → Dec (e ≡ n)
          → cut (get_or plan (byte_in (h e).offset p (width_of (h e)) i) 0) (lane_bit (width_of (h e)) i) (width_of (h e)) ≡ cond (copies_by c (h e).mask i) (2 ^ (width_of (h e)) - 1) 0
      fields e p i he hp l u (yes q) = absurd (omega (arith, rw q at hp))
      fields e p i he hp l u (no ne) = r.fields e p i (omega arith) hp l u

  pub planned-next :
      {bits lanes : ℕ} {after : List ℕ}
      → Spreads (width_of (h n)) lanes bits
      → Lanes 9 (copies_by c (h n).mask) lanes
      → Parts (parts_of (h n)) (h n).offset (width_of (h n)) bits plan after
      → Planned c (n + 1) h after
  planned-next {bits} {lanes} {after} sp la pa =
      record {
        size = pa.size ∙ r.size;
        small = pa.small r.small;
        fields = λ e p i he hp l u. fields e p i he hp l u (ℕ_discrete e n);
        rest = λ k out. rest k out (out n (omega arith));
      }
    where
      inside : (e p i : ℕ) → e < total → p < parts_of (h e) → 1 ≤ i → i ≤ 8 → byte_in (h e).offset p (width_of (h e)) i < end_of (h e)
      inside e p i he hp l u = let w = whole-width _ (a.spread e he (omega arith)).whole in omega (arith, digits_lt hp (lane-byte-lt (width_of (h e)) w i l u))

      fields : (e p i : ℕ) → e < n + 1 → p < parts_of (h e) → 1 ≤ i → i ≤ 8 → Dec (e ≡ n)
          → cut (get_or after (byte_in (h e).offset p (width_of (h e)) i) 0) (lane_bit (width_of (h e)) i) (width_of (h e)) ≡ cond (copies_by c (h e).mask i) (2 ^ (width_of (h e)) - 1) 0
      fields e p i he hp l u (yes q) =
          let hp' : p < parts_of (h n) = rw q at hp in
          let w : Width (width_of (h n)) = whole-width _ (a.spread n hn (omega arith)).whole in
          rw (q, pa.here p (lane_byte (width_of (h n)) i) hp' (lane-byte-lt (width_of (h n)) w i l u), ← la i l (omega arith)) (spread-lane w sp i l u)
      fields e p i he hp l u (no ne) =
          let e' : e < n = omega arith in
          rw (pa.before (byte_in (h e).offset p (width_of (h e)) i) (omega (arith, inside e p i (omega arith) hp l u, a.order e n e' hn))) (r.fields e p i e' hp l u)

      rest : (k : ℕ)
          → ((e : ℕ) → e < n + 1 → (k < (h e).offset) ⊎ (end_of (h e) ≤ k))
          → (k < (h n).offset) ⊎ (end_of (h n) ≤ k)
          → get_or after k 0 ≡ 0
      rest k out (inl l) = pa.before k l ∙ r.rest k (λ e he. out e (omega arith))
      rest k out (inr l) = pa.behind k l

-- what the entries that are passed make of a plan, of the last AppSels and of the lanes of 14
pub record Upto (c : Chosen) (h : ℕ → Entry) (n : ℕ) (plan spreads : List ℕ) (last : Last) (refused : ℕ) : Type 0 where
  pub cached : Cached c last spreads
  pub lanes : Lanes 9 (refused_among c n h) refused
  pub planned : Planned c n h plan

pub upto-none : (c : Chosen) (h : ℕ → Entry) (plan spreads : List ℕ) → length spreads ≡ 9 → ((k : ℕ) → get_or spreads k 0 ≡ 0) → Planned c 0 h plan
    → Upto c h 0 plan spreads (record { apps = 0; lanes = 0 }) 0
unfolding refused_among any
upto-none c h plan spreads l z p =
    record {
      cached = record { lanes = λ i _ _. lanes-zero i ∙ sym (no-app i); spread = spreads-all-zero spreads l z };
      lanes = λ i _ _. lanes-zero i;
      planned = p;
    }
  where
    no-app : (i : ℕ) → has_one_of c 0 i ≡ false
    no-app i = rw (zero-div (2 ^ app_of c i)) (and-no (chooses c.lanes i))

module _ {c : Chosen} {h : ℕ → Entry} {total n : ℕ} (a : Arranged total h) (hn : n < total) {plan spreads : List ℕ} {last : Last} {refused : ℕ}
    (r : Upto c h n plan spreads last refused) where
  pub upto-skip : parts_of (h n) ≡ 0 → Upto c h (n + 1) plan spreads last refused
  unfolding refused_among refused_in any
  upto-skip z =
      record {
        cached = r.cached;
        lanes = λ i l u. r.lanes i l u ∙ rw (add-one n, z, and-no (copies_by c (h n).mask i)) (sym (or-false _));
        planned = planned-skip a hn r.planned z;
      }

  pub upto-next :
      {after sp : List ℕ} {own : Last} (lanes : ℕ)
      → Lanes 9 (copies_by c (h n).mask) own.lanes
      → Cached c own sp
      → Lanes 9 (refused_in c.set (h n) c.bank.now) lanes
      → Width (width_of (h n))
      → Parts (parts_of (h n)) (h n).offset (width_of (h n)) (get_or sp (width_of (h n)) 0) plan after
      → Upto c h (n + 1) after sp own (bit_or refused (bit_and own.lanes lanes))
  unfolding refused_among any
  upto-next {after} {sp} {own} lanes co ca la w pa =
      record {
        cached = ca;
        lanes = λ i l u. lanes-or refused (bit_and own.lanes lanes) r.lanes (lanes-and own.lanes lanes co la) i l u ∙ rw (add-one n);
        planned = planned-next a hn r.planned (ca.spread.by _ w) co pa;
      }
