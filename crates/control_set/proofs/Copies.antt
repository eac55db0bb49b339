-- The copy byte by byte.
use mathlib.Core.Path.{◌≡◌, ap, ap₂, ◌∙◌}
use mathlib.Core.List.{List}
use Prim.Native.Nat.{ℕ, ◌+◌, ◌≤◌, ◌<◌}
use native.Mathlib.Omega.{arith}
use native.Mathlib.Decide.{ℕ_discrete, dec_lt}
use lib.ListN.{length, get_or, set, length-set, length-take, length-drop, drop}
use lib.Seq.{get_or-set_same, get_or-set_other, get_or-take, get_or-drop}
use borrow.Rule.Slice.PartMut.{mid_of, put_mid, set_mid_at}
use Rattle.rules.specs.Layout.{bank_size, set_start}
use Rattle.rules.specs.Bank.{Bank}
use Rattle.rules.proofs.Bank.Places.{set-apart, set-inside, named-has-bytes}
use Rattle.control_set.specs.Plan.{AllBytes, merge_by, Merged}
use Rattle.control_set.proofs.Masks.{merge-by-none}

-- what the copier does to its part it does to the bank
pub mid-byte :
    (a k j : ℕ) (l : List ℕ)
    → j < k
    → a + k ≤ length l
    → (f : ℕ → ℕ)
    → put_mid a k l (set (mid_of a k l) j (f (get_or (mid_of a k l) j 0))) ≡ set l (a + j) (f (get_or l (a + j) 0))
mid-byte a k j l hj h f =
    set_mid_at a k j l (f (get_or (mid_of a k l) j 0)) (simp (length-take, length-drop) (omega arith))
    ∙ ap (λ (x : ℕ). set l (a + j) (f x)) (get_or-take k (drop a l) j 0 hj ∙ get_or-drop a l j 0)

module _ {k s : ℕ} (hs : s < 2) (hk : k < 256) {plan : List ℕ} {b x : Bank} (size : bank_size ≤ length b) (r : Merged k s plan b x) where
  active-at : set_start 2 + k < length x
  active-at = omega (arith, set-inside 2 k (named-has-bytes 2 (omega arith)) hk, r.size)

  -- no byte of the active set before k
  staged-left : (j : ℕ) → j < 256 → get_or x (set_start s + j) 0 ≡ get_or b (set_start s + j) 0
  staged-left j hj =
      r.rest (set_start s + j) (λ i l q. let e = (set-apart s j 2 i (named-has-bytes s (omega arith)) (named-has-bytes 2 (omega arith)) hj (omega arith) q).0 in omega arith)

  pub merged-next : Merged (k + 1) s plan b (set x (set_start 2 + k) (merge_by (get_or x (set_start 2 + k) 0) (get_or x (set_start s + k) 0) (get_or plan k 0)))
  merged-next =
      record {
        size = length-set x _ _ ∙ r.size;
        here = λ j l. here j l (ℕ_discrete j k);
        rest = λ n o. get_or-set_other x (set_start 2 + k) n _ 0 (o k (omega arith)) ∙ r.rest n (λ j l. o j (omega arith));
      }
    where
      v : ℕ
      v = merge_by (get_or x (set_start 2 + k) 0) (get_or x (set_start s + k) 0) (get_or plan k 0)

      here : (j : ℕ) → j < k + 1 → Dec (j ≡ k) → get_or (set x (set_start 2 + k) v) (set_start 2 + j) 0 ≡ merge_by (get_or b (set_start 2 + j) 0) (get_or b (set_start s + j) 0) (get_or plan j 0)
      here j l (yes e) =
          rw (e, get_or-set_same x (set_start 2 + k) v 0 active-at)
          (ap₂ (λ (a c : ℕ). merge_by a c (get_or plan k 0)) (r.rest (set_start 2 + k) (λ i u q. omega arith)) (staged-left k hk))
      here j l (no ne) = get_or-set_other x (set_start 2 + k) (set_start 2 + j) v 0 (λ q. ne (omega arith)) ∙ r.here j (omega arith)

-- a plan with no bits from k on does no more
pub merged-all :
    {k s : ℕ} {plan : List ℕ} {b x : Bank}
    → k ≤ 256
    → AllBytes b
    → ((j : ℕ) → k ≤ j → get_or plan j 0 ≡ 0)
    → Merged k s plan b x
    → Merged 256 s plan b x
merged-all {k} {s} {plan} {b} {x} u bytes none r =
    record {
      size = r.size;
      here = λ j l. here j (dec_lt j k);
      rest = λ n o. r.rest n (λ j l. o j (omega arith));
    }
  where
    here : (j : ℕ) → Dec (j < k) → get_or x (set_start 2 + j) 0 ≡ merge_by (get_or b (set_start 2 + j) 0) (get_or b (set_start s + j) 0) (get_or plan j 0)
    here j (yes l) = r.here j l
    here j (no n) = rw (none j (omega arith), merge-by-none (get_or b (set_start 2 + j) 0) (get_or b (set_start s + j) 0) 0 (bytes (set_start 2 + j))) (r.rest (set_start 2 + j) (λ i a q. omega arith))
