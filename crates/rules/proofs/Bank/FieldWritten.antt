-- What putting bits into a field does to each field, to every bit outside it, to the other bytes and to their bounds.
use mathlib.Core.Path.{◌≡◌, sym}
use mathlib.Core.Logic.{◌⊎◌, inl, inr, ◌≢◌}
use mathlib.Core.Bool.{Bool, ◌&&◌, not, cond}
use Prim.Native.Nat.{ℕ, ◌+◌, ◌-◌, ◌^◌, ◌≤◌, ◌<◌}
use native.Mathlib.Omega.{arith}
use native.Mathlib.Decide.{ℕ_discrete, dec_lt}
use lib.ListN.{length, get_or, set, length-set, drop}
use lib.Seq.{get_or-set_same, get_or-set_other, set-get_or, drop-set-lt}
use lib.Dec.{T, eqb, eqb→eq}
use borrow.Author.Tests.{eq-eqb}
use Rattle.rules.specs.Words.{Entry}
use Rattle.rules.specs.Layout.{bank_size, HasBytes, set_start}
use Rattle.rules.specs.Load.{Map}
use Rattle.rules.specs.Place.{entry, width_of, field_byte, field_bit, covers, Field}
use Rattle.rules.specs.Bank.{Bank, field_at, merge, get_field, put_field}
use Rattle.rules.specs.Demands.{bit_in}
use Rattle.rules.proofs.Basics.Tests.{and₄, by-test, either}
use Rattle.rules.proofs.Place.Lanes.{lanes-apart}
use Rattle.rules.proofs.Basics.Digits.{merge-own, cut-merge, cut-merge-other, merge-lt}
use Rattle.rules.proofs.Place.AcceptedMap.{GoodMap}
use Rattle.rules.proofs.Place.Fields.{covers-bit, field-width, in-bank, own-place, in-byte, same-entry, same-part, same-set, same-byte}

-- all four numbers are equal
abbrev pub eqb₄ : (s e p i s' e' p' i' : ℕ) → Bool
eqb₄ s e p i s' e' p' i' = eqb s' s && (eqb e' e && (eqb p' p && eqb i' i))

-- where they are not, three of them equal, the fourth is another
ne₄ : (s e p i s' e' p' i' : ℕ) → T (not (eqb₄ s e p i s' e' p' i')) → s' ≡ s → e' ≡ e → p' ≡ p → i' ≢ i
ne₄ s e p i s' e' p' i' h a b c d = rw (eq-eqb s' s a, eq-eqb e' e b, eq-eqb p' p c, eq-eqb i' i d) at h

-- and the other way round
pub other₄ : (s e p i s' e' p' i' : ℕ) → (s' ≡ s → e' ≡ e → p' ≡ p → i' ≢ i) → T (not (eqb₄ s e p i s' e' p' i'))
other₄ s e p i s' e' p' i' h = go (either (eqb₄ s e p i s' e' p' i'))
  where
    go : T (eqb₄ s e p i s' e' p' i') ⊎ T (not (eqb₄ s e p i s' e' p' i')) → T (not (eqb₄ s e p i s' e' p' i'))
    go (inr n) = n
    go (inl y) =
        let (a₁, a₂, a₃, a₄) = and₄ (eqb s' s) (eqb e' e) (eqb p' p) (eqb i' i) y in
        absurd (h (eqb→eq s' s a₁) (eqb→eq e' e a₂) (eqb→eq p' p a₃) (eqb→eq i' i a₄))

-- a byte of the bank set to a byte: the bytes inside its size stay bytes
pub set-bytes :
    (b : Bank) (at v : ℕ) → at < length b → v < 256 → ((k : ℕ) → k < bank_size → get_or b k 0 < 256) → (k : ℕ) → k < bank_size → get_or (set b at v) k 0 < 256
set-bytes b at v hat hv small k l = go (ℕ_discrete k at)
  where
    go : Dec (k ≡ at) → get_or (set b at v) k 0 < 256
    go (yes q) = rw (q, get_or-set_same b at v 0 hat) hv
    go (no ne) = rw (get_or-set_other b at k v 0 ne) (small k l)

-- a bit of a field's byte that the field doesn't cover stands above its bits or below them
beside :
    (e : Entry) (p i k q : ℕ) → field_byte e p i ≡ k → ¬ (T (covers e p i k q)) → (field_bit e i + width_of e ≤ q) ⊎ (q + 1 ≤ field_bit e i)
beside e p i k q here out = go (dec_lt q (field_bit e i)) (dec_lt q (field_bit e i + width_of e))
  where
    go : Dec (q < field_bit e i) → Dec (q < field_bit e i + width_of e) → (field_bit e i + width_of e ≤ q) ⊎ (q + 1 ≤ field_bit e i)
    go (yes l) d = inr (omega arith)
    go (no l) (no u) = inl (omega arith)
    go (no l) (yes u) = absurd (out (covers-bit e p i k q here (omega arith) u))

-- a field that is put its own bits
pub put-own : (m : Map) (b : Bank) (s e p i : ℕ) → put_field m b s e p i (get_field m b s e p i) ≡ b
unfolding get_field put_field
put-own m b s e p i = rw (merge-own (get_or b (field_at m s e p i) 0) (field_bit (entry m e) i) (width_of (entry m e))) (set-get_or b (field_at m s e p i) 0)

module _ (m : Map) (g : GoodMap m) (b : Bank) (size : bank_size ≤ length b) (s e p i v : ℕ) (f : Field m s e p i) (hv : v < 2 ^ width_of (entry m e)) where
  at-in : field_at m s e p i < length b
  at-in = omega (arith, in-bank m g f)

  pub get-put : get_field m (put_field m b s e p i v) s e p i ≡ v
  unfolding get_field put_field
  get-put = rw (get_or-set_same b (field_at m s e p i) _ 0 at-in) (cut-merge _ _ _ v hv)

  -- another lane of the same part
  get-put-lane :
      (i' : ℕ)
      → Field m s e p i'
      → i' ≢ i
      → field_at m s e p i' ≡ field_at m s e p i
      → get_field m (put_field m b s e p i v) s e p i' ≡ get_field m b s e p i'
  unfolding get_field put_field
  get-put-lane i' f' ne q =
      rw
      (q, get_or-set_same b (field_at m s e p i) _ 0 at-in)
      (cut-merge-other _ _ _ v hv _ _ (lanes-apart (width_of (entry m e)) (field-width m g f) i i' f.low f'.low (λ x. ne (sym x)) (omega arith)))

  get-put-apart :
      (s' e' p' i' : ℕ)
      → field_at m s' e' p' i' ≢ field_at m s e p i
      → get_field m (put_field m b s e p i v) s' e' p' i' ≡ get_field m b s' e' p' i'
  unfolding get_field put_field
  get-put-apart s' e' p' i' d = rw (get_or-set_other b (field_at m s e p i) (field_at m s' e' p' i') _ 0 d)

  pub get-put-other :
      (s' e' p' i' : ℕ)
      → Field m s' e' p' i'
      → T (not (eqb₄ s e p i s' e' p' i'))
      → get_field m (put_field m b s e p i v) s' e' p' i' ≡ get_field m b s' e' p' i'
  get-put-other s' e' p' i' f' ne = go (ℕ_discrete (field_at m s' e' p' i') (field_at m s e p i))
    where
      go : Dec (field_at m s' e' p' i' ≡ field_at m s e p i) → get_field m (put_field m b s e p i v) s' e' p' i' ≡ get_field m b s' e' p' i'
      go (no d) = get-put-apart s' e' p' i' d
      go (yes q) =
          let es : s' ≡ s = same-set m g f' f q in
          let qb : field_byte (entry m e') p' i' ≡ field_byte (entry m e) p i = same-byte m g f' f q in
          let ee : e' ≡ e = same-entry m g f' f qb in
          let f₁ : Field m s e p' i' = rw (es, ee) at f' in
          let q₁ : field_byte (entry m e) p' i' ≡ field_byte (entry m e) p i = rw ee at qb in
          let ep : p' ≡ p = same-part m g f₁ f q₁ in
          let f₂ : Field m s e p i' = rw ep at f₁ in
          let q₂ : field_at m s e p i' ≡ field_at m s e p i = rw (es, ee, ep) at q in
          rw (es, ee, ep) (get-put-lane i' f₂ (ne₄ s e p i s' e' p' i' ne es ee ep) q₂)

  -- any field
  pub get-put-any :
      (s' e' p' i' : ℕ)
      → Field m s' e' p' i'
      → get_field m (put_field m b s e p i v) s' e' p' i' ≡ cond (eqb₄ s e p i s' e' p' i') v (get_field m b s' e' p' i')
  get-put-any s' e' p' i' f' =
      by-test
      (λ n. get_field m (put_field m b s e p i v) s' e' p' i' ≡ n)
      (eqb₄ s e p i s' e' p' i')
      v
      (get_field m b s' e' p' i')
      (λ y. let (a₁, a₂, a₃, a₄) = and₄ (eqb s' s) (eqb e' e) (eqb p' p) (eqb i' i) y in
      rw (eqb→eq s' s a₁, eqb→eq e' e a₂, eqb→eq p' p a₃, eqb→eq i' i a₄) get-put)
      (get-put-other s' e' p' i' f')

  -- a bit that the field doesn't cover
  pub put-bit :
      (s' k q : ℕ) → HasBytes s' → k < 256 → (s' ≡ s → ¬ (T (covers (entry m e) p i k q))) → bit_in (put_field m b s e p i v) s' k q ≡ bit_in b s' k q
  unfolding put_field
  put-bit s' k q hs hk out = go (ℕ_discrete (set_start s' + k) (field_at m s e p i))
    where
      go : Dec (set_start s' + k ≡ field_at m s e p i) → bit_in (put_field m b s e p i v) s' k q ≡ bit_in b s' k q
      go (no ne) = rw (get_or-set_other b (field_at m s e p i) (set_start s' + k) _ 0 ne)
      go (yes at) =
          let (es, here) = own-place m g f s' k hs hk at in
          rw
          (at, get_or-set_same b (field_at m s e p i) _ 0 at-in)
          (cut-merge-other _ _ _ v hv q 1 (beside (entry m e) p i k q (sym here) (out es)))

  pub put-bytes : ((k : ℕ) → k < bank_size → get_or b k 0 < 256) → (k : ℕ) → k < bank_size → get_or (put_field m b s e p i v) k 0 < 256
  unfolding put_field
  put-bytes small = set-bytes b (field_at m s e p i) _ at-in (rw eight at new) small
    where
      t : ℕ
      t = field_bit (entry m e) i

      eight : (8 - (width_of (entry m e) + t)) + (width_of (entry m e) + t) ≡ 8
      eight = omega (arith, in-byte m g f)

      new : merge (get_or b (field_at m s e p i) 0) t (width_of (entry m e)) v < 2 ^ ((8 - (width_of (entry m e) + t)) + (width_of (entry m e) + t))
      new = merge-lt _ t (width_of (entry m e)) v hv (8 - (width_of (entry m e) + t)) (rw eight (small (field_at m s e p i) (in-bank m g f)))

  pub put-elsewhere : (k : ℕ) → k ≢ field_at m s e p i → get_or (put_field m b s e p i v) k 0 ≡ get_or b k 0
  unfolding put_field
  put-elsewhere k ne = get_or-set_other b (field_at m s e p i) k _ 0 ne

  pub put-size : length (put_field m b s e p i v) ≡ length b
  unfolding put_field
  put-size = length-set b _ _

  pub put-beyond : drop bank_size (put_field m b s e p i v) ≡ drop bank_size b
  unfolding put_field
  put-beyond = drop-set-lt bank_size b (field_at m s e p i) _ (in-bank m g f)
