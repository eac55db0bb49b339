-- The relation of the two machines' states, and what keeps it: a number put, an application selected, a byte written.
use mathlib.Core.Path.{◌≡◌, refl, sym, ap, ◌∙◌}
use mathlib.Core.Bool.{◌&&◌, not, cond}
use mathlib.Core.List.{List}
use Prim.Native.Nat.{ℕ, ◌+◌, ◌%◌, ◌^◌, ◌≤◌, ◌<◌}
use native.Mathlib.Nat.{mod-lt}
use native.Mathlib.Omega.{arith}
use native.Mathlib.Decide.{ℕ_discrete}
use lib.IntN.{ℤ}
use lib.ListN.{length, get_or, set, length-set, drop}
use lib.Dec.{T, eqb, eqb→eq, T_not}
use lib.Seq.{get_or-set_same, get_or-set_other, drop-set-lt}
use borrow.Author.Tests.{eq-eqb}
use Rattle.rules.specs.Load.{Map}
use Rattle.rules.specs.Place.{entry, width_of, signed_of, holds, field_byte, field_bit, Field}
use Rattle.rules.specs.Accept.{to_bits, from_bits}
use Rattle.rules.specs.Layout.{bank_size, HasBytes, set_start, app_sel_at}
use Rattle.rules.specs.Bank.{Bank, app_sel_in, field_at, get_field, put_field, number_in, with_number, field_bits}
use Rattle.rules.specs.Table.{Table, renumbered, stored, in_byte, own_bits}
use Rattle.rules.proofs.Basics.Tests.{and₂, and₄, by-test, is-true, is-false, from-true, both-true}
use Rattle.rules.proofs.Bank.Places.{set-inside, set-apart, app-inside, app-apart, app-no-set}
use Rattle.rules.proofs.Place.Lanes.{width-pos}
use Rattle.rules.proofs.Basics.Digits.{cut-lt}
use Rattle.rules.proofs.Table.Numbers.{fits, to-lt, from-to, to-from}
use Rattle.rules.proofs.Place.AcceptedMap.{GoodMap}
use Rattle.rules.proofs.Place.Fields.{field-holds, field-width, in-set, no-app, own-place, in-byte}
use Rattle.rules.proofs.Bank.FieldWritten.{eqb₄, get-put, get-put-other, put-bytes, put-elsewhere, put-size, put-beyond, set-bytes}
use Rattle.rules.proofs.Place.CoveredBytes.{covered, field-covered}
use Rattle.rules.proofs.Bank.Bytes.{cut-mod}
use Rattle.rules.proofs.Bank.Gaps.{field-bits}

-- the bank's fields and AppSels are the table's, its gaps are 0, its bytes are bytes, and what lies past its size is `tail`
pub record Holds (m : Map) (tail : List ℕ) (b : Bank) (t : Table) : Type 0 where
  pub size : bank_size ≤ length b
  pub beyond : drop bank_size b ≡ tail
  pub bytes : (k : ℕ) → k < bank_size → get_or b k 0 < 256
  pub fields : (s e p i : ℕ) → Field m s e p i → number_in m b s e p i ≡ t.numbers s e p i
  pub apps : (s i : ℕ) → s < 2 → 1 ≤ i → i ≤ 8 → app_sel_in b s i ≡ t.apps s i
  pub gaps : (s k : ℕ) → HasBytes s → k < 256 → T (not (covered m s k)) → get_or b (set_start s + k) 0 ≡ 0

ne₂ : (a a' b b' : ℕ) → T (not (eqb a a' && eqb b b')) → a ≡ a' → b ≡ b' → ⊥
ne₂ a a' b b' h e f = rw (eq-eqb a a' e, eq-eqb b b' f) at h

pub field-lt : (m : Map) (b : Bank) (s e p i : ℕ) → get_field m b s e p i < 2 ^ width_of (entry m e)
unfolding get_field
field-lt m b s e p i = cut-lt _ _ _

module _ (m : Map) (g : GoodMap m) (b : Bank) where
  wide : {s e p i : ℕ} → Field m s e p i → 0 < width_of (entry m e)
  wide {s} {e} f = width-pos (width_of (entry m e)) (field-width m g f)

  -- a field's bits are its number's
  pub bits_of : {s e p i : ℕ} → Field m s e p i → to_bits (width_of (entry m e)) (number_in m b s e p i) ≡ get_field m b s e p i
  unfolding number_in
  bits_of {s} {e} {p} {i} f = to-from (width_of (entry m e)) (wide f) (signed_of (entry m e)) _ (field-lt m b s e p i)

module _ (m : Map) (g : GoodMap m) (tail : List ℕ) (b : Bank) (t : Table) (r : Holds m tail b t) where
  -- a number that fits is put into a field
  module _ (s e p i : ℕ) (v : ℤ) (f : Field m s e p i) (hv : T (fits (signed_of (entry m e)) (width_of (entry m e)) v)) where
    x : ℕ
    x = to_bits (width_of (entry m e)) v

    x-lt : x < 2 ^ width_of (entry m e)
    unfolding x
    x-lt = to-lt (width_of (entry m e)) (wide m g b f) (signed_of (entry m e)) v hv

    put-fields : (s' e' p' i' : ℕ) → Field m s' e' p' i' → number_in m (with_number m b s e p i v) s' e' p' i' ≡ (stored t s e p i v).numbers s' e' p' i'
    unfolding number_in with_number x
    put-fields s' e' p' i' f' =
        by-test
        (λ n. number_in m (put_field m b s e p i x) s' e' p' i' ≡ n)
        (eqb₄ s e p i s' e' p' i')
        v
        (t.numbers s' e' p' i')
        (λ y. let (a₁, a₂, a₃, a₄) = and₄ (eqb s' s) (eqb e' e) (eqb p' p) (eqb i' i) y in
        rw
        (eqb→eq s' s a₁, eqb→eq e' e a₂, eqb→eq p' p a₃, eqb→eq i' i a₄)
        (ap (from_bits (signed_of (entry m e)) (width_of (entry m e))) (get-put m g b r.size s e p i x f x-lt)
        ∙ from-to (width_of (entry m e)) (wide m g b f) (signed_of (entry m e)) v hv))
        (λ ne. ap (from_bits (signed_of (entry m e')) (width_of (entry m e'))) (get-put-other m g b r.size s e p i x f x-lt s' e' p' i' f' ne) ∙ r.fields s' e' p' i' f')

    not-here : (s' k : ℕ) → HasBytes s' → k < 256 → T (not (covered m s' k)) → set_start s' + k ≡ field_at m s e p i → ⊥
    not-here s' k hs hk nc q =
        let (es, q') = own-place m g f s' k hs hk q in
        T_not (covered m s' k) nc (rw (es, q') (field-covered m g f))

    pub put-holds : Holds m tail (with_number m b s e p i v) (stored t s e p i v)
    unfolding with_number x
    put-holds =
        record {
          size = rw (put-size m g b r.size s e p i x f x-lt) r.size;
          beyond = put-beyond m g b r.size s e p i x f x-lt ∙ r.beyond;
          bytes = put-bytes m g b r.size s e p i x f x-lt r.bytes;
          fields = put-fields;
          apps = λ s' i' hs hi hj.
              put-elsewhere m g b r.size s e p i x f x-lt (app_sel_at s' i') (no-app m g f s' i' hs hj) ∙ r.apps s' i' hs hi hj;
          gaps = λ s' k hs hk nc.
              put-elsewhere m g b r.size s e p i x f x-lt (set_start s' + k) (not-here s' k hs hk nc) ∙ r.gaps s' k hs hk nc;
        }

  -- an application is selected
  pub select-holds :
      (s i a : ℕ)
      → s < 2
      → 1 ≤ i
      → i ≤ 8
      → a < 256
      → Holds m tail (set b (app_sel_at s i) a) (record { numbers = t.numbers; apps = λ s' i'. cond (eqb s' s && eqb i' i) a (t.apps s' i') })
  unfolding number_in get_field
  select-holds s i a hs hi hj ha =
      record {
        size = rw (length-set b (app_sel_at s i) a) r.size;
        beyond = drop-set-lt bank_size b (app_sel_at s i) a (app-inside s i hs hj) ∙ r.beyond;
        bytes = set-bytes b (app_sel_at s i) a app-in ha r.bytes;
        fields = λ s' e' p' i' f'.
            rw
            (get_or-set_other b (app_sel_at s i) (field_at m s' e' p' i') a 0 (λ q. no-app m g f' s i hs hj (sym q)))
            (r.fields s' e' p' i' f');
        apps = λ s' i' hs' hi' hj'.
            by-test
            (λ n. get_or (set b (app_sel_at s i) a) (app_sel_at s' i') 0 ≡ n)
            (eqb s' s && eqb i' i)
            a
            (t.apps s' i')
            (λ y. let (a₁, a₂) = and₂ (eqb s' s) (eqb i' i) y in
            rw (eqb→eq s' s a₁, eqb→eq i' i a₂) (get_or-set_same b (app_sel_at s i) a 0 app-in))
            (λ ne. get_or-set_other b (app_sel_at s i) (app_sel_at s' i') a 0 (λ q. let (es, ei) = app-apart s' i' s i hs' hs hi' hj' hi hj q in ne₂ s' s i' i ne es ei) ∙ r.apps s' i' hs' hi' hj');
        gaps = λ s' k hs' hk nc. get_or-set_other b (app_sel_at s i) (set_start s' + k) a 0 (λ q. app-no-set s i s' k hs hj hs' hk (sym q)) ∙ r.gaps s' k hs' hk nc;
      }
    where
      app-in : app_sel_at s i < length b
      app-in = omega (arith, app-inside s i hs hj, r.size)

  -- a byte is written: its fields take their own bits, its gaps become 0
  module _ (s k v : ℕ) (hs : HasBytes s) (hk : k < 256) where
    new : ℕ
    new = field_bits m s k v

    new-eq : new ≡ cond (covered m s k) (v % 256) 0
    unfolding new
    new-eq = field-bits m g s k hs v

    new-lt : new < 256
    new-lt = rw new-eq (by-test (λ n. n < 256) (covered m s k) (v % 256) 0 (λ _. mod-lt v (omega arith)) (λ _. omega arith))

    at-in : set_start s + k < length b
    at-in = omega (arith, set-inside s k hs hk, r.size)

    gap :
        (s' k' : ℕ)
        → HasBytes s'
        → k' < 256
        → T (not (covered m s' k'))
        → Dec (set_start s' + k' ≡ set_start s + k)
        → get_or (set b (set_start s + k) new) (set_start s' + k') 0 ≡ 0
    gap s' k' hs' hk' nc (yes q) =
        let (qs, qk) = set-apart s' k' s k hs' hs hk' hk q in
        rw (q, get_or-set_same b (set_start s + k) new 0 at-in, new-eq, is-false (covered m s k) (rw (qs, qk) at nc)) refl
    gap s' k' hs' hk' nc (no ne) = get_or-set_other b (set_start s + k) (set_start s' + k') new 0 ne ∙ r.gaps s' k' hs' hk' nc

    -- of a field that a set holds, `in_byte` asks only for its byte
    held-here : (s' e p i : ℕ) → Field m s' e p i → s' ≡ s → T (holds m s e p i)
    held-here s' e p i f q = rw q at (field-holds f)

    byte-fields :
        (s' e p i : ℕ)
        → Field m s' e p i
        → number_in m (set b (set_start s + k) new) s' e p i
        ≡ cond (eqb s' s && in_byte m s k e p i) (own_bits (entry m e) i v) (t.numbers s' e p i)
    unfolding number_in get_field
    byte-fields s' e p i f =
        by-test
        (λ n. number_in m (set b (set_start s + k) new) s' e p i ≡ n)
        (eqb s' s && in_byte m s k e p i)
        (own_bits (entry m e) i v)
        (t.numbers s' e p i)
        (λ y. let (a₁, a₂) = and₂ (eqb s' s) (in_byte m s k e p i) y in
        let (a₃, a₄) = and₂ (holds m s e p i) (eqb (field_byte (entry m e) p i) k) a₂ in
        let q : field_byte (entry m e) p i ≡ k = eqb→eq _ _ a₄ in
        let q₁ : s' ≡ s = eqb→eq _ _ a₁ in
        let q₂ : field_at m s' e p i ≡ set_start s + k = rw (q, q₁) in
        rw
        (q₂, get_or-set_same b (set_start s + k) new 0 at-in, new-eq, is-true (covered m s k) (rw (q, q₁) at (field-covered m g f)))
        (ap (from_bits (signed_of (entry m e)) (width_of (entry m e))) (cut-mod v (field_bit (entry m e) i) (width_of (entry m e)) (in-byte m g f))))
        (λ ne. rw
        (get_or-set_other b (set_start s + k) (field_at m s' e p i) new 0 (λ q.
        let (q₁, q₂) = set-apart s' _ s k f.set hs (in-set m g f) hk q in
        T_not (eqb s' s && in_byte m s k e p i) ne
        (both-true (eqb s' s) _ (from-true (eq-eqb s' s q₁))
        (both-true (holds m s e p i) _ (held-here s' e p i f q₁) (from-true (eq-eqb (field_byte (entry m e) p i) k q₂))))))
        (r.fields s' e p i f))

    pub byte-holds :
        Holds m tail
        (set b (set_start s + k) (field_bits m s k v))
        (renumbered t λ s' e p i. cond (eqb s' s && in_byte m s k e p i) (own_bits (entry m e) i v) (t.numbers s' e p i))
    unfolding new
    byte-holds =
        record {
          size = rw (length-set b (set_start s + k) new) r.size;
          beyond = drop-set-lt bank_size b (set_start s + k) new (set-inside s k hs hk) ∙ r.beyond;
          bytes = set-bytes b (set_start s + k) new at-in new-lt r.bytes;
          fields = byte-fields;
          apps = λ s' i hs' hi hj. get_or-set_other b (set_start s + k) (app_sel_at s' i) new 0 (app-no-set s' i s k hs' hj hs hk) ∙ r.apps s' i hs' hi hj;
          gaps = λ s' k' hs' hk' nc. gap s' k' hs' hk' nc (ℕ_discrete (set_start s' + k') (set_start s + k));
        }
