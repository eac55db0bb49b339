-- Applying: the active set's RW fields have the bits of their sources, and the rest of the bank is as it was. No other bank of bytes is so.
use mathlib.Core.Path.{◌≡◌, refl, sym, ap, ◌∙◌}
use mathlib.Core.Logic.{◌⊎◌, inl, inr, ◌≢◌}
use mathlib.Core.Bool.{◌&&◌, not, cond}
use Prim.Native.Nat.{ℕ, zero, suc, ◌+◌, ◌-◌, ◌%◌, ◌^◌, ◌≤◌, ◌<◌}
use native.Mathlib.Nat.{mod-eq_of_lt}
use native.Mathlib.Omega.{arith}
use native.Mathlib.Decide.{ℕ_discrete, dec_lt}
use lib.ListN.{length, get_or, drop, length-set, length-drop}
use lib.Seq.{get_or-set_other, get_or-drop, ext_get_or}
use lib.Dec.{T, T_not, eqb, eqb→eq, ltb→lt, lt→ltb}
use borrow.Author.Tests.{eq-eqb}
use Rattle.rules.specs.Load.{Map}
use Rattle.rules.specs.Place.{entry, parts_of, width_of, is_rw, held_by, field_byte, Field}
use Rattle.rules.specs.Layout.{bank_size, HasBytes, set_start, app_sel_at}
use Rattle.rules.specs.Source.{Source, kept, copied}
use Rattle.rules.specs.Bank.{Bank, app_sel_in, field_at, get_field, put_field, bank_source, bits_from, loop, give_field, apply_bank}
use Rattle.rules.specs.Table.{byte_from}
use Rattle.rules.proofs.Bank.Places.{named-has-bytes, set-inside}
use Rattle.rules.proofs.Bank.Bytes.{byte-ext, byte-of-bank}
use Rattle.rules.proofs.Basics.Tests.{and₂, and₄, by-test, either, is-true, from-true, both-true}
use Rattle.rules.proofs.Place.AcceptedMap.{GoodMap, rw-held, entry-good, entry-ends}
use Rattle.rules.proofs.Place.Fields.{field-in-set, lane-field, in-bank, no-app, own-place, same-set, same-byte, same-entry}
use Rattle.rules.proofs.Place.CoveredBytes.{covered, In, covered-in, in-covered, field_in, field-covered, in-same}
use Rattle.rules.proofs.Bank.FieldWritten.{eqb₄, get-put, get-put-any, put-bytes}
use Rattle.rules.proofs.Lists.Relation.{field-lt}

-- an invariant through a loop
loop-inv :
    (n : ℕ) (f : ℕ → Bank → Bank) (P : ℕ → Bank → Type 0) (b : Bank)
    → P 0 b
    → ((j : ℕ) (b' : Bank) → j < n → P j b' → P (suc j) (f j b'))
    → P n (loop n f b)
unfolding loop
loop-inv zero f P b p step = p
loop-inv (suc n) f P b p step = step n (loop n f b) (omega arith) (loop-inv n f P b p (λ j b' l. step j b' (omega arith)))

-- what every turn of a loop keeps
loop-keeps :
    (n : ℕ) (f : ℕ → Bank → Bank) (P : Bank → Type 0) (b : Bank) → ((j : ℕ) (b' : Bank) → j < n → P b' → P (f j b')) → P b → P (loop n f b)
loop-keeps n f P b step p = loop-inv n f (λ _. P) b p step

-- what turn k of a loop brings about, where P holds before it, and every turn keeps
loop-turn :
    (n : ℕ) (f : ℕ → Bank → Bank) (P Q : Bank → Type 0) (k : ℕ) (b : Bank)
    → k < n
    → ((j : ℕ) (b' : Bank) → j < n → P b' → P (f j b'))
    → ((j : ℕ) (b' : Bank) → j < n → Q b' → Q (f j b'))
    → ((b' : Bank) → P b' → Q (f k b'))
    → P b
    → Q (loop n f b)
loop-turn n f P Q k b l kp kq turn p =
    (loop-inv n f (λ j b'. P b' × (k < j → Q b')) b (p, λ h. absurd (omega arith))
    (λ j b' h r. (kp j b' h r.0, λ past. go j b' h past r (ℕ_discrete k j)))
    ).1 l
  where
    go : (j : ℕ) (b' : Bank) → j < n → k < suc j → P b' × (k < j → Q b') → Dec (k ≡ j) → Q (f j b')
    go j b' h past r (yes q) = rw q at (turn b' r.0)
    go j b' h past r (no ne) = kq j b' h (r.1 (omega arith))

-- what a bank is after apply, byte by byte and field by field
pub record Applied (m : Map) (s lanes : ℕ) (b after : Bank) : Type 0 where
  pub size : length after ≡ length b
  -- each RW field of the active set has the bits of its source
  pub fields : (e p i : ℕ) → e < m.rw_count → Field m 2 e p i → get_field m after 2 e p i ≡ bits_from (bank_source m b s lanes e i) m b s e p i
  -- a byte of the bank without such a field is as it was
  pub rest : (k : ℕ) → ((e p i : ℕ) → e < m.rw_count → Field m 2 e p i → k ≢ field_at m 2 e p i) → get_or after k 0 ≡ get_or b k 0

-- the bytes inside a bank's size are bytes
abbrev pub Bytes : Bank → Type 0
Bytes b = (k : ℕ) → k < bank_size → get_or b k 0 < 256

active : HasBytes 2
active = named-has-bytes 2 (omega arith)

-- the bits of any source are a field's
from-lt : (c : Source) (m : Map) (b : Bank) (s e p i : ℕ) → bits_from c m b s e p i < 2 ^ width_of (entry m e)
from-lt kept m b s e p i = field-lt m b _ e p _
from-lt copied m b s e p i = field-lt m b _ e p _

module _ (m : Map) (g : GoodMap m) (s lanes : ℕ) (b : Bank) where
  -- the bits that a field is given
  abbrev given : ℕ → ℕ → ℕ → ℕ
  given e p i = bits_from (bank_source m b s lanes e i) m b s e p i

  pub given-lt : (e p i : ℕ) → given e p i < 2 ^ width_of (entry m e)
  given-lt e p i = from-lt (bank_source m b s lanes e i) m b s e p i

  -- giving a field its bits keeps P
  abbrev pub GivesKeep : (Bank → Type 0) → Type 0
  GivesKeep P = (e p i : ℕ) (x : Bank) → e < m.rw_count → Field m 2 e p i → P x → P (put_field m x 2 e p i (given e p i))

  abbrev lanes_of : ℕ → ℕ → Bank → Bank
  lanes_of e p = loop 8 (λ j. give_field m s lanes b e p (suc j))

  -- what that keeps, apply keeps
  module _ (P : Bank → Type 0) (give : GivesKeep P) where
    lane-keeps : (e p j : ℕ) (x : Bank) → e < m.rw_count → p < parts_of (entry m e) → j < 8 → P x → P (give_field m s lanes b e p (suc j) x)
    unfolding give_field
    lane-keeps e p j x he hp hj = give e p (suc j) x he (lane-field m 2 active e p j (rw-held m g 2 e he) hp hj)

    lanes-keep : (e p : ℕ) (x : Bank) → e < m.rw_count → p < parts_of (entry m e) → P x → P (lanes_of e p x)
    lanes-keep e p x he hp = loop-keeps 8 _ P x (λ j y. lane-keeps e p j y he hp)

    parts-keep : (e : ℕ) (x : Bank) → e < m.rw_count → P x → P (loop (parts_of (entry m e)) (lanes_of e) x)
    parts-keep e x he = loop-keeps (parts_of (entry m e)) _ P x (λ p y. lanes-keep e p y he)

    pub apply-keeps : P b → P (apply_bank m s lanes b)
    unfolding apply_bank
    apply-keeps = loop-keeps m.rw_count _ P b parts-keep

  -- what the turn of one field brings about, where P holds before it, and every turn keeps
  apply-turn :
      (P Q : Bank → Type 0) (e p j : ℕ)
      → e < m.rw_count
      → p < parts_of (entry m e)
      → j < 8
      → GivesKeep P
      → GivesKeep Q
      → ((x : Bank) → P x → Q (give_field m s lanes b e p (suc j) x))
      → P b
      → Q (apply_bank m s lanes b)
  unfolding apply_bank
  apply-turn P Q e p j he hp hj kp kq turn =
      loop-turn m.rw_count _ P Q e b he (parts-keep P kp) (parts-keep Q kq)
      λ x. loop-turn (parts_of (entry m e)) _ P Q p x hp (λ p' y. lanes-keep P kp e p' y he) (λ p' y. lanes-keep Q kq e p' y he)
      λ x. loop-turn 8 _ P Q j x hj (λ j' y. lane-keeps P kp e p j' y he hp) (λ j' y. lane-keeps Q kq e p j' y he hp) turn

  module _ (size : bank_size ≤ length b) where
    abbrev Sized : (Bank → Type 0) → Bank → Type 0
    Sized P x = (bank_size ≤ length x) × P x

    give-size : GivesKeep (λ x. bank_size ≤ length x)
    unfolding put_field
    give-size e p i x he f z = rw (length-set x (field_at m 2 e p i) _) z

    given-field : (e p i : ℕ) → e < m.rw_count → Field m 2 e p i → get_field m (apply_bank m s lanes b) 2 e p i ≡ given e p i
    unfolding give_field
    given-field e p zero he f = absurd (omega (arith, f.low))
    given-field e p (suc j) he f =
        (apply-turn (λ x. bank_size ≤ length x) Q e p j he f.part f.top give-size keep
        (λ x z. (give-size e p (suc j) x he f z, get-put m g x z 2 e p (suc j) _ f (given-lt e p (suc j))))
        size
        ).1
      where
        Q : Bank → Type 0
        Q = Sized λ x. get_field m x 2 e p (suc j) ≡ given e p (suc j)

        keep : GivesKeep Q
        keep e' p' i' x he' f' (z, q) = (
          give-size e' p' i' x he' f' z,
          get-put-any m g x z 2 e' p' i' _ f' (given-lt e' p' i') 2 e p (suc j) f
              ∙ by-test (λ n. n ≡ given e p (suc j)) (eqb₄ 2 e' p' i' 2 e p (suc j)) _ _
              (λ y. let (a₁, a₂, a₃, a₄) = and₄ (eqb 2 2) (eqb e e') (eqb p p') (eqb (suc j) i') y in
              rw (eqb→eq e e' a₂, eqb→eq p p' a₃, eqb→eq (suc j) i' a₄))
              (λ _. q),
        )

    pub apply-is : Applied m s lanes b (apply_bank m s lanes b)
    unfolding put_field
    apply-is =
        record {
          size = apply-keeps (λ x. length x ≡ length b) (λ e p i x he f q. length-set x _ _ ∙ q) refl;
          fields = given-field;
          rest = λ k out. apply-keeps (λ x. get_or x k 0 ≡ get_or b k 0) (λ e p i x he f q. get_or-set_other x _ k _ 0 (out e p i he f) ∙ q) refl;
        }

    -- bytes stay bytes
    pub apply-bytes : Bytes b → Bytes (apply_bank m s lanes b)
    apply-bytes small =
        (apply-keeps (Sized Bytes)
        (λ e p i x he f (z, q). (give-size e p i x he f z, put-bytes m g x z 2 e p i _ f (given-lt e p i) q))
        (size, small)
        ).1

-- what follows of any bank that is so
module _ (m : Map) (g : GoodMap m) (s lanes : ℕ) (b after : Bank) (r : Applied m s lanes b after) where
  -- any field: an RW field of the active set has the bits of its source, any other its own
  pub apply-field :
      (s' e p i : ℕ)
      → Field m s' e p i
      → get_field m after s' e p i ≡ cond (eqb s' 2 && is_rw m e) (bits_from (bank_source m b s lanes e i) m b s e p i) (get_field m b s' e p i)
  unfolding get_field
  apply-field s' e p i f =
      by-test (λ n. get_field m after s' e p i ≡ n) (eqb s' 2 && is_rw m e) _ _
      (λ y. let (a₁, a₂) = and₂ (eqb s' 2) (is_rw m e) y in
      let es : s' ≡ 2 = eqb→eq s' 2 a₁ in
      rw es (r.fields e p i (ltb→lt _ _ a₂) (rw es at f)))
      (λ n. rw (r.rest (field_at m s' e p i) (other n)))
    where
      other : T (not (eqb s' 2 && is_rw m e)) → (e' p' i' : ℕ) → e' < m.rw_count → Field m 2 e' p' i' → field_at m s' e p i ≢ field_at m 2 e' p' i'
      other n e' p' i' he f' q =
          T_not (eqb s' 2 && is_rw m e) n
          (both-true (eqb s' 2) _ (from-true (eq-eqb s' 2 (same-set m g f f' q))) (rw (same-entry m g f f' (same-byte m g f f' q)) (lt→ltb _ _ he)))

  -- the AppSels, gaps, and what lies past the bank's size
  pub apply-apps : (s' i : ℕ) → s' < 2 → i ≤ 8 → app_sel_in after s' i ≡ app_sel_in b s' i
  apply-apps s' i hs hi = r.rest (app_sel_at s' i) (λ e p i' he f. no-app m g f s' i hs hi)

  pub apply-gaps : (s' k : ℕ) → HasBytes s' → k < 256 → T (not (covered m s' k)) → get_or after (set_start s' + k) 0 ≡ get_or b (set_start s' + k) 0
  apply-gaps s' k hs hk nc =
      r.rest (set_start s' + k)
      (λ e p i he f q. let (es, ek) = own-place m g f s' k hs hk q in T_not (covered m s' k) nc (rw (es, ek) (field-covered m g f)))

  pub apply-beyond : drop bank_size after ≡ drop bank_size b
  apply-beyond =
      ext_get_or 0 _ _ (length-drop bank_size after ∙ ap (λ n. n - bank_size) r.size ∙ sym (length-drop bank_size b))
      (λ k _. get_or-drop bank_size after k 0 ∙ r.rest (bank_size + k) (λ e p i he f q. omega (arith, in-bank m g f)) ∙ sym (get_or-drop bank_size b k 0))

-- two banks that are so, and have bytes inside their size, are one
module _ (m : Map) (g : GoodMap m) (s lanes : ℕ) (b x y : Bank) (rx : Applied m s lanes b x) (ry : Applied m s lanes b y) (small : Bytes x) (small' : Bytes y) where
  same-rest : (k : ℕ) → ((e p i : ℕ) → e < m.rw_count → Field m 2 e p i → k ≢ field_at m 2 e p i) → get_or x k 0 ≡ get_or y k 0
  same-rest k out = rx.rest k out ∙ sym (ry.rest k out)

  -- byte k of the active set, with RW fields: those that a staged set has too
  same-fields : (k : ℕ) → T (covered m 0 k) → get_or x (set_start 2 + k) 0 ≡ get_or y (set_start 2 + k) 0
  unfolding held_by
  same-fields k c =
      let (e, h) = in-covered m 0 k c in
      let h₂ : In m 2 e k = record { ent = rw-held m g 2 e h.ent; low = h.low; top = h.top } in
      let inside : set_start 2 + k < bank_size = set-inside 2 k active (omega (arith, h.top, (entry-good m g 0 e h.ent).room, entry-ends m g 0 e h.ent)) in
      let byte : (z : Bank) → byte_from m 2 k (get_field m z 2) ≡ get_or z (set_start 2 + k) 0 % 256 =
      λ z. rw (is-true (covered m 2 k) (covered-in h₂)) at (byte-of-bank m 2 k active g z) in
      sym (mod-eq_of_lt (small _ inside))
      ∙ sym (byte x)
      ∙ byte-ext m 2 k active _ _ (λ e' p i f q.
      let he : e' < m.rw_count = rw (in-same m g (rw q at (field_in m g f)) h₂) h.ent in
      rx.fields e' p i he f ∙ sym (ry.fields e' p i he f))
      ∙ byte y
      ∙ mod-eq_of_lt (small' _ inside)

  same-bytes : (k : ℕ) → get_or x k 0 ≡ get_or y k 0
  same-bytes k = go (dec_lt k (set_start 2)) (either (covered m 0 (k - set_start 2)))
    where
      go : Dec (k < set_start 2) → T (covered m 0 (k - set_start 2)) ⊎ T (not (covered m 0 (k - set_start 2))) → get_or x k 0 ≡ get_or y k 0
      go (yes l) d = same-rest k (λ e p i he f q. omega arith)
      go (no l) (inl c) = let at : set_start 2 + (k - set_start 2) ≡ k = omega arith in rw at at (same-fields (k - set_start 2) c)
      go (no l) (inr n) =
          same-rest k (λ e p i he f q.
          let at : k - set_start 2 ≡ field_byte (entry m e) p i = omega arith in
          T_not (covered m 0 (k - set_start 2)) n (rw at (field-covered m g (field-in-set 0 (named-has-bytes 0 (omega arith)) (rw-held m g 0 e he) f))))

  pub applied-one : x ≡ y
  applied-one = ext_get_or 0 x y (rx.size ∙ sym ry.size) (λ k _. same-bytes k)
