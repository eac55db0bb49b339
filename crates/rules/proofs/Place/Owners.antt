-- The owner of a bit, and the field that covers it: `owner_of` finds exactly the field whose placing covers the bit.
use mathlib.Core.Path.{◌≡◌, refl, sym, ◌∙◌}
use mathlib.Core.Logic.{◌⊎◌, inl, inr}
use mathlib.Core.Bool.{Bool, true, false, cond}
use Prim.Native.Nat.{ℕ, zero, suc, ◌+◌, ◌-◌, ◌≤◌, ◌<◌}
use native.Mathlib.Omega.{arith}
use native.Mathlib.Decide.{ℕ_discrete}
use lib.Dec.{T, ltb, leb, eqb, ltb→lt, leb→le, eqb→eq}
use Rattle.rules.specs.Load.{Map}
use Rattle.rules.specs.Place.{entry, parts_of, width_of, held_by, field_byte, field_bit, covers, or_else, first_owner, owner_of, Owner, field, gap, Field}
use Rattle.rules.specs.Layout.{HasBytes}
use Rattle.rules.proofs.Basics.Tests.{and₃, is-true, from-true}
use Rattle.rules.proofs.Place.Lanes.{lanes-apart}
use Rattle.rules.proofs.Place.AcceptedMap.{GoodMap}
use Rattle.rules.proofs.Place.Fields.{lane-field, field-width, same-entry, same-part}

first-some : (n : ℕ) (f : ℕ → Owner) (e p i : ℕ) → first_owner n f ≡ field e p i → (k : ℕ) × (k < n) × (f k ≡ field e p i)
unfolding first_owner
first-some zero f e p i h = let o : ◌≡◌ {A = ℕ} 0 1 = cc in absurd (omega arith)
first-some (suc n) f e p i h = go (first_owner n f) refl (first-some n f e p i) h
  where
    go : (x : Owner) → first_owner n f ≡ x → (first_owner n f ≡ field e p i → (k : ℕ) × (k < n) × (f k ≡ field e p i)) → or_else x (f n) ≡ field e p i
        → (k : ℕ) × (k < suc n) × (f k ≡ field e p i)
    go gap q r y = (n, omega arith, y)
    go (field e' p' i') q r y = let (k, l, z) = r (q ∙ y) in (k, omega arith, z)

first-gap : (n : ℕ) (f : ℕ → Owner) → ((k : ℕ) → k < n → f k ≡ gap) → first_owner n f ≡ gap
unfolding first_owner
first-gap zero f h = refl
first-gap (suc n) f h = rw (first-gap n f (λ k l. h k (omega arith))) (h n (omega arith))

-- a search in which every answer is a gap or one owner
module _ (e p i : ℕ) where
  abbrev Only : Owner → Type 0
  Only x = (x ≡ gap) ⊎ (x ≡ field e p i)

  or-only : (x y : Owner) → Only x → Only y → Only (or_else x y)
  or-only x y (inl a) h = rw a h
  or-only x y (inr a) h = rw a (inr refl)

  first-only : (n : ℕ) (f : ℕ → Owner) → ((k : ℕ) → k < n → Only (f k)) → Only (first_owner n f)
  unfolding first_owner
  first-only zero f h = inl refl
  first-only (suc n) f h = or-only (first_owner n f) (f n) (first-only n f (λ k l. h k (omega arith))) (h n (omega arith))

  or-right-owner : (x y : Owner) → Only x → y ≡ field e p i → or_else x y ≡ field e p i
  or-right-owner x y (inl a) h = rw a h
  or-right-owner x y (inr a) h = rw a

  first-one : (n : ℕ) (f : ℕ → Owner) → ((k : ℕ) → k < n → Only (f k)) → (k : ℕ) → k < n → f k ≡ field e p i → first_owner n f ≡ field e p i
  unfolding first_owner
  first-one zero f h k l q = absurd (omega arith)
  first-one (suc n) f h k l q = go (ℕ_discrete k n) (λ l'. first-one n f (λ j lj. h j (omega arith)) k l' q)
    where
      go : Dec (k ≡ n) → (k < n → first_owner n f ≡ field e p i) → or_else (first_owner n f) (f n) ≡ field e p i
      go (yes x) r = or-right-owner (first_owner n f) (f n) (first-only n f (λ j lj. h j (omega arith))) (rw x at q)
      go (no x) r = rw (r (omega arith)) refl

-- what a covered bit says
pub record Covers (m : Map) (e p i k q : ℕ) : Type 0 where
  pub byte : field_byte (entry m e) p i ≡ k
  pub low : field_bit (entry m e) i ≤ q
  pub top : q < field_bit (entry m e) i + width_of (entry m e)

pub covers-says : {m : Map} {e p i k q : ℕ} → T (covers (entry m e) p i k q) → Covers m e p i k q
covers-says {m} {e} {p} {i} {k} {q} h =
    let (a, b, c) = and₃ (eqb (field_byte (entry m e) p i) k) (leb (field_bit (entry m e) i) q) (ltb q (field_bit (entry m e) i + width_of (entry m e))) h in
    record { byte = eqb→eq _ _ a; low = leb→le _ _ b; top = ltb→lt _ _ c }

module _ (m : Map) (g : GoodMap m) where
  same-lane : {s e p i i' k q : ℕ} → Field m s e p i → Field m s e p i' → Covers m e p i k q → Covers m e p i' k q → i ≡ i'
  same-lane {s} {e} {p} {i} {i'} {k} {q} f f' c c' = go (ℕ_discrete i i')
    where
      clash : (field_bit (entry m e) i + width_of (entry m e) ≤ field_bit (entry m e) i') ⊎ (field_bit (entry m e) i' + width_of (entry m e) ≤ field_bit (entry m e) i) → ⊥
      clash (inl x) = omega (arith, c.top, c'.low)
      clash (inr x) = omega (arith, c.low, c'.top)

      go : Dec (i ≡ i') → i ≡ i'
      go (yes x) = x
      go (no ne) = absurd (clash (lanes-apart (width_of (entry m e)) (field-width m g f) i i' f.low f'.low ne (omega (arith, c.byte, c'.byte))))

  -- one field covers a bit
  pub covers-same : {s e p i e' p' i' k q : ℕ} → Field m s e p i → Field m s e' p' i' → Covers m e p i k q → Covers m e' p' i' k q → (e ≡ e') × (p ≡ p') × (i ≡ i')
  covers-same {s} {e} {p} {i} {e'} {p'} {i'} {k} {q} f f' c c' =
      let ee : e' ≡ e = same-entry m g f' f (c'.byte ∙ sym c.byte) in
      let f₁ : Field m s e p' i' = rw ee at f' in
      let c₁ : Covers m e p' i' k q = rw ee at c' in
      let ep : p' ≡ p = same-part m g f₁ f (c₁.byte ∙ sym c.byte) in
      let f₂ : Field m s e p i' = rw ep at f₁ in
      let c₂ : Covers m e p i' k q = rw ep at c₁ in
      (sym ee, sym ep, same-lane f f₂ c c₂)

  module _ (s k q : ℕ) (hs : HasBytes s) where
    abbrev found : ℕ → ℕ → ℕ → Owner
    found e p j = cond (covers (entry m e) p (suc j) k q) (field e p (suc j)) gap

    -- the owner covers the bit
    found-covers : (e' p' j e p i : ℕ) → Field m s e' p' (suc j) → found e' p' j ≡ field e p i → Field m s e p i × T (covers (entry m e) p i k q)
    found-covers e' p' j e p i f h = go (covers (entry m e') p' (suc j) k q) refl h
      where
        go : (c : Bool) → covers (entry m e') p' (suc j) k q ≡ c → cond c (field e' p' (suc j)) gap ≡ field e p i → Field m s e p i × T (covers (entry m e) p i k q)
        go true x y =
            let e₁ : e' ≡ e = cc in
            let e₂ : p' ≡ p = cc in
            let e₃ : suc j ≡ i = cc in
            rw (← e₁, ← e₂, ← e₃) (f, from-true x)
        go false x y = let o : ◌≡◌ {A = ℕ} 0 1 = cc in absurd (omega arith)

    pub owner-covers : (e p i : ℕ) → owner_of m s k q ≡ field e p i → Field m s e p i × T (covers (entry m e) p i k q)
    unfolding owner_of
    owner-covers e p i h =
        let (e', he, h₁) = first-some (held_by m s) _ e p i h in
        let (p', hp, h₂) = first-some (parts_of (entry m e')) _ e p i h₁ in
        let (j, hj, h₃) = first-some 8 _ e p i h₂ in
        found-covers e' p' j e p i (lane-field m s hs e' p' j he hp hj) h₃

    -- the field that covers the bit is its owner
    module _ (e p i : ℕ) (f : Field m s e p i) (c : T (covers (entry m e) p i k q)) where
      found-only : (e' p' j : ℕ) → e' < held_by m s → p' < parts_of (entry m e') → j < 8 → Only e p i (found e' p' j)
      found-only e' p' j he hp hj = go (covers (entry m e') p' (suc j) k q) refl
        where
          go : (x : Bool) → covers (entry m e') p' (suc j) k q ≡ x → Only e p i (cond x (field e' p' (suc j)) gap)
          go false y = inl refl
          go true y =
              let (a, b, d) = covers-same f (lane-field m s hs e' p' j he hp hj) (covers-says c) (covers-says (from-true y)) in
              inr (rw (a, b, d))

      lane-found : (j : ℕ) → suc j ≡ i → found e p j ≡ field e p i
      lane-found j x = rw (x, is-true (covers (entry m e) p i k q) c)

      pub covers-owner : owner_of m s k q ≡ field e p i
      unfolding owner_of
      covers-owner =
          let here : suc (i - 1) ≡ i = omega (arith, f.low) in
          first-one e p i (held_by m s) _ (λ e' he. first-only e p i _ _ λ p' hp. first-only e p i 8 _ λ j hj. found-only e' p' j he hp hj) e f.ent
          (first-one e p i (parts_of (entry m e)) _ (λ p' hp. first-only e p i 8 _ λ j hj. found-only e p' j f.ent hp hj) p f.part
          (first-one e p i 8 _ (λ j hj. found-only e p j f.ent f.part hj) (i - 1) (omega (arith, f.low, f.top)) (lane-found (i - 1) here)))

    -- a gap is covered by no field
    pub owner-none : ((e p i : ℕ) → Field m s e p i → ¬ (T (covers (entry m e) p i k q))) → owner_of m s k q ≡ gap
    unfolding owner_of
    owner-none h =
        first-gap (held_by m s) _ λ e he. first-gap (parts_of (entry m e)) _ λ p hp. first-gap 8 _ λ j hj.
        none (covers (entry m e) p (suc j) k q) (field e p (suc j)) (h e p (suc j) (lane-field m s hs e p j he hp hj))
      where
        none : (c : Bool) (x : Owner) → ¬ (T c) → cond c x gap ≡ gap
        none true x n = absurd (n tt)
        none false x n = refl
