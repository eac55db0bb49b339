-- Facts of the table, each by one test that is computed at every row.
use mathlib.Core.Path.{◌≡◌}
use mathlib.Core.Bool.{Bool, true, ◌&&◌, ◌||◌}
use mathlib.Core.Logic.{◌⊎◌, inl, inr}
use mathlib.Core.List.{List, [], ◌∷◌}
use Prim.Native.Nat.{ℕ, zero, suc, ◌*◌, ◌/◌, ◌≤◌, ◌<◌}
use native.Mathlib.Omega.{arith}
use lib.IntN.{ℤ}
use lib.Signed.{le_z}
use lib.Dec.{T, leb, eqb, leb→le, eqb→eq}
use lib.ListN.{get_or}
use Rattle.rules.specs.Words.{Entry}
use Rattle.rules.specs.Parameter.{Range, Values, numbers, if_in_mask, min_to_max, Row, rows, space, both, row_of}
use Rattle.rules.specs.Place.{parts_of, width_of, signed_of, Width}
use Rattle.rules.specs.Accept.{within, signed_byte, takes, accepts}
use Rattle.rules.proofs.Basics.Tests.{and₂, and₄, or-cases, is-true}
use Rattle.rules.proofs.Table.Numbers.{fits, signed-fits, fits-between}

abbrev pub all {ℓ} : {A : Type ℓ} → (A → Bool) → List A → Bool
all p [] = true
all p (x ∷ xs) = p x && all p xs

-- a test that each element passes, and the default, is passed by whatever is looked up
pub looked-up {ℓ} : {A : Type ℓ} (p : A → Bool) (xs : List A) (y : A) → T (all p xs) → T (p y) → (k : ℕ) → T (p (get_or xs k y))
looked-up p [] y t u k = u
looked-up p (x ∷ xs) y t u zero = (and₂ (p x) (all p xs) t).0
looked-up p (x ∷ xs) y t u (suc k) = looked-up p xs y (and₂ (p x) (all p xs) t).1 u k

abbrev range_fits : Row → Range → Bool
range_fits r x = fits r.signed r.width x.low && fits r.signed r.width x.high

abbrev values_fit : Row → Values → Bool
values_fit r (numbers l) = all (range_fits r) l
values_fit r (if_in_mask l) = all (range_fits r) l
values_fit r min_to_max = r.signed && eqb r.width 8

-- every row: a least Length of 3 to 8, as many bytes needed as the parts' lanes fill, a width that divides 8 where there
-- is a field, and accepted values that fit the width
abbrev fine : Row → Bool
fine r =
    (leb 3 r.least && leb r.least 8)
    && (eqb r.needed (r.parts * r.width)
    && ((eqb r.parts 0 || eqb (8 / r.width * r.width) 8)
    && values_fit r r.values))

record Fine (r : Row) : Type 0 where
  least : 3 ≤ r.least
  most : r.least ≤ 8
  needs : r.needed ≡ r.parts * r.width
  wide : 0 < r.parts → Width r.width
  range : T (values_fit r r.values)

row-fine : (id : ℕ) → T (fine (row_of id))
unfolding row_of fits
row-fine id = looked-up fine rows (space both) tt tt id

is-fine : (id : ℕ) → Fine (row_of id)
is-fine id =
    let r : Row = row_of id in
    let (t₁, t₂, t₃, t₄) = and₄ (leb 3 r.least && leb r.least 8) (eqb r.needed (r.parts * r.width)) (eqb r.parts 0 || eqb (8 / r.width * r.width) 8) (values_fit r r.values) (row-fine id) in
    let (u₁, u₂) = and₂ (leb 3 r.least) (leb r.least 8) t₁ in
    record { least = leb→le _ _ u₁; most = leb→le _ _ u₂; needs = eqb→eq _ _ t₂; wide = λ p. wide p (or-cases (eqb r.parts 0) _ t₃); range = t₄ }
  where
    wide : 0 < (row_of id).parts → T (eqb (row_of id).parts 0) ⊎ T (eqb (8 / (row_of id).width * (row_of id).width) 8) → Width (row_of id).width
    wide p (inl z) = let e : (row_of id).parts ≡ 0 = eqb→eq _ _ z in absurd (omega arith)
    wide p (inr f) = record { lanes = 8 / (row_of id).width; fills = eqb→eq _ _ f }

pub row-least : (id : ℕ) → 3 ≤ (row_of id).least
row-least id = (is-fine id).least

pub row-needed : (e : Entry) → (row_of e.id).needed ≡ parts_of e * width_of e
unfolding parts_of width_of
row-needed e = (is-fine e.id).needs

pub row-width : (e : Entry) → 0 < parts_of e → Width (width_of e)
unfolding parts_of width_of
row-width e = (is-fine e.id).wide

-- what is accepted fits the field
within-fits : (r : Row) (l : List Range) → T (all (range_fits r) l) → (v : ℤ) → T (within l v) → T (fits r.signed r.width v)
unfolding within
within-fits r [] a v h = absurd h
within-fits r (x ∷ l) a v h = go (or-cases (le_z x.low v && le_z v x.high) (within l v) h) (within-fits r l (and₂ (range_fits r x) (all (range_fits r) l) a).1 v)
  where
    go : T (le_z x.low v && le_z v x.high) ⊎ T (within l v) → (T (within l v) → T (fits r.signed r.width v)) → T (fits r.signed r.width v)
    go (inl y) k =
        let (p, q) = and₂ (fits r.signed r.width x.low) (fits r.signed r.width x.high) (and₂ (range_fits r x) (all (range_fits r) l) a).0 in
        let (s, t) = and₂ (le_z x.low v) (le_z v x.high) y in
        fits-between r.signed r.width x.low v x.high p q s t
    go (inr y) k = k y

takes-fits : (r : Row) (x : Values) (e : Entry) (v : ℤ) → T (values_fit r x) → T (takes x e v) → T (fits r.signed r.width v)
unfolding takes
takes-fits r (numbers l) e v a h = within-fits r l a v h
takes-fits r (if_in_mask l) e v a h = within-fits r l a v (and₂ (within l v) _ h).0
takes-fits r min_to_max e v a h =
    let (s, w) = and₂ r.signed (eqb r.width 8) a in
    let (p, q) = and₂ (le_z (signed_byte e.min) v) (le_z v (signed_byte e.max)) h in
    rw (is-true r.signed s, eqb→eq r.width 8 w)
    (fits-between true 8 (signed_byte e.min) v (signed_byte e.max) (signed-fits 8 (omega arith) e.min) (signed-fits 8 (omega arith) e.max) p q)

pub accepts-fits : (e : Entry) (v : ℤ) → T (accepts e v) → T (fits (signed_of e) (width_of e) v)
unfolding accepts signed_of width_of
accepts-fits e v h = takes-fits (row_of e.id) (row_of e.id).values e v (is-fine e.id).range h
