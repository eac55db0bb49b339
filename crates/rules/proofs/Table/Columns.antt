-- The table by ID against the table line by line: one test, computed at every line and every ID, and from it what each column says.
use mathlib.Core.Path.{◌≡◌, refl}
use mathlib.Core.Logic.Iff
use mathlib.Core.Logic.{◌⊎◌, inl, inr, ⊎_elim, ◌↔◌}
use mathlib.Core.Bool.{Bool, true, false, ◌&&◌, ◌||◌, not, cond}
use mathlib.Core.List.{List, [], ◌∷◌}
use Prim.Native.Nat.{ℕ, suc, ◌+◌, ◌-◌, ◌*◌, ◌≤◌, ◌<◌}
use native.Mathlib.Omega.{arith}
use borrow.Author.Tests.{le-leb, eq-eqb, ne_eqb}
use lib.IntN.{ℤ, pos, negsuc}
use lib.Signed.{◌≤ℤ◌, le_z, le_z_yes}
use lib.Dec.{T, ltb, ltb→lt, nltb→le, leb, eqb, eqb→eq}
use lib.ListN.{get_or-eq_default}
use Rattle.rules.specs.Words.{Entry}
use Rattle.rules.specs.Parameter.{both, Extra, index, target, code_mask, min, max, step, Range, Values, numbers, if_in_mask, min_to_max, Row, rows, space, row_of}
use Rattle.rules.specs.Descriptor.{byte_at, size_of, kind, same, Position, absent, after, further, position_of, codes_of, byte_of, entry_at, reserved}
use Rattle.rules.specs.Place.{parts_of, width_of, signed_of}
use Rattle.rules.specs.Accept.{within, in_mask, from_bits, signed_byte, takes, accepts}
use Rattle.rules.specs.Columns.{Cells, Line, lines, Space, Among, SomeLine, OfLine, InTable, InRanges, InMask, SignedByte, Takes, Accepts, BelowLeast, BelowNeeded, Shaped, signed_ids, TwosComplement, ExtrasAt, ReservedStep, ExtrasRead}
use Rattle.rules.proofs.Basics.Tests.{is-true, is-false, and₂, and₅, or-left, or-right, or-cases, or-yes, either, by-test, from-true}
use Rattle.rules.proofs.Basics.Facts.{lt-says, le-says, eq-says, true-says, or-says, and-says}
use Rattle.rules.proofs.Load.Checks.{high-two}
use Rattle.rules.proofs.Basics.Ids.{every-id, by-row}
use Rattle.rules.proofs.Table.Rows.{all, looked-up}

-- a row's cells
abbrev cells_of : Row → Cells
cells_of r =
    record { parts = r.parts; width = r.width; needed = r.needed; least = r.least; extras = r.extras; steps = r.steps; values = r.values }

-- the rows of a line's IDs have that line's cells: one comparison, computed
abbrev each : (ℕ → Cells) → List ℕ → List Cells
each f [] = []
each f (x ∷ l) = f x ∷ each f l

abbrev each_line : (Line → List Cells) → List Line → List (List Cells)
each_line f [] = []
each_line f (l ∷ ls) = f l ∷ each_line f ls

abbrev Same : List Line → Type 0
Same ls = each_line (λ l. each (λ id. cells_of (row_of id)) l.ids) ls ≡ each_line (λ l. each (λ id. l.cells) l.ids) ls

same-cells : Same lines
unfolding row_of
same-cells = refl

among-same : (f g : ℕ → Cells) (l : List ℕ) (id : ℕ) → each f l ≡ each g l → Among id l → f id ≡ g id
among-same f g [] id q h = absurd h
among-same f g (x ∷ l) id q (inl h) = let e : f x ≡ g x = cc in rw h e
among-same f g (x ∷ l) id q (inr h) = among-same f g l id (cc) h

line-same : (id : ℕ) (P : Cells → Type 0) (ls : List Line) → Same ls → SomeLine ls id P → P (cells_of (row_of id))
line-same id P [] q h = absurd h
line-same id P (l ∷ ls) q (inl h) =
    let e : cells_of (row_of id) ≡ l.cells = among-same (λ x. cells_of (row_of x)) (λ x. l.cells) l.ids id (cc) h.0 in rw e h.1
line-same id P (l ∷ ls) q (inr h) = line-same id P ls (cc) h

-- an ID has a line, or it takes space and its row is that of a space: one test, computed at every ID
abbrev listed : ℕ → List ℕ → Bool
listed id [] = false
listed id (x ∷ l) = eqb id x || listed id l

abbrev has_line : ℕ → List Line → Bool
has_line id [] = false
has_line id (l ∷ ls) = listed id l.ids || has_line id ls

listed-among : (id : ℕ) (l : List ℕ) → T (listed id l) → Among id l
listed-among id [] h = absurd h
listed-among id (x ∷ l) h = ⊎_elim (λ t. inl (eqb→eq id x t)) (λ t. inr (listed-among id l t)) (or-cases (eqb id x) (listed id l) h)

some-line : (id : ℕ) (P : Cells → Type 0) (ls : List Line) → Same ls → T (has_line id ls) → P (cells_of (row_of id)) → SomeLine ls id P
some-line id P [] q t h = absurd t
some-line id P (l ∷ ls) q t h = go (or-cases (listed id l.ids) (has_line id ls) t) (λ u. some-line id P ls (cc) u h)
  where
    go : T (listed id l.ids) ⊎ T (has_line id ls) → (T (has_line id ls) → SomeLine ls id P) → SomeLine (l ∷ ls) id P
    go (inl u) k =
        let a : Among id l.ids = listed-among id l.ids u in
        let e : cells_of (row_of id) ≡ l.cells = among-same (λ x. cells_of (row_of x)) (λ x. l.cells) l.ids id (cc) a in
        inl (a, rw e at h)
    go (inr u) k = inr (k u)

abbrev spaces : ℕ → Bool
spaces id = eqb id 0x00 || (eqb id 0x01 || leb 0x13 id)

spaces-says : (id : ℕ) → T (spaces id) ↔ Space id
spaces-says id = or-says (eqb id 0x00) _ (eq-says id 0x00) (or-says (eqb id 0x01) (leb 0x13 id) (eq-says id 0x01) (le-says 0x13 id))

abbrev none : {A : Type 0} → List A → Bool
none [] = true
none (x ∷ l) = false

abbrev no_values : Values → Bool
no_values (numbers l) = none l
no_values (if_in_mask l) = false
no_values min_to_max = false

abbrev spacious : Row → Bool
spacious r = eqb r.parts 0 && (eqb r.needed 0 && (eqb r.least 3 && (no_values r.values && none r.extras)))

tested : (id : ℕ) → T (cond (spaces id) (spacious (row_of id)) (has_line id lines))
unfolding row_of
tested =
    every-id (λ id. cond (spaces id) (spacious (row_of id)) (has_line id lines)) tt
    λ id l. rw (le-leb 0x13 id l, or-yes (eqb id 0x01), or-yes (eqb id 0x00), get_or-eq_default rows (space both) {n = id} l) tt

record Spacious (r : Row) : Type 0 where
  parts : r.parts ≡ 0
  needed : r.needed ≡ 0
  least : r.least ≡ 3
  values : T (no_values r.values)
  extras : T (none r.extras)

module _ (id : ℕ) where
  abbrev r : Row
  r = row_of id

  space-row : T (spaces id) → Spacious r
  space-row h =
      let (p, n, l, v, x) = and₅ (eqb r.parts 0) (eqb r.needed 0) (eqb r.least 3) (no_values r.values) (none r.extras) (rw (is-true (spaces id) h) at (tested id)) in
      record { parts = eqb→eq _ _ p; needed = eqb→eq _ _ n; least = eqb→eq _ _ l; values = v; extras = x }

  -- what holds of a row's cells holds of the ID's line, or the ID takes space
  line_of : (P : Cells → Type 0) → P (cells_of r) → OfLine id P ⊎ (Space id × Spacious r)
  line_of P h = go (either (spaces id))
    where
      go : T (spaces id) ⊎ T (not (spaces id)) → OfLine id P ⊎ (Space id × Spacious r)
      go (inl t) = inr ((spaces-says id).0 t, space-row t)
      go (inr t) = inl (some-line id P lines same-cells (rw (is-false (spaces id) t) at (tested id)) h)

  -- a fact of the row as a fact of the line or, for an ID that takes space, another one
  by-line : {Q R : Type 0} (P : Cells → Type 0) → Q ↔ P (cells_of r) → (Spacious r → Q ↔ R) → Q ↔ (OfLine id P ⊎ (Space id × R))
  by-line P same other = (
    λ q. ⊎_elim inl (λ h. inr (h.0, (other h.1).0 q)) (line_of P (same.0 q)),
    ⊎_elim (λ h. same.1 (line-same id P lines same-cells h)) (λ h. (other (space-row ((spaces-says id).1 h.0))).1 h.1),
  )

  pub least-says : (a size : ℕ) → T (ltb size (r.least + a)) ↔ BelowLeast a id size
  least-says a size =
      Iff.trans (lt-says size (r.least + a)) (by-line (λ c. size < c.least + a) Iff.rfl (λ s. rw s.least Iff.rfl))

  pub needed-says : (memory : ℕ) → T (ltb memory r.needed) ↔ BelowNeeded id memory
  needed-says memory =
      Iff.trans (lt-says memory r.needed) (by-line (λ c. memory < c.needed) Iff.rfl (λ s. rw s.needed Iff.rfl))

-- the IDs of the table are those whose PropertyFlags are read
among-listed : (id : ℕ) (l : List ℕ) → Among id l → T (listed id l)
among-listed id [] h = absurd h
among-listed id (x ∷ l) (inl h) = or-left (eqb id x) (listed id l) ((eq-says id x).1 h)
among-listed id (x ∷ l) (inr h) = or-right (eqb id x) (listed id l) (among-listed id l h)

line-listed : (id : ℕ) (P : Cells → Type 0) (ls : List Line) → SomeLine ls id P → T (has_line id ls)
line-listed id P [] h = absurd h
line-listed id P (l ∷ ls) (inl h) = or-left (listed id l.ids) (has_line id ls) (among-listed id l.ids h.0)
line-listed id P (l ∷ ls) (inr h) = or-right (listed id l.ids) (has_line id ls) (line-listed id P ls h)

-- no line has an ID past those of the table
low-ids : (id : ℕ) (l : List ℕ) → T (all (λ x. ltb x 19) l) → 19 ≤ id → listed id l ≡ false
low-ids id [] t h = refl
low-ids id (x ∷ l) t h =
    let (a, b) = and₂ (ltb x 19) (all (λ x. ltb x 19) l) t in
    let u : x < 19 = ltb→lt x 19 a in
    rw (ne_eqb id x (λ q. omega arith)) (low-ids id l b h)

low-lines : (id : ℕ) (ls : List Line) → T (all (λ l. all (λ x. ltb x 19) l.ids) ls) → 19 ≤ id → has_line id ls ≡ false
low-lines id [] t h = refl
low-lines id (l ∷ ls) t h =
    let (a, b) = and₂ (all (λ x. ltb x 19) l.ids) (all (λ l. all (λ x. ltb x 19) l.ids) ls) t in
    rw (low-ids id l.ids a h) (low-lines id ls b h)

flags-row : (id : ℕ) → (row_of id).flags ≡ has_line id lines
unfolding row_of
flags-row =
    by-row (λ id. (row_of id).flags) (λ id. has_line id lines) tt
    λ id h. rw (get_or-eq_default rows (space both) {n = id} h, low-lines id lines tt h) refl

pub flags-say : (id : ℕ) → T (row_of id).flags ↔ InTable id
flags-say id = rw (flags-row id) (λ t. some-line id (λ c. Unit {0}) lines same-cells t tt, line-listed id (λ c. Unit {0}) lines)

-- something holds at the place of an extra, else another thing, where there is none
abbrev At : Position → (ℕ → Type 0) → Type 0 → ℕ → Type 0
At absent P none at = none
At (after n) P none at = P (at + n)

further-at : (p : Position) (n : ℕ) (P : ℕ → Type 0) (none : Type 0) (at : ℕ) → At (further n p) P none at ↔ At p P none (at + n)
further-at absent n P none at = Iff.rfl
further-at (after k) n P none at = let q : at + (n + k) ≡ at + n + k = omega arith in rw q Iff.rfl

-- a step: one that is not there is 0, which is not reserved
abbrev zero_step : Position → ℕ × ℕ → Bool
zero_step absent steps = eqb steps.0 0
zero_step (after n) steps = true

zero-step : (id : ℕ) → T (zero_step (position_of step (row_of id).extras) (row_of id).steps)
unfolding row_of
zero-step = looked-up (λ r. zero_step (position_of step r.extras) r.steps) rows (space both) tt tt

abbrev Reserved : ℕ × ℕ → List ℕ → ℕ → Type 0
Reserved steps s k = (byte_at s k < steps.0) ⊎ (steps.1 < byte_at s k)

reserved-says : (p : Position) (steps : ℕ × ℕ) (s : List ℕ) (at : ℕ) → T (zero_step p steps) → T (reserved steps (byte_of p s at)) ↔ At p (Reserved steps s) ⊥ at
unfolding byte_of
reserved-says absent steps s at t =
    let q : steps.0 ≡ 0 = eqb→eq _ _ t in
    Iff.trans (or-says (ltb 0 steps.0) (ltb steps.1 0) (lt-says 0 steps.0) (lt-says steps.1 0)) (⊎_elim (λ h. omega arith) (λ h. omega arith), λ h. absurd h)
reserved-says (after n) steps s at t = or-says (ltb (byte_at s (at + n)) steps.0) (ltb steps.1 (byte_at s (at + n))) (lt-says _ _) (lt-says _ _)

step-at : (t : ℕ × ℕ) (l : List Extra) (s : List ℕ) (at : ℕ) → At (position_of step l) (Reserved t s) ⊥ at ↔ ReservedStep t l s at
step-at t [] s at = Iff.rfl
step-at t (index ∷ l) s at = Iff.trans (further-at (position_of step l) 1 (Reserved t s) ⊥ at) (step-at t l s (at + 1))
step-at t (target ∷ l) s at = Iff.trans (further-at (position_of step l) 1 (Reserved t s) ⊥ at) (step-at t l s (at + 1))
step-at t (code_mask ∷ l) s at = Iff.trans (further-at (position_of step l) 2 (Reserved t s) ⊥ at) (step-at t l s (at + 2))
step-at t (min ∷ l) s at = Iff.trans (further-at (position_of step l) 1 (Reserved t s) ⊥ at) (step-at t l s (at + 1))
step-at t (max ∷ l) s at = Iff.trans (further-at (position_of step l) 1 (Reserved t s) ⊥ at) (step-at t l s (at + 1))
step-at t (step ∷ l) s at = let q : at + 0 ≡ at = omega arith in rw q Iff.rfl

no-step : (t : ℕ × ℕ) (l : List Extra) (s : List ℕ) (at : ℕ) → T (none l) → ReservedStep t l s at ↔ ⊥
no-step t [] s at h = Iff.rfl
no-step t (y ∷ l) s at h = absurd h

pub step-says : (id : ℕ) (s : List ℕ) (at : ℕ)
    → T (reserved (row_of id).steps (byte_of (position_of step (row_of id).extras) s at)) ↔ OfLine id (λ c. ReservedStep c.steps c.extras s at)
step-says id s at =
    Iff.trans
    (by-line id (λ c. ReservedStep c.steps c.extras s at) says (λ x. Iff.trans says (no-step r.steps r.extras s at x.extras)))
    (⊎_elim (λ h. h) (λ h. absurd h.1), inl)
  where
    r : Row
    r = row_of id

    says : T (reserved r.steps (byte_of (position_of step r.extras) s at)) ↔ ReservedStep r.steps r.extras s at
    says = Iff.trans (reserved-says (position_of step r.extras) r.steps s at (zero-step id)) (step-at r.steps r.extras s at)

-- accepted values
between-says : (low high v : ℤ) → T (le_z low v && le_z v high) ↔ ((low ≤ℤ v) × (v ≤ℤ high))
between-says low high v = and-says (le_z low v) (le_z v high) (le_z_yes, λ h. h.le) (le_z_yes, λ h. h.le)

ranges-say : (l : List Range) (v : ℤ) → T (within l v) ↔ InRanges l v
unfolding within
ranges-say [] v = Iff.rfl
ranges-say (r ∷ l) v = or-says (le_z r.low v && le_z v r.high) (within l v) (between-says r.low r.high v) (ranges-say l v)

mask-says : (mask : ℕ) (v : ℤ) → T (in_mask mask v) ↔ InMask mask v
unfolding in_mask
mask-says mask (pos n) = eq-says _ 1
mask-says mask (negsuc n) = Iff.rfl

-- a signed byte is the number of its two's complement, and no other
signed-says : (n : ℕ) (z : ℤ) → SignedByte n z ↔ (z ≡ signed_byte n)
unfolding from_bits
signed-says n z =
    by-test (λ x. SignedByte n z ↔ (z ≡ x)) (ltb n 128) (pos n) (negsuc (256 - suc n))
    (λ t. let h : n < 128 = ltb→lt n 128 t in (⊎_elim (λ p. p.1) (λ p. let k : 128 ≤ n = p.0 in absurd (omega arith)), λ q. inl (h, q)))
    (λ t.
    let h : 128 ≤ n = nltb→le n 128 t in
    let e : 255 - n ≡ 256 - suc n = omega arith in
    rw (← e) (⊎_elim (λ p. let k : n < 128 = p.0 in absurd (omega arith)) (λ p. p.1), λ q. inr (h, q)))

limits-say : (e : Entry) (v : ℤ) → T (takes min_to_max e v) ↔ Takes min_to_max e v
unfolding takes
limits-say e v = (
  λ t.
      let (p, q) = (between-says (signed_byte e.min) (signed_byte e.max) v).0 t in
      (signed_byte e.min, signed_byte e.max, (signed-says e.min _).1 refl, (signed-says e.max _).1 refl, p, q),
  λ h.
      let (low, high, a, b, p, q) = h in
      (between-says (signed_byte e.min) (signed_byte e.max) v).1 (rw ((signed-says e.min low).0 a) at p, rw ((signed-says e.max high).0 b) at q),
)

values-say : (x : Values) (e : Entry) (v : ℤ) → T (takes x e v) ↔ Takes x e v
unfolding takes
values-say (numbers l) e v = ranges-say l v
values-say (if_in_mask l) e v = and-says (within l v) _ (ranges-say l v) (mask-says e.codes v)
values-say min_to_max e v = limits-say e v

none-taken : (x : Values) (e : Entry) (v : ℤ) → T (no_values x) → ¬ (T (takes x e v))
unfolding takes within
none-taken (numbers []) e v t h = h
none-taken (numbers (r ∷ l)) e v t h = t
none-taken (if_in_mask l) e v t h = t
none-taken min_to_max e v t h = t

pub accepts-says : (e : Entry) (v : ℤ) → T (accepts e v) ↔ Accepts e v
unfolding accepts
accepts-says e v =
    Iff.trans
    (by-line e.id (λ c. Takes c.values e v) (values-say (row_of e.id).values e v) (λ s. (none-taken (row_of e.id).values e v s.values, λ h. absurd h)))
    (⊎_elim (λ h. h) (λ h. absurd h.1), inl)

-- parts, bits a lane, sign
pub shape-says : (e : Entry) → Shaped e.id (parts_of e) (width_of e)
unfolding parts_of width_of
shape-says e =
    ⊎_elim inl (λ h. inr (h.0, h.1.parts))
    (line_of e.id (λ c. ((row_of e.id).parts ≡ c.parts) × ((row_of e.id).width ≡ c.width)) (refl, refl))

sign-row : (id : ℕ) → (row_of id).signed ≡ listed id signed_ids
unfolding row_of
sign-row =
    by-row (λ id. (row_of id).signed) (λ id. listed id signed_ids) tt
    λ id h. rw (get_or-eq_default rows (space both) {n = id} h, low-ids id signed_ids tt h) refl

pub sign-says : (e : Entry) → (signed_of e ≡ true) ↔ TwosComplement e.id
unfolding signed_of
sign-says e = rw (sign-row e.id) (Iff.trans (Iff.symm (true-says _)) (listed-among e.id signed_ids, among-listed e.id signed_ids))

-- extras: what an entry says of one is what stands at its place
abbrev Reads : Extra → Entry → List ℕ → ℕ → Type 0
Reads index e s k = Unit {0}
Reads target e s k = Unit {0}
Reads code_mask e s k = e.codes ≡ byte_at s k * 256 + byte_at s (k + 1)
Reads min e s k = e.min ≡ byte_at s k
Reads max e s k = e.max ≡ byte_at s k
Reads step e s k = e.step ≡ byte_at s k

codes-at : (p : Position) (s : List ℕ) (at : ℕ) → At p (λ k. codes_of p s at ≡ byte_at s k * 256 + byte_at s (k + 1)) (Unit {0}) at
unfolding codes_of
codes-at absent s at = tt
codes-at (after n) s at = high-two s (at + n)

byte-at : (p : Position) (s : List ℕ) (at : ℕ) → At p (λ k. byte_of p s at ≡ byte_at s k) (Unit {0}) at
unfolding byte_of
byte-at absent s at = tt
byte-at (after n) s at = refl

free : (p : Position) (at : ℕ) → At p (λ k. Unit {0}) (Unit {0}) at
free absent at = tt
free (after n) at = tt

-- each extra of a row stands once
abbrev away : Position → Bool
away absent = true
away (after n) = false

abbrev once : List Extra → Bool
once [] = true
once (y ∷ l) = away (position_of y l) && once l

rows-once : (id : ℕ) → T (once (row_of id).extras)
unfolding row_of
rows-once = looked-up (λ r. once r.extras) rows (space both) tt tt

same-position : (x y : Extra) (l : List Extra) → kind x ≡ kind y → position_of x l ≡ position_of y l
same-position x y [] q = refl
same-position x y (z ∷ l) q = rw (q, same-position x y l q) refl

gone : (p : Position) (P : ℕ → Type 0) (at : ℕ) → T (away p) → At p P (Unit {0}) at
gone absent P at t = tt
gone (after n) P at t = absurd t

joined : (y : Extra) (l : List Extra) (s : List ℕ) (at : ℕ) (e : Entry) → Reads y e s at → ExtrasAt l s (at + size_of y) e → ExtrasAt (y ∷ l) s at e
joined index l s at e r x = x
joined target l s at e r x = x
joined code_mask l s at e r x = (r, x)
joined min l s at e r x = (r, x)
joined max l s at e r x = (r, x)
joined step l s at e r x = (r, x)

extras-walk : (l : List Extra) (s : List ℕ) (at : ℕ) (e : Entry) → T (once l) → ((k : Extra) → At (position_of k l) (Reads k e s) (Unit {0}) at) → ExtrasAt l s at e
extras-walk [] s at e t h = tt
extras-walk (y ∷ l) s at e t h = joined y l s at e here (extras-walk l s (at + size_of y) e alone.1 later)
  where
    alone : T (away (position_of y l)) × T (once l)
    alone = and₂ (away (position_of y l)) (once l) t

    here : Reads y e s at
    here = let q : at + 0 ≡ at = omega arith in rw (eq-eqb (kind y) (kind y) refl, q) at (h y)

    go : (k : Extra) (b : Bool) → same k y ≡ b → At (cond b (after 0) (further (size_of y) (position_of k l))) (Reads k e s) (Unit {0}) at
        → At (position_of k l) (Reads k e s) (Unit {0}) (at + size_of y)
    go k true q r = gone (position_of k l) (Reads k e s) (at + size_of y) (rw (same-position k y l (eqb→eq _ _ (from-true q))) alone.0)
    go k false q r = (further-at (position_of k l) (size_of y) (Reads k e s) (Unit {0}) at).0 r

    later : (k : Extra) → At (position_of k l) (Reads k e s) (Unit {0}) (at + size_of y)
    later k = go k (same k y) refl (h k)

-- an entry that is read at a place
pub extras-say : (a : ℕ) (s : List ℕ) (from offset : ℕ) {e : Entry} → e ≡ entry_at a s from offset → ExtrasRead a s e
extras-say a s from offset {e} q =
    rw q (⊎_elim inl (λ h. inr h.0) (line_of x.id (λ c. ExtrasAt c.extras s at x) (extras-walk l s at x (rows-once x.id) reads)))
  where
    x : Entry
    x = entry_at a s from offset

    at : ℕ
    at = x.start + 4 + a

    l : List Extra
    l = (row_of x.id).extras

    reads : (k : Extra) → At (position_of k l) (Reads k x s) (Unit {0}) at
    reads index = free (position_of index l) at
    reads target = free (position_of target l) at
    reads code_mask = codes-at (position_of code_mask l) s at
    reads min = byte-at (position_of min l) s at
    reads max = byte-at (position_of max l) s at
    reads step = byte-at (position_of step l) s at
