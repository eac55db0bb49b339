-- The checks of one entry, 16 and 1 to 7, against the rules of 01 and 02: the first check that an entry fails is the first rule that applies.
use Rattle.std.specs.Prelude.{Result, Ok, Err}
use mathlib.Core.Path.{◌≡◌, refl}
use mathlib.Core.Logic.Iff
use mathlib.Core.Logic.{◌↔◌}
use mathlib.Core.Bool.{Bool, true, false, ◌&&◌, not}
use mathlib.Core.List.{List, [], ◌∷◌}
use Prim.Native.Nat.{ℕ, ◌+◌, ◌-◌, ◌%◌, ◌≤◌}
use native.Mathlib.Omega.{arith}
use lib.ListN.{length, get_or-eq_default}
use lib.Dec.{T, ltb, leb, eqb}
use borrow.Author.Tests.{lt-leb}
use Rattle.rules.specs.Words.{Entry, State}
use Rattle.rules.specs.Parameter.{both, rows, space, row_of}
use Rattle.rules.specs.Descriptor.{byte_at, entry_at, may_stand, late_host, refuse, length_checks, content_checks, decode_at, decode_within}
use Rattle.rules.specs.Conditions.{Rule, gives, First, WrongString, MediaSide, entry_rules}
use Rattle.rules.proofs.Basics.Tests.{and-no}
use Rattle.rules.proofs.Basics.Facts.{lt-says, le-says, eq-says, true-says, not-says, or-says, and-says, and-says₄}
use Rattle.rules.proofs.Basics.Ids.{by-row}
use Rattle.rules.proofs.Table.Columns.{least-says, needed-says, flags-say, step-says}
use Rattle.rules.proofs.Refusals.Firsts.{first-here, first-past}

-- a chain of checks fails by the first of some rules
record Fails (d : Result Entry ℕ) (rules : List (Rule ℕ)) : Type 0 where
  is : (n : ℕ) → (d ≡ Err n) ↔ First rules n

passed-all : (e : Entry) → Fails (Ok e) []
passed-all e = record { is = λ n. (λ h. let o : ◌≡◌ {A = ℕ} 0 1 = cc in omega arith, λ h. absurd h) }

-- a check before a chain, and its rule before the chain's rules
before :
    {C : Type 0} {d : (Result Entry ℕ)} {rules : List (Rule ℕ)} (t : Bool) (k : ℕ) → T t ↔ C → Fails d rules → Fails (refuse t k d) (gives k C ∷ rules)
unfolding refuse
before {C} {d} {rules} true k h f = record { is = λ n. Iff.trans (fails n) (first-here (gives k C) rules k (refl, h.0 tt) n) }
  where
    fails : (n : ℕ) → (◌≡◌ {A = Result Entry ℕ} (Err k) (Err n)) ↔ gives k C n
    fails n = (λ q. let e : n ≡ k = cc in (e, h.0 tt), λ q. let e : n ≡ k = q.0 in rw e refl)
before {C} {d} {rules} false k h f = record { is = λ n. Iff.trans (f.is n) (first-past (gives k C) rules (λ y z. h.1 z.1) n) }

pub row-past : (id : ℕ) → 19 ≤ id → row_of id ≡ space both
unfolding row_of
row-past id h = get_or-eq_default rows (space both) h

-- 3: the column `side` says what the ranges of 01 say
abbrev wrong : Bool → ℕ → Bool
wrong true id = leb 0x01 id && leb id 0x10
wrong false id = leb 0x11 id && leb id 0x12

wrong-says : (ro : Bool) (id : ℕ) → T (wrong ro id) ↔ WrongString ro id
wrong-says true id = and-says (leb 0x01 id) (leb id 0x10) (le-says 0x01 id) (le-says id 0x10)
wrong-says false id = and-says (leb 0x11 id) (leb id 0x12) (le-says 0x11 id) (le-says id 0x12)

wrong-past : (ro : Bool) (id : ℕ) → 19 ≤ id → not (may_stand (row_of id).side ro) ≡ wrong ro id
wrong-past true id h = rw (row-past id h, lt-leb id 0x10 (omega arith), and-no (leb 0x01 id))
wrong-past false id h = rw (row-past id h, lt-leb id 0x12 (omega arith), and-no (leb 0x11 id))

side-wrong : (ro : Bool) (id : ℕ) → not (may_stand (row_of id).side ro) ≡ wrong ro id
unfolding row_of
side-wrong true = by-row (λ id. not (may_stand (row_of id).side true)) (wrong true) tt (wrong-past true)
side-wrong false = by-row (λ id. not (may_stand (row_of id).side false)) (wrong false) tt (wrong-past false)

side-says : (ro : Bool) (id : ℕ) → T (not (may_stand (row_of id).side ro)) ↔ WrongString ro id
side-says ro id = rw (side-wrong ro id) (wrong-says ro id)

module _ (a : ℕ) (s : List ℕ) (at : ℕ) (st : State) where
  abbrev id : ℕ
  id = byte_at s at

  pub media-says : T (entry_at a s at st.sum).media ↔ MediaSide a s at
  media-says =
      and-says (row_of id).flags (eqb (byte_at s (at + 3 + a) % 2) 1) (flags-say id) (eq-says _ 1)

  late-says :
      T (late_host (entry_at a s at st.sum) st.media) ↔ ((0x02 ≤ id) × (id ≤ 0x08) × (¬ (MediaSide a s at)) × (st.media ≡ true))
  late-says =
      let m : Bool = (entry_at a s at st.sum).media in
      and-says₄ (leb 2 id) (leb id 8) (not m) st.media (le-says 2 id) (le-says id 8) (not-says m media-says) (true-says st.media)

  entry-fails : Fails (decode_at a s at st) (entry_rules a s at st)
  unfolding decode_within length_checks content_checks
  entry-fails =
      let e : Entry = entry_at a s at st.sum in
      let left : ℕ = length s - at in
      before _ 16 (le-says 16 st.entries)
      (before _ 1 (or-says (eqb left 1) (ltb left e.length) (eq-says left 1) (lt-says left e.length))
      (before _ 2 (least-says e.id a e.length)
      (before _ 3 (side-says st.ro e.id)
      (before _ 4 (needed-says e.id e.memory)
      (before _ 5 (step-says e.id s (at + 4 + a))
      (before _ 6 late-says
      (before _ 7 (lt-says 256 (st.sum + e.memory))
      (passed-all e))))))))

pub entry-says : (a : ℕ) (s : List ℕ) (at : ℕ) (st : State) (n : ℕ) → (decode_at a s at st ≡ Err n) ↔ First (entry_rules a s at st) n
entry-says a s at st = (entry-fails a s at st).is
