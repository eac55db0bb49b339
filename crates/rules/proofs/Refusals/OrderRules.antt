-- The checks 8 to 12 and the order of all, against the rules of 01: each check says what its rule says.
use Rattle.std.specs.Prelude.{Result, Err, Ok}
use mathlib.Core.Path.{◌≡◌, refl}
use mathlib.Core.Logic.Iff
use mathlib.Core.Logic.{◌↔◌}
use mathlib.Core.Bool.{Bool, ◌&&◌, not}
use mathlib.Core.List.{List}
use Prim.Native.Nat.{ℕ, ◌≤◌, ◌<◌}
use native.Mathlib.Omega.{arith}
use lib.ListN.{length}
use lib.Dec.{T, ltb, leb, eqb}
use Rattle.rules.specs.Words.{Refusal, plain, Loaded, Call, select, write, read, byte_write, byte_read, publish, apply}
use Rattle.rules.specs.Load.{Map, sized, strings_of, read_of}
use Rattle.rules.specs.Place.{entry, parts_of, is_set, is_staged, is_rw, is_lane, has_field, length_of}
use Rattle.rules.specs.Accept.{accepts}
use Rattle.rules.specs.Layout.{bank_size}
use Rattle.rules.specs.Refuse.{Verdict, refuses, check9, check8, refusal_of, check_entries, exists, misdirected, unaccepted, judge, bank_order, order_of}
use Rattle.rules.specs.Bank.{Bank}
use Rattle.rules.specs.Conditions.{Rule, gives, First, Sized, Lane, HasField, Exists, Misdirected, Unaccepted, strings_rule, call_rules, string_rules, bank_rules}
use Rattle.rules.proofs.Basics.Facts.{lt-says, le-says, eq-says, not-says, or-says, and-says, and-says₃, and-says₄}
use Rattle.rules.proofs.Table.Columns.{accepts-says}
use Rattle.rules.proofs.Refusals.Firsts.{Says, AllSay, none, also, first-says, refuse-says, refuse-not-says}
use Rattle.rules.proofs.Refusals.Stops.{strings-says}

pub lane-says : (i : ℕ) → T (is_lane i) ↔ Lane i
lane-says i = and-says (leb 1 i) (leb i 8) (le-says 1 i) (le-says i 8)

-- not below is at least
pub not-lt-says : (a b : ℕ) → T (not (ltb a b)) ↔ (b ≤ a)
not-lt-says a b = Iff.trans (not-says (ltb a b) (lt-says a b)) (λ h. omega arith, λ h. omega arith)

module _ (m : Map) where
  pub has-field-says : (e p i : ℕ) → T (has_field m e p i) ↔ HasField m e p i
  has-field-says e p i =
      and-says₃ (ltb e (length m.entries)) (ltb p (parts_of (entry m e))) (is_lane i) (lt-says e _) (lt-says p _) (lane-says i)

  set-and : {A : Type 0} (s : ℕ) (t : Bool) → T t ↔ A → T (is_set s && t) ↔ ((s < 3) × A)
  set-and s t h = and-says (is_set s) t (lt-says s 3) h

  -- 10
  pub exists-says : (c : Call) → T (exists m c) ↔ Exists m c
  unfolding exists
  exists-says (select s i a) = set-and s (is_lane i) (lane-says i)
  exists-says (write s f v) = set-and s (has_field m f.entry f.part f.lane) (has-field-says f.entry f.part f.lane)
  exists-says (read s f) = set-and s (has_field m f.entry f.part f.lane) (has-field-says f.entry f.part f.lane)
  exists-says (byte_write s k v) = set-and s (ltb k (length_of m s)) (lt-says k _)
  exists-says (byte_read s k) = set-and s (ltb k (length_of m s)) (lt-says k _)
  exists-says (publish f v) = has-field-says f.entry f.part f.lane
  exists-says (apply s lanes) = lt-says s 3

  -- 11
  pub misdirected-says : (c : Call) → T (misdirected m c) ↔ Misdirected m c
  unfolding misdirected
  misdirected-says (select s i a) = eq-says s 2
  misdirected-says (write s f v) = or-says (eqb s 2) (not (is_rw m f.entry)) (eq-says s 2) (not-lt-says f.entry m.rw_count)
  misdirected-says (read s f) = and-says (is_staged s) (not (is_rw m f.entry)) (lt-says s 2) (not-lt-says f.entry m.rw_count)
  misdirected-says (byte_write s k v) = eq-says s 2
  misdirected-says (byte_read s k) = Iff.rfl
  misdirected-says (publish f v) = lt-says f.entry m.rw_count
  misdirected-says (apply s lanes) = eq-says s 2

  -- 12
  unaccepted-says : (c : Call) → T (unaccepted m c) ↔ Unaccepted m c
  unfolding unaccepted
  unaccepted-says (select s i a) = lt-says m.count a
  unaccepted-says (write s f v) = not-says (accepts (entry m f.entry) v) (accepts-says (entry m f.entry) v)
  unaccepted-says (read s f) = Iff.rfl
  unaccepted-says (byte_write s k v) = Iff.rfl
  unaccepted-says (byte_read s k) = Iff.rfl
  unaccepted-says (publish f v) = not-says (accepts (entry m f.entry) v) (accepts-says (entry m f.entry) v)
  unaccepted-says (apply s lanes) = Iff.rfl

  pub judge-says : (c : Call) → AllSay (judge m c) (call_rules m c)
  unfolding judge
  judge-says c =
      also (refuse-not-says (exists m c) (plain 10) (exists-says c))
      (also (refuse-says (misdirected m c) (plain 11) (misdirected-says c))
      (also (refuse-says (unaccepted m c) (plain 12) (unaccepted-says c)) none))

-- the checks of the entries
pub refusal-of : (l : Result Loaded Refusal) (x : Refusal) → (refusal_of l ≡ refuses x) ↔ (l ≡ Err x)
refusal-of (Ok l) x =
    (λ h. let o : ◌≡◌ {A = ℕ} 0 1 = cc in absurd (omega arith), λ h. let o : ◌≡◌ {A = ℕ} 0 1 = cc in absurd (omega arith))
refusal-of (Err r) x = (λ h. let e : r ≡ x = cc in rw e refl, λ h. let e : r ≡ x = cc in rw e refl)

module _ (count : ℕ) (first last : List ℕ) where
  pub sized-says : T (sized count first last) ↔ Sized count first last
  sized-says =
      and-says₄ (leb 1 count) (leb count 15) (leb (length first) 120) (leb (length last) 120)
      (le-says 1 count) (le-says count 15) (le-says _ 120) (le-says _ 120)

  check9-says : Says (check9 (read_of count first last)) (gives (plain 9) (¬ (Sized count first last)))
  unfolding check9
  check9-says = refuse-not-says (sized count first last) (plain 9) sized-says

  check_entries-says : Says (check_entries (read_of count first last)) (strings_rule count first last)
  unfolding check_entries
  check_entries-says x = Iff.trans (refusal-of (strings_of count first last) x) (strings-says count first last x)

  -- the orders, with what follows the checks of the entries
  module _ {l : List Verdict} {rules : List (Rule Refusal)} (h : AllSay l rules) where
    pub order-says : Says (order_of (read_of count first last) l) (First (string_rules count first last rules))
    unfolding order_of
    order-says = first-says (also check9-says (also check_entries-says h))

    pub bank-says : (b : Bank) → Says (bank_order (read_of count first last) (length b) l) (First (bank_rules count first last b rules))
    unfolding bank_order check8
    bank-says b =
        first-says
        (also check9-says
        (also (refuse-says (ltb (length b) bank_size) (plain 8) (lt-says (length b) bank_size)) (also check_entries-says h)))
