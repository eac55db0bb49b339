-- What 1 and 2 of an entry say, as one function tests them for every walk and for the reader.
use Rattle.std.specs.Prelude.{Result, Ok, Err}
use mathlib.Core.Path.{◌≡◌, refl, sym, ◌∙◌}
use mathlib.Core.Bool.{Bool, true, false, ◌||◌}
use mathlib.Core.List.{List}
use Prim.Native.Nat.{ℕ, ◌+◌, ◌-◌, ◌≤◌, ◌<◌}
use native.Mathlib.Omega.{arith}
use lib.ListN.{length}
use lib.Dec.{eqb, ltb}
use borrow.Author.Tests.{ltb-false, lt-ltb}
use Rattle.rules.specs.declared.Refusal.{Refusal}
use Rattle.rules.specs.declared.Refusal.TheVariants.{Plain as plain}
use Rattle.rules.specs.declared.Entry.{Entry}
use Rattle.rules.specs.Parameter.{row_of}
use Rattle.rules.specs.Descriptor.{mask_bytes, byte_at, entry_at, overruns, refuse, length_checks}
use Rattle.descriptor.specs.Decode.{length_in, length_at}
use Rattle.descriptor.specs.Reading.{lengthed, length_by}

module _ (a : ℕ) (s : List ℕ) (at : ℕ) where
  abbrev here : Entry
  here = entry_at a s at 0

  abbrev left : ℕ
  left = length s - at

  -- both are passed: the entry with its Length, in the string, and what follows is checked
  pub record Measured (n : ℕ) : Type 0 where
    pub is : n ≡ byte_at s (at + 1)
    pub long : (row_of here.id).least + a ≤ n
    pub inside : n ≤ length s - at
    pub passes : (sum : ℕ) (rest : Result Entry ℕ) → length_checks a (length s - at) (entry_at a s at sum) rest ≡ rest

  -- by the tests of 1 and 2
  abbrev by : Bool → Bool → Result Entry ℕ → Result Entry ℕ
  by t u rest = refuse t 1 (refuse u 2 rest)

  pub length-passed : (n : ℕ) → Ok n ≡ length_at a s at → Measured n
  unfolding length_at length_checks refuse
  length-passed n h = go (eqb left 1) (ltb left here.length) (ltb here.length ((row_of here.id).least + a)) refl refl refl h
    where
      go : (x y z : Bool)
          → eqb left 1 ≡ x
          → ltb left here.length ≡ y
          → ltb here.length ((row_of here.id).least + a) ≡ z
          → Ok n ≡ length_in (by (x || y) z (Ok here))
          → Measured n
      go true y z p q r h = let o : ◌≡◌ {A = ℕ} 0 1 = cc in absurd (omega arith)
      go false true z p q r h = let o : ◌≡◌ {A = ℕ} 0 1 = cc in absurd (omega arith)
      go false false true p q r h = let o : ◌≡◌ {A = ℕ} 0 1 = cc in absurd (omega arith)
      go false false false p q r h =
          let e : n ≡ here.length = cc in
          record {
            is = e;
            long = omega (arith, e, ltb-false here.length ((row_of here.id).least + a) r);
            inside = omega (arith, e, ltb-false left here.length q);
            passes = λ sum rest. rw (p, q, r) refl;
          }

  pub length-refused : (n : ℕ) → Err n ≡ length_at a s at → (sum : ℕ) (rest : Result Entry ℕ) → length_checks a (length s - at) (entry_at a s at sum) rest ≡ Err n
  unfolding length_at length_checks refuse
  length-refused n h sum rest = go (overruns left here) (ltb here.length ((row_of here.id).least + a)) h
    where
      go : (t u : Bool) → Err n ≡ length_in (by t u (Ok here)) → by t u rest ≡ Err n
      go true u h = let o : n ≡ 1 = cc in rw o refl
      go false true h = let o : n ≡ 2 = cc in rw o refl
      go false false h = let o : ◌≡◌ {A = ℕ} 0 1 = cc in absurd (omega arith)

-- the refusal of a Length that is read, by its number
pub record Refused (a : ℕ) (s : List ℕ) (at : ℕ) (r : Refusal) : Type 0 where
  pub number : ℕ
  pub is : r ≡ plain number
  pub by : Err number ≡ length_at a s at

module _ (count : ℕ) (s : List ℕ) (at : ℕ) (h : at < length s) where
  read-by : length_by count s at ≡ lengthed (length_at (mask_bytes count) s at)
  unfolding length_by
  read-by = rw (lt-ltb at (length s) h) refl

  pub read-passed : (n : ℕ) → Ok n ≡ length_by count s at → Measured (mask_bytes count) s at n
  read-passed n q = length-passed (mask_bytes count) s at n (go (length_at (mask_bytes count) s at) (q ∙ read-by))
    where
      go : (x : Result ℕ ℕ) → Ok n ≡ lengthed x → Ok n ≡ x
      go (Ok k) p = cc
      go (Err k) p = let o : ◌≡◌ {A = ℕ} 0 1 = cc in absurd (omega arith)

  pub read-refused : (r : Refusal) → Err r ≡ length_by count s at → Refused (mask_bytes count) s at r
  read-refused r q = go (length_at (mask_bytes count) s at) refl (q ∙ read-by)
    where
      go : (x : Result ℕ ℕ) → length_at (mask_bytes count) s at ≡ x → Err r ≡ lengthed x → Refused (mask_bytes count) s at r
      go (Ok k) p u = let o : ◌≡◌ {A = ℕ} 0 1 = cc in absurd (omega arith)
      go (Err k) p u = let o : r ≡ plain k = cc in record { number = k; is = o; by = sym p }
