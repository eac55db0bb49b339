-- The refusals of a load are numbers up to 16.
use Rattle.std.specs.Prelude.{Result, Ok, Err}
use mathlib.Core.Bool.{Bool, true, false, cond}
use mathlib.Core.Path.{◌≡◌}
use mathlib.Core.List.{List}
use Prim.Native.Nat.{ℕ, zero, suc, ◌+◌, ◌≤◌}
use native.Mathlib.Omega.{arith}
use lib.Dec.{ltb}
use lib.ListN.{length}
use Rattle.rules.specs.Words.{Refusal, number_of, Entry, State, Loaded}
use Rattle.rules.specs.Descriptor.{mask_bytes, refuse, length_checks, content_checks, decode_at, decode_within, limited}
use Rattle.rules.specs.Load.{start, next, into_ro, fold_by, fold_of, onward, walk_of, sized, after, strings_of, load_of, rest_within, strings_within, walk_within}
use Rattle.rules.proofs.Basics.Tests.{by-test}

abbrev Entry-number : Result Entry ℕ → Type 0
Entry-number (Ok e) = Unit
Entry-number (Err n) = n ≤ 16

refuse-number : (b : Bool) (n : ℕ) (d : Result Entry ℕ) → n ≤ 16 → Entry-number d → Entry-number (refuse b n d)
unfolding refuse
refuse-number true n d h k = h
refuse-number false n d h k = k

decode-number : (a : ℕ) (s : List ℕ) (at : ℕ) (st : State) → Entry-number (decode_at a s at st)
unfolding decode_within length_checks content_checks
decode-number a s at st =
    refuse-number _ 16 _ (omega arith)
    (refuse-number _ 1 _ (omega arith)
    (refuse-number _ 2 _ (omega arith)
    (refuse-number _ 3 _ (omega arith)
    (refuse-number _ 4 _ (omega arith)
    (refuse-number _ 5 _ (omega arith)
    (refuse-number _ 6 _ (omega arith)
    (refuse-number _ 7 _ (omega arith) tt)))))))

abbrev Walk-number : Result State Refusal → Type 0
Walk-number (Ok st) = Unit
Walk-number (Err r) = number_of r ≤ 16

by-fuel : (a f : ℕ) (s : List ℕ) (at : ℕ) (st : State) → Walk-number (fold_by limited onward Ok a f s at st)
unfolding fold_by
by-fuel a zero s at st = tt
by-fuel a (suc f) s at st = go (ltb at (length s)) (decode_at a s at st) (decode-number a s at st) (λ e. by-fuel a f s (at + e.length) (next st e))
  where
    rest : Entry → Result State Refusal
    rest e = fold_by limited onward Ok a f s (at + e.length) (next st e)

    go : (b : Bool) (d : Result Entry ℕ) → Entry-number d → ((e : Entry) → Walk-number (rest e)) → Walk-number (cond b (onward d st rest) (Ok st))
    go false d h k = tt
    go true (Ok e) h k = k e
    go true (Err n) h k = omega arith

walk-number : (a : ℕ) (s : List ℕ) (at : ℕ) (st : State) → Walk-number (walk_of a s at st)
unfolding walk_within fold_of
walk-number a s at st = by-fuel a (length s) s at st

abbrev Load-number : Result Loaded Refusal → Type 0
Load-number (Ok l) = Unit
Load-number (Err r) = number_of r ≤ 16

after-number : (w : Result State Refusal) (k : State → Result Loaded Refusal) → Walk-number w → ((st : State) → Load-number (k st)) → Load-number (after w k)
after-number (Ok st) k h g = g st
after-number (Err r) k h g = h

strings-number : (count : ℕ) (rw ro : List ℕ) → Load-number (strings_of count rw ro)
unfolding strings_within rest_within
strings-number count first last =
    after-number (walk_of (mask_bytes count) first 0 start) _
    (walk-number (mask_bytes count) first 0 start)
    (λ m. after-number (walk_of (mask_bytes count) last 0 (into_ro m)) _ (walk-number (mask_bytes count) last 0 (into_ro m)) (λ e. tt))

numbered : (count : ℕ) (rw ro : List ℕ) → Load-number (load_of count rw ro)
unfolding load_of
numbered count first last = by-test Load-number (sized count first last) _ _ (λ _. strings-number count first last) (λ _. omega arith)

pub load-number : (count : ℕ) (rw ro : List ℕ) (r : Refusal) → load_of count rw ro ≡ Err r → number_of r ≤ 16
load-number count first last r h = rw h at (numbered count first last)
