-- The lines of the map program: those of two lists in a row, and so those of both strings.
use Rattle.std.specs.Prelude.{Ok}
use mathlib.Core.Path.{◌≡◌, refl}
use mathlib.Core.List.{List, [], ◌∷◌, ◌++◌, append_assoc}
use Prim.Native.Nat.{ℕ, suc, ◌+◌}
use native.Mathlib.Nat.{add-zero}
use native.Mathlib.Omega.{arith}
use lib.ListN.{length}
use Rattle.rules.specs.Words.{Entry, State}
use Rattle.rules.specs.Descriptor.{mask_bytes}
use Rattle.rules.specs.Load.{start, into_ro, entry_number, walk_of, entries_from, entries_of, both_within, ro_within, rw_within}
use Rattle.rules.specs.MapProgram.{entry_lines}
use Rattle.rules.proofs.Load.Walks.{walk-listed}

pub lines-append : (n : ℕ) (l r : List Entry) → entry_lines n (l ++ r) ≡ entry_lines n l ++ entry_lines (n + length l) r
unfolding entry_lines
lines-append n [] r = rw (add-zero n) refl
lines-append n (e ∷ l) r =
    let q : suc n + length l ≡ n + suc (length l) = omega arith in
    rw (lines-append (suc n) l r, q) (simp append_assoc)

-- the RO string's lines go on from the RW string's last number
pub lines-both :
    (count : ℕ) (rw ro : List ℕ) (m : State)
    → walk_of (mask_bytes count) rw 0 start ≡ Ok m
    → entry_lines 0 (entries_of count rw ro)
    ≡ entry_lines 0 (entries_from (mask_bytes count) rw 0 start) ++ entry_lines (entry_number (into_ro m)) (entries_from (mask_bytes count) ro 0 (into_ro m))
unfolding both_within rw_within ro_within
lines-both count first last m h =
    let l = walk-listed (mask_bytes count) first m 0 start (omega arith) h in
    let q : 0 + length (entries_from (mask_bytes count) first 0 start) ≡ entry_number (into_ro m) = omega (arith, l.counts) in
    rw (h, ← q) (lines-append 0 (entries_from (mask_bytes count) first 0 start) _)
