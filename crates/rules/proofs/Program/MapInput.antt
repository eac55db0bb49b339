-- The input of the map program: a whole input of more than 243 bytes has a string over 120, so the first 244 bytes decide what is printed.
use mathlib.Core.Path.{◌≡◌, refl, sym, ap, ◌∙◌}
use mathlib.Core.Logic.{⊎_elim}
use mathlib.Core.Bool.{Bool, true, false, not}
use mathlib.Core.List.{List}
use Prim.Native.Nat.{ℕ, ◌+◌, ◌≤◌, ◌<◌}
use native.Mathlib.Omega.{arith}
use lib.ListN.{length, take, drop, length-take, length-drop}
use lib.Seq.{take_all, length-take-le}
use lib.Dec.{T, leb, leb→le}
use borrow.Author.Tests.{eqb-true, leb-false}
use Rattle.rules.specs.Words.{plain}
use Rattle.rules.specs.Descriptor.{byte_at}
use Rattle.rules.specs.Load.{sized, load_of, entries_of, map_within}
use Rattle.rules.specs.MapProgram.{rw_size, ro_size, rw_bytes, ro_bytes, is_whole, refused_line, map_text, map_output}
use Rattle.rules.proofs.Basics.Tests.{and₄, from-true, either, is-false}
use Rattle.rules.proofs.Load.Loads.{load-9}

module _ (input : List ℕ) where
  pub map-short : is_whole input ≡ false → map_output input ≡ refused_line (plain 9)
  unfolding map_output
  map-short h = rw h

  pub map-whole :
      is_whole input ≡ true
      → map_output input
      ≡ map_text
      (load_of (byte_at input 0) (rw_bytes input) (ro_bytes input))
      (entries_of (byte_at input 0) (rw_bytes input) (ro_bytes input))
  unfolding map_output load_of map_within
  map-whole h = rw h

too-long : (count : ℕ) (rw ro : List ℕ) → 240 < length rw + length ro → sized count rw ro ≡ false
too-long count first last h = go (sized count first last) refl
  where
    go : (b : Bool) → sized count first last ≡ b → b ≡ false
    go false q = refl
    go true q =
        let (x, y, z, w) = and₄ (leb 1 count) (leb count 15) (leb (length first) 120) (leb (length last) 120) (from-true q) in
        absurd (omega (arith, leb→le (length first) 120 z, leb→le (length last) 120 w))

-- the two strings of a whole input
whole-sizes : (input : List ℕ) → is_whole input ≡ true → length (rw_bytes input) + length (ro_bytes input) + 3 ≡ length input
whole-sizes input h =
    let q : length input ≡ 3 + rw_size input + ro_size input = eqb-true (length input) (3 + rw_size input + ro_size input) h in
    omega (arith, q, length-take (rw_size input) (drop 2 input), length-drop 2 input, length-drop (3 + rw_size input) input)

pub long-refused : (input : List ℕ) → 244 ≤ length input → map_output input ≡ refused_line (plain 9)
long-refused input h = go (is_whole input) refl
  where
    go : (b : Bool) → is_whole input ≡ b → map_output input ≡ refused_line (plain 9)
    go false q = map-short input q
    go true q =
        map-whole input q
        ∙ rw (load-9 (byte_at input 0) (rw_bytes input) (ro_bytes input) (too-long (byte_at input 0) (rw_bytes input) (ro_bytes input) (omega (arith, whole-sizes input q)))) refl

-- what is printed for the first 244 bytes is what is printed for the whole
pub map_first : (n : ℕ) (input : List ℕ) → 244 ≤ n → map_output (take n input) ≡ map_output input
map_first n input h = ⊎_elim short long (either (leb (length input) n))
  where
    short : T (leb (length input) n) → map_output (take n input) ≡ map_output input
    short t = ap map_output (take_all n input (leb→le (length input) n t))

    long : T (not (leb (length input) n)) → map_output (take n input) ≡ map_output input
    long t =
        let l : n < length input = leb-false (length input) n (is-false (leb (length input) n) t) in
        long-refused (take n input) (rw (length-take-le n input (omega arith)) h) ∙ sym (long-refused input (omega arith))
