-- The map of strings that load: what its two walks end with, and the text as a whole.
use Rattle.std.specs.Prelude.{Ok}
use mathlib.Core.Path.{◌≡◌, sym, ap, ◌∙◌}
use mathlib.Core.List.{List}
use Prim.Native.Nat.{ℕ, ◌+◌, ◌-◌, ◌≤◌}
use native.Mathlib.Omega.{arith}
use lib.ListN.{length, take, drop, length-drop}
use lib.Seq.{take_all}
use lib.Dec.{leb, leb→le}
use borrow.Author.Tests.{eq-eqb, ne_eqb}
use Rattle.rules.specs.declared.State.{State}
use Rattle.rules.specs.declared.Refusal.TheVariants.{Plain as plain}
use Rattle.rules.specs.Descriptor.{mask_bytes, byte_at, entry_limit}
use Rattle.rules.specs.Load.{start, into_ro, walk_of, sized, load_of, entries_of}
use Rattle.rules.specs.Demands.{Accepted}
use Rattle.rules.specs.MapProgram.{rw_size, ro_size, rw_bytes, ro_bytes, heading, end_line, refused_line, map_text, map_output}
use Rattle.rules.proofs.Basics.Tests.{and₄, is-true}
use Rattle.rules.proofs.Load.Walks.{Map-accepted, load-accepted, walk-listed, walk-counts}
use Rattle.rules.proofs.Program.Lines.{lines-both}
use Rattle.rules.proofs.Program.MapInput.{map-short, map-whole}
use Rattle.descriptor.specs.declared.text.Text.{Text}
use Rattle.descriptor.specs.Text.{Adds, Printed, Listing}
use Rattle.descriptor.proofs.Both.{both-load}
use Rattle.descriptor.proofs.Adds.{adds-then, printed}

pub record Sizes (first last : List ℕ) : Type 0 where
  pub rw : length first ≤ 120
  pub ro : length last ≤ 120

-- the state at the end of the RW string
pub record Middle (st : State) : Type 0 where
  pub few : st.entries ≤ entry_limit
  pub sum : st.sum ≤ 256

module _ (count : ℕ) (first last : List ℕ) (ok : Accepted count first last) where
  loaded : Map-accepted count first last ok.rw_count ok.ro_count ok.staged ok.active
  loaded = load-accepted count first last _ _ _ _ ok.loads

  pub sizes : Sizes first last
  sizes =
      let (x, y, z, w) = and₄ (leb 1 count) (leb count 15) (leb (length first) 120) (leb (length last) 120) loaded.sized in
      record { rw = leb→le (length first) 120 z; ro = leb→le (length last) 120 w }

  module _ {x y : Text} {m : State} (one : Listing (mask_bytes count) first start x y m) where
    to-middle : walk_of (mask_bytes count) first 0 start ≡ Ok m
    to-middle = loaded.rw-ends ∙ ap Ok (sym (one.ends loaded.middle loaded.rw-ends))

    pub middle : Middle m
    middle =
        let (x, y) = walk-counts (mask_bytes count) first 0 start m (omega arith) (omega arith) to-middle in
        record { few = x; sum = y }

    module _ {z : Text} {e : State} (two : Listing (mask_bytes count) last (into_ro m) y z e) where
      to-end : walk_of (mask_bytes count) last 0 (into_ro m) ≡ Ok e
      to-end =
          let q : loaded.middle ≡ m = sym (one.ends loaded.middle loaded.rw-ends) in
          let w : walk_of (mask_bytes count) last 0 (into_ro m) ≡ Ok loaded.end = rw q at loaded.ro-ends in
          w ∙ ap Ok (sym (two.ends loaded.end w))

      pub end-sum : e.sum ≤ 256
      end-sum = (walk-counts (mask_bytes count) last 0 (into_ro m) e (omega arith) middle.sum to-end).1

      staged-is : e.staged ≡ m.sum
      staged-is = (walk-listed (mask_bytes count) last e 0 (into_ro m) middle.sum to-end).staged

      -- heading, both strings' lines and end, one after the other
      pub map-printed :
          {v w : Text} {b : List ℕ}
          → Adds 23 heading v x
          → Adds 12 (end_line m.sum e.sum) z w
          → length v.out.now ≡ 1024
          → v.length ≡ 0
          → b ≡ w.out.now
          → Printed (map_text (load_of count first last) (entries_of count first last)) v.out.now w.length b
      map-printed head end size none back =
          rw
          (both-load count first last (is-true (sized count first last) loaded.sized) m e to-middle to-end, lines-both count first last m to-middle, staged-is)
          (printed (adds-then head (adds-then (adds-then one.adds two.adds) end)) (omega (arith, sizes.rw, sizes.ro)) size none back)

-- what is printed for an input: n is its RW size and k its RO size
module _ (input : List ℕ) (n k : ℕ) (p : n ≡ byte_at input 1) (q : k ≡ byte_at input (2 + n)) where
  sizes-are : 2 + n + 1 + k ≡ 3 + rw_size input + ro_size input
  sizes-are = rw (q, p) (omega arith)

  module _ {b b' : List ℕ} {r : ℕ} where
    pub prints-short : (length input ≡ 2 + n + 1 + k → ⊥) → Printed (refused_line (plain 9)) b r b' → Printed (map_output input) b r b'
    prints-short h = rw (map-short input (ne_eqb _ _ (λ z. h (z ∙ sym sizes-are)))) (λ x. x)

    pub prints-whole :
        length input ≡ 2 + n + 1 + k
        → Printed
        (map_text
        (load_of (byte_at input 0) (take (2 + n - 2) (drop 2 input)) (take (length input - (2 + n + 1)) (drop (2 + n + 1) input)))
        (entries_of (byte_at input 0) (take (2 + n - 2) (drop 2 input)) (take (length input - (2 + n + 1)) (drop (2 + n + 1) input))))
        b
        r
        b'
        → Printed (map_output input) b r b'
    prints-whole h x =
        let size : 2 + n - 2 ≡ rw_size input = omega (arith, p) in
        let first : take (2 + n - 2) (drop 2 input) ≡ rw_bytes input = ap (λ (i : ℕ). take i (drop 2 input)) size in
        let from : 2 + n + 1 ≡ 3 + rw_size input = omega (arith, p) in
        let last : take (length input - (2 + n + 1)) (drop (2 + n + 1) input) ≡ ro_bytes input =
        take_all (length input - (2 + n + 1)) (drop (2 + n + 1) input) (omega (arith, length-drop (2 + n + 1) input)) ∙ ap (λ (i : ℕ). drop i input) from in
        rw (map-whole input (eq-eqb _ _ (h ∙ sizes-are))) (rw (first, last) at x)
