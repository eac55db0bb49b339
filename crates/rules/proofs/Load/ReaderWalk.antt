-- The reader on a string that the load accepts: from 0 on it takes the walk's entries, one directly after the other, and then the end.
use mathlib.Core.Path.{◌≡◌, refl, sym, ap, ◌∙◌}
use mathlib.Core.Bool.{true}
use mathlib.Core.List.{List, []}
use Prim.Native.Nat.{ℕ, suc, ◌+◌, ◌<◌}
use native.Mathlib.Omega.{arith}
use lib.ListN.{length, get_or, take}
use lib.Dec.{T, leb}
use borrow.Author.Tests.{lt-ltb, le-ltb}
use Rattle.rules.specs.Words.{Entry, taken, no_more}
use Rattle.rules.specs.Descriptor.{mask_bytes, length_checks, decode_within}
use Rattle.rules.specs.Load.{sized, rw_entries, ro_entries}
use Rattle.rules.specs.Place.{nothing}
use Rattle.rules.specs.Demands.{Accepted, lengths}
use Rattle.rules.specs.Reader.{taken_of, take_of, moved_to}
use Rattle.rules.proofs.Basics.Tests.{and₄, is-true}
use Rattle.rules.proofs.Load.Checks.{pass, passed, decode-passed}
use Rattle.rules.proofs.Load.EntryHeads.{lengths-next}
use Rattle.rules.proofs.Load.Fills.{Stands, Filled, filled-nth, stands-start, rw-filled, ro-filled}
use Rattle.rules.proofs.Load.Walks.{load-accepted}

-- the reader's positions are 0 and the ends of the entries; at each it takes the entry that begins there, and moves to the next
pub record Reads (count : ℕ) (s : List ℕ) (l : List Entry) : Type 0 where
  pub takes : (n : ℕ) → n < length l → take_of count s (lengths (take n l)) ≡ taken (get_or l n nothing).start (get_or l n nothing).length
  pub moves : (n : ℕ) → n < length l → moved_to (take_of count s (lengths (take n l))) (lengths (take n l)) ≡ lengths (take (suc n) l)
  pub ends : take_of count s (length s) ≡ no_more

module _ (count : ℕ) (s : List ℕ) (fits : sized count s [] ≡ true) where
  -- an entry that passes all checks passes the reader's
  take-stands :
      {from : ℕ} {e : Entry}
      → Stands (mask_bytes count) s from e
      → take_of count s from ≡ taken e.start e.length
  unfolding take_of decode_within length_checks
  take-stands {from} {e} w =
      let h0 = passed _ _ _ e w.passes in
      let h1 = passed _ _ _ e h0.1 in
      let h2 = passed _ _ _ e h1.1 in
      rw (fits, lt-ltb from (length s) w.left)
      (ap taken_of (sym (pass 1 _ h1.0 (pass 2 _ h2.0 refl)))
      ∙ ap (λ (x : Entry). taken x.start x.length) (sym (decode-passed (mask_bytes count) s from w.st e w.passes).entry))

  take-moves :
      {from : ℕ} {e : Entry}
      → Stands (mask_bytes count) s from e
      → moved_to (take_of count s from) from ≡ from + e.length
  take-moves {from} {e} w = rw (take-stands w) (ap (λ n. n + e.length) (stands-start (mask_bytes count) s w))

  take-end : take_of count s (length s) ≡ no_more
  unfolding take_of
  take-end = rw (fits, le-ltb (length s) (length s) (omega arith))

  filled-reads : (l : List Entry) → Filled (mask_bytes count) s 0 l → Reads count s l
  filled-reads l g =
      record {
        takes = λ n h. take-stands (filled-nth (mask_bytes count) s l n g h);
        moves = λ n h. take-moves (filled-nth (mask_bytes count) s l n g h) ∙ sym (lengths-next l n h);
        ends = take-end;
      }

module _ (count : ℕ) (first last : List ℕ) (ok : Accepted count first last) where
  -- what 9 says of the count and of each string
  sized-parts : T (leb 1 count) × T (leb count 15) × T (leb (length first) 120) × T (leb (length last) 120)
  sized-parts =
      and₄ (leb 1 count) (leb count 15) (leb (length first) 120) (leb (length last) 120)
      (load-accepted count first last _ _ _ _ ok.loads).sized

  sized-one : (s : List ℕ) → T (leb (length s) 120) → sized count s [] ≡ true
  sized-one s h = rw (is-true (leb 1 count) sized-parts.0, is-true (leb count 15) sized-parts.1, is-true (leb (length s) 120) h)

  pub rw-reads : Reads count first (rw_entries count first)
  rw-reads = filled-reads count first (sized-one first sized-parts.2) (rw_entries count first) (rw-filled count first last ok)

  pub ro-reads : Reads count last (ro_entries count first last)
  ro-reads = filled-reads count last (sized-one last sized-parts.3) (ro_entries count first last) (ro-filled count first last ok)
