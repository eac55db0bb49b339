-- The RW entries of strings that load, one by one: at the mark of an entry `entry_read` reads that entry, and answers the mark of the next.
use mathlib.Core.Path.{◌≡◌, refl, sym, ap, ◌∙◌}
use mathlib.Core.Bool.{false}
use mathlib.Core.List.{List}
use Prim.Native.Nat.{ℕ, suc, ◌+◌, ◌<◌}
use native.Mathlib.Omega.{arith}
use lib.ListN.{length, get_or}
use borrow.Author.Tests.{le-leb, lt-ltb}
use Rattle.rules.specs.Words.{accepted}
use Rattle.rules.specs.declared.Entry.{Entry}
use Rattle.rules.specs.Descriptor.{mask_bytes, entry_at}
use Rattle.rules.specs.Load.{load_of, rw_entries}
use Rattle.rules.specs.Place.{nothing}
use Rattle.rules.specs.Demands.{Accepted}
use Rattle.rules.proofs.Load.Walks.{load-accepted}
use Rattle.descriptor.specs.declared.Mark.{Mark}
use Rattle.descriptor.specs.declared.table.Row.{Row}
use Rattle.descriptor.specs.Rows.{classes, rows}
use Rattle.descriptor.specs.Find.{named_of}
use Rattle.descriptor.specs.Marks.{OnEntry, mark_after}
use Rattle.descriptor.specs.Reading.{read_of, read_by}
use Rattle.descriptor.proofs.LentRows.{row-table, shaped-table}
use Rattle.descriptor.proofs.Marks.{mark_of, Marked, marked, accepts}

-- where an entry can stand, it is read
pub read-on :
    (x : List ℕ) (y : List Row) (count : ℕ) (s : List ℕ) (mark : Mark)
    → OnEntry (mask_bytes count) s mark
    → read_by x y count s mark.at mark.sum ≡ read_of x y (entry_at (mask_bytes count) s mark.at mark.sum)
unfolding read_by
read-on x y count s mark h =
    rw (le-leb mark.at 120 h.place, le-leb mark.sum 256 h.space, lt-ltb (mark.at + 2 + mask_bytes count) (length s) h.inside) refl

-- by the table's rows
read-table :
    (e : Entry) → read_of classes rows e ≡ record { mask = e.mask; named = named_of false e; next = record { at = e.start + e.length; sum = e.offset + e.memory } }
read-table e = rw (row-table e.id, shaped-table false e) refl

-- the RW string, in the numbers that an accepted load answers
module _ (count : ℕ) (first last : List ℕ) (n k c t : ℕ) (h : load_of count first last ≡ accepted n k c t) where
  abbrev mark : ℕ → Mark
  mark i = mark_after (mask_bytes count) first 0 i

  ok : Accepted count first last
  ok = accepts count first last n k c t h

  all : length (rw_entries count first) ≡ n
  all = sym (load-accepted count first last n k c t h).rw_count

  law : Marked (mask_bytes count) first 0 (rw_entries count first)
  law = marked count first last ok false

  in-list : (i : ℕ) → i < n → i < length (rw_entries count first)
  in-list i l = omega (arith, all)

  pub mark-on : (i : ℕ) → i < n → OnEntry (mask_bytes count) first (mark_after (mask_bytes count) first 0 i)
  mark-on i l = law.on i (in-list i l)

  mark-stands : (i : ℕ) → i < n → mark_after (mask_bytes count) first 0 i ≡ mark_of (get_or (rw_entries count first) i nothing)
  mark-stands i l = law.stands i (in-list i l)

  -- the entry at the mark of entry i is entry i
  pub read-is : (i : ℕ) → i < n → entry_at (mask_bytes count) first (mark_after (mask_bytes count) first 0 i).at (mark_after (mask_bytes count) first 0 i).sum ≡ get_or (rw_entries count first) i nothing
  read-is i l = rw (mark-stands i l) (sym (law.heads i (in-list i l)).says)

  -- THE LAW
  pub read-entry :
      (i : ℕ)
      → i < n
      → read_by classes rows count first (mark_after (mask_bytes count) first 0 i).at (mark_after (mask_bytes count) first 0 i).sum
      ≡ record {
        mask = (get_or (rw_entries count first) i nothing).mask;
        named = named_of false (get_or (rw_entries count first) i nothing);
        next = mark_after (mask_bytes count) first 0 (suc i);
      }
  unfolding mark_after
  read-entry i l =
      read-on classes rows count first (mark i) (mark-on i l)
      ∙ read-table (entry_at (mask_bytes count) first (mark i).at (mark i).sum)
      ∙ ap (λ (e : Entry). record { mask = e.mask; named = named_of false e; next = mark (suc i) }) (read-is i l)
