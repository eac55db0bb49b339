-- The entry whose space covers a byte: the first, in order. No two spaces share a byte.
use Rattle.std.specs.Prelude.{Bool, ◌≡◌, ◌&&◌, not, cond, List, [], ℕ, suc, ◌+◌, ◌≤◌, ◌<◌, length, ltb, Option, Some, None, Result, Ok, Err}
use Rattle.rules.specs.declared.Refusal.{Refusal}
use Rattle.rules.specs.declared.Refusal.TheVariants.{Plain as plain}
use Rattle.rules.specs.Descriptor.{byte_at, entry_at}
use Rattle.rules.specs.Load.{Map, map_of, read_of}
use Rattle.rules.specs.Place.{entry, is_rw, is_set, is_staged}
use Rattle.rules.specs.Refuse.{Verdict, passes, refuses, order_of}
use Rattle.rules.specs.Beside.{cover_index, looked_at}
use Rattle.descriptor.specs.declared.Fields.{Fields}
use Rattle.descriptor.specs.declared.Covered.{Covered}
use Rattle.descriptor.specs.declared.search.Hit.{Hit}
use Rattle.descriptor.specs.Find.{fields_of}
use Rattle.descriptor.specs.Marks.{OnEntry, mark_after}

abbrev pub by : ℕ → Fields → ℕ → Bool → Result (Option Covered) Refusal
by number fields looked in_ro = Ok (Some (record { number = number; fields = fields; looked = looked; ro = in_ro }))

pattern abbrev pub none_covers : Result (Option Covered) Refusal
none_covers = Ok None

-- the entry of an index, with its string and number, where its fields lie, and how many were looked at
abbrev pub covered_by : Map → ℕ → ℕ → Result (Option Covered) Refusal
covered_by m n c = cond (ltb n (length m.entries)) (by n (fields_of (entry m n)) c (not (is_rw m n))) none_covers

unfoldable pub cover_in : Map → ℕ → Result (Option Covered) Refusal
cover_in m k = covered_by m (cover_index m.entries k) (looked_at m k)

abbrev pub covered : Verdict → Result (Option Covered) Refusal → Result (Option Covered) Refusal
covered passes x = x
covered (refuses r) x = Err r

-- refused as the load is
unfoldable pub cover_of : ℕ → List ℕ → List ℕ → ℕ → Result (Option Covered) Refusal
cover_of count rw ro k = covered (order_of (read_of count rw ro) []) (cover_in (map_of count rw ro) k)

-- 10 of a set that doesn't exist, and of a staged set for an RO entry
unfoldable pub spaced_in : Covered → ℕ → Result Unit Refusal
spaced_in c s = cond (is_set s && not (is_staged s && c.ro)) (Ok tt) (Err (plain 10))

-- what a search for byte k is told of a string: where the entries stand whose spaces begin at the byte or before it. None behind the covering one does
abbrev pub Reachable : ℕ → List ℕ → ℕ → ℕ → ℕ → Type 0
Reachable a s sum n k = (i : ℕ) → i < n → (mark_after a s sum i).sum ≤ k → OnEntry a s (mark_after a s sum i)

-- the first entry of a string whose space ends past byte k, none of which begins past it; `looked` entries are looked at with it, `before` of
-- them before the string
pub record Hits (a : ℕ) (s : List ℕ) (sum n k before looked : ℕ) (h : Hit) : Type 0 where
  pub inside : h.number < n
  pub is : mark_after a s sum h.number ≡ h.mark
  pub low : h.mark.sum ≤ k
  pub top : k < h.mark.sum + byte_at s (h.mark.at + 2 + a)
  pub counted : looked ≡ before + suc h.number

-- the entry that a search found, with so many entries before its string
abbrev pub covered_at : Bool → ℕ → List ℕ → Hit → ℕ → ℕ → Covered
covered_at in_ro a s h before looked =
    record { number = before + h.number; fields = fields_of (entry_at a s h.mark.at h.mark.sum); looked = looked; ro = in_ro }

-- the spaces of all n entries end at byte k or before it, and all are looked at
pub record Misses (a : ℕ) (s : List ℕ) (sum n k before looked : ℕ) : Type 0 where
  pub low : (mark_after a s sum n).sum ≤ k
  pub counted : looked ≡ before + n
