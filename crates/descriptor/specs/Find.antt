-- What a call needs of the field that it names, refused as a call that is told of its bank is.
use Rattle.std.specs.Prelude.{◌≡◌, Some, None, Result, Ok, Err, Bool, true, ◌&&◌, not, cond, List, [], ◌∷◌, ℕ, ◌^◌, ℤ, pos, ltb, eqb}
use Rattle.std.specs.Int.Bits.{bit_and}
use Rattle.std.specs.Int.Signed.{le_z}
use Rattle.rules.specs.declared.Refusal.{Refusal}
use Rattle.rules.specs.declared.Entry.{Entry}
use Rattle.rules.specs.declared.Refusal.TheVariants.{Plain as plain}
use Rattle.rules.specs.Numbers.{sum}
use Rattle.rules.specs.Parameter.{Range as TableRange, Values, numbers, if_in_mask, min_to_max, row_of}
use Rattle.rules.specs.Load.{map_of, read_of}
use Rattle.rules.specs.Place.{entry, is_rw, is_set, is_staged, is_lane, has_field, parts_of, width_of, signed_of}
use Rattle.rules.specs.Accept.{within, in_mask, signed_byte}
use Rattle.rules.specs.Refuse.{Verdict, passes, refuses, refuse_if, first_of, check9, check_entries}
use Rattle.rules.specs.Demands.{Accepted as AcceptedMap}
use Rattle.descriptor.specs.declared.Range.{Range}
use Rattle.descriptor.specs.declared.Accepted.{Accepted}
use Rattle.descriptor.specs.declared.Accepted.TheVariants.{Within as within_range, Codes as in_codes}
use Rattle.descriptor.specs.declared.Fields.{Fields}
use Rattle.descriptor.specs.declared.Named.{Named}

-- the accepted numbers lie from the first range's beginning to the last one's end
abbrev pub lowest : List TableRange → ℤ
lowest [] = pos 0
lowest (r ∷ l) = r.low

abbrev pub highest : List TableRange → ℤ
highest [] = pos 0
highest (r ∷ []) = r.high
highest (r ∷ q ∷ l) = highest (q ∷ l)

-- or from Min to Max
abbrev pub low_of : Values → Entry → ℤ
low_of (numbers l) e = lowest l
low_of (if_in_mask l) e = lowest l
low_of min_to_max e = signed_byte e.min

abbrev pub high_of : Values → Entry → ℤ
high_of (numbers l) e = highest l
high_of (if_in_mask l) e = highest l
high_of min_to_max e = signed_byte e.max

-- those of 0 to 15, a bit for each
unfoldable pub code_bits : List TableRange → ℕ
code_bits l = sum 16 λ n. cond (within l (pos n)) (2 ^ n) 0

-- what the fields of an entry accept: from one number to another, or codes, those that a code mask allows of the table's
abbrev pub accepted_of : Values → Entry → Accepted
accepted_of (numbers l) e = within_range (record { low = lowest l; high = highest l })
accepted_of (if_in_mask l) e = in_codes (bit_and (code_bits l) e.codes)
accepted_of min_to_max e = within_range (record { low = signed_byte e.min; high = signed_byte e.max })

-- where its fields lie
abbrev pub fields_of : Entry → Fields
fields_of e = record { offset = e.offset; parts = parts_of e; width = width_of e }

-- what a call needs of an entry; the step of 12h alone
unfoldable pub named_of : Bool → Entry → Named
named_of in_ro e =
    record {
      ro = in_ro;
      id = e.id;
      fields = fields_of e;
      signed = signed_of e;
      accepted = accepted_of (row_of e.id).values e;
      step = cond (eqb e.id 0x12) (Some e.step) None;
    }

-- a field of the map of strings that load, and what a call needs of its entry
pub record InMap (count : ℕ) (rw ro : List ℕ) (e p i : ℕ) (f : Named) : Type 0 where
  pub ok : AcceptedMap count rw ro
  pub has : has_field (map_of count rw ro) e p i ≡ true
  pub is : named_of (not (is_rw (map_of count rw ro) e)) (entry (map_of count rw ro) e) ≡ f

-- the values that fields accept: from low to high; or those of 0 to 15 with a bit in the codes
abbrev pub in_range : Range → ℤ → Bool
in_range r v = le_z r.low v && le_z v r.high

unfoldable pub accepted_in : Accepted → ℤ → Bool
accepted_in (within_range r) v = in_range r v
accepted_in (in_codes codes) v = (le_z (pos 0) v && le_z v (pos 15)) && in_mask codes v

-- the range of all of them
abbrev pub range_of : Accepted → Range
range_of (within_range r) = r
range_of (in_codes codes) = record { low = pos 0; high = pos 15 }

abbrev pub accepted_by : Named → ℤ → Bool
accepted_by f v = accepted_in f.accepted v

abbrev pub found : Verdict → Result Named Refusal → Result Named Refusal
found passes x = x
found (refuses r) x = Err r

-- the order of a call that is told whether its bank is too short
unfoldable pub told_order : ℕ → List ℕ → List ℕ → Bool → List Verdict → Verdict
told_order count rw ro short rest = first_of (check9 (read_of count rw ro) ∷ refuse_if short (plain 8) ∷ check_entries (read_of count rw ro) ∷ rest)

-- 10: an entry, part or lane that doesn't exist
unfoldable pub found_of : ℕ → List ℕ → List ℕ → Bool → ℕ → ℕ → ℕ → Result Named Refusal
found_of count rw ro short e p i =
    found
    (told_order count rw ro short (refuse_if (not (has_field (map_of count rw ro) e p i)) (plain 10) ∷ []))
    (Ok (named_of (not (is_rw (map_of count rw ro) e)) (entry (map_of count rw ro) e)))

-- 10 of a part and a lane, for an entry that exists
unfoldable pub held_in : Named → ℕ → ℕ → Result Named Refusal
held_in f p i = cond (ltb p f.fields.parts && is_lane i) (Ok f) (Err (plain 10))

-- 10 of a set that doesn't exist, then 11 of an RO entry in a staged set
unfoldable pub shown_in : Named → ℕ → Result Unit Refusal
shown_in f s = cond (is_set s) (cond (is_staged s && f.ro) (Err (plain 11)) (Ok tt)) (Err (plain 10))
