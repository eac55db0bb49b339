-- "Refusals by who causes them": what refuses a call, and the order. "Order: 9, 8, 1 to 7, 10, 11, then 12, or 13 before 14."; 02,
-- note 7: 16 comes with 1 to 7, entry by entry. All but 13 and 14 follow from arguments, strings, count and bank size, and are said here
-- once; 13 and 14 follow from a machine's state.
use Rattle.std.specs.Prelude.{Bool, true, false, ◌&&◌, ◌||◌, not, cond, List, [], ◌∷◌, ℕ, ◌-◌, ltb, eqb, Result, Err, Ok}
use Rattle.rules.specs.Words.{Refusal, plain, at_lane, Loaded, Call, select, write, read, byte_write, byte_read, publish, apply, Answer}
use Rattle.rules.specs.Numbers.{bit_of, lowest}
use Rattle.rules.specs.Load.{Map, Reading}
use Rattle.rules.specs.Place.{entry, is_set, is_staged, is_rw, is_lane, has_field, length_of}
use Rattle.rules.specs.Accept.{accepts}
use Rattle.rules.specs.Layout.{bank_size}

pub data Verdict : Type 0 where
  passes : Verdict
  refuses : Refusal → Verdict

abbrev pub refuse_if : Bool → Refusal → Verdict
refuse_if true r = refuses r
refuse_if false r = passes

-- the first of several checks that refuses
abbrev pub first_of : List Verdict → Verdict
first_of [] = passes
first_of (passes ∷ l) = first_of l
first_of (refuses r ∷ l) = refuses r

-- a call's outcome: refused, "every lent byte keeps its content"; or what it does
abbrev pub decide : {S : Type 0} → Verdict → S → Result Answer Refusal × S → Result Answer Refusal × S
decide passes s done = done
decide (refuses r) s done = (Err r, s)

-- 9: "count not 1 to 15, or a string over 120"
unfoldable pub check9 : Reading → Verdict
check9 r = refuse_if (not r.sized) (plain 9)

-- 8: "bank under 784 bytes (calls that take one)"
unfoldable pub check8 : ℕ → Verdict
check8 size = refuse_if (ltb size bank_size) (plain 8)

-- 16 and 1 to 7: "All calls read the strings anew and may give 1 to 7."
abbrev pub refusal_of : Result Loaded Refusal → Verdict
refusal_of (Ok l) = passes
refusal_of (Err r) = refuses r

unfoldable pub check_entries : Reading → Verdict
check_entries r = refusal_of r.walked

-- 10: "a set, lane, entry, part, offset or bit that doesn't exist, or a field of an entry without that field".
-- "An offset is judged against its own set's length."
unfoldable pub exists : Map → Call → Bool
exists m (select s i a) = is_set s && is_lane i
exists m (write s f v) = is_set s && has_field m f.entry f.part f.lane
exists m (read s f) = is_set s && has_field m f.entry f.part f.lane
exists m (byte_write s k v) = is_set s && ltb k (length_of m s)
exists m (byte_read s k) = is_set s && ltb k (length_of m s)
exists m (publish f v) = has_field m f.entry f.part f.lane
exists m (apply s lanes) = is_set s

-- 11: "write, byte write, select or apply on set 2; an RO entry in a staged set; publish to an RW entry"
unfoldable pub misdirected : Map → Call → Bool
misdirected m (select s i a) = eqb s 2
misdirected m (write s f v) = eqb s 2 || not (is_rw m f.entry)
misdirected m (read s f) = is_staged s && not (is_rw m f.entry)
misdirected m (byte_write s k v) = eqb s 2
misdirected m (byte_read s k) = false
misdirected m (publish f v) = is_rw m f.entry
misdirected m (apply s lanes) = eqb s 2

-- 12: "value or app not accepted"; select takes "app 0 to count"
unfoldable pub unaccepted : Map → Call → Bool
unaccepted m (select s i a) = ltb m.count a
unaccepted m (write s f v) = not (accepts (entry m f.entry) v)
unaccepted m (read s f) = false
unaccepted m (byte_write s k v) = false
unaccepted m (byte_read s k) = false
unaccepted m (publish f v) = not (accepts (entry m f.entry) v)
unaccepted m (apply s lanes) = false

-- "10, 11, then 12": from the call's arguments and the map
unfoldable pub judge : Map → Call → List Verdict
judge m c = refuse_if (not (exists m c)) (plain 10) ∷ refuse_if (misdirected m c) (plain 11) ∷ refuse_if (unaccepted m c) (plain 12) ∷ []

-- "lane mask of one byte, bit i − 1 for lane i"
abbrev pub chooses : ℕ → ℕ → Bool
chooses lanes i = bit_of lanes (i - 1)

-- 13 and 14 come "with the lowest such lane", of 1 to 8
unfoldable pub at_lowest : ℕ → (ℕ → Bool) → Verdict
at_lowest n f = cond (eqb (lowest 8 1 f) 0) passes (refuses (at_lane n (lowest 8 1 f)))

-- the order for a call that takes a bank of a size, and for one that takes none; `rest` is what follows the checks of the entries
unfoldable pub bank_order : Reading → ℕ → List Verdict → Verdict
bank_order r size rest = first_of (check9 r ∷ check8 size ∷ check_entries r ∷ rest)

unfoldable pub order_of : Reading → List Verdict → Verdict
order_of r rest = first_of (check9 r ∷ check_entries r ∷ rest)
