-- "The bank" and the calls on it: what each answers, and the bank after it. What the bank does with its bytes is said here alone;
-- the plain table says the same calls over its numbers.
use Rattle.std.specs.Prelude.{Bool, true, false, ◌&&◌, not, cond, List, [], ◌∷◌, ◌++◌, ℕ, zero, suc, ◌+◌, ◌*◌, ◌/◌, ◌%◌, ◌^◌, ℤ, pos, length, get_or, set, replicate, drop, Result, Err}
use Rattle.rules.specs.Words.{Loaded, Call, select, write, read, byte_write, byte_read, publish, apply, Answer, says_yes, number, Refusal}
use Rattle.rules.specs.Numbers.{cut, sum, any}
use Rattle.rules.specs.Descriptor.{is_app, has_app}
use Rattle.rules.specs.Load.{Map, Reading, load_on, read_of}
use Rattle.rules.specs.Place.{entry, parts_of, width_of, signed_of, field_byte, field_bit, Owner, field, gap, owner_of}
use Rattle.rules.specs.Accept.{accepts, to_bits, from_bits}
use Rattle.rules.specs.Layout.{bank_size, set_start, app_sel_at}
use Rattle.rules.specs.Refuse.{Verdict, passes, refuses, decide, bank_order, judge, chooses, at_lowest}
use Rattle.rules.specs.Machine.{Command, call}
use Rattle.rules.specs.Source.{Source, kept, copied, is_copied}

abbrev pub Bank : Type 0
Bank = List ℕ

-- where the byte of a field stands in the bank
abbrev pub field_at : Map → ℕ → ℕ → ℕ → ℕ → ℕ
field_at m s e p i = set_start s + field_byte (entry m e) p i

-- a byte with its w bits from bit t on replaced by v: what stands above, v, what stands below
abbrev pub merge : ℕ → ℕ → ℕ → ℕ → ℕ
merge x t w v = (x / 2 ^ (w + t) * 2 ^ w + v) * 2 ^ t + x % 2 ^ t

-- the bits of a field, and the bank with other bits in it
unfoldable pub get_field : Map → Bank → ℕ → ℕ → ℕ → ℕ → ℕ
get_field m b s e p i = cut (get_or b (field_at m s e p i) 0) (field_bit (entry m e) i) (width_of (entry m e))

unfoldable pub put_field : Map → Bank → ℕ → ℕ → ℕ → ℕ → ℕ → Bank
put_field m b s e p i v =
    set b (field_at m s e p i) (merge (get_or b (field_at m s e p i) 0) (field_bit (entry m e) i) (width_of (entry m e)) v)

-- the number of a field, and the bank with another number in it
unfoldable pub number_in : Map → Bank → ℕ → ℕ → ℕ → ℕ → ℤ
number_in m b s e p i = from_bits (signed_of (entry m e)) (width_of (entry m e)) (get_field m b s e p i)

unfoldable pub with_number : Map → Bank → ℕ → ℕ → ℕ → ℕ → ℤ → Bank
with_number m b s e p i v = put_field m b s e p i (to_bits (width_of (entry m e)) v)

-- the AppSel of a lane of a staged set
abbrev pub app_sel_in : Bank → ℕ → ℕ → ℕ
app_sel_in b s i = get_or b (app_sel_at s i) 0

-- byte calls: the bits of a byte that belong to fields; "gaps become 0" (byte write), "gaps show 0" (byte read)
abbrev pub is_gap : Owner → Bool
is_gap (field e p i) = false
is_gap gap = true

unfoldable pub field_bits : Map → ℕ → ℕ → ℕ → ℕ
field_bits m s k x = sum 8 λ q. cond (is_gap (owner_of m s k q)) 0 (cut x q 1 * 2 ^ q)

-- 13: "a chosen lane's AppSel is 0 or above the count"
unfoldable pub bank_lacks_app : Map → Bank → ℕ → ℕ → ℕ → Bool
bank_lacks_app m b s lanes i = chooses lanes i && not (is_app m.count (app_sel_in b s i))

-- the source of a field: "for each chosen lane, each RW field whose entry's mask has the lane's AppSel is copied .. the others keep their
-- active number"
unfoldable pub bank_source : Map → Bank → ℕ → ℕ → ℕ → ℕ → Source
bank_source m b s lanes e i = cond (chooses lanes i && has_app m.count (entry m e).mask (app_sel_in b s i)) copied kept

-- the bits that apply gives a field of the active set, by its source
abbrev pub bits_from : Source → Map → Bank → ℕ → ℕ → ℕ → ℕ → ℕ
bits_from kept m b s e p i = get_field m b 2 e p i
bits_from copied m b s e p i = get_field m b s e p i

-- 14: "a field to be copied holds a value not accepted"
unfoldable pub bank_holds_bad : Map → Bank → ℕ → ℕ → ℕ → Bool
bank_holds_bad m b s lanes i =
    any m.rw_count λ e.
    any (parts_of (entry m e)) λ p.
    is_copied (bank_source m b s lanes e i) && not (accepts (entry m e) (number_in m b s e p i))

-- "The host's plan, at apply": 13 before 14
unfoldable pub bank_plan : Map → Call → Bank → List Verdict
bank_plan m (select s i a) b = []
bank_plan m (write s f v) b = []
bank_plan m (read s f) b = []
bank_plan m (byte_write s k v) b = []
bank_plan m (byte_read s k) b = []
bank_plan m (publish f v) b = []
bank_plan m (apply s lanes) b = at_lowest 13 (bank_lacks_app m b s lanes) ∷ at_lowest 14 (bank_holds_bad m b s lanes) ∷ []

-- f (n - 1) (.. (f 0 b))
unfoldable pub loop : ℕ → (ℕ → Bank → Bank) → Bank → Bank
loop zero f b = b
loop (suc n) f b = f n (loop n f b)

-- what apply gives a field of the active set, from the bank b₀ before it: a field that is kept, its own bits
unfoldable pub give_field : Map → ℕ → ℕ → Bank → ℕ → ℕ → ℕ → Bank → Bank
give_field m s lanes b₀ e p i b = put_field m b 2 e p i (bits_from (bank_source m b₀ s lanes e i) m b₀ s e p i)

-- to every RW field, in every lane
unfoldable pub apply_bank : Map → ℕ → ℕ → Bank → Bank
apply_bank m s lanes b =
    loop m.rw_count (λ e. loop (parts_of (entry m e)) (λ p. loop 8 (λ j. give_field m s lanes b e p (suc j)))) b

-- what an accepted call answers, and the bank after it
unfoldable pub bank_does : Map → Call → Bank → Result Answer Refusal × Bank
-- "stores AppSel"
bank_does m (select s i a) b = (says_yes, set b (app_sel_at s i) a)
-- "stores an accepted value"
bank_does m (write s f v) b = (says_yes, with_number m b s f.entry f.part f.lane v)
-- "answers the number"
bank_does m (read s f) b = (number (number_in m b s f.entry f.part f.lane), b)
-- "each field in that byte takes its own bits, accepted value or not; gaps become 0"
bank_does m (byte_write s k v) b = (says_yes, set b (set_start s + k) (field_bits m s k v))
-- "the sum of each field there .. gaps show 0"
bank_does m (byte_read s k) b = (number (pos (field_bits m s k (get_or b (set_start s + k) 0))), b)
-- "as write, into set 2"
bank_does m (publish f v) b = (says_yes, with_number m b 2 f.entry f.part f.lane v)
-- "copied to the active set"
bank_does m (apply s lanes) b = (says_yes, apply_bank m s lanes b)

-- a call on a bank: "All calls read the strings anew"
abbrev pub bank_call_on : Reading → Call → Bank → Result Answer Refusal × Bank
bank_call_on r c b = decide (bank_order r (length b) (judge r.map c ++ bank_plan r.map c b)) b (bank_does r.map c b)

unfoldable pub bank_call : ℕ → List ℕ → List ℕ → Call → Bank → Result Answer Refusal × Bank
bank_call count rw ro c b = bank_call_on (read_of count rw ro) c b

-- "clears the 784 bytes"; "Longer buffers are untouched beyond."
unfoldable pub fresh_bank : Bank → Bank
fresh_bank b = replicate bank_size 0 ++ drop bank_size b

-- fresh "answers both entry counts and both lengths"
abbrev pub freshened : Verdict → Result Loaded Refusal → Bank → Result Loaded Refusal × Bank
freshened passes answer b = (answer, fresh_bank b)
freshened (refuses r) answer b = (Err r, b)

abbrev pub fresh_on : Reading → Bank → Result Loaded Refusal × Bank
fresh_on r b = freshened (bank_order r (length b) []) (load_on r) b

unfoldable pub fresh_call : ℕ → List ℕ → List ℕ → Bank → Result Loaded Refusal × Bank
fresh_call count rw ro b = fresh_on (read_of count rw ro) b

-- what the bank makes of each thing that a list holds
unfoldable pub bank_makes : ℕ → List ℕ → List ℕ → Command → Bank → Result Answer Refusal × Bank
bank_makes count rw ro (call c) b = bank_call count rw ro c b
