-- "the plain table": "a number for each set, entry, part and lane that the set holds (staged: RW only), and an AppSel for each
-- staged set and lane". It "does each call as said, over its numbers, the two strings and the count only".
use Rattle.std.specs.Prelude.{Bool, ◌&&◌, not, cond, List, [], ◌∷◌, ◌++◌, ℕ, suc, ◌*◌, ◌^◌, ℤ, pos, eqb, Result}
use Rattle.rules.specs.Words.{Entry, Call, select, write, read, byte_write, byte_read, publish, apply, Answer, says_yes, number, Refusal}
use Rattle.rules.specs.Numbers.{cut, sum, any}
use Rattle.rules.specs.Descriptor.{is_app, has_app}
use Rattle.rules.specs.Load.{Map, Reading, read_of}
use Rattle.rules.specs.Place.{entry, parts_of, width_of, signed_of, is_rw, held_by, holds, field_byte, field_bit}
use Rattle.rules.specs.Accept.{accepts, to_bits, from_bits}
use Rattle.rules.specs.Refuse.{Verdict, decide, order_of, judge, chooses, at_lowest}
use Rattle.rules.specs.Machine.{Command, call}
use Rattle.rules.specs.Source.{Source, kept, copied, is_copied}

pub record Table : Type 0 where
  pub numbers : ℕ → ℕ → ℕ → ℕ → ℤ
  pub apps : ℕ → ℕ → ℕ

-- "Fresh, all are 0."
abbrev pub fresh_table : Table
fresh_table = record { numbers = λ s e p i. pos 0; apps = λ s i. 0 }

-- the table with other numbers, and with one other number
abbrev pub renumbered : Table → (ℕ → ℕ → ℕ → ℕ → ℤ) → Table
renumbered t f = record { numbers = f; apps = t.apps }

abbrev pub stored : Table → ℕ → ℕ → ℕ → ℕ → ℤ → Table
stored t s e p i v =
    renumbered t λ s' e' p' i'. cond (eqb s' s && (eqb e' e && (eqb p' p && eqb i' i))) v (t.numbers s' e' p' i')

-- byte write: "each field in that byte takes its own bits, accepted value or not"
abbrev pub in_byte : Map → ℕ → ℕ → ℕ → ℕ → ℕ → Bool
in_byte m s k e p i = holds m s e p i && eqb (field_byte (entry m e) p i) k

abbrev pub own_bits : Entry → ℕ → ℕ → ℤ
own_bits e i v = from_bits (signed_of e) (width_of e) (cut v (field_bit e i) (width_of e))

-- byte read: "the sum of each field there, as an unsigned pattern, times 2 to its lowest bit; gaps show 0"
unfoldable pub byte_from : Map → ℕ → ℕ → (ℕ → ℕ → ℕ → ℕ) → ℕ
byte_from m s k bits =
    sum (held_by m s) λ e.
    sum (parts_of (entry m e)) λ p.
    sum 8 λ j.
    cond (eqb (field_byte (entry m e) p (suc j)) k) (bits e p (suc j) * 2 ^ field_bit (entry m e) (suc j)) 0

-- 13: "a chosen lane's AppSel is 0 or above the count"
unfoldable pub table_lacks_app : Map → Table → ℕ → ℕ → ℕ → Bool
table_lacks_app m t s lanes i = chooses lanes i && not (is_app m.count (t.apps s i))

-- the source of a field: "for each chosen lane, each RW field whose entry's mask has the lane's AppSel is copied .. the others keep their
-- active number"
unfoldable pub table_source : Map → Table → ℕ → ℕ → ℕ → ℕ → Source
table_source m t s lanes e i = cond (chooses lanes i && has_app m.count (entry m e).mask (t.apps s i)) copied kept

-- the number that apply gives a field of the active set, by its source
abbrev pub number_from : Source → Table → ℕ → ℕ → ℕ → ℕ → ℤ
number_from kept t s e p i = t.numbers 2 e p i
number_from copied t s e p i = t.numbers s e p i

-- 14: "a field to be copied holds a value not accepted"
unfoldable pub table_holds_bad : Map → Table → ℕ → ℕ → ℕ → Bool
table_holds_bad m t s lanes i =
    any m.rw_count λ e.
    any (parts_of (entry m e)) λ p.
    is_copied (table_source m t s lanes e i) && not (accepts (entry m e) (t.numbers s e p i))

-- "The host's plan, at apply": 13 before 14
unfoldable pub table_plan : Map → Call → Table → List Verdict
table_plan m (select s i a) t = []
table_plan m (write s f v) t = []
table_plan m (read s f) t = []
table_plan m (byte_write s k v) t = []
table_plan m (byte_read s k) t = []
table_plan m (publish f v) t = []
table_plan m (apply s lanes) t = at_lowest 13 (table_lacks_app m t s lanes) ∷ at_lowest 14 (table_holds_bad m t s lanes) ∷ []

-- apply gives a number to the active set's RW fields
abbrev pub gives : Map → ℕ → ℕ → ℕ → ℕ → Bool
gives m s' e p i = eqb s' 2 && (is_rw m e && holds m 2 e p i)

-- what an accepted call answers, and the table after it
unfoldable pub table_does : Map → Call → Table → Result Answer Refusal × Table
-- "stores AppSel"
table_does m (select s i a) t =
    (says_yes, record { numbers = t.numbers; apps = λ s' i'. cond (eqb s' s && eqb i' i) a (t.apps s' i') })
-- "stores an accepted value"
table_does m (write s f v) t = (says_yes, stored t s f.entry f.part f.lane v)
-- "answers the number"
table_does m (read s f) t = (number (t.numbers s f.entry f.part f.lane), t)
table_does m (byte_write s k v) t =
    (says_yes, renumbered t λ s' e p i. cond (eqb s' s && in_byte m s k e p i) (own_bits (entry m e) i v) (t.numbers s' e p i))
table_does m (byte_read s k) t =
    (number (pos (byte_from m s k λ e p i. to_bits (width_of (entry m e)) (t.numbers s e p i))), t)
-- "as write, into set 2"
table_does m (publish f v) t = (says_yes, stored t 2 f.entry f.part f.lane v)
-- "copied to the active set; the others keep their active number"
table_does m (apply s lanes) t =
    (says_yes, renumbered t λ s' e p i. cond (gives m s' e p i) (number_from (table_source m t s lanes e i) t s e p i) (t.numbers s' e p i))

-- "A refused call changes none of its numbers; the refusal and its extras follow from the call's arguments and those three."
abbrev pub table_call_on : Reading → Call → Table → Result Answer Refusal × Table
table_call_on r c t = decide (order_of r (judge r.map c ++ table_plan r.map c t)) t (table_does r.map c t)

unfoldable pub table_call : ℕ → List ℕ → List ℕ → Call → Table → Result Answer Refusal × Table
table_call count rw ro c t = table_call_on (read_of count rw ro) c t

-- what the table makes of each thing that a list holds
unfoldable pub table_makes : ℕ → List ℕ → List ℕ → Command → Table → Result Answer Refusal × Table
table_makes count rw ro (call c) t = table_call count rw ro c t
