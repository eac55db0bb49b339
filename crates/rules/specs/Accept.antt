-- The table's "accepted values", a field's bits as a number, and the weight of a 12h field.
use Rattle.std.specs.Prelude.{Bool, true, false, ◌&&◌, ◌||◌, cond, List, [], ◌∷◌, ℕ, zero, suc, ◌-◌, ◌^◌, ℤ, pos, negsuc, ◌*ℤ◌, ltb}
use Rattle.std.specs.Int.Signed.{le_z}
use Rattle.rules.specs.Words.{Entry}
use Rattle.rules.specs.Numbers.{bit_of}
use Rattle.rules.specs.Parameter.{Range, Values, numbers, if_in_mask, min_to_max, row_of}

-- the numbers of the table's last column
unfoldable pub within : List Range → ℤ → Bool
within [] v = false
within (r ∷ l) v = (le_z r.low v && le_z v r.high) || within l v

-- "value v is in it if bit v is 1"
unfoldable pub in_mask : ℕ → ℤ → Bool
in_mask mask (pos n) = bit_of mask n
in_mask mask (negsuc n) = false

-- the w bits that stand for a number, "as an unsigned pattern"
unfoldable pub to_bits : ℕ → ℤ → ℕ
to_bits w (pos n) = n
to_bits w (negsuc n) = 2 ^ w - suc n

-- the number that w bits stand for: two's complement if signed, "any other an unsigned one"
unfoldable pub from_bits : Bool → ℕ → ℕ → ℤ
from_bits false w n = pos n
from_bits true w n = cond (ltb n (2 ^ (w - 1))) (pos n) (negsuc (2 ^ w - suc n))

-- Min and Max are signed bytes (S8)
abbrev pub signed_byte : ℕ → ℤ
signed_byte n = from_bits true 8 n

-- "accepted values" of an entry: the column's numbers; "if in the mask"; 02, note 1: "ranges", from its Min to its Max
unfoldable pub takes : Values → Entry → ℤ → Bool
takes (numbers l) e v = within l v
takes (if_in_mask l) e v = within l v && in_mask e.codes v
takes min_to_max e v = le_z (signed_byte e.min) v && le_z v (signed_byte e.max)

unfoldable pub accepts : Entry → ℤ → Bool
accepts e v = takes (row_of e.id).values e v

-- "times 10, 20, 25 or 40 for step 0 to 3, in thousandths"
abbrev pub thousandths : ℕ → ℕ
thousandths zero = 10
thousandths (suc zero) = 20
thousandths (suc (suc zero)) = 25
thousandths (suc (suc (suc n))) = 40

unfoldable pub weight_of : ℕ → ℤ → ℤ
weight_of step v = v *ℤ pos (thousandths step)
