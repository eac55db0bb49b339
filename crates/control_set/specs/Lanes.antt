-- Masks of lanes, and their bits spread over a part.
use Rattle.std.specs.Prelude.{◌≡◌, Bool, false, cond, Result, Ok, Err, List, ℕ, ◌-◌, ◌*◌, ◌^◌, ◌≤◌, ◌<◌, length, get_or}
use Rattle.rules.specs.Numbers.{cut}
use Rattle.rules.specs.Place.{Width}
use Rattle.rules.specs.declared.Refusal.{Refusal}
use Rattle.rules.specs.Refuse.{refuses, chooses, at_lowest}

-- a mask has the lanes below k that f is true of
abbrev pub Lanes : ℕ → (ℕ → Bool) → ℕ → Type 0
Lanes k f lanes = (i : ℕ) → 1 ≤ i → i < k → chooses lanes i ≡ f i

-- f is true of no lane
abbrev pub NoLane : (ℕ → Bool) → Type 0
NoLane f = (i : ℕ) → 1 ≤ i → i ≤ 8 → f i ≡ false

-- refused with a number at the lowest lane that f is true of, or passed
abbrev pub AtLowest : ℕ → (ℕ → Bool) → Result Unit Refusal → Type 0
AtLowest n f (Ok _) = NoLane f
AtLowest n f (Err r) = at_lowest n f ≡ refuses r

-- a part whose fields are all ones in the lanes of a mask, and 0 in the others
pub record Spreads (w lanes bits : ℕ) : Type 0 where
  pub lane : (i : ℕ) → 1 ≤ i → i ≤ 8 → cut bits ((i - 1) * w) w ≡ cond (chooses lanes i) (2 ^ w - 1) 0
  pub room : bits < 2 ^ (8 * w)

-- such parts by width
pub record SpreadsAll (lanes : ℕ) (l : List ℕ) : Type 0 where
  pub size : length l ≡ 9
  pub by : (w : ℕ) → Width w → Spreads w lanes (get_or l w 0)
