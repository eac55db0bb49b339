-- The footprint of a call on lanes: it reads and writes only bits of its lanes' fields and its lanes' AppSels.
-- Byte calls are left out: a byte may hold fields of several lanes, and gaps, which a byte write clears.
-- proofs/Footprints proves the statements. What a call leaves past the bank's size is in demand 1.
use Rattle.std.specs.Prelude.{◌≡◌, Bool, true, false, not, List, ℕ, ◌≤◌, ◌<◌, length, T, eqb, Result}
use Rattle.rules.specs.Words.{Call, select, write, read, byte_write, byte_read, publish, apply, Answer, Refusal}
use Rattle.rules.specs.Load.{Map, map_of}
use Rattle.rules.specs.Place.{entry, Field, covers}
use Rattle.rules.specs.Refuse.{chooses}
use Rattle.rules.specs.Layout.{HasBytes}
use Rattle.rules.specs.Bank.{Bank, get_field, app_sel_in, bank_call}
use Rattle.rules.specs.Demands.{bit_in}

-- the lanes that a call is on: the one that it names, or those that apply's mask chooses
abbrev pub on_lane : Call → ℕ → Bool
on_lane (select s i a) j = eqb j i
on_lane (write s f v) j = eqb j f.lane
on_lane (read s f) j = eqb j f.lane
on_lane (byte_write s k v) j = true
on_lane (byte_read s k) j = true
on_lane (publish f v) j = eqb j f.lane
on_lane (apply s lanes) j = chooses lanes j

-- every call but the byte calls
abbrev pub laned : Call → Bool
laned (select s i a) = true
laned (write s f v) = true
laned (read s f) = true
laned (byte_write s k v) = false
laned (byte_read s k) = false
laned (publish f v) = true
laned (apply s lanes) = true

-- what two banks have of a lane is the same: its fields in all three sets, and both its AppSels
pub record SameLane (m : Map) (i : ℕ) (b b' : Bank) : Type 0 where
  pub fields : (s e p : ℕ) → Field m s e p i → get_field m b s e p i ≡ get_field m b' s e p i
  pub apps : (s : ℕ) → s < 2 → app_sel_in b s i ≡ app_sel_in b' s i

-- WRITES ONLY

-- a bank after changes on some lanes alone: of the three sets, each bit that no field of those lanes covers is as it was, gaps included;
-- and so is all of every other lane
pub record OnlyOn (m : Map) (on : ℕ → Bool) (b after : Bank) : Type 0 where
  pub size : length after ≡ length b
  pub bits : (s k q : ℕ)
      → HasBytes s
      → k < 256
      → ((e p i : ℕ) → Field m s e p i → T (covers (entry m e) p i k q) → T (not (on i)))
      → bit_in after s k q ≡ bit_in b s k q
  pub lanes : (i : ℕ) → 1 ≤ i → i ≤ 8 → T (not (on i)) → SameLane m i after b

-- any strings, any count, any bank: accepted or refused, the call changes nothing but bits of its lanes
abbrev pub WritesOnly : Type 0
WritesOnly =
    (count : ℕ) (rw ro : List ℕ) (c : Call) (b : Bank) → T (laned c) → OnlyOn (map_of count rw ro) (on_lane c) b (bank_call count rw ro c b).1

-- READS ONLY

-- all lanes, of 1 to 8, that a call is on
abbrev pub SameOn : Map → (ℕ → Bool) → Bank → Bank → Type 0
SameOn m on b b' = (i : ℕ) → 1 ≤ i → i ≤ 8 → T (on i) → SameLane m i b b'

-- two outcomes from two banks: one answer, and a lane that was the same is the same
pub record Alike (m : Map) (b b' : Bank) (x y : Result Answer Refusal × Bank) : Type 0 where
  pub answer : x.0 ≡ y.0
  pub lanes : (i : ℕ) → 1 ≤ i → i ≤ 8 → SameLane m i b b' → SameLane m i x.1 y.1

-- any strings, any count, any two banks of one length: where the lanes that the call is on are the same, it has one outcome,
-- whatever the other lanes and the gaps hold
abbrev pub ReadsOnly : Type 0
ReadsOnly =
    (count : ℕ) (rw ro : List ℕ) (c : Call) (b b' : Bank)
    → T (laned c)
    → length b ≡ length b'
    → SameOn (map_of count rw ro) (on_lane c) b b'
    → Alike (map_of count rw ro) b b' (bank_call count rw ro c b) (bank_call count rw ro c b')
