-- What a walk counts within a string, beside which its state stays as it is; and a walk of one string in those terms.
use Rattle.std.specs.Prelude.{Bool, true, false, cond, List, ℕ, ◌≤◌, length, ltb, Result, Ok, Err}
use Rattle.rules.specs.declared.Refusal.{Refusal}
use Rattle.rules.specs.declared.State.{State}
use Rattle.rules.specs.declared.Refusal.TheVariants.{Plain as plain, AtEntry as at_entry, AtLane as at_lane}
use Rattle.rules.specs.Descriptor.{decode_at}
use Rattle.rules.specs.Load.{next, onward, walk_of}
use Rattle.descriptor.specs.declared.state.Count.{Count}
use Rattle.descriptor.specs.declared.walk.Stop.{Stop}

abbrev pub count_of : State → Count
count_of st = record { entries = st.entries; sum = st.sum; media = st.media }

abbrev pub with_count : State → Count → State
with_count st c = record { ro = st.ro; media = c.media; entries = c.entries; before = st.before; sum = c.sum; staged = st.staged }

-- a state in a string that stands alone
abbrev pub alone : Bool → Count → State
alone ro c = record { ro = ro; media = c.media; entries = c.entries; before = 0; sum = c.sum; staged = 0 }

-- counts that a state can hold
pub record Small (c : Count) : Type 0 where
  pub entries : c.entries ≤ 255
  pub sum : c.sum ≤ 65535

-- a refusal of a string that stands alone: its number, and that of its entry
abbrev pub refuses : ℕ → ℕ → Result Count Stop
refuses n k = Err (record { number = n; entries = k })

-- the counts at the end of a walk, or a refusal with the number of its entry in this string
abbrev pub counted_of : Result State Refusal → Result Count Stop
counted_of (Ok st) = Ok (count_of st)
counted_of (Err (plain n)) = refuses n 0
counted_of (Err (at_entry n k)) = refuses n k
counted_of (Err (at_lane n i)) = refuses n 0

-- up to the end of a string, or past its first entry alone
unfoldable pub walk_alone : Bool → ℕ → List ℕ → State → Result State Refusal
walk_alone true a s st = cond (ltb 0 (length s)) (onward (decode_at a s 0 st) st (λ e. Ok (next st e))) (Ok st)
walk_alone false a s st = walk_of a s 0 st

abbrev pub SmallEnd : Result Count Stop → Type 0
SmallEnd (Ok c) = Small c
SmallEnd (Err stop) = stop.entries ≤ 255
