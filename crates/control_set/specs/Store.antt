-- What a call that sets a number does past 10 and 11: an accepted value's bits go into its field.
use Rattle.std.specs.Prelude.{◌≡◌, true, cond, ℕ, ◌^◌, ◌<◌, ℤ, Result, Err}
use Rattle.rules.specs.Words.{says_yes}
use Rattle.rules.specs.declared.Answer.{Answer}
use Rattle.rules.specs.declared.Refusal.{Refusal}
use Rattle.rules.specs.declared.Refusal.TheVariants.{Plain as plain}
use Rattle.rules.specs.Accept.{to_bits}
use Rattle.rules.specs.Bank.{Bank}
use Rattle.descriptor.specs.declared.Named.{Named}
use Rattle.descriptor.specs.Find.{accepted_by}
use Rattle.control_set.specs.Field.{Spot, InBits, with_bits}

-- a field of an entry whose accepted values have its bits
pub record Storable (b : Bank) (s : ℕ) (f : Named) (p i : ℕ) (v : ℤ) : Type 0 where
  pub spot : Spot b s f.fields.offset p f.fields.width i
  pub bits : accepted_by f v ≡ true → InBits 8 v × (to_bits 8 v ≡ to_bits f.fields.width v) × (to_bits f.fields.width v < 2 ^ f.fields.width)

-- yes, or 12
abbrev pub stored_by : Named → ℤ → Result Answer Refusal
stored_by f v = cond (accepted_by f v) says_yes (Err (plain 12))

-- the bank with an accepted value in the field
unfoldable pub store_of : Bank → ℕ → Named → ℕ → ℕ → ℤ → Bank
store_of b s f p i v = cond (accepted_by f v) (with_bits b s f.fields.offset p f.fields.width i (to_bits f.fields.width v)) b
