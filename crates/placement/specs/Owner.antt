-- A bit's owner, from the entry that covers its byte.
use Rattle.std.specs.Prelude.{Bool, ◌&&◌, not, cond, ℕ, ◌+◌, ◌-◌, ◌*◌, ◌/◌, ◌%◌, ◌≤◌, ◌<◌, ltb, Option, Some, None, Result, Ok, Err}
use Rattle.rules.specs.declared.Refusal.TheVariants.{Plain as plain}
use Rattle.rules.specs.declared.Owned.{Owned}
use Rattle.rules.specs.Words.{owned_by, no_owner}
use Rattle.rules.specs.declared.Refusal.{Refusal}
use Rattle.rules.specs.Place.{is_set, is_staged}
use Rattle.descriptor.specs.declared.Covered.{Covered}

-- The field that has a bit of an entry's space, from the entry's parts and width and the byte counted from its offset. "Part p starts at offset
-- + p × W": the bits of a part in a row, W to a lane; "surplus MemoryLength" is a gap. With the number of entries looked at
unfoldable pub field_in : ℕ → ℕ → ℕ → ℕ → ℕ → ℕ → Result Owned Refusal
field_in n parts width c byte bit = cond (ltb byte (parts * width)) (owned_by n (byte / width) ((byte % width * 8 + bit) / width + 1) c) (no_owner c)

-- a set that has the entry's space, and a bit: an RO entry's space lies past the staged sets
abbrev pub has_space : ℕ → Bool → ℕ → Bool
has_space s ro q = is_set s && (not (is_staged s && ro) && ltb q 8)

abbrev pub owned_from : Result (Option Covered) Refusal → ℕ → ℕ → ℕ → Result Owned Refusal
owned_from (Ok (Some c)) s k q = cond (has_space s c.ro q) (field_in c.number c.fields.parts c.fields.width c.looked (k - c.fields.offset) q) (Err (plain 10))
owned_from (Ok None) s k q = Err (plain 10)
owned_from (Err r) s k q = Err r

-- the entry's numbers are small, and its space has byte k
abbrev pub Near : Result (Option Covered) Refusal → ℕ → Type 0
Near (Ok (Some c)) k = (c.fields.parts < 16) × (c.fields.width < 16) × (c.fields.offset ≤ k) × (k - c.fields.offset ≤ 256)
Near (Ok None) k = Unit {0}
Near (Err r) k = Unit {0}
