-- The checks 9, 8 and those of the entries, of a call on a bank of a size: refused whatever follows, or past them with the load's numbers.
use Rattle.std.specs.Prelude.{◌≡◌, Bool, true, false, ◌&&◌, cond, List, ℕ, ◌%◌, ◌≤◌, ◌<◌, ltb, Result, Ok, Err}
use Rattle.rules.specs.Words.{accepted}
use Rattle.rules.specs.declared.Refusal.{Refusal}
use Rattle.rules.specs.declared.Loaded.{Loaded}
use Rattle.rules.specs.declared.Refusal.TheVariants.{Plain as plain}
use Rattle.rules.specs.Load.{sized, load_of, map_of, read_of}
use Rattle.rules.specs.Place.{is_set, has_field, length_of}
use Rattle.rules.specs.Layout.{bank_size}
use Rattle.rules.specs.Refuse.{Verdict, refuses, first_of, bank_order}
use Rattle.rules.specs.Bank.{field_bits}
use Rattle.rules.specs.Demands.{Accepted}
use Rattle.descriptor.specs.declared.Named.{Named}
use Rattle.descriptor.specs.Find.{InMap}

-- 9 and 8 are passed, or refused whatever follows
abbrev pub SizeChecked : ℕ → List ℕ → List ℕ → ℕ → Result Unit Refusal → Type 0
SizeChecked count rw ro size (Ok u) = (sized count rw ro ≡ true) × (bank_size ≤ size)
SizeChecked count rw ro size (Err r) = (rest : List Verdict) → bank_order (read_of count rw ro) size rest ≡ refuses r

-- past the gate
pub record Opened (count : ℕ) (rw ro : List ℕ) (size n k c t : ℕ) : Type 0 where
  pub size-is : bank_size ≤ size
  pub loads : load_of count rw ro ≡ accepted n k c t

abbrev pub Gated : ℕ → List ℕ → List ℕ → ℕ → Result Loaded Refusal → Type 0
Gated count rw ro size (Ok l) = Opened count rw ro size l.rw_count l.ro_count l.staged_length l.active_length
Gated count rw ro size (Err r) = (rest : List Verdict) → bank_order (read_of count rw ro) size rest ≡ refuses r

-- past 9, 8 and the checks of the entries with a field of the map
pub record Entered (count : ℕ) (rw ro : List ℕ) (size e p i : ℕ) (f : Named) : Type 0 where
  pub size-is : bank_size ≤ size
  pub named : InMap count rw ro e p i f

-- refused, where what follows gives 10 to a field that doesn't exist
abbrev pub FieldGated : ℕ → List ℕ → List ℕ → ℕ → ℕ → ℕ → ℕ → Result Named Refusal → Type 0
FieldGated count rw ro size e p i (Ok f) = Entered count rw ro size e p i f
FieldGated count rw ro size e p i (Err r) =
    (rest : List Verdict) → (has_field (map_of count rw ro) e p i ≡ false → first_of rest ≡ refuses (plain 10)) → bank_order (read_of count rw ro) size rest ≡ refuses r

-- past the gate with a byte of a set, and whether it has fields: the bits of fields are then the whole byte, else 0
pub record Reached (count : ℕ) (rw ro : List ℕ) (size s k : ℕ) (fields : Bool) : Type 0 where
  pub size-is : bank_size ≤ size
  pub ok : Accepted count rw ro
  pub is_set : s < 3
  pub low : k < length_of (map_of count rw ro) s
  pub top : k < 256
  pub bits : (x : ℕ) → field_bits (map_of count rw ro) s k x ≡ cond fields (x % 256) 0

-- refused, where what follows gives 10 to a set or an offset that doesn't exist
abbrev pub ByteGated : ℕ → List ℕ → List ℕ → ℕ → ℕ → ℕ → Result Bool Refusal → Type 0
ByteGated count rw ro size s k (Ok fields) = Reached count rw ro size s k fields
ByteGated count rw ro size s k (Err r) =
    (rest : List Verdict) → ((is_set s && ltb k (length_of (map_of count rw ro) s)) ≡ false → first_of rest ≡ refuses (plain 10)) → bank_order (read_of count rw ro) size rest ≡ refuses r
