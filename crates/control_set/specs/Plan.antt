-- Apply, entry by entry: which lanes it copies, which hold a value not accepted, the plan of the bits that are copied, and the copy.
use Rattle.std.specs.Prelude.{◌≡◌, ◌⊎◌, ◌≢◌, Bool, true, false, ◌&&◌, not, cond, List, ℕ, suc, ◌+◌, ◌-◌, ◌*◌, ◌^◌, ◌≤◌, ◌<◌, length, get_or}
use Rattle.std.specs.Int.Bits.{bit_and, bit_or}
use Rattle.rules.specs.declared.Entry.{Entry}
use Rattle.rules.specs.Descriptor.{mask_bytes, entry_at}
use Rattle.rules.specs.Load.{rw_entries}
use Rattle.rules.specs.Numbers.{cut, any}
use Rattle.rules.specs.Place.{nothing, lane_bit, parts_of, width_of, signed_of}
use Rattle.rules.specs.Accept.{accepts, from_bits}
use Rattle.rules.specs.Layout.{set_start}
use Rattle.rules.specs.Bank.{Bank}
use Rattle.descriptor.specs.declared.Range.{Range}
use Rattle.descriptor.specs.declared.Mark.{Mark}
use Rattle.descriptor.specs.Rows.{classes, rows}
use Rattle.descriptor.specs.Find.{named_of, in_range as has_number}
use Rattle.descriptor.specs.Marks.{mark_after}
use Rattle.descriptor.specs.Reading.{read_by}
use Rattle.descriptor.specs.declared.Fields.{Fields}
use Rattle.control_set.specs.declared.chosen.Chosen.{Chosen}
use Rattle.control_set.specs.declared.plan.Last.{Last}
use Rattle.control_set.specs.Chosen.{copies_by, has_one_of}
use Rattle.control_set.specs.Field.{byte_in, bits_at}
use Rattle.control_set.specs.Placed.{Placed}
use Rattle.control_set.specs.Lanes.{Lanes, SpreadsAll}
use Rattle.control_set.specs.Values.{number_by}

-- where the fields of an entry end
abbrev pub end_of : Entry → ℕ
end_of e = e.offset + parts_of e * width_of e

-- n entries, by number: the fields of one end before those of the next begin
pub record Arranged (n : ℕ) (h : ℕ → Entry) : Type 0 where
  pub spread : (e : ℕ) → e < n → 0 < parts_of (h e) → Placed (h e).offset (parts_of (h e)) (width_of (h e))
  pub order : (e e' : ℕ)
      → e < e'
      → e' < n
      → end_of (h e) ≤ (h e').offset

-- the RW entries of a string, n of them, each read where the one before it ends
abbrev pub rw_entry : ℕ → List ℕ → ℕ → Entry
rw_entry count rw e = get_or (rw_entries count rw) e nothing

-- of what apply is asked
abbrev pub own_entry : Chosen → ℕ → Entry
own_entry c = rw_entry c.desc.count c.desc.rw.now

pub record Walk (count : ℕ) (rw : List ℕ) (n : ℕ) : Type 0 where
  pub arranged : Arranged n (rw_entry count rw)
  pub low : (e : ℕ) → e < n → let at : Mark = mark_after (mask_bytes count) rw 0 e in at.at ≤ 120
  pub is : (e : ℕ) → e < n → let at : Mark = mark_after (mask_bytes count) rw 0 e in entry_at (mask_bytes count) rw at.at at.sum ≡ rw_entry count rw e
  pub read : (e : ℕ)
      → e < n
      → let at : Mark = mark_after (mask_bytes count) rw 0 e in
      let next : Mark = mark_after (mask_bytes count) rw 0 (suc e) in
      read_by classes rows count rw at.at at.sum ≡ record { mask = (rw_entry count rw e).mask; named = named_of false (rw_entry count rw e); next = next }

-- 14: a field of an entry whose bits stand for a value not accepted; in one of its parts; to be copied, in one of n entries
unfoldable pub refused_at : ℕ → Entry → Bank → ℕ → ℕ → Bool
refused_at s e b p i = not (accepts e (from_bits (signed_of e) (width_of e) (bits_at b s e.offset p (width_of e) i)))

unfoldable pub refused_in : ℕ → Entry → Bank → ℕ → Bool
refused_in s e b i = any (parts_of e) λ p. refused_at s e b p i

unfoldable pub refused_among : Chosen → ℕ → (ℕ → Entry) → ℕ → Bool
refused_among c n h i = any n λ e. copies_by c (h e).mask i && refused_in c.set (h e) c.bank.now i

-- a field whose bits pass a test, in one of an entry's parts
unfoldable pub passing : ℕ → Fields → Bank → (ℕ → Bool) → ℕ → Bool
passing s f b test i = any f.parts λ p. test (bits_at b s f.offset p f.width i)

-- a signed byte in a range
abbrev pub in_range : Range → ℕ → Bool
in_range r n = has_number r (number_by true n)

-- the entry at a place has this ID and these fields
pub record Stands (count : ℕ) (s : List ℕ) (start x : ℕ) (f : Fields) : Type 0 where
  pub low : start ≤ 120
  pub id : (entry_at (mask_bytes count) s start f.offset).id ≡ x
  pub parts : parts_of (entry_at (mask_bytes count) s start f.offset) ≡ f.parts
  pub width : width_of (entry_at (mask_bytes count) s start f.offset) ≡ f.width

-- AppSels, the chosen lanes with one of them, and their bits by width
pub record Cached (c : Chosen) (last : Last) (spreads : List ℕ) : Type 0 where
  pub lanes : Lanes 9 (has_one_of c last.apps) last.lanes
  pub spread : SpreadsAll last.lanes spreads

-- all are bytes
abbrev pub AllBytes : List ℕ → Type 0
AllBytes l = (k : ℕ) → get_or l k 0 < 256

-- the plan, a byte for each of a set: n bytes from one on have some bits, the others are as they were
pub record Laid (n at bits : ℕ) (old new : List ℕ) : Type 0 where
  pub size : length new ≡ length old
  pub small : AllBytes old → AllBytes new
  pub here : (j : ℕ) → j < n → get_or new (at + j) 0 ≡ cut bits (8 * j) 8
  pub rest : (k : ℕ) → (k < at) ⊎ (at + n ≤ k) → get_or new k 0 ≡ get_or old k 0

-- n parts of an entry have the same bits, what stands before them is as it was, and behind them all is 0
pub record Parts (n offset w bits : ℕ) (old new : List ℕ) : Type 0 where
  pub size : length new ≡ length old
  pub small : AllBytes old → AllBytes new
  pub here : (p j : ℕ) → p < n → j < w → get_or new (offset + p * w + j) 0 ≡ cut bits (8 * j) 8
  pub before : (k : ℕ) → k < offset → get_or new k 0 ≡ get_or old k 0
  pub behind : (k : ℕ) → offset + n * w ≤ k → get_or new k 0 ≡ 0

-- the plan of n entries: all bits of the fields that are copied, and no others
pub record Planned (c : Chosen) (n : ℕ) (h : ℕ → Entry) (plan : List ℕ) : Type 0 where
  pub size : length plan ≡ 264
  pub small : AllBytes plan
  pub fields : (e p i : ℕ)
      → e < n
      → p < parts_of (h e)
      → 1 ≤ i
      → i ≤ 8
      → let w : ℕ = width_of (h e) in
      cut (get_or plan (byte_in (h e).offset p w i) 0) (lane_bit w i) w ≡ cond (copies_by c (h e).mask i) (2 ^ w - 1) 0
  pub rest : (k : ℕ) → ((e : ℕ) → e < n → (k < (h e).offset) ⊎ (end_of (h e) ≤ k)) → get_or plan k 0 ≡ 0

-- a byte of the active set with the bits of a mask from a byte of a staged set
abbrev pub merge_by : ℕ → ℕ → ℕ → ℕ
merge_by active staged mask = bit_or (bit_and active (255 - mask)) (bit_and staged mask)

-- so are the first k bytes of the active set after a plan; all else is as it was
pub record Merged (k s : ℕ) (plan : List ℕ) (b after : Bank) : Type 0 where
  pub size : length after ≡ length b
  pub here : (j : ℕ) → j < k → get_or after (set_start 2 + j) 0 ≡ merge_by (get_or b (set_start 2 + j) 0) (get_or b (set_start s + j) 0) (get_or plan j 0)
  pub rest : (n : ℕ) → ((j : ℕ) → j < k → n ≢ set_start 2 + j) → get_or after n 0 ≡ get_or b n 0
