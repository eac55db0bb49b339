-- The map program's text as it is written: what a writer adds to it, and what it needs of an entry that it prints.
use Rattle.std.specs.Prelude.{◌≡◌, List, [], ◌∷◌, ◌++◌, ℕ, ◌+◌, ◌*◌, ◌≤◌, ◌<◌, length, drop, Ok}
use Rattle.std.proofs.lemmas.List.Edits.{sets}
use Rattle.rules.specs.Descriptor.{entry_limit}
use Rattle.rules.specs.declared.Entry.{Entry}
use Rattle.rules.specs.declared.State.{State}
use Rattle.rules.specs.Load.{entry_number, walk_of, entries_from}
use Rattle.rules.specs.MapProgram.{decimal, line, entry_lines}
use Rattle.descriptor.specs.declared.text.Text.{Text}

-- bytes are added to a text, at most so many: they are stored behind it in the same buffer
pub record Adds (most : ℕ) (bytes : List ℕ) (before after : Text) : Type 0 where
  pub same : after.out.ghost_name ≡ before.out.ghost_name
  pub size : after.length ≡ before.length + length bytes
  pub room : length bytes ≤ most
  pub stored : after.out.now ≡ sets before.out.now before.length bytes

-- a text is the beginning of the buffer, the rest is as it was
pub record Printed (text before : List ℕ) (r : ℕ) (after : List ℕ) : Type 0 where
  pub size : r ≡ length text
  pub room : r ≤ 1024
  pub bytes : after ≡ text ++ drop (length text) before

-- "entry number, ID, offset, MemoryLength" of one entry
abbrev pub entry_line : ℕ → Entry → List ℕ
entry_line n e = decimal n ++ line (e.id ∷ e.offset ∷ e.memory ∷ [])

-- an entry whose line can be printed
pub record Printable (a : ℕ) (s : List ℕ) (at : ℕ) (st : State) : Type 0 where
  pub inside : at + 2 + a < length s
  pub number : entry_number st < 2 * entry_limit
  pub sum : st.sum < 1000

-- the lines of a string are added, each of at most 16 bytes for an entry of at least 4; the state is that of the string's end
pub record Listing (a : ℕ) (s : List ℕ) (begin : State) (before after : Text) (end : State) : Type 0 where
  pub adds : Adds (4 * length s) (entry_lines (entry_number begin) (entries_from a s 0 begin)) before after
  pub ends : (e : State) → walk_of a s 0 begin ≡ Ok e → end ≡ e
