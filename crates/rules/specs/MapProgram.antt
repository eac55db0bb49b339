-- "The map program": what it prints, as a list of bytes, for what it reads.
use Rattle.std.specs.Prelude.{Bool, cond, List, [], ◌∷◌, ◌++◌, ℕ, zero, suc, ◌+◌, ◌/◌, ◌%◌, length, take, drop, ltb, eqb, Result, Err, Ok}
use Rattle.rules.specs.Words.{Refusal, plain, number_of, Entry, Loaded}
use Rattle.rules.specs.Descriptor.{byte_at}
use Rattle.rules.specs.Load.{Reading, load_on, read_of}

-- "It reads standard input: count, RW size, RW bytes, RO size, RO bytes, and no more; a size is one byte."
abbrev pub rw_size : List ℕ → ℕ
rw_size input = byte_at input 1

abbrev pub ro_size : List ℕ → ℕ
ro_size input = byte_at input (2 + rw_size input)

abbrev pub rw_bytes : List ℕ → List ℕ
rw_bytes input = take (rw_size input) (drop 2 input)

abbrev pub ro_bytes : List ℕ → List ℕ
ro_bytes input = drop (3 + rw_size input) input

-- neither short nor long
abbrev pub is_whole : List ℕ → Bool
is_whole input = eqb (length input) (3 + rw_size input + ro_size input)

-- "all in decimal": the digits of a number, of which there are fewer than its fuel
unfoldable pub digits : ℕ → ℕ → List ℕ
digits zero n = []
digits (suc fuel) n =
    let more : List ℕ = digits fuel (n / 10) ++ ((48 + n % 10) ∷ []) in
    cond (ltb n 10) ((48 + n) ∷ []) more

unfoldable pub decimal : ℕ → List ℕ
decimal n = digits (suc n) n

-- a line of numbers with a space between any two
unfoldable pub line : List ℕ → List ℕ
line [] = 10 ∷ []
line (n ∷ l) = 32 ∷ (decimal n ++ line l)

-- "entry id offset length"
abbrev pub heading : List ℕ
heading = 101 ∷ 110 ∷ 116 ∷ 114 ∷ 121 ∷ 32 ∷ 105 ∷ 100 ∷ 32 ∷ 111 ∷ 102 ∷ 102 ∷ 115 ∷ 101 ∷ 116 ∷ 32 ∷ 108 ∷ 101 ∷ 110 ∷ 103 ∷ 116 ∷ 104 ∷ 10 ∷ []

-- "entry number, ID, offset, MemoryLength", from entry number n on
unfoldable pub entry_lines : ℕ → List Entry → List ℕ
entry_lines n [] = []
entry_lines n (e ∷ l) = decimal n ++ (line (e.id ∷ e.offset ∷ e.memory ∷ []) ++ entry_lines (suc n) l)

-- "end", "then staged and active length"
unfoldable pub end_line : ℕ → ℕ → List ℕ
end_line staged active = 101 ∷ 110 ∷ 100 ∷ line (staged ∷ active ∷ [])

-- "refused" and the number; "That is then the only line."
unfoldable pub refused_line : Refusal → List ℕ
refused_line r = 114 ∷ 101 ∷ 102 ∷ 117 ∷ 115 ∷ 101 ∷ 100 ∷ line (number_of r ∷ [])

abbrev pub map_text : Result Loaded Refusal → List Entry → List ℕ
map_text (Ok l) entries = heading ++ (entry_lines 0 entries ++ end_line l.staged_length l.active_length)
map_text (Err r) entries = refused_line r

-- "Input that is short or long prints `refused 9`; another refusal prints its number so."
abbrev pub output_on : Reading → List ℕ → List ℕ
output_on r input = cond (is_whole input) (map_text (load_on r) r.map.entries) (refused_line (plain 9))

unfoldable pub map_output : List ℕ → List ℕ
map_output input = output_on (read_of (byte_at input 0) (rw_bytes input) (ro_bytes input)) input
