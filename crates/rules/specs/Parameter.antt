-- "What a module advertises": the table of IDs. Every rule about an ID is read from this table.
use Rattle.std.specs.Prelude.{Bool, true, false, List, [], ◌∷◌, ℕ, ℤ, pos, negsuc, get_or}

-- the strings that an ID may stand in: "00h and 13h to FFh may stand in either string, 01h to 10h only in RW, 11h and 12h only in RO"
pub data Side : Type 0 where
  RW RO both : Side

-- "then the extras named in the table". An index and an EqualizerTarget may be anything
pub data Extra : Type 0 where
  index target code_mask min max step : Extra

-- from one number to another, both included
pub record Range : Type 0 where
  pub low : ℤ
  pub high : ℤ

infix 70 ◌to◌
abbrev pub ◌to◌ : ℕ → ℕ → Range
a to b = record { low = pos a; high = pos b }

-- U8, and S8: −128 to 127 ("−128 holds")
abbrev pub u8 : Range
u8 = 0 to 255

abbrev pub s8 : Range
s8 = record { low = negsuc 127; high = pos 127 }

-- the column of accepted values: some numbers, those of them that are in the entry's code mask, or those from its Min to its Max
pub data Values : Type 0 where
  numbers if_in_mask : List Range → Values
  min_to_max : Values

-- `least` is without A, the bytes of an application mask. `flags`: whether PropertyFlags are read. `steps`: the first and the last
-- step code that is not reserved. `signed`: "A field of 11h or 12h holds a two's complement number"; 02, note 1: "A field with a
-- signed range holds a two's complement number, as 11h does."
pub record Row : Type 0 where
  pub side : Side
  pub parts : ℕ
  pub width : ℕ
  pub needed : ℕ
  pub least : ℕ
  pub flags : Bool
  pub extras : List Extra
  pub steps : ℕ × ℕ
  pub signed : Bool
  pub values : Values

-- an ID without a step byte: its step is 0
abbrev pub no_steps : ℕ × ℕ
no_steps = (0, 0)

-- an ID of the table
abbrev pub row : Side → ℕ → ℕ → ℕ → ℕ → List Extra → ℕ × ℕ → Bool → Values → Row
row s p w n l x t g v =
    record { side = s; parts = p; width = w; needed = n; least = l; flags = true; extras = x; steps = t; signed = g; values = v }

-- an ID that takes space and has no fields: "least Length 3 + A and need 0 bytes, and their flags are not read"
abbrev pub space : Side → Row
space s =
    record { side = s; parts = 0; width = 0; needed = 0; least = 3; flags = false; extras = []; steps = no_steps; signed = false; values = numbers [] }

-- by ID, from 00h on, with the section of OIF-CMIS-VCS-01.1 that defines it: side, parts, bits a lane, bytes needed, least
-- Length (+ A), extras, step codes, signed, accepted values. 02, note 1: 09h to 0Eh "join the table of document 01", read "as
-- sections 5.11 to 5.16 of source document 002 give their attributes, widths and ranges"
abbrev pub rows : List Row
rows =
    -- 00h reserves space (5.2); 01h is opaque (5.3)
    space both
    ∷ space RW
    -- 02h AdaptiveInputEqEnableTx (5.4)
    ∷ row RW 1 1 1 4 [] no_steps false (numbers (0 to 1 ∷ []))
    -- 03h AdaptiveInputEqRecallTx (5.5)
    ∷ row RW 1 2 2 4 [] no_steps false (numbers (0 to 2 ∷ []))
    -- 04h HostControlledInputEqTargetTx (5.6)
    ∷ row RW 1 4 4 6 (code_mask ∷ []) no_steps false (if_in_mask (0 to 15 ∷ []))
    -- 05h CDREnableTx (5.7), 06h CDREnableRx (5.8)
    ∷ row RW 1 1 1 4 [] no_steps false (numbers (0 to 1 ∷ []))
    ∷ row RW 1 1 1 4 [] no_steps false (numbers (0 to 1 ∷ []))
    -- 07h OutputEqPrePostCursorTargetRx (5.9); part 0 is pre-cursor, part 1 post-cursor
    ∷ row RW 2 4 8 7 (index ∷ code_mask ∷ []) no_steps false (if_in_mask (0 to 7 ∷ 11 to 15 ∷ []))
    -- 08h OutputAmplitudeTargetRx (5.10)
    ∷ row RW 1 4 4 6 (code_mask ∷ []) no_steps false (if_in_mask (0 to 3 ∷ 15 to 15 ∷ []))
    -- 09h HostControlledInputEqTargetNumericTx (5.11; Tables 5-24, 5-25)
    ∷ row RW 1 8 8 8 (target ∷ min ∷ max ∷ step ∷ []) (1, 4) true min_to_max
    -- 0Ah OutputEqTargetNumericRx (5.12; Tables 5-26, 5-27)
    ∷ row RW 1 8 8 8 (target ∷ min ∷ max ∷ step ∷ []) (1, 4) true min_to_max
    -- 0Bh OutputPrecodingEnableRx (5.13; Tables 5-28, 5-29)
    ∷ row RW 1 1 1 4 [] no_steps false (numbers (0 to 1 ∷ []))
    -- 0Ch InputPrecodingEnableTx (5.14; Tables 5-30, 5-31)
    ∷ row RW 1 1 1 4 [] no_steps false (numbers (0 to 1 ∷ []))
    -- 0Dh OutputEqPrePostCursorCoeffRx (5.15; Tables 5-33, 5-34): Max stands before Min
    ∷ row RW 1 8 8 8 (index ∷ max ∷ min ∷ step ∷ []) (0, 3) true min_to_max
    -- 0Eh OutputAmplitudeSettingRx (5.16; Tables 5-35 to 5-37)
    ∷ row RW 1 4 4 6 (code_mask ∷ []) no_steps false (if_in_mask (0 to 15 ∷ []))
    -- 0Fh HostChannelLossRx (5.17), 10h HostChannelLossTx (5.18)
    ∷ row RW 1 8 8 4 [] no_steps false (numbers (u8 ∷ []))
    ∷ row RW 1 8 8 4 [] no_steps false (numbers (u8 ∷ []))
    -- 11h NonLinearCompensationTx (5.19); part 0 is upper eye, part 1 lower eye
    ∷ row RO 2 8 16 4 [] no_steps true (numbers (s8 ∷ []))
    -- 12h InputEqPrePostCursorCoeffTx (5.20)
    ∷ row RO 1 8 8 6 (index ∷ step ∷ []) (0, 3) true (numbers (s8 ∷ []))
    ∷ []

-- 13h to FFh are opaque, in either string
unfoldable pub row_of : ℕ → Row
row_of id = get_or rows id (space both)
