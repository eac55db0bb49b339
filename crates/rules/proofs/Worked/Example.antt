-- A small module on which both machines are run by computing. It also shows that the premises of demand 3 and of notes 2, 7 and 8 can be met.
use Rattle.std.specs.Prelude.{Result, Ok, Err}
use mathlib.Core.Path.{◌≡◌, refl, sym, ◌∙◌}
use mathlib.Core.List.{List, [], ◌∷◌, map}
use mathlib.Core.Bool.{true, false}
use Prim.Native.Nat.{ℕ, ◌+◌}
use native.Mathlib.Omega.{arith}
use lib.IntN.{pos, negsuc}
use lib.ListN.{take, replicate, length-replicate}
use Rattle.rules.specs.Words.{plain, at_lane, State, accepted, Call, select, write, read, byte_write, byte_read, publish, apply, the_field, Answer, says_yes, number, placed_at, owned_by, Refusal}
use Rattle.rules.specs.Numbers.{sum, any, lowest}
use Rattle.rules.specs.Parameter.{row_of}
use Rattle.rules.specs.Descriptor.{mask_bytes, high_first, codes_of, byte_of, refuse, length_checks, content_checks, unlimited, decode_within}
use Rattle.rules.specs.Load.{start, into_ro, entry_number, pass_of, fold_by, fold_of, load_of, map_of, total, both_within, entries_within, map_within, ro_within, rw_within, rest_within, strings_within, walk_within}
use Rattle.rules.specs.Place.{entry, parts_of, width_of, signed_of, held_by, length_of, first_owner, owner_of}
use Rattle.rules.specs.Accept.{within, in_mask, takes, accepts, to_bits, from_bits}
use Rattle.rules.specs.Refuse.{check9, check8, check_entries, exists, misdirected, unaccepted, judge, at_lowest, bank_order, order_of}
use Rattle.rules.specs.Layout.{bank_size, has_bytes, set_start, app_sel_start, app_sel_at}
use Rattle.rules.specs.Bank.{Bank, get_field, put_field, number_in, with_number, field_bits, bank_lacks_app, bank_source, bank_holds_bad, bank_plan, loop, give_field, apply_bank, bank_does, bank_call, fresh_bank, fresh_call, bank_makes}
use Rattle.rules.specs.Table.{byte_from, table_lacks_app, table_source, table_holds_bad, table_plan, table_does, table_call, table_makes}
use Rattle.rules.specs.Machine.{call, run}
use Rattle.rules.specs.Address.{line_of, bytes_from, address_of}
use Rattle.rules.specs.Beside.{place_of, owner_at_call}
use Rattle.rules.specs.Demands.{Accepted, FreshAccepted, bank_run, table_run, ListAgrees}
use Rattle.rules.specs.Notes.{comes_to, AtMost16, AsBefore, Break, further}
use Rattle.rules.proofs.Lists.Lists.{lists-agree}
use Rattle.rules.proofs.Lists.Told.{told-after-fresh}
use Rattle.rules.proofs.Load.Limits.{as-before}
use Rattle.rules.proofs.Load.TakenUp.{taken-up}

-- 02h at 0 for AppSel 1 and 2; opaque 13h at 1 and 2, with a last byte that is not read as flags; 04h at 3 with codes 0 to 3
-- for AppSel 1, and a byte of surplus at 7; 0Dh at 8 for AppSel 2, index −1, Max 0, Min −30, step 0
abbrev rw_string : List ℕ
rw_string =
    0x02 ∷ 5 ∷ 3 ∷ 1 ∷ 0
    ∷ 0x13 ∷ 5 ∷ 0 ∷ 2 ∷ 1
    ∷ 0x04 ∷ 7 ∷ 1 ∷ 5 ∷ 0 ∷ 0 ∷ 0x0F
    ∷ 0x0D ∷ 9 ∷ 2 ∷ 8 ∷ 0 ∷ 0xFF ∷ 0 ∷ 0xE2 ∷ 0
    ∷ []

-- 12h at 16, index −1, step 2
abbrev ro_string : List ℕ
ro_string = 0x12 ∷ 7 ∷ 3 ∷ 8 ∷ 0 ∷ 0xFF ∷ 2 ∷ []

-- a bank of other content than 0
abbrev bank : Bank
bank = replicate (bank_size + 1) 0xA5

abbrev calls : List Call
calls =
    -- lane 3 uses application 2
    select 0 3 2
    ∷ write 0 (the_field 0 0 3) (pos 1)
    -- a code out of the mask, a field that 13h hasn't, an RO entry in a staged set, a lane that isn't there
    ∷ write 0 (the_field 2 0 3) (pos 4)
    ∷ write 0 (the_field 1 0 1) (pos 0)
    ∷ write 0 (the_field 4 0 1) (pos 0)
    ∷ select 0 9 1
    -- 04h: 3 in lane 3 and, not accepted but stored, 9 in lane 4
    ∷ byte_write 0 4 0x93
    ∷ byte_read 0 4
    -- the surplus byte is a gap
    ∷ byte_write 0 7 0xFF
    ∷ byte_read 0 7
    -- lane 4 has no AppSel, then a value that is not accepted
    ∷ apply 0 0x0C
    ∷ select 0 4 1
    ∷ apply 0 0x0C
    ∷ write 0 (the_field 2 0 4) (pos 2)
    ∷ apply 0 0x0C
    -- AppSel 2 lacks 04h, so its lane 3 stays 0
    ∷ byte_read 2 4
    ∷ read 2 (the_field 0 0 3)
    -- 0Dh: above Max, then −128, which is below Min, and −14
    ∷ write 0 (the_field 3 0 3) (pos 1)
    ∷ byte_write 0 10 0x80
    ∷ read 0 (the_field 3 0 3)
    ∷ apply 0 0x0C
    ∷ write 0 (the_field 3 0 3) (negsuc 13)
    ∷ apply 0 0x0C
    ∷ byte_read 2 10
    ∷ read 2 (the_field 3 0 3)
    ∷ publish (the_field 4 0 5) (negsuc 13)
    ∷ byte_read 2 20
    ∷ read 2 (the_field 4 0 5)
    ∷ publish (the_field 0 0 1) (pos 0)
    ∷ []

abbrev answers : List (Result Answer Refusal)
answers =
    says_yes
    ∷ says_yes
    ∷ Err (plain 12)
    ∷ Err (plain 10)
    ∷ Err (plain 11)
    ∷ Err (plain 10)
    ∷ says_yes
    ∷ number (pos 0x93)
    ∷ says_yes
    ∷ number (pos 0)
    ∷ Err (at_lane 13 4)
    ∷ says_yes
    ∷ Err (at_lane 14 4)
    ∷ says_yes
    ∷ says_yes
    ∷ number (pos 0x20)
    ∷ number (pos 1)
    ∷ Err (plain 12)
    ∷ says_yes
    ∷ number (negsuc 127)
    ∷ Err (at_lane 14 3)
    ∷ says_yes
    ∷ says_yes
    ∷ number (pos 0xF2)
    ∷ number (negsuc 13)
    ∷ says_yes
    ∷ number (pos 0xF2)
    ∷ number (negsuc 13)
    ∷ Err (plain 11)
    ∷ []

example-loads : load_of 2 rw_string ro_string ≡ accepted 4 1 16 24
unfolding row_of mask_bytes high_first codes_of byte_of refuse length_checks content_checks decode_within fold_by fold_of walk_within rest_within strings_within load_of
example-loads = refl

example-accepted : Accepted 2 rw_string ro_string
example-accepted = record { rw_count = 4; ro_count = 1; staged = 16; active = 24; loads = example-loads }

-- the bank machine, computed
pub example-bank : (bank_run 2 rw_string ro_string bank (map call calls)).0 ≡ answers
unfolding sum any lowest row_of mask_bytes high_first codes_of byte_of refuse length_checks content_checks decode_within fold_by fold_of walk_within entries_within rest_within strings_within load_of rw_within ro_within both_within total map_within parts_of width_of signed_of held_by length_of first_owner owner_of within in_mask takes accepts to_bits from_bits check9 check8 check_entries exists misdirected unaccepted judge at_lowest bank_order get_field put_field number_in with_number field_bits bank_lacks_app bank_source bank_holds_bad bank_plan loop give_field apply_bank bank_does bank_call fresh_bank fresh_call bank_makes run bank_size set_start app_sel_start app_sel_at
example-bank = refl

-- the plain table, computed
pub example-table : (table_run 2 rw_string ro_string (map call calls)).0 ≡ answers
unfolding sum any lowest row_of mask_bytes high_first codes_of byte_of refuse length_checks content_checks decode_within fold_by fold_of walk_within entries_within rest_within strings_within load_of rw_within ro_within both_within total map_within parts_of width_of signed_of held_by length_of within in_mask takes accepts to_bits from_bits check9 check_entries exists misdirected unaccepted judge at_lowest order_of byte_from table_lacks_app table_source table_holds_bad table_plan table_does table_call table_makes run has_bytes
example-table = refl

-- demand 3 of this module, bank and list: its premises are met
pub example-agrees : ListAgrees 2 rw_string ro_string bank (map call calls)
example-agrees = lists-agree 2 rw_string ro_string bank example-accepted (rw (length-replicate {A = ℕ} (bank_size + 1) 0xA5) (omega arith)) (map call calls)

-- note 2: lane 6 of 12h is at offset 21, the first byte of the active set's overflow page; with lane 5, at offset 20, the page ends
example-fresh : FreshAccepted 2 rw_string ro_string bank
unfolding load_of fresh_call bank_size bank_order check9 check8 check_entries strings_within rest_within walk_within fold_of fold_by decode_within refuse length_checks row_of mask_bytes high_first codes_of content_checks byte_of
example-fresh = record { rw_count = 4; ro_count = 1; staged = 16; active = 24; fresh = refl }

pub example-placed : place_of 2 rw_string ro_string 2 4 0 6 ≡ placed_at 21 0x19 152 0
unfolding place_of order_of check9 check_entries strings_within rest_within walk_within fold_of fold_by decode_within refuse length_checks row_of mask_bytes high_first codes_of content_checks byte_of judge exists misdirected unaccepted map_within both_within rw_within ro_within entries_within total parts_of width_of line_of bytes_from address_of
example-placed = refl

example-width : width_of (entry (map_of 2 rw_string ro_string) 4) ≡ 8
unfolding strings_within rest_within walk_within fold_of fold_by decode_within refuse length_checks row_of mask_bytes high_first codes_of content_checks byte_of map_within both_within rw_within ro_within entries_within total width_of
example-width = refl

pub example-told :
    (owner_at_call 2 rw_string ro_string 2 0x19 152 7 ≡ owned_by 4 0 6 5)
    × ((bank_call 2 rw_string ro_string (read 2 (the_field 4 0 6)) (bank_run 2 rw_string ro_string bank (map call calls)).1).0 ≡ number ((table_run 2 rw_string ro_string (map call calls)).1.numbers 2 4 0 6))
example-told =
    let (owner, reads) = (told-after-fresh 2 rw_string ro_string bank example-fresh (map call calls)).field 2 4 0 6 21 0x19 152 0 example-placed in
    (owner 7 (λ z. omega arith) (omega arith) (omega (arith, example-width)), reads)

-- walks without a limit come to 4 RW entries, and then to 1 RO entry
abbrev middle : State
middle = record { ro = false; media = false; entries = 4; before = 0; sum = 16; staged = 0 }

rw-ends : walk_within unlimited (mask_bytes 2) rw_string 0 start ≡ Ok middle
unfolding row_of mask_bytes high_first codes_of byte_of refuse length_checks content_checks decode_within fold_by fold_of walk_within
rw-ends = refl

rw-comes : comes_to (mask_bytes 2) rw_string start ≡ 4
unfolding row_of mask_bytes high_first codes_of byte_of refuse length_checks content_checks decode_within fold_by fold_of
rw-comes = refl

ro-comes : comes_to (mask_bytes 2) ro_string (into_ro middle) ≡ 1
unfolding row_of mask_bytes high_first codes_of byte_of refuse length_checks content_checks decode_within fold_by fold_of
ro-comes = refl

example-few : AtMost16 2 rw_string ro_string
example-few =
    record {
      in-rw = rw rw-comes (omega arith);
      in-ro = λ m q. let e : m ≡ middle = same m (sym q ∙ rw-ends) in rw (e, ro-comes) (omega arith);
    }
  where
    same : (m : State) → ◌≡◌ {A = Result State Refusal} (Ok m) (Ok middle) → m ≡ middle
    same m h = cc

-- note 7 of this module: its premise is met
pub example-as-before : AsBefore 2 rw_string ro_string
example-as-before = as-before 2 rw_string ro_string example-few

-- note 8 of this module: the load is broken off after its last entry, 12h, with no byte left
abbrev begun : Break
begun = record { kept = start; rw = rw_string; ro = ro_string }

pub example-further :
    further 2 5 begun
    ≡ record { kept = record { ro = true; media = false; entries = 1; before = 4; sum = 24; staged = 16 }; rw = []; ro = [] }
unfolding row_of mask_bytes high_first codes_of byte_of refuse length_checks content_checks decode_within pass_of further
example-further = refl

pub example-counts : entry_number (further 2 5 begun).kept ≡ 5
example-counts = (taken-up 2 rw_string ro_string).counts 5 (rw example-loads (omega arith))

-- its first entry has 5 bytes, and its only RO entry 7
pub example-rw-entry : pass_of 2 start (take 5 rw_string) [] ≡ pass_of 2 start rw_string ro_string
example-rw-entry = (taken-up 2 rw_string ro_string).rw-entry 5 start refl refl (omega arith, omega arith, omega arith)

pub example-ro-entry : pass_of 2 (into_ro middle) [] (take 7 ro_string) ≡ pass_of 2 (into_ro middle) rw_string ro_string
example-ro-entry = (taken-up 2 rw_string ro_string).ro-entry 7 (into_ro middle) refl refl (omega arith, omega arith, omega arith)

pub example-first-ro-entry : pass_of 2 middle [] (take 7 ro_string) ≡ pass_of 2 middle [] ro_string
example-first-ro-entry = (taken-up 2 [] ro_string).first-ro-entry 7 middle refl refl refl (omega arith, omega arith, omega arith)
