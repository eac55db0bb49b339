-- What a flat answer has for each case of an answer: 01's number and values; and which call a flat call is.
use Rattle.std.specs.Prelude.{Bool, true, false, cond, pos, ℕ, ltb, eqb, Option, Some, None, Result, Ok, Err}
use Rattle.rules.specs.declared.Refusal.{Refusal}
use Rattle.rules.specs.declared.Refusal.TheVariants.{Plain as plain, AtEntry as at_entry, AtLane as at_lane}
use Rattle.rules.specs.Words.{the_field, passed_all, says_yes, number, no_more}
use Rattle.rules.specs.declared.Answer.{Answer}
use Rattle.rules.specs.declared.Call.{Call}
use Rattle.rules.specs.declared.Call.TheVariants.{Select as select, Write as write, Read as read, ByteWrite as byte_write, ByteRead as byte_read, Publish as publish, Apply as apply}
use Rattle.rules.specs.declared.Loaded.{Loaded}
use Rattle.rules.specs.declared.State.{State}
use Rattle.rules.specs.declared.Passed.{Passed}
use Rattle.rules.specs.declared.Placed.{Placed}
use Rattle.rules.specs.declared.Owned.{Owned}
use Rattle.rules.specs.declared.Field.{Field}
use Rattle.rules.specs.declared.Taken.{Taken}
use Rattle.descriptor.specs.declared.Located.{Located}
use Rattle.vcs.specs.declared.flat.Reason.{Reason}
use Rattle.vcs.specs.declared.flat.FlatLoaded.{FlatLoaded}
use Rattle.vcs.specs.declared.flat.FlatState.{FlatState}
use Rattle.vcs.specs.declared.flat.FlatPassed.{FlatPassed}
use Rattle.vcs.specs.declared.flat.FlatEntry.{FlatEntry}
use Rattle.vcs.specs.declared.flat.FlatPlaced.{FlatPlaced}
use Rattle.vcs.specs.declared.flat.FlatOwned.{FlatOwned}
use Rattle.vcs.specs.declared.flat.FlatAnswer.{FlatAnswer}
use Rattle.vcs.specs.declared.flat.FlatTaken.{FlatTaken}
use Rattle.vcs.specs.declared.flat.FlatCall.{FlatCall}

-- the number of a refusal and its extra
abbrev pub reason_of : Refusal → Reason
reason_of (plain n) = record { number = n; at = 0 }
reason_of (at_entry n e) = record { number = n; at = e }
reason_of (at_lane n i) = record { number = n; at = i }

abbrev pub flat_loaded : Result Loaded Refusal → FlatLoaded
flat_loaded (Ok l) =
    record { refusal = 0; at = 0; rw_count = l.rw_count; ro_count = l.ro_count; staged = l.staged_length; active = l.active_length }
flat_loaded (Err r) =
    record { refusal = (reason_of r).number; at = (reason_of r).at; rw_count = 0; ro_count = 0; staged = 0; active = 0 }

-- what a load keeps; a flag is any number but 0, and is given as 1
abbrev pub state_of : FlatState → State
state_of f = record { ro = ltb 0 f.string; media = ltb 0 f.media; entries = f.entries; before = f.before; sum = f.sum; staged = f.staged }

abbrev pub flag_of : Bool → ℕ
flag_of true = 1
flag_of false = 0

abbrev pub flat_state : State → FlatState
flat_state st =
    record { string = flag_of st.ro; media = flag_of st.media; entries = st.entries; before = st.before; sum = st.sum; staged = st.staged }

abbrev pub no_state : FlatState
no_state = record { string = 0; media = 0; entries = 0; before = 0; sum = 0; staged = 0 }

abbrev pub flat_passed : Result (Option Passed) Refusal → FlatPassed
flat_passed (Ok (Some e)) = record { refusal = 0; at = 0; ended = 0; length = e.length; state = flat_state e.state }
flat_passed passed_all = record { refusal = 0; at = 0; ended = 1; length = 0; state = no_state }
flat_passed (Err r) = record { refusal = (reason_of r).number; at = (reason_of r).at; ended = 0; length = 0; state = no_state }

abbrev pub flat_entry : Result Located Refusal → FlatEntry
flat_entry (Ok l) = record { refusal = 0; at = 0; string = cond l.ro 1 0; start = l.mark.at; length = l.length; offset = l.mark.sum }
flat_entry (Err r) =
    record { refusal = (reason_of r).number; at = (reason_of r).at; string = 0; start = 0; length = 0; offset = 0 }

abbrev pub flat_placed : Result Placed Refusal → FlatPlaced
flat_placed (Ok l) = record { refusal = 0; at = 0; offset = l.offset; page = l.page; byte = l.byte; bit = l.bit }
flat_placed (Err r) = record { refusal = (reason_of r).number; at = (reason_of r).at; offset = 0; page = 0; byte = 0; bit = 0 }

abbrev pub flat_field : Option Field → ℕ → FlatOwned
flat_field (Some f) n = record { refusal = 0; at = 0; gap = 0; entry = f.entry; part = f.part; lane = f.lane; looked = n }
flat_field None n = record { refusal = 0; at = 0; gap = 1; entry = 0; part = 0; lane = 0; looked = n }

abbrev pub flat_owned : Result Owned Refusal → FlatOwned
flat_owned (Ok o) = flat_field o.field o.looked
flat_owned (Err r) = record { refusal = (reason_of r).number; at = (reason_of r).at; gap = 0; entry = 0; part = 0; lane = 0; looked = 0 }

abbrev pub flat_answer : Result Answer Refusal → FlatAnswer
flat_answer says_yes = record { refusal = 0; at = 0; number = pos 0 }
flat_answer (number n) = record { refusal = 0; at = 0; number = n }
flat_answer (Err r) = record { refusal = (reason_of r).number; at = (reason_of r).at; number = pos 0 }

-- with the position after it
abbrev pub flat_taken : Result (Option Taken) Refusal → ℕ → FlatTaken
flat_taken (Ok (Some e)) p = record { refusal = 0; end = 0; start = e.start; length = e.length; position = p }
flat_taken no_more p = record { refusal = 0; end = 1; start = 0; length = 0; position = p }
flat_taken (Err r) p = record { refusal = (reason_of r).number; end = 0; start = 0; length = 0; position = p }

-- A call by its kind. A kind that doesn't exist is a set that doesn't exist: 10, after 9, 8 and the checks of the entries.
unfoldable pub call_of : FlatCall → Call
call_of c =
    cond (eqb c.kind 0) (select c.set c.lane c.app)
    (cond (eqb c.kind 1) (write c.set (the_field c.entry c.part c.lane) c.value)
    (cond (eqb c.kind 2) (read c.set (the_field c.entry c.part c.lane))
    (cond (eqb c.kind 3) (byte_write c.set c.offset c.byte)
    (cond (eqb c.kind 4) (byte_read c.set c.offset)
    (cond (eqb c.kind 5) (publish (the_field c.entry c.part c.lane) c.value)
    (cond (eqb c.kind 6) (apply c.set c.lanes)
    (apply 3 0)))))))
