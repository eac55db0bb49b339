-- A state that is given to C and taken back is the same state, and all 0 is the beginning of a load: so what the rules say of a load broken off
-- holds for who calls `vcs_pass` and `vcs_resume`.
use mathlib.Core.Path.{◌≡◌, refl}
use mathlib.Core.Bool.{Bool, true, false}
use lib.Dec.{ltb}
use Rattle.rules.specs.declared.State.{State}
use Rattle.rules.specs.Load.{start}
use Rattle.vcs.specs.Flat.{state_of, flag_of, flat_state, no_state}

flag-back : (b : Bool) → ltb 0 (flag_of b) ≡ b
flag-back true = refl
flag-back false = refl

pub state-back : (st : State) → state_of (flat_state st) ≡ st
state-back st = rw (flag-back st.ro, flag-back st.media) refl

pub state-begins : state_of no_state ≡ start
state-begins = refl
