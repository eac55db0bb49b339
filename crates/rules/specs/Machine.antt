-- A machine and its lists of calls. The bank and the plain table are such machines; what each makes of a call is in its own file.
use Rattle.std.specs.Prelude.{List, [], ◌∷◌, Result}
use Rattle.rules.specs.Words.{Call, Answer, Refusal}

-- what a list of demand 3 holds: the seven calls
pub data Command : Type 0 where
  call : Call → Command

-- a list of calls, each on the state that the one before left: the answers, and the state at the end
unfoldable pub run : {C S : Type 0} → (C → S → Result Answer Refusal × S) → List C → S → List (Result Answer Refusal) × S
run makes [] s = ([], s)
run {C} {S} makes (c ∷ cs) s =
    let r : Result Answer Refusal × S = makes c s in
    let rs : List (Result Answer Refusal) × S = run makes cs r.1 in
    (r.0 ∷ rs.0, rs.1)
