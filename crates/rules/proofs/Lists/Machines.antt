-- The laws of `run`: how a list of calls goes on, and how two machines are compared on every list.
use Rattle.std.specs.Prelude.{Result}
use mathlib.Core.Path.{◌≡◌, refl, ap₂}
use mathlib.Core.List.{List, [], ◌∷◌}
use Rattle.rules.specs.Words.{Answer, Refusal}
use Rattle.rules.specs.Machine.{run}

-- the first call is made on the state given, the others on the state that it left
pub run-next :
    {C S : Type 0} (makes : C → S → Result Answer Refusal × S) (c : C) (cs : List C) (s : S)
    → run makes (c ∷ cs) s ≡ ((makes c s).0 ∷ (run makes cs (makes c s).1).0, (run makes cs (makes c s).1).1)
unfolding run
run-next makes c cs s = refl

-- the results of two machines, of a call or of a list: equal answers, and states in a relation
pub record Alike {A S S' : Type 0} (R : S → S' → Type 0) (x : A × S) (y : A × S') : Type 0 where
  pub answer : x.0 ≡ y.0
  pub after : R x.1 y.1

-- a relation that every call keeps, with equal answers, is kept by every list, with equal lists of answers
module _
    {C S S' : Type 0} (makes : C → S → Result Answer Refusal × S) (makes' : C → S' → Result Answer Refusal × S') (R : S → S' → Type 0)
    (each : (c : C) (s : S) (s' : S') → R s s' → Alike R (makes c s) (makes' c s')) where
  pub run-alike : (cs : List C) (s : S) (s' : S') → R s s' → Alike R (run makes cs s) (run makes' cs s')
  unfolding run
  run-alike [] s s' r = record { answer = refl; after = r }
  run-alike (c ∷ cs) s s' r =
      let one : Alike R (makes c s) (makes' c s') = each c s s' r in
      let rest : Alike R (run makes cs (makes c s).1) (run makes' cs (makes' c s').1) = run-alike cs (makes c s).1 (makes' c s').1 one.after in
      record { answer = ap₂ ◌∷◌ one.answer rest.answer; after = rest.after }
