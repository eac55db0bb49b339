-- The first check that refuses, and the first rule that applies: where each check says what its rule says, so does the first of them.
use mathlib.Core.Path.{◌≡◌, refl}
use mathlib.Core.Logic.Iff
use mathlib.Core.Logic.{inl, inr, ⊎_elim, ◌↔◌}
use mathlib.Core.Bool.{Bool, true, false, not}
use mathlib.Core.List.{List, [], ◌∷◌, ◌++◌}
use Prim.Native.Nat.{ℕ}
use native.Mathlib.Omega.{arith}
use lib.Dec.{T}
use Rattle.rules.specs.Words.{Refusal}
use Rattle.rules.specs.Refuse.{Verdict, passes, refuses, refuse_if, first_of}
use Rattle.rules.specs.Conditions.{Rule, gives, First}
use Rattle.rules.proofs.Basics.Facts.{not-says}

-- a rule that gives something is the first; one that gives nothing is passed
module _ {A : Type 0} (rule : Rule A) (rules : List (Rule A)) where
  pub first-here : (r : A) → rule r → (x : A) → rule x ↔ First (rule ∷ rules) x
  first-here r h x = (inl, ⊎_elim (λ y. y) (λ y. absurd (y.0 r h)))

  pub first-past : ((y : A) → ¬ (rule y)) → (x : A) → First rules x ↔ First (rule ∷ rules) x
  first-past n x = (λ h. inr (n, h), ⊎_elim (λ y. absurd (n x y)) (λ y. y.1))

-- a verdict gives the refusals that a rule gives
abbrev pub Says : Verdict → Rule Refusal → Type 0
Says v rule = (x : Refusal) → (v ≡ refuses x) ↔ rule x

pub data AllSay : List Verdict → List (Rule Refusal) → Type 1 where
  none : AllSay [] []
  also :
      {v : Verdict} {rule : Rule Refusal} {l : List Verdict} {rules : List (Rule Refusal)}
      → Says v rule
      → AllSay l rules
      → AllSay (v ∷ l) (rule ∷ rules)

pub all-append :
    {l l' : List Verdict} {rules rules' : List (Rule Refusal)} → AllSay l rules → AllSay l' rules' → AllSay (l ++ l') (rules ++ rules')
all-append none r = r
all-append (also h t) r = also h (all-append t r)

never : (x : Refusal) → ¬ (passes ≡ refuses x)
never x h = let o : ◌≡◌ {A = ℕ} 0 1 = cc in omega arith

pub first-says : {l : List Verdict} {rules : List (Rule Refusal)} → AllSay l rules → Says (first_of l) (First rules)
first-says none = λ x. (never x, λ h. absurd h)
first-says (also {v} {rule} {l} {rules} h t) = go v h (first-says t)
  where
    go : (w : Verdict) → Says w rule → Says (first_of l) (First rules) → Says (first_of (w ∷ l)) (First (rule ∷ rules))
    go passes s r x = Iff.trans (r x) (first-past rule rules (λ y z. never y ((s y).1 z)) x)
    go (refuses y) s r x = Iff.trans (s x) (first-here rule rules y ((s y).0 refl) x)

pub refuse-says : {C : Type 0} (t : Bool) (r : Refusal) → T t ↔ C → Says (refuse_if t r) (gives r C)
refuse-says true r h x = (λ q. let e : x ≡ r = cc in (e, h.0 tt), λ q. let e : x ≡ r = q.0 in rw e refl)
refuse-says false r h x = (λ q. absurd (never x q), λ q. absurd (h.1 q.1))

pub refuse-not-says : {C : Type 0} (t : Bool) (r : Refusal) → T t ↔ C → Says (refuse_if (not t) r) (gives r (¬ C))
refuse-not-says t r h = refuse-says (not t) r (not-says t h)
