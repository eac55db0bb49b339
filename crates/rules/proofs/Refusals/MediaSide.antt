-- The state of a walk says whether a media-side table entry has been passed.
use Rattle.std.specs.Prelude.{Ok}
use mathlib.Core.Path.{◌≡◌}
use mathlib.Core.Logic.Iff
use mathlib.Core.Logic.{◌⊎◌, inl, inr, ⊎_elim, ◌↔◌}
use mathlib.Core.Bool.{Bool, true, ◌||◌}
use mathlib.Core.List.{List}
use Prim.Native.Nat.{ℕ}
use lib.Dec.{T}
use Rattle.rules.specs.Words.{Entry, State}
use Rattle.rules.specs.Descriptor.{decode_at}
use Rattle.rules.specs.Load.{start}
use Rattle.rules.specs.Conditions.{MediaSide, Way, here, past, PastMedia}
use Rattle.rules.proofs.Basics.Tests.{or-left, or-right, or-cases}
use Rattle.rules.proofs.Basics.Facts.{true-says}
use Rattle.rules.proofs.Load.Checks.{decode-passed}
use Rattle.rules.proofs.Refusals.EntryRules.{media-says}

or-first : {A B : Type 0} (x y : Bool) → T y ↔ A → (T (x || y) ⊎ B) ↔ (T x ⊎ (A ⊎ B))
or-first x y h = (
  ⊎_elim (λ t. ⊎_elim inl (λ u. inr (inl (h.0 u))) (or-cases x y t)) (λ b. inr (inr b)),
  ⊎_elim (λ t. inl (or-left x y t)) (⊎_elim (λ u. inl (or-right x y (h.1 u))) inr),
)

module _ (a : ℕ) (s : List ℕ) where
  decode-media : (at : ℕ) (st : State) (e : Entry) → decode_at a s at st ≡ Ok e → T e.media ↔ MediaSide a s at
  decode-media at st e d = rw (decode-passed a s at st e d).entry (media-says a s at st)

  -- it said so at the beginning of the way, or one is passed on the way
  way-says : {to : ℕ} {end : State} {from : ℕ} {begin : State} (w : Way a s to end from begin) → T end.media ↔ (T begin.media ⊎ PastMedia w)
  way-says here = (inl, ⊎_elim (λ h. h) (λ h. absurd h))
  way-says (past {at} {st} e l d w) = Iff.trans (way-says w) (or-first st.media e.media (decode-media at st e d))

pub way-media : (a : ℕ) (s : List ℕ) (at : ℕ) (st : State) (w : Way a s at st 0 start) → (st.media ≡ true) ↔ PastMedia w
way-media a s at st w =
    Iff.trans (Iff.symm (true-says st.media)) (Iff.trans (way-says a s w) (⊎_elim (λ h. absurd h) (λ h. h), inr))
