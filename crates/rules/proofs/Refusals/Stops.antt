-- What a walk of a string comes to, by the ways of 01: it stops at the first entry that fails, or ends where no byte is left.
use Rattle.std.specs.Prelude.{Result, Ok, Err}
use mathlib.Core.Path.{◌≡◌, refl, sym, ◌∙◌}
use mathlib.Core.Logic.{inl, inr, ◌↔◌}
use mathlib.Core.Bool.{Bool, true, false, cond}
use mathlib.Core.List.{List}
use Prim.Native.Nat.{ℕ, zero, suc, ◌+◌, ◌≤◌, ◌<◌}
use native.Mathlib.Omega.{arith}
use lib.ListN.{length}
use lib.Dec.{ltb}
use borrow.Author.Tests.{ltb-true, ltb-false}
use Rattle.rules.specs.Words.{Refusal, Entry, State}
use Rattle.rules.specs.Descriptor.{mask_bytes, decode_at, limited}
use Rattle.rules.specs.Load.{start, next, into_ro, fold_by, fold_of, onward, walk_of, strings_of, walk_within}
use Rattle.rules.specs.Conditions.{Way, here, past, Stops, Ends, strings_rule}
use Rattle.rules.proofs.Load.Checks.{decode-passed}
use Rattle.rules.proofs.Load.Folds.{Folded, begin, done, out, turn}
use Rattle.rules.proofs.Load.Loads.{strings-rw-refused, strings-ro-refused, strings-accepted}

module _ (a : ℕ) (s : List ℕ) where
  -- what a walk from a place and a state comes to
  abbrev Comes : ℕ → State → Result State Refusal → Type 0
  Comes at st (Ok e) = Ends a s at st e
  Comes at st (Err x) = Stops a s at st x

  -- a way that begins one entry earlier
  earlier :
      (at : ℕ) (st : State) (e : Entry)
      → at < length s
      → decode_at a s at st ≡ Ok e
      → (w : Result State Refusal)
      → Comes (at + e.length) (next st e) w
      → Comes at st w
  earlier at st e l d (Ok end) h = record { at = h.at; way = past e l d h.way; none = h.none }
  earlier at st e l d (Err x) h =
      record { at = h.at; st = h.st; way = past e l d h.way; left = h.left; number = h.number; fails = h.fails; says = h.says }

  by-fuel : (f at : ℕ) (st : State) → length s ≤ at + f → Comes at st (fold_by limited onward Ok a f s at st)
  unfolding fold_by
  by-fuel zero at st g = record { at = at; way = here; none = omega arith }
  by-fuel (suc f) at st g = go (ltb at (length s)) refl (decode_at a s at st) refl (λ e. by-fuel f (at + e.length) (next st e))
    where
      rest : Entry → Result State Refusal
      rest e = fold_by limited onward Ok a f s (at + e.length) (next st e)

      go : (b : Bool) → ltb at (length s) ≡ b → (d : Result Entry ℕ) → decode_at a s at st ≡ d
          → ((e : Entry) → length s ≤ at + e.length + f → Comes (at + e.length) (next st e) (rest e)) → Comes at st (cond b (onward d st rest) (Ok st))
      go false q d p ih = record { at = at; way = here; none = ltb-false _ _ q }
      go true q (Err n) p ih = record { at = at; st = st; way = here; left = ltb-true _ _ q; number = n; fails = p; says = refl }
      go true q (Ok e) p ih =
          earlier at st e (ltb-true _ _ q) p (rest e) (ih e (omega (arith, (decode-passed a s at st e p).long)))

  -- the walk goes the way
  along :
      {at₀ : ℕ} {st₀ : State} {to : ℕ} {end : State} {at : ℕ} {st : State}
      → Folded onward Ok a s at₀ st₀ at st
      → Way a s to end at st
      → Folded onward Ok a s at₀ st₀ to end
  along r here = r
  along r (past e l d w) = along (turn r l e d (λ k. refl)) w

  pub walk-stops : (at : ℕ) (st : State) (x : Refusal) → (walk_of a s at st ≡ Err x) ↔ Stops a s at st x
  unfolding walk_within fold_of
  walk-stops at st x = (λ q. rw q at (by-fuel (length s) at st (omega arith)), back)
    where
      back : Stops a s at st x → walk_of a s at st ≡ Err x
      back h = rw h.says (sym (out (along (begin onward Ok a s at st) h.way) h.left _ (λ k. rw h.fails refl)))

  pub walk-ends : (at : ℕ) (st e : State) → (walk_of a s at st ≡ Ok e) ↔ Ends a s at st e
  unfolding walk_within fold_of
  walk-ends at st e =
      (λ q. rw q at (by-fuel (length s) at st (omega arith)), λ h. sym (done (along (begin onward Ok a s at st) h.way) h.none))

  -- a walk taken up again where a way ends gives what it gives from the way's beginning
  way-on :
      {to : ℕ} {end : State} {to' : ℕ} {end' : State} {at : ℕ} {st : State}
      → Way a s to end at st
      → Way a s to' end' to end
      → Way a s to' end' at st
  way-on here v = v
  way-on (past e l d w) v = past e l d (way-on w v)

  pub walk-on : (to : ℕ) (end : State) (at : ℕ) (st : State) → Way a s to end at st → walk_of a s at st ≡ walk_of a s to end
  walk-on to end at st w = go (walk_of a s to end) refl
    where
      go : (x : Result State Refusal) → walk_of a s to end ≡ x → walk_of a s at st ≡ x
      go (Ok e) q =
          let r = (walk-ends to end e).0 q in
          (walk-ends at st e).1 (record { at = r.at; way = way-on w r.way; none = r.none })
      go (Err x) q =
          let r = (walk-stops to end x).0 q in
          (walk-stops at st x).1
          (record { at = r.at; st = r.st; way = way-on w r.way; left = r.left; number = r.number; fails = r.fails; says = r.says })

-- both strings
module _ (count : ℕ) (first last : List ℕ) (x : Refusal) where
  strings-stop :
      (m : State)
      → walk_of (mask_bytes count) first 0 start ≡ Ok m
      → strings_of count first last ≡ Err x
      → walk_of (mask_bytes count) last 0 (into_ro m) ≡ Err x
  strings-stop m p h = go (walk_of (mask_bytes count) last 0 (into_ro m)) refl
    where
      go : (w : Result State Refusal) → walk_of (mask_bytes count) last 0 (into_ro m) ≡ w → w ≡ Err x
      go (Ok e) q = let r = strings-accepted count first last m p e q in let o : ◌≡◌ {A = ℕ} 0 1 = cc in absurd (omega arith)
      go (Err y) q = let r = strings-ro-refused count first last m p y q in cc

  pub strings-says : (strings_of count first last ≡ Err x) ↔ strings_rule count first last x
  strings-says = (λ h. go (walk_of (mask_bytes count) first 0 start) refl h, back)
    where
      go : (w : Result State Refusal) → walk_of (mask_bytes count) first 0 start ≡ w → strings_of count first last ≡ Err x
          → strings_rule count first last x
      go (Err y) q h =
          let r = strings-rw-refused count first last y q in
          let e : Err y ≡ Err x = cc in
          inl ((walk-stops (mask_bytes count) first 0 start x).0 (q ∙ e))
      go (Ok m) q h =
          inr (
            m,
            (walk-ends (mask_bytes count) first 0 start m).0 q,
            (walk-stops (mask_bytes count) last 0 (into_ro m) x).0 (strings-stop m q h),
          )

      back : strings_rule count first last x → strings_of count first last ≡ Err x
      back (inl h) = strings-rw-refused count first last x ((walk-stops (mask_bytes count) first 0 start x).1 h)
      back (inr h) =
          strings-ro-refused count first last h.0 ((walk-ends (mask_bytes count) first 0 start h.0).1 h.1) x
          ((walk-stops (mask_bytes count) last 0 (into_ro h.0) x).1 h.2)
