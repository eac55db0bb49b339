-- The load from a state on, by its two walks: the one up to the RO string, and that of the RO string.
use Rattle.std.specs.Prelude.{Result, Ok, Err}
use mathlib.Core.Path.{◌≡◌, refl, sym, ap, ◌∙◌}
use mathlib.Core.Bool.{Bool, true, false, cond}
use mathlib.Core.List.{List}
use Prim.Native.Nat.{ℕ}
use Rattle.rules.specs.declared.Refusal.{Refusal}
use Rattle.rules.specs.Words.{accepted}
use Rattle.rules.specs.declared.State.{State}
use Rattle.rules.specs.declared.Loaded.{Loaded}
use Rattle.rules.specs.Descriptor.{mask_bytes}
use Rattle.rules.specs.Load.{start, into_ro, answer, after, walk_of, sized, rest_of, rest_within, load_of, resume_of}
use Rattle.rules.proofs.Load.Loads.{load-strings, strings-accepted}
use Rattle.descriptor.specs.declared.state.Count.{Count}
use Rattle.descriptor.specs.declared.walk.Entered.{Entered}
use Rattle.descriptor.specs.Counts.{count_of, with_count, alone, counted_of, walk_alone}
use Rattle.descriptor.specs.Walks.{entered, refusal_at, past_rw, to_ro, entered_of, entered_by}
use Rattle.descriptor.proofs.Scan.{lift, walk-lifts}
use Rattle.descriptor.specs.declared.walk.Stop.{Stop}

module _ (count : ℕ) (first last : List ℕ) (fine : sized count first last ≡ true) (m e : State)
    (p : walk_of (mask_bytes count) first 0 start ≡ Ok m) (q : walk_of (mask_bytes count) last 0 (into_ro m) ≡ Ok e) where
  pub both-load : load_of count first last ≡ answer e
  both-load = load-strings count first last fine ∙ strings-accepted count first last m p e q

-- the RO string begins or goes on where the walk up to it comes to
module _ (a : ℕ) (first : List ℕ) (st : State) where
  pub entered-ro : st.ro ≡ true → entered st.before st.staged (count_of st) ≡ entered_by a first st
  unfolding to_ro
  entered-ro h = ap (λ x. entered_of (cond x (Ok st) (past_rw (walk_of a first 0 st)))) (sym h)

  pub entered-rw : st.ro ≡ false → {x : (Result Count Stop)} → x ≡ counted_of (walk_alone false a first (alone false (count_of st))) → entered_of (past_rw (lift st x)) ≡ entered_by a first st
  unfolding to_ro walk_alone
  entered-rw h q =
      sym
      (ap (λ b. entered_of (cond b (Ok st) (past_rw (walk_of a first 0 st)))) h
      ∙ ap (λ w. entered_of (past_rw w)) (walk-lifts a first st)
      ∙ ap (λ b. entered_of (past_rw (lift st (counted_of (walk_of a first 0 (alone b (count_of st))))))) h
      ∙ ap (λ x. entered_of (past_rw (lift st x))) (sym q))

-- the load's answer, by the walk up to the RO string and that of the RO string alone
abbrev pub closed : ℕ → ℕ → Result Count Stop → Result Loaded Refusal
closed before staged (Ok c) = accepted before c.entries staged c.sum
closed before staged (Err stop) = Err (refusal_at stop before)

module _ (count : ℕ) (st : State) (first last : List ℕ) where
  abbrev answered : Result Entered Refusal → Result Loaded Refusal
  answered (Ok e) = closed e.before e.staged (counted_of (walk_alone false (mask_bytes count) last (alone true e.counts)))
  answered (Err r) = Err r

  abbrev in_ro : State → Result Loaded Refusal
  in_ro m = after (walk_of (mask_bytes count) last 0 m) answer

  in-ro : (m : State) → m.ro ≡ true → in_ro m ≡ answered (entered_of (Ok m))
  unfolding walk_alone
  in-ro m h =
      ap (λ w. after w answer) (walk-lifts (mask_bytes count) last m)
      ∙ ap (λ b. after (lift m (counted_of (walk_of (mask_bytes count) last 0 (alone b (count_of m))))) answer) h
      ∙ go (counted_of (walk_of (mask_bytes count) last 0 (alone true (count_of m))))
    where
      go : (x : Result Count Stop) → after (lift m x) answer ≡ closed m.before m.staged x
      go (Ok c) = refl
      go (Err stop) = refl

  past : (w : Result Count Stop) → after (lift st w) (λ m. in_ro (into_ro m)) ≡ answered (entered_of (past_rw (lift st w)))
  past (Ok c) = in-ro (into_ro (with_count st c)) refl
  past (Err stop) = refl

  rest-by : rest_of count st first last ≡ answered (entered_by (mask_bytes count) first st)
  unfolding rest_within to_ro
  rest-by = go st.ro refl
    where
      go : (x : Bool)
          → st.ro ≡ x
          → cond x (in_ro st) (after (walk_of (mask_bytes count) first 0 st) (λ m. in_ro (into_ro m)))
          ≡ answered (entered_of (cond x (Ok st) (past_rw (walk_of (mask_bytes count) first 0 st))))
      go true q = in-ro st q
      go false q = rw (walk-lifts (mask_bytes count) first st) (past (counted_of (walk_of (mask_bytes count) first 0 (alone st.ro (count_of st)))))

  module _ (fine : sized count first last ≡ true) where
    resume-by : (x : Result Entered Refusal) → x ≡ entered_by (mask_bytes count) first st → resume_of count st first last ≡ answered x
    unfolding resume_of
    resume-by x q = rw (fine, q) rest-by

    pub resume-rw-refused : (r : Refusal) → Err r ≡ entered_by (mask_bytes count) first st → Err r ≡ resume_of count st first last
    resume-rw-refused r q = sym (resume-by (Err r) q)

    pub resume-closed :
        (before staged : ℕ) (c : Count)
        → entered before staged c ≡ entered_by (mask_bytes count) first st
        → (x : Result Count Stop)
        → x ≡ counted_of (walk_alone false (mask_bytes count) last (alone true c))
        → closed before staged x ≡ resume_of count st first last
    resume-closed before staged c q x p = rw p (sym (resume-by (entered before staged c) q))
