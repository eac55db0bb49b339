-- 02, note 8: a load broken off after any entry and taken up again, with what it kept and the bytes not yet read, is the load.
use Rattle.std.specs.Prelude.{Option, Result, Ok, Err, Some}
use mathlib.Core.Path.{◌≡◌, refl, sym, ap, ◌∙◌}
use mathlib.Core.Bool.{Bool, true, false, cond}
use mathlib.Core.List.{List, []}
use Prim.Native.Nat.{ℕ, zero, suc, ◌≤◌, ◌<◌}
use native.Mathlib.Omega.{arith}
use lib.ListN.{length, drop, length-drop}
use lib.Dec.{ltb}
use borrow.Author.Tests.{ltb-true, ltb-false}
use Rattle.rules.specs.Words.{Refusal, plain, Entry, State, Passed, past, passed_all}
use Rattle.rules.specs.Descriptor.{mask_bytes, decode_at}
use Rattle.rules.specs.Load.{start, next, into_ro, entry_number, answer, after, walk_of, sized, strings_within, load_of, resume_of, passed, pass_in, pass_of}
use Rattle.rules.specs.Notes.{Break, resume_at, left_by, further, passes, TakenUp}
use Rattle.rules.proofs.Load.Resumes.{sized-less, string_at, on_from, on-stop, on-into, on-end, resume-9, resume-begin, load-resumes}
use Rattle.rules.proofs.Load.Rests.{walk-past}
use Rattle.rules.proofs.Load.Pieces.{pass-rw-alone, pass-ro-alone, pass-into-alone}

-- in the RW string no entry stands before it
abbrev Ordered : State → Type 0
Ordered st = st.ro ≡ false → st.before ≡ 0

-- what passing an entry does, or fails to do, of a load that was broken off: past it, the load is still the same, and one more entry is counted; else the load passes no entry more
abbrev Goes : ℕ → Break → Result (Option Passed) Refusal → Type 0
Goes count b (Ok (Some e)) =
    (resume_at count (left_by b (past e.state e.length)) ≡ resume_at count b)
    × (Ordered b.kept → (entry_number e.state ≡ suc (entry_number b.kept)) × Ordered e.state)
Goes count b passed_all = Ordered b.kept → passes (resume_at count b) ≤ entry_number b.kept
Goes count b (Err r) = (resume_at count b ≡ Err r) × (Ordered b.kept → passes (resume_at count b) ≤ entry_number b.kept)

module _ (count : ℕ) (st : State) (first last : List ℕ) where
  abbrev b : Break
  b = record { kept = st; rw = first; ro = last }

  abbrev a : ℕ
  a = mask_bytes count

  module _ (fine : sized count first last ≡ true) where
    -- an entry at the beginning of a string, at the state m in which the load goes on there
    module _ (m : State) (same : (ro : Bool) → m.ro ≡ ro → resume_of count st first last ≡ on_from count first last ro 0 m)
        (numbered : Ordered st → (entry_number m ≡ entry_number st) × Ordered m) where
      left-in-ro : (e : Entry) → m.ro ≡ true → 0 < length last → decode_at a last 0 m ≡ Ok e
          → resume_of count (next m e) [] (drop e.length last) ≡ resume_of count st first last
      left-in-ro e q l d =
          resume-begin count [] (drop e.length last) (next m e) (sized-less count first last [] (drop e.length last) fine (omega arith) (omega (arith, length-drop e.length last)))
          ∙ ap (λ ro. on_from count [] (drop e.length last) ro 0 (next m e)) q
          ∙ ap (λ w. after w answer) (sym (walk-past a last m e l d))
          ∙ sym (same true q)

      left-in-rw : (e : Entry) → m.ro ≡ false → 0 < length first → decode_at a first 0 m ≡ Ok e
          → resume_of count (next m e) (drop e.length first) last ≡ resume_of count st first last
      left-in-rw e q l d =
          resume-begin count (drop e.length first) last (next m e) (sized-less count first last (drop e.length first) last fine (omega (arith, length-drop e.length first)) (omega arith))
          ∙ ap (λ ro. on_from count (drop e.length first) last ro 0 (next m e)) q
          ∙ ap (λ w. after w (λ x. after (walk_of a last 0 (into_ro x)) answer)) (sym (walk-past a first m e l d))
          ∙ sym (same false q)

      goes-in : (ro : Bool) → m.ro ≡ ro → 0 < length (string_at count first last ro)
          → (d : Result Entry ℕ)
          → decode_at a (string_at count first last ro) 0 m ≡ d
          → Goes count b (passed m d)
      goes-in ro q l (Err n) d =
          let stops = same ro q ∙ on-stop count first last ro 0 m n l d in
          (stops, λ o. rw stops (omega (arith, (numbered o).0)))
      goes-in true q l (Ok e) d = (
        ap (λ ro. resume_at count (cond ro (record { kept = next m e; rw = []; ro = drop e.length last }) (record { kept = next m e; rw = drop e.length first; ro = last }))) q
            ∙ left-in-ro e q l d,
        λ o. (omega (arith, (numbered o).0), (numbered o).1),
      )
      goes-in false q l (Ok e) d = (
        ap (λ ro. resume_at count (cond ro (record { kept = next m e; rw = []; ro = drop e.length last }) (record { kept = next m e; rw = drop e.length first; ro = last }))) q
            ∙ left-in-rw e q l d,
        λ o. (omega (arith, (numbered o).0), (numbered o).1),
      )

      goes-ro : m.ro ≡ true → Goes count b (pass_in a last m)
      goes-ro q = go (ltb 0 (length last)) refl
        where
          go : (x : Bool) → ltb 0 (length last) ≡ x → Goes count b (cond x (passed m (decode_at a last 0 m)) passed_all)
          go true t = goes-in true q (ltb-true 0 (length last) t) (decode_at a last 0 m) refl
          go false t = λ o. rw (same true q ∙ on-end count first last 0 m (omega (arith, ltb-false 0 (length last) t))) (omega (arith, (numbered o).0))

    resumes : (ro : Bool) → st.ro ≡ ro → resume_of count st first last ≡ on_from count first last ro 0 st
    resumes ro q = resume-begin count first last st fine ∙ ap (λ x. on_from count first last x 0 st) q

    goes-sized : Goes count b (cond st.ro (pass_in a last st) (cond (ltb 0 (length first)) (pass_in a first st) (pass_in a last (into_ro st))))
    goes-sized = go st.ro refl
      where
        into : (q : st.ro ≡ false) → length first ≤ 0 → (ro : Bool) → true ≡ ro → resume_of count st first last ≡ on_from count first last ro 0 (into_ro st)
        into q h ro t = resumes false q ∙ on-into count first last 0 st h ∙ ap (λ x. on_from count first last x 0 (into_ro st)) t

        go-rw : st.ro ≡ false → (x : Bool) → ltb 0 (length first) ≡ x → Goes count b (cond x (pass_in a first st) (pass_in a last (into_ro st)))
        go-rw q true t =
            rw t (goes-in st resumes (λ o. (refl, o)) false q (ltb-true 0 (length first) t) (decode_at a first 0 st) refl)
        go-rw q false t =
            goes-ro (into_ro st) (into q (omega (arith, ltb-false 0 (length first) t))) (λ o. (omega (arith, o q), λ z. absurd (no z))) refl
          where
            no : true ≡ false → ⊥
            no z = let y : ◌≡◌ {A = ℕ} 0 1 = cc in omega arith

        go : (x : Bool) → st.ro ≡ x → Goes count b (cond x (pass_in a last st) (cond (ltb 0 (length first)) (pass_in a first st) (pass_in a last (into_ro st))))
        go true q = goes-ro st resumes (λ o. (refl, o)) q
        go false q = go-rw q (ltb 0 (length first)) refl

  goes : Goes count b (pass_of count st first last)
  unfolding pass_of
  goes = go (sized count first last) refl
    where
      go : (x : Bool) → sized count first last ≡ x
          → Goes count b (cond x (cond st.ro (pass_in a last st) (cond (ltb 0 (length first)) (pass_in a first st) (pass_in a last (into_ro st)))) (Err (plain 9)))
      go true q = goes-sized q
      go false q = (resume-9 count first last st q, λ o. rw (resume-9 count first last st q) (omega arith))

module _ (count : ℕ) where
  by-goes : (b : Break) (p : Result (Option Passed) Refusal) → Goes count b p → resume_at count (left_by b p) ≡ resume_at count b
  by-goes b (Ok (Some e)) g = g.0
  by-goes b passed_all g = refl
  by-goes b (Err r) g = refl

  refused-by : (b : Break) (p : Result (Option Passed) Refusal) → Goes count b p → (r : Refusal) → p ≡ Err r → resume_at count b ≡ Err r
  refused-by b (Ok (Some e)) g r h = let z : ◌≡◌ {A = ℕ} 0 1 = cc in absurd (omega arith)
  refused-by b passed_all g r h = let z : ◌≡◌ {A = ℕ} 0 1 = cc in absurd (omega arith)
  refused-by b (Err x) g r h = let q : x ≡ r = cc in g.0 ∙ ap Err q

  goes-on : (k : ℕ) (b : Break) → resume_at count (further count k b) ≡ resume_at count b
  unfolding further
  goes-on zero b = refl
  goes-on (suc k) b =
      let at : Break = further count k b in
      by-goes at (pass_of count at.kept at.rw at.ro) (goes count at.kept at.rw at.ro) ∙ goes-on k b

  kept-is : (b : Break) (st : State) (n : ℕ) → (left_by b (past st n)).kept ≡ st
  kept-is b st n = go st.ro
    where
      go : (x : Bool) → (cond {A = Break} x (record { kept = st; rw = []; ro = drop n b.ro }) (record { kept = st; rw = drop n b.rw; ro = b.ro })).kept ≡ st
      go true = refl
      go false = refl

  one-more : (b : Break) (k : ℕ) (p : Result (Option Passed) Refusal)
      → Goes count b p
      → (entry_number b.kept ≡ k) × Ordered b.kept
      → suc k ≤ passes (resume_at count b)
      → (entry_number (left_by b p).kept ≡ suc k) × Ordered (left_by b p).kept
  one-more b k (Ok (Some e)) g o h = rw (kept-is b e.state e.length) (omega (arith, (g.1 o.1).0, o.0), (g.1 o.1).1)
  one-more b k passed_all g o h = absurd (omega (arith, g o.1, o.0))
  one-more b k (Err r) g o h = absurd (omega (arith, g.1 o.1, o.0))

  counted : (b : Break) → entry_number b.kept ≡ 0 → Ordered b.kept → (k : ℕ) → k ≤ passes (resume_at count b)
      → (entry_number (further count k b).kept ≡ k) × Ordered (further count k b).kept
  unfolding further
  counted b z o zero h = (z, o)
  counted b z o (suc k) h =
      let at : Break = further count k b in
      one-more at k (pass_of count at.kept at.rw at.ro) (goes count at.kept at.rw at.ro)
      (counted b z o k (omega arith))
      (rw (goes-on k b) h)

pub taken-up : (count : ℕ) (rw ro : List ℕ) → TakenUp count rw ro
unfolding load_of resume_of strings_within
taken-up count first last =
    record {
      begins = load-resumes count first last;
      after = λ k. goes-on count k (record { kept = start; rw = first; ro = last });
      counts = λ k h. (counted count (record { kept = start; rw = first; ro = last }) refl (λ _. refl) k h).0;
      again = λ st k. goes-on count k (record { kept = st; rw = first; ro = last });
      refuses = λ st. refused-by count (record { kept = st; rw = first; ro = last }) (pass_of count st first last) (goes count st first last);
      rw-entry = λ n. pass-rw-alone count n first last;
      ro-entry = λ n. pass-ro-alone count n first last;
      first-ro-entry = λ n. pass-into-alone count n first last;
    }
