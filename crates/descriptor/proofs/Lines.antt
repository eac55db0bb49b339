-- The invariant of a walk that writes a line for each entry: the text so far, with the lines of what is left, is the lines of the string.
use Rattle.std.specs.Prelude.{Result, Ok, Err}
use mathlib.Core.Path.{◌≡◌, refl, ap, ◌∙◌}
use mathlib.Core.List.{List, [], ◌∷◌, ◌++◌, append-nil, append_assoc}
use Prim.Native.Nat.{ℕ, suc, ◌+◌, ◌*◌, ◌≤◌, ◌<◌}
use native.Mathlib.Numerals.{add-one}
use native.Mathlib.Omega.{arith}
use lib.ListN.{length}
use Rattle.rules.specs.declared.Entry.{Entry}
use Rattle.rules.specs.declared.State.{State}
use Rattle.rules.specs.declared.Refusal.TheVariants.{AtEntry as at_entry}
use Rattle.rules.specs.Descriptor.{entry_at, decode_at, limited, entry_limit}
use Rattle.rules.specs.Load.{next, entry_number, fold_by, fold_of, onward, gather, entries_from, entries_within, walk_within}
use Rattle.rules.specs.MapProgram.{entry_lines}
use Rattle.rules.proofs.Load.Checks.{Passed, decode-passed}
use Rattle.rules.proofs.Load.Folds.{Folded, begin, turn, done, out, more, done-by, turn-by}
use Rattle.descriptor.specs.declared.state.Count.{Count}
use Rattle.descriptor.specs.Counts.{with_count}
use Rattle.descriptor.specs.declared.text.Text.{Text}
use Rattle.descriptor.specs.Text.{Adds, entry_line, Listing}
use Rattle.descriptor.proofs.Adds.{adds-then, adds-most, adds-none}
use Rattle.descriptor.proofs.Scan.{Went}

abbrev rest : ℕ → ℕ → List ℕ → ℕ → State → List Entry
rest a fuel s at st = fold_by limited gather (λ _. []) a fuel s at st

record Lined (a : ℕ) (s : List ℕ) (st₀ : State) (at : ℕ) (st : State) (text : List ℕ) : Type 0 where
  fuel : ℕ
  enough : length s ≤ at + fuel
  same : entry_lines (entry_number st₀) (entries_from a s 0 st₀) ≡ text ++ entry_lines (entry_number st) (rest a fuel s at st)

lined-begin : (a : ℕ) (s : List ℕ) (st : State) → Lined a s st 0 st []
unfolding entries_within fold_of
lined-begin a s st = record { fuel = length s; enough = omega arith; same = refl }

none-left : (n : ℕ) (text : List ℕ) (l : List Entry) → l ≡ [] → text ++ entry_lines n l ≡ text
unfolding entry_lines
none-left n text l h = rw h (append-nil text)

one-more : (n : ℕ) (text : List ℕ) (e : Entry) (l : List Entry) → text ++ entry_lines n (e ∷ l) ≡ text ++ entry_line n e ++ entry_lines (n + 1) l
unfolding entry_lines
one-more n text e l = rw add-one (simp append_assoc)

module _ {a : ℕ} {s : List ℕ} {st₀ : State} {at : ℕ} {st : State} {text : List ℕ} (r : Lined a s st₀ at st text) where
  lined-end : length s ≤ at → entry_lines (entry_number st₀) (entries_from a s 0 st₀) ≡ text
  lined-end h = r.same ∙ none-left (entry_number st) text _ (done-by gather (λ _. []) a s r.fuel at st h)

  module _ (h : at < length s) where
    -- what is left, by what stands at the place
    left : (k : ℕ) (d : Result Entry ℕ) → r.fuel ≡ suc k → decode_at a s at st ≡ d → rest a r.fuel s at st ≡ gather d st (λ e. rest a k s (at + e.length) (next st e))
    left k d q p = ap (λ f. rest a f s at st) q ∙ turn-by gather (λ _. []) a s k at st h ∙ ap (λ x. gather x st (λ e. rest a k s (at + e.length) (next st e))) p

    -- an entry that fails a check ends the lines
    lined-stop : (n : ℕ) → decode_at a s at st ≡ Err n → entry_lines (entry_number st₀) (entries_from a s 0 st₀) ≡ text
    lined-stop n d =
        let m = more r.fuel (length s) at r.enough h in
        r.same ∙ none-left (entry_number st) text _ (left m.0 (Err n) m.1 d)

    -- past an entry, with its line
    lined-next : (e : Entry) → decode_at a s at st ≡ Ok e → Lined a s st₀ (at + e.length) (next st e) (text ++ entry_line (entry_number st) e)
    lined-next e d =
        let m = more r.fuel (length s) at r.enough h in
        let p = decode-passed a s at st e d in
        let q : entry_number (next st e) ≡ entry_number st + 1 = omega arith in
        record {
          fuel = m.0;
          enough = omega (arith, r.enough, p.long, m.1);
          same = r.same ∙ ap (λ l. text ++ entry_lines (entry_number st) l) (left m.0 (Ok e) m.1 d) ∙ rw q (one-more (entry_number st) text e (rest a m.0 s (at + e.length) (next st e)));
        }

-- what is added so far: at most 16 bytes for each entry, which takes at least 4 of its string; the walk stands at a place of it
pub record Writing (a : ℕ) (s : List ℕ) (st₀ : State) (before : Text) (from : ℕ) (st : State) (after : Text) : Type 0 where
  text : List ℕ
  lined : Lined a s st₀ from st text
  pub folded : Folded onward Ok a s 0 st₀ from st
  pub adds : Adds (4 * from) text before after
  pub inside : from ≤ length s
  pub few : st.before ≤ entry_limit
  pub sum : st.sum ≤ 256

pub writing-begin : (a : ℕ) (s : List ℕ) (st : State) (x : Text) → st.before ≤ entry_limit → st.sum ≤ 256 → Writing a s st x 0 st x
writing-begin a s st x n h =
    record {
      text = [];
      lined = lined-begin a s st;
      folded = begin onward Ok a s 0 st;
      adds = adds-none x;
      inside = omega arith;
      few = n;
      sum = h;
    }

module _ {a : ℕ} {s : List ℕ} {st₀ : State} {before : Text} {from : ℕ} {st : State} {after : Text} (w : Writing a s st₀ before from st after) where
  -- no byte is left
  pub writing-end : length s ≤ from → Listing a s st₀ before after st
  unfolding walk_within
  writing-end h =
      record {
        adds = rw (lined-end w.lined h) (adds-most (4 * length s) (omega (arith, w.inside)) w.adds);
        ends = λ e q. let o : Ok st ≡ Ok e = done w.folded h ∙ q in cc;
      }

  module _ (h : from < length s) where
    -- an entry that fails a check
    pub writing-stop : (n : ℕ) → decode_at a s from st ≡ Err n → Listing a s st₀ before after st
    unfolding walk_within
    writing-stop n d =
        record {
          adds = rw (lined-stop w.lined h n d) (adds-most (4 * length s) (omega (arith, w.inside)) w.adds);
          ends = λ e q.
              let o = out w.folded h (Err (at_entry n (entry_number st))) (λ k. rw d refl) ∙ q in
              let z : ◌≡◌ {A = ℕ} 0 1 = cc in
              absurd (omega arith);
        }

    -- past an entry, whose line is written
    pub writing-next :
        1 ≤ a
        → {to : ℕ} {kept : Count}
        → Went from st (decode_at a s from st) to kept
        → {next : Text}
        → Adds 16 (entry_line (entry_number st) (entry_at a s from st.sum)) after next
        → Writing a s st₀ before to (with_count st kept) next
    writing-next low g p =
        let e = g.e in
        let d = g.decodes in
        let k : Passed a s from st e = decode-passed a s from st e d in
        rw (g.to, g.keeps)
        (record {
          text = w.text ++ entry_line (entry_number st) e;
          lined = lined-next w.lined h e d;
          folded = turn w.folded h e d (λ _. refl);
          adds = rw k.entry (adds-most (4 * (from + (entry_at a s from st.sum).length)) (omega (arith, rw k.entry at k.long)) (adds-then w.adds p));
          inside = omega (arith, k.within);
          few = w.few;
          sum = k.sum;
        })
