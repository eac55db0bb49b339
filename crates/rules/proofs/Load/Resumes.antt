-- The laws of `resume_of` and `pass_of`: a load that stands at a place of the string that its state names goes out at an entry that fails a check, from the
-- RW string into the RO string, and to the load's answer; one entry of it, in either string and between them.
use Rattle.std.specs.Prelude.{Result, Ok, Err}
use mathlib.Core.Path.{◌≡◌, refl}
use mathlib.Core.Bool.{Bool, true, false, cond}
use mathlib.Core.List.{List}
use Prim.Native.Nat.{ℕ, ◌≤◌, ◌<◌}
use native.Mathlib.Omega.{arith}
use lib.ListN.{length}
use lib.Dec.{leb, leb→le}
use borrow.Author.Tests.{lt-ltb, le-ltb, le-leb}
use Rattle.rules.specs.Words.{plain, at_entry, State, Loaded, Refusal}
use Rattle.rules.specs.Descriptor.{mask_bytes, decode_at}
use Rattle.rules.specs.Load.{start, into_ro, entry_number, answer, after, walk_of, sized, rest_of, rest_within, strings_within, load_of, resume_of, pass_in, pass_of}
use Rattle.rules.specs.Conditions.{here}
use Rattle.rules.proofs.Basics.Tests.{and₄, from-true, is-true}
use Rattle.rules.proofs.Refusals.Stops.{walk-stops, walk-ends}

-- 9 is passed by what is left of strings that pass it
pub sized-less : (count : ℕ) (r o r' o' : List ℕ) → sized count r o ≡ true → length r' ≤ length r → length o' ≤ length o → sized count r' o' ≡ true
sized-less count r o r' o' h k l =
    let (a, b, c, d) = and₄ (leb 1 count) (leb count 15) (leb (length r) 120) (leb (length o) 120) (from-true h) in
    let c' : length r' ≤ 120 = omega (arith, leb→le (length r) 120 c) in
    let d' : length o' ≤ 120 = omega (arith, leb→le (length o) 120 d) in
    rw (is-true (leb 1 count) a, is-true (leb count 15) b, le-leb (length r') 120 c', le-leb (length o') 120 d') refl

module _ (count : ℕ) (first last : List ℕ) where
  -- the string that a load is in
  abbrev pub string_at : Bool → List ℕ
  string_at ro = cond ro last first

  -- what it answers from a place of that string on
  abbrev pub on_from : Bool → ℕ → State → Result Loaded Refusal
  on_from true at st = after (walk_of (mask_bytes count) last at st) answer
  on_from false at st = after (walk_of (mask_bytes count) first at st) (λ m. after (walk_of (mask_bytes count) last 0 (into_ro m)) answer)

  pub on-stop : (ro : Bool) (at : ℕ) (st : State) (n : ℕ)
      → at < length (string_at ro)
      → decode_at (mask_bytes count) (string_at ro) at st ≡ Err n
      → on_from ro at st ≡ Err (at_entry n (entry_number st))
  on-stop ro at st n l d = go ro ((walk-stops (mask_bytes count) (string_at ro) at st _).1 (record { at = at; st = st; way = here; left = l; number = n; fails = d; says = refl }))
    where
      go : (b : Bool) → walk_of (mask_bytes count) (string_at b) at st ≡ Err (at_entry n (entry_number st)) → on_from b at st ≡ Err (at_entry n (entry_number st))
      go true h = rw h
      go false h = rw h

  ends : (s : List ℕ) (at : ℕ) (st : State) → length s ≤ at → walk_of (mask_bytes count) s at st ≡ Ok st
  ends s at st h = (walk-ends (mask_bytes count) s at st st).1 (record { at = at; way = here; none = h })

  pub on-into : (at : ℕ) (st : State) → length first ≤ at → on_from false at st ≡ on_from true 0 (into_ro st)
  on-into at st h = rw (ends first at st h)

  pub on-end : (at : ℕ) (st : State) → length last ≤ at → on_from true at st ≡ answer st
  on-end at st h = rw (ends last at st h)

  pub rest-begin : (st : State) → rest_of count st first last ≡ on_from st.ro 0 st
  unfolding rest_within
  rest-begin st = go st.ro
    where
      go : (b : Bool) → cond b (on_from true 0 st) (on_from false 0 st) ≡ on_from b 0 st
      go true = refl
      go false = refl

  pub resume-9 : (st : State) → sized count first last ≡ false → resume_of count st first last ≡ Err (plain 9)
  unfolding resume_of
  resume-9 st h = rw h

  pub resume-begin : (st : State) → sized count first last ≡ true → resume_of count st first last ≡ on_from st.ro 0 st
  unfolding resume_of
  resume-begin st h = rw h (rest-begin st)

  pub pass-9 : (st : State) → sized count first last ≡ false → pass_of count st first last ≡ Err (plain 9)
  unfolding pass_of
  pass-9 st h = rw h

  module _ (st : State) (fine : sized count first last ≡ true) where
    pub pass-in-ro : st.ro ≡ true → pass_of count st first last ≡ pass_in (mask_bytes count) last st
    unfolding pass_of
    pass-in-ro h = rw (fine, h)

    pub pass-in-rw : st.ro ≡ false → 0 < length first → pass_of count st first last ≡ pass_in (mask_bytes count) first st
    unfolding pass_of
    pass-in-rw h l = rw (fine, h, lt-ltb 0 (length first) l)

    pub pass-into-ro : st.ro ≡ false → length first ≤ 0 → pass_of count st first last ≡ pass_in (mask_bytes count) last (into_ro st)
    unfolding pass_of
    pass-into-ro h l = rw (fine, h, le-ltb 0 (length first) l)

  pub load-resumes : load_of count first last ≡ resume_of count start first last
  unfolding load_of resume_of strings_within
  load-resumes = refl
