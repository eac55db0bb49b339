-- A chain of checks, `refuse b n d`: how it goes on past a check, how it stops at one, and what it shows of an entry that comes out.
use Rattle.std.specs.Prelude.{Result, Ok, Err}
use mathlib.Core.Path.{◌≡◌, refl, ap, sym}
use mathlib.Core.Bool.{Bool, true, false}
use mathlib.Core.List.{List}
use Prim.Native.Nat.{ℕ, ◌+◌, ◌-◌, ◌*◌, ◌≤◌, ◌<◌}
use native.Mathlib.Omega.{arith}
use lib.ListN.{length}
use lib.Dec.{ltb, eqb}
use borrow.Author.Tests.{leb-false, ltb-false, not-false}
use Rattle.rules.specs.Words.{Entry, State}
use Rattle.rules.specs.Parameter.{row_of}
use Rattle.rules.specs.Descriptor.{byte_at, high_first, entry_at, may_stand, refuse, length_checks, content_checks, decode_at, decode_within, entry_limit}
use Rattle.rules.proofs.Basics.Tests.{or-no}
use Rattle.rules.proofs.Table.Rows.{row-least, row-needed, row-width}
use Rattle.rules.proofs.Place.AcceptedMap.{GoodEntry}
use Rattle.rules.proofs.Basics.Results.{ok-same}

pub pass : (n : ℕ) (d : Result Entry ℕ) {b : Bool} {r : (Result Entry ℕ)} → b ≡ false → r ≡ d → r ≡ refuse b n d
unfolding refuse
pass n d e h = rw e h

pub stop : (n : ℕ) (d : Result Entry ℕ) {b : Bool} → b ≡ true → Err n ≡ refuse b n d
unfolding refuse
stop n d e = rw e

pub passed : (b : Bool) (n : ℕ) (d : Result Entry ℕ) (e : Entry) → refuse b n d ≡ Ok e → (b ≡ false) × (d ≡ Ok e)
unfolding refuse
passed true n d e h = let z : ◌≡◌ {A = ℕ} 0 1 = cc in absurd (omega arith)
passed false n d e h = (refl, h)

-- an entry that passes its checks at a place of a string and a state
pub record Passed (a : ℕ) (s : List ℕ) (at : ℕ) (st : State) (e : Entry) : Type 0 where
  pub entry : e ≡ entry_at a s at st.sum
  pub few : st.entries < entry_limit
  pub within : e.length ≤ length s - at
  pub long : 3 + a ≤ e.length
  pub side : may_stand (row_of e.id).side st.ro ≡ true
  pub good : GoodEntry e
  pub sum : st.sum + e.memory ≤ 256

pub decode-passed : (a : ℕ) (s : List ℕ) (at : ℕ) (st : State) (e : Entry) → decode_at a s at st ≡ Ok e → Passed a s at st e
unfolding decode_within length_checks content_checks
decode-passed a s at st e h =
    let h0 = passed _ _ _ e h in
    let h1 = passed _ _ _ e h0.1 in
    let h2 = passed _ _ _ e h1.1 in
    let h3 = passed _ _ _ e h2.1 in
    let h4 = passed _ _ _ e h3.1 in
    let h5 = passed _ _ _ e h4.1 in
    let h6 = passed _ _ _ e h5.1 in
    let h7 = passed _ _ _ e h6.1 in
    let x : Entry = entry_at a s at st.sum in
    let q : e ≡ x = sym (ok-same _ _ h7.1) in
    let fits = (or-no (eqb (length s - at) 1) (ltb (length s - at) x.length) h1.0).1 in
    rw q
    (record {
      entry = refl;
      few = omega (arith, leb-false);
      within = omega (arith, ltb-false);
      long = omega (arith, ltb-false, row-least x.id);
      side = not-false _ h3.0;
      good = record { width = row-width x; room = omega (arith, ltb-false, row-needed x) };
      sum = omega (arith, ltb-false);
    })

-- numbers of one and of two bytes, high byte first
pub high-one : (s : List ℕ) (at : ℕ) → high_first s at 1 ≡ byte_at s at
unfolding high_first
high-one s at = let q : at + 0 ≡ at = omega arith in rw q (omega arith)

pub high-two : (s : List ℕ) (at : ℕ) → high_first s at 2 ≡ byte_at s at * 256 + byte_at s (at + 1)
unfolding high_first
high-two s at = ap (λ n. n * 256 + byte_at s (at + 1)) (high-one s at)
