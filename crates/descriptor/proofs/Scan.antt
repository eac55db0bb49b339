-- A scan, which walks a string that stands alone: what passing an entry says, its invariant, and its ways out. And what it says of the walk of that
-- string behind others.
use Rattle.std.specs.Prelude.{Result, Ok, Err}
use mathlib.Core.Path.{◌≡◌, refl, sym, ap, ◌∙◌}
use mathlib.Core.Bool.{Bool, true, false, cond}
use mathlib.Core.List.{List}
use Prim.Native.Nat.{ℕ, zero, suc, ◌+◌, ◌≤◌, ◌<◌}
use native.Mathlib.Omega.{arith}
use native.Mathlib.Nat.{zero-add}
use lib.ListN.{length}
use lib.Dec.{ltb}
use borrow.Author.Tests.{lt-ltb, le-ltb}
use Rattle.rules.specs.declared.Refusal.{Refusal}
use Rattle.rules.specs.declared.Entry.{Entry}
use Rattle.rules.specs.declared.State.{State}
use Rattle.rules.specs.Words.{past as past_entry}
use Rattle.rules.specs.declared.Refusal.TheVariants.{AtEntry as at_entry}
use Rattle.rules.specs.Descriptor.{byte_at, limited, decode_at, decode_within, content_checks}
use Rattle.rules.specs.Load.{next, onward, fold_by, fold_of, walk_of, walk_within, passed}
use Rattle.rules.proofs.Load.Checks.{decode-passed}
use Rattle.rules.proofs.Load.Folds.{Folded, begin, turn, done, out}
use Rattle.rules.proofs.Basics.Results.{ok-same, err-same}
use Rattle.descriptor.specs.declared.walk.Stop.{Stop}
use Rattle.descriptor.specs.declared.decode.Past.{Past}
use Rattle.descriptor.specs.declared.state.Count.{Count}
use Rattle.descriptor.specs.Counts.{refuses, count_of, with_count, alone, Small, counted_of, walk_alone}
use Rattle.descriptor.specs.Decode.{past, decoding_of}
use Rattle.descriptor.specs.Walks.{refusal_at}

past-same : (x y : Past) → ◌≡◌ {A = Result Past ℕ} (Ok x) (Ok y) → (x.at ≡ y.at) × (x.counts ≡ y.counts)
past-same x y h = let q : x ≡ y = ok-same x y h in (ap (λ (p : Past). p.at) q, ap (λ (p : Past). p.counts) q)

-- what going past an entry says of its decode
pub record Went (at : ℕ) (st : State) (d : Result Entry ℕ) (place : ℕ) (after : Count) : Type 0 where
  pub e : Entry
  pub decodes : d ≡ Ok e
  pub to : place ≡ at + e.length
  pub keeps : after ≡ count_of (next st e)

pub went : (at : ℕ) (st : State) (d : Result Entry ℕ) (place : ℕ) (after : Count) → decoding_of at st d ≡ past place after → Went at st d place after
went at st (Ok e) place after h = let q = past-same _ _ h in record { e = e; decodes = refl; to = sym q.0; keeps = sym q.1 }
went at st (Err n) place after h = let o : ◌≡◌ {A = ℕ} 0 1 = cc in absurd (omega arith)

-- what a refusal says of it
pub failed-by : (at : ℕ) (st : State) (d : Result Entry ℕ) (n : ℕ) → decoding_of at st d ≡ Err n → d ≡ Err n
failed-by at st (Ok e) n h = let o : ◌≡◌ {A = ℕ} 0 1 = cc in absurd (omega arith)
failed-by at st (Err k) n h = let o : k ≡ n = cc in ap Err o

-- the counts after an entry are small
pub next-small : (a : ℕ) (s : List ℕ) (at : ℕ) (st : State) (e : Entry) → decode_at a s at st ≡ Ok e → Small (count_of (next st e))
next-small a s at st e d =
    let p = decode-passed a s at st e d in
    record { entries = omega (arith, p.few); sum = omega (arith, p.sum) }

-- the walk so far is that of the rules; of one entry alone, nothing has been passed
pub record Scanning (ro : Bool) (a : ℕ) (s : List ℕ) (one : Bool) (c₀ : Count) (at : ℕ) (c : Count) : Type 0 where
  pub folded : Folded onward Ok a s 0 (alone ro c₀) at (alone ro c)
  pub first : one ≡ true → (at ≡ 0) × (c ≡ c₀)
  pub small : Small c

pub scan-begin : (ro : Bool) (a : ℕ) (s : List ℕ) (one : Bool) (c : Count) → Small c → Scanning ro a s one c 0 c
scan-begin ro a s one c h = record { folded = begin onward Ok a s 0 (alone ro c); first = λ _. (refl, refl); small = h }

module _ {ro : Bool} {a : ℕ} {s : List ℕ} {one : Bool} {c₀ : Count} {at : ℕ} {c : Count} (k : Scanning ro a s one c₀ at c) where
  abbrev answer : Result Count Stop
  answer = counted_of (walk_alone one a s (alone ro c₀))

  pub scan-end : length s ≤ at → Ok c ≡ answer
  unfolding walk_alone walk_within
  scan-end h = go one (λ t. k.first t)
    where
      go : (b : Bool) → (b ≡ true → (at ≡ 0) × (c ≡ c₀)) → Ok c ≡ counted_of (walk_alone b a s (alone ro c₀))
      go false f = ap counted_of (done k.folded h)
      go true f = let (p, q) = f refl in rw (le-ltb 0 (length s) (omega arith)) (ap Ok q)

  module _ (h : at < length s) where
    pub scan-stop : (n : ℕ) → decode_at a s at (alone ro c) ≡ Err n → refuses n c.entries ≡ answer
    unfolding walk_alone walk_within
    scan-stop n d = go one (λ t. k.first t)
      where
        here : refuses n c.entries ≡ counted_of (Err (at_entry n (0 + c.entries)))
        here = ap (refuses n) (sym (zero-add c.entries))

        go : (b : Bool) → (b ≡ true → (at ≡ 0) × (c ≡ c₀)) → refuses n c.entries ≡ counted_of (walk_alone b a s (alone ro c₀))
        go false f = here ∙ ap counted_of (out k.folded h (Err (at_entry n (0 + c.entries))) (λ x. rw d refl))
        go true f =
            let (p, q) = f refl in
            let d₀ : decode_at a s 0 (alone ro c₀) ≡ Err n = rw (p, q) at d in
            rw (lt-ltb 0 (length s) (omega arith), d₀) (ap (λ x. refuses n x.entries) q ∙ ap (refuses n) (sym (zero-add c₀.entries)))

    module _ (e : Entry) (d : decode_at a s at (alone ro c) ≡ Ok e) where
      pub scan-one : one ≡ true → Ok (count_of (next (alone ro c) e)) ≡ answer
      unfolding walk_alone
      scan-one t =
          let (p, q) = k.first t in
          let d₀ : decode_at a s 0 (alone ro c₀) ≡ Ok e = rw (p, q) at d in
          rw (t, q, lt-ltb 0 (length s) (omega arith), d₀) refl

      scan-turn : one ≡ false → Scanning ro a s one c₀ (at + e.length) (count_of (next (alone ro c) e))
      scan-turn t =
          record {
            folded = turn k.folded h e d (λ _. refl);
            first = λ z. let y : true ≡ false = sym z ∙ t in absurd (no y);
            small = next-small a s at (alone ro c) e d;
          }
        where
          no : true ≡ false → ⊥
          no y = let z : ◌≡◌ {A = ℕ} 0 1 = cc in omega arith

pub scan-goes :
    {ro : Bool} {a : ℕ} {s : List ℕ} {one : Bool} {c₀ : Count} {at : ℕ} {c : Count}
    → Scanning ro a s one c₀ at c
    → at < length s
    → one ≡ false
    → {place : ℕ} {after : Count}
    → Went at (alone ro c) (decode_at a s at (alone ro c)) place after
    → Scanning ro a s one c₀ place after
scan-goes k h t w = rw (w.to, w.keeps) (scan-turn k h w.e w.decodes t)

-- a walk behind others, by that of its string alone
abbrev pub lift : State → Result Count Stop → Result State Refusal
lift st (Ok c) = Ok (with_count st c)
lift st (Err stop) = Err (refusal_at stop st.before)

lift-next : (st : State) (e : Entry) (x : Result Count Stop) → lift (next st e) x ≡ lift st x
lift-next st e (Ok c) = refl
lift-next st e (Err stop) = refl

pub decode-alone : (a : ℕ) (s : List ℕ) (at : ℕ) (st : State) → decode_at a s at (alone st.ro (count_of st)) ≡ decode_at a s at st
unfolding decode_within content_checks
decode-alone a s at st = refl

-- one entry of a walk behind others, decoded alone
pub decoding-is :
    (a : ℕ) (s : List ℕ) (at : ℕ) (st : State) {c : Count} {x : (Result Past ℕ)}
    → c ≡ count_of st
    → x ≡ decoding_of at (alone st.ro c) (decode_at a s at (alone st.ro c))
    → x ≡ decoding_of at st (decode_at a s at st)
decoding-is a s at st p q = rw p at q ∙ ap (decoding_of at (alone st.ro (count_of st))) (decode-alone a s at st) ∙ go (decode_at a s at st)
  where
    go : (d : Result Entry ℕ) → decoding_of at (alone st.ro (count_of st)) d ≡ decoding_of at st d
    go (Ok e) = refl
    go (Err n) = refl

lifts-by : (a f : ℕ) (s : List ℕ) (at : ℕ) (st : State)
    → fold_by limited onward Ok a f s at st ≡ lift st (counted_of (fold_by limited onward Ok a f s at (alone st.ro (count_of st))))
unfolding fold_by
lifts-by a zero s at st = refl
lifts-by a (suc f) s at st = go (ltb at (length s)) (decode_at a s at st) (decode-alone a s at st) (λ e. lifts-by a f s (at + e.length) (next st e) ∙ lift-next st e (counted_of (fold_by limited onward Ok a f s (at + e.length) (next (alone st.ro (count_of st)) e))))
  where
    rest : State → Entry → Result State Refusal
    rest x e = fold_by limited onward Ok a f s (at + e.length) (next x e)

    go : (b : Bool) (d : Result Entry ℕ)
        → decode_at a s at (alone st.ro (count_of st)) ≡ d
        → ((e : Entry) → rest st e ≡ lift st (counted_of (rest (alone st.ro (count_of st)) e)))
        → cond b (onward d st (rest st)) (Ok st)
        ≡ lift st (counted_of (cond b (onward (decode_at a s at (alone st.ro (count_of st))) (alone st.ro (count_of st)) (rest (alone st.ro (count_of st)))) (Ok (alone st.ro (count_of st)))))
    go false d q ih = refl
    go true (Err n) q ih = rw q (ap (λ k. Err (at_entry n (st.before + k))) (sym (zero-add st.entries)))
    go true (Ok e) q ih = rw q (ih e)

pub walk-lifts : (a : ℕ) (s : List ℕ) (st : State) → walk_of a s 0 st ≡ lift st (counted_of (walk_of a s 0 (alone st.ro (count_of st))))
unfolding walk_within fold_of
walk-lifts a s st = lifts-by a (length s) s 0 st

-- passing one entry, by the scan of it
module _ (a : ℕ) (s : List ℕ) (st : State) (h : 0 < length s) where
  one-is : (d : Result Entry ℕ) → decode_at a s 0 st ≡ d → counted_of (walk_alone true a s (alone st.ro (count_of st))) ≡ counted_of (onward d (alone st.ro (count_of st)) (λ e. Ok (next (alone st.ro (count_of st)) e)))
  unfolding walk_alone
  one-is d q = rw (lt-ltb 0 (length s) h, decode-alone a s 0 st, q) refl

  pub passes-entry : (c : Count) → Ok c ≡ counted_of (walk_alone true a s (alone st.ro (count_of st)))
      → (1 < length s) × (past_entry (with_count st c) (byte_at s 1) ≡ passed st (decode_at a s 0 st))
  passes-entry c q = go (decode_at a s 0 st) refl
    where
      go : (d : Result Entry ℕ) → decode_at a s 0 st ≡ d → (1 < length s) × (past_entry (with_count st c) (byte_at s 1) ≡ passed st d)
      go (Err n) p = let o : Ok c ≡ refuses n (0 + st.entries) = q ∙ one-is (Err n) p in let z : ◌≡◌ {A = ℕ} 0 1 = cc in absurd (omega arith)
      go (Ok e) p =
          let o : Ok c ≡ Ok (count_of (next st e)) = q ∙ one-is (Ok e) p in
          let r : c ≡ count_of (next st e) = cc in
          let g = decode-passed a s 0 st e p in
          (omega (arith, g.within, g.long), rw (r, g.entry) refl)

  pub refuses-entry : (stop : Stop) → Err stop ≡ counted_of (walk_alone true a s (alone st.ro (count_of st)))
      → Err (refusal_at stop st.before) ≡ passed st (decode_at a s 0 st)
  refuses-entry stop q = go (decode_at a s 0 st) refl
    where
      go : (d : Result Entry ℕ) → decode_at a s 0 st ≡ d → Err (refusal_at stop st.before) ≡ passed st d
      go (Ok e) p = let o : ◌≡◌ {A = Result Count Stop} (Err stop) (Ok (count_of (next st e))) = q ∙ one-is (Ok e) p in let z : ◌≡◌ {A = ℕ} 0 1 = cc in absurd (omega arith)
      go (Err m) p =
          let o : Err stop ≡ refuses m (0 + st.entries) = q ∙ one-is (Err m) p in
          rw (err-same _ _ o, zero-add st.entries) refl
