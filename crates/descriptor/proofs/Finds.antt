-- The laws of `found_of`: from where an entry stands, and what a caller learns of the field that is found.
use Rattle.std.specs.Prelude.{Ok, Err}
use mathlib.Core.Path.{◌≡◌, refl, sym, ap, ◌∙◌}
use mathlib.Core.Bool.{Bool, true, false, ◌&&◌, not, cond}
use mathlib.Core.List.{List, [], ◌∷◌}
use Prim.Native.Nat.{ℕ, ◌+◌, ◌≤◌, ◌<◌}
use native.Mathlib.Omega.{arith}
use lib.ListN.{length}
use lib.Dec.{eqb, eqb→eq, ltb, ltb→lt}
use Rattle.std.specs.Prelude.{Some, None}
use borrow.Author.Tests.{not-false}
use Rattle.rules.specs.declared.Refusal.{Refusal}
use Rattle.rules.specs.declared.Refusal.TheVariants.{Plain as plain}
use Rattle.rules.specs.Descriptor.{mask_bytes, entry_at}
use Rattle.rules.specs.Load.{Map, sized, map_of, read_of}
use Rattle.rules.specs.Place.{entry, is_rw, is_lane, has_field, parts_of, width_of, signed_of}
use Rattle.rules.specs.Refuse.{Verdict, passes, refuses, refuse_if, first_of, check9, check_entries, order_of}
use Rattle.rules.specs.Beside.{entry_verdict}
use Rattle.rules.specs.Demands.{Accepted}
use Rattle.rules.proofs.Basics.Tests.{and₂, from-true}
use Rattle.rules.proofs.Refusals.Orders.{order-passes}
use Rattle.rules.proofs.Refusals.Verdicts.{first-passes, refuse-if-passes}
use Rattle.rules.proofs.Load.EntryBytes.{verdict-passes}
use Rattle.rules.proofs.Load.EntryHeads.{Head, entry-head, strings-short}
use Rattle.descriptor.specs.declared.Mark.{Mark}
use Rattle.descriptor.specs.declared.Named.{Named}
use Rattle.descriptor.specs.Locate.{at, located, located_of}
use Rattle.descriptor.specs.Find.{named_of, InMap, found, told_order, found_of, held_in}
use Rattle.descriptor.proofs.Limits.{accepted-sized}
use Rattle.descriptor.proofs.Marks.{mark_of}
use Rattle.descriptor.proofs.Locates.{located-same}

-- what is found of it
module _ (count : ℕ) (first last : List ℕ) {e p i : ℕ} {f : Named} (z : InMap count first last e p i f) where
  pub there : e < length (map_of count first last).entries
  there = ltb→lt _ _ (and₂ (ltb e (length (map_of count first last).entries)) _ (from-true z.has)).0

  pub id-is : f.id ≡ (entry (map_of count first last) e).id
  unfolding named_of
  id-is = ap (λ (x : Named). x.id) (sym z.is)

  pub side-is : f.ro ≡ not (is_rw (map_of count first last) e)
  unfolding named_of
  side-is = ap (λ (x : Named). x.ro) (sym z.is)

  pub offset-is : f.fields.offset ≡ (entry (map_of count first last) e).offset
  unfolding named_of
  offset-is = ap (λ (x : Named). x.fields.offset) (sym z.is)

  pub width-is : f.fields.width ≡ width_of (entry (map_of count first last) e)
  unfolding named_of
  width-is = ap (λ (x : Named). x.fields.width) (sym z.is)

  pub signed-is : f.signed ≡ signed_of (entry (map_of count first last) e)
  unfolding named_of
  signed-is = ap (λ (x : Named). x.signed) (sym z.is)

  step-is : f.step ≡ cond (eqb (entry (map_of count first last) e).id 0x12) (Some (entry (map_of count first last) e).step) None
  unfolding named_of
  step-is = ap (λ (x : Named). x.step) (sym z.is)

  -- 12h alone has a step
  pub step-some : (k : ℕ) → Some k ≡ f.step → ((entry (map_of count first last) e).id ≡ 0x12) × (k ≡ (entry (map_of count first last) e).step)
  step-some k h = go (eqb (entry (map_of count first last) e).id 0x12) refl (h ∙ step-is)
    where
      go : (b : Bool) → eqb (entry (map_of count first last) e).id 0x12 ≡ b
          → Some k ≡ cond b (Some (entry (map_of count first last) e).step) None
          → ((entry (map_of count first last) e).id ≡ 0x12) × (k ≡ (entry (map_of count first last) e).step)
      go true x q = (eqb→eq _ _ (from-true x), cc)
      go false x q = let o : ◌≡◌ {A = ℕ} 0 1 = cc in absurd (omega arith)

  pub step-none : None ≡ f.step → eqb (entry (map_of count first last) e).id 0x12 ≡ false
  step-none h = go (eqb (entry (map_of count first last) e).id 0x12) refl (h ∙ step-is)
    where
      go : (b : Bool) → eqb (entry (map_of count first last) e).id 0x12 ≡ b → None ≡ cond b (Some (entry (map_of count first last) e).step) None → b ≡ false
      go true x q = let o : ◌≡◌ {A = ℕ} 0 1 = cc in absurd (omega arith)
      go false x q = refl

-- a call whose bank is not too short is refused as one that takes none
pub no-check8 : (count : ℕ) (first last : List ℕ) (rest : List Verdict) → told_order count first last false rest ≡ order_of (read_of count first last) rest
unfolding told_order order_of
no-check8 count first last rest = go (check9 (read_of count first last))
  where
    go : (v : Verdict) → first_of (v ∷ passes ∷ check_entries (read_of count first last) ∷ rest) ≡ first_of (v ∷ check_entries (read_of count first last) ∷ rest)
    go passes = refl
    go (refuses r) = refl

-- only a refusal finds nothing
pub found-stops : (v : Verdict) (f : Named) (r : Refusal) → found v (Ok f) ≡ Err r → v ≡ refuses r
found-stops passes f r q = let o : ◌≡◌ {A = ℕ} 0 1 = cc in absurd (omega arith)
found-stops (refuses r') f r q = let z : r' ≡ r = cc in rw z refl

-- 10 of an entry comes before 10 of a part and a lane
entry-first :
    (a b : Verdict) (t u : Bool) (r : Refusal)
    → first_of (a ∷ b ∷ refuse_if (not t) (plain 10) ∷ []) ≡ refuses r
    → first_of (a ∷ b ∷ refuse_if (not (t && u)) (plain 10) ∷ []) ≡ refuses r
entry-first (refuses x) b t u r q = q
entry-first passes (refuses x) t u r q = q
entry-first passes passes true u r q = let o : ◌≡◌ {A = ℕ} 0 1 = cc in absurd (omega arith)
entry-first passes passes false u r q = q

entry-passes :
    (a b : Verdict) (t u : Bool)
    → first_of (a ∷ b ∷ refuse_if (not t) (plain 10) ∷ []) ≡ passes
    → first_of (a ∷ b ∷ refuse_if (not (t && u)) (plain 10) ∷ []) ≡ first_of (refuse_if (not u) (plain 10) ∷ [])
entry-passes (refuses x) b t u q = let o : ◌≡◌ {A = ℕ} 0 1 = cc in absurd (omega arith)
entry-passes passes (refuses x) t u q = let o : ◌≡◌ {A = ℕ} 0 1 = cc in absurd (omega arith)
entry-passes passes passes true u q = refl
entry-passes passes passes false u q = let o : ◌≡◌ {A = ℕ} 0 1 = cc in absurd (omega arith)

module _ (count : ℕ) (first last : List ℕ) (short : Bool) (e p i : ℕ) where
  abbrev m : Map
  m = map_of count first last

  abbrev named : Named
  named = named_of (not (is_rw m e)) (entry m e)

  -- 9 and 8 of a bank that is too short
  pub found-9 : sized count first last ≡ false → Err (plain 9) ≡ found_of count first last short e p i
  unfolding found_of told_order check9
  found-9 h = rw h refl

  pub found-8 : sized count first last ≡ true → short ≡ true → Err (plain 8) ≡ found_of count first last short e p i
  unfolding found_of told_order check9
  found-8 h l = rw (h, l) refl

  module _ (l : short ≡ false) where
    field_verdict : Verdict
    field_verdict = order_of (read_of count first last) (refuse_if (not (has_field m e p i)) (plain 10) ∷ [])

    verdict : found_of count first last short e p i ≡ found field_verdict (Ok named)
    unfolding found_of field_verdict
    verdict = rw (l, no-check8 count first last) refl

    pub located-refused-found : (r : Refusal) → located_of count first last e ≡ Err r → Err r ≡ found_of count first last short e p i
    unfolding located_of entry_verdict order_of field_verdict
    located-refused-found r h = ap (λ v. found v (Ok named)) (sym (go (entry_verdict (read_of count first last) e) refl h)) ∙ sym verdict
      where
        go : (v : Verdict) → entry_verdict (read_of count first last) e ≡ v
            → located v (at (not (is_rw m e)) (mark_of (entry m e)) (entry m e).length) ≡ Err r
            → field_verdict ≡ refuses r
        go passes z q = let o : ◌≡◌ {A = ℕ} 0 1 = cc in absurd (omega arith)
        go (refuses r') z q = let y : r' ≡ r = cc in entry-first (check9 (read_of count first last)) (check_entries (read_of count first last)) (ltb e (length m.entries)) (ltb p (parts_of (entry m e)) && is_lane i) r (z ∙ ap refuses y)

    -- the bytes at its start say what it is
    module _ (x : Bool) (w : Mark) (n : ℕ) (h : located_of count first last e ≡ at x w n) where
      passed : entry_verdict (read_of count first last) e ≡ passes
      unfolding located_of
      passed = go (entry_verdict (read_of count first last) e) h
        where
          go : (v : Verdict) → located v (at (not (is_rw m e)) (mark_of (entry m e)) (entry m e).length) ≡ at x w n → v ≡ passes
          go passes q = refl
          go (refuses r) q = let z : ◌≡◌ {A = ℕ} 0 1 = cc in absurd (omega arith)

      pub located-sized : sized count first last ≡ true
      located-sized = accepted-sized count first last (verdict-passes count first last e passed).0

      tested : field_verdict ≡ first_of (refuse_if (not (ltb p named.fields.parts && is_lane i)) (plain 10) ∷ [])
      unfolding entry_verdict order_of field_verdict named_of
      tested = entry-passes (check9 (read_of count first last)) (check_entries (read_of count first last)) (ltb e (length m.entries)) _ passed

      held : held_in named p i ≡ found_of count first last short e p i
      unfolding held_in
      held = go (ltb p named.fields.parts && is_lane i) ∙ ap (λ v. found v (Ok named)) (sym tested) ∙ sym verdict
        where
          go : (t : Bool) → cond t (Ok named) (Err (plain 10)) ≡ found (first_of (refuse_if (not t) (plain 10) ∷ [])) (Ok named)
          go true = refl
          go false = refl

      pub located-found : (held_in (named_of x (entry_at (mask_bytes count) (cond x last first) w.at w.sum)) p i ≡ found_of count first last short e p i) × (w.at ≤ 120)
      unfolding located_of
      located-found =
          let q : at (not (is_rw m e)) (mark_of (entry m e)) (entry m e).length ≡ at x w n
          = rw passed at h in
          let (a, b, _) = located-same _ _ q in
          let (ok, lt) = verdict-passes count first last e passed in
          let (y, z) = side (is_rw m e) (entry-head count first last ok e lt) in
          (rw (← a, ← b) (ap (λ f. held_in f p i) y ∙ held), rw (← b) (omega (arith, limit (is_rw m e) ok)))
        where
          side : (b : Bool) → Head (mask_bytes count) (cond b first last) (entry m e)
              → (named_of (not b) (entry_at (mask_bytes count) (cond (not b) last first) (entry m e).start (entry m e).offset) ≡ named_of (not b) (entry m e))
              × ((entry m e).start + 2 + mask_bytes count < length (cond b first last))
          side true d = (ap (named_of false) (sym d.says), d.room)
          side false d = (ap (named_of true) (sym d.says), d.room)

          limit : (b : Bool) → Accepted count first last → length (cond b first last) ≤ 120
          limit true ok = (strings-short count first last ok).0
          limit false ok = (strings-short count first last ok).1

    -- for callers

    pub found-refused :
        (r : Refusal)
        → found_of count first last short e p i ≡ Err r
        → order_of (read_of count first last) (refuse_if (not (has_field (map_of count first last) e p i)) (plain 10) ∷ []) ≡ refuses r
    unfolding field_verdict
    found-refused r h = found-stops field_verdict named r (sym verdict ∙ h)

    pub found-in : (f : Named) → found_of count first last short e p i ≡ Ok f → InMap count first last e p i f
    unfolding field_verdict
    found-in f h = go field_verdict refl (sym verdict ∙ h)
      where
        go : (v : Verdict) → field_verdict ≡ v → found v (Ok named) ≡ Ok f → InMap count first last e p i f
        go passes z q =
            let (ok, t) = order-passes count first last _ z in
            record { ok = ok; has = not-false _ (refuse-if-passes _ _ (first-passes _ [] t).0); is = cc }
        go (refuses r) z q = let z : ◌≡◌ {A = ℕ} 0 1 = cc in absurd (omega arith)
