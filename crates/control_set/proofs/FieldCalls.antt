-- A call that names a field: what `find` says of 9, 8, the entries' checks and 10, and the rules' tests of the call, from the entry that is found.
use Rattle.std.specs.Prelude.{Result, Ok, Err}
use mathlib.Core.Path.{◌≡◌, refl, sym, ap, ◌∙◌}
use mathlib.Core.Bool.{Bool, true, false, ◌&&◌, ◌||◌, not}
use mathlib.Core.List.{List, [], ◌∷◌}
use Prim.Native.Nat.{ℕ, ◌^◌, ◌<◌}
use native.Mathlib.Omega.{arith}
use lib.IntN.{ℤ}
use lib.ListN.{length}
use Rattle.std.specs.Prelude.{Some, None}
use lib.Dec.{T, ltb, eqb, ltb→lt, eqb→eq}
use borrow.Author.Tests.{ltb-false, eq-eqb}
use Rattle.rules.specs.Words.{the_field, number}
use Rattle.rules.specs.declared.Call.{Call}
use Rattle.rules.specs.declared.Refusal.{Refusal}
use Rattle.rules.specs.declared.Refusal.TheVariants.{Plain as plain}
use Rattle.rules.specs.Parameter.{row_of}
use Rattle.rules.specs.Load.{Map, sized, map_of, read_of}
use Rattle.rules.specs.Place.{entry, parts_of, width_of, signed_of, is_set, is_staged, is_rw, is_lane, held_by, has_field, Field}
use Rattle.rules.specs.Accept.{accepts, to_bits, weight_of}
use Rattle.rules.specs.Layout.{bank_size, HasBytes}
use Rattle.rules.specs.Refuse.{Verdict, passes, refuses, refuse_if, first_of, check9, check8, check_entries, bank_order, exists, misdirected}
use Rattle.rules.specs.Bank.{Bank, number_in, with_number, bank_call}
use Rattle.rules.specs.Beside.{is_weighed, weight_call}
use Rattle.rules.proofs.Basics.Tests.{and₃, is-true, not-not, or-no, from-true, and-yes, and-no}
use Rattle.rules.proofs.Place.AcceptedMap.{GoodMap, rw-held}
use Rattle.rules.proofs.Place.Fields.{field-of, active-held, read-held}
use Rattle.rules.proofs.Load.Walks.{map-good}
use Rattle.rules.proofs.Refusals.CallOrder.{judge-10, call-refused}
use Rattle.rules.proofs.Refusals.Orders.{bank-order-accepted}
use Rattle.rules.proofs.Bank.Places.{named-has-bytes}
use Rattle.descriptor.specs.declared.Named.{Named}
use Rattle.descriptor.specs.Find.{accepted_by, told_order, found_of}
use Rattle.descriptor.proofs.Accepts.{named-accepts}
use Rattle.descriptor.proofs.Finds.{side-is, offset-is, width-is, signed-is, step-some, step-none, found-stops, found-9, found-8, found-in}
use Rattle.control_set.specs.Field.{Spot, InBits, bits_at, with_bits}
use Rattle.control_set.specs.Values.{number_by}
use Rattle.control_set.specs.Gate.{Opened, Entered, FieldGated}
use Rattle.control_set.proofs.Spots.{width-room, spot-field, bits-at-lt, number-field, with-number}
use Rattle.control_set.proofs.Signs.{accepted-byte}
use Rattle.control_set.proofs.Values.{number-named}

-- what comes before 10, and 10 itself, in the order of any call that gives 10 to a field that doesn't exist
pass-on :
    (a b c : Verdict) (t : Bool) (r : Refusal) (rest : List Verdict)
    → first_of (a ∷ b ∷ c ∷ refuse_if (not t) (plain 10) ∷ []) ≡ refuses r
    → (t ≡ false → first_of rest ≡ refuses (plain 10))
    → first_of (a ∷ b ∷ c ∷ rest) ≡ refuses r
pass-on (refuses x) b c t r rest q k = q
pass-on passes (refuses x) c t r rest q k = q
pass-on passes passes (refuses x) t r rest q k = q
pass-on passes passes passes true r rest q k = let o : ◌≡◌ {A = ℕ} 0 1 = cc in absurd (omega arith)
pass-on passes passes passes false r rest q k = k refl ∙ q

module _ (count : ℕ) (first last : List ℕ) (size e p i : ℕ) where
  abbrev m : Map
  m = map_of count first last

  verdict : Verdict
  verdict = bank_order (read_of count first last) size (refuse_if (not (has_field m e p i)) (plain 10) ∷ [])

  pub found-gated : (f : Result Named Refusal) → f ≡ found_of count first last (ltb size bank_size) e p i → FieldGated count first last size e p i f
  unfolding found_of told_order bank_order check8 verdict
  found-gated (Err r) q =
      λ rest k. pass-on (check9 (read_of count first last)) (check8 size) (check_entries (read_of count first last)) (has_field m e p i) r rest
      (found-stops verdict _ r (sym q)) k
  found-gated (Ok f) q = go (ltb size bank_size) refl (sized count first last) refl
    where
      go : (x : Bool) → ltb size bank_size ≡ x → (t : Bool) → sized count first last ≡ t → Entered count first last size e p i f
      go true l true h = let z = found-8 count first last (ltb size bank_size) e p i h l ∙ sym q in let o : ◌≡◌ {A = ℕ} 0 1 = cc in absurd (omega arith)
      go true l false h = let z = found-9 count first last (ltb size bank_size) e p i h ∙ sym q in let o : ◌≡◌ {A = ℕ} 0 1 = cc in absurd (omega arith)
      go false l t h =
          record { size-is = ltb-false size bank_size l; named = found-in count first last (ltb size bank_size) e p i l f (sym q) }

-- the rules' tests of a call on a field, in the numbers of the entry that is found
module _ (count : ℕ) (first last : List ℕ) (b : Bank) {e p i : ℕ} {f : Named} (t : Entered count first last (length b) e p i f) where
  abbrev n : Map
  n = map_of count first last

  good : GoodMap (map_of count first last)
  good = map-good count first last t.named.ok

  pub entered-opened : Opened count first last (length b) t.named.ok.rw_count t.named.ok.ro_count t.named.ok.staged t.named.ok.active
  entered-opened = record { size-is = t.size-is; loads = t.named.ok.loads }

  -- 10
  has : T (has_field (map_of count first last) e p i)
  has = from-true t.named.has

  pub write-tested : (s : ℕ) (v : ℤ) → exists (map_of count first last) (Call.Write s (the_field e p i) v) ≡ is_set s
  unfolding exists
  write-tested s v = rw t.named.has (and-yes (is_set s))

  pub read-tested : (s : ℕ) → exists (map_of count first last) (Call.Read s (the_field e p i)) ≡ is_set s
  unfolding exists
  read-tested s = rw t.named.has (and-yes (is_set s))

  pub publish-tested : (v : ℤ) → exists (map_of count first last) (Call.Publish (the_field e p i) v) ≡ true
  unfolding exists
  publish-tested v = t.named.has

  -- 11
  pub write-directed : (s : ℕ) (v : ℤ) → misdirected (map_of count first last) (Call.Write s (the_field e p i) v) ≡ (eqb s 2 || f.ro)
  unfolding misdirected
  write-directed s v = rw (side-is count first last t.named) refl

  pub read-directed : (s : ℕ) → misdirected (map_of count first last) (Call.Read s (the_field e p i)) ≡ (is_staged s && f.ro)
  unfolding misdirected
  read-directed s = rw (side-is count first last t.named) refl

  pub publish-directed : (v : ℤ) → misdirected (map_of count first last) (Call.Publish (the_field e p i) v) ≡ not f.ro
  unfolding misdirected
  publish-directed v = rw (side-is count first last t.named) (twice (is_rw (map_of count first last) e))
    where
      twice : (a : Bool) → a ≡ not (not a)
      twice true = refl
      twice false = refl

  -- 12
  accepts-is : (v : ℤ) → accepted_by f v ≡ accepts (entry (map_of count first last) e) v
  accepts-is v =
      let l : p < parts_of (entry n e) = ltb→lt _ _ (and₃ (ltb e (length n.entries)) (ltb p (parts_of (entry n e))) (is_lane i) has).1 in
      ap (λ (y : Named). accepted_by y v) (sym t.named.is) ∙ named-accepts (not (is_rw n e)) (entry n e) v (omega arith)

  pub value-tested : (v : ℤ) → not (accepts (entry (map_of count first last) e) v) ≡ not (accepted_by f v)
  value-tested v = ap not (sym (accepts-is v))

  -- the field, past 10 and 11
  field-there : (s : ℕ) → HasBytes s → e < held_by (map_of count first last) s → Field (map_of count first last) s e p i
  field-there s l h = field-of n s e p i l h has

  is-rw : f.ro ≡ false → T (is_rw (map_of count first last) e)
  is-rw h = not-not (is_rw n e) (from-true (ap not (sym (side-is count first last t.named) ∙ h)))

  pub write-there : (s : ℕ) → is_set s ≡ true → (eqb s 2 || f.ro) ≡ false → Field (map_of count first last) s e p i
  write-there s h k =
      field-there s (named-has-bytes s (ltb→lt s 3 (from-true h))) (rw-held n good s e (ltb→lt _ _ (is-rw (or-no (eqb s 2) f.ro k).1)))

  pub read-there : (s : ℕ) → is_set s ≡ true → (is_staged s && f.ro) ≡ false → Field (map_of count first last) s e p i
  read-there s h k =
      let l : (is_staged s && not (is_rw n e)) ≡ false = rw (← (side-is count first last t.named)) k in
      field-there s (named-has-bytes s (ltb→lt s 3 (from-true h))) (read-held n good s e p i (from-true h) has (from-true (ap not l)))

  pub publish-there : Field (map_of count first last) 2 e p i
  publish-there = field-there 2 (named-has-bytes 2 (omega arith)) (active-held n e p i has)

  pub spot-there : {s : ℕ} → Field (map_of count first last) s e p i → Spot b s f.fields.offset p f.fields.width i
  spot-there {s} x = rw (offset-is count first last t.named) (spot-field n b s e p i (entry n e) refl f.fields.width (width-is count first last t.named) good x t.size-is)

  -- its number, and the bank with a number in it
  pub number-there :
      {s : ℕ}
      → Field (map_of count first last) s e p i
      → number_by f.signed (bits_at b s f.fields.offset p f.fields.width i) ≡ number_in (map_of count first last) b s e p i
  number-there {s} x =
      rw ((signed-is count first last t.named), (offset-is count first last t.named), (width-is count first last t.named))
      (number-named (entry n e) (bits_at b s (entry n e).offset p (width_of (entry n e)) i) (bits-at-lt b s (entry n e).offset p (width_of (entry n e)) i)
      ∙ number-field n b s e p i (entry n e) refl (width_of (entry n e)) refl (signed_of (entry n e)) refl)

  pub stored-there : (s : ℕ) (v : ℤ) → with_bits b s f.fields.offset p f.fields.width i (to_bits f.fields.width v) ≡ with_number (map_of count first last) b s e p i v
  stored-there s v = rw (offset-is count first last t.named) (with-number n b s e p i (entry n e) refl f.fields.width (width-is count first last t.named) v)

  -- an accepted value has the field's bits
  pub value-bits :
      {s : ℕ}
      → Field (map_of count first last) s e p i
      → (v : ℤ)
      → accepted_by f v ≡ true
      → InBits 8 v × (to_bits 8 v ≡ to_bits f.fields.width v) × (to_bits f.fields.width v < 2 ^ f.fields.width)
  value-bits x v h =
      let k = spot-there x in
      let r = width-room f.fields.width i k.whole k.low in
      rw (width-is count first last t.named)
      (accepted-byte (entry n e) v (rw (width-is count first last t.named) at k.whole) (rw (width-is count first last t.named) at r.some) (from-true (sym (accepts-is v) ∙ h)))

-- refused by the gate
module _ (count : ℕ) (first last : List ℕ) (b : Bank) (e p i : ℕ) where
  pub call-unfound :
      (c : Call)
      → (has_field (map_of count first last) e p i ≡ false → exists (map_of count first last) c ≡ false)
      → (r : Refusal)
      → FieldGated count first last (length b) e p i (Err r)
      → bank_call count first last c b ≡ (Err r, b)
  call-unfound c away r h = call-refused count first last c b r (h _ λ l. judge-10 (map_of count first last) c _ (away l))

  module _ (l : has_field (map_of count first last) e p i ≡ false) where
    pub no-write : (s : ℕ) (v : ℤ) → exists (map_of count first last) (Call.Write s (the_field e p i) v) ≡ false
    unfolding exists
    no-write s v = rw l (and-no (is_set s))

    pub no-read : (s : ℕ) → exists (map_of count first last) (Call.Read s (the_field e p i)) ≡ false
    unfolding exists
    no-read s = rw l (and-no (is_set s))

    pub no-publish : (v : ℤ) → exists (map_of count first last) (Call.Publish (the_field e p i) v) ≡ false
    unfolding exists
    no-publish v = l

-- weight
module _ (count : ℕ) (first last : List ℕ) (b : Bank) (e i : ℕ) where
  parts-12 : (entry (map_of count first last) e).id ≡ 0x12 → parts_of (entry (map_of count first last) e) ≡ 1
  unfolding row_of parts_of
  parts-12 h = ap (λ (j : ℕ). (row_of j).parts) h

  unweighed : has_field (map_of count first last) e 0 i ≡ false → is_weighed (map_of count first last) e i ≡ false
  unweighed h = go (ltb e (length (map_of count first last).entries)) (eqb (entry (map_of count first last) e).id 0x12) refl h
    where
      go : (x y : Bool) → eqb (entry (map_of count first last) e).id 0x12 ≡ y
          → (x && (ltb 0 (parts_of (entry (map_of count first last) e)) && is_lane i)) ≡ false
          → (x && (y && is_lane i)) ≡ false
      go false y q z = refl
      go true false q z = refl
      go true true q z = rw (parts-12 (eqb→eq _ _ (from-true q))) at z

  pub weight-unfound : (r : Refusal) → FieldGated count first last (length b) e 0 i (Err r) → Err r ≡ weight_call count first last b e i
  unfolding weight_call
  weight-unfound r h =
      rw (h (refuse_if (not (is_weighed (map_of count first last) e i)) (plain 10) ∷ []) λ l. rw (unweighed l) refl) refl

  module _ {f : Named} (t : Entered count first last (length b) e 0 i f) where
    order : bank_order (read_of count first last) (length b) (refuse_if (not (is_weighed (map_of count first last) e i)) (plain 10) ∷ [])
        ≡ first_of (refuse_if (not (eqb (entry (map_of count first last) e).id 0x12)) (plain 10) ∷ [])
    order =
        let (x, _, y) = and₃ (ltb e (length (map_of count first last).entries)) (ltb 0 (parts_of (entry (map_of count first last) e))) (is_lane i) (from-true t.named.has) in
        let x' = is-true (ltb e (length (map_of count first last).entries)) x in
        let y' = is-true (is_lane i) y in
        bank-order-accepted count first last t.named.ok (length b) _ t.size-is
        ∙ rw (x', y', and-yes (eqb (entry (map_of count first last) e).id 0x12)) refl

    pub weight-10 : None ≡ f.step → Err (plain 10) ≡ weight_call count first last b e i
    unfolding weight_call
    weight-10 h = rw (order, step-none count first last t.named h) refl

    module _ (k : ℕ) (h : Some k ≡ f.step) where
      is-12 : (entry (map_of count first last) e).id ≡ 0x12
      is-12 = (step-some count first last t.named k h).0

      signed-12 : f.signed ≡ true
      unfolding row_of signed_of
      signed-12 = signed-is count first last t.named ∙ ap (λ (j : ℕ). (row_of j).signed) is-12

      pub weight-spot : Spot b 2 f.fields.offset 0 f.fields.width i
      weight-spot = spot-there count first last b t (publish-there count first last b t)

      pub weight-is : number (weight_of k (number_by true (bits_at b 2 f.fields.offset 0 f.fields.width i))) ≡ weight_call count first last b e i
      unfolding weight_call
      weight-is =
          let z : number_by true (bits_at b 2 f.fields.offset 0 f.fields.width i) ≡ number_in (map_of count first last) b 2 e 0 i
          = rw signed-12 at (number-there count first last b t (publish-there count first last b t)) in
          rw (order, eq-eqb _ 0x12 is-12, (step-some count first last t.named k h).1) (ap (λ v. number (weight_of (entry (map_of count first last) e).step v)) z)
