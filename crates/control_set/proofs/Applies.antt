-- Apply: what its pass finds is what the rules say of the map, the bank that it leaves is theirs, and the ways out of the call.
use Rattle.std.specs.Prelude.{Err}
use mathlib.Core.Path.{◌≡◌, refl, sym, ap, ap₂, ◌∙◌}
use mathlib.Core.Logic.{◌⊎◌, inl, inr, ◌≢◌}
use mathlib.Core.Bool.{Bool, true, false, ◌&&◌, not, cond}
use mathlib.Core.List.{List, ◌++◌}
use Prim.Native.Nat.{ℕ, ◌+◌, ◌-◌, ◌*◌, ◌^◌, ◌≤◌, ◌<◌}
use native.Mathlib.Omega.{arith}
use native.Mathlib.Decide.{dec_lt}
use lib.ListN.{length, get_or}
use lib.Dec.{eqb, leb}
use borrow.Author.Tests.{lt-ltb, ne_eqb}
use Rattle.rules.specs.Words.{accepted, says_yes}
use Rattle.rules.specs.declared.Entry.{Entry}
use Rattle.rules.specs.declared.Call.{Call}
use Rattle.rules.specs.declared.Refusal.{Refusal}
use Rattle.rules.specs.declared.Refusal.TheVariants.{Plain as plain}
use Rattle.rules.specs.Numbers.{cut, any}
use Rattle.rules.specs.Descriptor.{mask_bytes, byte_at, high_first, is_app, has_app}
use Rattle.rules.specs.Load.{load_of, rw_entries, Map, map_of, map_within, read_of}
use Rattle.rules.specs.Place.{held_by, length_of, entry, parts_of, width_of, signed_of, field_byte, field_bit, is_set, Field}
use Rattle.rules.specs.Accept.{accepts, from_bits}
use Rattle.rules.specs.Layout.{bank_size, set_start}
use Rattle.rules.specs.Refuse.{first_of, bank_order, exists, misdirected, unaccepted, judge, chooses, passes, refuses, at_lowest}
use Rattle.rules.specs.Source.{kept, copied, is_copied}
use Rattle.rules.specs.Bank.{Bank, field_at, get_field, number_in, app_sel_in, bank_lacks_app, bank_source, bits_from, bank_holds_bad, bank_plan, apply_bank, bank_does, bank_call}
use Rattle.rules.specs.Demands.{Accepted}
use Rattle.rules.proofs.Apply.Plans.{lowest-same}
use Rattle.rules.proofs.Apply.Applied.{Applied, apply-is, apply-bytes, applied-one}
use Rattle.rules.proofs.Bank.Places.{named-has-bytes, set-inside}
use Rattle.rules.proofs.Basics.Any.{any-ext}
use Rattle.rules.proofs.Basics.Tests.{by-test}
use Rattle.rules.proofs.Load.Checks.{high-one, high-two}
use Rattle.rules.proofs.Load.EntryHeads.{in-rw}
use Rattle.rules.proofs.Load.Walks.{map-good, load-accepted}
use Rattle.rules.proofs.Place.AcceptedMap.{GoodMap, rw-held, entry-good, entry-ends, entries-apart}
use Rattle.rules.proofs.Place.CoveredBytes.{In, in-field}
use Rattle.rules.proofs.Place.Fields.{in-set, in-byte}
use Rattle.rules.proofs.Place.Owners.{covers-says}
use Rattle.rules.proofs.Refusals.CallOrder.{call-refused, call-does, judge-ok}
use Rattle.rules.proofs.Refusals.Orders.{bank-order-accepted}
use Rattle.rules.proofs.Refusals.PlanRules.{is-copied}
use Rattle.descriptor.proofs.EntryReads.{mark-on, read-is, read-entry}
use Rattle.control_set.specs.declared.chosen.Chosen.{Chosen}
use Rattle.control_set.specs.Field.{bits_at}
use Rattle.control_set.specs.Gate.{Opened}
use Rattle.control_set.specs.Lanes.{NoLane}
use Rattle.control_set.specs.Asked.{Asked}
use Rattle.control_set.specs.Chosen.{app_of, copies_by, lacks_by}
use Rattle.control_set.specs.Plan.{Arranged, rw_entry, end_of, Walk, refused_at, refused_in, refused_among, Planned, Merged}
use Rattle.control_set.proofs.LaneMasks.{any-clear, no-lane, width-whole}
use Rattle.control_set.proofs.Masks.{cut-merged, merge-by-lt, merge-by-none}
use Rattle.control_set.proofs.Outcomes.{count-top, call-10, call-11}
use Rattle.control_set.proofs.Spots.{number-field}

-- an application mask of bytes
mask-small : (count : ℕ) (s : List ℕ) (at : ℕ) → ((i : ℕ) → byte_at s i < 256) → high_first s at (mask_bytes count) < 0x10000
unfolding mask_bytes
mask-small count s at b =
    by-test (λ n. high_first s at n < 0x10000) (leb count 8) 1 2
    (λ _. rw (high-one s at) (omega (arith, b at)))
    (λ _. rw (high-two s at) (omega (arith, b at, b (at + 1))))

and-any : (t : Bool) (n : ℕ) (f : ℕ → Bool) → (t && any n f) ≡ any n (λ k. t && f k)
and-any true n f = refl
and-any false n f = sym (any-clear n (λ k. false) (λ k. refl))

from-source : (t : Bool) (m : Map) (b : Bank) (s e p i : ℕ) → bits_from (cond t copied kept) m b s e p i ≡ cond t (get_field m b s e p i) (get_field m b 2 e p i)
from-source true m b s e p i = refl
from-source false m b s e p i = refl

-- the RW entries of strings that load
module _ (count : ℕ) (first last : List ℕ) (n k c t : ℕ) (h : load_of count first last ≡ accepted n k c t) where
  abbrev m : Map
  m = map_of count first last

  ok : Accepted count first last
  ok = record { rw_count = n; ro_count = k; staged = c; active = t; loads = h }

  good : GoodMap (map_of count first last)
  good = map-good count first last ok

  all : length (rw_entries count first) ≡ n
  all = sym (load-accepted count first last n k c t h).rw_count

  in-map : (e : ℕ) → e < n → e < (map_of count first last).rw_count
  unfolding map_within
  in-map e l = omega (arith, all)

  all-map : (map_of count first last).rw_count ≡ n
  unfolding map_within
  all-map = all

  map-count : (map_of count first last).count ≡ count
  unfolding map_within
  map-count = refl

  is : (e : ℕ) → e < n → rw_entry count first e ≡ entry (map_of count first last) e
  is e l = sym (in-rw count first last ok e (in-map e l))

  arranged : Arranged n (rw_entry count first)
  arranged =
      record {
        spread = λ e l some.
            let g = rw (← is e l) at (entry-good m good 2 e (rw-held m good 2 e (in-map e l))) in
            let u = rw (← is e l) at (entry-ends m good 2 e (rw-held m good 2 e (in-map e l))) in
            record { some = some; whole = width-whole _ (g.width some); inside = omega (arith, g.room, u) };
        order = λ e e' l l'.
            let g = rw (← is e (omega arith)) at (entry-good m good 2 e (rw-held m good 2 e (in-map e (omega arith)))) in
            let u = rw (← is e (omega arith), ← is e' l') at (entries-apart m good 2 2 e e' (rw-held m good 2 e (in-map e (omega arith))) (rw-held m good 2 e' (in-map e' l')) l) in
            omega (arith, g.room, u);
      }

  pub walk : Walk count first n
  walk =
      record {
        arranged = arranged;
        low = λ e l. (mark-on count first last n k c t h e l).place;
        is = read-is count first last n k c t h;
        read = read-entry count first last n k c t h;
      }

  -- the staged length: at most a set's, and no RW entry has fields from it on
  pub staged-most : c ≤ 256
  unfolding map_within length_of
  staged-most = omega (arith, good.lengths 0, (load-accepted count first last n k c t h).staged)

  pub staged-none : {q : Chosen} {plan : List ℕ} → Planned q n (rw_entry count first) plan → (j : ℕ) → c ≤ j → get_or plan j 0 ≡ 0
  unfolding map_within length_of held_by
  staged-none pl j l =
      pl.rest j
      λ e he. inr
      (let g = rw (← is e he) at (entry-good m good 2 e (rw-held m good 2 e (in-map e he))) in
      let u = rw (← is e he) at (good.ends 0 e (in-map e he)) in
      omega (arith, g.room, u, (load-accepted count first last n k c t h).staged))

  -- what is asked
  module _ (q : Chosen) (same : q.desc.count ≡ count) where
    abbrev s : ℕ
    s = q.set

    abbrev lanes : ℕ
    lanes = q.lanes

    abbrev b : Bank
    b = q.bank.now

    counted : q.desc.count ≡ (map_of count first last).count
    counted = same ∙ sym map-count

    lacks-is : (i : ℕ) → lacks_by q i ≡ bank_lacks_app (map_of count first last) q.bank.now q.set q.lanes i
    unfolding lacks_by bank_lacks_app
    lacks-is i = ap (λ n. chooses lanes i && not (is_app n (app_of q i))) counted

    -- an entry, as the rules see it
    module _ (e : ℕ) (he : e < n) where
      abbrev x : Entry
      x = rw_entry count first e

      copies-is : (i : ℕ) → copies_by q (rw_entry count first e).mask i ≡ is_copied (bank_source (map_of count first last) b s lanes e i)
      unfolding bank_source
      copies-is i = ap₂ (λ (n : ℕ) (y : Entry). chooses lanes i && has_app n y.mask (app_of q i)) counted (is e he) ∙ sym (is-copied _)

      fine-is : (p i : ℕ)
          → p < parts_of x
          → accepts x (from_bits (signed_of x) (width_of x) (bits_at b s x.offset p (width_of x) i))
          ≡ accepts (entry (map_of count first last) e) (number_in (map_of count first last) b s e p i)
      fine-is p i hp = ap₂ accepts (is e he) (number-field m b s e p i x (is e he) (width_of x) refl (signed_of x) refl)

      refused-is : (i : ℕ)
          → (copies_by q (rw_entry count first e).mask i && refused_in s (rw_entry count first e) b i)
          ≡ any (parts_of (entry (map_of count first last) e)) (λ p. is_copied (bank_source (map_of count first last) b s lanes e i) && not (accepts (entry (map_of count first last) e) (number_in (map_of count first last) b s e p i)))
      unfolding refused_in refused_at
      refused-is i =
          and-any (copies_by q x.mask i) (parts_of x) (λ p. not (accepts x (from_bits (signed_of x) (width_of x) (bits_at b s x.offset p (width_of x) i))))
          ∙ any-ext (parts_of x) _ _ (λ p hp. ap₂ (λ (c v : Bool). c && not v) (copies-is i) (fine-is p i hp))
          ∙ ap (λ (y : Entry). any (parts_of y) λ p. is_copied (bank_source m b s lanes e i) && not (accepts (entry m e) (number_in m b s e p i))) (is e he)

    among-is : (i : ℕ) → refused_among q n (rw_entry count first) i ≡ bank_holds_bad (map_of count first last) b s lanes i
    unfolding refused_among bank_holds_bad
    among-is i =
        any-ext n _ _ (λ e he. refused-is e he i)
        ∙ ap (λ (n : ℕ). any n λ e. any (parts_of (entry m e)) λ p. is_copied (bank_source m b s lanes e i) && not (accepts (entry m e) (number_in m b s e p i))) (sym all-map)

    -- the bank after the copy
    module _ (bytes : (j : ℕ) → j < bank_size → get_or b j 0 < 256) {plan : List ℕ} {after : Bank} (pl : Planned q n (rw_entry count first) plan) (me : Merged 256 s plan b after) where
      abbrev v : ℕ → ℕ → Bool
      v e i = chooses lanes i && has_app m.count (entry m e).mask (app_sel_in b s i)

      planned : (e p i : ℕ) → e < n → Field (map_of count first last) 2 e p i
          → cut (get_or plan (field_byte (entry (map_of count first last) e) p i) 0) (field_bit (entry (map_of count first last) e) i) (width_of (entry (map_of count first last) e))
          ≡ cond (v e i) (2 ^ width_of (entry (map_of count first last) e) - 1) 0
      unfolding map_within
      planned e p i l f =
          (rw (is e l) at (pl.fields e p i l (rw (is e l) f.part) f.low f.top))
          ∙ ap (λ (n : ℕ). cond (chooses lanes i && has_app n (entry m e).mask (app_of q i)) (2 ^ width_of (entry m e) - 1) 0) counted

      fields : (e p i : ℕ) → e < (map_of count first last).rw_count → Field (map_of count first last) 2 e p i
          → get_field (map_of count first last) after 2 e p i ≡ bits_from (bank_source (map_of count first last) b s lanes e i) (map_of count first last) b s e p i
      unfolding get_field bank_source
      fields e p i he f =
          rw (me.here (field_byte (entry m e) p i) (in-set m good f))
          (cut-merged _ _ (get_or plan (field_byte (entry m e) p i) 0) (field_bit (entry m e) i) (width_of (entry m e)) (pl.small _) (in-byte m good f) (v e i) (planned e p i (rw all-map at he) f)
          ∙ sym (from-source (v e i) m b s e p i))

      -- a byte that no RW field has
      outside : (j : ℕ)
          → ((e p i : ℕ) → e < (map_of count first last).rw_count → Field (map_of count first last) 2 e p i → set_start 2 + j ≢ field_at (map_of count first last) 2 e p i)
          → (e : ℕ) → e < n
          → (j < (rw_entry count first e).offset) ⊎ (end_of (rw_entry count first e) ≤ j)
      outside j out e l = rw (is e l) (go (dec_lt j x.offset) (dec_lt j (x.offset + parts_of x * width_of x)))
        where
          x : Entry
          x = entry m e

          go : Dec (j < x.offset) → Dec (j < x.offset + parts_of x * width_of x) → (j < x.offset) ⊎ (x.offset + parts_of x * width_of x ≤ j)
          go (yes a) d = inl a
          go (no a) (no d) = inr (omega arith)
          go (no a) (yes d) =
              let h : In m 2 e j = record { ent = rw-held m good 2 e (in-map e l); low = omega arith; top = d } in
              let (p, i, f, q) = in-field m good h (named-has-bytes 2 (omega arith)) 0 (omega arith) in
              absurd (out e p i (in-map e l) f (ap (λ (n : ℕ). set_start 2 + n) (sym (covers-says {m = m} q).byte)))

      byte-left : (j : ℕ) → j < 256
          → ((e p i : ℕ) → e < (map_of count first last).rw_count → Field (map_of count first last) 2 e p i → set_start 2 + j ≢ field_at (map_of count first last) 2 e p i)
          → get_or after (set_start 2 + j) 0 ≡ get_or b (set_start 2 + j) 0
      byte-left j hj out =
          me.here j hj
          ∙ rw (pl.rest j (outside j out)) (merge-by-none (get_or b (set_start 2 + j) 0) (get_or b (set_start s + j) 0) 0 (bytes _ (set-inside 2 j (named-has-bytes 2 (omega arith)) hj)))

      -- byte j of the bank is in the active set or not
      either-way : (P : ℕ → Type 0) → ((j : ℕ) → j < 256 → P (set_start 2 + j)) → ((j : ℕ) → ((k : ℕ) → k < 256 → j ≢ set_start 2 + k) → P j) → (j : ℕ) → P j
      either-way P yes' no' j = go (dec_lt j (set_start 2)) (dec_lt j (set_start 2 + 256))
        where
          go : Dec (j < set_start 2) → Dec (j < set_start 2 + 256) → P j
          go (yes a) d = no' j (λ k u q. omega arith)
          go (no a) (no d) = no' j (λ k u q. omega arith)
          go (no a) (yes d) = let e : set_start 2 + (j - set_start 2) ≡ j = omega arith in rw e at (yes' (j - set_start 2) (omega arith))

      applied : Applied (map_of count first last) s lanes b after
      applied =
          record {
            size = me.size;
            fields = fields;
            rest = either-way
                (λ j. ((e p i : ℕ) → e < m.rw_count → Field m 2 e p i → j ≢ field_at m 2 e p i) → get_or after j 0 ≡ get_or b j 0)
                byte-left
                (λ j o out. me.rest j o);
          }

      pub apply-copied : after ≡ apply_bank (map_of count first last) q.set q.lanes q.bank.now
      apply-copied =
          applied-one m good s lanes b after (apply_bank m s lanes b) applied (apply-is m good s lanes b q.asked.size)
          (either-way (λ j. j < bank_size → get_or after j 0 < 256)
          (λ j hj _. rw (me.here j hj) (merge-by-lt (get_or b (set_start 2 + j) 0) (get_or b (set_start s + j) 0) (get_or plan j 0) (pl.small j)))
          (λ j o u. rw (me.rest j o) (bytes j u)))
          (apply-bytes m good s lanes b q.asked.size bytes)

  -- the ways out of the call, past 9, 8 and the checks of the entries
  module _ (s lanes : ℕ) (b : Bank) (size : bank_size ≤ length b) where
    abbrev call : Call
    call = Call.Apply s lanes

    o : Opened count first last (length b) n k c t
    o = record { size-is = size; loads = h }

    pub apply-asked : s < 2 → Asked count s b
    apply-asked l = record { count = count-top count first last h; staged = l; size = size }

    pub apply-10 : is_set s ≡ false → bank_call count first last (Call.Apply s lanes) b ≡ (Err (plain 10), b)
    unfolding exists
    apply-10 h = call-10 count first last call b o h

    module _ (is : is_set s ≡ true) where
      pub apply-11 : eqb s 2 ≡ true → bank_call count first last (Call.Apply s lanes) b ≡ (Err (plain 11), b)
      unfolding exists misdirected
      apply-11 l = call-11 count first last call b o is l

  module _ (q : Chosen) (same : q.desc.count ≡ count) where
    abbrev asks : Call
    asks = Call.Apply q.set q.lanes

    order : bank_order (read_of count first last) (length q.bank.now) (judge (map_of count first last) (Call.Apply q.set q.lanes) ++ bank_plan (map_of count first last) (Call.Apply q.set q.lanes) q.bank.now)
        ≡ first_of (bank_plan (map_of count first last) (Call.Apply q.set q.lanes) q.bank.now)
    unfolding exists misdirected unaccepted
    order =
        bank-order-accepted count first last ok (length q.bank.now) _ q.asked.size
        ∙ judge-ok m asks (bank_plan m asks q.bank.now) (lt-ltb q.set 3 (omega (arith, q.asked.staged))) (ne_eqb q.set 2 (λ e. omega (arith, q.asked.staged))) refl

    pub apply-13 : (r : Refusal) → at_lowest 13 (lacks_by q) ≡ refuses r → bank_call count first last (Call.Apply q.set q.lanes) q.bank.now ≡ (Err r, q.bank.now)
    unfolding bank_plan
    apply-13 r z = call-refused count first last asks q.bank.now r (order ∙ rw (lowest-same 13 _ (lacks_by q) (λ i _ _. sym (lacks-is q same i)), z) refl)

    module _ (served : NoLane (lacks_by q)) where
      passed : at_lowest 13 (bank_lacks_app (map_of count first last) q.bank.now q.set q.lanes) ≡ passes
      passed = no-lane 13 _ (λ i l u. sym (lacks-is q same i) ∙ served i l u)

      pub apply-14 : (r : Refusal) → at_lowest 14 (refused_among q n (rw_entry count first)) ≡ refuses r → bank_call count first last (Call.Apply q.set q.lanes) q.bank.now ≡ (Err r, q.bank.now)
      unfolding bank_plan
      apply-14 r z = call-refused count first last asks q.bank.now r (order ∙ rw (passed, lowest-same 14 _ (refused_among q n (rw_entry count first)) (λ i _ _. sym (among-is q same i)), z) refl)

      pub apply-done : NoLane (refused_among q n (rw_entry count first)) → bank_call count first last (Call.Apply q.set q.lanes) q.bank.now ≡ (says_yes, apply_bank (map_of count first last) q.set q.lanes q.bank.now)
      unfolding bank_plan bank_does
      apply-done z = call-does count first last asks q.bank.now (order ∙ rw (passed, no-lane 14 _ (λ i l u. sym (among-is q same i) ∙ z i l u)) refl)
