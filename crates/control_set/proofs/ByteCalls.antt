-- A call that names a byte: its gate, from the entry that covers the byte.
use Rattle.std.specs.Prelude.{Err}
use mathlib.Core.Path.{◌≡◌, refl, ◌∙◌}
use mathlib.Core.Logic.{◌≢◌}
use mathlib.Core.Bool.{Bool, true, false, ◌&&◌, not, cond}
use mathlib.Core.List.{List}
use Prim.Native.Nat.{ℕ, ◌+◌, ◌-◌, ◌*◌, ◌%◌, ◌≤◌, ◌<◌}
use native.Mathlib.Omega.{arith}
use native.Mathlib.Nat.{mod-eq_of_lt}
use lib.IntN.{pos}
use lib.ListN.{length, get_or, set}
use lib.Dec.{ltb, ltb→lt}
use borrow.Author.Tests.{ltb-true, ltb-false, lt-ltb, le-ltb, eq-eqb, ne_eqb}
use Rattle.rules.specs.Words.{number, says_yes}
use Rattle.rules.specs.declared.Refusal.{Refusal}
use Rattle.rules.specs.declared.Refusal.TheVariants.{Plain as plain}
use Rattle.rules.specs.declared.Call.{Call}
use Rattle.rules.specs.Load.{Map, sized, map_of, read_of}
use Rattle.rules.specs.Place.{entry, parts_of, width_of, is_set, is_staged, held_by, length_of}
use Rattle.rules.specs.Layout.{bank_size, HasBytes, set_start}
use Rattle.rules.specs.Refuse.{Verdict, refuses, first_of, bank_order, exists, misdirected, unaccepted}
use Rattle.rules.specs.Bank.{Bank, field_bits, bank_plan, bank_does, bank_call}
use Rattle.rules.proofs.Basics.Tests.{and₂, is-true, is-false, from-true, and-no}
use Rattle.rules.proofs.Basics.Sums.{sum-zero}
use Rattle.rules.proofs.Place.AcceptedMap.{GoodMap}
use Rattle.rules.proofs.Place.CoveredBytes.{covered, covered-in}
use Rattle.rules.proofs.Bank.Gaps.{field-bits}
use Rattle.rules.proofs.Load.Walks.{map-good}
use Rattle.rules.proofs.Load.EntryHeads.{entry-fits}
use Rattle.rules.proofs.Place.OwnerAt.{owner-surplus}
use Rattle.rules.proofs.Place.PlaceCalls.{space-in-set, space-held}
use Rattle.rules.proofs.Refusals.CallOrder.{judge-10, call-refused}
use Rattle.rules.proofs.Refusals.Orders.{bank-order-refused, bank-order-accepted}
use Rattle.rules.proofs.Bank.Places.{named-has-bytes}
use Rattle.descriptor.specs.Cover.{none_covers, cover_of}
use Rattle.descriptor.proofs.TableRows.{parts-few, width-narrow}
use Rattle.descriptor.specs.declared.Fields.{Fields}
use Rattle.descriptor.proofs.Covers.{Covering, cover-refused, cover-none}
use Rattle.control_set.specs.Gate.{Opened, Reached, ByteGated}
use Rattle.control_set.proofs.Outcomes.{call-11, call-done}

-- the bits of fields in a byte of an entry's space
module _ (m : Map) (g : GoodMap m) (s k e : ℕ) (hs : HasBytes s) (he : e < held_by m s) (low : (entry m e).offset ≤ k) (top : k < (entry m e).offset + (entry m e).memory) where
  surplus-bits : (entry m e).offset + parts_of (entry m e) * width_of (entry m e) ≤ k → (x : ℕ) → field_bits m s k x ≡ 0
  unfolding field_bits
  surplus-bits l x = sum-zero 8 _ λ q lq. rw (owner-surplus m g s k q hs lq e he l top)

  pub space-bits : (x : ℕ) → field_bits m s k x ≡ cond (ltb (k - (entry m e).offset) (parts_of (entry m e) * width_of (entry m e))) (x % 256) 0
  space-bits x = go (ltb (k - (entry m e).offset) (parts_of (entry m e) * width_of (entry m e))) refl
    where
      go : (t : Bool) → ltb (k - (entry m e).offset) (parts_of (entry m e) * width_of (entry m e)) ≡ t → field_bits m s k x ≡ cond t (x % 256) 0
      go true q =
          let l : k - (entry m e).offset < parts_of (entry m e) * width_of (entry m e) = ltb-true _ _ q in
          field-bits m g s k hs x ∙ rw (is-true (covered m s k) (covered-in {m = m} {s = s} {e = e} {k = k} (record { ent = he; low = low; top = omega arith })))
      go false q =
          let l : parts_of (entry m e) * width_of (entry m e) ≤ k - (entry m e).offset = ltb-false _ _ q in
          surplus-bits (omega arith) x

module _ (count : ℕ) (first last : List ℕ) (size s k : ℕ) (h : sized count first last ≡ true) (l : bank_size ≤ size) where
  abbrev m : Map
  m = map_of count first last

  pub byte-refused : (r : Refusal) → cover_of count first last k ≡ Err r → (rest : List Verdict) → bank_order (read_of count first last) size rest ≡ refuses r
  byte-refused r q rest = bank-order-refused count first last r h (cover-refused count first last k r q) size rest l

  pub byte-none :
      cover_of count first last k ≡ none_covers
      → (rest : List Verdict)
      → ((is_set s && ltb k (length_of (map_of count first last) s)) ≡ false → first_of rest ≡ refuses (plain 10))
      → bank_order (read_of count first last) size rest ≡ refuses (plain 10)
  byte-none q rest t =
      let (ok, past) = cover-none count first last k q in
      bank-order-accepted count first last ok size rest l ∙ t (rw (le-ltb k (length_of m s) (past s)) (and-no (is_set s)))

  module _ {in_ro : Bool} {n : ℕ} {f : Fields} (c : Covering count first last k in_ro n f) where
    byte-is : (is_set s && ltb k (length_of (map_of count first last) s)) ≡ (is_set s && not (is_staged s && in_ro))
    byte-is = rw (space-in-set count first last c.ok s n k c.there c.low c.top, c.side) refl

    pub byte-10 :
        (is_set s && not (is_staged s && in_ro)) ≡ false
        → (rest : List Verdict)
        → ((is_set s && ltb k (length_of (map_of count first last) s)) ≡ false → first_of rest ≡ refuses (plain 10))
        → bank_order (read_of count first last) size rest ≡ refuses (plain 10)
    byte-10 x rest t = bank-order-accepted count first last c.ok size rest l ∙ t (byte-is ∙ x)

    pub byte-small : (f.offset ≤ k) × (k < 256) × (f.parts < 16) × (f.width < 16)
    byte-small =
        let z : (entry m n).offset ≡ f.offset = c.offset-is in
        (omega (arith, c.low), omega (arith, c.top, entry-fits count first last c.ok n c.there), rw (← c.parts-is) (parts-few (entry m n)), rw (← c.width-is) (width-narrow (entry m n)))

    pub byte-has : (is_set s && not (is_staged s && in_ro)) ≡ true → Reached count first last size s k (ltb (k - f.offset) (f.parts * f.width))
    byte-has x =
        let (a, b) = and₂ (is_set s) (not (is_staged s && in_ro)) (from-true x) in
        let (a', d) = and₂ (is_set s) (ltb k (length_of m s)) (from-true (byte-is ∙ x)) in
        let held : n < held_by m s = space-held count first last c.ok s n k c.there c.low c.top (rw c.side (is-false (is_staged s && in_ro) b)) in
        record {
          size-is = l;
          ok = c.ok;
          is_set = ltb→lt s 3 a;
          low = ltb→lt _ _ d;
          top = byte-small.1;
          bits = λ y. rw (← c.offset-is, ← c.parts-is, ← c.width-is) (space-bits m (map-good count first last c.ok) s k n (named-has-bytes s (ltb→lt s 3 a)) held c.low c.top y);
        }

-- the ways out of a byte call
module _ (count : ℕ) (first last : List ℕ) (b : Bank) (s k : ℕ) where
  pub byte-unreached :
      (c : Call)
      → ((is_set s && ltb k (length_of (map_of count first last) s)) ≡ false → exists (map_of count first last) c ≡ false)
      → (r : Refusal)
      → ByteGated count first last (length b) s k (Err r)
      → bank_call count first last c b ≡ (Err r, b)
  byte-unreached c away r h = call-refused count first last c b r (h _ λ x. judge-10 (map_of count first last) c _ (away x))

  pub byte-write-away : (v : ℕ) → (is_set s && ltb k (length_of (map_of count first last) s)) ≡ false → exists (map_of count first last) (Call.ByteWrite s k v) ≡ false
  unfolding exists
  byte-write-away v h = h

  pub byte-read-away : (is_set s && ltb k (length_of (map_of count first last) s)) ≡ false → exists (map_of count first last) (Call.ByteRead s k) ≡ false
  unfolding exists
  byte-read-away h = h

  module _ {fields : Bool} (t : Reached count first last (length b) s k fields) where
    opened : Opened count first last (length b) t.ok.rw_count t.ok.ro_count t.ok.staged t.ok.active
    opened = record { size-is = t.size-is; loads = t.ok.loads }

    there : (is_set s && ltb k (length_of (map_of count first last) s)) ≡ true
    there = rw (lt-ltb s 3 t.is_set, lt-ltb k (length_of (map_of count first last) s) t.low) refl

    whole : (x : ℕ) → x < 256 → field_bits (map_of count first last) s k x ≡ cond fields x 0
    whole x h = t.bits x ∙ rw (mod-eq_of_lt h) refl

    pub byte-write-11 : (v : ℕ) → s ≡ 2 → bank_call count first last (Call.ByteWrite s k v) b ≡ (Err (plain 11), b)
    unfolding exists misdirected
    byte-write-11 v h = call-11 count first last (Call.ByteWrite s k v) b opened there (eq-eqb s 2 h)

    pub byte-write-done : (v : ℕ) → s ≢ 2 → v < 256 → bank_call count first last (Call.ByteWrite s k v) b ≡ (says_yes, set b (set_start s + k) (cond fields v 0))
    unfolding exists misdirected unaccepted bank_plan bank_does
    byte-write-done v n h = call-done count first last (Call.ByteWrite s k v) b opened there (ne_eqb s 2 n) refl refl ∙ rw (whole v h) refl

    pub byte-read-done :
        get_or b (set_start s + k) 0 < 256
        → bank_call count first last (Call.ByteRead s k) b ≡ (number (pos (cond fields (get_or b (set_start s + k) 0) 0)), b)
    unfolding exists misdirected unaccepted bank_plan bank_does
    byte-read-done h = call-done count first last (Call.ByteRead s k) b opened there refl refl refl ∙ rw (whole (get_or b (set_start s + k) 0) h) refl
