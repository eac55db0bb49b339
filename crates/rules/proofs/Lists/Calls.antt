-- Each of the seven calls, where no check refuses it, keeps the relation of bank and table and gives equal answers.
use Rattle.std.specs.Prelude.{Result}
use mathlib.Core.Path.{◌≡◌, refl, sym, ap, ◌∙◌}
use mathlib.Core.List.{List}
use Prim.Native.Nat.{ℕ, ◌+◌, ◌<◌}
use native.Mathlib.Omega.{arith}
use lib.IntN.{ℤ, pos}
use lib.ListN.{get_or}
use lib.Dec.{ltb, ltb→lt}
use Rattle.rules.specs.Words.{Call, select, write, read, byte_write, byte_read, publish, apply, Field, Answer, number, Refusal}
use Rattle.rules.specs.Load.{Map}
use Rattle.rules.specs.Place.{entry, width_of, is_set, length_of}
use Rattle.rules.specs.Accept.{to_bits}
use Rattle.rules.specs.Layout.{HasBytes, set_start}
use Rattle.rules.specs.Refuse.{first_of, exists, misdirected, unaccepted}
use Rattle.rules.specs.Bank.{Bank, bank_plan, bank_does}
use Rattle.rules.specs.Table.{Table, table_plan, table_does}
use Rattle.rules.proofs.Bank.Places.{named-has-bytes}
use Rattle.rules.proofs.Basics.Tests.{and₂}
use Rattle.rules.proofs.Place.AcceptedMap.{GoodMap}
use Rattle.rules.proofs.Lists.Allowed.{select-allowed, write-field, write-fits, read-field, publish-field, publish-fits, apply-staged}
use Rattle.rules.proofs.Bank.Bytes.{byte-ext, byte-of-bank}
use Rattle.rules.proofs.Bank.Gaps.{field-bits}
use Rattle.rules.proofs.Lists.Relation.{Holds, bits-of, put-holds, select-holds, byte-holds}
use Rattle.rules.proofs.Apply.Plans.{plan-same, apply-holds}
use Rattle.rules.proofs.Refusals.Verdicts.{Judged}
use Rattle.rules.proofs.Lists.Machines.{Alike}

-- the two machines' results: equal answers, and states in the relation
abbrev pub Same : Map → List ℕ → Result Answer Refusal × Bank → Result Answer Refusal × Table → Type 0
Same m tail = Alike (Holds m tail)

module _ (m : Map) (g : GoodMap m) (tail : List ℕ) (b : Bank) (t : Table) (r : Holds m tail b t) where
  does-select : (s i a : ℕ) → Judged m (select s i a) → Same m tail (bank_does m (select s i a) b) (table_does m (select s i a) t)
  unfolding bank_does table_does
  does-select s i a j =
      let (hs, hi, hj, ha) = select-allowed m j in
      record { answer = refl; after = select-holds m g tail b t r s i a hs hi hj (omega (arith, g.count)) }

  does-write : (s : ℕ) (f : Field) (v : ℤ) → Judged m (write s f v) → Same m tail (bank_does m (write s f v) b) (table_does m (write s f v) t)
  unfolding bank_does table_does
  does-write s f v j = record { answer = refl; after = put-holds m g tail b t r s f.entry f.part f.lane v (write-field m g j) (write-fits m j) }

  does-read : (s : ℕ) (f : Field) → Judged m (read s f) → Same m tail (bank_does m (read s f) b) (table_does m (read s f) t)
  unfolding bank_does table_does
  does-read s f j = record { answer = ap number (r.fields s f.entry f.part f.lane (read-field m g j)); after = r }

  does-byte_write : (s k v : ℕ) → Judged m (byte_write s k v) → Same m tail (bank_does m (byte_write s k v) b) (table_does m (byte_write s k v) t)
  unfolding bank_does table_does exists misdirected unaccepted
  does-byte_write s k v j =
      let (h₁, h₂) = and₂ (is_set s) (ltb k (length_of m s)) j.there in
      let hk : k < length_of m s = ltb→lt _ _ h₂ in
      record { answer = refl; after = byte-holds m g tail b t r s k v (named-has-bytes s (ltb→lt _ _ h₁)) (omega (arith, g.lengths s)) }

  does-byte_read : (s k : ℕ) → Judged m (byte_read s k) → Same m tail (bank_does m (byte_read s k) b) (table_does m (byte_read s k) t)
  unfolding bank_does table_does exists misdirected unaccepted
  does-byte_read s k j =
      let hs : HasBytes s = named-has-bytes s (ltb→lt _ _ (and₂ (is_set s) (ltb k (length_of m s)) j.there).0) in
      record {
        answer = ap (λ n. number (pos n))
            (field-bits m g s k hs (get_or b (set_start s + k) 0)
            ∙ sym (byte-of-bank m s k hs g b)
            ∙ byte-ext m s k hs _ _ (λ e p i f _. sym (bits-of m g b f) ∙ ap (to_bits (width_of (entry m e))) (r.fields s e p i f)));
        after = r;
      }

  does-publish : (f : Field) (v : ℤ) → Judged m (publish f v) → Same m tail (bank_does m (publish f v) b) (table_does m (publish f v) t)
  unfolding bank_does table_does
  does-publish f v j = record { answer = refl; after = put-holds m g tail b t r 2 f.entry f.part f.lane v (publish-field m j) (publish-fits m j) }

  does-apply : (s lanes : ℕ) → Judged m (apply s lanes) → Same m tail (bank_does m (apply s lanes) b) (table_does m (apply s lanes) t)
  unfolding bank_does table_does
  does-apply s lanes j = record { answer = refl; after = apply-holds m g tail b t r s lanes (apply-staged m j) }

  pub does : (c : Call) → Judged m c → Same m tail (bank_does m c b) (table_does m c t)
  does (select s i a) j = does-select s i a j
  does (write s f v) j = does-write s f v j
  does (read s f) j = does-read s f j
  does (byte_write s k v) j = does-byte_write s k v j
  does (byte_read s k) j = does-byte_read s k j
  does (publish f v) j = does-publish f v j
  does (apply s lanes) j = does-apply s lanes j

  -- 13 and 14
  pub plans : (c : Call) → Judged m c → first_of (bank_plan m c b) ≡ first_of (table_plan m c t)
  unfolding bank_plan table_plan
  plans (select s i a) j = refl
  plans (write s f v) j = refl
  plans (read s f) j = refl
  plans (byte_write s k v) j = refl
  plans (byte_read s k) j = refl
  plans (publish f v) j = refl
  plans (apply s lanes) j = plan-same m g tail b t r s lanes (apply-staged m j)
