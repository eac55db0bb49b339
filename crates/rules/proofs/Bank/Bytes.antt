-- The law of `byte_from`: a byte made of its fields' bits is the byte that they were cut from, or 0 in a gap.
use mathlib.Core.Path.{◌≡◌, refl, sym, ap, ◌∙◌}
use mathlib.Core.Logic.{◌⊎◌, inl, inr, ◌≢◌}
use mathlib.Core.Bool.{not, cond}
use Prim.Native.Nat.{ℕ, suc, ◌+◌, ◌-◌, ◌*◌, ◌/◌, ◌%◌, ◌^◌, ◌≤◌, ◌<◌}
use native.Mathlib.Omega.{arith}
use native.Mathlib.Decide.{ℕ_discrete}
use lib.Arith.{digits_div}
use lib.ListN.{get_or}
use lib.Dec.{T, eqb, eqb→eq, T_not}
use lib.Pow.{field, mod-mod-pow}
use borrow.Author.Tests.{eq-eqb, ne_eqb}
use Rattle.rules.specs.Numbers.{cut}
use Rattle.rules.specs.Table.{byte_from}
use Rattle.rules.specs.Load.{Map}
use Rattle.rules.specs.Place.{entry, width_of, lane_byte, field_byte, field_bit, Field}
use Rattle.rules.specs.Layout.{HasBytes, set_start}
use Rattle.rules.specs.Bank.{Bank, get_field}
use Rattle.rules.proofs.Basics.Tests.{either, is-true, is-false, by-test₂}
use Rattle.rules.proofs.Basics.Sums.{sum-zero, sum-ext, sum-one}
use Rattle.rules.proofs.Place.LanesOfByte.{tile}
use Rattle.rules.proofs.Place.Lanes.{lane-byte-lt}
use Rattle.rules.proofs.Place.AcceptedMap.{GoodMap}
use Rattle.rules.proofs.Place.Fields.{lane-field}
use Rattle.rules.proofs.Place.CoveredBytes.{covered, In, in-covered, field_in, field-covered, in-same, in-width, part_at, byte_in_part, placed, byte-lt, part-lt}

-- the bits of a number's lowest byte
pub cut-mod : (x t w : ℕ) → t + w ≤ 8 → cut (x % 256) t w ≡ cut x t w
cut-mod x t w h =
    let e : 8 ≡ (8 - (w + t)) + (w + t) = omega arith in
    sym (field (x % 2 ^ 8) w t)
    ∙ ap (λ n. n / 2 ^ t) (ap (λ n. x % 2 ^ n % 2 ^ (w + t)) e ∙ mod-mod-pow x (8 - (w + t)) (w + t))
    ∙ field x w t

module _ (m : Map) (s k : ℕ) (hs : HasBytes s) where
  -- only the bits of fields in the byte count
  pub byte-ext :
      (f h : ℕ → ℕ → ℕ → ℕ)
      → ((e p i : ℕ) → Field m s e p i → field_byte (entry m e) p i ≡ k → f e p i ≡ h e p i)
      → byte_from m s k f ≡ byte_from m s k h
  unfolding byte_from
  byte-ext f h q =
      sum-ext _ _ _ λ e he. sum-ext _ _ _ λ p hp. sum-ext _ _ _ λ j hj.
      by-test₂ ◌≡◌ (eqb (field_byte (entry m e) p (suc j)) k) _ _ _ _
      (λ y. ap (λ n. n * 2 ^ field_bit (entry m e) (suc j)) (q e p (suc j) (lane-field m s hs e p j he hp hj) (eqb→eq _ _ y)))
      (λ _. refl)

  module _ (g : GoodMap m) (x : ℕ) where
    abbrev bits : ℕ → ℕ → ℕ → ℕ
    bits e p i = cut x (field_bit (entry m e) i) (width_of (entry m e))

    -- what field e p (j + 1) has in byte k
    abbrev term : ℕ → ℕ → ℕ → ℕ
    term e p j = cond (eqb (field_byte (entry m e) p (suc j)) k) (bits e p (suc j) * 2 ^ field_bit (entry m e) (suc j)) 0

    term-zero : (e p j : ℕ) → field_byte (entry m e) p (suc j) ≢ k → term e p j ≡ 0
    term-zero e p j ne = rw (ne_eqb (field_byte (entry m e) p (suc j)) k ne)

    byte-gap : T (not (covered m s k)) → byte_from m s k bits ≡ 0
    unfolding byte_from
    byte-gap nc =
        sum-zero _ _ λ e he. sum-zero _ _ λ p hp. sum-zero _ _ λ j hj.
        term-zero e p j (λ q. T_not (covered m s k) nc (rw q at (field-covered m g (lane-field m s hs e p j he hp hj))))

    module _ (e : ℕ) (h : In m s e k) where
      lane-term :
          (j : ℕ)
          → term e (part_at m g h) j
          ≡ cond (eqb (lane_byte (width_of (entry m e)) (suc j)) (byte_in_part m g h)) (bits e (part_at m g h) (suc j) * 2 ^ field_bit (entry m e) (suc j)) 0
      lane-term j = go (ℕ_discrete (field_byte (entry m e) (part_at m g h) (suc j)) k)
        where
          go : Dec (field_byte (entry m e) (part_at m g h) (suc j) ≡ k)
              → term e (part_at m g h) j
              ≡ cond (eqb (lane_byte (width_of (entry m e)) (suc j)) (byte_in_part m g h)) (bits e (part_at m g h) (suc j) * 2 ^ field_bit (entry m e) (suc j)) 0
          go (yes q) =
              rw
              (eq-eqb (field_byte (entry m e) (part_at m g h) (suc j)) k q, eq-eqb (lane_byte (width_of (entry m e)) (suc j)) (byte_in_part m g h) (omega (arith, placed m g h)))
          go (no ne) =
              rw
              (ne_eqb (field_byte (entry m e) (part_at m g h) (suc j)) k ne, ne_eqb (lane_byte (width_of (entry m e)) (suc j)) (byte_in_part m g h) (λ q. ne (omega (arith, placed m g h))))

      other : (p j : ℕ) → j < 8 → field_byte (entry m e) p (suc j) ≡ k → p ≡ part_at m g h
      other p j hj q =
          sym (digits_div p (lane-byte-lt (width_of (entry m e)) (in-width m g h) (suc j) (omega arith) (omega arith)))
          ∙ ap (λ n. n / width_of (entry m e)) (let a : p * width_of (entry m e) + lane_byte (width_of (entry m e)) (suc j) ≡ part_at m g h * width_of (entry m e) + byte_in_part m g h = omega (arith, placed m g h) in a)
          ∙ digits_div (part_at m g h) (byte-lt m g h)

      byte-full : byte_from m s k bits ≡ x % 256
      unfolding byte_from
      byte-full =
          sum-one _ _ e h.ent (λ e' he ne. sum-zero _ _ λ p hp. sum-zero _ _ λ j hj.
          term-zero e' p j (λ q. ne (in-same m g (rw q at (field_in m g (lane-field m s hs e' p j he hp hj))) h)))
          ∙ sum-one _ _ (part_at m g h) (part-lt m g h) (λ p hp ne. sum-zero _ _ λ j hj. term-zero e p j (λ q. ne (other p j hj q)))
          ∙ sum-ext 8 _ _ (λ j _. lane-term j)
          ∙ tile (width_of (entry m e)) (in-width m g h) (byte_in_part m g h) x (byte-lt m g h)

    pub byte-from : byte_from m s k bits ≡ cond (covered m s k) (x % 256) 0
    byte-from = go (either (covered m s k))
      where
        go : T (covered m s k) ⊎ T (not (covered m s k)) → byte_from m s k bits ≡ cond (covered m s k) (x % 256) 0
        go (inl c) = let (e, h) = in-covered m s k c in rw (is-true (covered m s k) c) (byte-full e h)
        go (inr n) = rw (is-false (covered m s k) n) (byte-gap n)

-- byte read of any bank: the byte if it has fields, 0 in a gap
pub byte-of-bank :
    (m : Map) (s k : ℕ) → HasBytes s → GoodMap m → (b : Bank) → byte_from m s k (get_field m b s) ≡ cond (covered m s k) (get_or b (set_start s + k) 0 % 256) 0
unfolding get_field
byte-of-bank m s k hs g b =
    byte-ext m s k hs _ _ (λ e p i f q. ap (λ n. cut (get_or b (set_start s + n) 0) (field_bit (entry m e) i) (width_of (entry m e))) q)
    ∙ byte-from m s k hs g (get_or b (set_start s + k) 0)
