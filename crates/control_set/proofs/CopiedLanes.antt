-- The chosen lanes by their AppSels: which AppSels are wanted, which lanes have one of some, and the lanes that an entry is copied in.
use mathlib.Core.Path.{◌≡◌, refl, sym, ap, ◌∙◌}
use mathlib.Core.Bool.{Bool, true, false, ◌&&◌, ◌||◌, not}
use Prim.Native.Nat.{ℕ, ◌+◌, ◌-◌, ◌*◌, ◌/◌, ◌%◌, ◌^◌, ◌≤◌, ◌<◌}
use native.Mathlib.Omega.{arith}
use native.Mathlib.Decide.{ℕ_discrete}
use native.Mathlib.Nat.{mul_comm, mod-eq_of_lt, div_self, one-mul}
use lib.Bits.{bit_and, bit_or}
use lib.Dec.{leb, leb→le}
use lib.Pow.{pow_pos, pow-lt, shl-shr, shr-shr}
use mir.Val.{bool_byte}
use Rattle.rules.specs.Numbers.{bit_of}
use Rattle.rules.specs.Descriptor.{is_app, has_app}
use Rattle.rules.specs.Refuse.{chooses}
use Rattle.rules.proofs.Basics.Tests.{and₂, from-true, and-yes, or-yes}
use Rattle.descriptor.proofs.Bits.{and-bit, or-bit}
use Rattle.control_set.specs.declared.chosen.Chosen.{Chosen}
use Rattle.control_set.specs.Lanes.{NoLane}
use Rattle.control_set.specs.Chosen.{app_of, lacks_by, copies_by, Wanted, has_one_of}

-- bit a of a mask moved up by one bit is its bit a − 1
moved-bit : (mask a : ℕ) → 1 ≤ a → 2 * mask / 2 ^ a ≡ mask / 2 ^ (a - 1)
moved-bit mask a l =
    let e : a ≡ 1 + (a - 1) = omega arith in
    ap (λ n. 2 * mask / 2 ^ n) e
    ∙ sym (shr-shr (2 * mask) 1 (a - 1))
    ∙ ap (λ n. n / 2 ^ (a - 1)) (ap (λ n. n / 2 ^ 1) (mul_comm 2 mask) ∙ shl-shr mask 1)

-- the number of a test, moved up by some bits, has the bit there if the test holds
moved-one : (t : Bool) (n : ℕ) → n < 2 ^ 4 → t ≡ true → bit_of (bool_byte t * 2 ^ n % 2 ^ 64) n ≡ true
moved-one true n h q =
    let s : 2 ^ n < 2 ^ 64 = omega (arith, pow-lt {i = n} {j = 64} (omega arith)) in
    rw (one-mul (2 ^ n), mod-eq_of_lt s, div_self (pow_pos n)) refl
moved-one false n h q = let o : ◌≡◌ {A = ℕ} 0 1 = cc in absurd (omega arith)

module _ (c : Chosen) (v : NoLane (lacks_by c)) (i : ℕ) (l : 1 ≤ i) (u : i ≤ 8) where
  app-in : (t : Bool) → is_app c.desc.count (app_of c i) ≡ t → not t ≡ false
      → (is_app c.desc.count (app_of c i) ≡ true) × (1 ≤ app_of c i) × (app_of c i < 2 ^ 4)
  app-in true q z =
      let (x, y) = and₂ (leb 1 (app_of c i)) (leb (app_of c i) c.desc.count) (from-true q) in
      (q, leb→le 1 _ x, omega (arith, leb→le _ c.desc.count y, c.asked.count))
  app-in false q z = let o : ◌≡◌ {A = ℕ} 0 1 = cc in absurd (omega arith)

  -- a chosen lane's AppSel
  pub app-chosen : chooses c.lanes i ≡ true → (is_app c.desc.count (app_of c i) ≡ true) × (1 ≤ app_of c i) × (app_of c i < 2 ^ 4)
  unfolding lacks_by
  app-chosen q = app-in _ refl (rw q at (v i l u))

  module _ (apps : ℕ) (w : Wanted 9 c apps) where
    -- those of the wanted AppSels that an entry has: their lanes are copied
    pub own-is : (mask : ℕ) → has_one_of c (bit_and (2 * mask) apps) i ≡ copies_by c mask i
    own-is mask = go (chooses c.lanes i) refl
      where
        go : (t : Bool) → t ≡ chooses c.lanes i → (t && bit_of (bit_and (2 * mask) apps) (app_of c i)) ≡ (t && has_app c.desc.count mask (app_of c i))
        go false q = refl
        go true q =
            let (is, low, top) = app-chosen (sym q) in
            and-bit (2 * mask) apps (app_of c i)
            ∙ rw (w i l (omega arith) (sym q), and-yes (bit_of (2 * mask) (app_of c i)), is, moved-bit mask (app_of c i) low) refl

    -- all of them: every chosen lane has one
    pub all-have : chooses c.lanes i ≡ has_one_of c apps i
    all-have = go (chooses c.lanes i) refl
      where
        go : (t : Bool) → t ≡ chooses c.lanes i → t ≡ (t && bit_of apps (app_of c i))
        go false q = refl
        go true q = sym (w i l (omega arith) (sym q))

  -- the AppSel of one lane more
  pub wanted-next :
      (apps : ℕ)
      → Wanted i c apps
      → Wanted (i + 1) c (bit_or apps (bool_byte (chooses c.lanes i) * 2 ^ (app_of c i % 2 ^ 4) % 2 ^ 64))
  wanted-next apps w j li ui q = or-bit apps _ (app_of c j) ∙ go (ℕ_discrete j i)
    where
      more : ℕ
      more = bool_byte (chooses c.lanes i) * 2 ^ (app_of c i % 2 ^ 4) % 2 ^ 64

      here : chooses c.lanes i ≡ true → bit_of (bool_byte (chooses c.lanes i) * 2 ^ (app_of c i % 2 ^ 4) % 2 ^ 64) (app_of c i) ≡ true
      here r = let k = (app-chosen r).2 in rw (mod-eq_of_lt k) (moved-one (chooses c.lanes i) (app_of c i) k r)

      go : Dec (j ≡ i) → (bit_of apps (app_of c j) || bit_of more (app_of c j)) ≡ true
      go (yes e) = rw (e, here (rw e at q)) (or-yes (bit_of apps (app_of c i)))
      go (no ne) = rw (w j li (omega arith) q) refl
