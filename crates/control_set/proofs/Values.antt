-- The number of a field's bits is the rules'.
use mathlib.Core.Path.{◌≡◌, refl}
use mathlib.Core.Bool.{Bool, true, false, cond}
use Prim.Native.Nat.{ℕ, suc, ◌-◌, ◌^◌, ◌<◌}
use native.Mathlib.Decide.{dec_lt}
use native.Mathlib.Omega.{arith}
use borrow.Author.Tests.{lt-ltb, le-ltb, lt-leb, le-leb}
use lib.IntN.{pos, negsuc, ◌-ℤ◌}
use lib.Dec.{ltb, leb}
use Rattle.rules.specs.declared.Entry.{Entry}
use Rattle.rules.specs.Parameter.{row_of}
use Rattle.rules.specs.Place.{width_of, signed_of}
use Rattle.rules.specs.Accept.{from_bits}
use Rattle.descriptor.proofs.Accepts.{signed-byte}
use Rattle.control_set.specs.Values.{number_by}

unsigned : (w n : ℕ) → pos n ≡ from_bits false w n
unfolding from_bits
unsigned w n = refl

-- the number of a field's bits
pub number-byte : (n : ℕ) → n < 256 → number_by true n ≡ from_bits true 8 n
unfolding from_bits
number-byte n h = go (dec_lt n 128)
  where
    below : (k : ℕ) → n < suc k → pos n -ℤ pos (suc k) ≡ negsuc (suc k - suc n)
    below k l = rw (lt-ltb n (suc k) l)

    go : Dec (n < 128) → cond (leb 128 n) (pos n -ℤ pos 256) (pos n) ≡ cond (ltb n 128) (pos n) (negsuc (256 - suc n))
    go (yes l) = rw (lt-leb 128 n l, lt-ltb n 128 l) refl
    go (no l) = rw (le-leb 128 n (omega arith), le-ltb n 128 (omega arith)) (below 255 h)

pub number-named : (e : Entry) (n : ℕ) → n < 2 ^ width_of e → number_by (signed_of e) n ≡ from_bits (signed_of e) (width_of e) n
unfolding width_of signed_of
number-named e n h = go (row_of e.id).signed refl
  where
    plain : (w : ℕ) → pos n ≡ from_bits false w n
    plain w = unsigned w n

    go : (t : Bool) → (row_of e.id).signed ≡ t → number_by t n ≡ from_bits t (row_of e.id).width n
    go true q = let k : (row_of e.id).width ≡ 8 = signed-byte e.id q in rw k (number-byte n (rw k at h))
    go false q = plain (row_of e.id).width
