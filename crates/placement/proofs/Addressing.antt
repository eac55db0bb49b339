-- Address and offset in the code's terms, of a line that is the table's; and owner by an address.
use mathlib.Core.Path.{◌≡◌, refl, sym, ◌∙◌}
use mathlib.Core.Bool.{Bool, true, false, cond}
use mathlib.Core.List.{List}
use Prim.Native.Nat.{ℕ, zero, suc, ◌+◌, ◌-◌, ◌≤◌, ◌<◌}
use native.Mathlib.Numerals.{add-one}
use native.Mathlib.Omega.{arith}
use lib.ListN.{length, get_or-eq_default}
use lib.Dec.{ltb}
use borrow.Author.Tests.{ltb-true, ltb-false, lt-ltb, le-ltb}
use Rattle.std.specs.Prelude.{Some, None, Err}
use Rattle.std.specs.Option.{unwrap_or}
use Rattle.rules.specs.declared.Refusal.{Refusal}
use Rattle.rules.specs.declared.Refusal.TheVariants.{Plain as plain}
use Rattle.rules.specs.Address.{Range as TableRange, Line as TableLine, line_of, size_of, addresses_in, address_in, index_of, addresses, address_of, offset_of}
use Rattle.rules.specs.Load.{load_of}
use Rattle.rules.specs.Beside.{owner_call, owner_at_call}
use Rattle.rules.specs.Demands.{Accepted}
use Rattle.rules.proofs.Load.Walks.{map-good}
use Rattle.rules.proofs.Place.Addresses.{Inside, inside-says, addresses-length, address-main, address-overflow, index-main, index-overflow, index-none}
use Rattle.rules.proofs.Place.PlaceCalls.{owner-refused, owner-at-is, owner-at-10}
use Rattle.placement.specs.declared.address.Line.{Line}
use Rattle.placement.specs.declared.address.Address.{Address}
use Rattle.placement.specs.Address.{line_is, is_inside, address_is, offset_is}
use Rattle.placement.proofs.Owns.{owns-none}

-- the numbers of a line
pub record Small (l : Line) : Type 0 where
  pub main-top : l.main.last < 256
  pub main-some : l.main.first ≤ l.main.last
  pub overflow-top : l.overflow.last < 256
  pub overflow-some : l.overflow.first ≤ l.overflow.last

pub line-small : (s : ℕ) → Small (line_is s)
unfolding line_of
line-small zero = record { main-top = omega arith; main-some = omega arith; overflow-top = omega arith; overflow-some = omega arith }
line-small (suc zero) = record { main-top = omega arith; main-some = omega arith; overflow-top = omega arith; overflow-some = omega arith }
line-small (suc (suc s)) = record { main-top = omega arith; main-some = omega arith; overflow-top = omega arith; overflow-some = omega arith }

-- sizes, in the code and in the table
size-is : (r : TableRange) → r.last + 1 - r.first ≡ size_of r
size-is r = rw add-one refl

past-sum : (a k : ℕ) → a ≤ k → a + (k - a) ≡ k
past-sum a k h = omega arith

no-room : (a b k : ℕ) → a ≤ k → b ≤ k - a → a + b ≤ k
no-room a b k h t = omega arith

-- a line of the code that is the table's
module _ (s : ℕ) {x : Line} (is : x ≡ line_is s) where
  abbrev l : TableLine
  l = line_of s

  pub small : Small x
  small = rw is (line-small s)

  -- the address of an offset
  module _ (k : ℕ) where
    given : (a : Address) → address_in l k ≡ record { page = a.page; byte = a.byte } → k < length (addresses_in l) → Some a ≡ address_is s k
    unfolding address_is address_of
    given a e h = rw (lt-ltb k (length (addresses_in l)) h, e) refl

    pub main-address : k < x.main.last + 1 - x.main.first → Some (record { page = x.main.page; byte = x.main.first + k }) ≡ address_is s k
    main-address h =
        let t : k < size_of l.main = omega (arith, rw is at h) in
        rw is (given _ (address-main l k (l.main.first + k) t refl) (omega (arith, addresses-length l)))

    module _ (h : x.main.last + 1 - x.main.first ≤ k) where
      within : size_of l.main ≤ k
      within = rw (size-is l.main) at (rw is at h)

      pub overflow-address :
          k - (x.main.last + 1 - x.main.first) < x.overflow.last + 1 - x.overflow.first
          → Some (record { page = x.overflow.page; byte = x.overflow.first + (k - (x.main.last + 1 - x.main.first)) }) ≡ address_is s k
      overflow-address t =
          let j : ℕ = k - (l.main.last + 1 - l.main.first) in
          let u : j < size_of l.overflow = rw (size-is l.overflow) at (rw is at t) in
          let e : size_of l.main + j ≡ k = rw (size-is l.main) (past-sum (size_of l.main) k within) in
          rw is (given _ (address-overflow l k j (l.overflow.first + j) u e refl) (omega (arith, addresses-length l)))

      pub no-address : x.overflow.last + 1 - x.overflow.first ≤ k - (x.main.last + 1 - x.main.first) → None ≡ address_is s k
      unfolding address_is
      no-address t =
          let z : size_of l.main + size_of l.overflow ≤ k = no-room (size_of l.main) (size_of l.overflow) k within (rw (size-is l.overflow, size-is l.main) at (rw is at t)) in
          rw (le-ltb k (length (addresses_in l)) (omega (arith, addresses-length l))) refl

  -- the offset of an address
  module _ (page byte : ℕ) where
    found : (n : ℕ) → index_of (addresses_in l) page byte ≡ n → n < length (addresses_in l) → Some n ≡ offset_is s page byte
    unfolding offset_is offset_of
    found n e h = rw (e, lt-ltb n (length (addresses_in l)) h) refl

    pub main-offset : is_inside x.main page byte ≡ true → Some (byte - x.main.first) ≡ offset_is s page byte
    main-offset h =
        let t = rw is at h in
        let z : Inside l.main page byte = inside-says l.main page byte t in
        rw is (found (byte - l.main.first) (index-main l page byte t) (omega (arith, addresses-length l)))

    module _ (n : is_inside x.main page byte ≡ false) where
      pub overflow-offset : is_inside x.overflow page byte ≡ true → Some (x.main.last + 1 - x.main.first + (byte - x.overflow.first)) ≡ offset_is s page byte
      overflow-offset h =
          let t = rw is at h in
          let z : Inside l.overflow page byte = inside-says l.overflow page byte t in
          let e : index_of (addresses_in l) page byte ≡ l.main.last + 1 - l.main.first + (byte - l.overflow.first) = omega (arith, index-overflow l page byte (rw is at n) t) in
          rw is (found (l.main.last + 1 - l.main.first + (byte - l.overflow.first)) e (omega (arith, addresses-length l)))

      pub no-offset : is_inside x.overflow page byte ≡ false → None ≡ offset_is s page byte
      unfolding offset_is offset_of
      no-offset h = rw (le-ltb (index_of (addresses_in l) page byte) (length (addresses_in l)) (index-none l page byte (rw is at n) (rw is at h))) refl

    pub overflow-inside : is_inside x.overflow page byte ≡ true → (x.overflow.first ≤ byte) × (byte ≤ x.overflow.last)
    overflow-inside h = let z = inside-says l.overflow page byte (rw is at h) in rw is (z.low, z.top)

differ : {A : Type 0} {a : A} → Some a ≡ None → ⊥
differ q = let o : ◌≡◌ {A = ℕ} 0 1 = cc in omega arith

-- page 0 and byte 0 where there is none, as `place` answers
pub place-at : (s k : ℕ) → (a : Address) → a ≡ unwrap_or (address_is s k) (record { page = 0; byte = 0 }) → (a.page ≡ (address_of s k).page) × (a.byte ≡ (address_of s k).byte)
unfolding address_is address_of
place-at s k a h = go (ltb k (length (addresses s))) refl
  where
    go : (b : Bool) → ltb k (length (addresses s)) ≡ b → (a.page ≡ (address_of s k).page) × (a.byte ≡ (address_of s k).byte)
    go true e = let z = rw e at h in (rw z refl, rw z refl)
    go false e =
        let z = rw e at h in
        let y = get_or-eq_default (addresses s) (record { page = 0; byte = 0 }) (ltb-false k _ e) in
        (rw (z, y) refl, rw (z, y) refl)

-- the offset of an address, where there is one, is one of the table
pub offset-some : (s page byte k : ℕ) → Some k ≡ offset_is s page byte → (offset_of s page byte ≡ k) × (offset_of s page byte < length (addresses s))
unfolding offset_is
offset-some s page byte k = go (ltb (offset_of s page byte) (length (addresses s))) refl
  where
    go : (b : Bool) → ltb (offset_of s page byte) (length (addresses s)) ≡ b
        → Some k ≡ cond b (Some (offset_of s page byte)) None
        → (offset_of s page byte ≡ k) × (offset_of s page byte < length (addresses s))
    go true e q = (cc, ltb-true _ _ e)
    go false e q = absurd (differ q)

pub offset-none : (s page byte : ℕ) → None ≡ offset_is s page byte → length (addresses s) ≤ offset_of s page byte
unfolding offset_is
offset-none s page byte = go (ltb (offset_of s page byte) (length (addresses s))) refl
  where
    go : (b : Bool) → ltb (offset_of s page byte) (length (addresses s)) ≡ b
        → None ≡ cond b (Some (offset_of s page byte)) None
        → length (addresses s) ≤ offset_of s page byte
    go true e q = absurd (differ (sym q))
    go false e q = ltb-false _ _ e

-- owner at an address: as at the offset that it has
module _ (count : ℕ) (first last : List ℕ) (s page byte q : ℕ) where
  pub owns-at : (k : ℕ) → Some k ≡ offset_is s page byte → owner_call count first last s k q ≡ owner_at_call count first last s page byte q
  owns-at k h = let z = offset-some s page byte k h in rw (← z.0) (owner-at-is count first last s page byte q z.1)

  -- where it has none, refused as the load is, or by 10
  module _ (h : None ≡ offset_is s page byte) where
    pub owns-refused : (r : Refusal) → load_of count first last ≡ Err r → Err r ≡ owner_at_call count first last s page byte q
    owns-refused r l = owner-refused count first last s 256 q r l ∙ owner-at-10 count first last s page byte q (offset-none s page byte h)

    pub owns-nothing : Accepted count first last → Err (plain 10) ≡ owner_at_call count first last s page byte q
    owns-nothing ok =
        owns-none count first last s 256 q ok (λ t. (map-good count first last ok).lengths t)
        ∙ owner-at-10 count first last s page byte q (offset-none s page byte h)
