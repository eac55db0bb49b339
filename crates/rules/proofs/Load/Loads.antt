-- The laws of `load_of` and `strings_of` that a function's proof cites, one for each way out.
use Rattle.std.specs.Prelude.{Ok, Err}
use mathlib.Core.Path.{◌≡◌}
use mathlib.Core.Bool.{true, false}
use mathlib.Core.List.{List}
use Prim.Native.Nat.{ℕ}
use Rattle.rules.specs.Words.{Refusal, plain, State}
use Rattle.rules.specs.Descriptor.{mask_bytes}
use Rattle.rules.specs.Load.{start, into_ro, answer, walk_of, sized, strings_of, load_of, rest_within, strings_within}

module _ (count : ℕ) (first last : List ℕ) where
  pub load-9 : sized count first last ≡ false → load_of count first last ≡ Err (plain 9)
  unfolding load_of
  load-9 h = rw h

  pub load-strings : sized count first last ≡ true → load_of count first last ≡ strings_of count first last
  unfolding load_of
  load-strings h = rw h

  pub strings-rw-refused : (r : Refusal) → walk_of (mask_bytes count) first 0 start ≡ Err r → strings_of count first last ≡ Err r
  unfolding strings_within rest_within
  strings-rw-refused r h = rw h

  module _ (m : State) (h : walk_of (mask_bytes count) first 0 start ≡ Ok m) where
    pub strings-ro-refused : (r : Refusal) → walk_of (mask_bytes count) last 0 (into_ro m) ≡ Err r → strings_of count first last ≡ Err r
    unfolding strings_within rest_within
    strings-ro-refused r k = rw (h, k)

    pub strings-accepted :
        (e : State)
        → walk_of (mask_bytes count) last 0 (into_ro m) ≡ Ok e
        → strings_of count first last ≡ answer e
    unfolding strings_within rest_within
    strings-accepted e k = rw (h, k)
