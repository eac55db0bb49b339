-- The place of a field, from the entry that was found: one law for each way out.
use Rattle.std.specs.Prelude.{Err}
use mathlib.Core.Path.{◌≡◌}
use mathlib.Core.Bool.{true, false, ◌&&◌}
use mathlib.Core.List.{List}
use Prim.Native.Nat.{ℕ, ◌+◌, ◌-◌, ◌*◌, ◌/◌, ◌%◌, ◌≤◌, ◌<◌}
use native.Mathlib.Omega.{arith}
use lib.ListN.{length}
use lib.Dec.{ltb, leb, ltb→lt, leb→le}
use Rattle.rules.specs.declared.Refusal.TheVariants.{Plain as plain}
use Rattle.rules.specs.Load.{Map, map_of}
use Rattle.rules.specs.Place.{entry, parts_of, is_set, is_staged}
use Rattle.rules.specs.Beside.{placed_in, place_of}
use Rattle.rules.proofs.Basics.Tests.{and₄, from-true}
use Rattle.rules.proofs.Load.EntryHeads.{entry-fits}
use Rattle.rules.proofs.Place.PlaceCalls.{place-10, place-11, place-at}
use Rattle.descriptor.specs.declared.Named.{Named}
use Rattle.descriptor.specs.Find.{InMap}
use Rattle.descriptor.proofs.Finds.{there, offset-is, width-is, side-is}
use Rattle.descriptor.proofs.TableRows.{parts-few, width-narrow}
use Rattle.placement.proofs.Small.{There}

module _ (count : ℕ) (first last : List ℕ) {e p i : ℕ} {f : Named} (z : InMap count first last e p i f) where
  abbrev m : Map
  m = map_of count first last

  pub offset-small : f.fields.offset ≤ 256
  offset-small = rw (offset-is count first last z) (omega (arith, entry-fits count first last z.ok e (there count first last z)))

  pub width-small : f.fields.width < 16
  width-small = rw (width-is count first last z) (width-narrow (entry m e))

  -- the part and the lane are there
  pub asked : There p i
  asked =
      let (_, a, b, c) = and₄ (ltb e (length m.entries)) (ltb p (parts_of (entry m e))) (leb 1 i) (leb i 8) (from-true z.has) in
      let l : p < parts_of (entry m e) = ltb→lt _ _ a in
      record { part = omega (arith, parts-few (entry m e)); low = leb→le _ _ b; top = leb→le _ _ c }

  module _ (s : ℕ) where
    pub placing-10 : is_set s ≡ false → Err (plain 10) ≡ place_of count first last s e p i
    placing-10 = place-10 count first last s e p i z.ok z.has

    module _ (h : is_set s ≡ true) where
      pub placing-11 : (is_staged s && f.ro) ≡ true → Err (plain 11) ≡ place_of count first last s e p i
      placing-11 t = place-11 count first last s e p i z.ok z.has h (rw (side-is count first last z) at t)

      pub placing-at :
          (is_staged s && f.ro) ≡ false
          → placed_in s (f.fields.offset + p * f.fields.width + (i - 1) * f.fields.width / 8) ((i - 1) * f.fields.width % 8) ≡ place_of count first last s e p i
      placing-at t = rw (width-is count first last z, offset-is count first last z) (place-at count first last s e p i z.ok z.has h (rw (side-is count first last z) at t))
