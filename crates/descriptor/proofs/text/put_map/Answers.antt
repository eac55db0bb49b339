-- `put_map` meets its contract.
use mathlib.Core.Path.{refl}
use native.Mathlib.Omega.{arith}
use Rattle.std.proofs.Common.{rules}
use Rattle.descriptor.proofs.Limits.{accepted-sized}
use Rattle.descriptor.proofs.Maps.{sizes, middle, end-sum, map-printed}
use Rattle.descriptor.proofs.text.put_map.Goals as goal

pub walk-requires : goal.walk-requires
walk-requires c = accepted-sized _ _ _ c.requires

pub entries-m-requires-clause-room : goal.entries-m-requires-clause-room
entries-m-requires-clause-room c = let z = sizes _ _ _ c.requires in omega (arith, c.push_text.ensures.size, z.rw)

pub walk-requires-2 : goal.walk-requires-2
walk-requires-2 c = accepted-sized _ _ _ c.requires

pub entries-e-requires-clause-before_le_entry_limit : goal.entries-e-requires-clause-before_le_entry_limit
entries-e-requires-clause-before_le_entry_limit c =
    let one = rw (c.walk.ensures.0, c.walk.ensures.1, c.start.ensures) at c.entries-m.ensures in
    let m = middle _ _ _ c.requires one in
    rw c.into_ro.ensures (m.few, m.sum)

pub entries-e-requires-clause-room : goal.entries-e-requires-clause-room
entries-e-requires-clause-room c =
    let z = sizes _ _ _ c.requires in
    let one = c.entries-m.ensures.adds in
    omega (arith, c.push_text.ensures.size, one.size, one.room, z.rw, z.ro)

pub end-requires : goal.end-requires
end-requires c =
    let one = rw (c.walk.ensures.0, c.walk.ensures.1, c.start.ensures) at c.entries-m.ensures in
    let two = rw (c.walk-2.ensures.0, c.walk-2.ensures.1, c.into_ro.ensures) at c.entries-e.ensures in
    let z = sizes _ _ _ c.requires in
    let staged = (middle _ _ _ c.requires one).sum in
    let active = end-sum _ _ _ c.requires one two in (
      omega (arith, staged, active),
      omega (arith, staged, active),
      omega (arith, c.push_text.ensures.size, one.adds.size, one.adds.room, two.adds.size, two.adds.room, z.rw, z.ro),
    )

pub returns : goal.returns
returns c =
    let one = rw (c.walk.ensures.0, c.walk.ensures.1, c.start.ensures) at c.entries-m.ensures in
    let two = rw (c.walk-2.ensures.0, c.walk-2.ensures.1, c.into_ro.ensures) at c.entries-e.ensures in
    map-printed _ _ _ c.requires one two c.push_text.ensures c.end.ensures c.told-out refl (search rules)
