-- `content` meets its contract: each of its tests is the rules' test of that check.
use Rattle.std.specs.Prelude.{Ok}
use Rattle.std.proofs.Common.{◌≡◌, refl, sym, ◌∙◌, ◌+◌, ltb, arith}
use Rattle.std.proofs.lemmas.Bool.{lt-ltb, le-ltb}
use Rattle.rules.specs.Descriptor.{byte_at, entry_at, late_host, refuse, content_checks}
use Rattle.descriptor.specs.Counts.{alone}
use Rattle.descriptor.proofs.Chain.{side-is, media-is, needed-is, step-is, low, step-in}
use Rattle.descriptor.proofs.lent.Walk.content.Goals as goal
use Rattle.descriptor.proofs.lent.Walk.content.Goals.{After-late_host, Else-reserved_step}

-- what is left past 3, 4 and 5
past-five : (c : Else-reserved_step) →
    let g = c.args in
    let e = entry_at g.self.a g.self.s.now g.at g.c.sum in
    content_checks (alone g.self.in_ro g.c) e ≡ refuse (late_host e g.c.media) 6 (refuse (ltb 256 (g.c.sum + e.memory)) 7 (Ok e))
unfolding content_checks refuse
past-five c =
    rw (
      ← side-is c.requires.standing c.args.self.in_ro,
      ← c.stands.ensures,
      c.if-not-stands.false,
      ← needed-is c.requires.standing,
      le-ltb _ _ c.if-memory-row.false,
      ← step-is c.requires.standing,
      ← c.reserved_step.ensures,
      c.if-reserved_step.false,
    )
    refl

-- 6 is tested as the rules test it
late : (c : After-late_host) → let g = c.args in late_host (entry_at g.self.a g.self.s.now g.at g.c.sum) g.c.media ≡ c.late_host.result
late c = rw (← media-is c.requires.standing (byte_at c.args.self.s.now (c.args.at + 3 + c.args.self.a)), ← c.media_at-media.ensures) (sym c.late_host.ensures)

pub bounds-s-at : goal.bounds-s-at
bounds-s-at c = omega (arith, c.requires.standing.room, low c.requires.standing)

pub reserved_step-requires : goal.reserved_step-requires
reserved_step-requires c = step-in c.requires.standing

pub returns-then-not-stands : goal.returns-then-not-stands
unfolding content_checks refuse
returns-then-not-stands c = rw (← side-is c.requires.standing c.args.self.in_ro, ← c.stands.ensures, c.if-not-stands.true) refl

pub returns-then-memory-row : goal.returns-then-memory-row
unfolding content_checks refuse
returns-then-memory-row c =
    rw (← side-is c.requires.standing c.args.self.in_ro, ← c.stands.ensures, c.if-not-stands.false, ← needed-is c.requires.standing, lt-ltb _ _ c.if-memory-row.true) refl

pub returns-then-reserved_step : goal.returns-then-reserved_step
unfolding content_checks refuse
returns-then-reserved_step c =
    rw (
      ← side-is c.requires.standing c.args.self.in_ro,
      ← c.stands.ensures,
      c.if-not-stands.false,
      ← needed-is c.requires.standing,
      le-ltb _ _ c.if-memory-row.false,
      ← step-is c.requires.standing,
      ← c.reserved_step.ensures,
      c.if-reserved_step.true,
    )
    refl

pub returns-then-late_host : goal.returns-then-late_host
unfolding refuse
returns-then-late_host c =
    let k = goal.at.returns-then-late_host c in
    rw (past-five k.Else-reserved_step, late k.After-late_host, c.if-late_host.true) refl

pub returns-then-c-memory-gt256 : goal.returns-then-c-memory-gt256
unfolding refuse
returns-then-c-memory-gt256 c =
    let k = goal.at.returns-then-c-memory-gt256 c in
    let g = c.args in
    rw (past-five k.Else-reserved_step, late k.After-late_host, c.if-late_host.false, lt-ltb 256 (g.c.sum + byte_at g.self.s.now (g.at + 2 + g.self.a)) (omega arith)) refl

pub returns : goal.returns
unfolding refuse
returns c =
    let k = goal.at.returns c in
    let g = c.args in
    let media = c.media_at-media.ensures ∙ media-is c.requires.standing (byte_at g.self.s.now (g.at + 3 + g.self.a)) in
    let after = c.next.ensures g.self.in_ro (entry_at g.self.a g.self.s.now g.at g.c.sum) refl (sym media) in
    rw (c.requires.length_is, past-five k.Else-reserved_step, late k.After-late_host, c.if-late_host.false, le-ltb 256 (g.c.sum + byte_at g.self.s.now (g.at + 2 + g.self.a)) (omega arith), after) refl
