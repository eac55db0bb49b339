-- `lanes_of` meets its contract.
use Rattle.std.proofs.Common.{◌∙◌, sym, ap, arith}
use Rattle.control_set.specs.Chosen.{has_one_of}
use Rattle.control_set.proofs.CopiedLanes.{own-is, all-have}
use Rattle.control_set.proofs.served.Served.lanes_of.Goals as goal
use Rattle.control_set.proofs.served.Served.lanes_of.Goals.{then-own-self, else-own-self}

pub returns-then-own-last-clause-lanes : goal.returns-then-own-last-clause-lanes
returns-then-own-last-clause-lanes c i l u =
    let s = c.args.self in
    c.requires.lanes i l u
    ∙ ap (λ x. has_one_of s.chosen x i) (sym c.if-own-last.true)
    ∙ own-is s.chosen s.serves.clear i l (omega arith) s.apps s.serves.wanted c.args.mask

pub returns-clause-lanes : goal.returns-clause-lanes
returns-clause-lanes c i l u =
    let s = c.args.self in
    let own = own-is s.chosen s.serves.clear i l (omega arith) s.apps s.serves.wanted c.args.mask in
    elim c.if-own-self.branch [
      | then-own-self x ↦ rw x.lanes-is (x.lanes_with-lanes.ensures i l u ∙ own)
      | else-own-self x ↦
          rw x.lanes-is
          (all-have s.chosen s.serves.clear i l (omega arith) s.apps s.serves.wanted ∙ ap (λ y. has_one_of s.chosen y i) (sym x.if-own-self.false) ∙ own)
    ]
