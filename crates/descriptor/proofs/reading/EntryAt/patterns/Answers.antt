-- `EntryAt::patterns` meets its contract.
use Rattle.std.proofs.Common.{◌≡◌, refl, sym, ap, ◌∙◌, ℕ, ◌+◌, List, false}
use lib.Dec.{eqb}
use Rattle.descriptor.specs.declared.Accepted.{Accepted}
use Rattle.descriptor.specs.declared.table.Values.{Values}
use Rattle.descriptor.specs.Rows.{values_of}
use Rattle.descriptor.specs.Wide.{accepted_at}
use borrow.Author.Tests.{ne_eqb}
use Rattle.rules.specs.Numbers.{sum}
use Rattle.rules.specs.Parameter.{row_of}
use Rattle.rules.specs.Place.{width_of}
use Rattle.rules.specs.Descriptor.{byte_at, entry_at}
use Rattle.rules.specs.Accept.{within}
use Rattle.descriptor.specs.Find.{code_bits}
use Rattle.descriptor.specs.Reading.{patterns_of}
use Rattle.descriptor.proofs.Judges.{codes_in, patterns-are}
use Rattle.descriptor.proofs.Wides.{accepted-read}
use Rattle.descriptor.proofs.reading.EntryAt.patterns.Goals as goal

pub returns-then-id-eq3 : goal.returns-then-id-eq3
unfolding patterns_of width_of row_of code_bits within sum
returns-then-id-eq3 c = rw (← c.id-id.ensures, c.if-id-eq3.true) refl

-- the codes of what the entry accepts
by-codes :
    (a : ℕ) (s : List ℕ) (start id : ℕ) (v : Values) (x : Accepted)
    → id ≡ byte_at s start
    → eqb id 3 ≡ false
    → v ≡ values_of id
    → x ≡ accepted_at v s (start + a)
    → codes_in x ≡ patterns_of (entry_at a s start 0)
by-codes a s start id v x q h e f = rw (f, e, q, accepted-read a s start 0) (patterns-are (entry_at a s start 0) (rw q at h))

pub returns-in-Codes : goal.returns-in-Codes
returns-in-Codes c =
    let g = c.args in
    sym (ap codes_in c.in-Codes.is) ∙ by-codes g.self.a g.self.s.now g.self.at c.id-id.result _ _ c.id-id.ensures (ne_eqb c.id-id.result 3 c.if-id-eq3.false) c.values_of.ensures c.accepted.ensures

pub returns-in-Within : goal.returns-in-Within
returns-in-Within c =
    let g = c.args in
    sym (ap codes_in c.in-Within.is) ∙ by-codes g.self.a g.self.s.now g.self.at c.id-id.result _ _ c.id-id.ensures (ne_eqb c.id-id.result 3 c.if-id-eq3.false) c.values_of.ensures c.accepted.ensures
