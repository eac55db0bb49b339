-- `checked` meets its contract: 1 and 2 are those of one entry, and `content` does the rest.
use Rattle.std.proofs.Common.{refl, sym, ◌∙◌, ap, arith}
use Rattle.rules.specs.Descriptor.{byte_at, entry_at, refuse, content_checks, decode_within}
use Rattle.rules.proofs.Basics.Results.{handed-on}
use Rattle.descriptor.specs.Counts.{alone}
use Rattle.descriptor.specs.Decode.{decoding_of}
use Rattle.descriptor.proofs.TableRows.{row}
use Rattle.descriptor.proofs.Lengths.{Measured, length-passed, length-refused}
use Rattle.descriptor.proofs.lent.Walk.checked.Goals as goal
use Rattle.descriptor.proofs.lent.Walk.checked.Goals.{In_ok-length}

-- 1 and 2 are passed
measured : (c : In_ok-length) → let g = c.args in Measured g.self.a g.self.s.now g.at c.in_ok-length.length
measured c = let g = c.args in length-passed g.self.a g.self.s.now g.at _ c.in_ok-length.ensures

pub content-requires : goal.content-requires
content-requires c =
    let g = c.args in
    let m = measured (goal.at.content-requires c).In_ok-length in
    let least = (row (byte_at g.self.s.now g.at)).least in
    rw c.row_of-row.ensures
    (record {
      standing = record {
        row-is = refl;
        room = omega (arith, least, m.long, m.inside);
        few = c.requires.small.1;
        small = c.requires.small.0;
      };
      length_is = m.is;
    })

pub returns-in_err-length : goal.returns-in_err-length
unfolding decode_within refuse
returns-in_err-length c =
    let g = c.args in
    let st = alone g.self.in_ro g.c in
    handed-on _ c.from_residual.ensures.1
    ∙ sym (ap (decoding_of g.at st) (length-refused g.self.a g.self.s.now g.at _ c.in_err-length.ensures g.c.sum (content_checks st (entry_at g.self.a g.self.s.now g.at g.c.sum))))

pub returns : goal.returns
unfolding decode_within refuse
returns c =
    let g = c.args in
    let st = alone g.self.in_ro g.c in
    c.content.ensures
    ∙ sym (ap (decoding_of g.at st) ((measured (goal.at.returns c).In_ok-length).passes g.c.sum (content_checks st (entry_at g.self.a g.self.s.now g.at g.c.sum))))
