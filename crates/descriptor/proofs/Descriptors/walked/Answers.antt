-- `walked` meets its contract: it is `resume` from the beginning.
use Rattle.std.proofs.Common.{sym, ◌∙◌}
use Rattle.rules.proofs.Load.Resumes.{load-resumes}
use Rattle.descriptor.proofs.Descriptors.walked.Goals as goal

pub returns : goal.returns
returns c = rw c.start.ensures at c.resume.ensures ∙ sym (load-resumes c.args.self.count c.args.self.rw.now c.args.self.ro.now)
