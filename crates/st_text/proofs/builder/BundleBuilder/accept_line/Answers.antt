-- A second header may never come, and the word before the acts is judged without a limit.
use Rattle.st_text.proofs.BuilderFaults.{header_fault}
use Rattle.st_text.proofs.builder.BundleBuilder.accept_line.Goals as goal

pub returns-in-Header : goal.returns-in-Header
returns-in-Header c = λ ls s.
    rw c.in-Header.is (header_fault c.args.limits c.args.self.now ls c.in-Header.field-0 s)

pub returns-in-Acts : goal.returns-in-Acts
returns-in-Acts c = λ ls s. rw c.in-Acts.is (c.begin.ensures c.args.limits ls s)
