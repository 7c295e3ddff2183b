-- Bytes that aren't a line have the fault `Line`.
use Rattle.st_text.proofs.BuilderFaults.{unsaid_fault}
use Rattle.st_text.proofs.builder.BundleBuilder.accept.Goals as goal

pub returns-in-None : goal.returns-in-None
returns-in-None c = λ ls s. rw c.in-None.is (unsaid_fault c.args.limits c.args.self.now ls s)
