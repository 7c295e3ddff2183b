-- Three reasons rest on the event alone, so nothing is added for them.
use Rattle.std.proofs.Common.{◌≡◌, ◌⊎◌, List, [], inl, inr, refl}
use Rattle.st_core.specs.declared.types.Pid.{Pid}
use Rattle.st_core.specs.Run.{Stream}
use Rattle.st_audit.specs.declared.finding.Reason.{Reason}
use Rattle.st_audit.specs.declared.finding.Reason.TheVariants as reason
use Rattle.st_text.proofs.ForCallers.{goes_still}
use Rattle.st_chart.specs.Report.{evidence}
use Rattle.st_chart.proofs.reporting.write_evidence.Goals as goal

no_more : (streams : List Stream) (p : Pid) (r : Reason)
    → (r ≡ reason.PrevNotBefore) ⊎ ((r ≡ reason.Uncaused) ⊎ (r ≡ reason.TooWide))
    → evidence streams p r ≡ []
no_more streams p r (inl e) = rw e refl
no_more streams p r (inr (inl e)) = rw e refl
no_more streams p r (inr (inr e)) = rw e refl

pub returns-in-PrevNotBefore : goal.returns-in-PrevNotBefore
returns-in-PrevNotBefore g c =
    rw (no_more c.args.streams.now c.args.pid c.args.reason.now c.in-PrevNotBefore.is)
    (goes_still g.W.ByteSink.puts g.W.ByteSink.failed)

pub returns-in-PrevNotBefore-2 : goal.returns-in-PrevNotBefore-2
returns-in-PrevNotBefore-2 g c =
    rw (no_more c.args.streams.now c.args.pid c.args.reason.now c.in-PrevNotBefore.is)
    (goes_still g.W.ByteSink.puts g.W.ByteSink.failed)

pub returns-in-PrevNotBefore-3 : goal.returns-in-PrevNotBefore-3
returns-in-PrevNotBefore-3 g c =
    rw (no_more c.args.streams.now c.args.pid c.args.reason.now c.in-PrevNotBefore.is)
    (goes_still g.W.ByteSink.puts g.W.ByteSink.failed)
