-- The streams determine the finding: pairing refuses them for one reason, or their items have one
-- order.
use Rattle.std.proofs.Common.{◌≡◌, ℕ, List, Some, None, Result, IfOk, sym, subst}
use Rattle.std.proofs.lemmas.Option.{none-some}
use Rattle.st_core.specs.Pid.{IsRising}
use Rattle.st_core.specs.Run.{Stream, pids_of}
use Rattle.st_pair.specs.declared.answer.PairFault.{PairFault}
use Rattle.st_pair.specs.declared.answer.PairFault.TheVariants as fault
use Rattle.st_pair.specs.Pairing.{refusal, IsPairFault}
use Rattle.st_pair.proofs.ForCallers.{paired}
use Rattle.st_order.specs.declared.item.Item.{Item}
use Rattle.st_order.specs.Order.{order, IsOrder}
use Rattle.st_order.proofs.ForCallers.{an_order, one_order}
use Rattle.st_audit.specs.declared.finding.AuditFault.{AuditFault}
use Rattle.st_audit.specs.declared.finding.Finding.{Finding}
use Rattle.st_audit.specs.Construction.{end_of, IsAudit, IsFoundAt, IsFoundBy}
use Rattle.st_audit.specs.Findings.{unfit_by, HandsOn}

module _ (top : ℕ) (streams : List Stream) where
  -- streams that pairing refuses have its reason as their finding
  pub refused_audit : (f : PairFault) (found : Finding) → IsPairFault streams f
      → unfit_by f ≡ Some found
      → IsAudit top streams found
  refused_audit fault.Memory found why is = absurd (none-some found is)
  refused_audit f found why is = subst (λ o. IsFoundBy top streams o found) (sym why) is

  -- the finding of streams that pairing refuses has its reason
  pub hands_on : (found : Finding) → IsAudit top streams found → HandsOn streams found
  hands_on found is f why = subst (λ o. IsFoundBy top streams o found) why is

  -- streams that pairing accepts have the finding at the end of their items
  pub accepted_audit : (xs : List Item) (r : Result Finding AuditFault) → IsRising (pids_of streams)
      → refusal streams ≡ None → IsOrder streams xs
      → IfOk r (IsFoundAt top streams (end_of top streams xs))
      → IfOk r (IsAudit top streams)
  accepted_audit xs r rising accepted is found =
      let the_order = an_order streams rising (paired streams accepted).once in
      subst (λ o. IfOk r (IsFoundBy top streams o)) (sym accepted)
      (subst (λ ys. IfOk r (IsFoundAt top streams (end_of top streams ys)))
      (one_order streams xs (order streams) is the_order) found)
