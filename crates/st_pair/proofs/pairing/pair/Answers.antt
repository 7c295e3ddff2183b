-- The streams are refused for a reason of `Tables`, or for one found while the links are filled
-- in. If neither is there, the links of all streams are the pairing.
use Rattle.std.proofs.Common.{◌∙◌, ap, rules, IfErr, None, Option}
use Rattle.st_pair.specs.declared.answer.PairFault.{PairFault}
use Rattle.st_pair.specs.Pairing.{IsPairFault}
use Rattle.st_pair.specs.Places.{or_else}
use Rattle.st_pair.proofs.FinalReasons.{answered_rules_out}
use Rattle.st_pair.proofs.pairing.pair.Goals as goal

pub returns-in_err-tables-clause-rules_out : goal.returns-in_err-tables-clause-rules_out
returns-in_err-tables-clause-rules_out c =
    let refused : IfErr c.from_residual.result (IsPairFault c.args.streams.now) = search rules in
    answered_rules_out c.args.streams.now c.from_residual.result refused

pub returns-in_err-links-clause-rules_out : goal.returns-in_err-links-clause-rules_out
returns-in_err-links-clause-rules_out c =
    let refused : IfErr c.from_residual-in_err-links.result (IsPairFault c.args.streams.now) =
    search rules in
    answered_rules_out c.args.streams.now c.from_residual-in_err-links.result refused

pub returns-in-Ok-clause-ok : goal.returns-in-Ok-clause-ok
returns-in-Ok-clause-ok c =
    let streams = c.args.streams.now in
    record {
      accepted = c.in_ok-tables.ensures.accepted
          ∙ ap (λ (o : Option PairFault). or_else o None) c.in_ok-links.ensures.matched;
      links = c.in-Ok.ensures;
    }
