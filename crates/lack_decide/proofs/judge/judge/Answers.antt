-- The candidate is the completion: its told events are the streams with its unlisted processes.
use Rattle.std.proofs.Common.{◌≡◌, false, List, ap, sym, ◌∙◌, subst}
use Rattle.std.specs.List.{AllByRecursion}
use Rattle.std.proofs.lemmas.Option.{same_Some}
use Rattle.st_core.specs.declared.types.Pid.{Pid}
use Rattle.st_core.specs.Pid.{IsRising}
use Rattle.st_core.specs.Streams.{IsStreams, lists}
use Rattle.lack_laws.specs.Local.{IsNeedless}
use Rattle.lack_laws.specs.Silent.{with_silent}
use Rattle.st_plan.specs.Marks.{told_streams}
use Rattle.lack_needs.specs.Additions.{AreAdditionsNeeded}
use Rattle.lack_needs.specs.Completions.{wholes_with, Completed, IsCompletionOf}
use Rattle.lack_needs.proofs.ForCallers.{all_kept}
use Rattle.lack_decide.proofs.judge.judge.Goals as goal

pub tells_with-requires-clause-apart : goal.tells_with-requires-clause-apart
tells_with-requires-clause-apart g c =
    subst (AllByRecursion (λ q. lists c.args.streams.now q ≡ false))
    (c.deref.ensures.value ∙ sym c.deref-else-not-are_apart-2.ensures.value)
    (c.are_apart.ensures.apart c.if-not-are_apart.false)

pub tells_with-requires-clause-rising : goal.tells_with-requires-clause-rising
tells_with-requires-clause-rising g c =
    subst IsRising (c.deref.ensures.value ∙ sym c.deref-else-not-are_apart-2.ensures.value)
    (c.are_apart.ensures.rising c.if-not-are_apart.false)

pub completion_of-requires : goal.completion_of-requires
completion_of-requires g c =
    ap (λ ls. told_streams (wholes_with c.args.candidate.streams ls))
    (sym c.deref-else-not-are_apart.ensures.value)
    ∙ c.in_ok-tells_with.ensures.told c.if-not-branch.false
    ∙ ap (with_silent c.args.streams.now) c.deref-else-not-are_apart-2.ensures.value

pub returns : goal.returns
returns g c = λ x is.
    let given = c.args.streams.now in
    let streams = c.args.candidate.streams in
    let marks = c.args.candidate.told.items in
    let unlisted = c.args.candidate.unlisted.items in
    let same = all_kept streams marks in
    let wholes : x.wholes ≡ wholes_with streams marks =
    ap (λ (y : Completed). y.wholes) (sym (same_Some _ x is)) ∙ c.completion_of.ensures.wholes in
    let others : x.unlisted ≡ unlisted =
    ap (λ (y : Completed). y.unlisted) (sym (same_Some _ x is))
    ∙ c.completion_of.ensures.unlisted in
    record {
      apart = subst (AllByRecursion (λ q. lists given q ≡ false))
          (c.deref.ensures.value ∙ sym others)
          (c.are_apart.ensures.apart c.if-not-are_apart.false);
      rising = subst IsRising (c.deref.ensures.value ∙ sym others)
          (c.are_apart.ensures.rising c.if-not-are_apart.false);
      is = subst (λ (qs : List Pid). IsCompletionOf g.row.TOP (with_silent given qs) x.wholes)
          (sym others)
          (subst (IsCompletionOf g.row.TOP (with_silent given unlisted)) (sym wholes) (record {
            told = ap (λ ls. told_streams (wholes_with streams ls))
                (sym c.deref-else-not-are_apart.ensures.value)
                ∙ c.in_ok-tells_with.ensures.told c.if-not-branch.false
                ∙ ap (with_silent given) c.deref-else-not-are_apart-2.ensures.value;
            sound = subst IsStreams (sym same) c.tells_with.ensures.streams;
            needless = subst (IsNeedless g.row.TOP) (sym same)
                (c.are_all_fit.ensures c.if-not-are_all_fit.false);
          }));
      needed = subst AreAdditionsNeeded (sym wholes)
          (subst (λ ls. AreAdditionsNeeded (wholes_with streams ls))
          c.deref-else-not-are_all_fit-2.ensures.value
          (c.are_additions_needed.ensures c.if-not-are_additions_needed.false));
    }
