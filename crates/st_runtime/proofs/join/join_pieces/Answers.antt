-- One walk leads through the logs of the pieces, so their entries are whole. Each pid is seated.
use Rattle.std.proofs.Common.{◌≡◌, ◌∙◌, map, rules, subst, List}
use Rattle.st_log.specs.declared.entry.Entry.{Entry}
use Rattle.st_runtime.specs.Joining.{referred, IsLogged}
use Rattle.st_runtime.specs.Pieces.{Parts, AreWhole, IsFirstUnseated, IsFit}
use Rattle.st_runtime.proofs.JoinLemmas.{joined}
use Rattle.st_runtime.proofs.Walks.{walk_whole}
use Rattle.st_runtime.proofs.join.join_pieces.Goals as goal

pub returns-in-Some-clause-err : goal.returns-in-Some-clause-err
returns-in-Some-clause-err g c =
    let xs = c.as_slice-processes.result.now in
    let found : Parts = record { processes = xs; seats = c.as_slice.result.now } in
    let is : found ≡ c.args.pieces.now = (λ i. record {
      processes = c.as_slice-processes.ensures.value i;
      seats = c.as_slice.ensures.value i;
    }) ∙ c.pieces.view_is in
    let es : List Entry = map referred c.in-Ok-Some.entries.items in
    let walk = rw c.in-Ok-Some.field-0-is at c.in-Ok-Some.ensures.walk in
    let Differs : Parts → Type 0 = λ v. AreWhole v.processes × IsFirstUnseated v c.in-Some.pid in
    subst Differs is (walk_whole xs es walk, c.in-Some.ensures)

pub returns-in_err-run_of_logs-clause-err : goal.returns-in_err-run_of_logs-clause-err
returns-in_err-run_of_logs-clause-err g c =
    let xs = c.as_slice-processes.result.now in
    let found : Parts = record { processes = xs; seats = c.as_slice.result.now } in
    let is : found ≡ c.args.pieces.now = (λ i. record {
      processes = c.as_slice-processes.ensures.value i;
      seats = c.as_slice.ensures.value i;
    }) ∙ c.pieces.view_is in
    let es : List Entry = map referred c.in-Ok-Some.entries.items in
    let walk = rw c.in-Ok-Some.field-0-is at c.in-Ok-Some.ensures.walk in
    let fit : IsFit c.args.pieces.now = subst IsFit is (record {
      whole = walk_whole xs es walk;
      seated = c.in_default-first_unseated.ensures;
    }) in
    search (rules, fit)

pub returns-clause-ok : goal.returns-clause-ok
returns-clause-ok g c =
    let xs = c.as_slice-processes.result.now in
    let found : Parts = record { processes = xs; seats = c.as_slice.result.now } in
    let is : found ≡ c.args.pieces.now = (λ i. record {
      processes = c.as_slice-processes.ensures.value i;
      seats = c.as_slice.ensures.value i;
    }) ∙ c.pieces.view_is in
    let es : List Entry = map referred c.in-Ok-Some.entries.items in
    let walk = rw c.in-Ok-Some.field-0-is at c.in-Ok-Some.ensures.walk in
    let fit : IsFit c.args.pieces.now = subst IsFit is (record {
      whole = walk_whole xs es walk;
      seated = c.in_default-first_unseated.ensures;
    }) in
    let r = c.in_ok-run_of_logs.field-0 in
    joined g.row.TOP c.args.pieces.now r fit
    (subst (λ (v : Parts). IsLogged g.row.TOP v.processes r) is c.in_ok-run_of_logs.ensures)
