-- The slices are those of the pieces' processes and seats, so the findings hold of the pieces.
use Rattle.std.proofs.Common.{◌≡◌, ◌∙◌, subst}
use Rattle.st_runtime.specs.Pieces.{Parts, AreWhole, IsFirstUnseated, IsFit}
use Rattle.st_runtime.proofs.join.check_fit.Goals as goal

pub returns-in-Some-first_unseated-clause-err : goal.returns-in-Some-first_unseated-clause-err
returns-in-Some-first_unseated-clause-err g c =
    let found : Parts = record {
      processes = c.as_slice-processes.result.now;
      seats =
          c.as_slice.result.now;
    } in
    let is : found ≡ c.args.pieces.now = (λ i. record {
      processes = c.as_slice-processes.ensures.value i;
      seats = c.as_slice.ensures.value i;
    }) ∙ c.pieces.view_is in
    let Differs : Parts → Type 0 = λ v. AreWhole v.processes
    × IsFirstUnseated v c.in-Some-first_unseated.pid in
    subst Differs is (c.in_default.ensures, c.in-Some-first_unseated.ensures)

pub returns-clause-ok : goal.returns-clause-ok
returns-clause-ok g c =
    let found : Parts = record {
      processes = c.as_slice-processes.result.now;
      seats =
          c.as_slice.result.now;
    } in
    let is : found ≡ c.args.pieces.now = (λ i. record {
      processes = c.as_slice-processes.ensures.value i;
      seats = c.as_slice.ensures.value i;
    }) ∙ c.pieces.view_is in
    let fit : IsFit found = record {
      whole = c.in_default.ensures;
      seated =
          c.in_default-first_unseated.ensures;
    } in
    subst IsFit is fit
