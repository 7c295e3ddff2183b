-- One walk leads through the logs, and each process made its script.
use Rattle.std.proofs.Common.{◌∙◌, ap, map, subst, sym, List}
use Rattle.st_log.specs.declared.entry.Entry.{Entry}
use Rattle.st_runtime.specs.Driven.{acts_by}
use Rattle.st_runtime.specs.Joining.{referred, IsScripted}
use Rattle.st_runtime.specs.Pcb.{Control}
use Rattle.st_runtime.specs.Pieces.{pids_in}
use Rattle.st_runtime.proofs.Walks.{walk_whole}
use Rattle.st_runtime.proofs.join.join_driven.Goals as goal

pub returns : goal.returns
returns g c =
    let xs = c.as_slice-processes.result.now in
    let scripts = c.args.scripts.items in
    let r = c.in_ok-run_by_threads.field-0 in
    let es : List Entry = map referred c.in-Some.entries.items in
    let walk = rw c.in-Some.is at c.in_ok-entries.ensures.walk in
    let Scripted : List Control → Type 0 = λ ys. IsScripted g.row.TOP g.row.RANKS ys scripts r in
    subst Scripted c.as_slice-processes.ensures.value (record {
      whole = walk_whole xs es walk;
      kept = c.in_ok-entries.ensures.kept;
      logged = c.in_ok-run_by_threads.ensures.logged;
      made = ap (λ acts. map (λ p. acts_by p acts) (pids_in xs))
          (c.in_ok-run_by_threads.ensures.acts ∙ sym c.as_slice-3.ensures.value)
          ∙ ap (map (λ p. acts_by p c.as_slice-3.result.now))
          (sym (c.as_slice-2.ensures.value ∙ c.in_ok-pids.ensures))
          ∙ c.in_ok-check_scripts.ensures ∙ c.as_slice-4.ensures.value;
    })
