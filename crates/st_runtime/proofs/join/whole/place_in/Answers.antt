-- A binary search by pid finds a process in a list whose pids rise exactly if it is there.
use Rattle.std.proofs.Common.{rules}
use Rattle.std.specs.Result.{result_ok}
use Rattle.std.proofs.lemmas.List.Sorted.{answers_always}
use Rattle.st_core.specs.Pid.{pid_cmp}
use Rattle.st_core.proofs.ForCallers.{missing_from_search}
use Rattle.st_runtime.specs.Pcb.{Control}
use Rattle.st_runtime.specs.Pieces.{pids_in}
use Rattle.st_runtime.proofs.PidLemmas.{place_tells}
use Rattle.st_log.proofs.ForCallers.{search_keys}
use Rattle.st_runtime.proofs.Searching.{process_found, pids_found}
use Rattle.st_runtime.proofs.join.whole.place_in.Goals as goal

pub returns-clause-variant : goal.returns-clause-variant
returns-clause-variant g c =
    let xs = c.args.processes.now in
    let p = c.args.pid in
    let r = c.binary_search_by_key-found.result in
    let bound = c.binary_search_by_key-found.ensures.bound in
    let by_key = c.binary_search_by_key-found.ensures.position (λ (x : Control). x.process.pid)
    (answers_always _ _ _ (λ f a r h i. search rules)) in
    let position = search_keys (λ (x : Control). x.process.pid) (λ q. pid_cmp q p) xs r bound
    by_key in
    rw c.ok.ensures.value (place_tells (pids_in xs) p (result_ok r) (pids_found xs p r bound by_key)
    (missing_from_search (pids_in xs) p r c.requires position))

pub returns-clause-some : goal.returns-clause-some
returns-clause-some g c =
    let bound = c.binary_search_by_key-found.ensures.bound in
    rw c.ok.ensures.value
    (process_found c.args.processes.now c.args.pid c.binary_search_by_key-found.result bound
    (c.binary_search_by_key-found.ensures.position (λ (x : Control). x.process.pid)
    (answers_always _ _ _ (λ f a r h i. search rules))))
