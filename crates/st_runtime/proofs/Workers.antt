-- Each job ends as its worker's contract says.
use Rattle.std.proofs.Common.{◌≡◌, ℕ, suc, ◌<◌, List, [], ◌∷◌, length, map, get_or, refl, ap}
use Rattle.std.proofs.Common.{subst, arith, ◌≢◌, ◌↔◌, ◌∙◌, sym, Bool, true, false}
use Rattle.std.proofs.Common.{Result, Ok, Err, Option, Some, IfOk}
use Rattle.std.specs.List.{AllZip}
use Rattle.st_core.specs.declared.types.Act.{Act}
use Rattle.st_core.specs.declared.types.Pid.{Pid}
use Rattle.st_core.specs.declared.types.Reply.{Reply}
use Rattle.st_core.specs.Pid.{pid_eq}
use Rattle.st_core.specs.Step.{actor}
use Rattle.st_core.proofs.ForCallers.{pid_eq-true, pid_eq-same}
use Rattle.st_runtime.specs.declared.fault.ActFault.{ActFault}
use Rattle.st_runtime.specs.declared.fault.ActFault.TheVariants as fault
use Rattle.st_runtime.specs.declared.driver.worker.Ending.{Ending}
use Rattle.st_runtime.specs.Driven.{IsOwn}
use Rattle.st_runtime.specs.System.{knows}
use Rattle.st_runtime.specs.Working.{LeavesEnding, IsWorked}

abbrev pub Job : Type 0
Job = Pid × List Act

pub all_left : {H : Type 0} (system : H → List Pid) (job : H → Job) (pids : List Pid) (hs : List H)
    (ts : List Job) (os : List (Option Ending)) → length os ≡ length hs
    → AllZip (λ t h. (job h ≡ t) × (system h ≡ pids)) ts hs
    → ((i : ℕ) (d : Option Ending) → i < length hs
    → (h : H) × (h ≡ get_or hs i h) × LeavesEnding (system h) (job h) (get_or os i d))
    → AllZip (LeavesEnding pids) ts os
all_left system job pids [] [] [] even of each = tt
all_left system job pids [] [] (o ∷ os) even of each = absurd (omega arith)
all_left system job pids [] (t ∷ ts) os even of each = absurd of
all_left system job pids (h ∷ hs) [] os even of each = absurd of
all_left system job pids (h ∷ hs) (t ∷ ts) [] even of each = absurd (omega arith)
all_left system job pids (h ∷ hs) (t ∷ ts) (o ∷ os) even of each =
    let here = each 0 o (omega arith) in
    let of_h : LeavesEnding (system h) (job h) o =
    subst (λ x. LeavesEnding (system x) (job x) o) here.1 here.2 in
    let of_t : LeavesEnding (system h) t o =
    subst (λ x. LeavesEnding (system h) x o) of.0.0 of_h in (
      subst (λ x. LeavesEnding x t o) of.0.1 of_t,
      all_left system job pids hs ts os (omega arith) of.1
          (λ i d below. each (suc i) d (omega arith)),
    )

-- if no worker was told to stop, all left the endings of their jobs
pub all_worked : (pids : List Pid) (ts : List Job) (es : List Ending)
    → AllZip (LeavesEnding pids) ts (map (λ e. Some e) es) → AllZip (IsWorked pids) ts es
all_worked pids [] [] left = tt
all_worked pids [] (e ∷ es) left = absurd left
all_worked pids (t ∷ ts) [] left = absurd left
all_worked pids (t ∷ ts) (e ∷ es) left = (left.0, all_worked pids ts es left.1)

pub ended_worked : {V E : Type 0} (pids : List Pid) (ts : List Job) (os : List (Option Ending))
    (items : V → List Ending)
    (r : Result V E) → AllZip (LeavesEnding pids) ts os
    → IfOk r (λ v. map (λ e. Some e) (items v) ≡ os)
    → IfOk r (λ v. AllZip (IsWorked pids) ts (items v))
ended_worked pids ts os items (Ok v) left same =
    all_worked pids ts (items v) (subst (AllZip (LeavesEnding pids) ts) (sym same) left)
ended_worked pids ts os items (Err e) left same = tt

same_by : (p q : Pid) (b : Bool) → pid_eq p q ≡ b → ¬ (p ≢ q) → p ≡ q
same_by p q true is alike = pid_eq-true p q is
same_by p q false is alike =
    absurd
    (alike (λ same. let one : pid_eq p q ≡ true =
    ap (λ r. pid_eq p r) (sym same) ∙ pid_eq-same p in cc))

known_unless : (b : Bool) → ¬ (b ≡ false) → b ≡ true
known_unless true h = refl
known_unless false h = absurd (h refl)

-- an act that wasn't refused as another's or as unknown is the process's own
pub own_act : (pids : List Pid) (p : Pid) (a : Act) (r : Result Reply ActFault)
    → (r ≡ Err fault.NotYours) ↔ (actor a ≢ p)
    → (r ≡ Err fault.Unknown) ↔ ((actor a ≡ p) × (knows pids a ≡ false))
    → ((f : ActFault) → r ≢ Err f) → IsOwn pids p a
own_act pids p a r not_yours unknown done =
    let mine : actor a ≡ p =
    same_by (actor a) p (pid_eq (actor a) p) refl
    (λ apart. done fault.NotYours (not_yours.1 apart)) in
    record {
      mine = mine;
      known = known_unless (knows pids a) (λ not. done fault.Unknown (unknown.1 (mine, not)));
    }
