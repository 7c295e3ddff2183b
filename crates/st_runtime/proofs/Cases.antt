-- Worked cases: the definition of a walk, computed. No proof cites this file; it shows that the
-- definition says what is meant.
use Rattle.std.proofs.Common.{◌≡◌, ℕ, true, List, [], ◌∷◌, refl, arith}
use Rattle.std.specs.Prelude.{None}
use Rattle.std.proofs.lemmas.List.Elements.{All-nil, All-cons}
use Rattle.st_core.specs.declared.types.Act.{Act}
use Rattle.st_core.specs.declared.types.Act.TheVariants as act
use Rattle.st_core.specs.declared.types.Pid.{Pid}
use Rattle.st_core.specs.declared.types.Reply.{Reply}
use Rattle.st_core.specs.declared.types.Reply.TheVariants as reply
use Rattle.st_core.specs.declared.types.Want.TheVariants as want
use Rattle.st_core.specs.Pid.{pid_on}
use Rattle.st_log.specs.declared.entry.Entry.{Entry}
use Rattle.st_runtime.specs.Logs.{zero_process}
use Rattle.st_runtime.specs.Pcb.{Control}
use Rattle.st_runtime.specs.Pieces.{pids_in}
use Rattle.st_runtime.specs.System.{knows}
use Rattle.st_runtime.specs.Walk.{touching, IsWalk}
use Rattle.st_runtime.proofs.Members.{pairs_from_ordered, IsOrdered-from_rises}

-- The client, <0.30.0>, and the shop, <0.31.0>, are on one node; the stock, <1.30.0>, is on another
-- one.

abbrev entry : ℕ → Act → Reply → Entry
entry rank a y = record { rank = rank; act = a; reply = y; report = None; carried = None }

-- the client calls the shop, which takes the call and then resets its node
abbrev call : Entry
call = entry 1 (act.Send (pid_on 0 30) (pid_on 0 31) 7) reply.Done

abbrev taken : Entry
taken = entry 2 (act.Receive (pid_on 0 31) want.First) (reply.Mail (pid_on 0 30) 7)

abbrev reset : Entry
reset = entry 3 (act.Reset (pid_on 0 31)) reply.Done

abbrev all : List Entry
all = call ∷ taken ∷ reset ∷ []

client_is_touched : touching (pid_on 0 30) all ≡ call ∷ reset ∷ []
client_is_touched = refl

shop_is_touched : touching (pid_on 0 31) all ≡ all
shop_is_touched = refl

stock_is_not_touched : touching (pid_on 1 30) all ≡ []
stock_is_not_touched = refl

abbrev logged : Pid → List Entry → Control
logged p log = record { process = zero_process p; log = log; spare = 0 }

abbrev logs : List Control
logs = logged (pid_on 0 30) (call ∷ reset ∷ []) ∷ logged (pid_on 0 31) all
    ∷ logged (pid_on 1 30) []
    ∷ []

abbrev HasTouching : Control → Type 0
HasTouching x = x.log ≡ touching x.process.pid all

logs_are_walked : IsWalk logs all
logs_are_walked = record {
  ordered = pairs_from_ordered all
      (IsOrdered-from_rises 0 all (omega arith, (omega arith, (omega arith, tt))));
  known = All-cons (λ e. knows (pids_in logs) e.act ≡ true) call (taken ∷ reset ∷ []) refl
      (All-cons (λ e. knows (pids_in logs) e.act ≡ true) taken (reset ∷ []) refl
      (All-cons (λ e. knows (pids_in logs) e.act ≡ true) reset [] refl
      (All-nil (λ e. knows (pids_in logs) e.act ≡ true))));
  logs = All-cons HasTouching (logged (pid_on 0 30) (call ∷ reset ∷ []))
      (logged (pid_on 0 31) all ∷ logged (pid_on 1 30) [] ∷ []) refl
      (All-cons HasTouching (logged (pid_on 0 31) all) (logged (pid_on 1 30) [] ∷ []) refl
      (All-cons HasTouching (logged (pid_on 1 30) []) [] refl (All-nil HasTouching)));
}

-- if the client's log lacks the reset, these acts don't lead through the logs
abbrev lacking : List Control
lacking = logged (pid_on 0 30) (call ∷ []) ∷ logged (pid_on 0 31) all ∷ []

lacking_is_not_walked : IsWalk lacking all → ⊥
lacking_is_not_walked walk =
    let same : call ∷ [] ≡ call ∷ reset ∷ [] =
    walk.logs 0 (logged (pid_on 0 30) (call ∷ [])) (omega arith) in
    cc
