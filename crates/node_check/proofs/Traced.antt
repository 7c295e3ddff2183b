-- No act of a process's own changes whether its node is traced.
use Rattle.std.proofs.Common.{◌≡◌, Option, Some, None, refl, ℕ}
use Rattle.st_core.specs.declared.types.Pid.{Pid}
use Rattle.st_core.specs.declared.types.Message.{Message}
use Rattle.st_core.specs.declared.types.Token.{Token}
use Rattle.st_core.specs.declared.types.Act.TheVariants as act
use Rattle.st_core.specs.Local.{received}
use Rattle.st_core.specs.Pick.{pick}
use Rattle.st_core.specs.State.{LocalState, Process}
use Rattle.st_core.specs.Step.{Acted, receives}
use Rattle.st_core.specs.declared.types.Want.TheVariants as want
use Rattle.node_machine.specs.Node.{after_answer, after_stamp, Answer, Common, NodeAct, node_acted}
use Rattle.node_machine.specs.Node.{node_found, takes_answer}
use Rattle.node_machine.proofs.ForCallers.{print_at_either}

pub stamp_traced : (p : Pid) (l : LocalState) (t : Option Token) → l.token ≡ t
    → (after_stamp p l).traced ≡ l.traced
stamp_traced p l None is = rw is refl
stamp_traced p l (Some t) is = rw is refl

receive_traced : (r : Process) (found : Option (ℕ × Message))
    → (receives r found).local.traced ≡ r.local.traced
receive_traced r None = refl
receive_traced r (Some found) = token_traced found.1.token
  where
    token_traced : (t : Option Token) → (received r.local t).traced ≡ r.local.traced
    token_traced None = refl
    token_traced (Some t) = refl

answer_traced : (r : Process) (found : Option (ℕ × Message))
    → (takes_answer r found).local.traced ≡ r.local.traced
answer_traced r None = refl
answer_traced r (Some found) = counts_traced found.1.token
  where
    counts_traced : (t : Option Token) → (after_answer r.local t).traced ≡ r.local.traced
    counts_traced None = refl
    counts_traced (Some t) = refl

pub part_traced : (r : Process) (a : NodeAct) → (node_acted r a).local.traced ≡ r.local.traced
part_traced r (Common (act.Send p q v)) = stamp_traced r.pid r.local r.local.token refl
part_traced r (Common (act.Receive p w)) = receive_traced r (node_found (pick w r.queue))
part_traced r (Common (act.Print p v)) = stamp_traced r.pid r.local r.local.token refl
part_traced r (Common (act.PrintAt p n v)) =
    print_at_either (λ (done : Acted). done.local.traced ≡ r.local.traced) r p n v
    (stamp_traced r.pid r.local r.local.token refl) refl
part_traced r (Answer p place) =
    answer_traced r (node_found (pick (want.Place place) r.queue))
part_traced r (Common a) = refl
