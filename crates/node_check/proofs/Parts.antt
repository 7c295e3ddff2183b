-- A print at the token's label is a print; each other act of a process's own sets what it keeps.
use Rattle.std.proofs.Common.{◌≡◌, ℕ, ◌==◌, true, Option, Some, ap, ◌∙◌, cond, List}
use Rattle.st_core.specs.declared.types.Act.TheVariants as act
use Rattle.st_core.specs.declared.types.Event.{Event}
use Rattle.st_core.specs.declared.types.Label.{Label}
use Rattle.st_core.specs.declared.types.Message.{Message}
use Rattle.st_core.specs.declared.types.Pid.{Pid}
use Rattle.st_core.specs.declared.types.Reply.TheVariants as reply
use Rattle.st_core.specs.declared.types.Token.{Token}
use Rattle.st_core.specs.Local.{has_label}
use Rattle.st_core.specs.State.{LocalState, Process}
use Rattle.st_core.specs.Step.{Acted, answers, prints}
use Rattle.node_machine.specs.Node.{after_stamp, Common, node_acted}
use Rattle.node_check.specs.Steps.{IsNodePart}

pub print_at_part : (r : Process) (p : Pid) (n : Label) (v : ℕ) (t : Token) (l : LocalState)
    (b : List Message) (e : Option Event) → r.local.token ≡ Some t → (t.label.0 == n.0) ≡ true
    → IsNodePart r (Common (act.Print p v)) l b e → IsNodePart r (Common (act.PrintAt p n v)) l b e
print_at_part r p n v t l b e is same part =
    let has : has_label n r.local.token ≡ true = ap (has_label n) is ∙ same in
    let acts : node_acted r (Common (act.PrintAt p n v)) ≡ node_acted r (Common (act.Print p v)) =
    ap (λ c. cond c (prints r v (after_stamp r.pid r.local)) (answers r r.local reply.Done)) has in
    record {
      is_local = ap (λ (x : Acted). x.local) acts ∙ part.is_local;
      is_queue = ap (λ (x : Acted). x.queue) acts ∙ part.is_queue;
      is_report = ap (λ (x : Acted). x.report) acts ∙ part.is_report;
    }

-- the part of a print doesn't depend on the actor that it names
pub print_of : (r : Process) (p q : Pid) (v : ℕ) (l : LocalState) (b : List Message)
    (e : Option Event) → IsNodePart r (Common (act.Print p v)) l b e
    → IsNodePart r (Common (act.Print q v)) l b e
print_of r p q v l b e part =
    record { is_local = part.is_local; is_queue = part.is_queue; is_report = part.is_report }
