-- The fields of a `Pcb`, and how each of its acts changes it.
use Rattle.std.specs.Prelude.{◌≡◌, ℕ, ◌+◌, List, [], ◌∷◌, ◌++◌, length}
use Rattle.st_core.specs.declared.types.Pid.{Pid}
use Rattle.st_core.specs.declared.types.Message.{Message}
use Rattle.st_core.specs.declared.types.Act.{Act}
use Rattle.st_core.specs.declared.types.Reply.{Reply}
use Rattle.st_core.specs.State.{LocalState}
use Rattle.st_mail.specs.Mail.{queue_in}
use Rattle.st_log.specs.declared.entry.Entry.{Entry}
use Rattle.st_mail.specs.Actor.{process_of, QueueFits}
use Rattle.st_log.specs.Entries.{last_rank}
use Rattle.st_runtime.specs.Logs.{IsOwnPart}
use Rattle.st_runtime.specs.Pcb.{Control, IsFromLog}

-- the invariant of the fields: the queue is the only box, each token in it can be met, and the log
-- gives the process's state
pub record IsInside (top ranks : ℕ) (p : Pid) (l : LocalState) (boxes : List (List Message))
    (log : List Entry)
    : Type 0 where
  pub one_box : length boxes ≡ 1
  pub fit : QueueFits top (queue_in boxes 0)
  pub kept : IsFromLog top ranks (process_of p l (queue_in boxes 0)) log

-- the actor's own part was made, and its entry was appended to its log
pub record IsAppended (top : ℕ) (a : Act) (y : Reply) (x z : Control) : Type 0 where
  pub entry : Entry
  pub part : IsOwnPart top x.process entry z.process
  pub act : entry.act ≡ a
  pub reply : entry.reply ≡ y
  pub rank : entry.rank ≡ last_rank 0 x.log + 1
  pub log : z.log ≡ x.log ++ entry ∷ []
