-- What an entry does to one process, and the state that a log gives its process. The parts of the
-- machine's step are `st_core`'s.
use Rattle.std.specs.Prelude.{◌≡◌, ℕ, ◌<◌, true, List, [], ◌∷◌, Option, Some, None, MatchBool}
use Rattle.std.specs.Option.{ForSome}
use Rattle.st_core.specs.declared.types.Pid.{Pid}
use Rattle.st_core.specs.declared.types.Token.{Token}
use Rattle.st_core.specs.declared.types.Act.{Act}
use Rattle.st_core.specs.declared.types.Act.TheVariants as act
use Rattle.st_core.specs.Pid.{pid_eq}
use Rattle.st_core.specs.State.{Process, zero_local}
use Rattle.st_core.specs.Step.{Acted, acted, actor, touches, reached, changed}
use Rattle.st_core.specs.Laws.{IsStamped}
use Rattle.st_log.specs.declared.entry.Entry.{Entry}

-- the token that an act's message carries, if the actor's token is the given one afterwards; only
-- a send carries a token
abbrev pub carried_by : Act → Option Token → Option Token
carried_by (act.Send p q v) token = token
carried_by a token = None

-- what a process that isn't the actor knows of a carried token: the sender stamped it
abbrev pub IsCarried : ℕ → Act → Option Token → Type 0
IsCarried top (act.Send p q v) carried = ForSome carried (IsStamped top p)
IsCarried top a carried = carried ≡ None

-- the actor's part: r becomes s, with the reply, the report and the carried token of the entry
pub record IsOwnPart (top : ℕ) (r : Process) (e : Entry) (s : Process) : Type 0 where
  pub done : Acted
  pub acts : acted top r e.act ≡ Some done
  pub reply : done.reply ≡ e.reply
  pub report : done.report ≡ e.report
  pub carried : carried_by e.act done.local.token ≡ e.carried
  pub after : changed e.act done r ≡ s

-- the part of a process that isn't the actor: a send's receiver, or a process of the actor's node
pub record IsOtherPart (top : ℕ) (r : Process) (e : Entry) (s : Process) : Type 0 where
  pub carried : IsCarried top e.act e.carried
  pub after : reached e.act e.carried r ≡ s

-- the entry touches r and is legal for it, and r becomes s
pub record IsPart (top : ℕ) (r : Process) (e : Entry) (s : Process) : Type 0 where
  pub touched : touches e.act r.pid ≡ true
  pub part : MatchBool (pid_eq r.pid (actor e.act)) (IsOwnPart top r e s) (IsOtherPart top r e s)

-- entries in a row, each legal after those before, lead from r to s
abbrev pub LeadTo : ℕ → Process → List Entry → Process → Type 0
LeadTo top r [] s = r ≡ s
LeadTo top r (e ∷ es) s = (m : Process) × IsPart top r e m × LeadTo top m es s

-- a process at the start
abbrev pub zero_process : Pid → Process
zero_process p = record { pid = p; local = zero_local; queue = [] }

-- the log leads from the start of the process to r
abbrev pub IsLocal : ℕ → Process → List Entry → Type 0
IsLocal top r log = LeadTo top (zero_process r.pid) log r

-- ranks rise strictly, from above low on
abbrev pub RanksRise : ℕ → List Entry → Type 0
RanksRise low [] = Unit {0}
RanksRise low (e ∷ es) = (low < e.rank) × RanksRise e.rank es
