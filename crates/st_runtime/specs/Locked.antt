-- An act under its locks, of whose values nothing is known but the invariants of their types.
use Rattle.std.specs.Prelude.{◌≡◌, ◌<◌, ◌≤◌, ◌↔◌, ℕ, Bool, List, Option, None, IfSome, Result, Ok}
use Rattle.std.specs.Prelude.{Err, IfOk, OnErr}
use Rattle.st_core.specs.Step.{actor, receiver}
use Rattle.st_runtime.specs.Lent.{AreSame, FindsClockFull, FindsRankFull}
use Rattle.st_runtime.specs.Pcb.{Control, IsStepped}
use Rattle.st_core.specs.declared.types.Act.{Act}
use Rattle.st_log.specs.declared.entry.Entry.{Entry}
use Rattle.st_core.specs.declared.types.Act.TheVariants as act
use Rattle.st_core.specs.declared.types.Reply.{Reply}
use Rattle.st_core.specs.declared.types.Reply.TheVariants as reply
use Rattle.st_runtime.specs.declared.fault.ActFault.{ActFault}
use Rattle.st_runtime.specs.declared.fault.ActFault.TheVariants as fault

-- the result isn't a refusal that comes before a lock is taken
abbrev pub IsLockFault : {T : Type 0} → Result T ActFault → Type 0
IsLockFault (Ok x) = Unit {0}
IsLockFault (Err fault.NotYours) = ⊥
IsLockFault (Err fault.Unknown) = ⊥
IsLockFault (Err fault.Stray) = Unit {0}
IsLockFault (Err fault.ClockFull) = Unit {0}
IsLockFault (Err fault.RankFull) = Unit {0}
IsLockFault (Err fault.Memory) = Unit {0}

-- the reply of an act of a whole node to an actor that was traced or not
abbrev pub wide_reply : Act → Bool → Reply
wide_reply (act.Tracer p b) was = reply.Was was
wide_reply a was = reply.Done

-- the entry of an act of a whole node, if the greatest rank of the logs so far is `last`, and the
-- actor, if it was met, was traced or not
pub record IsWideEntry (ranks last : ℕ) (was : Option Bool) (a : Act) (e : Entry) : Type 0 where
  pub act : e.act ≡ a
  pub above : last < e.rank
  pub within : e.rank ≤ ranks
  pub reply : IfSome was (λ was. e.reply ≡ wide_reply a was)
  pub report : e.report ≡ None
  pub carried : e.carried ≡ None

-- the two processes are the actor and the receiver
abbrev pub AreFor : Act → Control → Control → Type 0
AreFor a from to = (from.process.pid ≡ actor a) × (to.process.pid ≡ receiver a)

-- The result of an act on the processes that its locks held: a step, or a refusal that changes
-- nothing. A full clock or rank is found only if the processes are the locks' own.
pub record IsHeldStep (top ranks : ℕ) (a : Act) (AreOwn : Type 0) (before after : List Control)
    (r : Result Reply ActFault)
    : Type 0 where
  pub ok : IfOk r (λ y. IsStepped top a y before after)
  pub err : OnErr r (AreSame before after)
  pub clock : (r ≡ Err fault.ClockFull) ↔ (AreOwn × FindsClockFull top a before)
  pub rank : (r ≡ Err fault.RankFull) ↔ (AreOwn × FindsRankFull top ranks a before)
