-- The outcome of an act on lent processes: a step or the reason that there is none, and the part
-- of an act of a whole node at one of them.
use Rattle.std.specs.Prelude.{◌≡◌, ◌≢◌, ℕ, ◌-◌, ◌<◌, ◌≤◌, true, List, [], ◌∷◌, ◌++◌, option_map}
use Rattle.std.specs.Prelude.{Some, None, IsSome, Result, Ok, Err}
use Rattle.st_core.specs.declared.types.Act.{Act}
use Rattle.st_core.specs.declared.types.Reply.{Reply}
use Rattle.st_core.specs.Pid.{node_eq}
use Rattle.st_core.specs.Step.{acted, actor, reached, step}
use Rattle.st_runtime.specs.declared.fault.PcbFault.{PcbFault}
use Rattle.st_runtime.specs.declared.fault.PcbFault.TheVariants as fault
use Rattle.st_log.specs.declared.entry.Entry.{Entry}
use Rattle.st_log.specs.Entries.{is_wide, last_rank}
use Rattle.st_runtime.specs.Pcb.{Control, IsSame, IsStepped, greatest_rank, lent_state}

-- the act has no step on the lent processes, which are its own, since the actor's clock is full
abbrev pub FindsClockFull : ℕ → Act → List Control → Type 0
FindsClockFull top a xs = step top (lent_state xs) a ≡ None

-- the act has a step on the lent processes, and the greatest rank is in their logs
pub record FindsRankFull (top ranks : ℕ) (a : Act) (xs : List Control) : Type 0 where
  pub steps : IsSome (step top (lent_state xs) a)
  pub full : greatest_rank xs ≡ ranks

-- the act has a step on the lent processes, and the greatest rank isn't in their logs
pub record FindsStep (top ranks : ℕ) (a : Act) (xs : List Control) : Type 0 where
  pub steps : IsSome (step top (lent_state xs) a)
  pub rank : greatest_rank xs ≢ ranks

-- each is the same but for room
abbrev pub AreSame : List Control → List Control → Type 0
AreSame [] [] = Unit {0}
AreSame (x ∷ xs) (y ∷ ys) = IsSame x y × AreSame xs ys
AreSame xs ys = ⊥

-- The outcome of a call that steps lent processes. The findings for one result exclude those for
-- any other, so each refusal comes exactly if its reason holds.
abbrev pub IsLentStep : ℕ → ℕ → Act → List Control → List Control
    → Result Reply PcbFault → Type 0
IsLentStep top ranks a before after (Ok y) =
    FindsStep top ranks a before × IsStepped top a y before after
IsLentStep top ranks a before after (Err fault.ClockFull) =
    FindsClockFull top a before × AreSame before after
IsLentStep top ranks a before after (Err fault.RankFull) =
    FindsRankFull top ranks a before × AreSame before after
IsLentStep top ranks a before after (Err fault.Memory) =
    FindsStep top ranks a before × AreSame before after

-- the entry is that of an act of x's whole node, and may come next in its log: the reply is the
-- machine's if x is the actor, nothing is reported, and no token is carried
pub record IsNodeEntry (top ranks : ℕ) (x : Control) (e : Entry) : Type 0 where
  pub wide : is_wide e.act ≡ true
  pub node : node_eq x.process.pid (actor e.act) ≡ true
  pub above : last_rank 0 x.log < e.rank
  pub within : e.rank ≤ ranks
  pub reply : actor e.act ≡ x.process.pid
      → option_map (λ done. done.reply) (acted top x.process e.act) ≡ Some e.reply
  pub report : e.report ≡ None
  pub carried : e.carried ≡ None

-- x after an act of its whole node, with the entry at the end of its log
abbrev pub with_node_entry : Entry → Control → Control
with_node_entry e x = record {
  process = reached e.act None x.process;
  log = x.log ++ e ∷ [];
  spare = x.spare - 1;
}
