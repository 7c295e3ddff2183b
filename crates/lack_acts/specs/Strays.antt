-- Stray messages, whose sends are among the last events of a process, and untold as their receives
-- are.
use Rattle.std.specs.Prelude.{◌≡◌, ◌*◌, ◌<◌, nat_lt, Bool, [], All, List, length, vec_len}
use Rattle.std.specs.List.{list_any}
use Rattle.st_core.specs.Run.{Stream, pids_of}
use Rattle.st_plan.specs.Marks.{Whole}
use Rattle.lack_acts.specs.Missing.{missing_at_end}
use Rattle.lack_acts.specs.declared.strays.Strays.{Strays}

-- some process passes counts for the untold sends at its end alone
abbrev pub may_save : List Whole → Bool
may_save wholes = list_any (λ w. nat_lt 0 (missing_at_end 0 [] w.marked)) wholes

-- each stray message has a listed receiver, and two events that are taken out
pub record AreStrays (streams : List Stream) (s : Strays) : Type 0 where
  pub listed : All (λ stray. stray.to < length (pids_of streams)) s.strays.items
  pub removals : vec_len s.removals ≡ 2 * vec_len s.strays
