-- A log with one more legal entry of a greater rank keeps the invariant, since the entries before
-- stay as they are.
use Rattle.std.proofs.Common.{◌≡◌, ℕ, ◌<◌, ◌≤◌, List, [], ◌∷◌, ◌++◌, length, refl, sym, subst}
use Rattle.std.proofs.Common.{arith}
use Rattle.st_core.specs.declared.types.Pid.{Pid}
use Rattle.st_core.specs.declared.types.Message.{Message}
use Rattle.st_core.specs.State.{LocalState, Process}
use Rattle.st_mail.specs.Actor.{process_of, QueueFits}
use Rattle.st_mail.specs.Mail.{queue_in}
use Rattle.st_log.specs.declared.entry.Entry.{Entry}
use Rattle.st_runtime.specs.Inside.{IsInside}
use Rattle.st_log.specs.Entries.{last_rank}
use Rattle.st_runtime.specs.Logs.{IsPart, LeadTo, RanksRise, zero_process}
use Rattle.st_runtime.specs.Pcb.{IsFromLog}
use Rattle.st_runtime.proofs.PartLemmas.{part_pid}

LeadTo-push : (top : ℕ) (r : Process) (log : List Entry) (m : Process) (e : Entry) (s : Process)
    → LeadTo top r log m → IsPart top m e s → LeadTo top r (log ++ e ∷ []) s
LeadTo-push top r [] m e s same part = (s, subst (λ x. IsPart top x e s) (sym same) part, refl)
LeadTo-push top r (x ∷ xs) m e s led part =
    (led.0, led.1, LeadTo-push top led.0 xs m e s led.2 part)

RanksRise-push : (low : ℕ) (log : List Entry) (e : Entry)
    → RanksRise low log → last_rank low log < e.rank → RanksRise low (log ++ e ∷ [])
RanksRise-push low [] e rises above = (above, tt)
RanksRise-push low (x ∷ xs) e rises above = (rises.0, RanksRise-push x.rank xs e rises.1 above)

last_rank-push : (low : ℕ) (log : List Entry) (e : Entry) → last_rank low (log ++ e ∷ []) ≡ e.rank
last_rank-push low [] e = refl
last_rank-push low (x ∷ xs) e = last_rank-push x.rank xs e

-- a rank that may come next in a log
pub record IsNext (ranks : ℕ) (log : List Entry) (n : ℕ) : Type 0 where
  pub above : last_rank 0 log < n
  pub within : n ≤ ranks

-- the invariant holds after a legal entry with such a rank
kept_push : (top ranks : ℕ) (r : Process) (log : List Entry) (e : Entry) (s : Process)
    → IsFromLog top ranks r log → IsPart top r e s → IsNext ranks log e.rank
    → IsFromLog top ranks s (log ++ e ∷ [])
kept_push top ranks r log e s kept part next =
    let led : LeadTo top (zero_process r.pid) (log ++ e ∷ []) s =
    LeadTo-push top (zero_process r.pid) log r e s kept.local part in
    record {
      rises = RanksRise-push 0 log e kept.rises next.above;
      within = let below = next.within in omega (arith, last_rank-push 0 log e);
      local = subst (λ p. LeadTo top (zero_process p) (log ++ e ∷ []) s)
          (sym (part_pid top r e s part)) led;
    }

-- the fields keep their invariant, if the queue is the one after the entry
pub inside_push : (top ranks : ℕ) (p : Pid) (l : LocalState) (boxes : List (List Message))
    (log : List Entry)
    (e : Entry) (m : LocalState) (boxes' : List (List Message))
    → IsInside top ranks p l boxes log
    → length boxes' ≡ 1 → QueueFits top (queue_in boxes' 0)
    → IsPart top (process_of p l (queue_in boxes 0)) e (process_of p m (queue_in boxes' 0))
    → IsNext ranks log e.rank
    → IsInside top ranks p m boxes' (log ++ e ∷ [])
inside_push top ranks p l boxes log e m boxes' inside one fit part next = record {
  one_box = one;
  fit = fit;
  kept = kept_push top ranks (process_of p l (queue_in boxes 0)) log e
      (process_of p m (queue_in boxes' 0))
      inside.kept part next;
}
