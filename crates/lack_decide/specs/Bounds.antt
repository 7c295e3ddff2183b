-- The number of acts that surely suffice for a completion, by a plain count of its events, and
-- what a fault tells of it.
use Rattle.std.specs.Prelude.{ℕ, ◌<◌, ◌≤◌, ◌+◌, ◌-◌, ◌^◌, min, List, [], ◌∷◌, ◌++◌, if◌then◌else◌}
use Rattle.std.specs.Prelude.{sum_by}
use Rattle.st_core.specs.declared.types.Event.{Event}
use Rattle.st_core.specs.Laws.{greatest_count}
use Rattle.st_core.specs.Run.{Stream, pids_of}
use Rattle.st_core.specs.Streams.{events_of}
use Rattle.st_pair.specs.Places.{is_stamp}
use Rattle.st_plan.specs.Marks.{Whole, all_streams}
use Rattle.lack_decide.specs.declared.answer.CertificateFault.{CertificateFault}
use Rattle.lack_decide.specs.declared.answer.CertificateFault.TheVariants as fault

-- the number of counts that a process passes unreported before e, after the events es
abbrev pub skipped : List Event → Event → ℕ
skipped es e = if is_stamp e then e.serial.this - 1 - greatest_count es else 0

-- six acts for each event and one for each skipped count, given the events before
abbrev pub acts_after : List Event → List Event → ℕ
acts_after before [] = 0
acts_after before (e ∷ es) = 6 + skipped before e + acts_after (before ++ e ∷ []) es

-- the acts of all events, and one for each process
abbrev pub act_bound : List Stream → ℕ
act_bound streams = sum_by (λ p. 1 + acts_after [] (events_of streams p)) (pids_of streams)

-- n, up to the greatest number of 64 bits
abbrev pub saturated : ℕ → ℕ
saturated n = min n (2 ^ 64 - 1)

-- a fault tells whether the caller takes fewer acts than surely suffice, or as many
abbrev pub IsCertificateFault : List Whole → ℕ → CertificateFault → Type 0
IsCertificateFault wholes most fault.TooManyActs = most < act_bound (all_streams wholes)
IsCertificateFault wholes most fault.Uncertified = saturated (act_bound (all_streams wholes)) ≤ most
IsCertificateFault wholes most fault.Memory = Unit {0}
