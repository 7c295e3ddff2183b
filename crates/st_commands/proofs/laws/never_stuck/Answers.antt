-- A text has no more acts than a clock has counts, and it lists the pids of its acts.
use Rattle.st_commands.proofs.Meanings.{never_stuck, never_stuck_in_replay}
use Rattle.st_commands.proofs.laws.never_stuck.Goals as goal

pub returns : goal.returns
returns c = record { check = never_stuck; replay = never_stuck_in_replay }
