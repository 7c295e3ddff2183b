-- The flags that most events want: for each kind, told events are counted, and untold ones.
use Rattle.std.specs.Prelude.{◌+◌, ℕ, nat_lt, nat_le, Bool, false, List, [], ◌∷◌, ◌++◌}
use Rattle.std.specs.Prelude.{if◌then◌else◌}
use Rattle.st_core.specs.declared.types.Event.{Event}
use Rattle.st_core.specs.declared.types.Flags.{Flags}
use Rattle.st_core.specs.declared.types.Kind.{Kind}
use Rattle.st_core.specs.declared.types.Kind.TheVariants as kind
use Rattle.st_plan.specs.Marks.{Marked, Whole}
use Rattle.lack_needs.specs.Flaws.{left_by}
use Rattle.lack_acts.specs.Missing.{missing_before, up_to_64_bits}
use Rattle.lack_acts.specs.declared.tallies.FlagTally.{FlagTally}
use Rattle.lack_acts.specs.declared.tallies.FlagTallies.{FlagTallies}

-- the tally with one more event
abbrev pub counted : FlagTally → Bool → FlagTally
counted t told = if told then record t { told = up_to_64_bits (t.told + 1) }
    else record t { untold = up_to_64_bits (t.untold + 1) }

abbrev pub no_flags : FlagTallies
no_flags = record {
  sends = record { told = 0; untold = 0 };
  receives = record { told = 0; untold = 0 };
  prints = record { told = 0; untold = 0 };
}

abbrev pub counted_by_kind : FlagTallies → Kind → Bool → FlagTallies
counted_by_kind t kind.Send told = record t { sends = counted t.sends told }
counted_by_kind t kind.Receive told = record t { receives = counted t.receives told }
counted_by_kind t kind.Print told = record t { prints = counted t.prints told }

-- the tallies with the silent prints before an event, which count as one untold print
abbrev pub with_silence : FlagTallies → ℕ → FlagTallies
with_silence t missing =
    if nat_lt 0 missing then record t { prints = counted t.prints false } else t

-- the tallies with the marked events of a process, given the events before them
abbrev pub counted_from : FlagTallies → List Event → List Marked → FlagTallies
counted_from t before [] = t
counted_from t before (m ∷ ms) =
    counted_from (with_silence (counted_by_kind t m.event.kind m.told)
    (missing_before (left_by before) m.event)) (before ++ m.event ∷ []) ms

-- the tallies with the events of all processes
abbrev pub counted_whole : FlagTallies → List Whole → FlagTallies
counted_whole t [] = t
counted_whole t (w ∷ wholes) = counted_whole (counted_from t [] w.marked) wholes

-- the flag that is right for at least half of the events
abbrev pub majority : FlagTally → Bool
majority t = nat_le t.untold t.told

abbrev pub usual_flags : List Whole → Flags
usual_flags wholes = let t = counted_whole no_flags wholes in record {
  send = majority t.sends;
  receive = majority t.receives;
  print = majority t.prints;
}
