-- Tests of a bundle's parts for pids of another node, which together test its lines.
use Rattle.std.specs.Prelude.{Bool, ◌||◌, List, ◌∷◌, option_to_list}
use Rattle.std.specs.List.{list_any}
use Rattle.st_core.specs.declared.types.Pid.{Pid}
use Rattle.st_core.specs.declared.types.Event.{Event}
use Rattle.st_core.specs.declared.types.Act.{Act}
use Rattle.st_core.specs.Run.{Stream}
use Rattle.st_core.specs.Streams.{events_of}
use Rattle.st_text.specs.Text.{is_away, named}

abbrev pub is_event_remote : Event → Bool
is_event_remote e = list_any is_away (e.from ∷ option_to_list e.to)

abbrev pub is_act_remote : Act → Bool
is_act_remote a = list_any is_away (named a)

abbrev pub is_process_remote : List Stream → Pid → Bool
is_process_remote streams p = is_away p || list_any is_event_remote (events_of streams p)
