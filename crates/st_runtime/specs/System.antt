-- The processes that an act in a system needs, and the acts that stamp.
use Rattle.std.specs.Prelude.{Bool, true, false, ◌&&◌, List}
use Rattle.st_core.specs.declared.types.Pid.{Pid}
use Rattle.st_core.specs.declared.types.Act.{Act}
use Rattle.st_core.specs.declared.types.Act.TheVariants as act
use Rattle.st_core.specs.Step.{actor, receiver}
use Rattle.st_core.specs.Streams.{is_among}

-- the actor, and a send's receiver, are among the pids
abbrev pub knows : List Pid → Act → Bool
knows pids a = is_among pids (actor a) && is_among pids (receiver a)

-- the acts that stamp a token, if there is one; no other act finds a clock full
abbrev pub is_stamping : Act → Bool
is_stamping (act.Send p q v) = true
is_stamping (act.Print p v) = true
is_stamping (act.PrintAt p n v) = true
is_stamping a = false
