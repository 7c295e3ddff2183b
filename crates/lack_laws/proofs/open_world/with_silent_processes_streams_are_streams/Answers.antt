-- A process without events, put in by its pid, changes no other process's events.
use Rattle.lack_laws.proofs.SilentStreams.{silent_events, silent_lists, silent_sound}
use Rattle.lack_laws.proofs.open_world.with_silent_processes_streams_are_streams.Goals as goal

pub returns : goal.returns
returns c = λ streams others sound. (
  silent_sound streams sound others,
  silent_events streams sound others,
  silent_lists streams sound others,
)
