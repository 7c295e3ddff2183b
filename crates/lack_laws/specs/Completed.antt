-- Streams that acts without a reset show, and completions of streams: whole streams whose told
-- events are the streams.
use Rattle.std.specs.Prelude.{◌≡◌, ℕ, List}
use Rattle.st_core.specs.declared.types.Act.{Act}
use Rattle.st_core.specs.Laws.{NoReset}
use Rattle.st_core.specs.Run.{Shows, Stream}
use Rattle.st_core.specs.Streams.{IsStreams}
use Rattle.st_plan.specs.Marks.{all_streams, told_streams, Whole}

-- acts without a reset show the streams
pub record IsShownInOneTrace (top : ℕ) (streams : List Stream) : Type 0 where
  pub acts : List Act
  pub shows : Shows top streams acts
  pub one_trace : NoReset acts

-- a completion of the streams: whole streams whose told events are the streams, and which have the
-- property `Is`
pub record IsCompleted (Is : ℕ → List Stream → Type 0) (top : ℕ)
    (streams : List Stream) : Type 0 where
  pub wholes : List Whole
  pub told : told_streams wholes ≡ streams
  pub sound : IsStreams (all_streams wholes)
  pub is : Is top (all_streams wholes)
