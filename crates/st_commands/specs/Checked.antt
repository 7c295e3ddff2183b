-- The output of `check`: the verdict on the streams and acts that the bytes spell, or why the
-- bytes spell none. The limits are those of the reader.
use Rattle.std.specs.Prelude.{◌≡◌, ℕ, List, Option, Some, None}
use Rattle.st_core.specs.declared.types.Act.{Act}
use Rattle.st_core.specs.Run.{Stream}
use Rattle.st_core.specs.Verdict.{Verdict, IsVerdict}
use Rattle.st_check.specs.Answers.{FollowsAll, PairsAll}
use Rattle.st_text.specs.declared.fault.ReadFault.{ReadFault}
use Rattle.st_text.specs.declared.limits.Limits.{Limits}
use Rattle.st_text.specs.Text.{IsText, IsWithin}
use Rattle.st_text.specs.Fault.{fault_within}
use Rattle.st_commands.specs.Output.{Output, judged, refused, no_acts}

-- the greatest count that a clock of the program can have: the greatest u64
abbrev pub top : ℕ
top = 18446744073709551615

-- the bytes are the text of the streams, and of the acts if there are any, within the limits
pub record Spells (limits : Limits) (bytes : List ℕ) (streams : List Stream)
    (acts : Option (List Act)) : Type 0
  where
    pub text : IsText bytes (record { streams = streams; acts = acts })
    pub within : IsWithin limits (record { streams = streams; acts = acts })

-- the bytes spell streams and acts with the verdict v; if v is a yes, each reported receive has a
-- pair in which it follows its send
pub record IsJudged (limits : Limits) (bytes : List ℕ) (v : Verdict) : Type 0 where
  pub streams : List Stream
  pub acts : List Act
  pub spelled : Spells limits bytes streams (Some acts)
  pub verdict : IsVerdict top streams acts v
  pub follows : FollowsAll top streams acts v
  pub paired : PairsAll top streams acts v

-- the bytes spell streams without acts
pub record LacksActs (limits : Limits) (bytes : List ℕ) : Type 0 where
  pub streams : List Stream
  pub spelled : Spells limits bytes streams None

-- the output that `check` has for bytes
pub data IsChecked (limits : Limits) : List ℕ → Output → Type 0 where
  Judged : (bytes : List ℕ) (v : Verdict) → IsJudged limits bytes v
      → IsChecked limits bytes (judged v)
  Lacking : (bytes : List ℕ) → LacksActs limits bytes → IsChecked limits bytes no_acts
  Faulty : (bytes : List ℕ) (f : ReadFault) → fault_within limits bytes ≡ Some f
      → IsChecked limits bytes (refused f)
