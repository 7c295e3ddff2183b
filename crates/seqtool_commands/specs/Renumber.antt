-- The result of `renumber` on bytes: the bundle of the streams that they spell, with each count
-- replaced by its rank. The acts in the input are ignored.
use Rattle.std.specs.Prelude.{◌≡◌, ℕ, ◌≤◌, List, Option, Some, None}
use Rattle.st_core.specs.declared.types.Act.{Act}
use Rattle.st_core.specs.Run.{Stream}
use Rattle.st_text.specs.declared.fault.ReadFault.{ReadFault}
use Rattle.st_text.specs.Fault.{fault_within}
use Rattle.st_text.specs.Limits.{greater}
use Rattle.st_text.specs.Spelling.{ended_line}
use Rattle.st_text.specs.Text.{spelling}
use Rattle.lack_laws.specs.Completed.{IsShownInOneTrace}
use Rattle.lack_laws.specs.Renumbering.{count_of_rank, counts_of, renumbered_streams, with_counts}
use Rattle.lack_laws.specs.Renumbering.{KeepsOrder}
use Rattle.st_commands.specs.Output.{Output, fault_words, refused}
use Rattle.st_commands.specs.Checked.{top, Spells}

-- streams as a bundle without acts
abbrev pub streams_output : List Stream → Output
streams_output streams = record {
  text = spelling (record { streams = streams; acts = None });
  status = 0;
}

pub data IsRenumbered : List ℕ → Output → Type 0 where
  Ranked : (bytes : List ℕ) (streams : List Stream) (given : Option (List Act))
      → Spells greater bytes streams given
      → IsRenumbered bytes (streams_output (renumbered_streams streams))
  Faulty : (bytes : List ℕ) (f : ReadFault) → fault_within greater bytes ≡ Some f
      → IsRenumbered bytes (refused f)

-- ---- what a status means, as one record of plain facts

-- streams with small counts: status 0
pub record MeansRenumbered (bytes : List ℕ) (out : Output) : Type 0 where
  pub streams : List Stream
  pub given : Option (List Act)
  pub written : List Stream
  -- the bytes spell streams, within the reader's limits; acts among them are ignored
  pub spelled : Spells greater bytes streams given
  -- in the written streams each count is its rank among 0 and all counts of the streams
  pub ranked : written ≡ renumbered_streams streams
  -- so nothing is lost: a map that keeps the order of counts, and 0, gives the streams back
  pub order : KeepsOrder (count_of_rank (counts_of streams))
  pub back : with_counts (count_of_rank (counts_of streams)) written ≡ streams
  -- acts without a reset show the streams, if acts without a reset show the written ones, with
  -- clocks up to the rank of a count that clocks of the program can have
  pub shown : (most : ℕ) → count_of_rank (counts_of streams) most ≤ top
      → IsShownInOneTrace most written → IsShownInOneTrace top streams
  -- the text is that of the written streams
  pub text : out.text ≡ spelling (record { streams = written; acts = None })

-- a fault of the bytes: status 2
pub record MeansRefused (bytes : List ℕ) (out : Output) : Type 0 where
  pub fault : ReadFault
  -- the bytes spell no bundle within the reader's limits, and the fault is the first one in them
  pub faulty : fault_within greater bytes ≡ Some fault
  -- the text names the fault
  pub text : out.text ≡ ended_line (fault_words fault)
