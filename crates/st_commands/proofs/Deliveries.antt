-- The parts of a command together deliver what the command owes: each part's output is one for the
-- bytes that were read.
use Rattle.std.proofs.Common.{◌≡◌, ◌≢◌, ℕ, ◌<◌, ◌≤◌, false, List, length, refl, sym, subst, ◌∙◌}
use Rattle.std.proofs.Common.{inl, inr, arith}
use Rattle.std.proofs.lemmas.Option.{same_Some}
use Rattle.std.specs.Prelude.{Option, Some, None, Result, Ok, Err, MatchResult}
use Rattle.st_core.specs.declared.types.Act.{Act}
use Rattle.st_core.specs.declared.types.Label.{Label}
use Rattle.st_pair.specs.Pairing.{refusal}
use Rattle.st_order.specs.declared.item.Item.{Item}
use Rattle.st_order.specs.Order.{IsOrder}
use Rattle.st_core.specs.Run.{Stream, pids_of}
use Rattle.st_core.specs.Device.{InARow}
use Rattle.st_text.specs.declared.fault.ReadFault.{ReadFault}
use Rattle.st_text.specs.declared.fault.ReadFault.TheVariants as faults
use Rattle.st_text.specs.declared.bundle.Bundle.{Bundle}
use Rattle.st_text.specs.Contents.{contents}
use Rattle.st_text.specs.declared.limits.Limits.{Limits}
use Rattle.st_text.specs.Text.{Contents}
use Rattle.st_text.specs.Fault.{fault_within}
use Rattle.st_text.specs.Reads.{ReadsSource}
use Rattle.st_text.proofs.ForCallers.{fault_too_large}
use Rattle.st_text.specs.Writing.{WritesText}
use Rattle.st_commands.specs.Output.{Output, judged, refused, no_acts}
use Rattle.st_commands.specs.Checked.{Spells, IsChecked, Judged}
use Rattle.st_commands.specs.Checked as checked
use Rattle.st_commands.specs.Replayed.{IsReplayed}
use Rattle.st_commands.specs.Replayed as replays
use Rattle.st_commands.specs.Audited.{IsAudited, report_output}
use Rattle.st_commands.specs.Audited as audits
use Rattle.st_commands.specs.Charted.{IsCharted, drawn, no_label}
use Rattle.st_commands.specs.Charted as charts
use Rattle.st_commands.specs.Command.{ReaderCall, WriterCall, ReadsAll, Owes, OfBytes, ForMemory}
use Rattle.st_commands.specs.Command.{ForReader, Delivers, Whole, Part, Tells, OwesBy}
use Rattle.st_commands.specs.Parts.{ChecksTo, AuditsTo, DrawsTo, ChartsTo, ReplaysTo, OfBundle}
use Rattle.st_commands.specs.Parts.{OfSome, OfNone}
use Rattle.st_commands.specs.Parts as parts
use Rattle.st_commands.specs.declared.words.Task.{Task}
use Rattle.st_commands.specs.declared.words.Task.TheVariants as task
use Rattle.st_commands.specs.Meaning.{Says, Performs, PerformsBy}

-- ---- writing

pub delivers : {W T E : Type 0} (writer : WriterCall W) (out : Output) (r : Result T E) (status : ℕ)
    → WritesText writer.device.puts writer.device.failed out.text writer.old writer.new r
    → MatchResult r (λ _. status ≡ out.status) (λ _. status ≡ 4) → Delivers writer out status
delivers writer out (Ok v) status w e = subst (Delivers writer out) (sym e) (Whole w)
delivers writer out (Err x) status w e = subst (Delivers writer out) (sym e) (Part w)

module _ {W : Type 0} (writer : WriterCall W) (status : ℕ) where
  -- an output that was told as one of P was told as one of Q, if each of P is one of Q
  pub tells_as : {P Q : Output → Type 0} → ((out : Output) → P out → Q out) → Tells writer P status
      → Tells writer Q status
  tells_as owed told =
      record { output = told.output; owed = owed told.output told.owed; delivered = told.delivered }

  -- an output that was told for a bundle's acts was told for the bundle
  pub tells_of_acts : (OfActs : List Stream → List Act → Output → Type 0) (c : Contents)
      (acts : List Act) → c.acts ≡ Some acts → Tells writer (OfActs c.streams acts) status
      → Tells writer (OfBundle OfActs c) status
  tells_of_acts OfActs c acts e told = tells_as (λ out is. OfSome acts out e is) told

module _ (limits : Limits) {R : Type 0} (reader : ReaderCall R) where
  -- ---- reading

  abbrev Reads : Result Bundle ReadFault → Type 0
  Reads r =
      ReadsSource limits reader.device.gives reader.device.ended reader.device.failed
      reader.old reader.new r

  -- the bytes up to the source's end are all its bytes
  up_to_end : (bytes : List ℕ) → InARow reader.device.gives reader.old bytes reader.new
      → reader.device.ended reader.new → reader.device.failed reader.new ≡ false
      → ReadsAll limits reader bytes
  up_to_end bytes given end sound = record { given = given; whole = inl end; sound = sound }

  module _ (IsOutput : List ℕ → Output → Type 0)
      (faulty : (bytes : List ℕ) (f : ReadFault) → fault_within limits bytes ≡ Some f
      → IsOutput bytes (refused f))
    where
      -- the output for a fault of the bytes that were read is owed
      of_fault : (bytes : List ℕ) (f : ReadFault) → InARow reader.device.gives reader.old bytes
          reader.new → reader.device.ended reader.new → reader.device.failed reader.new ≡ false
          → fault_within limits bytes ≡ Some f → Owes limits reader IsOutput (refused f)
      of_fault bytes f given end sound is =
          OfBytes bytes (refused f) (up_to_end bytes given end sound) (faulty bytes f is)

      -- the output for a refusal of the reader is owed, whatever the command makes of bytes
      owes_fault : (f : ReadFault) → Reads (Err f) → Owes limits reader IsOutput (refused f)
      owes_fault faults.Memory h =
          ForMemory h.bytes (up_to_end h.bytes h.given h.answer.end h.answer.after) h.answer.small
      owes_fault faults.Device h = ForReader h.bytes h.given h.answer.small h.answer.mark
      owes_fault faults.TooLarge h =
          let more : limits.bytes < length h.bytes = omega (arith, h.answer.count) in
          OfBytes h.bytes (refused faults.TooLarge)
          (record { given = h.given; whole = inr h.answer.count; sound = h.answer.after })
          (faulty h.bytes faults.TooLarge (fault_too_large limits h.bytes more))
      owes_fault (faults.Line n) h =
          of_fault h.bytes (faults.Line n) h.given h.answer.end h.answer.after h.answer.answer
      owes_fault (faults.Order n) h =
          of_fault h.bytes (faults.Order n) h.given h.answer.end h.answer.after h.answer.answer
      owes_fault (faults.Foreign n) h =
          of_fault h.bytes (faults.Foreign n) h.given h.answer.end h.answer.after h.answer.answer
      owes_fault (faults.Unknown n) h =
          of_fault h.bytes (faults.Unknown n) h.given h.answer.end h.answer.after h.answer.answer
      owes_fault (faults.TooMany n) h =
          of_fault h.bytes (faults.TooMany n) h.given h.answer.end h.answer.after h.answer.answer
      owes_fault faults.Truncated h =
          of_fault h.bytes faults.Truncated h.given h.answer.end h.answer.after h.answer.answer

      pub tells_fault : {W : Type 0} (writer : WriterCall W) (status : ℕ) (f : ReadFault)
          → Reads (Err f)
          → Delivers writer (refused f) status → Tells writer (Owes limits reader IsOutput) status
      tells_fault writer status f h told =
          record { output = refused f; owed = owes_fault f h; delivered = told }

  -- the bytes of a bundle that was read
  pub record WasRead (c : Contents) : Type 0 where
    pub bytes : List ℕ
    pub all : ReadsAll limits reader bytes
    pub small : length bytes ≤ limits.bytes
    pub spelled : Spells limits bytes c.streams c.acts

  pub was_read : (b : Bundle) → Reads (Ok b) → WasRead (contents b)
  was_read b h = record {
    bytes = h.bytes;
    all = up_to_end h.bytes h.given h.answer.end h.answer.after;
    small = h.answer.small;
    spelled = record { text = h.answer.answer.text; within = h.answer.answer.within };
  }

  -- the output for a bundle is owed, if the one for its acts and the one for no acts are
  module _ (IsOutput : List ℕ → Output → Type 0) (OfActs : List Stream → List Act → Output → Type 0)
      (c : Contents) (h : WasRead c) where
    pub owes_bundle : ((acts : List Act) (out : Output)
        → Spells limits h.bytes c.streams (Some acts)
        → OfActs c.streams acts out → Owes limits reader IsOutput out)
        → (Spells limits h.bytes c.streams None → IsOutput h.bytes no_acts)
        → (out : Output) → OfBundle OfActs c out → Owes limits reader IsOutput out
    owes_bundle of_acts lacking out (OfSome acts o e is) =
        of_acts acts o (subst (Spells limits h.bytes c.streams) e h.spelled) is
    owes_bundle of_acts lacking out (OfNone e) =
        OfBytes h.bytes no_acts h.all (lacking
        (subst (Spells limits h.bytes c.streams) e h.spelled))

  -- ---- check

  module _ (c : Contents) (h : WasRead c) where
    owes_judged : (acts : List Act) (out : Output) → Spells limits h.bytes c.streams (Some acts)
        → ChecksTo c.streams acts out → Owes limits reader (IsChecked limits) out
    owes_judged acts out spelled (parts.Judges v is follows paired) =
        OfBytes h.bytes (judged v) h.all
        (Judged h.bytes v (record {
          streams = c.streams;
          acts = acts;
          spelled = spelled;
          verdict = is;
          follows = follows;
          paired = paired;
        }))
    owes_judged acts out spelled parts.NoRoomToCheck = ForMemory h.bytes h.all h.small

    pub owes_check : (out : Output) → OfBundle ChecksTo c out
        → Owes limits reader (IsChecked limits) out
    owes_check =
        owes_bundle (IsChecked limits) ChecksTo c h owes_judged
        (λ spelled. checked.Lacking h.bytes (record { streams = c.streams; spelled = spelled }))

    -- ---- audit

    pub owes_audit : (out : Output) → AuditsTo c.streams out
        → Owes limits reader (IsAudited limits) out
    owes_audit out (parts.Finds found is on final exact) =
        OfBytes h.bytes (report_output c.streams found) h.all
        (audits.Found h.bytes c.streams found
        (record {
          given = c.acts;
          spelled = h.spelled;
          finding = is;
          handed_on = on;
          final = final;
          exact = exact;
        }))
    owes_audit out parts.NoRoomToAudit = ForMemory h.bytes h.all h.small

    -- ---- chart

    owes_drawn : (label : Label) (items : List Item) (out : Output) → refusal c.streams ≡ None
        → IsOrder c.streams items → DrawsTo c.streams label items out
        → Owes limits reader (IsCharted limits label) out
    owes_drawn label items out ok is (parts.Draws some) =
        OfBytes h.bytes (drawn c.streams items label) h.all
        (charts.Drawn h.bytes c.streams items
        (record { given = c.acts; spelled = h.spelled; accepted = ok; order = is }) some)
    owes_drawn label items out ok is (parts.LacksLabel none) =
        OfBytes h.bytes (no_label label) h.all
        (charts.Unlabelled h.bytes c.streams items
        (record { given = c.acts; spelled = h.spelled; accepted = ok; order = is }) none)
    owes_drawn label items out ok is parts.NoRoomToDraw = ForMemory h.bytes h.all h.small

    pub owes_chart : (label : Label) (out : Output) → ChartsTo c.streams label out
        → Owes limits reader (IsCharted limits label) out
    owes_chart label out (parts.OfOrder items o ok is draws) = owes_drawn label items o ok is draws
    owes_chart label out (parts.OfReason f found is by) =
        OfBytes h.bytes (report_output c.streams found) h.all
        (charts.Unpaired h.bytes c.streams found
        (record { given = c.acts; spelled = h.spelled; fault = f; refused = is; found_by = by }))
    owes_chart label out parts.NoRoomToOrder = ForMemory h.bytes h.all h.small

    -- ---- replay

    owes_run : (acts : List Act) (out : Output) → Spells limits h.bytes c.streams (Some acts)
        → ReplaysTo c.streams acts out → Owes limits reader (IsReplayed limits) out
    owes_run acts out spelled (parts.Runs os is) =
        OfBytes h.bytes (replays.replayed (pids_of c.streams) acts os) h.all
        (replays.Ran h.bytes (pids_of c.streams) acts os
        (record { streams = c.streams; spelled = spelled; listed = refl; runs = is }))
    owes_run acts out spelled (parts.Sticks n is) =
        OfBytes h.bytes (replays.stuck n) h.all
        (replays.Stuck h.bytes n (record {
          streams = c.streams;
          acts = acts;
          spelled = spelled;
          sticks = is;
        }))
    owes_run acts out spelled parts.NoRoomToReplay = ForMemory h.bytes h.all h.small

    pub owes_replay : (out : Output) → OfBundle ReplaysTo c out
        → Owes limits reader (IsReplayed limits) out
    owes_replay =
        owes_bundle (IsReplayed limits) ReplaysTo c h owes_run
        (λ spelled. replays.Lacking h.bytes (record { streams = c.streams; spelled = spelled }))

-- ---- what a status says

module _ {limits : Limits} {R W : Type 0} {reader : ReaderCall R} {writer : WriterCall W}
    {IsOutput Means : List ℕ → Output → Type 0} (n : ℕ) (other : n ≢ 4)
    (meant : (bytes : List ℕ) (out : Output) → IsOutput bytes out → out.status ≡ n
    → Means bytes out) where
  says_owed : (out : Output) (status : ℕ) → Owes limits reader IsOutput out
      → Delivers writer out status → status ≡ n → Says limits reader writer Means
  says_owed out status (OfBytes bytes o all is) (Whole w) e =
      record { bytes = bytes; output = o; reads = all; writes = w; means = meant bytes o is e }
  says_owed out status (OfBytes bytes o all is) (Part w) e = absurd (other (sym e))
  says_owed out status (ForMemory bytes all small) (Whole w) e = absurd (other (sym e))
  says_owed out status (ForMemory bytes all small) (Part w) e = absurd (other (sym e))
  says_owed out status (ForReader bytes given small mark) (Whole w) e = absurd (other (sym e))
  says_owed out status (ForReader bytes given small mark) (Part w) e = absurd (other (sym e))

  -- if the call returned n, which isn't 4, an output with status n was written whole
  pub says : {status : ℕ} → Tells writer (Owes limits reader IsOutput) status → status ≡ n
      → Says limits reader writer Means
  says told e = says_owed told.output _ told.owed told.delivered e

-- ---- what a command does

pub performs : {limits : Limits} {R W : Type 0} {reader : ReaderCall R} {writer : WriterCall W}
    {IsOutput Yes No : List ℕ → Output → Type 0} {status : ℕ}
    → ((bytes : List ℕ) (out : Output) → IsOutput bytes out → out.status ≡ 0 → Yes bytes out)
    → ((bytes : List ℕ) (out : Output) → IsOutput bytes out → out.status ≡ 1 → No bytes out)
    → Tells writer (Owes limits reader IsOutput) status
    → Performs limits reader writer IsOutput Yes No status
performs if_yes if_no told = record {
  told = told;
  yes = says 0 (λ same. cc) if_yes told;
  no = says 1 (λ same. cc) if_no told;
}

-- ---- all commands

-- a command that performs has delivered an output that it owes
pub performs_tells : (limits : Limits) {R W : Type 0} (reader : ReaderCall R)
    (writer : WriterCall W) (t : Task) (status : ℕ)
    → PerformsBy limits reader writer t status → Tells writer (OwesBy limits reader t) status
performs_tells limits reader writer task.Check status done = done.told
performs_tells limits reader writer task.Audit status done = done.told
performs_tells limits reader writer task.Replay status done = done.told
performs_tells limits reader writer task.Drive status done = done.told
performs_tells limits reader writer (task.Chart label) status done = done.told

-- if a command that was asked for performs, any command that was asked for does: there is only one
pub performs_asked : (limits : Limits) {R W : Type 0} (reader : ReaderCall R)
    (writer : WriterCall W)
    (asked : Option Task) (t u : Task) (status : ℕ) → asked ≡ Some t → asked ≡ Some u
    → PerformsBy limits reader writer t status → PerformsBy limits reader writer u status
performs_asked limits reader writer asked t u status one other done =
    subst (λ (x : Task). PerformsBy limits reader writer x status) (same_Some t u (sym one ∙ other))
    done
