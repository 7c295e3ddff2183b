-- At the end the lines are judged and the unfinished line is known, so the result is the bundle or
-- the fault of the bytes.
use Rattle.std.proofs.Common.{◌≡◌, ℕ, ◌+◌, ◌^◌, ◌<◌, ◌≤◌, Bool, true, false, List, [], ◌∷◌, ◌++◌}
use Rattle.std.proofs.Common.{length, map, Option, Some, None, refl, sym, ap, subst, ◌∙◌, arith}
use Rattle.std.specs.Prelude.{Result, Ok, Err}
use Rattle.std.specs.List.{flat_map, count_by}
use Rattle.std.proofs.lemmas.List.{append-nil, length-append, length-map}
use Rattle.st_core.specs.declared.types.Event.{Event}
use Rattle.st_core.specs.declared.types.Act.{Act}
use Rattle.st_core.specs.Run.{Stream}
use Rattle.st_text.proofs.CutterSteps.{none_held, some_held}
use Rattle.st_text.specs.declared.bundle.Bundle.{Bundle}
use Rattle.st_text.specs.declared.line.Line.{Line}
use Rattle.st_text.specs.declared.line.Line.TheVariants as lines
use Rattle.st_text.specs.declared.fault.ReadFault.{ReadFault}
use Rattle.st_text.specs.declared.fault.ReadFault.TheVariants as faults
use Rattle.st_text.specs.declared.builder.BundleBuilder.{BundleBuilder}
use Rattle.st_text.specs.Parsing.{line_of}
use Rattle.st_text.specs.Parts.Counts.{acts_len, acts_lines}
use Rattle.st_text.specs.Text.{process_lines, act_lines, acts_or_none, body, ended, spelling}
use Rattle.st_text.specs.Contents.{contents}
use Rattle.st_text.specs.Fault.{cut, sayings, fault_within, closing_fault, first_fault, is_event}
use Rattle.st_text.specs.Parts.Builder.{so_far, IsBuilt}
use Rattle.st_text.specs.Parts.Finish.{IsFinished, Finishes}
use Rattle.st_text.specs.Parts.Cutter.{IsTail}
use Rattle.st_text.specs.Parts.CutterState.{HasTakenAs}
use Rattle.st_text.specs.Answer.{IsReadResult, Reads}
use Rattle.st_text.proofs.Newlines.{spelled_by, no_lines, fault_of_line, fault_truncated}
use Rattle.st_text.proofs.Newlines.{fault_at_end, truncated_tail, truncated_nothing, truncated_none}
use Rattle.st_text.proofs.CountLimits.{all_few}
use Rattle.st_text.proofs.GoodLines.{count-append, count-cons}
use Rattle.st_text.proofs.Headers.{spelled_whole, body_fits}
use Rattle.st_text.specs.declared.limits.Limits.{Limits}

-- a line had a fault
pub end_fault : (limits : Limits) (bytes : List ℕ) (out : Bool) (o : Option ReadFault) (long : Bool)
    (kept : List ℕ) (p : Option BundleBuilder) (f : ReadFault)
    → out ≡ false → o ≡ Some f → length bytes ≤ limits.bytes
    → HasTakenAs limits out o bytes long kept p
    → fault_within limits bytes ≡ Some f
end_fault limits bytes false (Some g) long kept p f eo ef few h =
    let same : g ≡ f =
    cc in fault_of_line limits bytes f few
    (subst (λ (x : ReadFault). first_fault limits [] (sayings bytes) ≡ Some x)
    same h)
end_fault limits bytes out o long kept p f eo ef few h = absurd cc

-- no line had a fault
pub good : (limits : Limits) (bytes : List ℕ) (out : Bool) (o : Option ReadFault) (long : Bool)
    (kept : List ℕ) (p : Option BundleBuilder)
    → out ≡ false → o ≡ None → HasTakenAs limits out o bytes long kept p
    → HasTakenAs limits false None bytes long kept p
good limits bytes false None long kept p eo ef h = h
good limits bytes out o long kept p eo ef h = absurd cc

long_some : (long : Bool) (kept t : List ℕ) → long ≡ true → IsTail long kept t → 0 < length t
long_some true kept t e h = omega arith
long_some false kept t e h = absurd cc

kept_some : (long : Bool) (kept t : List ℕ) → long ≡ false → IsTail long kept t → kept ≡ t
kept_some true kept t e h = absurd cc
kept_some false kept t e h = h

pub end_long : (limits : Limits) (bytes : List ℕ) (long : Bool) (kept : List ℕ)
    (p : Option BundleBuilder) → long ≡ true
    → length bytes ≤ limits.bytes → HasTakenAs limits false None bytes long kept p
    → fault_within limits bytes ≡ Some faults.Truncated
end_long limits bytes long kept p e few h =
    fault_truncated limits bytes few h.1.good
    (truncated_tail bytes (long_some long kept (cut bytes).1 e h.1.tail_is))

pub end_tail : (limits : Limits) (bytes : List ℕ) (long : Bool) (kept : List ℕ)
    (p : Option BundleBuilder)
    → long ≡ false
    → 0 < length kept → length bytes ≤ limits.bytes → HasTakenAs limits false None bytes long kept p
    → fault_within limits bytes ≡ Some faults.Truncated
end_tail limits bytes long kept p e some few h =
    fault_truncated limits bytes few h.1.good (truncated_tail bytes
    (omega (arith, some, ap length (kept_some long kept (cut bytes).1 e h.1.tail_is))))

pub end_nothing : (limits : Limits) (bytes : List ℕ) (long : Bool) (kept : List ℕ)
    (p : Option BundleBuilder) → p ≡ None
    → length bytes ≤ limits.bytes → HasTakenAs limits false None bytes long kept p
    → fault_within limits bytes ≡ Some faults.Truncated
end_nothing limits bytes long kept p e few h =
    fault_truncated limits bytes few h.1.good (truncated_nothing bytes
    (no_lines bytes (h.1.said ∙ ap (map Some) (none_held p h.0 e h.1.held))))

-- ---- a bundle

event_events : (es : List Event) → count_by is_event (map lines.Event es) ≡ length es
event_events [] = refl
event_events (e ∷ es) = omega
    (arith, count-cons is_event (lines.Event e) (map lines.Event es), event_events es)

act_events : (list : List Act) → count_by is_event (map lines.Act list) ≡ 0
act_events [] = refl
act_events (a ∷ list) = omega
    (arith, count-cons is_event (lines.Act a) (map lines.Act list), act_events list)

acts_events : (o : Option (List Act)) → count_by is_event (act_lines o) ≡ 0
acts_events None = refl
acts_events (Some list) =
    omega (arith, count-cons is_event lines.Acts (map lines.Act list), act_events list)

abbrev pub all_of : List Stream → List Event
all_of ss = flat_map {X = Stream} {A = Event} (λ s. s.events) ss

stream_events : (ss : List Stream) → count_by is_event (flat_map process_lines ss)
    ≡ length (all_of ss)
stream_events [] = refl
stream_events (s ∷ ss) =
    let split = count-append is_event (process_lines s) (flat_map process_lines ss) in
    let first = count-cons is_event (lines.Process s.pid) (map lines.Event s.events) in
    omega (
      arith,
      split,
      first,
      event_events s.events,
      stream_events ss,
      length-append s.events (all_of ss),
    )

pub all_events : (wide : Bool) (ss : List Stream) (o : Option (List Act))
    → count_by is_event (so_far wide ss o) ≡ length (all_of ss)
all_events wide ss o =
    let header = count-cons is_event (lines.Header wide)
    (flat_map process_lines ss ++ act_lines o) in
    let split = count-append is_event (flat_map process_lines ss) (act_lines o) in
    omega (arith, header, split, acts_events o, stream_events ss)

acts_are : (o : Option (List Act)) → length (acts_or_none o) ≡ acts_len o
acts_are None = refl
acts_are (Some list) = refl

-- the finished lines are the text of a bundle within the limits
reads : (limits : Limits) (bytes : List ℕ) (ls : List Line) (p : BundleBuilder) (b : Bundle)
    → length bytes ≤ limits.bytes
    → (cut bytes).1 ≡ [] → sayings bytes ≡ map Some ls
    → first_fault limits [] (sayings bytes) ≡ None → IsBuilt p ls
    → IsFinished ls p b → Reads limits bytes (contents b)
reads limits bytes ls p b few over said clean s fin =
    let counts = all_few limits ls (ap (first_fault limits []) (sym said) ∙ clean) in
    let whole : bytes ≡ flat_map ended ls =
    spelled_by bytes ls said ∙ ap (λ (x : List ℕ). flat_map ended ls ++ x) over
    ∙ append-nil (flat_map ended ls) in
    let says : sayings bytes ≡ map Some (lines.Header p.wide ∷ body (contents b)) =
    said ∙ ap (map Some) fin.lines in
    let spelled : bytes ≡ spelling (contents b) =
    spelled_whole limits bytes p.wide (contents b) says clean
    (ap closing_fault (sym fin.lines) ∙ fin.closes)
    (whole ∙ ap (flat_map ended) fin.lines) in
    let processes : length p.draft ≡ p.processes =
    omega (
      arith,
      s.processes_are,
      ap length s.pids_are,
      length-map p.draft (λ (x : Stream). x.pid),
    ) in
    let events : length (flat_map {X = Stream} {A = Event} (λ s. s.events) p.draft) ≡ p.events =
    sym (all_events p.wide p.draft p.acts) ∙ ap (λ (x : List Line). count_by is_event x)
    (sym s.lines)
    ∙ sym s.events_are in
    record {
      text = record {
        bundle = record {
          streams = fin.streams;
          listed = b.listed;
          fits =
              body_fits bytes p.wide (contents b) says;
        };
        spelled = spelled;
      };
      within = record {
        bytes = omega (arith, few, ap length spelled);
        processes = omega (
          arith,
          processes,
          counts.processes,
          s.processes_are,
          ap length fin.draft,
        );
        events =
            omega (
              arith,
              events,
              counts.events,
              s.events_are,
              ap
                  (λ (d : List Stream). length
                  (flat_map {X = Stream} {A = Event} (λ s. s.events) d)) fin.draft,
            );
        acts = omega (arith, counts.acts, s.acts_are, ap acts_len fin.acts, acts_are b.acts);
      };
    }

-- the builder's counts are small, so the number of lines is too
lines_of_acts : (o : Option (List Act)) → acts_lines o ≤ 1 + acts_len o
lines_of_acts None = omega arith
lines_of_acts (Some list) = omega arith

small_count : (ls : List Line) (p : BundleBuilder) → IsBuilt p ls → length ls < 2 ^ 64
small_count ls p s =
    omega (
      arith,
      s.count,
      p.counted,
      p.few_processes,
      p.few_events,
      p.few_acts,
      lines_of_acts p.acts,
    )

pub end_finish : (limits : Limits) (bytes : List ℕ) (long : Bool) (kept : List ℕ)
    (o : Option BundleBuilder) (p : BundleBuilder) (r : Result Bundle ReadFault)
    → long ≡ false → kept ≡ [] → o ≡ Some p → length bytes ≤ limits.bytes
    → ((ls : List Line) → IsBuilt p ls → length ls < 2 ^ 64 → Finishes ls p r)
    → HasTakenAs limits false None bytes long kept o → IsReadResult limits bytes r
end_finish limits bytes long kept o p r el empty eo few fin h =
    let ls = h.0 in
    let s : IsBuilt p ls = some_held o p ls eo h.1.held in
    let over : (cut bytes).1 ≡ [] = sym (kept_some long kept (cut bytes).1 el h.1.tail_is)
    ∙ empty in
    let count : length (cut bytes).0 ≡ length ls =
    omega (
      arith,
      length-map (cut bytes).0 line_of,
      ap length h.1.said,
      length-map ls (λ (l : Line). Some l),
    ) in
    let some : 0 < length (cut bytes).0 = omega (arith, count, ap length s.lines) in
    let whole : fault_within limits bytes ≡ closing_fault ls =
    fault_at_end limits bytes ls few h.1.good (truncated_none bytes over some) h.1.said in
    by r (fin ls s (small_count ls p s)) s over whole
  where
    by : (r : Result Bundle ReadFault) → Finishes h.0 p r → IsBuilt p h.0 → (cut bytes).1 ≡ []
        → fault_within limits bytes ≡ closing_fault h.0 → IsReadResult limits bytes r
    by (Ok b) f s over whole = reads limits bytes h.0 p b few over h.1.said h.1.good s f
    by (Err e) f s over whole = whole ∙ f
