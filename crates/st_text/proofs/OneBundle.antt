-- Bytes are the text of one bundle at most: the lines are read off the bytes, and the bundle off
-- the lines.
use Rattle.std.proofs.Common.{◌≡◌, ℕ, List, [], ◌∷◌, ◌++◌, map, Option, Some, None, refl, sym, ap}
use Rattle.std.proofs.Common.{◌∙◌, append_assoc}
use Rattle.std.specs.Prelude.{Result, Ok, Err}
use Rattle.std.specs.List.{flat_map, AllByRecursion}
use Rattle.std.proofs.lemmas.List.{append-nil}
use Rattle.st_core.specs.declared.types.Event.{Event}
use Rattle.st_core.specs.declared.types.Act.{Act}
use Rattle.st_core.specs.Run.{Stream}
use Rattle.st_text.specs.declared.limits.Limits.{Limits}
use Rattle.st_text.specs.declared.bundle.Bundle.{Bundle}
use Rattle.st_text.specs.declared.line.Line.{Line}
use Rattle.st_text.specs.declared.line.Line.TheVariants as lines
use Rattle.st_text.specs.declared.fault.ReadFault.{ReadFault}
use Rattle.st_text.specs.declared.fault.ReadFault.TheVariants as faults
use Rattle.st_text.specs.Range.{Fits}
use Rattle.st_text.specs.Text.{Contents, process_lines, act_lines, body, lines_of, spelling}
use Rattle.st_text.specs.Text.{IsBundle, IsText, IsWithin}
use Rattle.st_text.specs.Contents.{contents}
use Rattle.st_text.specs.Fault.{sayings, fault_within}
use Rattle.st_text.specs.Answer.{Reads, IsReadResultOrMemory}
use Rattle.st_text.specs.Laws.{IsReadBack}
use Rattle.st_text.proofs.GoodText.{sayings_spelled, text_sound}

-- ---- a bundle, read back off its lines

acts_back : List Line → List Act
acts_back [] = []
acts_back (lines.Act a ∷ ls) = a ∷ acts_back ls
acts_back ls = []

-- lines read back: the events before the next process, then the streams, then the acts
record Back : Type 0 where
  events : List Event
  streams : List Stream
  acts : Option (List Act)

abbrev none_back : Back
none_back = record { events = []; streams = []; acts = None }

back : List Line → Back
back (lines.Event e ∷ ls) =
    record { events = e ∷ (back ls).events; streams = (back ls).streams; acts = (back ls).acts }
back (lines.Process p ∷ ls) =
    record {
      events = [];
      streams = record { pid = p; events = (back ls).events }
          ∷ (back ls).streams;
      acts = (back ls).acts;
    }
back (lines.Acts ∷ ls) = record { events = []; streams = []; acts = Some (acts_back ls) }
back ls = none_back

back_acts : (list : List Act) → acts_back (map lines.Act list) ≡ list
unfolding acts_back
back_acts [] = refl
back_acts (a ∷ list) = ap (λ (x : List Act). a ∷ x) (back_acts list)

back_act_lines : (o : Option (List Act))
    → back (act_lines o) ≡ record { events = []; streams = []; acts = o }
unfolding back
back_act_lines None = refl
back_act_lines (Some list) =
    ap (λ (x : List Act). record { events = []; streams = []; acts = Some x }) (back_acts list)

back_events : (es : List Event) (rest : List Line)
    → back (map lines.Event es ++ rest) ≡ record
    { events = es ++ (back rest).events; streams = (back rest).streams; acts = (back rest).acts }
unfolding back
back_events [] rest = refl
back_events (e ∷ es) rest =
    ap (λ (x : Back). record { events = e ∷ x.events; streams = x.streams; acts = x.acts })
    (back_events es rest)

back_streams : (ss : List Stream) (o : Option (List Act))
    → back (flat_map process_lines ss ++ act_lines o)
    ≡ record { events = []; streams = ss; acts = o }
unfolding back
back_streams [] o = back_act_lines o
back_streams (s ∷ ss) o =
    let later = back_streams ss o in
    let one : back (map lines.Event s.events ++ (flat_map process_lines ss ++ act_lines o))
    ≡ record { events = s.events; streams = ss; acts = o } =
    back_events s.events (flat_map process_lines ss ++ act_lines o)
    ∙ ap (λ (x : Back). record {
      events = s.events ++ x.events;
      streams = x.streams;
      acts =
          x.acts;
    }) later
    ∙ ap (λ (es : List Event). record { events = es; streams = ss; acts = o })
    (append-nil s.events) in
    ap (λ (x : List Line). back (lines.Process s.pid ∷ x))
    (append_assoc (map lines.Event s.events) (flat_map process_lines ss) (act_lines o))
    ∙ ap (λ (x : Back). record {
      events = [];
      streams = record { pid = s.pid; events = x.events }
          ∷ x.streams;
      acts = x.acts;
    }) one

abbrev held : Back → Contents
held x = record { streams = x.streams; acts = x.acts }

body_one : (c d : Contents) → body c ≡ body d → c ≡ d
body_one c d e = ap held
    (sym (back_streams c.streams c.acts) ∙ ap back e ∙ back_streams d.streams d.acts)

-- ---- lines

some_one : (ls ms : List Line) → map {B = Option Line} Some ls ≡ map Some ms → ls ≡ ms
some_one [] [] e = refl
some_one (l ∷ ls) (m ∷ ms) e =
    let first : l ≡ m = cc in
    let others : map {B = Option Line} Some ls ≡ map Some ms = cc in
    ap (λ (x : Line). x ∷ ls) first ∙ ap (λ (x : List Line). m ∷ x) (some_one ls ms others)
some_one ls ms e = absurd cc

tail_one : (h k : Line) (ls ms : List Line) → h ∷ ls ≡ k ∷ ms → ls ≡ ms
tail_one h k ls ms e = cc

pub text_one : (bytes : List ℕ) (c d : Contents) → IsText bytes c → IsText bytes d → c ≡ d
text_one bytes c d t u =
    let says_c : sayings bytes ≡ map Some (lines_of c) =
    let fits : AllByRecursion Fits (lines_of c) =
    (tt, t.bundle.fits) in ap sayings t.spelled ∙ sayings_spelled (lines_of c) fits in
    let says_d : sayings bytes ≡ map Some (lines_of d) =
    let fits : AllByRecursion Fits (lines_of d) =
    (tt, u.bundle.fits) in ap sayings u.spelled ∙ sayings_spelled (lines_of d) fits in
    body_one c d (tail_one _ _ (body c) (body d)
    (some_one (lines_of c) (lines_of d) (sym says_c ∙ says_d)))

no_fault : (limits : Limits) (bytes : List ℕ) (f : ReadFault) → fault_within limits bytes ≡ None
    → fault_within limits bytes ≡ Some f → ⊥
no_fault limits bytes f e g = cc

pub read_back : (limits : Limits) (c : Contents) (r : Result Bundle ReadFault) → IsBundle c
    → IsWithin limits c
    → IsReadResultOrMemory limits (spelling c) r
    → IsReadBack c r
read_back limits c r b w a = by r a
  where
    reads : Reads limits (spelling c) c
    reads = record { text = record { bundle = b; spelled = refl }; within = w }

    clean : fault_within limits (spelling c) ≡ None
    clean = text_sound limits (spelling c) c reads

    by : (r : Result Bundle ReadFault) → IsReadResultOrMemory limits (spelling c) r → IsReadBack c r
    by (Ok x) a = text_one (spelling c) (contents x) c a.text reads.text
    by (Err faults.Memory) a = tt
    by (Err f) a = no_fault limits (spelling c) f clean a
