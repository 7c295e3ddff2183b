-- The text of a bundle within the limits has no fault: no spelling has a newline in it, so the text
-- is cut into its lines, and these are good.
use Rattle.std.proofs.Common.{◌≡◌, ℕ, ◌≤◌, Bool, true, false, not, ◌&&◌, ◌||◌, cond, eqb, List, []}
use Rattle.std.proofs.Common.{◌∷◌, ◌++◌, length, map, Option, Some, None, refl, sym, ap, subst, ◌∙◌}
use Rattle.std.proofs.Common.{append_assoc, arith}
use Rattle.std.specs.Prelude.{codes, decimal}
use Rattle.std.specs.List.{list_any, flat_map, AllByRecursion, list_all}
use Rattle.std.specs.Str.Parse.{AllDigits}
use Rattle.std.proofs.lemmas.Str.Parse.{digit_from_value}
use Rattle.std.proofs.lemmas.Fmt.{decimal_is_IsNumeral}
use Rattle.std.proofs.lemmas.Bool.Decides.{nat_tests}
use Rattle.std.proofs.lemmas.List.{append-nil}
use Rattle.std.proofs.lemmas.List.Folds.{list_any-append}
use Rattle.st_core.specs.declared.types.Pid.{Pid}
use Rattle.st_core.specs.declared.types.Event.{Event}
use Rattle.st_core.specs.declared.types.Serial.{Serial}
use Rattle.st_core.specs.declared.types.Component.{Component}
use Rattle.st_core.specs.declared.types.Component.TheVariants as components
use Rattle.st_core.specs.declared.types.Act.{Act}
use Rattle.st_core.specs.declared.types.Act.TheVariants as acts
use Rattle.st_text.specs.declared.line.Line.{Line}
use Rattle.st_text.specs.declared.line.Line.TheVariants as lines
use Rattle.st_text.specs.Parsing.{line_of}
use Rattle.st_text.specs.Spelling.{bool, pid, label, serial, kind, place, head, ends, event}
use Rattle.st_text.specs.Spelling.{component, want, flags, token, act, line}
use Rattle.st_text.specs.Range.{FitsPid, FitsSerial, FitsPlace, FitsEvent, FitsComponent, FitsWant}
use Rattle.st_text.specs.Range.{FitsToken, FitsAct, Fits, most_label, most_number}
use Rattle.st_text.specs.Text.{Contents, process_lines, act_lines, is_remote, body, lines_of, ended}
use Rattle.st_text.specs.Text.{IsBundle, IsWithin}
use Rattle.st_text.specs.Parts.Cutter.{HasNoNewline}
use Rattle.st_text.specs.Answer.{Reads}
use Rattle.st_text.specs.Fault.{cut, onto_first, sayings, first_fault, pids, pid_of, is_wide_header}
use Rattle.st_text.specs.Fault.{unknown_from, needless, closing_fault, fault_within}
use Rattle.st_text.proofs.LineLemmas.{line_is}
use Rattle.st_text.proofs.Newlines.{fault_at_end, truncated_none}
use Rattle.st_text.proofs.CutterSteps.{first_is_header}
use Rattle.st_text.proofs.ClosingFaults.{all_known}
use Rattle.std.proofs.lemmas.List.Concat.{flat_map-append}
use Rattle.st_core.specs.declared.types.Label.{Label}
use Rattle.st_core.specs.declared.types.Flags.{Flags}
use Rattle.st_core.specs.declared.types.Token.{Token}
use Rattle.st_core.specs.declared.types.Kind.{Kind}
use Rattle.st_core.specs.declared.types.Kind.TheVariants as kinds
use Rattle.st_core.specs.declared.types.Want.{Want}
use Rattle.st_core.specs.declared.types.Want.TheVariants as wants
use Rattle.st_core.specs.Run.{Stream, pids_of}
use Rattle.st_text.specs.declared.fault.ReadFault.TheVariants as faults
use Rattle.st_text.proofs.GoodLines.{Came, events_of, processes_pass, rising_after, next, under}
use Rattle.st_text.proofs.GoodLines.{came_acts, acts_pass, line_passes}
use Rattle.st_text.specs.declared.limits.Limits.{Limits}

-- ---- no line has a newline in it

plain-append : (a b : List ℕ) → HasNoNewline a → HasNoNewline b → HasNoNewline (a ++ b)
plain-append [] b p q = q
plain-append (x ∷ a) b p q = (p.0, plain-append a b p.1 q)

-- no byte of a word is a newline, by a test that computes
plain_word : (bytes : List ℕ) → list_all (λ b. not (eqb b 10)) bytes ≡ true → HasNoNewline bytes
plain_word [] e = tt
plain_word (b ∷ bytes) e = by (eqb b 10) refl e (plain_word bytes)
  where
    by : (t : Bool) → eqb b 10 ≡ t → (not t && list_all (λ b. not (eqb b 10)) bytes) ≡ true
        → (list_all (λ b. not (eqb b 10)) bytes ≡ true → HasNoNewline bytes)
        → (eqb b 10 ≡ false) × HasNoNewline bytes
    by true is e more = absurd cc
    by false is e more = (is, more e)

plain_digits : (ds : List ℕ) → AllDigits 10 ds → HasNoNewline ds
plain_digits [] h = tt
plain_digits (d ∷ ds) h =
    let r = digit_from_value d h.0 in
    let t : eqb d 10 ≡ false = grind (arith, nat_tests) in
    (t, plain_digits ds h.1)

plain_decimal : (n : ℕ) → n ≤ most_number → HasNoNewline (decimal n)
plain_decimal n small = plain_digits (decimal n) (decimal_is_IsNumeral n (omega arith)).0.1

plain_pid : (p : Pid) → FitsPid p → HasNoNewline (pid p)
plain_pid p f =
    plain-append (codes "<" ++ decimal p.node ++ codes "." ++ decimal p.number) (codes ".0>")
    (plain-append (codes "<" ++ decimal p.node ++ codes ".") (decimal p.number)
    (plain-append (codes "<" ++ decimal p.node) (codes ".")
    (plain-append (codes "<") (decimal p.node) (plain_word (codes "<") refl)
    (plain_decimal p.node (omega (arith, f.node)))) (plain_word (codes ".") refl))
    (plain_decimal p.number (omega (arith, f.number)))) (plain_word (codes ".0>") refl)

plain_bool : (b : Bool) → HasNoNewline (bool b)
plain_bool true = plain_word (codes "true") refl
plain_bool false = plain_word (codes "false") refl

plain_label : (l : Label) → l.0 ≤ most_label → HasNoNewline (label l)
plain_label l le = plain_decimal l.0 (omega arith)

plain_serial : (s : Serial) → FitsSerial s → HasNoNewline (serial s)
plain_serial s f =
    plain-append (codes "{" ++ decimal s.prev ++ codes "," ++ decimal s.this) (codes "}")
    (plain-append (codes "{" ++ decimal s.prev ++ codes ",") (decimal s.this)
    (plain-append (codes "{" ++ decimal s.prev) (codes ",")
    (plain-append (codes "{") (decimal s.prev) (plain_word (codes "{") refl)
    (plain_decimal s.prev f.prev))
    (plain_word (codes ",") refl))
    (plain_decimal s.this f.this)) (plain_word (codes "}") refl)

plain_kind : (k : Kind) → HasNoNewline (kind k)
plain_kind kinds.Send = plain_word (codes "send") refl
plain_kind kinds.Receive = plain_word (codes "'receive'") refl
plain_kind kinds.Print = plain_word (codes "print") refl

plain_place : (k : Kind) (o : Option Pid) → FitsPlace k o → HasNoNewline (place o)
plain_place kinds.Print None f = plain_word (codes "[]") refl
plain_place kinds.Print (Some p) f = absurd f
plain_place k None f = absurd f
plain_place k (Some p) f = plain_pid p f

plain_event : (e : Event) → FitsEvent e → HasNoNewline (event e)
plain_event e f =
    plain-append (codes "{seq_trace," ++ head e ++ serial e.serial ++ codes "," ++ ends e
    ++ codes ","
    ++ decimal e.value) (codes "}}")
    (plain-append (codes "{seq_trace," ++ head e ++ serial e.serial ++ codes "," ++ ends e
    ++ codes ",")
    (decimal e.value)
    (plain-append (codes "{seq_trace," ++ head e ++ serial e.serial ++ codes "," ++ ends e)
    (codes ",")
    (plain-append (codes "{seq_trace," ++ head e ++ serial e.serial ++ codes ",") (ends e)
    (plain-append (codes "{seq_trace," ++ head e ++ serial e.serial) (codes ",")
    (plain-append (codes "{seq_trace," ++ head e) (serial e.serial)
    (plain-append (codes "{seq_trace,") (head e) (plain_word (codes "{seq_trace,") refl)
    (plain-append (label e.label ++ codes ",{" ++ kind e.kind) (codes ",")
    (plain-append (label e.label ++ codes ",{") (kind e.kind)
    (plain-append (label e.label) (codes ",{") (plain_label e.label f.label)
    (plain_word (codes ",{") refl))
    (plain_kind e.kind)) (plain_word (codes ",") refl)))
    (plain_serial e.serial f.serial)) (plain_word (codes ",") refl))
    (plain-append (pid e.from ++ codes ",") (place e.to)
    (plain-append (pid e.from) (codes ",") (plain_pid e.from f.from) (plain_word (codes ",") refl))
    (plain_place e.kind e.to f.to))) (plain_word (codes ",") refl))
    (plain_decimal e.value f.value)) (plain_word (codes "}}") refl)

plain_component : (c : Component) → FitsComponent c → HasNoNewline (component c)
plain_component (components.Label l) f =
    plain-append (codes "label ") (label l) (plain_word (codes "label ") refl) (plain_label l f)
plain_component (components.Send b) f =
    plain-append (codes "send ") (bool b) (plain_word (codes "send ") refl) (plain_bool b)
plain_component (components.Receive b) f =
    plain-append (codes "receive ") (bool b) (plain_word (codes "receive ") refl) (plain_bool b)
plain_component (components.Print b) f =
    plain-append (codes "print ") (bool b) (plain_word (codes "print ") refl) (plain_bool b)

space : (a b : List ℕ) → HasNoNewline a → HasNoNewline b → HasNoNewline (a ++ codes " " ++ b)
space a b p q = plain-append (a ++ codes " ") b
    (plain-append a (codes " ") p (plain_word (codes " ") refl)) q

plain_want : (w : Want) → FitsWant w → HasNoNewline (want w)
plain_want wants.First f = plain_word (codes "first") refl
plain_want (wants.From p) f =
    plain-append (codes "from ") (pid p) (plain_word (codes "from ") refl) (plain_pid p f)
plain_want (wants.Value v) f =
    plain-append (codes "value ") (decimal v) (plain_word (codes "value ") refl) (plain_decimal v f)
plain_want (wants.Both p v) f =
    space (codes "both " ++ pid p) (decimal v)
    (plain-append (codes "both ") (pid p) (plain_word (codes "both ") refl) (plain_pid p f.0))
    (plain_decimal v f.1)
plain_want (wants.Place k) f =
    plain-append (codes "place ") (decimal k) (plain_word (codes "place ") refl) (plain_decimal k f)

plain_flags : (f : Flags) → HasNoNewline (flags f)
plain_flags f =
    space (bool f.send ++ codes " " ++ bool f.receive) (bool f.print)
    (space (bool f.send) (bool f.receive) (plain_bool f.send) (plain_bool f.receive))
    (plain_bool f.print)

plain_token : (t : Token) → FitsToken t → HasNoNewline (token t)
plain_token t f =
    space (label t.label ++ codes " " ++ flags t.flags ++ codes " " ++ decimal t.serial.prev
    ++ codes " "
    ++ decimal t.serial.this) (pid t.from)
    (space (label t.label ++ codes " " ++ flags t.flags ++ codes " " ++ decimal t.serial.prev)
    (decimal t.serial.this)
    (space (label t.label ++ codes " " ++ flags t.flags) (decimal t.serial.prev)
    (space (label t.label) (flags t.flags) (plain_label t.label f.label) (plain_flags t.flags))
    (plain_decimal t.serial.prev f.serial.prev)) (plain_decimal t.serial.this f.serial.this))
    (plain_pid t.from f.from)

named_by : (word : List ℕ) (p : Pid) → list_all (λ b. not (eqb b 10)) word ≡ true → FitsPid p
    → HasNoNewline (word ++ pid p)
named_by word p e f = plain-append word (pid p) (plain_word word e) (plain_pid p f)

plain_act : (a : Act) → FitsAct a → HasNoNewline (act a)
plain_act (acts.Send p q v) f =
    space (codes "send " ++ pid p ++ codes " " ++ pid q) (decimal v)
    (space (codes "send " ++ pid p) (pid q) (named_by (codes "send ") p refl f.0) (plain_pid q f.1))
    (plain_decimal v f.2)
plain_act (acts.Receive p w) f =
    space (codes "receive " ++ pid p) (want w) (named_by (codes "receive ") p refl f.0)
    (plain_want w f.1)
plain_act (acts.Print p v) f =
    space (codes "print " ++ pid p) (decimal v) (named_by (codes "print ") p refl f.0)
    (plain_decimal v f.1)
plain_act (acts.PrintAt p l v) f =
    space (codes "printat " ++ pid p ++ codes " " ++ label l) (decimal v)
    (space (codes "printat " ++ pid p) (label l) (named_by (codes "printat ") p refl f.0)
    (plain_label l f.1))
    (plain_decimal v f.2)
plain_act (acts.Set p c) f =
    space (codes "set " ++ pid p) (component c) (named_by (codes "set ") p refl f.0)
    (plain_component c f.1)
plain_act (acts.Clear p) f = named_by (codes "clear ") p refl f
plain_act (acts.Restore p t) f =
    space (codes "restore " ++ pid p) (token t) (named_by (codes "restore ") p refl f.0)
    (plain_token t f.1)
plain_act (acts.Look p) f = named_by (codes "look ") p refl f
plain_act (acts.Reset p) f = named_by (codes "reset ") p refl f
plain_act (acts.Tracer p b) f =
    space (codes "tracer " ++ pid p) (bool b) (named_by (codes "tracer ") p refl f) (plain_bool b)

plain_line : (l : Line) → Fits l → HasNoNewline (line l)
plain_line (lines.Header false) f = plain_word (codes "seqtrace 1") refl
plain_line (lines.Header true) f = plain_word (codes "seqtrace 2") refl
plain_line (lines.Process p) f = named_by (codes "process ") p refl f
plain_line (lines.Event e) f = plain_event e f
plain_line lines.Acts f = plain_word (codes "acts") refl
plain_line (lines.Act a) f = plain_act a f

-- ---- the lines of a spelling

cut_plain : (bs rest : List ℕ) → HasNoNewline bs
    → cut (bs ++ 10 ∷ rest) ≡ (bs ∷ (cut rest).0, (cut rest).1)
cut_plain [] rest p = refl
cut_plain (b ∷ bs) rest p =
    rw p.0 (ap (λ (x : List (List ℕ) × List ℕ). onto_first b x.0 x.1) (cut_plain bs rest p.1))

pub cut_spelled : (ls : List Line) → AllByRecursion Fits ls
    → cut (flat_map ended ls) ≡ (map line ls, [])
cut_spelled [] fits = refl
cut_spelled (l ∷ ls) fits =
    let shape : flat_map ended (l ∷ ls) ≡ line l ++ 10 ∷ flat_map ended ls =
    append_assoc (line l) (10 ∷ []) (flat_map ended ls) in
    ap cut shape ∙ cut_plain (line l) (flat_map ended ls) (plain_line l fits.0)
    ∙ ap (λ (x : List (List ℕ) × List ℕ). (line l ∷ x.0, x.1)) (cut_spelled ls fits.1)

said_spelled : (ls : List Line) → AllByRecursion Fits ls → map line_of (map line ls) ≡ map Some ls
said_spelled [] fits = refl
said_spelled (l ∷ ls) fits = rw (line_is l fits.0, said_spelled ls fits.1) refl

pub sayings_spelled : (ls : List Line) → AllByRecursion Fits ls
    → sayings (flat_map ended ls) ≡ map Some ls
sayings_spelled ls fits =
    ap (λ (x : List (List ℕ) × List ℕ). map line_of x.0) (cut_spelled ls fits)
    ∙ said_spelled ls fits

-- ---- no line has a fault

either_way : (b : Bool) → (b || not b) ≡ true
either_way true = refl
either_way false = refl

acts_after : (limits : Limits) (o : Option (List Act)) (ls : List Line) (wide : Bool)
    (ps : List Pid) (m : ℕ)
    → Came ls wide ps m 0 false
    → (wide || not (list_any is_remote (act_lines o))) ≡ true
    → length {A = Act} (elim o [ Some list ↦ list | None ↦ [] ]) ≤ limits.acts
    → first_fault limits ls (map Some (act_lines o)) ≡ None
unfolding first_fault
acts_after limits None ls wide ps m c remote few = refl
acts_after limits (Some list) ls wide ps m c remote few =
    let narrow : (wide || not false) ≡ true = by wide in
    let good = line_passes limits ls wide ps m 0 false lines.Acts c refl narrow refl refl refl in
    next limits ls (map lines.Act list) lines.Acts good
    ∙ acts_pass limits list (ls ++ lines.Acts ∷ []) wide ps m 0 (came_acts ls wide ps m c) remote
    (omega (arith, few))
  where
    by : (b : Bool) → (b || not false) ≡ true
    by true = refl
    by false = refl

pub lines_sound : (limits : Limits) (c : Contents) → IsBundle c → IsWithin limits c
    → first_fault limits [] (map Some (lines_of c)) ≡ None
lines_sound limits c h w =
    let wide : Bool = list_any is_remote (body c) in
    let first : List Line = lines.Header wide ∷ [] in
    let streams : List Line = flat_map process_lines c.streams in
    let remote : (wide || not (list_any is_remote streams || list_any is_remote (act_lines c.acts)))
    ≡ true =
    ap (λ (b : Bool). wide || not b) (sym (list_any-append is_remote streams (act_lines c.acts)))
    ∙ either_way wide in
    let r = under wide (list_any is_remote streams) (list_any is_remote (act_lines c.acts))
    remote in
    let came : Came first wide [] 0 0 false =
    record {
      header = (lines.Header wide, [], refl, refl);
      pids_are = refl;
      event_count = refl;
      act_count = refl;
      begun_is = refl;
    } in
    let one =
    processes_pass limits c.streams first (act_lines c.acts) wide [] 0 came
    (rising_after c.streams h.streams.draft.rising) h.streams.draft.own r.0
    (omega (arith, w.processes))
    (omega (arith, w.events)) in
    let two =
    acts_after limits c.acts (first ++ streams) wide (pids_of c.streams)
    (length (events_of c.streams))
    (subst (λ (n : ℕ). Came (first ++ streams) wide (pids_of c.streams) n 0 false) (omega arith)
    one.1) r.1
    w.acts in
    next limits [] (body c) (lines.Header wide) (first_is_header limits wide) ∙ one.0 ∙ two

-- ---- the closing faults

body_wide : (list : List Line) → AllByRecursion (λ l. is_wide_header l ≡ false) list
    → list_any is_wide_header list ≡ false
body_wide [] h = refl
body_wide (l ∷ ls) h = rw h.0 (body_wide ls h.1)

all-append : (P : Line → Type 0) (a b : List Line) → AllByRecursion P a → AllByRecursion P b
    → AllByRecursion P (a ++ b)
all-append P [] b p q = q
all-append P (x ∷ a) b p q = (p.0, all-append P a b p.1 q)

narrow_body : (c : Contents) → AllByRecursion (λ l. is_wide_header l ≡ false) (body c)
narrow_body c =
    all-append (λ l. is_wide_header l ≡ false) (flat_map process_lines c.streams) (act_lines c.acts)
    (streams c.streams)
    (acts_all c.acts)
  where
    events : (es : List Event) → AllByRecursion (λ l. is_wide_header l ≡ false) (map lines.Event es)
    events [] = tt
    events (e ∷ es) = (refl, events es)

    streams : (ss : List Stream)
        → AllByRecursion (λ l. is_wide_header l ≡ false) (flat_map process_lines ss)
    streams [] = tt
    streams (s ∷ ss) = (
      refl,
      all-append (λ l. is_wide_header l ≡ false) (map lines.Event s.events)
          (flat_map process_lines ss)
          (events s.events) (streams ss),
    )

    list_acts : (list : List Act)
        → AllByRecursion (λ l. is_wide_header l ≡ false) (map lines.Act list)
    list_acts [] = tt
    list_acts (a ∷ list) = (refl, list_acts list)

    acts_all : (o : Option (List Act))
        → AllByRecursion (λ l. is_wide_header l ≡ false) (act_lines o)
    acts_all None = tt
    acts_all (Some list) = (refl, list_acts list)

pub process_pids : (ss : List Stream) → flat_map pid_of (flat_map process_lines ss) ≡ pids_of ss
process_pids [] = refl
process_pids (s ∷ ss) =
    flat_map-append pid_of (process_lines s) (flat_map process_lines ss)
    ∙ ap (λ (x : List Pid). s.pid ∷ x ++ flat_map pid_of (flat_map process_lines ss))
    (none s.events)
    ∙ ap (λ (x : List Pid). s.pid ∷ x) (process_pids ss)
  where
    none : (es : List Event) → flat_map pid_of (map lines.Event es) ≡ []
    none [] = refl
    none (e ∷ es) = none es

pub act_pids : (o : Option (List Act)) → flat_map pid_of (act_lines o) ≡ []
act_pids None = refl
act_pids (Some list) = none list
  where
    none : (list : List Act) → flat_map pid_of (map lines.Act list) ≡ []
    none [] = refl
    none (a ∷ list) = none list

pids_lines : (c : Contents) → pids (lines_of c) ≡ pids_of c.streams
pids_lines c =
    flat_map-append pid_of (flat_map process_lines c.streams) (act_lines c.acts)
    ∙ rw (process_pids c.streams, act_pids c.acts) (append-nil (pids_of c.streams))

pub closing_sound : (c : Contents) → IsBundle c → closing_fault (lines_of c) ≡ None
closing_sound c h =
    let wide : Bool = list_any is_remote (body c) in
    let none_wide : list_any is_wide_header (body c) ≡ false = body_wide (body c) (narrow_body c) in
    let known : unknown_from (pids (lines_of c)) 1 (lines_of c) ≡ None =
    ap (λ (ps : List Pid). unknown_from ps 1 (lines_of c)) (pids_lines c) ∙ all_known c h in
    let needs : needless (lines_of c) ≡ None = rw none_wide (by wide) in
    rw (needs, known) refl
  where
    by : (b : Bool) → cond ((b || false) && not b) (Some (faults.Line 1)) None ≡ None
    by true = refl
    by false = refl

-- The text of a bundle within the limits has no fault.
pub text_sound : (limits : Limits) (bytes : List ℕ) (c : Contents) → Reads limits bytes c
    → fault_within limits bytes ≡ None
text_sound limits bytes c t =
    let b = t.text.bundle in
    let fits : AllByRecursion Fits (lines_of c) = (tt, b.fits) in
    let says : sayings bytes ≡ map Some (lines_of c) =
    ap sayings t.text.spelled ∙ sayings_spelled (lines_of c) fits in
    let cuts : cut bytes ≡ (map line (lines_of c), []) =
    ap cut t.text.spelled ∙ cut_spelled (lines_of c) fits in
    let small : length bytes ≤ limits.bytes =
    omega (arith, ap length t.text.spelled, t.within.bytes) in
    fault_at_end limits bytes (lines_of c) small
    (ap (first_fault limits []) says ∙ lines_sound limits c b t.within)
    (truncated_none bytes (ap (λ (x : List (List ℕ) × List ℕ). x.1) cuts)
    (omega (arith, ap (λ (x : List (List ℕ) × List ℕ). length x.0) cuts))) says
    ∙ closing_sound c b
