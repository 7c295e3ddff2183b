-- Streams with marks are whole streams: marks change no event, and the marks of a process are
-- those at its place.
use Rattle.std.proofs.Common.{◌≡◌, ℕ, zero, suc, Bool, true, false, cond, List, [], ◌∷◌, map}
use Rattle.std.proofs.Common.{slice_get, get_or, find, Option, Some, None, option_map, refl}
use Rattle.std.proofs.Common.{sym, ◌∙◌, ap, drop}
use Rattle.std.specs.List.{AllByRecursion}
use Rattle.std.proofs.lemmas.Option.{same_Some}
use Rattle.st_core.specs.declared.types.Pid.{Pid}
use Rattle.st_core.specs.declared.types.Event.{Event}
use Rattle.st_core.specs.Pid.{pid_eq, IsRising}
use Rattle.st_core.specs.Run.{Stream, pids_of}
use Rattle.st_core.specs.Streams.{events_of, stream_of}
use Rattle.st_core.proofs.ForCallers.{pid_eq-refl, above_apart}
use Rattle.st_pair.proofs.ForCallers.{events_in}
use Rattle.st_plan.specs.Marks.{all_streams, Marked, Whole}
use Rattle.lack_laws.specs.Needs.{marked_of}
use Rattle.lack_needs.specs.Completions.{marked_with, wholes_with}

all_events : (es : List Event) (ms : List Bool) → map (λ (m : Marked). m.event) (marked_with es ms)
    ≡ es
all_events [] ms = refl
all_events (e ∷ es) [] = ap (λ xs. e ∷ xs) (all_events es [])
all_events (e ∷ es) (b ∷ ms) = ap (λ xs. e ∷ xs) (all_events es ms)

-- the first process has the first marks, and the others the rest
pub wholes_next : (x : Stream) (streams : List Stream) (lists : List (List Bool))
    → wholes_with (x ∷ streams) lists
    ≡ record { pid = x.pid; marked = marked_with x.events (get_or lists 0 []) }
    ∷ wholes_with streams (drop 1 lists)
wholes_next x streams [] = refl
wholes_next x streams (ms ∷ lists) = refl

pub marks_later : (lists : List (List Bool)) (k : ℕ)
    → get_or (drop 1 lists) k [] ≡ get_or lists (suc k) []
marks_later [] k = refl
marks_later (ms ∷ lists) k = refl

pub all_kept : (streams : List Stream) (lists : List (List Bool))
    → all_streams (wholes_with streams lists) ≡ streams
all_kept [] lists = refl
all_kept (x ∷ streams) lists =
    ap all_streams (wholes_next x streams lists)
    ∙ ap (λ es. let y : Stream = record { pid = x.pid; events = es } in
    y ∷ all_streams (wholes_with streams (drop 1 lists))) (all_events x.events (get_or lists 0 []))
    ∙ ap (λ ys. x ∷ ys) (all_kept streams (drop 1 lists))

pub mark_read : (es : List Event) (ms : List Bool) (i : ℕ)
    → option_map (λ (m : Marked). m.told) (slice_get (marked_with es ms) i)
    ≡ option_map (λ (e : Event). get_or ms i false) (slice_get es i)
mark_read [] ms i = refl
mark_read (e ∷ es) [] zero = refl
mark_read (e ∷ es) (b ∷ ms) zero = refl
mark_read (e ∷ es) [] (suc i) = mark_read es [] i
mark_read (e ∷ es) (b ∷ ms) (suc i) = mark_read es ms i

abbrev pub marked_in : Option Whole → List Marked
marked_in o = elim o [ None ↦ [] | Some w ↦ w.marked ]

abbrev found : Pid → List Whole → Option Whole
found p wholes = find (λ (w : Whole). pid_eq w.pid p) wholes

-- the marked events of p are those of the first process if it is p, else those of p among the
-- others
first_kept : (x : Stream) (streams : List Stream) (lists : List (List Bool)) (p : Pid) (b : Bool)
    → pid_eq x.pid p ≡ b → marked_of (wholes_with (x ∷ streams) lists) p
    ≡ cond b (marked_with x.events (get_or lists 0 []))
    (marked_of (wholes_with streams (drop 1 lists)) p)
first_kept x streams lists p b is =
    let w : Whole = record { pid = x.pid; marked = marked_with x.events (get_or lists 0 []) } in
    let others = found p (wholes_with streams (drop 1 lists)) in
    ap (λ ws. marked_of ws p) (wholes_next x streams lists)
    ∙ ap (λ c. marked_in (cond c (Some w) others)) is
    ∙ elim b as (λ c. marked_in (cond c (Some w) others) ≡ cond c w.marked (marked_in others))
    [ true ↦ refl | false ↦ refl ]

-- the process at place k has the marks at place k
pub marked_kept : (streams : List Stream) (lists : List (List Bool)) (k : ℕ) (p : Pid)
    → IsRising (pids_of streams) → slice_get (pids_of streams) k ≡ Some p
    → marked_of (wholes_with streams lists) p ≡ marked_with (events_of streams p)
    (get_or lists k [])
marked_kept [] lists k p rising at = absurd (cc)
marked_kept (x ∷ streams) lists zero p rising at =
    let same : pid_eq x.pid p ≡ true = ap (λ q. pid_eq q p) (same_Some x.pid p at)
    ∙ pid_eq-refl p in
    first_kept x streams lists p true same
    ∙ sym (ap (λ b. marked_with (events_in (cond b (Some x) (stream_of streams p)))
    (get_or lists 0 [])) same)
marked_kept (x ∷ streams) lists (suc k) p rising at =
    let other = above_apart (pids_of streams) x.pid p k rising.0 at in
    first_kept x streams lists p false other
    ∙ marked_kept streams (drop 1 lists) k p rising.1 at
    ∙ ap (marked_with (events_of streams p)) (marks_later lists k)
    ∙ sym (ap (λ b. marked_with (events_in (cond b (Some x) (stream_of streams p)))
    (get_or lists (suc k) [])) other)

pub marked_missing : (streams : List Stream) (lists : List (List Bool)) (p : Pid)
    → AllByRecursion (λ q. pid_eq q p ≡ false) (pids_of streams)
    → marked_of (wholes_with streams lists) p ≡ []
marked_missing [] lists p missing = refl
marked_missing (x ∷ streams) lists p missing =
    first_kept x streams lists p false missing.0
    ∙ marked_missing streams (drop 1 lists) p missing.1
