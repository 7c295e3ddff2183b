-- A fold over the events of a process, or over all processes, goes on with the next one: the rest
-- begins with it.
use Rattle.std.proofs.Common.{◌≡◌, ℕ, ◌+◌, ◌<◌, ◌≤◌, zero, suc, Bool, true, false, ◌||◌, nat_lt}
use Rattle.std.proofs.Common.{List, [], ◌∷◌, ◌++◌, length, take, drop, get_or, slice_get, Some}
use Rattle.std.proofs.Common.{add-one, refl, sym, ◌∙◌, ap, arith}
use Rattle.std.proofs.lemmas.Bool.{le-ltb, lt-ltb}
use Rattle.std.proofs.lemmas.List.{drop_all}
use Rattle.std.proofs.lemmas.Option.{same_Some}
use Rattle.st_core.specs.declared.types.Pid.{Pid}
use Rattle.st_core.specs.declared.types.Event.{Event}
use Rattle.st_core.specs.Pid.{IsRising}
use Rattle.st_core.specs.Run.{Stream, pids_of}
use Rattle.st_core.specs.Streams.{events_of}
use Rattle.st_pair.proofs.ForCallers.{drop_next, stream_here}
use Rattle.st_plan.specs.Marks.{Marked, Whole}
use Rattle.st_plan.proofs.ForCallers.{take_more}
use Rattle.lack_needs.specs.Completions.{marked_with, wholes_with}
use Rattle.lack_needs.specs.declared.flaws.Left.{Left}
use Rattle.lack_needs.specs.Flaws.{left_by}
use Rattle.lack_acts.specs.declared.tallies.FlagTallies.{FlagTallies}
use Rattle.lack_acts.specs.Missing.{missing_at_end, missing_before, missing_from}
use Rattle.lack_acts.specs.Missing.{missing_in, missing_with, up_to_64_bits}
use Rattle.lack_acts.specs.Strays.{may_save}
use Rattle.lack_needs.proofs.ForCallers.{pids_length}
use Rattle.lack_acts.specs.Tallies.{counted_by_kind, counted_from, counted_whole, with_silence}
use Rattle.lack_acts.proofs.Telling.{whole_at, wholes_length}

-- WHAT IS LEFT

take_next : (es : List Event) (i : ℕ) (e : Event) → slice_get es i ≡ Some e
    → take (i + 1) es ≡ take i es ++ e ∷ []
take_next es i e at = rw add-one (take_more es i e at)

abbrev marked : Event → Bool → Marked
marked e b = record { event = e; told = b }

marked_after : (es : List Event) (bs : List Bool) (i : ℕ) (e : Event) → slice_get es i ≡ Some e
    → drop i (marked_with es bs)
    ≡ marked e (get_or bs i false) ∷ drop (suc i) (marked_with es bs)
marked_after [] bs i e at = absurd (cc)
marked_after (d ∷ es) [] zero e at =
    ap (λ f. marked f false ∷ marked_with es []) (same_Some d e at)
marked_after (d ∷ es) (b ∷ bs) zero e at =
    ap (λ f. marked f b ∷ marked_with es bs) (same_Some d e at)
marked_after (d ∷ es) [] (suc i) e at = marked_after es [] i e at
marked_after (d ∷ es) (b ∷ bs) (suc i) e at = marked_after es bs i e at

marked_next : (es : List Event) (bs : List Bool) (i : ℕ) (e : Event) (b : Bool)
    → slice_get es i ≡ Some e → b ≡ get_or bs i false
    → marked e b ∷ drop (i + 1) (marked_with es bs) ≡ drop i (marked_with es bs)
marked_next es bs i e b at mark =
    ap (λ c. marked e c ∷ drop (i + 1) (marked_with es bs)) mark
    ∙ rw add-one (sym (marked_after es bs i e at))

-- the whole stream of the next process is the first of the rest
pub whole_next : (streams : List Stream) (marks : List (List Bool)) (pids : List Pid) (k : ℕ)
    (d : Pid) (es : List Event) (bs : List Bool) → IsRising (pids_of streams)
    → pids ≡ pids_of streams → k < length pids → es ≡ events_of streams (get_or pids k d)
    → bs ≡ get_or marks k []
    → record { pid = get_or pids k d; marked = marked_with es bs }
    ∷ drop (k + 1) (wholes_with streams marks) ≡ drop k (wholes_with streams marks)
whole_next streams marks pids k d es bs rising are within events own =
    let p = get_or pids k d in
    let wholes = wholes_with streams marks in
    ap (λ cs. let w : Whole = record { pid = p; marked = marked_with es cs } in
    w ∷ drop (k + 1) wholes) own
    ∙ rw add-one (sym (drop_next wholes k _ (whole_at streams marks k _
    (stream_here streams pids k d es rising are within events))))

-- the stream of the next process is the first of the rest
stream_next : (streams : List Stream) (pids : List Pid) (k : ℕ) (d : Pid) (es : List Event)
    → IsRising (pids_of streams) → pids ≡ pids_of streams → k < length pids
    → es ≡ events_of streams (get_or pids k d)
    → record { pid = get_or pids k d; events = es } ∷ drop (k + 1) streams ≡ drop k streams
stream_next streams pids k d es rising are within events =
    rw add-one (sym (drop_next streams k _
    (stream_here streams pids k d es rising are within events)))

-- ONE EVENT FURTHER

pub counted_more : (all now next : FlagTallies) (left : Left) (es : List Event) (bs : List Bool)
    (i : ℕ) (e : Event) (b : Bool) → slice_get es i ≡ Some e → b ≡ get_or bs i false
    → left ≡ left_by (take i es)
    → next ≡ with_silence (counted_by_kind now e.kind b) (missing_before left e)
    → counted_from now (take i es) (drop i (marked_with es bs)) ≡ all
    → counted_from next (take (i + 1) es) (drop (i + 1) (marked_with es bs)) ≡ all
counted_more all now next left es bs i e b at mark is step so_far =
    let rest = drop (i + 1) (marked_with es bs) in
    let more = λ (l : Left). with_silence (counted_by_kind now e.kind b) (missing_before l e) in
    ap (λ t. counted_from t (take (i + 1) es) rest) (step ∙ ap more is)
    ∙ ap (λ before. counted_from (more (left_by (take i es))) before rest) (take_next es i e at)
    ∙ ap (λ ms. counted_from now (take i es) ms) (marked_next es bs i e b at mark)
    ∙ so_far

pub ended_more : (all now next : ℕ) (left : Left) (es : List Event) (bs : List Bool) (i : ℕ)
    (e : Event) (b : Bool) → slice_get es i ≡ Some e → b ≡ get_or bs i false
    → left ≡ left_by (take i es) → next ≡ missing_with now left (marked e b)
    → missing_at_end now (take i es) (drop i (marked_with es bs)) ≡ all
    → missing_at_end next (take (i + 1) es) (drop (i + 1) (marked_with es bs)) ≡ all
ended_more all now next left es bs i e b at mark is step so_far =
    let rest = drop (i + 1) (marked_with es bs) in
    let more = λ (l : Left). missing_with now l (marked e b) in
    ap (λ n. missing_at_end n (take (i + 1) es) rest) (step ∙ ap more is)
    ∙ ap (λ before. missing_at_end (more (left_by (take i es))) before rest) (take_next es i e at)
    ∙ ap (λ ms. missing_at_end now (take i es) ms) (marked_next es bs i e b at mark)
    ∙ so_far

-- ONE PROCESS FURTHER

pub streams_missing : (all now next : ℕ) (streams : List Stream) (pids : List Pid) (k : ℕ) (d : Pid)
    (es : List Event) → IsRising (pids_of streams) → pids ≡ pids_of streams → k < length pids
    → es ≡ events_of streams (get_or pids k d) → next ≡ up_to_64_bits (now + missing_from 0 [] es)
    → missing_in now (drop k streams) ≡ all → missing_in next (drop (k + 1) streams) ≡ all
streams_missing all now next streams pids k d es rising are within events step so_far =
    ap (λ n. missing_in n (drop (k + 1) streams)) step
    ∙ ap (λ ss. missing_in now ss) (stream_next streams pids k d es rising are within events)
    ∙ so_far

pub wholes_counted : (all now next : FlagTallies) (streams : List Stream)
    (marks : List (List Bool)) (pids : List Pid) (k : ℕ) (d : Pid) (es : List Event)
    (bs : List Bool) → IsRising (pids_of streams) → pids ≡ pids_of streams → k < length pids
    → es ≡ events_of streams (get_or pids k d) → bs ≡ get_or marks k []
    → next ≡ counted_from now [] (marked_with es bs)
    → counted_whole now (drop k (wholes_with streams marks)) ≡ all
    → counted_whole next (drop (k + 1) (wholes_with streams marks)) ≡ all
wholes_counted all now next streams marks pids k d es bs rising are within events own step so_far =
    ap (λ t. counted_whole t (drop (k + 1) (wholes_with streams marks))) step
    ∙ ap (λ ws. counted_whole now ws)
    (whole_next streams marks pids k d es bs rising are within events own)
    ∙ so_far

-- ALL EVENTS

pub marked_end : (es : List Event) (bs : List Bool) (i : ℕ) → length es ≤ i
    → drop i (marked_with es bs) ≡ []
marked_end [] bs zero past = refl
marked_end [] bs (suc i) past = refl
marked_end (d ∷ es) bs zero past = absurd (omega arith)
marked_end (d ∷ es) [] (suc i) past = marked_end es [] i (omega arith)
marked_end (d ∷ es) (b ∷ bs) (suc i) past = marked_end es bs i (omega arith)

-- the next process saves something, so the rest does
pub saves_here : (streams : List Stream) (marks : List (List Bool)) (pids : List Pid) (k : ℕ)
    (d : Pid) (es : List Event) (bs : List Bool) (n : ℕ) → IsRising (pids_of streams)
    → pids ≡ pids_of streams → k < length pids → es ≡ events_of streams (get_or pids k d)
    → bs ≡ get_or marks k [] → n ≡ missing_at_end 0 [] (marked_with es bs) → 0 < n
    → may_save (drop k (wholes_with streams marks)) ≡ true
saves_here streams marks pids k d es bs n rising are within events own is some =
    ap may_save (sym (whole_next streams marks pids k d es bs rising are within events own))
    ∙ ap (λ m. nat_lt 0 m || may_save (drop (k + 1) (wholes_with streams marks))) (sym is)
    ∙ ap (λ b. b || may_save (drop (k + 1) (wholes_with streams marks))) (lt-ltb 0 n some)

pub saves_later : (streams : List Stream) (marks : List (List Bool)) (pids : List Pid) (k : ℕ)
    (d : Pid) (es : List Event) (bs : List Bool) (n : ℕ) → IsRising (pids_of streams)
    → pids ≡ pids_of streams → k < length pids → es ≡ events_of streams (get_or pids k d)
    → bs ≡ get_or marks k [] → n ≡ missing_at_end 0 [] (marked_with es bs) → n ≤ 0
    → may_save (drop (k + 1) (wholes_with streams marks))
    ≡ may_save (drop k (wholes_with streams marks))
saves_later streams marks pids k d es bs n rising are within events own is none =
    sym (ap may_save (sym (whole_next streams marks pids k d es bs rising are within events own))
    ∙ ap (λ m. nat_lt 0 m || may_save (drop (k + 1) (wholes_with streams marks))) (sym is)
    ∙ ap (λ b. b || may_save (drop (k + 1) (wholes_with streams marks))) (le-ltb 0 n none))

pub none_left : (streams : List Stream) (marks : List (List Bool)) (pids : List Pid) (k : ℕ)
    → pids ≡ pids_of streams → length pids ≤ k → drop k (wholes_with streams marks) ≡ []
none_left streams marks pids k are past =
    let long = ap length are ∙ pids_length streams in
    let same = wholes_length streams marks in
    drop_all k (wholes_with streams marks) (omega (arith, past, long, same))
