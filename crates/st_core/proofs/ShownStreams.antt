-- Streams by rising pid that acts show can be collected, since each event is its process's own and
-- names only processes that are there.
use Rattle.std.proofs.Common.{◌≡◌, ℕ, true, false, cond, not, ◌&&◌, ◌||◌, if◌then◌else◌, List, []}
use Rattle.std.proofs.Common.{◌∷◌, ◌++◌, Option, Some, None, is_some, refl, ◌∙◌, ap, subst}
use Rattle.std.specs.Prelude.{All, option_to_list}
use Rattle.std.specs.Option.{ForSome, option_map_or}
use Rattle.std.specs.List.{AllByRecursion, AllZip}
use Rattle.std.proofs.lemmas.List.Elements.{All-head, All-tail}
use Rattle.st_core.specs.declared.types.Pid.{Pid}
use Rattle.st_core.specs.declared.types.Event.{Event}
use Rattle.st_core.specs.declared.types.Act.{Act}
use Rattle.st_core.specs.Pid.{pid_eq, IsRising}
use Rattle.st_core.specs.Step.{Outcome, actor}
use Rattle.st_core.specs.Run.{Shows, Stream, pids_of, stream}
use Rattle.st_core.specs.Streams.{stream_of, lists, names_listed, unlisted_among, is_own, AreOwn}
use Rattle.st_core.specs.Streams.{IsStreams, is_among, names_among}
use Rattle.st_core.specs.Laws.{IsReportAmong, ReportsAmong}
use Rattle.st_core.proofs.Pids.{pid_eq-true}
use Rattle.st_core.proofs.Collections.{position-none}
use Rattle.st_core.proofs.Names.{run_named}

stream_among : (pids : List Pid) (acts : List Act) (os : List Outcome) (p : Pid)
    → AllZip (ReportsAmong pids) acts os
    → AllByRecursion (IsReportAmong pids p) (stream acts os p)
stream_among pids (a ∷ acts) (o ∷ os) p all =
    let rest = stream_among pids acts os p all.1 in
    elim o.report as (λ report. ForSome report (IsReportAmong pids (actor a))
    → AllByRecursion (IsReportAmong pids p)
    ((if pid_eq (actor a) p then option_to_list report else []) ++ stream acts os p)) [
      | None ↦ λ one. elim (pid_eq (actor a) p) as (λ b. AllByRecursion (IsReportAmong pids p)
          ((if b then [] else []) ++ stream acts os p)) [ true ↦ rest | false ↦ rest ]
      | Some e ↦ λ one. elim (pid_eq (actor a) p) as (λ b. pid_eq (actor a) p ≡ b
          → AllByRecursion (IsReportAmong pids p)
          ((if b then e ∷ [] else []) ++ stream acts os p)) [
            | true ↦ λ is. (
              subst (λ q. IsReportAmong pids q e) (pid_eq-true (actor a) p is)
                  (one e refl),
              rest,
            )
            | false ↦ λ is. rest
          ] refl
    ] all.0
stream_among pids acts os p all = tt

pub lists_among : (streams : List Stream) (p : Pid) → lists streams p ≡ is_among (pids_of streams) p
lists_among [] p = refl
lists_among (x ∷ streams) p =
    elim (pid_eq x.pid p) as (λ b. is_some (cond b (Some x) (stream_of streams p)) ≡
    (b || is_among (pids_of streams) p)) [ true ↦ refl | false ↦ lists_among streams p ]

pub names_among_listed : (streams : List Stream) (e : Event)
    → names_listed streams e ≡ names_among (pids_of streams) e
names_among_listed streams e =
    ap (λ b. b && option_map_or (lists streams) e.to true) (lists_among streams e.from)
    ∙ ap (λ b. is_among (pids_of streams) e.from && b) (to_same e.to)
  where
    to_same : (to : Option Pid) → option_map_or (lists streams) to true ≡ option_map_or
        (is_among (pids_of streams)) to true
    to_same None = refl
    to_same (Some q) = lists_among streams q

-- each event is its process's own and names only processes among these pids
abbrev pub AreReports : List Pid → List Stream → Type 0
AreReports pids streams = AllByRecursion (λ (x : Stream).
    AllByRecursion (IsReportAmong pids x.pid) x.events) streams

all_false : (all : List Stream) (p : Pid) (es : List Event)
    → AllByRecursion (IsReportAmong (pids_of all) p) es
    → AllByRecursion (λ e. not (names_listed all e) ≡ false) es
all_false all p [] h = tt
all_false all p (e ∷ es) h = (ap not (names_among_listed all e ∙ h.0.names), all_false all p es h.1)

all_own : (pids : List Pid) (p : Pid) (es : List Event) → AllByRecursion (IsReportAmong pids p) es
    → AllByRecursion (λ e. is_own p e ≡ true) es
all_own pids p [] h = tt
all_own pids p (e ∷ es) h = (h.0.own, all_own pids p es h.1)

pub unlisted_none : (all rest : List Stream) → AreReports (pids_of all) rest
    → unlisted_among all rest ≡ None
unlisted_none all [] h = refl
unlisted_none all (x ∷ rest) h =
    let test = λ (e : Event). not (names_listed all e) in
    ap (λ (k : Option ℕ). let o : Option (Pid × ℕ) =
    elim k [ None ↦ unlisted_among all rest | Some i ↦ Some (x.pid, i) ] in o)
    (position-none test x.events (all_false all x.pid x.events h.0))
    ∙ unlisted_none all rest h.1

pub are_own : (pids : List Pid) (streams : List Stream) → AreReports pids streams → AreOwn streams
are_own pids [] h = tt
are_own pids (x ∷ streams) h = (all_own pids x.pid x.events h.0, are_own pids streams h.1)

are_reports : (pids : List Pid) (acts : List Act) (os : List Outcome) (streams : List Stream)
    → AllZip (ReportsAmong pids) acts os → All (λ (x : Stream). stream acts os x.pid ≡ x.events)
    streams
    → AreReports pids streams
are_reports pids acts os [] all same = tt
are_reports pids acts os (x ∷ streams) all same = (
  subst (AllByRecursion (IsReportAmong pids x.pid)) (All-head
      (λ (y : Stream). stream acts os y.pid ≡ y.events) x streams same)
      (stream_among pids acts os x.pid all),
  are_reports pids acts os streams all (All-tail (λ (y : Stream). stream acts os y.pid ≡ y.events) x
      streams same),
)

pub shown_are_streams : (top : ℕ) (streams : List Stream) (acts : List Act)
    → IsRising (pids_of streams)
    → Shows top streams acts → IsStreams streams
shown_are_streams top streams acts rising shows =
    let reports = are_reports (pids_of streams) acts shows.0 streams
    (run_named top (pids_of streams) acts shows.0 shows.1) shows.2 in
    record {
      draft = record { rising = rising; own = are_own (pids_of streams) streams reports };
      listed = unlisted_none streams streams reports;
    }
