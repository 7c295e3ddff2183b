-- Streams in which nothing is needed stay so if their counts are replaced in order: pairing, late
-- stamps and needs only compare counts, and a map that keeps the order leaves each comparison as
-- it was. So a completion of renumbered streams becomes one of the streams when its counts are put
-- back.
use Rattle.std.proofs.Common.{[], ◌≡◌, ℕ, ◌≤◌, ◌==◌, ◌&&◌, max, nat_lt, true, false, not, List, ◌∷◌}
use Rattle.std.proofs.Common.{map, refl, sym, ◌∙◌, ap, arith, cond, Option, Some, None, slice_get}
use Rattle.std.proofs.Common.{option_map, subst, ◌<◌, Bool, take, inl, inr}
use Rattle.std.proofs.lemmas.Bool.{cases_lt, eq-eqb, eqb-true, false_from_ne_true, false≢true}
use Rattle.std.proofs.lemmas.Bool.{ltb-true, ltb-false, le-ltb}
use Rattle.std.proofs.lemmas.Bool.Decides.{nat_tests}
use Rattle.std.proofs.lemmas.Option.{slice_get-map, none-some, same_Some}
use Rattle.std.specs.List.{AllByRecursion}
use Rattle.std.proofs.lemmas.List.{take-map}
use Rattle.st_core.specs.declared.types.Event.{Event}
use Rattle.st_core.specs.Laws.{greatest_count, prev_after, IsReportAmong}
use Rattle.st_core.specs.declared.types.Pid.{Pid}
use Rattle.st_core.specs.Pid.{pid_eq, IsRising}
use Rattle.st_core.specs.Run.{Stream, pids_of}
use Rattle.st_core.specs.Streams.{events_of, stream_of, IsStreams}
use Rattle.st_core.specs.declared.types.Kind.TheVariants as kind
use Rattle.st_core.proofs.ForCallers.{AreReports}
use Rattle.st_pair.specs.Places.{is_stamp, event_at}
use Rattle.st_pair.specs.Pairing.{agrees}
use Rattle.st_pair.proofs.ForCallers.{agreed, agrees_if, paired}
use Rattle.st_order.specs.Items.{is_hidden}
use Rattle.st_plan.specs.Marks.{all_streams, Marked, told_events, told_streams, Whole}
use Rattle.lack_laws.specs.Needs.{is_late, is_need, HoldsOfNone}
use Rattle.lack_laws.specs.Renumbering.{event_with, KeepsOrder, with_counts}
use Rattle.lack_laws.specs.Completed.{IsCompleted, IsShownInOneTrace}
use Rattle.lack_laws.specs.Local.{IsNeedless}
use Rattle.lack_laws.proofs.InsertedEvents.{reports_of, sound_of}
use Rattle.lack_laws.proofs.NeedlessStreams.{exactly_needless, needless_shown}
use Rattle.lack_laws.proofs.AcceptedStreams.{accepted_if, FitTogether, fit_together, seen_if}
use Rattle.lack_laws.proofs.AcceptedStreams.{sent_if, HasStamp}
use Rattle.lack_laws.proofs.ToldEvents.{events, streams_by}

module _ (f : ℕ → ℕ) (keeps : KeepsOrder f) where
  -- TESTS

  pub le_kept : (m n : ℕ) → m ≤ n → f m ≤ f n
  le_kept m n le = elim (cases_lt m n) [
    | inl less ↦ let up = keeps.rises m n less in omega arith
    | inr more ↦ let same : m ≡ n = omega arith in let up = ap f same in omega arith
  ]

  pub lt_same : (m n : ℕ) → nat_lt (f m) (f n) ≡ nat_lt m n
  lt_same m n = elim (nat_lt m n) as (λ b. nat_lt m n ≡ b → nat_lt (f m) (f n) ≡ b) [
    | true ↦ λ less. let up = keeps.rises m n (ltb-true m n less) in grind (arith, nat_tests)
    | false ↦ λ more. le-ltb (f m) (f n) (le_kept n m (ltb-false m n more))
  ] refl

  pub le_back : (m n : ℕ) → f m ≤ f n → m ≤ n
  le_back m n le = ltb-false n m (sym (lt_same n m) ∙ le-ltb (f n) (f m) le)

  pub injective : (m n : ℕ) → f m ≡ f n → m ≡ n
  injective m n same =
      omega (arith, le_back m n (omega (arith, same)), le_back n m (omega (arith, same)))

  pub eq_same : (m n : ℕ) → (f m == f n) ≡ (m == n)
  eq_same m n = elim (m == n) as (λ b. (m == n) ≡ b → (f m == f n) ≡ b) [
    | true ↦ λ same. eq-eqb (f m) (f n) (ap f (eqb-true m n same))
    | false ↦ λ apart. false_from_ne_true (f m == f n) (λ same. false≢true (sym apart
        ∙ eq-eqb m n (injective m n (eqb-true (f m) (f n) same))))
  ] refl

  pub max_kept : (m n : ℕ) → max (f m) (f n) ≡ f (max m n)
  max_kept m n = elim (cases_lt m n) [
    | inl less ↦
        let same : f (max m n) ≡ f n = ap f (omega arith) in
        omega (arith, keeps.rises m n less)
    | inr more ↦
        let same : f (max m n) ≡ f m = ap f (omega arith) in
        omega (arith, le_kept n m more)
  ]

  -- WHAT EVENTS LEAVE

  pub greatest_kept : (es : List Event) → greatest_count (map (event_with f) es)
      ≡ f (greatest_count es)
  greatest_kept [] = sym keeps.from_zero
  greatest_kept (e ∷ es) =
      ap (λ n. max (f e.serial.this) n) (greatest_kept es)
      ∙ max_kept e.serial.this (greatest_count es)

  pub left_kept : (es : List Event) → prev_after (map (event_with f) es) ≡ f (prev_after es)
  left_kept [] = sym keeps.from_zero
  left_kept (e ∷ []) = elim e.kind as (λ k. prev_after (event_with f (record e { kind = k }) ∷ [])
      ≡ f (prev_after (record e { kind = k } ∷ []))) [
        | kind.Send ↦ refl
        | kind.Receive ↦ refl
        | kind.Print ↦ refl
      ]
  left_kept (e ∷ d ∷ es) = left_kept (d ∷ es)

  -- REASONS AT AN EVENT

  pub late_same : (es : List Event) (e : Event) → is_late (map (event_with f) es) (event_with f e)
      ≡ is_late es e
  late_same es e =
      ap (λ n. is_stamp e && not (nat_lt n (f e.serial.this))) (greatest_kept es)
      ∙ ap (λ b. is_stamp e && not b) (lt_same (greatest_count es) e.serial.this)

  pub need_same : (es : List Event) (e : Event) → is_need (map (event_with f) es) (event_with f e)
      ≡ is_need es e
  need_same es e =
      let prev = e.serial.prev in
      ap (λ n. is_stamp e && (not (f prev == n) && nat_lt (f prev)
      (greatest_count (map (event_with f) es))))
      (left_kept es)
      ∙ ap (λ n. is_stamp e && (not (f prev == f (prev_after es)) && nat_lt (f prev) n))
      (greatest_kept es)
      ∙ ap (λ b. is_stamp e && (not b && nat_lt (f prev) (f (greatest_count es))))
      (eq_same prev (prev_after es))
      ∙ ap (λ b. is_stamp e && (not (prev == prev_after es) && b))
      (lt_same prev (greatest_count es))

pub stream_with : (f : ℕ → ℕ) (streams : List Stream) (p : Pid)
    → stream_of (with_counts f streams) p
    ≡ option_map (λ s. record { pid = s.pid; events = map (event_with f) s.events })
    (stream_of streams p)
stream_with f [] p = refl
stream_with f (s ∷ rest) p =
    let to = λ (s : Stream). let t : Stream = record {
      pid = s.pid;
      events =
          map (event_with f) s.events;
    } in t in
    elim (pid_eq s.pid p) as (λ b. cond b (Some (to s)) (stream_of (with_counts f rest) p)
    ≡ option_map to (cond b (Some s) (stream_of rest p))) [
      | true ↦ refl
      | false ↦ stream_with f rest p
    ]

pub events_with : (f : ℕ → ℕ) (streams : List Stream) (p : Pid)
    → events_of (with_counts f streams) p ≡ map (event_with f) (events_of streams p)
events_with f streams p =
    let out = λ (o : Option Stream). let es : List Event =
    elim o [ None ↦ [] | Some x ↦ x.events ] in es in
    ap out (stream_with f streams p)
    ∙ elim (stream_of streams p) as
    (λ o. out (option_map (λ s. record { pid = s.pid; events = map (event_with f) s.events }) o)
    ≡ map (event_with f) (out o)) [ None ↦ refl | Some x ↦ refl ]

pub event_at_with : (f : ℕ → ℕ) (streams : List Stream) (p : Pid) (i : ℕ)
    → event_at (with_counts f streams) p i ≡ option_map (event_with f) (event_at streams p i)
event_at_with f streams p i =
    ap (λ es. slice_get es i) (events_with f streams p)
    ∙ slice_get-map (event_with f) (events_of streams p) i

pub pids_with : (f : ℕ → ℕ) (streams : List Stream)
    → pids_of (with_counts f streams) ≡ pids_of streams
pids_with f [] = refl
pids_with f (s ∷ rest) = ap (λ ps. s.pid ∷ ps) (pids_with f rest)

module _ (f : ℕ → ℕ) where
  same_reports : (pids : List Pid) (p : Pid) (es : List Event)
      → AllByRecursion (IsReportAmong pids p) es
      → AllByRecursion (IsReportAmong pids p) (map (event_with f) es)
  same_reports pids p [] all = all
  same_reports pids p (e ∷ es) all =
      (record { own = all.0.own; names = all.0.names }, same_reports pids p es all.1)

  all_reports : (pids : List Pid) (streams : List Stream) → AreReports pids streams
      → AreReports pids (with_counts f streams)
  all_reports pids [] all = all
  all_reports pids (s ∷ rest) all =
      (same_reports pids s.pid s.events all.0, all_reports pids rest all.1)

  pub streams_with : (streams : List Stream) → IsStreams streams → IsStreams (with_counts f streams)
  streams_with streams is =
      let all = with_counts f streams in
      let same = sym (pids_with f streams) in
      sound_of all (subst IsRising same is.draft.rising)
      (subst (λ ps. AreReports ps all) same
      (all_reports (pids_of streams) streams (reports_of streams is)))

  -- WHOLE STREAMS

  abbrev pub mark_with : Marked → Marked
  mark_with m = record { event = event_with f m.event; told = m.told }

  abbrev pub wholes_with : List Whole → List Whole
  wholes_with wholes = map (λ w. record { pid = w.pid; marked = map mark_with w.marked }) wholes

  told_with : (ms : List Marked) → told_events (map mark_with ms)
      ≡ map (event_with f) (told_events ms)
  told_with [] = refl
  told_with (m ∷ ms) = elim m.told as (λ b.
      cond b (event_with f m.event ∷ told_events (map mark_with ms))
      (told_events (map mark_with ms))
      ≡ map (event_with f) (cond b (m.event ∷ told_events ms) (told_events ms))) [
        | true ↦ ap (λ es. event_with f m.event ∷ es) (told_with ms)
        | false ↦ told_with ms
      ]

  all_with : (ms : List Marked) → map (λ (m : Marked). m.event) (map mark_with ms)
      ≡ map (event_with f) (map (λ (m : Marked). m.event) ms)
  all_with [] = refl
  all_with (m ∷ ms) = ap (λ es. event_with f m.event ∷ es) (all_with ms)

  by_wholes : (g : List Marked → List Event)
      → ((ms : List Marked) → g (map mark_with ms) ≡ map (event_with f) (g ms))
      → (wholes : List Whole)
      → streams_by g (wholes_with wholes) ≡ with_counts f (streams_by g wholes)
  by_wholes g with [] = refl
  by_wholes g with (w ∷ wholes) =
      ap (λ es. let s : Stream = record { pid = w.pid; events = es } in
      s ∷ streams_by g (wholes_with wholes))
      (with w.marked)
      ∙ ap (λ ss. let s : Stream = record {
        pid = w.pid;
        events = map (event_with f) (g w.marked);
      } in s ∷ ss) (by_wholes g with wholes)

  pub told_wholes : (wholes : List Whole) → told_streams (wholes_with wholes)
      ≡ with_counts f (told_streams wholes)
  told_wholes = by_wholes told_events told_with

  pub all_wholes : (wholes : List Whole) → all_streams (wholes_with wholes)
      ≡ with_counts f (all_streams wholes)
  all_wholes = by_wholes events all_with

record IsReplaced (f : ℕ → ℕ) (streams : List Stream) (p : Pid) (i : ℕ) (d : Event) : Type 0 where
  event : Event
  at : event_at streams p i ≡ Some event
  is : event_with f event ≡ d

module _ (f : ℕ → ℕ) (keeps : KeepsOrder f) (streams : List Stream) where
  replaced : (p : Pid) (i : ℕ) (d : Event) → event_at (with_counts f streams) p i ≡ Some d
      → IsReplaced f streams p i d
  replaced p i d at = elim (event_at streams p i) as (λ o. event_at streams p i ≡ o
      → option_map (event_with f) o ≡ Some d → IsReplaced f streams p i d) [
        | None ↦ λ _ h. absurd (none-some d h)
        | Some e ↦ λ there h. record { event = e; at = there; is = same_Some (event_with f e) d h }
      ] refl (sym (event_at_with f streams p i) ∙ at)

  -- PAIRING

  agree_kept : FitTogether streams → (p : Pid) (i j : ℕ) (e g : Event)
      → event_at (with_counts f streams) p i ≡ Some e → is_stamp e ≡ false
      → event_at (with_counts f streams) e.from j ≡ Some g → is_stamp g ≡ true
      → g.serial.this ≡ e.serial.this → agrees g e ≡ true
  agree_kept fit p i j e g at_e receives at_g stamps count =
      let r = replaced p i e at_e in
      let s = replaced e.from j g at_g in
      let at_s : event_at streams r.event.from j ≡ Some s.event =
      ap (λ (x : Event). event_at streams x.from j) r.is ∙ s.at in
      let one = injective f keeps s.event.serial.this r.event.serial.this
      (ap (λ (x : Event). x.serial.this) s.is ∙ count
      ∙ ap (λ (x : Event). x.serial.this) (sym r.is)) in
      let old = agreed s.event r.event (fit.agree p i j r.event s.event r.at
      (ap is_stamp r.is ∙ receives) at_s (ap is_stamp s.is ∙ stamps) one) in
      subst (λ (x : Event). agrees g x ≡ true) r.is
      (subst (λ (x : Event). agrees x (event_with f r.event) ≡ true) s.is
      (agrees_if (event_with f s.event) (event_with f r.event) (record {
        sends = old.sends;
        label = old.label;
        prev = ap f old.prev;
        to = old.to;
        value = old.value;
      })))

  fit_kept : FitTogether streams → FitTogether (with_counts f streams)
  fit_kept fit = record {
    rises = λ p i d at.
        let r = replaced p i d at in
        subst (λ (x : Event). x.serial.prev < x.serial.this) r.is
        (keeps.rises r.event.serial.prev r.event.serial.this (fit.rises p i r.event r.at));
    grows = λ p j i d e less at_d at_e stamps_d stamps_e.
        let r = replaced p j d at_d in
        let s = replaced p i e at_e in
        let higher = keeps.rises r.event.serial.this s.event.serial.this
        (fit.grows p j i r.event s.event less r.at s.at (ap is_stamp r.is ∙ stamps_d)
        (ap is_stamp s.is ∙ stamps_e)) in
        let first = ap (λ (x : Event). x.serial.this) r.is in
        let second = ap (λ (x : Event). x.serial.this) s.is in
        omega arith;
    once = λ p q i j d e at_d at_e receives_d receives_e from count.
        let r = replaced p i d at_d in
        let s = replaced q j e at_e in
        fit.once p q i j r.event s.event r.at s.at (ap is_stamp r.is ∙ receives_d)
        (ap is_stamp s.is ∙ receives_e)
        (ap (λ (x : Event). x.from) r.is ∙ from ∙ ap (λ (x : Event). x.from) (sym s.is))
        (injective f keeps r.event.serial.this s.event.serial.this
        (ap (λ (x : Event). x.serial.this) r.is ∙ count
        ∙ ap (λ (x : Event). x.serial.this) (sym s.is)));
    agree = agree_kept fit;
  }

  seen_kept : ((p : Pid) (i : ℕ) (e : Event) → event_at streams p i ≡ Some e
      → is_hidden streams e ≡ false) → (p : Pid) (i : ℕ) (d : Event)
      → event_at (with_counts f streams) p i ≡ Some d → is_hidden (with_counts f streams) d ≡ false
  seen_kept seen p i d at =
      let r = replaced p i d at in
      seen_if (with_counts f streams) d (λ receives.
      let s = sent_if streams r.event (seen p i r.event r.at) (ap is_stamp r.is ∙ receives) in
      subst (λ (x : Event). HasStamp (with_counts f streams) x.from x.serial.this) r.is (record {
        index = s.index;
        event = event_with f s.event;
        at = event_at_with f streams r.event.from s.index ∙ ap (option_map (event_with f)) s.at;
        stamps = s.stamps;
        count = ap f s.count;
      }))

  -- TESTS

  before_same : (p : Pid) (i : ℕ) → take i (events_of (with_counts f streams) p)
      ≡ map (event_with f) (take i (events_of streams p))
  before_same p i = ap (take i) (events_with f streams p)
      ∙ take-map (event_with f) i (events_of streams p)

  -- a test that sees only the order of counts still holds of no event
  none_kept : (test : List Event → Event → Bool)
      → ((es : List Event) (e : Event) → test (map (event_with f) es) (event_with f e)
      ≡ test es e) → HoldsOfNone test streams → HoldsOfNone test (with_counts f streams)
  none_kept test same none p i d at =
      let r = replaced p i d at in
      ap (test (take i (events_of (with_counts f streams) p))) (sym r.is)
      ∙ ap (λ es. test es (event_with f r.event)) (before_same p i)
      ∙ same (take i (events_of streams p)) r.event
      ∙ none p i r.event r.at

  pub needless_with : (top : ℕ) → IsRising (pids_of streams) → IsNeedless top streams
      → IsNeedless (f top) (with_counts f streams)
  needless_with top rising is = record {
    accepted = accepted_if (with_counts f streams)
        (subst IsRising (sym (pids_with f streams)) rising)
        (fit_kept (fit_together streams (paired streams is.accepted)));
    reported = seen_kept is.reported;
    timely = none_kept is_late (late_same f keeps) is.timely;
    caused = none_kept is_need (need_same f keeps) is.caused;
    within = λ p i d at.
        let r = replaced p i d at in
        subst (λ (e : Event). e.serial.this ≤ f top) r.is
        (le_kept f keeps r.event.serial.this top (is.within p i r.event r.at));
  }

module _ (f : ℕ → ℕ) (keeps : KeepsOrder f) (top : ℕ) (streams : List Stream) where
  pub completed_with : IsCompleted IsNeedless top streams
      → IsCompleted IsNeedless (f top) (with_counts f streams)
  completed_with done = record {
    wholes = wholes_with f done.wholes;
    told = told_wholes f done.wholes ∙ ap (with_counts f) done.told;
    sound = subst IsStreams (sym (all_wholes f done.wholes))
        (streams_with f (all_streams done.wholes) done.sound);
    is = subst (IsNeedless (f top)) (sym (all_wholes f done.wholes))
        (needless_with f keeps (all_streams done.wholes) top done.sound.draft.rising done.is);
  }

  pub shown_with : IsRising (pids_of streams) → IsShownInOneTrace top streams
      → IsShownInOneTrace (f top) (with_counts f streams)
  shown_with rising shown =
      needless_shown (f top) (with_counts f streams)
      (completed_with ((exactly_needless top streams rising).0 shown))
