-- A process without events, put in by its pid, leaves the events of all others as they are; so
-- streams stay streams. There always is a pid for one more process.
use Rattle.std.proofs.Common.{[], ◌≡◌, ℕ, suc, ◌<◌, map, ◌||◌, Bool, true, false, cond, List, ◌∷◌}
use Rattle.std.proofs.Common.{Option, Some, None, is_some, length, refl, sym, ◌∙◌, ap, arith}
use Rattle.std.specs.declared.cmp.Ordering.TheVariants.{Less, Equal, Greater}
use Rattle.std.specs.Ordering.{is_lt, ordering_reverse}
use Rattle.std.specs.List.{AllByRecursion}
use Rattle.std.specs.Option.{option_map_or}
use Rattle.std.proofs.lemmas.Bool.{false≢true, and_parts, and_from}
use Rattle.std.proofs.lemmas.List.Sums.{sum_by-cons}
use Rattle.st_core.specs.declared.types.Pid.{Pid}
use Rattle.st_core.specs.declared.types.Event.{Event}
use Rattle.st_core.specs.Pid.{pid_cmp, pid_eq, pid_on, IsBelow, IsRising}
use Rattle.st_core.specs.Run.{Stream, pids_of}
use Rattle.st_core.specs.Streams.{events_of, is_among, IsStreams, lists, stream_of, total_of}
use Rattle.st_core.specs.Laws.{IsReportAmong}
use Rattle.st_core.proofs.ForCallers.{is_lt-true, pid_cmp-Equal, pid_eq-refl, pid_same}
use Rattle.st_core.proofs.ForCallers.{IsBelow-trans, or_false, or_right, AreReports, lists_among}
use Rattle.st_core.proofs.ForCallers.{all_apart, is_among-missing}
use Rattle.st_pair.proofs.ForCallers.{events_in, pid_total}
use Rattle.st_order.specs.Items.{greatest}
use Rattle.lack_laws.specs.Silent.{inserted, silent, with_silent}
use Rattle.lack_laws.proofs.InsertedEvents.{reports_of, sound_of, unlisted_events}

-- ONE PROCESS MORE

some_if : (b : Bool) (x : Stream) (o : Option Stream)
    → is_some (cond b (Some x) o) ≡ (b || is_some o)
some_if true x o = refl
some_if false x o = refl

or_turn : (a b c d : Bool) → d ≡ (a || c) → (b || d) ≡ (a || (b || c))
or_turn true true c d h = refl
or_turn true false c d h = h
or_turn false b c d h = ap (λ x. b || x) h

pub lists_inserted : (q : Pid) (streams : List Stream) (p : Pid)
    → lists (inserted q streams) p ≡ (pid_eq q p || lists streams p)
lists_inserted q [] p = some_if (pid_eq q p) (silent q) None
lists_inserted q (x ∷ rest) p =
    let old = some_if (pid_eq x.pid p) x (stream_of rest p) in
    elim (is_lt (pid_cmp q x.pid)) as (λ b. lists (cond b (silent q ∷ x ∷ rest)
    (x ∷ inserted q rest)) p
    ≡ (pid_eq q p || lists (x ∷ rest) p)) [
      | true ↦ some_if (pid_eq q p) (silent q) (stream_of (x ∷ rest) p)
      | false ↦ some_if (pid_eq x.pid p) x (stream_of (inserted q rest) p)
          ∙ or_turn (pid_eq q p) (pid_eq x.pid p) (lists rest p) (lists (inserted q rest) p)
          (lists_inserted q rest p)
          ∙ ap (λ b. pid_eq q p || b) (sym old)
    ]

pub listed_rest : (x : Stream) (rest : List Stream) (p : Pid) → lists (x ∷ rest) p ≡ false
    → lists rest p ≡ false
listed_rest x rest p none =
    elim (pid_eq x.pid p) as (λ b. is_some (cond b (Some x) (stream_of rest p)) ≡ false
    → lists rest p ≡ false) [ true ↦ λ h. absurd (false≢true (sym h)) | false ↦ λ h. h ] none

pub events_inserted : (q : Pid) (streams : List Stream) → lists streams q ≡ false → (p : Pid)
    → events_of (inserted q streams) p ≡ events_of streams p
events_inserted q [] none p =
    elim (pid_eq q p) as (λ b. events_in (cond b (Some (silent q)) None)
    ≡ []) [ true ↦ refl | false ↦ refl ]
events_inserted q (x ∷ rest) none p =
    elim (is_lt (pid_cmp q x.pid)) as (λ b. events_of (cond b (silent q ∷ x ∷ rest)
    (x ∷ inserted q rest)) p
    ≡ events_of (x ∷ rest) p) [
      | true ↦ elim (pid_eq q p) as (λ b. pid_eq q p ≡ b
          → events_in (cond b (Some (silent q)) (stream_of (x ∷ rest) p))
          ≡ events_of (x ∷ rest) p) [
            | true ↦ λ same. sym (ap (events_of (x ∷ rest)) (sym (pid_same q p same))
                ∙ unlisted_events (x ∷ rest) q none)
            | false ↦ λ _. refl
          ] refl
      | false ↦ elim (pid_eq x.pid p) as (λ b. events_in
          (cond b (Some x) (stream_of (inserted q rest) p))
          ≡ events_in (cond b (Some x) (stream_of rest p))) [
            | true ↦ refl
            | false ↦ events_inserted q rest (listed_rest x rest q none) p
          ]
    ]

-- THE ORDER

pub above_first : (q : Pid) (x : Stream) (rest : List Stream) → lists (x ∷ rest) q ≡ false
    → is_lt (pid_cmp q x.pid) ≡ false → IsBelow x.pid q
above_first q x rest none not_below =
    elim (pid_cmp q x.pid) as (λ o. pid_cmp q x.pid ≡ o → IsBelow x.pid q) [
      | Less ↦ λ is. absurd (false≢true (sym not_below ∙ ap is_lt is))
      | Equal ↦ λ is.
          let same : x.pid ≡ q = sym (pid_cmp-Equal q x.pid is) in
          absurd (false≢true (sym none
          ∙ ap (λ b. is_some (cond b (Some x) (stream_of rest q)))
          (ap (λ p. pid_eq p q) same ∙ pid_eq-refl q)))
      | Greater ↦ λ is. pid_total.antisymm x.pid q ∙ ap ordering_reverse is
    ] refl

all_inserted : (P : Pid → Type 0) (q : Pid) (streams : List Stream) → P q
    → AllByRecursion P (pids_of streams) → AllByRecursion P (pids_of (inserted q streams))
all_inserted P q [] one all = (one, tt)
all_inserted P q (x ∷ rest) one all =
    elim (is_lt (pid_cmp q x.pid)) as (λ b.
    AllByRecursion P (pids_of (cond b (silent q ∷ x ∷ rest) (x ∷ inserted q rest)))) [
      | true ↦ (one, all)
      | false ↦ (all.0, all_inserted P q rest one all.1)
    ]

all_above : (q p : Pid) (ps : List Pid) → IsBelow q p → AllByRecursion (IsBelow p) ps
    → AllByRecursion (IsBelow q) ps
all_above q p [] below all = tt
all_above q p (r ∷ ps) below all = (IsBelow-trans q p r below all.0, all_above q p ps below all.1)

pub rising_inserted : (q : Pid) (streams : List Stream) → lists streams q ≡ false
    → IsRising (pids_of streams) → IsRising (pids_of (inserted q streams))
rising_inserted q [] none rising = (tt, tt)
rising_inserted q (x ∷ rest) none rising =
    elim (is_lt (pid_cmp q x.pid)) as (λ b. is_lt (pid_cmp q x.pid) ≡ b
    → IsRising (pids_of (cond b (silent q ∷ x ∷ rest) (x ∷ inserted q rest)))) [
      | true ↦ λ is.
          let below : IsBelow q x.pid = is_lt-true (pid_cmp q x.pid) is in
          ((below, all_above q x.pid (pids_of rest) below rising.0), rising)
      | false ↦ λ is. (
        all_inserted (IsBelow x.pid) q rest (above_first q x rest none is) rising.0,
        rising_inserted q rest (listed_rest x rest q none) rising.1,
      )
    ] refl

-- NAMES

pub still_listed : (q : Pid) (streams : List Stream) (p : Pid) → lists streams p ≡ true
    → lists (inserted q streams) p ≡ true
still_listed q streams p is =
    lists_inserted q streams p ∙ or_right (pid_eq q p) (lists streams p) is

AreAmong : List Pid → List Pid → Type 0
AreAmong pids more = (p : Pid) → is_among pids p ≡ true → is_among more p ≡ true

more_named : (pids more : List Pid) → AreAmong pids more → (p : Pid) (e : Event)
    → IsReportAmong pids p e → IsReportAmong more p e
unfolding AreAmong
more_named pids more wider p e report =
    let parts = and_parts (is_among pids e.from) (option_map_or (is_among pids) e.to true)
    report.names in
    record {
      own = report.own;
      names = and_from (is_among more e.from) (option_map_or (is_among more) e.to true)
          (wider e.from parts.0)
          (elim e.to as (λ to. option_map_or (is_among pids) to true ≡ true
          → option_map_or (is_among more) to true ≡ true) [
            | None ↦ λ h. h
            | Some q ↦ wider q
          ] parts.1);
    }

more_reports : (pids more : List Pid) → AreAmong pids more → (streams : List Stream)
    → AreReports pids streams → AreReports more streams
more_reports pids more wider [] all = tt
more_reports pids more wider (x ∷ rest) all = (
  along x.events all.0,
  more_reports pids more wider rest all.1,
)
  where
    along : (es : List Event) → AllByRecursion (IsReportAmong pids x.pid) es
        → AllByRecursion (IsReportAmong more x.pid) es
    along [] all = tt
    along (e ∷ es) all = (more_named pids more wider x.pid e all.0, along es all.1)

reports_inserted : (pids : List Pid) (q : Pid) (streams : List Stream) → AreReports pids streams
    → AreReports pids (inserted q streams)
reports_inserted pids q [] all = (tt, tt)
reports_inserted pids q (x ∷ rest) all =
    elim (is_lt (pid_cmp q x.pid)) as (λ b. AreReports pids (cond b (silent q ∷ x ∷ rest)
    (x ∷ inserted q rest))) [
      | true ↦ (tt, all)
      | false ↦ (all.0, reports_inserted pids q rest all.1)
    ]

pub streams_inserted : (q : Pid) (streams : List Stream) → IsStreams streams
    → lists streams q ≡ false → IsStreams (inserted q streams)
unfolding AreAmong
streams_inserted q streams sound none =
    let all = inserted q streams in
    sound_of all (rising_inserted q streams none sound.draft.rising)
    (reports_inserted (pids_of all) q streams
    (more_reports (pids_of streams) (pids_of all) (λ p there.
    sym (lists_among all p) ∙ still_listed q streams p (lists_among streams p ∙ there)) streams
    (reports_of streams sound)))

-- SOME PROCESSES MORE

or_left : (a b c : Bool) → (a || (b || c)) ≡ (b || (a || c))
or_left true true c = refl
or_left true false c = refl
or_left false b c = refl

module _ (streams : List Stream) (sound : IsStreams streams) where
  pub silent_sound : (others : List Pid) → IsStreams (with_silent streams others)
  silent_sound [] = sound
  silent_sound (q ∷ qs) =
      let all = with_silent streams qs in
      elim (lists all q) as (λ b. lists all q ≡ b → IsStreams (cond b all (inserted q all))) [
        | true ↦ λ _. silent_sound qs
        | false ↦ λ none. streams_inserted q all (silent_sound qs) none
      ] refl

  pub silent_events : (others : List Pid) (p : Pid)
      → events_of (with_silent streams others) p ≡ events_of streams p
  silent_events [] p = refl
  silent_events (q ∷ qs) p =
      let all = with_silent streams qs in
      elim (lists all q) as (λ b. lists all q ≡ b
      → events_of (cond b all (inserted q all)) p ≡ events_of streams p) [
        | true ↦ λ _. silent_events qs p
        | false ↦ λ none. events_inserted q all none p ∙ silent_events qs p
      ] refl

  pub silent_lists : (others : List Pid) (p : Pid)
      → lists (with_silent streams others) p ≡ (lists streams p || is_among others p)
  silent_lists [] p = sym (or_false (lists streams p))
  silent_lists (q ∷ qs) p =
      let all = with_silent streams qs in
      let before = silent_lists qs p in
      let turn = or_left (lists streams p) (pid_eq q p) (is_among qs p) in
      elim (lists all q) as (λ b. lists all q ≡ b → lists (cond b all (inserted q all)) p
      ≡ (lists streams p || (pid_eq q p || is_among qs p))) [
        | true ↦ λ is. elim (pid_eq q p) as (λ b. pid_eq q p ≡ b
            → lists all p ≡ (b || lists all p)) [
              | true ↦ λ same. ap (lists all) (sym (pid_same q p same)) ∙ is
              | false ↦ λ _. refl
            ] refl
            ∙ ap (λ b. pid_eq q p || b) before ∙ sym turn
        | false ↦ λ none. lists_inserted q all p ∙ ap (λ b. pid_eq q p || b) before ∙ sym turn
      ] refl

-- PROCESSES BY RISING PID

pub unlisted_with : (streams : List Stream) → IsStreams streams → (q : Pid) (qs : List Pid)
    → lists streams q ≡ false
    → AllByRecursion (IsBelow q) qs → lists (with_silent streams qs) q ≡ false
unlisted_with streams sound q qs none below =
    silent_lists streams sound qs q ∙ ap (λ b. b || is_among qs q) none
    ∙ is_among-missing qs q (all_apart qs q below)

-- A PID THAT ISN'T LISTED

abbrev numbers : List Stream → ℕ
numbers streams = greatest (map (λ x. x.pid.number) streams)

-- a pid with a number above all that are listed
pub fresh : List Stream → Pid
fresh streams = pid_on 0 (suc (numbers streams))

above_unlisted : (streams : List Stream) (n : ℕ) → numbers streams < n
    → lists streams (pid_on 0 n) ≡ false
above_unlisted [] n above = refl
above_unlisted (x ∷ rest) n above =
    elim (pid_eq x.pid (pid_on 0 n)) as (λ b. pid_eq x.pid (pid_on 0 n) ≡ b
    → is_some (cond b (Some x) (stream_of rest (pid_on 0 n))) ≡ false) [
      | true ↦ λ is.
          let number = ap (λ (p : Pid). p.number) (pid_same x.pid (pid_on 0 n) is) in
          absurd (omega arith)
      | false ↦ λ _. above_unlisted rest n (omega arith)
    ] refl

pub fresh_unlisted : (streams : List Stream) → lists streams (fresh streams) ≡ false
unfolding fresh
fresh_unlisted streams = above_unlisted streams (suc (numbers streams)) (omega arith)

-- HOW MANY EVENTS THERE ARE

total_inserted : (q : Pid) (streams : List Stream)
    → total_of (inserted q streams) ≡ total_of streams
total_inserted q [] = refl
total_inserted q (x ∷ rest) =
    let old = sum_by-cons (λ (y : Stream). length y.events) x rest in
    elim (is_lt (pid_cmp q x.pid)) as (λ b.
    total_of (cond b (silent q ∷ x ∷ rest) (x ∷ inserted q rest)) ≡ total_of (x ∷ rest)) [
      | true ↦ let one = sum_by-cons (λ (y : Stream). length y.events) (silent q)
          (x ∷ rest) in omega arith
      | false ↦
          let one = sum_by-cons (λ (y : Stream). length y.events) x (inserted q rest) in
          omega (arith, total_inserted q rest)
    ]

pub silent_total : (streams : List Stream) (others : List Pid)
    → total_of (with_silent streams others) ≡ total_of streams
silent_total streams [] = refl
silent_total streams (q ∷ qs) =
    let all = with_silent streams qs in
    let rest = silent_total streams qs in
    elim (lists all q) as (λ b. total_of (cond b all (inserted q all)) ≡ total_of streams) [
      | true ↦ rest
      | false ↦ total_inserted q all ∙ rest
    ]
