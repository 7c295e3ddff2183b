-- Bytes have one output of each command at most: they are the text of one bundle, or have one
-- fault, and acts have one verdict and one run.
use Rattle.std.proofs.Common.{◌≡◌, ℕ, ◌+◌, ◌<◌, List, take, Option, Some, None, refl, sym, ap}
use Rattle.std.proofs.Common.{subst, ◌∙◌, inl, inr, arith}
use Rattle.std.specs.Prelude.{IsSome}
use Rattle.std.proofs.lemmas.Bool.{cases_lt}
use Rattle.std.proofs.lemmas.List.{take-take}
use Rattle.st_core.specs.declared.types.Pid.{Pid}
use Rattle.st_core.specs.declared.types.Act.{Act}
use Rattle.st_core.specs.State.{zero_state}
use Rattle.st_core.specs.Step.{Outcome}
use Rattle.st_core.specs.Run.{Stream, pids_of, run}
use Rattle.st_core.specs.Verdict.{Verdict, IsVerdict}
use Rattle.st_core.proofs.ForCallers.{one_verdict, run_from-take}
use Rattle.st_check.specs.Answers.{SticksAt}
use Rattle.st_text.specs.declared.fault.ReadFault.{ReadFault}
use Rattle.st_text.specs.Text.{Contents}
use Rattle.st_text.specs.declared.limits.Limits.{Limits}
use Rattle.st_text.specs.Fault.{fault_within}
use Rattle.st_text.proofs.ForCallers.{text_one, text_sound}
use Rattle.st_commands.specs.Output.{judged, refused}
use Rattle.st_commands.specs.Checked.{top, Spells, IsJudged, IsChecked}
use Rattle.st_commands.specs.Checked as checked
use Rattle.st_commands.specs.Replayed.{HasRun, HasStuck, IsReplayed, replayed, stuck}
use Rattle.st_commands.specs.Replayed as replays
use Rattle.st_commands.specs.Laws.{HasOneOutput}

-- ---- the text

abbrev pub whole : List Stream → Option (List Act) → Contents
whole streams acts = record { streams = streams; acts = acts }

-- the streams and acts of two bundles are equal, as they are if the same bytes spell both
record Same (ss ts : List Stream) (xs ys : List Act) : Type 0 where
  streams : ss ≡ ts
  acts : xs ≡ ys

same_acts : (limits : Limits) (bytes : List ℕ) (ss ts : List Stream) (xs ys : List Act)
    → Spells limits bytes ss (Some xs) → Spells limits bytes ts (Some ys) → Same ss ts xs ys
same_acts limits bytes ss ts xs ys s t =
    let same : whole ss (Some xs) ≡ whole ts (Some ys) =
    text_one bytes (whole ss (Some xs)) (whole ts (Some ys)) s.text t.text in
    let given = ap (λ (c : Contents). c.acts) same in
    record { streams = ap (λ (c : Contents). c.streams) same; acts = cc given }

acts_apart : (limits : Limits) (bytes : List ℕ) (ss ts : List Stream) (acts : List Act)
    → Spells limits bytes ss (Some acts) → Spells limits bytes ts None → (X : Type 0) → X
acts_apart limits bytes ss ts acts s t X =
    let same = ap (λ (c : Contents). c.acts) (text_one bytes (whole ss (Some acts))
    (whole ts None) s.text t.text) in
    absurd (cc same)

pub fault_apart : (limits : Limits) (bytes : List ℕ) (streams : List Stream)
    (acts : Option (List Act)) (f : ReadFault)
    → Spells limits bytes streams acts → fault_within limits bytes ≡ Some f → (X : Type 0) → X
fault_apart limits bytes streams acts f s is X =
    let none = text_sound limits bytes (whole streams acts)
    (record { text = s.text; within = s.within }) in
    absurd (cc)

pub one_fault : (limits : Limits) (bytes : List ℕ) (f g : ReadFault)
    → fault_within limits bytes ≡ Some f → fault_within limits bytes ≡ Some g → f ≡ g
one_fault limits bytes f g p q = cc

-- ---- check

one_judgement : (limits : Limits) (bytes : List ℕ) (v w : Verdict) → IsJudged limits bytes v
    → IsJudged limits bytes w → v ≡ w
one_judgement limits bytes v w j k =
    let same = same_acts limits bytes j.streams k.streams j.acts k.acts j.spelled k.spelled in
    let other : IsVerdict top k.streams j.acts w =
    subst (λ (x : List Act). IsVerdict top k.streams x w) (sym same.acts) k.verdict in
    one_verdict top j.streams j.acts v w j.verdict
    (subst (λ (x : List Stream). IsVerdict top x j.acts w) (sym same.streams) other)

pub one_check : (limits : Limits) → HasOneOutput (IsChecked limits)
one_check limits bytes one other (checked.Judged x v j) (checked.Judged y w k) =
    ap judged (one_judgement limits x v w j k)
one_check limits bytes one other (checked.Judged x v j) (checked.Lacking y n) =
    acts_apart limits x j.streams n.streams j.acts j.spelled n.spelled _
one_check limits bytes one other (checked.Judged x v j) (checked.Faulty y f is) =
    fault_apart limits x j.streams (Some j.acts) f j.spelled is _
one_check limits bytes one other (checked.Lacking x n) (checked.Judged y v j) =
    acts_apart limits x j.streams n.streams j.acts j.spelled n.spelled _
one_check limits bytes one other (checked.Lacking x n) (checked.Lacking y m) = refl
one_check limits bytes one other (checked.Lacking x n) (checked.Faulty y f is) =
    fault_apart limits x n.streams None f n.spelled is _
one_check limits bytes one other (checked.Faulty x f is) (checked.Judged y v j) =
    fault_apart limits x j.streams (Some j.acts) f j.spelled is _
one_check limits bytes one other (checked.Faulty x f is) (checked.Lacking y n) =
    fault_apart limits x n.streams None f n.spelled is _
one_check limits bytes one other (checked.Faulty x f is) (checked.Faulty y g also) =
    ap refused (one_fault limits x f g is also)

-- ---- replay

-- no act of a run is stuck
runs_on : (ps : List Pid) (xs : List Act) (os : List Outcome) (n : ℕ) → run top ps xs ≡ Some os
    → SticksAt top ps xs n → (X : Type 0) → X
runs_on ps xs os n is s X =
    let some = run_from-take top (n + 1) (zero_state ps) xs os is in
    let none = s.none in absurd (cc)

sticks_before : (ps : List Pid) (xs : List Act) (m n : ℕ) → SticksAt top ps xs m
    → SticksAt top ps xs n → m < n → (X : Type 0) → X
sticks_before ps xs m n s t lt X = by (run top ps (take n xs)) refl t.before
  where
    by : (o : Option (List Outcome)) → run top ps (take n xs) ≡ o → IsSome o → X
    by None e is = absurd (cc)
    by (Some os) e is =
        let some = run_from-take top (m + 1) (zero_state ps) (take n xs) os e in
        let shorter = take-take (m + 1) n xs (omega arith) in
        let known : run top ps (take (m + 1) xs) ≡ Some (take (m + 1) os) =
        ap (λ (x : List Act). run top ps x) (sym shorter)
        ∙ some in
        let none = s.none in
        absurd (cc)

one_place : (ps : List Pid) (xs : List Act) (m n : ℕ) → SticksAt top ps xs m → SticksAt top ps xs n
    → m ≡ n
one_place ps xs m n s t = elim (cases_lt m n) [
  | inl lt ↦ sticks_before ps xs m n s t lt _
  | inr ge ↦ elim (cases_lt n m)
      [ inl gt ↦ sticks_before ps xs n m t s gt _ | inr le ↦ omega arith ]
]

one_outcome : (ps : List Pid) (xs : List Act) (os us : List Outcome) → run top ps xs ≡ Some os
    → run top ps xs ≡ Some us → os ≡ us
one_outcome ps xs os us p q = cc

-- the run over the pids that bytes list is one over the pids of the streams that the bytes spell
run_on : (limits : Limits) (bytes : List ℕ) (streams : List Stream) (xs : List Act) (ps : List Pid)
    (ys : List Act) (os : List Outcome)
    → Spells limits bytes streams (Some xs) → HasRun limits bytes ps ys os
    → run top (pids_of streams) xs ≡ Some os
run_on limits bytes streams xs ps ys os s h =
    let same = same_acts limits bytes streams h.streams xs ys s h.spelled in
    ap (λ (z : List Stream). run top (pids_of z) xs) same.streams
    ∙ ap (run top (pids_of h.streams)) same.acts
    ∙ ap (λ (z : List Pid). run top z ys) (sym h.listed) ∙ h.runs

run_apart : (limits : Limits) (bytes : List ℕ) (ps : List Pid) (xs : List Act) (os : List Outcome)
    (n : ℕ) → HasRun limits bytes ps xs os → HasStuck limits bytes n → (X : Type 0) → X
run_apart limits bytes ps xs os n h k X =
    runs_on (pids_of k.streams) k.acts os n
    (run_on limits bytes k.streams k.acts ps xs os k.spelled h) k.sticks X

one_run : (limits : Limits) (bytes : List ℕ) (ps qs : List Pid) (xs ys : List Act)
    (os us : List Outcome) → HasRun limits bytes ps xs os
    → HasRun limits bytes qs ys us → replayed ps xs os ≡ replayed qs ys us
one_run limits bytes ps qs xs ys os us h k =
    let same = same_acts limits bytes h.streams k.streams xs ys h.spelled k.spelled in
    let outcomes : os ≡ us =
    one_outcome (pids_of h.streams) xs os us (run_on limits bytes h.streams xs ps xs os h.spelled h)
    (run_on limits bytes h.streams xs qs ys us h.spelled k) in
    let pids : ps ≡ qs = h.listed ∙ ap pids_of same.streams ∙ sym k.listed in
    ap (λ (p : List Pid). replayed p xs os) pids
    ∙ ap (λ (a : List Act). replayed qs a os) same.acts
    ∙ ap (replayed qs ys) outcomes

one_stop : (limits : Limits) (bytes : List ℕ) (m n : ℕ) → HasStuck limits bytes m
    → HasStuck limits bytes n → m ≡ n
one_stop limits bytes m n h k =
    let same = same_acts limits bytes h.streams k.streams h.acts k.acts h.spelled k.spelled in
    let other : SticksAt top (pids_of k.streams) h.acts n =
    subst (λ (a : List Act). SticksAt top (pids_of k.streams) a n) (sym same.acts) k.sticks in
    one_place (pids_of h.streams) h.acts m n h.sticks
    (subst (λ (s : List Stream). SticksAt top (pids_of s) h.acts n) (sym same.streams) other)

pub one_replay : (limits : Limits) → HasOneOutput (IsReplayed limits)
one_replay limits bytes one other (replays.Ran x ps xs os h) (replays.Ran y qs ys us k) =
    one_run limits x ps qs xs ys os us h k
one_replay limits bytes one other (replays.Ran x ps xs os h) (replays.Stuck y n k) =
    run_apart limits x ps xs os n h k _
one_replay limits bytes one other (replays.Ran x ps xs os h) (replays.Lacking y n) =
    acts_apart limits x h.streams n.streams xs h.spelled n.spelled _
one_replay limits bytes one other (replays.Ran x ps xs os h) (replays.Faulty y f bad) =
    fault_apart limits x h.streams (Some xs) f h.spelled bad _
one_replay limits bytes one other (replays.Stuck x n h) (replays.Ran y qs ys os k) =
    run_apart limits x qs ys os n k h _
one_replay limits bytes one other (replays.Stuck x n h) (replays.Stuck y m k) =
    ap stuck (one_stop limits x n m h k)
one_replay limits bytes one other (replays.Stuck x n h) (replays.Lacking y m) =
    acts_apart limits x h.streams m.streams h.acts h.spelled m.spelled _
one_replay limits bytes one other (replays.Stuck x n h) (replays.Faulty y f bad) =
    fault_apart limits x h.streams (Some h.acts) f h.spelled bad _
one_replay limits bytes one other (replays.Lacking x n) (replays.Ran y qs ys os k) =
    acts_apart limits x k.streams n.streams ys k.spelled n.spelled _
one_replay limits bytes one other (replays.Lacking x n) (replays.Stuck y m k) =
    acts_apart limits x k.streams n.streams k.acts k.spelled n.spelled _
one_replay limits bytes one other (replays.Lacking x n) (replays.Lacking y m) = refl
one_replay limits bytes one other (replays.Lacking x n) (replays.Faulty y f bad) =
    fault_apart limits x n.streams None f n.spelled bad _
one_replay limits bytes one other (replays.Faulty x f bad) (replays.Ran y qs ys os k) =
    fault_apart limits x k.streams (Some ys) f k.spelled bad _
one_replay limits bytes one other (replays.Faulty x f bad) (replays.Stuck y m k) =
    fault_apart limits x k.streams (Some k.acts) f k.spelled bad _
one_replay limits bytes one other (replays.Faulty x f bad) (replays.Lacking y n) =
    fault_apart limits x n.streams None f n.spelled bad _
one_replay limits bytes one other (replays.Faulty x f bad) (replays.Faulty y g also) =
    ap refused (one_fault limits x f g bad also)
