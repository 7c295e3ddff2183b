-- A stream is the reports of its process's acts in their order, so each of its events is the
-- report of one act, each report is an event, and an earlier event comes from an earlier act.
use Rattle.std.proofs.Common.{◌≡◌, ℕ, ◌+◌, ◌<◌, ◌≤◌, ◌⊎◌, zero, suc, Bool, true, false, List, []}
use Rattle.std.proofs.Common.{◌∷◌, ◌++◌, length, take, drop, Option, Some, None, option_to_list}
use Rattle.std.proofs.Common.{inl, inr, refl, sym, ◌∙◌, ap, arith, length-append, if◌then◌else◌}
use Rattle.std.specs.List.{slice_get}
use Rattle.std.proofs.lemmas.Bool.{cases_lt}
use Rattle.std.proofs.lemmas.List.{take-take}
use Rattle.std.proofs.lemmas.Option.{same_Some, none-some}
use Rattle.st_core.specs.declared.types.Pid.{Pid}
use Rattle.st_core.specs.declared.types.Event.{Event}
use Rattle.st_core.specs.declared.types.Act.{Act}
use Rattle.st_core.specs.Pid.{pid_eq}
use Rattle.st_core.specs.Step.{Outcome, actor}
use Rattle.st_core.specs.Run.{stream}
use Rattle.st_core.specs.Laws.{Reports, ReportsEvent}
use Rattle.st_core.proofs.Pids.{pid_eq-true, pid_eq-same}
use Rattle.st_core.proofs.Runs.{stream-take}

-- the events that an act adds to p's stream
abbrev pub told : Pid → Act → Outcome → List Event
told p a o = if pid_eq (actor a) p then option_to_list o.report else []

-- event i of a stream is the first act's report, or comes after that report
pub front : (mine : Bool) (report : Option Event) (rest : List Event) (i : ℕ) (e : Event)
    → (let here : List Event = if mine then option_to_list report else [] in
    slice_get (here ++ rest) i ≡ Some e
    → ((i ≡ 0) × (mine ≡ true) × (report ≡ Some e))
    ⊎ ((j : ℕ) × (length here + j ≡ i) × (slice_get rest j ≡ Some e)))
front false report rest i e h = inr (i, omega arith, h)
front true None rest i e h = inr (i, omega arith, h)
front true (Some x) rest zero e h = inl (refl, refl, h)
front true (Some x) rest (suc i) e h = inr (i, omega arith, h)

pub event_reported : (acts : List Act) (os : List Outcome) (p : Pid) (i : ℕ) (e : Event)
    → slice_get (stream acts os p) i ≡ Some e → (n : ℕ) × ReportsEvent acts os p i e n
event_reported (a ∷ acts) (o ∷ os) p i e h =
    elim (front (pid_eq (actor a) p) o.report (stream acts os p) i e h) [
      | inl now ↦ (
        0,
        record {
          reports = record {
            act = a;
            at = refl;
            own = pid_eq-true (actor a) p now.1;
            report =
                now.2;
          };
          before = sym now.0;
        },
      )
      | inr rest ↦
          let later = event_reported acts os p rest.0 e rest.2 in
          let n = later.0 in
          let r = later.1.reports in
          let before = later.1.before in
          let sum = rest.1 in
          let both = length-append (told p a o) (stream (take n acts) (take n os) p) in (
            suc n,
            record {
              reports = record { act = r.act; at = r.at; own = r.own; report = r.report };
              before = omega arith;
            },
          )
    ]
event_reported acts os p i e h = absurd (none-some e h)

count_rises : (acts : List Act) (os : List Outcome) (p : Pid) (m n : ℕ) → m ≤ n
    → length (stream (take m acts) (take m os) p) ≤ length (stream (take n acts) (take n os) p)
count_rises acts os p m n le =
    let front = stream (take m (take n acts)) (take m (take n os)) p in
    let back = stream (drop m (take n acts)) (drop m (take n os)) p in
    let whole = ap length (stream-take m (take n acts) (take n os) p) ∙ length-append front back in
    let same : front ≡ stream (take m acts) (take m os) p =
    ap (λ xs. stream xs (take m (take n os)) p) (take-take m n acts le)
    ∙ ap (λ ys. stream (take m acts) ys p)
    (take-take m n os le) in
    let even = ap length same in
    omega arith

-- an earlier event comes from an earlier act
pub reported_in_order : (acts : List Act) (os : List Outcome) (p : Pid) (i j m n : ℕ) (d e : Event)
    → ReportsEvent acts os p i d m → ReportsEvent acts os p j e n → i < j → m < n
reported_in_order acts os p i j m n d e first second less = elim (cases_lt m n) [
  | inl before ↦ before
  | inr after ↦
      let rise = count_rises acts os p n m after in
      let here = first.before in
      let there = second.before in
      absurd (omega arith)
]

-- an index past xs in xs ++ ys is an index in ys
behind : {A : Type 0} (xs ys : List A) (i j : ℕ) → length xs + j ≡ i
    → slice_get (xs ++ ys) i ≡ slice_get ys j
behind [] ys i j e = let same : i ≡ j = omega arith in ap (slice_get ys) same
behind (x ∷ xs) ys zero j e = absurd (omega arith)
behind (x ∷ xs) ys (suc i) j e = behind xs ys i j (omega arith)

-- each report is in its process's stream, after the reports of earlier acts
pub report_told : (acts : List Act) (os : List Outcome) (p : Pid) (n : ℕ) (e : Event)
    → Reports acts os p n e
    → slice_get (stream acts os p) (length (stream (take n acts) (take n os) p)) ≡ Some e
report_told [] os p n e r = absurd (none-some r.act r.at)
report_told (a ∷ acts) [] p n e r = absurd (none-some e r.report)
report_told (a ∷ acts) (o ∷ os) p zero e r =
    let tail = stream acts os p in
    let mine : pid_eq (actor a) p ≡ true =
    ap (λ q. pid_eq q p) (ap actor (same_Some a r.act r.at) ∙ r.own) ∙ pid_eq-same p in
    let here = λ (b : Bool) (x : Option Event).
    slice_get ((if b then option_to_list x else []) ++ tail) 0 in
    ap (λ b. here b o.report) mine ∙ ap (here true) r.report
report_told (a ∷ acts) (o ∷ os) p (suc n) e r =
    let rest = stream (take n acts) (take n os) p in
    let later = report_told acts os p n e
    (record { act = r.act; at = r.at; own = r.own; report = r.report }) in
    behind (told p a o) (stream acts os p) (length (told p a o ++ rest)) (length rest)
    (sym (length-append (told p a o) rest)) ∙ later
