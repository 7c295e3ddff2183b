-- Reports are added to streams one after the other.
use Rattle.std.proofs.Common.{◌≡◌, ℕ, zero, suc, ◌+◌, ◌<◌, true, false, cond, if◌then◌else◌, List}
use Rattle.std.proofs.Common.{[], ◌∷◌, ◌++◌, length, get_or, take, Option, Some, None, is_some}
use Rattle.std.proofs.Common.{refl, sym, ◌∙◌, ap, subst, arith}
use Rattle.std.specs.Prelude.{option_to_list}
use Rattle.std.specs.Option.{ForSome}
use Rattle.std.specs.List.{AllByRecursion}
use Rattle.std.proofs.lemmas.List.{take_more, append-nil}
use Rattle.std.proofs.lemmas.Option.{none-some, same_Some}
use Rattle.st_core.specs.declared.types.Pid.{Pid}
use Rattle.st_core.specs.declared.types.Event.{Event}
use Rattle.st_core.specs.Pid.{pid_eq, IsBelow, IsRising}
use Rattle.st_core.specs.Step.{actor}
use Rattle.st_core.specs.Run.{Stream, pids_of}
use Rattle.st_core.specs.Streams.{stream_of, lists, with_event, added, with_report, is_own}
use Rattle.st_core.specs.Streams.{ComesLast, AreOwn}
use Rattle.st_core.proofs.ForCallers.{pid_eq-same, IsBelow-apart, with_event_pid}
use Rattle.st_log.specs.declared.entry.Entry.{Entry}
use Rattle.st_runtime.specs.Joined.{reports_of, streams_of}
use Rattle.st_runtime.specs.Joining.{report_at}
use Rattle.st_runtime.specs.Pcb.{Control}

abbrev pub of : Pid → List Event → Stream
of p es = record { pid = p; events = es }

added_last : (xs : List Stream) (p : Pid) (es : List Event) (e : Event) → ComesLast xs p
    → added (xs ++ of p es ∷ []) p e ≡ xs ++ of p (es ++ e ∷ []) ∷ []
added_last [] p es e last = rw (pid_eq-same p) refl
added_last (x ∷ xs) p es e last =
    let same : with_event p e x ≡ x = rw (IsBelow-apart x.pid p last.0) refl in
    let rest = added_last xs p es e last.1 in
    λ i. same i ∷ rest i

pub lists_last : (xs : List Stream) (p : Pid) (es : List Event)
    → lists (xs ++ of p es ∷ []) p ≡ true
lists_last [] p es = rw (pid_eq-same p) refl
lists_last (x ∷ xs) p es =
    elim (pid_eq x.pid p) as (λ b. is_some (cond b (Some x) (stream_of (xs ++ of p es ∷ []) p))
    ≡ true)
    [ true ↦ refl | false ↦ lists_last xs p es ]

lists_added : (xs : List Stream) (p : Pid) (e : Event) (q : Pid)
    → lists (added xs p e) q ≡ lists xs q
lists_added [] p e q = refl
lists_added (x ∷ xs) p e q =
    ap (λ r. is_some (cond (pid_eq r q) (Some (with_event p e x)) (stream_of (added xs p e) q)))
    (with_event_pid p e x)
    ∙ elim (pid_eq x.pid q) as (λ b.
    is_some (cond b (Some (with_event p e x)) (stream_of (added xs p e) q)) ≡ is_some
    (cond b (Some x) (stream_of xs q))) [ true ↦ refl | false ↦ lists_added xs p e q ]

pub lists_reported : (xs : List Stream) (p : Pid) (o : Option Event)
    → lists (with_report xs p o) p ≡ lists xs p
lists_reported xs p None = refl
lists_reported xs p (Some e) = lists_added xs p e p

reported_last : (xs : List Stream) (p : Pid) (es : List Event) (o : Option Event) → ComesLast xs p
    → with_report (xs ++ of p es ∷ []) p o ≡ xs ++ of p (es ++ option_to_list o) ∷ []
reported_last xs p es None last = ap (λ r. xs ++ of p r ∷ []) (sym (append-nil es))
reported_last xs p es (Some e) last = added_last xs p es e last

first_report : (p : Pid) (e : Entry)
    → (if pid_eq (actor e.act) p then option_to_list e.report else [])
    ≡ option_to_list (report_at p e)
first_report p e = elim (pid_eq (actor e.act) p) as (λ b.
    (if b then option_to_list e.report else []) ≡ option_to_list
    (if b then e.report else None)) [ true ↦ refl | false ↦ refl ]

append_assoc : (xs ys zs : List Event) → (xs ++ ys) ++ zs ≡ xs ++ (ys ++ zs)
append_assoc [] ys zs = refl
append_assoc (x ∷ xs) ys zs = ap (λ r. x ∷ r) (append_assoc xs ys zs)

reports_push : (p : Pid) (es : List Entry) (e : Entry) → reports_of p
    (es ++ e ∷ []) ≡ reports_of p es ++ option_to_list (report_at p e)
reports_push p [] e = append-nil _ ∙ first_report p e
reports_push p (x ∷ es) e =
    let first = if pid_eq (actor x.act) p then option_to_list x.report else [] in
    ap (λ r. first ++ r) (reports_push p es e)
    ∙ sym (append_assoc first (reports_of p es) (option_to_list (report_at p e)))

-- one more entry
pub filled_more : (xs : List Stream) (p : Pid) (log : List Entry) (i : ℕ) (e : Entry)
    (draft draft2 : List Stream)
    → i < length log → e ≡ get_or log i e → ComesLast xs p
    → draft ≡ xs ++ of p (reports_of p (take i log)) ∷ []
    → draft2 ≡ with_report draft p (report_at p e)
    → draft2 ≡ xs ++ of p (reports_of p (take (i + 1) log)) ∷ []
filled_more xs p log i e draft draft2 within at last is more =
    let taken : take (i + 1) log ≡ take i log ++ e ∷ [] = take_more log i e within
    ∙ ap (λ x. take i log ++ x ∷ []) (sym at) in
    more ∙ ap (λ d. with_report d p (report_at p e)) is
    ∙ reported_last xs p (reports_of p (take i log))
    (report_at p e) last
    ∙ ap (λ r. xs ++ of p r ∷ []) (sym (ap (reports_of p) taken ∙ reports_push p (take i log) e))

own_split : (p : Pid) (o : Option Event) (rest : List Event)
    → AllByRecursion (λ e. is_own p e ≡ true)
    (option_to_list o ++ rest) → ForSome o (λ e. is_own p e ≡ true)
    × AllByRecursion (λ e. is_own p e ≡ true) rest
own_split p None rest all = (λ e h. absurd (none-some e h), all)
own_split p (Some x) rest all =
    (λ e h. subst (λ y. is_own p y ≡ true) (same_Some x e h) all.0, all.1)

-- each report of an entry is its process's own
pub own_at : (p : Pid) (log : List Entry) (i : ℕ) (e : Entry) → i < length log → e ≡ get_or log i e
    → AllByRecursion (λ r. is_own p r ≡ true) (reports_of p log)
    → ForSome (report_at p e) (λ r. is_own p r ≡ true)
own_at p [] i e within at all = absurd (omega arith)
own_at p (x ∷ log) zero e within at all =
    subst (λ y. ForSome (report_at p y) (λ r. is_own p r ≡ true)) (sym at)
    (own_split p (report_at p x) (reports_of p log)
    (subst (λ xs. AllByRecursion (λ r. is_own p r ≡ true) (xs ++ reports_of p log))
    (first_report p x) all)).0
own_at p (x ∷ log) (suc i) e within at all = own_at p log i e (omega arith) at
    (own_split p (report_at p x) (reports_of p log)
    (subst (λ xs. AllByRecursion (λ r. is_own p r ≡ true) (xs ++ reports_of p log))
    (first_report p x) all)).1

below_at : (q : Pid) (ps : List Control) (i : ℕ) (p : Control) → i < length ps → p ≡ get_or ps i p
    → AllByRecursion (IsBelow q) (pids_of (streams_of ps)) → IsBelow q p.process.pid
below_at q [] i p within at all = absurd (omega arith)
below_at q (x ∷ ps) zero p within at all =
    subst (λ (y : Control). IsBelow q y.process.pid) (sym at) all.0
below_at q (x ∷ ps) (suc i) p within at all = below_at q ps i p (omega arith) at all.1

-- a process's pid comes after those of the streams before it
pub last_at : (ps : List Control) (i : ℕ) (p : Control) → i < length ps → p ≡ get_or ps i p
    → IsRising (pids_of (streams_of ps)) → ComesLast (streams_of (take i ps)) p.process.pid
last_at [] i p within at rising = absurd (omega arith)
last_at (x ∷ ps) zero p within at rising = tt
last_at (x ∷ ps) (suc i) p within at rising = (
  below_at x.process.pid ps i p (omega arith) at rising.0,
  last_at ps i p (omega arith) at rising.1,
)

-- its reports are its own
pub reports_own : (ps : List Control) (i : ℕ) (p : Control) → i < length ps → p ≡ get_or ps i p
    → AreOwn (streams_of ps)
    → AllByRecursion (λ e. is_own p.process.pid e ≡ true) (reports_of p.process.pid p.log)
reports_own [] i p within at own = absurd (omega arith)
reports_own (x ∷ ps) zero p within at own =
    subst (λ (y : Control). AllByRecursion (λ e. is_own y.process.pid e ≡ true)
    (reports_of y.process.pid y.log))
    (sym at) own.0
reports_own (x ∷ ps) (suc i) p within at own = reports_own ps i p (omega arith) at own.1
