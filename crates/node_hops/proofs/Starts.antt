-- The row of an event begins where the row of the event before it begins, if that event is in it,
-- else at the event itself. So one pass over the events finds where all rows begin.
use Rattle.std.proofs.Common.{◌≡◌, ◌≢◌, ℕ, ◌+◌, ◌-◌, ◌≤◌, ◌==◌, zero, suc, Bool, true, false, cond}
use Rattle.std.proofs.Common.{List, [], ◌∷◌, ◌++◌, length, drop, Option, Some, None, slice_get}
use Rattle.std.proofs.Common.{refl, sym, ◌∙◌, ap, subst, arith, append_assoc}
use Rattle.std.specs.Prelude.{not}
use Rattle.std.proofs.lemmas.Bool.{and_parts, eqb-true}
use Rattle.std.proofs.lemmas.Option.{same_Some, none-some, slice_get_within}
use Rattle.std.specs.List.{AllByRecursion}
use Rattle.std.specs.Option.{unwrap_or}
use Rattle.st_core.specs.declared.types.Pid.{Pid}
use Rattle.st_core.specs.declared.types.Event.{Event}
use Rattle.st_core.specs.Pid.{pid_eq}
use Rattle.st_core.specs.Run.{Stream, pids_of}
use Rattle.st_pair.specs.Places.{event_at}
use Rattle.node_hops.specs.Events.{is_in_row, is_take, row_first}
use Rattle.node_hops.proofs.RowLemmas.{row_start_within}
use Rattle.node_hops.specs.Kept.{row_firsts, row_firsts_from}
use Rattle.st_pair.proofs.ForCallers.{missing_events}

start_at : (prev : ℕ) (es : List Event) (i : ℕ) (e : Event) → slice_get es i ≡ Some e
    → row_first prev es (suc i) ≡ cond (is_in_row prev e) (row_first prev es i) (suc i)
start_at prev es i e at =
    ap (λ (o : Option Event). elim o as (λ _. ℕ) [
      | None ↦ suc i
      | Some x ↦ cond (is_in_row prev x) (row_first prev es i) (suc i)
    ]) at

-- the row begins with the one before, or at the event
start_behind : (es : List Event) (k : ℕ) (d e : Event) (before : ℕ) (b : Bool)
    → slice_get es k ≡ Some d
    → before ≡ row_first d.serial.prev es k → is_in_row e.serial.prev d ≡ b
    → cond b before (suc k) ≡ row_first e.serial.prev es (suc k)
start_behind es k d e before true at is row =
    let same = eqb-true d.serial.prev e.serial.prev
    (and_parts (not (is_take d)) (d.serial.prev == e.serial.prev) row).1 in
    is ∙ ap (λ p. row_first p es k) same
    ∙ ap (λ b. cond b (row_first e.serial.prev es k) (suc k)) (sym row)
    ∙ sym (start_at e.serial.prev es k d at)
start_behind es k d e before false at is row =
    ap (λ b. cond b (row_first e.serial.prev es k) (suc k)) (sym row)
    ∙ sym (start_at e.serial.prev es k d at)

pub next_start : (es : List Event) (index : ℕ) (d e x : Event) (before : ℕ) (b : Bool) → index ≢ 0
    → slice_get es (index - 1) ≡ Some d → before ≡ row_first d.serial.prev es (index - 1)
    → slice_get es index ≡ Some x → b ≡ is_in_row x.serial.prev d → slice_get es index ≡ Some e
    → cond b before index ≡ row_first e.serial.prev es index
next_start es zero d e x before b some at is there row here = absurd (some refl)
next_start es (suc k) d e x before b some at is there row here =
    let number : suc k - 1 ≡ k = omega arith in
    let same : x ≡ e = same_Some x e (sym there ∙ here) in
    start_behind es k d e before b (ap (slice_get es) (sym number) ∙ at)
    (is ∙ ap (row_first d.serial.prev es) number)
    (ap (λ (y : Event). is_in_row y.serial.prev d) (sym same) ∙ sym row)

-- ALL ROWS OF A PROCESS

starts_at : (es : List Event) (k i : ℕ) (rest : List Event) (e : Event) → slice_get rest i ≡ Some e
    → row_firsts_from es (k + i) (drop i rest) ≡ row_first e.serial.prev es (k + i)
    ∷ row_firsts_from es (k + i + 1) (drop (suc i) rest)
starts_at es k i [] e at = absurd (none-some e at)
starts_at es k zero (x ∷ rest) e at =
    ap (λ (y : Event). row_first y.serial.prev es (k + 0) ∷ row_firsts_from es (k + 0 + 1) rest)
    (same_Some x e at)
starts_at es k (suc i) (x ∷ rest) e at =
    let number : k + suc i ≡ suc k + i = omega arith in
    subst (λ n. row_firsts_from es n (drop i rest) ≡ row_first e.serial.prev es n
    ∷ row_firsts_from es (n + 1) (drop (suc i) rest)) (sym number)
    (starts_at es (suc k) i rest e at)

pub starts_passed : (es : List Event) (k : ℕ) (e : Event) (start : ℕ) (before total : List ℕ)
    → slice_get es k ≡ Some e → start ≡ row_first e.serial.prev es k
    → before ++ row_firsts_from es k (drop k es) ≡ total
    → (before ++ start ∷ []) ++ row_firsts_from es (k + 1) (drop (k + 1) es) ≡ total
starts_passed es k e start before total at is far =
    let next : k + 1 ≡ suc k = omega arith in
    let zeroed : 0 + k ≡ k = omega arith in
    append_assoc before (start ∷ []) (row_firsts_from es (k + 1) (drop (k + 1) es))
    ∙ ap (λ (n : ℕ). before ++ start ∷ row_firsts_from es (k + 1) (drop n es)) next
    ∙ ap (λ (m : ℕ). before ++ m ∷ row_firsts_from es (k + 1) (drop (suc k) es)) is
    ∙ ap (λ (l : List ℕ). before ++ l)
    (sym (subst (λ n. row_firsts_from es n (drop k es) ≡ row_first e.serial.prev es n
    ∷ row_firsts_from es (n + 1) (drop (suc k) es)) zeroed (starts_at es 0 k es e at)))
    ∙ far

-- WHAT IS READ

starts_is : (es : List Event) (k i : ℕ) (rest : List Event) (e : Event) → slice_get rest i ≡ Some e
    → slice_get (row_firsts_from es k rest) i ≡ Some (row_first e.serial.prev es (k + i))
starts_is es k i [] e at = absurd (none-some e at)
starts_is es k zero (x ∷ rest) e at =
    let number : k ≡ k + 0 = omega arith in
    ap (λ (y : Event). Some (row_first y.serial.prev es k)) (same_Some x e at)
    ∙ ap (λ n. Some (row_first e.serial.prev es n)) number
starts_is es k (suc i) (x ∷ rest) e at =
    let number : k + 1 + i ≡ k + suc i = omega arith in
    starts_is es (k + 1) i rest e at ∙ ap (λ n. Some (row_first e.serial.prev es n)) number

-- the table has, at an event's index, where its row begins
pub start_kept : (es : List Event) (i : ℕ) (e : Event) (starts : List ℕ) → starts ≡ row_firsts es
    → slice_get es i ≡ Some e → slice_get starts i ≡ Some (row_first e.serial.prev es i)
start_kept es i e starts are at =
    let number : 0 + i ≡ i = omega arith in
    ap (λ l. slice_get l i) are ∙ starts_is es 0 i es e at
    ∙ ap (λ n. Some (row_first e.serial.prev es n)) number

-- reading the table finds where the event's row begins
pub start_read : (es : List Event) (i : ℕ) (e : Event) (starts : List ℕ) → starts ≡ row_firsts es
    → slice_get es i ≡ Some e → unwrap_or (slice_get starts i) 0 ≡ row_first e.serial.prev es i
start_read es i e starts are at = ap (λ o. unwrap_or o 0) (start_kept es i e starts are at)

pub start_within : (es : List Event) (i : ℕ) (e : Event) (start : ℕ) → slice_get es i ≡ Some e
    → start ≡ row_first e.serial.prev es i → start ≤ length es
start_within es i e start at is =
    let low = row_start_within e.serial.prev es i in
    let high = slice_get_within es i e at in
    omega arith

pub unlisted_event : (streams : List Stream) (p : Pid) (i : ℕ) (e : Event)
    → AllByRecursion (λ (q : Pid). pid_eq q p ≡ false) (pids_of streams)
    → event_at streams p i ≡ Some e → ⊥
unlisted_event streams p i e all at =
    none-some e (sym (ap (λ es. slice_get es i) (missing_events streams p all)) ∙ at)
