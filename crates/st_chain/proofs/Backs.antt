-- One event more, and one process more, extend the backs.
use Rattle.std.proofs.Common.{◌≡◌, ℕ, ◌+◌, zero, suc, List, [], ◌∷◌, ◌++◌, map, drop, get_or}
use Rattle.std.proofs.Common.{Option, None, Some, slice_get, option_and_then, sym, ◌∙◌, ap, arith}
use Rattle.std.proofs.Common.{append_assoc, Bool, true, cond}
use Rattle.std.proofs.lemmas.Option.{same_Some}
use Rattle.st_core.specs.declared.types.Pid.{Pid}
use Rattle.st_core.specs.declared.types.Event.{Event}
use Rattle.st_core.specs.Pid.{IsRising}
use Rattle.st_core.specs.Run.{Stream, pids_of}
use Rattle.st_core.specs.Streams.{events_of}
use Rattle.st_pair.specs.Places.{is_stamp}
use Rattle.st_pair.proofs.ForCallers.{process_read}
use Rattle.st_chain.specs.Causes.{received_before, back_of, backs_from}

backs_at : (all : List Event) (i k : ℕ) (es : List Event) (e : Event) → slice_get es k ≡ Some e
    → backs_from all i (drop k es) ≡ back_of all i e ∷ backs_from all (i + 1) (drop (suc k) es)
backs_at all i k [] e at = absurd (cc)
backs_at all i zero (f ∷ es) e at =
    ap (λ (x : Event). back_of all i x ∷ backs_from all (i + 1) es) (same_Some f e at)
backs_at all i (suc k) (f ∷ es) e at = backs_at all i k es e at

pub backs_passed : (es : List Event) (i : ℕ) (e : Event) (before total : List (Option ℕ))
    (x : Option ℕ)
    → slice_get es i ≡ Some e → x ≡ back_of es i e
    → before ++ backs_from es i (drop i es) ≡ total
    → (before ++ x ∷ []) ++ backs_from es (i + 1) (drop (i + 1) es) ≡ total
backs_passed es i e before total x at is far =
    let next : i + 1 ≡ suc i = omega arith in
    append_assoc before (x ∷ []) (backs_from es (i + 1) (drop (i + 1) es))
    ∙ ap (λ (y : Option ℕ). before ++ y ∷ backs_from es (i + 1) (drop (i + 1) es)) is
    ∙ ap (λ (n : ℕ). before ++ back_of es i e ∷ backs_from es (i + 1) (drop n es)) next
    ∙ ap (λ (l : List (Option ℕ)). before ++ l) (sym (backs_at es i i es e at)) ∙ far

abbrev pub all_backs : List Stream → List (List (Option ℕ))
all_backs streams = map (λ s. backs_from s.events 0 s.events) streams

-- WHAT IS READ

read_from : (all : List Event) (j i : ℕ) (es : List Event) (e : Event) → slice_get es i ≡ Some e
    → slice_get (backs_from all j es) i ≡ Some (back_of all (j + i) e)
read_from all j i [] e at = absurd (cc)
read_from all j zero (f ∷ es) e at = let n : j ≡ j + 0 = omega arith in
    ap (λ (x : Event). Some (back_of all j x)) (same_Some f e at)
    ∙ ap (λ (m : ℕ). Some (back_of all m e)) n
read_from all j (suc i) (f ∷ es) e at = let n : j + 1 + i ≡ j + suc i = omega arith in
    read_from all (j + 1) i es e at ∙ ap (λ (m : ℕ). Some (back_of all m e)) n

pub back_read : (streams : List Stream) (p : Pid) (k i : ℕ) (backs : List (List (Option ℕ)))
    (read : List (Option ℕ))
    (e : Event) → IsRising (pids_of streams) → backs ≡ all_backs streams
    → slice_get (pids_of streams) k ≡ Some p
    → read ≡ get_or backs k read → slice_get (events_of streams p) i ≡ Some e → is_stamp e ≡ true
    → option_and_then (λ (x : Option ℕ). x) (slice_get read i)
    ≡ received_before (events_of streams p) e.serial.prev i
back_read streams p k i backs read e rising kept at is there stamps =
    let whole = process_read (λ es. backs_from es 0 es) streams p k backs read rising kept at is in
    let n : 0 + i ≡ i = omega arith in
    ap (λ (l : List (Option ℕ)). option_and_then (λ (x : Option ℕ). x) (slice_get l i)) whole
    ∙ ap (λ (o : Option (Option ℕ)). option_and_then (λ (x : Option ℕ). x) o)
    (read_from (events_of streams p) 0 i (events_of streams p) e there)
    ∙ ap (λ (m : ℕ). back_of (events_of streams p) m e) n
    ∙ ap (λ (b : Bool). cond b (received_before (events_of streams p) e.serial.prev i) None) stamps
