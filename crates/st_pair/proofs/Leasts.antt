-- A rule's first fault is at the least place, since streams are in the order of their pids.
use Rattle.std.proofs.Common.{◌≡◌, ℕ, ◌+◌, ◌<◌, zero, suc, Bool, true, false, cond, List, [], ◌∷◌}
use Rattle.std.proofs.Common.{Some, None, slice_get, inl, inr, refl, sym, ◌∙◌, ap, subst, arith}
use Rattle.std.specs.List.{AllByRecursion}
use Rattle.std.proofs.lemmas.Option.{same_Some, none-some}
use Rattle.st_core.specs.declared.types.Pid.{Pid}
use Rattle.st_core.specs.declared.types.Event.{Event}
use Rattle.st_core.specs.Pid.{pid_eq, IsBelow, IsRising}
use Rattle.st_core.specs.Run.{Stream, pids_of}
use Rattle.st_core.specs.Streams.{stream_of}
use Rattle.st_core.proofs.ForCallers.{pid_eq-true, pid_eq-same, IsBelow-apart, IsBelow-trans}
use Rattle.st_core.proofs.ForCallers.{not_below_itself}
use Rattle.st_pair.specs.Laws.{IsEarlier, IsLeast}
use Rattle.st_pair.specs.Places.{event_at, first_from, first, or_else}
use Rattle.st_pair.proofs.AcceptedEvents.{Rule, from_none}
use Rattle.st_pair.proofs.Firsts.{events_in}

-- IN ONE STREAM

record IsLeastFrom {X : Type 0} (rule : Rule X) (p : Pid) (k : ℕ) (es : List Event) (x : X) : Type 0
  where
    index : ℕ
    event : Event
    at : slice_get es index ≡ Some event
    gives : rule p (k + index) event ≡ Some x
    least : (j : ℕ) (f : Event) → j < index → slice_get es j ≡ Some f → rule p (k + j) f ≡ None

least_more : {X : Type 0} (rule : Rule X) (p : Pid) (k : ℕ) (e : Event) (es : List Event) (n : ℕ)
    → rule p k e ≡ None
    → ((j : ℕ) (f : Event) → j < n → slice_get es j ≡ Some f → rule p (k + 1 + j) f ≡ None)
    → (j : ℕ) (f : Event) → j < suc n → slice_get (e ∷ es) j ≡ Some f → rule p (k + j) f ≡ None
least_more {X} rule p k e es n here rest zero f less at =
    let number : k + 0 ≡ k = omega arith in
    ap (λ m. rule p m f) number ∙ ap (rule p k) (sym (same_Some e f at)) ∙ here
least_more {X} rule p k e es n here rest (suc j) f less at =
    let number : k + suc j ≡ k + 1 + j = omega arith in
    ap (λ m. rule p m f) number ∙ rest j f (omega arith) at

least_from : {X : Type 0} (rule : Rule X) (p : Pid) (k : ℕ) (es : List Event) (x : X)
    → first_from rule p k es ≡ Some x
    → IsLeastFrom rule p k es x
least_from {X} rule p k [] x h = absurd (none-some x h)
least_from {X} rule p k (e ∷ es) x h = elim (rule p k e) as (λ given. rule p k e ≡ given
    → or_else given (first_from rule p (k + 1) es) ≡ Some x → IsLeastFrom rule p k (e ∷ es) x) [
      | None ↦ λ is h.
          let rest = least_from rule p (k + 1) es x h in
          let number : k + 1 + rest.index ≡ k + suc rest.index = omega arith in
          record {
            index = suc rest.index;
            event = rest.event;
            at = rest.at;
            gives = ap (λ n. rule p n rest.event) (sym number) ∙ rest.gives;
            least = least_more rule p k e es rest.index is rest.least;
          }
      | Some y ↦ λ is h.
          let number : k + 0 ≡ k = omega arith in
          record {
            index = 0;
            event = e;
            at = refl;
            gives = ap (λ n. rule p n e) number ∙ is ∙ h;
            least = λ j f less at. absurd (omega arith);
          }
    ] refl h

-- IN ALL

-- a process with an event is above each pid that is below all pids of the streams
listed_above : (streams : List Stream) (p q : Pid) (j : ℕ) (f : Event)
    → AllByRecursion (IsBelow p) (pids_of streams)
    → event_at streams q j ≡ Some f → IsBelow p q
listed_above [] p q j f all at = absurd (none-some f at)
listed_above (s ∷ streams) p q j f all at = elim (pid_eq s.pid q) as (λ b. pid_eq s.pid q ≡ b
    → slice_get (events_in (cond b (Some s) (stream_of streams q))) j ≡ Some f → IsBelow p q) [
      | true ↦ λ same at. subst (IsBelow p) (pid_eq-true s.pid q same) all.0
      | false ↦ λ other at. listed_above streams p q j f all.1 at
    ] refl at

not_earlier : (p q : Pid) (i j : ℕ) → IsBelow p q → IsEarlier q j p i → ⊥
not_earlier p q i j above (inl below) = not_below_itself p (IsBelow-trans p q p above below)
not_earlier p q i j above (inr same) = not_below_itself p (subst (IsBelow p) same.0 above)

within_one : (p : Pid) (i j : ℕ) → IsEarlier p j p i → j < i
within_one p i j (inl below) = absurd (not_below_itself p below)
within_one p i j (inr same) = same.1

module _ {X : Type 0} (rule : Rule X) where
  least_here : (s : Stream) (streams : List Stream) (x : X) → IsRising (pids_of (s ∷ streams))
      → first_from rule s.pid 0 s.events ≡ Some x → IsLeast rule (s ∷ streams) x
  least_here s streams x rising h =
      let here = least_from rule s.pid 0 s.events x h in
      let number : 0 + here.index ≡ here.index = omega arith in
      record {
        pid = s.pid;
        index = here.index;
        event = here.event;
        at = ap (λ (b : Bool). slice_get (events_in (cond b (Some s) (stream_of streams s.pid)))
            here.index)
            (pid_eq-same s.pid) ∙ here.at;
        gives = ap (λ n. rule s.pid n here.event) (sym number) ∙ here.gives;
        least = λ q j f at earlier. elim (pid_eq s.pid q) as (λ b. pid_eq s.pid q ≡ b
            → slice_get (events_in (cond b (Some s) (stream_of streams q))) j ≡ Some f
            → rule q j f ≡ None) [
              | true ↦ λ same at.
                  let is = pid_eq-true s.pid q same in
                  let less = within_one s.pid here.index j
                  (subst (λ (p : Pid). IsEarlier p j s.pid here.index) (sym is) earlier) in
                  let place : 0 + j ≡ j = omega arith in
                  ap (λ (p : Pid). rule p j f) (sym is) ∙ ap (λ n. rule s.pid n f) (sym place)
                  ∙ here.least j f less at
              | false ↦ λ other at. absurd (not_earlier s.pid q here.index j
                  (listed_above streams s.pid q j f rising.0 at) earlier)
            ] refl at;
      }

  least_after : (s : Stream) (streams : List Stream) (x : X) → IsRising (pids_of (s ∷ streams))
      → first_from rule s.pid 0 s.events ≡ None → IsLeast rule streams x
      → IsLeast rule (s ∷ streams) x
  least_after s streams x rising none rest =
      let apart = IsBelow-apart s.pid rest.pid
      (listed_above streams s.pid rest.pid rest.index rest.event rising.0 rest.at) in
      record {
        pid = rest.pid;
        index = rest.index;
        event = rest.event;
        at = ap (λ (b : Bool). slice_get (events_in (cond b (Some s) (stream_of streams rest.pid)))
            rest.index) apart
            ∙ rest.at;
        gives = rest.gives;
        least = λ q j f at earlier. elim (pid_eq s.pid q) as (λ b. pid_eq s.pid q ≡ b
            → slice_get (events_in (cond b (Some s) (stream_of streams q))) j ≡ Some f
            → rule q j f ≡ None) [
              | true ↦ λ same at.
                  let place : 0 + j ≡ j = omega arith in
                  ap (λ (p : Pid). rule p j f) (sym (pid_eq-true s.pid q same))
                  ∙ ap (λ n. rule s.pid n f) (sym place)
                  ∙ from_none rule s.pid 0 s.events none j f at
              | false ↦ λ other at. rest.least q j f at earlier
            ] refl at;
      }

  pub first_least : (streams : List Stream) (x : X) → IsRising (pids_of streams)
      → first rule streams ≡ Some x
      → IsLeast rule streams x
  first_least [] x rising h = absurd (none-some x h)
  first_least (s ∷ streams) x rising h = elim (first_from rule s.pid 0 s.events)
      as (λ given. first_from rule s.pid 0 s.events ≡ given
      → or_else given (first rule streams) ≡ Some x
      → IsLeast rule (s ∷ streams) x) [
        | None ↦ λ none h. least_after s streams x rising none (first_least streams x rising.1 h)
        | Some y ↦ λ is h. least_here s streams x rising (is ∙ h)
      ] refl h
