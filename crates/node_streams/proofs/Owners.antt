-- A stream has only events of its own process, so an event tells who reports its message.
use Rattle.std.proofs.Common.{◌≡◌, ℕ, zero, suc, true, false, cond, List, [], ◌∷◌, Option, Some}
use Rattle.std.proofs.Common.{None, is_some, refl, ap, subst}
use Rattle.std.specs.Prelude.{is_none}
use Rattle.std.specs.List.{AllByRecursion, find, slice_get}
use Rattle.std.specs.Option.{option_map_or, unwrap_or}
use Rattle.std.proofs.lemmas.Bool.{and_parts, false≢true}
use Rattle.std.proofs.lemmas.Option.{same_Some}
use Rattle.st_core.specs.declared.types.Pid.{Pid}
use Rattle.st_core.specs.declared.types.Kind.{Kind}
use Rattle.st_core.specs.declared.types.Kind.TheVariants as kind
use Rattle.st_core.specs.declared.types.Event.{Event}
use Rattle.st_core.specs.Pid.{pid_eq}
use Rattle.st_core.specs.Event.{kind_eq}
use Rattle.st_core.specs.Run.{Stream}
use Rattle.st_core.specs.Streams.{AreOwn, events_of, is_of, is_own}
use Rattle.st_core.proofs.ForCallers.{pid_eq-true}
use Rattle.node_streams.specs.Messages.{content_of, owner}

pub own_events : (streams : List Stream) (p : Pid) → AreOwn streams
    → AllByRecursion (λ e. is_own p e ≡ true) (events_of streams p)
own_events [] p own = tt
own_events (x ∷ streams) p own = (elim (pid_eq x.pid p) as (λ b. pid_eq x.pid p ≡ b
    → AllByRecursion (λ e. is_own p e ≡ true)
    (elim (cond b (Some x)
    (find (λ s. pid_eq s.pid p) streams)) [ None ↦ [] | Some s ↦ s.events ])) [
      | true ↦ λ same. subst (λ q. AllByRecursion (λ e. is_own q e ≡ true) x.events)
          (pid_eq-true x.pid p same) own.0
      | false ↦ λ _. own_events streams p own.1
    ]) refl

own_among : (p : Pid) (es : List Event) (i : ℕ) (e : Event) → AllByRecursion
    (λ d. is_own p d ≡ true) es
    → slice_get es i ≡ Some e → is_own p e ≡ true
own_among p [] i e own at = absurd (cc)
own_among p (d ∷ es) zero e own at = subst (λ x. is_own p x ≡ true) (same_Some d e at) own.0
own_among p (d ∷ es) (suc i) e own at = own_among p es i e own.1 at

pub own_event : (streams : List Stream) (p : Pid) (i : ℕ) (e : Event) → AreOwn streams
    → slice_get (events_of streams p) i ≡ Some e → is_own p e ≡ true
own_event streams p i e own at = own_among p (events_of streams p) i e (own_events streams p own) at

receiver_is : (p : Pid) (to : Option Pid) → option_map_or (λ q. pid_eq q p) to false ≡ true → to
    ≡ Some p
receiver_is p None is = absurd (false≢true is)
receiver_is p (Some q) is = ap (λ r. Some r) (pid_eq-true q p is)

pub receive_to : (p : Pid) (e : Event) → is_own p e ≡ true → kind_eq e.kind kind.Receive ≡ true
    → e.to ≡ Some p
receive_to p e own is = (elim e.kind as (λ k. is_of k e.from e.to p ≡ true
    → kind_eq k kind.Receive ≡ true → e.to ≡ Some p) [
      | kind.Send ↦ λ _ other. absurd (false≢true other)
      | kind.Print ↦ λ _ other. absurd (false≢true other)
      | kind.Receive ↦ λ mine _. receiver_is p e.to mine
    ]) own is

pub send_from : (p : Pid) (e : Event) → is_own p e ≡ true → kind_eq e.kind kind.Send ≡ true
    → pid_eq e.from p ≡ true
send_from p e own is = (elim e.kind as (λ k. is_of k e.from e.to p ≡ true
    → kind_eq k kind.Send ≡ true → pid_eq e.from p ≡ true) [
      | kind.Send ↦ λ mine _. (and_parts (pid_eq e.from p) (is_some e.to) mine).0
      | kind.Print ↦ λ _ other. absurd (false≢true other)
      | kind.Receive ↦ λ _ other. absurd (false≢true other)
    ]) own is

-- the owner of the message of an event of p is p
pub owner_is : (p : Pid) (e : Event) → is_own p e ≡ true → owner e.kind (content_of e) ≡ p
owner_is p e own = (elim e.kind as (λ k. is_of k e.from e.to p ≡ true
    → owner k (content_of e) ≡ p) [
      | kind.Send ↦ λ mine.
          pid_eq-true e.from p (and_parts (pid_eq e.from p) (is_some e.to) mine).0
      | kind.Print ↦ λ mine.
          pid_eq-true e.from p (and_parts (pid_eq e.from p) (is_none e.to) mine).0
      | kind.Receive ↦ λ mine. ap (λ o. unwrap_or o e.from) (receiver_is p e.to mine)
    ]) own

pub kind_same : (j k : Kind) → kind_eq j k ≡ true → j ≡ k
kind_same kind.Send kind.Send is = refl
kind_same kind.Receive kind.Receive is = refl
kind_same kind.Print kind.Print is = refl
kind_same j k is = absurd (false≢true is)
