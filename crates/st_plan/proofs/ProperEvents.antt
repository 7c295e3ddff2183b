-- Each event of streams is its process's own and names listed processes, so its kind says which of
-- its pids is the process's.
use Rattle.std.proofs.Common.{◌≡◌, ℕ, true, false, cond, List, [], ◌∷◌, Option, Some, None, is_some}
use Rattle.std.proofs.Common.{refl, sym, ◌∙◌, ap, subst}
use Rattle.std.specs.List.{slice_get}
use Rattle.std.specs.Option.{option_map_or}
use Rattle.std.specs.Prelude.{MatchOption}
use Rattle.std.proofs.lemmas.Bool.{false≢true, and_parts}
use Rattle.std.proofs.lemmas.Option.{none-some}
use Rattle.st_core.specs.declared.types.Pid.{Pid}
use Rattle.st_core.specs.declared.types.Kind.{Kind}
use Rattle.st_core.specs.declared.types.Kind.TheVariants as kind
use Rattle.st_core.specs.declared.types.Event.{Event}
use Rattle.st_core.specs.Pid.{pid_eq}
use Rattle.st_core.specs.Run.{Stream}
use Rattle.st_core.specs.Streams.{stream_of, lists, is_of, is_own, AreOwn, IsStreams}
use Rattle.st_core.specs.Laws.{AreAllListed, IsLeastUnlisted}
use Rattle.st_core.proofs.ForCallers.{pid_same, all_at, unlisted_is_least}
use Rattle.st_pair.specs.Places.{event_at}

-- what streams say of each event of p: it is p's own, and names listed processes
pub data IsProper (streams : List Stream) (p : Pid) (e : Event) : Type 0 where
  Sent : (to : Pid) → e.kind ≡ kind.Send → e.from ≡ p → e.to ≡ Some to → lists streams to ≡ true
      → IsProper streams p e
  Got : e.kind ≡ kind.Receive → e.to ≡ Some p → lists streams e.from ≡ true → IsProper streams p e
  Printed : e.kind ≡ kind.Print → e.from ≡ p → e.to ≡ None → IsProper streams p e

-- each event is its process's own and names listed processes
pub record AreProper (streams : List Stream) : Type 0 where
  pub own : (p : Pid) (i : ℕ) (e : Event) → event_at streams p i ≡ Some e → IsProper streams p e
  pub listed : (p : Pid) (i : ℕ) (e : Event) → event_at streams p i ≡ Some e
      → lists streams p ≡ true

own_at : (streams : List Stream) (p : Pid) (i : ℕ) (e : Event) → AreOwn streams
    → event_at streams p i ≡ Some e → is_own p e ≡ true
own_at [] p i e own at = absurd (none-some e at)
own_at (x ∷ streams) p i e own at =
    elim (pid_eq x.pid p) as (λ b. pid_eq x.pid p ≡ b → slice_get
    (elim (cond b (Some x) (stream_of streams p)) [ None ↦ [] | Some y ↦ y.events ]) i ≡ Some e
    → is_own p e ≡ true) [
      | true ↦ λ same at. ap (λ q. is_own q e) (sym (pid_same x.pid p same))
          ∙ all_at (λ d. is_own x.pid d ≡ true) x.events i e own.0 at
      | false ↦ λ other at. own_at streams p i e own.1 at
    ] refl at

listed_at : (streams : List Stream) (p : Pid) (i : ℕ) (e : Event) → event_at streams p i ≡ Some e
    → lists streams p ≡ true
listed_at streams p i e at =
    elim (stream_of streams p) as (λ o. slice_get (elim o [ None ↦ [] | Some y ↦ y.events ]) i
    ≡ Some e → is_some o ≡ true) [ None ↦ λ at. absurd (none-some e at) | Some y ↦ λ at. refl ] at

-- the pids that events of streams name are listed
pub named : (streams : List Stream) → IsStreams streams → AreAllListed streams
named streams s =
    subst (λ (o : Option (Pid × ℕ)). MatchOption o (AreAllListed streams)
    (λ x. IsLeastUnlisted streams x.0 x.1))
    s.listed (unlisted_is_least streams s.draft.rising)

proper_by : (streams : List Stream) (p : Pid) (e : Event) (k : Kind) (to : Option Pid) → e.kind ≡ k
    → e.to ≡ to → is_of k e.from to p ≡ true → lists streams e.from ≡ true
    → option_map_or (lists streams) to true ≡ true → IsProper streams p e
proper_by streams p e kind.Send (Some q) kd is own from there =
    Sent q kd (pid_same e.from p (and_parts (pid_eq e.from p) true own).0) is there
proper_by streams p e kind.Send None kd is own from there = absurd
    (false≢true (and_parts (pid_eq e.from p) false own).1)
proper_by streams p e kind.Receive (Some q) kd is own from there =
    Got kd (is ∙ ap (λ (x : Pid). Some x) (pid_same q p own)) from
proper_by streams p e kind.Receive None kd is own from there = absurd (false≢true own)
proper_by streams p e kind.Print (Some q) kd is own from there =
    absurd (false≢true (and_parts (pid_eq e.from p) false own).1)
proper_by streams p e kind.Print None kd is own from there =
    Printed kd (pid_same e.from p (and_parts (pid_eq e.from p) true own).0) is

pub are_proper : (streams : List Stream) → IsStreams streams → AreProper streams
are_proper streams s = record {
  own = λ p i e at.
      let names = and_parts (lists streams e.from) (option_map_or (lists streams) e.to true)
      (named streams s p i e at) in
      proper_by streams p e e.kind e.to refl refl (own_at streams p i e s.draft.own at) names.0
      names.1;
  listed = λ p i e at. listed_at streams p i e at;
}
