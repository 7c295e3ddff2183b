-- The walk adds each event's entry at its index.
use Rattle.std.proofs.Common.{◌≡◌, ◌↔◌, ℕ, ◌<◌, ◌≤◌, true, false, List, Some, length, get_or, refl}
use Rattle.std.proofs.Common.{arith, sym, ◌∙◌, ap}
use Rattle.std.specs.List.{slice_get}
use Rattle.std.proofs.lemmas.Option.{same_Some, slice_get_within as at_below}
use Rattle.std.proofs.lemmas.Option.{slice_get-get_or as at_get_or}
use Rattle.st_core.specs.declared.types.Pid.{Pid}
use Rattle.st_core.specs.Step.{Outcome}
use Rattle.node_machine.specs.declared.types.Seen.{Seen}
use Rattle.node_machine.specs.Node.{NodeAct}
use Rattle.node_machine.specs.Readings.{is_receipt}
use Rattle.node_machine.specs.Origins.{Can, origins_told, TokenOrigin}
use Rattle.node_origins.specs.declared.origin.EventOrigins.{EventOrigins}
use Rattle.node_origins.specs.declared.origin.EventOrigins.TheVariants as origins
use Rattle.node_origins.specs.declared.origin.StampOrigin.{StampOrigin}
use Rattle.node_origins.specs.Runs.{HaveOrigins}
use Rattle.node_origins.specs.Summary.{HasBothOrigins, HasNoOrigin, HasOneOrigin, IsEntry}
use Rattle.node_origins.specs.Summary.{origin_of}
use Rattle.node_origins.proofs.Entries.{entry_one, entry_receive, entry_several, entry_unknown}
use Rattle.node_origins.proofs.Entries.{one_parts, unknown_parts}
use Rattle.node_origins.proofs.InRuns.{origin_in_run}
use Rattle.node_given.proofs.ForCallers.{blank}

as_entry : (found : List EventOrigins) (i : ℕ) (o p : EventOrigins) → slice_get found i ≡ Some o
    → (slice_get found i ≡ Some p → o ≡ p) × (o ≡ p → slice_get found i ≡ Some p)
as_entry found i o p at = (λ is. same_Some o p (sym at ∙ is), λ same. at ∙ ap Some same)

module _ (es : List Seen) (found : List EventOrigins) (n : ℕ) (count : length found ≡ n)
    (done : length es ≤ n) (within : n ≤ length es)
    (entries : (k : ℕ) (e : Seen) (o : EventOrigins) → slice_get es k ≡ Some e
    → slice_get found k ≡ Some o → IsEntry es k e o) where
  record IsAt (i : ℕ) (e : Seen) : Type 0 where
    entry : EventOrigins
    at : slice_get found i ≡ Some entry
    is : IsEntry es i e entry

  at_event : (i : ℕ) (e : Seen) → slice_get es i ≡ Some e → IsAt i e
  at_event i e at =
      let below = at_below es i e at in
      let there = at_get_or found i origins.Receive (omega arith) in
      record {
        entry = get_or found i origins.Receive;
        at = there;
        is = entries i e (get_or found i origins.Receive) at there;
      }

  pub receive_at : (i : ℕ) (e : Seen) → slice_get es i ≡ Some e
      → (slice_get found i ≡ Some origins.Receive) ↔ (is_receipt e ≡ true)
  receive_at i e at =
      let here = at_event i e at in
      let same = as_entry found i here.entry origins.Receive here.at in
      let both = entry_receive es i e here.entry here.is in
      (λ is. both.0 (same.0 is), λ kind. same.1 (both.1 kind))

  pub unknown_at : (i : ℕ) (e : Seen) → slice_get es i ≡ Some e → is_receipt e ≡ false
      → (slice_get found i ≡ Some origins.Unknown) ↔ HasNoOrigin (Can es i)
  unknown_at i e at stamp =
      let here = at_event i e at in
      let same = as_entry found i here.entry origins.Unknown here.at in
      let both = entry_unknown es i e stamp here.entry here.is in
      (λ is. both.0 (same.0 is), λ none. same.1 (both.1 none))

  pub one_at : (i : ℕ) (e : Seen) → slice_get es i ≡ Some e → is_receipt e ≡ false
      → (h : StampOrigin)
      → (slice_get found i ≡ Some (origins.One h)) ↔ HasOneOrigin (Can es i) h
  one_at i e at stamp h =
      let here = at_event i e at in
      let same = as_entry found i here.entry (origins.One h) here.at in
      let both = entry_one es i e stamp here.entry here.is h in
      (λ is. both.0 (same.0 is), λ one. same.1 (both.1 one))

  -- the event at the entry's index
  record IsFor (i : ℕ) (o : EventOrigins) : Type 0 where
    event : Seen
    at : slice_get es i ≡ Some event
    below : i < length es
    is : IsEntry es i event o

  event_of : (i : ℕ) (o : EventOrigins) → slice_get found i ≡ Some o → IsFor i o
  event_of i o is =
      let below = at_below found i o is in
      let less : i < length es = omega arith in
      let at = at_get_or es i blank less in
      record {
        event = get_or es i blank;
        at = at;
        below = less;
        is = entries i (get_or es i blank) o at is;
      }

  pub several_at : (i : ℕ) (a b : StampOrigin) → slice_get found i ≡ Some (origins.Several a b)
      → HasBothOrigins (Can es i) a b
  several_at i a b is =
      let here = event_of i (origins.Several a b) is in
      entry_several es i here.event (origins.Several a b) here.is a b refl

  module _ (p : Pid) (pids : List Pid) (acts : List NodeAct) (os : List Outcome)
      (hs : List TokenOrigin) (run : HaveOrigins p es pids acts os hs) where
    pub certain_at : (i : ℕ) (h : StampOrigin) → slice_get found i ≡ Some (origins.One h)
        → slice_get (origins_told acts os hs p) i ≡ Some (origin_of h)
    certain_at i h is =
        let here = event_of i (origins.One h) is in
        let parts = one_parts es i here.event h here.is in
        let told = origin_in_run p es pids acts os hs run i here.event here.at parts.0 here.below in
        told.1 ∙ ap Some (parts.1.1 told.0 told.2)

    pub impossible_at : (i : ℕ) → slice_get found i ≡ Some origins.Unknown → ⊥
    impossible_at i is =
        let here = event_of i origins.Unknown is in
        let parts = unknown_parts es i here.event here.is in
        let told = origin_in_run p es pids acts os hs run i here.event here.at parts.0 here.below in
        parts.1 told.0 told.2
