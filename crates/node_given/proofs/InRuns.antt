-- The laws of the node hold of each way, since it says how the events give the stamp.
use Rattle.std.proofs.Common.{◌≡◌, ℕ, ◌≤◌, true, false, List, [], arith, length, take, Some, sym}
use Rattle.std.proofs.Common.{◌∙◌, ap, subst}
use Rattle.std.specs.List.{slice_get}
use Rattle.std.proofs.lemmas.Bool.{false≢true}
use Rattle.st_core.specs.declared.types.Pid.{Pid}
use Rattle.st_core.specs.declared.types.Kind.{Kind}
use Rattle.st_core.specs.declared.types.Kind.TheVariants as kind
use Rattle.st_core.specs.Event.{kind_eq}
use Rattle.st_core.specs.State.{zero_state}
use Rattle.st_core.specs.Step.{Outcome}
use Rattle.node_machine.specs.declared.types.Seen.{Seen}
use Rattle.node_machine.specs.Given.{IsGiven, IsMet}
use Rattle.node_machine.specs.Node.{NodeAct}
use Rattle.node_machine.specs.Premises.{places, put_backs, PutsBackOwn}
use Rattle.node_machine.specs.Readings.{is_receipt, NeedsAtLeast, NeedsPutBack}
use Rattle.node_machine.proofs.ForCallers.{needs_met, needs_put_back, stamps_given}
use Rattle.node_given.specs.declared.way.Way.{Way}
use Rattle.node_given.specs.declared.way.Way.TheVariants as way
use Rattle.node_given.specs.Runs.{AreEventsOf}
use Rattle.node_given.specs.Walk.{IsWay, names_put_back}
use Rattle.std.proofs.lemmas.Option.{slice_get_within as at_below, slice_get-get_or as at_get_or}

module _ (p : Pid) (es : List Seen) (pids : List Pid) (acts : List NodeAct) (os : List Outcome)
    (run : AreEventsOf p es pids acts os) where
  pub least_in_run : (n : ℕ) → NeedsAtLeast es n → n ≤ put_backs p acts
  least_in_run n needs =
      needs_put_back pids acts os run.runs run.no_reset p run.reports n
      (subst (λ xs. NeedsAtLeast xs n) (sym run.shown) needs)

  place_of : (i : ℕ) (e : Seen) → slice_get es i ≡ Some e → is_receipt e ≡ false
      → NeedsPutBack (take i es) e
      → IsMet (places p [] acts os) (take i es)
  place_of i e at stamp needs =
      subst (λ xs. IsMet (places p [] acts os) (take i xs)) run.shown
      (needs_met pids acts os run.runs run.no_reset p run.reports i e
      (ap (λ xs. slice_get xs i) run.shown ∙ at)
      (λ same. false≢true (sym stamp ∙ ap (λ (k : Kind). kind_eq k kind.Receive) same))
      (subst (λ xs. NeedsPutBack (take i xs) e) (sym run.shown) needs))

  ungiven_at : (i : ℕ) (e : Seen) → slice_get es i ≡ Some e → IsWay (take i es) e way.Ungiven
      → PutsBackOwn p [] (zero_state pids) acts os → ⊥
  ungiven_at i e at is own =
      let given = stamps_given pids acts os run.runs run.no_reset p run.reports own i e
      (ap (λ xs. slice_get xs i) run.shown ∙ at)
      (λ same. false≢true (sym is.0 ∙ ap (λ (k : Kind). kind_eq k kind.Receive) same)) in
      is.1 (subst (λ xs. IsGiven (take i xs) e) run.shown given)

  place_at : (i : ℕ) (e : Seen) (w : Way) → slice_get es i ≡ Some e → IsWay (take i es) e w
      → names_put_back w ≡ true
      → IsMet (places p [] acts os) (take i es)
  place_at i e (way.PutBack token) at is named = place_of i e at is.0 is.1
  place_at i e (way.Lowered token) at is named = place_of i e at is.0 is.1
  place_at i e way.Receive at is named = absurd (false≢true named)
  place_at i e way.Plain at is named = absurd (false≢true named)
  place_at i e way.Ungiven at is named = absurd (false≢true named)

  pub places_in_run : (ws : List Way) (blank : Seen) → length ws ≤ length es
      → ((i : ℕ) (e : Seen) (w : Way) → slice_get es i ≡ Some e → slice_get ws i ≡ Some w
      → IsWay (take i es) e w)
      → (i : ℕ) (w : Way) → slice_get ws i ≡ Some w → names_put_back w ≡ true
      → IsMet (places p [] acts os) (take i es)
  places_in_run ws blank most ways i w at named =
      let below = at_below ws i w at in
      let at_event = at_get_or es i blank (omega arith) in
      place_at i _ w at_event (ways i _ w at_event at) named

  pub ungiven_in_run : (ws : List Way) (blank : Seen) → length es ≤ length ws
      → length ws ≤ length es
      → ((i : ℕ) (e : Seen) (w : Way) → slice_get es i ≡ Some e → slice_get ws i ≡ Some w
      → IsWay (take i es) e w)
      → (i : ℕ) → slice_get ws i ≡ Some way.Ungiven
      → PutsBackOwn p [] (zero_state pids) acts os → ⊥
  ungiven_in_run ws blank least most ways i at own =
      let below = at_below ws i way.Ungiven at in
      let at_event = at_get_or es i blank (omega arith) in
      ungiven_at i _ at_event (ways i _ way.Ungiven at_event at) own
