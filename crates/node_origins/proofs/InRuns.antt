-- In a run each event has an origin, and the law of origins says that the events allow it.
use Rattle.std.proofs.Common.{◌≡◌, ℕ, ◌+◌, ◌<◌, Bool, true, false, List, [], ◌∷◌, ◌++◌, length}
use Rattle.std.proofs.Common.{Some, Option, None, option_map, option_to_list, get_or, refl, arith}
use Rattle.std.proofs.Common.{sym, ◌∙◌, ap, subst, cond}
use Rattle.std.specs.List.{slice_get}
use Rattle.std.proofs.lemmas.Bool.{false≢true}
use Rattle.std.proofs.lemmas.List.{length-append}
use Rattle.st_core.specs.declared.types.Kind.{Kind}
use Rattle.st_core.specs.declared.types.Kind.TheVariants as kind
use Rattle.st_core.specs.declared.types.Pid.{Pid}
use Rattle.st_core.specs.Event.{kind_eq}
use Rattle.st_core.specs.Pid.{pid_eq}
use Rattle.st_core.specs.State.{State, zero_state}
use Rattle.st_core.specs.Step.{Outcome}
use Rattle.node_machine.specs.declared.types.Seen.{Seen}
use Rattle.node_machine.specs.Node.{node_actor, NodeAct, seen_by, seen_stream}
use Rattle.node_machine.specs.Premises.{told_by}
use Rattle.node_machine.specs.Readings.{is_receipt}
use Rattle.node_machine.specs.Origins.{Can, Held, held_in, Home, OriginsAre, origins_told}
use Rattle.node_machine.specs.Origins.{TokenOrigin}
use Rattle.node_machine.proofs.ForCallers.{origins_can}
use Rattle.node_origins.specs.Runs.{HaveOrigins}
use Rattle.std.proofs.lemmas.Option.{slice_get-get_or as at_get_or}

-- as many origins are told as events
told_once : (b : Bool) (h : TokenOrigin) (o : Option Seen)
    → length (cond b (option_to_list (option_map (λ _. h) o)) [])
    ≡ length (cond b (option_to_list o) [])
told_once true h None = refl
told_once true h (Some e) = refl
told_once false h o = refl

told_all : (p : Pid) (front : List Seen) (held : List Held) (before : TokenOrigin) (s : State)
    (acts : List NodeAct) (os : List Outcome) (hs : List TokenOrigin)
    → OriginsAre p front held before s acts os hs
    → length (origins_told acts os hs p) ≡ length (seen_stream acts os p)
told_all p front held before s [] os hs are = refl
told_all p front held before s (a ∷ acts) [] hs are = refl
told_all p front held before s (a ∷ acts) (o ∷ os) [] are = absurd are
told_all p front held before s (a ∷ acts) (o ∷ os) (h ∷ hs) are =
    let rest = told_all p (front ++ told_by p a o) (held ++ held_in s p before) h o.after acts os hs
    are.2 in
    let now = told_once (pid_eq (node_actor a) p) h (seen_by a o) in
    length-append (cond (pid_eq (node_actor a) p)
    (option_to_list (option_map (λ _. h) (seen_by a o))) []) (origins_told acts os hs p)
    ∙ (let told : length (cond (pid_eq (node_actor a) p)
    (option_to_list (option_map (λ _. h) (seen_by a o))) []) + length (origins_told acts os hs p)
    ≡ length (cond (pid_eq (node_actor a) p) (option_to_list (seen_by a o)) [])
    + length (seen_stream acts os p) = omega arith in told)
    ∙ sym (length-append (cond (pid_eq (node_actor a) p) (option_to_list (seen_by a o)) [])
    (seen_stream acts os p))

module _ (p : Pid) (es : List Seen) (pids : List Pid) (acts : List NodeAct) (os : List Outcome)
    (hs : List TokenOrigin) (run : HaveOrigins p es pids acts os hs) (i : ℕ) (e : Seen)
    (at : slice_get es i ≡ Some e) (stamp : is_receipt e ≡ false) (within : i < length es) where
  -- the origin of the stamp is told, and the events allow it
  pub origin_in_run : (h : TokenOrigin) × (slice_get (origins_told acts os hs p) i ≡ Some h)
      × Can es i h
  origin_in_run =
      let shown = run.events.shown in
      let long = told_all p [] [] Home (zero_state pids) acts os hs run.origins
      ∙ ap length shown in
      let h = get_or (origins_told acts os hs p) i Home in
      let told = at_get_or (origins_told acts os hs p) i Home (omega arith) in (
        h,
        told,
        subst (λ xs. Can xs i h) shown
            (origins_can pids acts os run.events.runs run.events.no_reset p run.events.reports hs
            run.origins run.answers i e h (ap (λ xs. slice_get xs i) shown ∙ at)
            (λ same. false≢true (sym stamp ∙ ap (λ (k : Kind). kind_eq k kind.Receive) same))
            told),
      )
