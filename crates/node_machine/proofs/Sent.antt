-- Only a send puts a message with a token into a queue: so if each send of a token to a process is
-- reported, the sends of the messages that it takes are among the reported ones.
use Rattle.std.proofs.Common.{◌≡◌, ℕ, ◌≤◌, Bool, true, cond, List, [], ◌∷◌, ◌++◌, Option, Some}
use Rattle.std.proofs.Common.{None, is_some, IsSome, inl, inr, refl, arith, sym, ◌∙◌, ap, subst}
use Rattle.std.proofs.Common.{append_assoc}
use Rattle.std.specs.List.{AllByRecursion, count_by, slice_get}
use Rattle.std.proofs.lemmas.Bool.{and_parts, false≢true}
use Rattle.st_core.specs.declared.types.Pid.{Pid}
use Rattle.st_core.specs.declared.types.Token.{Token}
use Rattle.st_core.specs.declared.types.Message.{Message}
use Rattle.st_core.specs.declared.types.Kind.{Kind}
use Rattle.st_core.specs.declared.types.Kind.TheVariants as kind
use Rattle.st_core.specs.declared.types.Event.{Event}
use Rattle.st_core.specs.declared.types.Act.TheVariants as act
use Rattle.st_core.specs.declared.types.Want.{Want}
use Rattle.st_core.specs.declared.types.Want.TheVariants as want
use Rattle.st_core.specs.Event.{event_eq, kind_eq, to_eq}
use Rattle.st_core.specs.Pick.{pick}
use Rattle.st_core.specs.Pid.{pid_eq}
use Rattle.st_core.specs.Report.{token_event}
use Rattle.st_core.specs.State.{Process, State, process, zero_state}
use Rattle.st_core.specs.Step.{Outcome}
use Rattle.st_core.proofs.ForCallers.{both_true, event_eq-same, event_eq-true, pick_found}
use Rattle.st_core.proofs.ForCallers.{pid_eq-refl, process_pid, to_eq-same}
use Rattle.node_machine.specs.Counts.{node_token}
use Rattle.node_machine.specs.Node.{Answer, Common, machine_act, node_actor, node_found, node_run}
use Rattle.node_machine.specs.Node.{node_run_from, NodeAct}
use Rattle.node_machine.specs.Premises.{IsAmong}
use Rattle.node_machine.specs.ByMessages.{message_of, ReportsSendsTo, send_to, sends_to}
use Rattle.node_machine.specs.ByMessages.{sends_token_to, message_send, TakesOnly}
use Rattle.node_machine.proofs.Lists.{all_change, among_back, among_front}
use Rattle.node_machine.proofs.Queues.{alike_in, bears, count_removed, LastsFit, lasts_fit_then}
use Rattle.node_machine.proofs.Queues.{queue_found, queue_step, zero_alike, zero_lasts_fit}
use Rattle.node_machine.proofs.Steps.{node_run_parts, node_step_parts, NodeStepped}

-- the event d is the send e, or the receive of its message
abbrev like : Event → Event → Bool
like e d = event_eq (record d { kind = kind.Send }) e

-- the send of each message with a token in p's queue is among the sends
abbrev QueueSent : List Event → State → Pid → Type 0
QueueSent sends s p = (e : Event) → 1 ≤ alike_in (like e) s p → IsAmong sends e

send_is : (k : Kind) → kind_eq k kind.Send ≡ true → k ≡ kind.Send
send_is kind.Send is = refl
send_is k is = absurd (false≢true is)

like_same : (e d : Event) → kind_eq d.kind kind.Send ≡ true → like e d ≡ true → d ≡ e
like_same e d send is =
    let as_send : Event = record d { kind = kind.Send } in
    ap (λ (k : Kind). let x : Event = record d { kind = k } in x) (send_is d.kind send)
    ∙ event_eq-true as_send e is

told_send_to : (p : Pid) (sends : List Event) (e : Event) → kind_eq e.kind kind.Send ≡ true
    → e.to ≡ Some p
    → IsAmong (sends ++ send_to p (Some e)) e
told_send_to p sends e send to =
    let is = both_true (kind_eq e.kind kind.Send) (to_eq e.to (Some p)) send
    (ap (λ x. to_eq x (Some p)) to ∙ to_eq-same (Some p)) in
    subst (λ (b : Bool). IsAmong (sends ++ cond b (e ∷ []) []) e) (sym is)
    (among_back sends (e ∷ []) e (inl refl))

module _ (s : State) (a : NodeAct) (o : Outcome) (t : NodeStepped s a o) (fit : LastsFit s)
    (p : Pid) (sends : List Event)
    (tells : (r : Process) → process s (node_actor a) ≡ Some r
    → sends_token_to p r (machine_act a) ≡ true → IsSome o.report) where
  sent_then : QueueSent sends s p → QueueSent (sends ++ send_to p o.report) o.after p
  sent_then all e some =
      elim (queue_step (like e) (λ u to v. refl) s o a t fit p) as
      (λ _. IsAmong (sends ++ send_to p o.report) e) [
        | inl keeps ↦ among_front sends (send_to p o.report) e (all e (omega arith))
        | inr sent ↦
            let is_sent = subst (λ x. sends_token_to p sent.sender x ≡ true) (sym sent.is_act)
            (both_true (pid_eq p p) (is_some sent.sender.local.token) (pid_eq-refl p) sent.token) in
            let message = token_event kind.Send sent.sent (Some p) sent.value in
            let to : e.to ≡ Some p =
            ap (λ (x : Event). x.to) (sym (event_eq-true message e sent.content)) in
            (elim o.report as (λ report. o.report ≡ report → IsSome report
            → IsAmong (sends ++ send_to p report) e) [
              | None ↦ λ _ no. absurd (false≢true no)
              | Some d ↦ λ is _.
                  let parts = and_parts (kind_eq d.kind kind.Send) (like e d) (sent.told d is) in
                  let same = like_same e d parts.0 parts.1 in
                  subst (λ (x : Event). IsAmong (sends ++ send_to p (Some x)) e) (sym same)
                  (told_send_to p sends e
                  (ap (λ (x : Event). kind_eq x.kind kind.Send) (sym same) ∙ parts.0) to)
            ]) refl (tells sent.sender sent.is_sender is_sent)
      ]

-- WHAT IS TAKEN

module _ (sends : List Event) (r : Process)
    (all : (e : Event) → 1 ≤ count_by (bears (like e) r.pid) r.queue → IsAmong sends e) where
  message_sent : (place : ℕ) (from : Pid) (v : ℕ) (token : Option Token)
      → (let m : Message = record { from = from; value = v; token = token } in
      slice_get r.queue place ≡ Some m
      → AllByRecursion (IsAmong sends) (message_send r.pid (node_found (Some (place, m)))))
  message_sent place from v None at = tt
  message_sent place from v (Some t) at =
      let m : Message = record { from = from; value = v; token = Some t } in
      let e = token_event kind.Send (node_token t) (Some r.pid) v in
      let test = bears (like e) r.pid in
      let whole = count_removed test r.queue place m at in
      let one : cond {A = ℕ} (test m) 1 0 ≡ 1 =
      ap (λ (b : Bool). cond {A = ℕ} b 1 0) (event_eq-same e) in
      (all e (omega arith), tt)

  found_sent : (w : Want)
      → AllByRecursion (IsAmong sends) (message_send r.pid (node_found (pick w r.queue)))
  found_sent w = (elim (pick w r.queue) as (λ found. pick w r.queue ≡ found
      → AllByRecursion (IsAmong sends) (message_send r.pid (node_found found))) [
        | None ↦ λ _. tt
        | Some found ↦ λ is.
            let m = found.1 in
            message_sent found.0 m.from m.value m.token (pick_found w r.queue found is)
      ]) refl

  all_sent : (a : NodeAct) → AllByRecursion (IsAmong sends) (message_of r a)
  all_sent (Answer p place) = found_sent (want.Place place)
  all_sent (Common (act.Receive p w)) = found_sent w
  all_sent a = tt

-- RUNS

taken_from : (s : State) (acts : List NodeAct) (os : List Outcome) (p : Pid) (sends : List Event)
    → node_run_from s acts ≡ Some os → LastsFit s → ReportsSendsTo p s acts os
    → QueueSent sends s p
    → TakesOnly (sends ++ sends_to os p) p s acts os
taken_from s [] os p sends h fit tells all = tt
taken_from s (a ∷ acts) [] p sends h fit tells all = tt
taken_from s (a ∷ acts) (o ∷ os) p sends h fit tells all =
    let run = node_run_parts s a acts (o ∷ os) h in
    let x = node_step_parts s a o run.0 in
    let later = sends_to os p in
    let rest = taken_from o.after acts os p (sends ++ send_to p o.report) run.1
    (lasts_fit_then s a o x fit) tells.1 (sent_then s a o x fit p sends tells.0 all) in
    let whole = sends ++ (send_to p o.report ++ later) in (
      λ _ r is.
          let who = process_pid s p r is in
          let here = subst (λ q. (e : Event) → 1 ≤ count_by (bears (like e) q) r.queue
          → IsAmong sends e) (sym who)
          (λ e some. all e
          (subst (λ found. 1 ≤ count_by (bears (like e) p) (queue_found found)) (sym is) some)) in
          all_change (IsAmong sends) (IsAmong whole)
          (λ e among. among_front sends (send_to p o.report ++ later) e among)
          (message_of r a) (all_sent sends r here a),
      subst (λ xs. TakesOnly xs p o.after acts os)
          (append_assoc sends (send_to p o.report) later) rest,
    )

pub taken_are_sent : (pids : List Pid) (acts : List NodeAct) (os : List Outcome)
    → node_run pids acts ≡ Some os → (p : Pid) → ReportsSendsTo p (zero_state pids) acts os
    → TakesOnly (sends_to os p) p (zero_state pids) acts os
taken_are_sent pids acts os run p tells =
    taken_from (zero_state pids) acts os p [] run (zero_lasts_fit pids) tells
    (λ e some. absurd (let none = zero_alike (like e) pids p in omega arith))
