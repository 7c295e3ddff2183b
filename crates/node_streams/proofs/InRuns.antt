-- The order of a run's acts is one of its events. Up to each act at most as many messages of a
-- content were received, or lie in a queue with their tokens, as were sent and reported: so a
-- receive after n alike ones comes after more than n alike sends.
use Rattle.std.proofs.Common.{◌≡◌, ℕ, ◌+◌, ◌≤◌, ◌<◌, ◌⊎◌, ◌&&◌, zero, suc, cond, Bool, true, false}
use Rattle.std.proofs.Common.{List, [], ◌∷◌, ◌++◌, take, drop, Some, None, is_some, IsSome}
use Rattle.std.proofs.Common.{option_to_list, inl, inr, refl, arith, sym, ◌∙◌, ap, subst}
use Rattle.std.specs.List.{count_by, find, slice_get}
use Rattle.std.proofs.lemmas.Bool.{and_parts, false≢true}
use Rattle.st_core.specs.declared.types.Pid.{Pid}
use Rattle.st_core.specs.declared.types.Kind.{Kind}
use Rattle.st_core.specs.declared.types.Kind.TheVariants as kind
use Rattle.st_core.specs.declared.types.Event.{Event}
use Rattle.st_core.specs.Pid.{pid_eq}
use Rattle.st_core.specs.Event.{kind_eq}
use Rattle.st_core.specs.Run.{pids_of, Stream}
use Rattle.st_core.specs.State.{Process, process, State, zero_state}
use Rattle.st_core.specs.Step.{Outcome}
use Rattle.st_core.specs.Streams.{events_of, is_own, lists}
use Rattle.st_core.proofs.ForCallers.{both_true, lists_among, pid_eq-refl, pid_eq-true}
use Rattle.node_machine.specs.Node.{machine_act, NodeAct, node_actor, node_run_from}
use Rattle.node_machine.proofs.ForCallers.{alike_in, LastsFit, lasts_fit_then, node_run_parts}
use Rattle.node_machine.proofs.ForCallers.{NodeStepped, node_step_parts, queue_step, report_own}
use Rattle.node_machine.proofs.ForCallers.{takes_alike, zero_alike, zero_lasts_fit}
use Rattle.node_streams.specs.declared.content.MessageContent.{MessageContent}
use Rattle.node_streams.specs.Messages.{content_eq, content_of, takes_message, tells, unsent_among}
use Rattle.node_streams.specs.Order.{HaveOrder, next_event, turns}
use Rattle.node_streams.specs.Runs.{AreReported, AreStreamsOf, node_stream, ReportSends}
use Rattle.node_streams.specs.Runs.{token_receiver}
use Rattle.node_streams.proofs.Counting.{add_zero, content_itself, content_same, count_more}
use Rattle.node_streams.proofs.Counting.{taken_more, turns_more}
use Rattle.node_streams.proofs.Owners.{receive_to, send_from}
use Rattle.node_streams.proofs.SentOrders.{GoesSent, HaveSentOrder, IsSentOrder, nothing_unsent}
use Rattle.node_streams.proofs.SentOrders.{nth_within, sent_order}
use Rattle.node_streams.proofs.Turns.{events_in, unlisted_events}

-- STREAMS

pub listed_events : (streams : List Stream) (acts : List NodeAct) (os : List Outcome)
    → AreReported streams acts os → (p : Pid) → lists streams p ≡ true
    → events_of streams p ≡ node_stream acts os p
listed_events [] acts os are p is = absurd (false≢true is)
listed_events (x ∷ streams) acts os are p is = (elim (pid_eq x.pid p) as (λ b. pid_eq x.pid p ≡ b
    → is_some (cond b (Some x) (find (λ s. pid_eq s.pid p) streams)) ≡ true
    → events_in (cond b (Some x) (find (λ s. pid_eq s.pid p) streams)) ≡ node_stream acts os p) [
      | true ↦ λ same _. sym are.0 ∙ ap (node_stream acts os) (pid_eq-true x.pid p same)
      | false ↦ λ _ later. listed_events streams acts os are.1 p later
    ]) refl is

first_dropped : {A : Type 0} (xs : List A) (n : ℕ) (y : A) (ys : List A) → drop n xs ≡ y ∷ ys
    → slice_get xs n ≡ Some y
first_dropped [] zero y ys is = absurd (cc)
first_dropped [] (suc n) y ys is = absurd (cc)
first_dropped (x ∷ xs) zero y ys is = cc
first_dropped (x ∷ xs) (suc n) y ys is = first_dropped xs n y ys is

rest_dropped : {A : Type 0} (xs : List A) (n : ℕ) (y : A) (ys : List A) → drop n xs ≡ y ∷ ys
    → drop (suc n) xs ≡ ys
rest_dropped [] zero y ys is = absurd (cc)
rest_dropped [] (suc n) y ys is = absurd (cc)
rest_dropped (x ∷ xs) zero y ys is = cc
rest_dropped (x ∷ xs) (suc n) y ys is = rest_dropped xs n y ys is

none_dropped : {A : Type 0} (xs : List A) (n : ℕ) → drop n xs ≡ [] → slice_get xs n ≡ None
none_dropped [] zero is = refl
none_dropped [] (suc n) is = refl
none_dropped (x ∷ xs) zero is = absurd (cc)
none_dropped (x ∷ xs) (suc n) is = none_dropped xs n is

-- COUNTS

-- the number of q's events so far that pass the test
abbrev told : List Stream → List Pid → (Event → Bool) → Pid → ℕ
told streams order test q = count_by test (take (turns q order) (events_of streams q))

told_more : (streams : List Stream) (order : List Pid) (test : Event → Bool) (p q : Pid)
    (e : Event) → next_event streams order p ≡ Some e
    → told streams (p ∷ order) test q
    ≡ told streams order test q + cond (pid_eq p q) (cond (test e) 1 0) 0
told_more streams order test p q e next =
    let es = events_of streams q in
    let n = turns q order in
    ap (λ m. count_by test (take m es)) (turns_more p order q)
    ∙ (elim (pid_eq p q) as (λ b. pid_eq p q ≡ b
    → count_by test (take (cond b 1 0 + n) es)
    ≡ count_by test (take n es) + cond b (cond (test e) 1 0) 0) [
      | true ↦ λ is.
          let at = subst (λ r. slice_get (events_of streams r) (turns r order) ≡ Some e)
          (pid_eq-true p q is) next in
          let flip : 1 + n ≡ suc n = omega arith in
          ap (λ m. count_by test (take m es)) flip ∙ ap (count_by test) (taken_more es n e at)
          ∙ count_more test (take n es) e
      | false ↦ λ _.
          let none : 0 + n ≡ n = omega arith in
          ap (λ m. count_by test (take m es)) none ∙ sym (add_zero (count_by test (take n es)))
    ]) refl

-- the event's message has the content
abbrev pub is_content : MessageContent → Event → Bool
is_content c e = content_eq (content_of e) c

-- at most as many messages of each content were received or lie in a queue as were sent
abbrev AreSent : List Stream → List Pid → State → Type 0
AreSent streams order s = (c : MessageContent) (q : Pid) → c.to ≡ Some q → lists streams q ≡ true
    → told streams order (tells kind.Receive c) q + alike_in (is_content c) s q
    ≤ told streams order (tells kind.Send c) c.from

same_if : (b : Bool) → cond {A = ℕ} b 0 0 ≡ 0
same_if true = refl
same_if false = refl

pub send_no_receive : (k : Kind) (same : Bool) → kind_eq k kind.Send ≡ true
    → (kind_eq k kind.Receive && same) ≡ false
send_no_receive kind.Send same is = refl
send_no_receive k same is = absurd (false≢true is)

-- the order led to s, and the acts and outcomes are left
record IsReached (streams : List Stream) (order : List Pid) (s : State) (acts : List NodeAct)
    (os : List Outcome) : Type 0 where
  left : (p : Pid) → lists streams p ≡ true
      → drop (turns p order) (events_of streams p) ≡ node_stream acts os p
  sent : AreSent streams order s
  fit : LastsFit s

-- ONE ACT

-- an act that sends a token to a listed process reports it, and its actor is listed
abbrev ReportsSend : List Stream → State → NodeAct → Outcome → Type 0
ReportsSend streams s a o = (r : Process) → process s (node_actor a) ≡ Some r → (q : Pid)
    → token_receiver r (machine_act a) ≡ Some q → lists streams q ≡ true
    → (lists streams (node_actor a) ≡ true) × IsSome o.report

module _ (streams : List Stream) (order : List Pid) (s : State) (a : NodeAct)
    (rest : List NodeAct) (o : Outcome) (others : List Outcome) (t : NodeStepped s a o)
    (reports : ReportsSend streams s a o)
    (at : IsReached streams order s (a ∷ rest) (o ∷ others)) where
  abbrev p : Pid
  p = node_actor a

  -- q's queue has no more messages of the content than before, with the one that the act reports
  -- as received
  abbrev Keeps : MessageContent → Pid → Type 0
  Keeps c q = alike_in (is_content c) o.after q
      + cond (pid_eq p q) (takes_alike (is_content c) o.report) 0
      ≤ alike_in (is_content c) s q

  record Sends (c : MessageContent) (q : Pid) : Type 0 where
    listed : lists streams p ≡ true
    reported : IsSome o.report
    most : alike_in (is_content c) o.after q ≤ alike_in (is_content c) s q + 1
    is : (e : Event) → o.report ≡ Some e → tells kind.Send c e ≡ true

  by_act : (c : MessageContent) (q : Pid) → lists streams q ≡ true → Keeps c q ⊎ Sends c q
  by_act c q listed =
      elim (queue_step (is_content c) (λ u to v. refl) s o a t at.fit q) [
        | inl keeps ↦ inl keeps
        | inr sent ↦
            let receiver = ap (token_receiver sent.sender) sent.is_act
            ∙ ap (λ b. cond b (Some q) None) sent.token in
            let so = reports sent.sender sent.is_sender q receiver listed in
            inr (record { listed = so.0; reported = so.1; most = sent.most; is = sent.told })
      ]

  -- WITHOUT A TURN

  module _ (silent : lists streams p ≡ true → o.report ≡ None) where
    left_silent : (q : Pid) → lists streams q ≡ true
        → drop (turns q order) (events_of streams q) ≡ node_stream rest others q
    left_silent q listed = at.left q listed
        ∙ (elim (pid_eq p q) as (λ b. pid_eq p q ≡ b
        → cond b (option_to_list o.report) [] ++ node_stream rest others q
        ≡ node_stream rest others q) [
          | true ↦ λ same.
              let none = silent (ap (lists streams) (pid_eq-true p q same) ∙ listed) in
              ap (λ x. option_to_list x ++ node_stream rest others q) none
          | false ↦ λ _. refl
        ]) refl

    sent_silent : AreSent streams order o.after
    sent_silent c q to listed =
        let before = at.sent c q to listed in
        elim (by_act c q listed) [
          | inl keeps ↦ omega arith
          | inr sends ↦ absurd
              (false≢true (ap is_some (sym (silent sends.listed)) ∙ sends.reported))
        ]

    stays : IsReached streams order o.after rest others
    stays = record {
      left = left_silent;
      sent = sent_silent;
      fit = lasts_fit_then s a o t at.fit;
    }

  -- WITH ONE

  module _ (e : Event) (listed : lists streams p ≡ true) (is : o.report ≡ Some e) where
    own : is_own p e ≡ true
    own = report_own s a o t e is

    abbrev next : List Pid
    next = p ∷ order

    dropped : drop (turns p order) (events_of streams p) ≡ e ∷ node_stream rest others p
    dropped = at.left p listed
        ∙ ap (λ b. cond b (option_to_list o.report) [] ++ node_stream rest others p)
        (pid_eq-refl p)
        ∙ ap (λ x. option_to_list x ++ node_stream rest others p) is

    here : next_event streams order p ≡ Some e
    here = first_dropped (events_of streams p) (turns p order) e (node_stream rest others p) dropped

    left_then : (q : Pid) → lists streams q ≡ true
        → drop (turns q next) (events_of streams q) ≡ node_stream rest others q
    left_then q in_list = ap (λ n. drop n (events_of streams q)) (turns_more p order q)
        ∙ (elim (pid_eq p q) as (λ b. pid_eq p q ≡ b
        → drop (cond b 1 0 + turns q order) (events_of streams q) ≡ node_stream rest others q) [
          | true ↦ λ same.
              let who = pid_eq-true p q same in
              let flip : 1 + turns q order ≡ suc (turns q order) = omega arith in
              ap (λ n. drop n (events_of streams q)) flip
              ∙ subst (λ r. drop (suc (turns r order)) (events_of streams r)
              ≡ node_stream rest others r) who
              (rest_dropped (events_of streams p) (turns p order) e (node_stream rest others p)
              dropped)
          | false ↦ λ apart.
              let none : 0 + turns q order ≡ turns q order = omega arith in
              ap (λ n. drop n (events_of streams q)) none ∙ at.left q in_list
              ∙ ap (λ b. cond b (option_to_list o.report) [] ++ node_stream rest others q) apart
        ]) refl

    -- the report counts as a receive of the content exactly if its event is one
    takes_is : (c : MessageContent)
        → takes_alike (is_content c) o.report ≡ cond (tells kind.Receive c e) 1 0
    takes_is c = ap (takes_alike (is_content c)) is

    -- the sender of a content that the act sends is its actor
    sender_is : (c : MessageContent) → tells kind.Send c e ≡ true → pid_eq p c.from ≡ true
    sender_is c so =
        let parts = and_parts (kind_eq e.kind kind.Send) (is_content c e) so in
        let content = content_same (content_of e) c parts.1 in
        let who = pid_eq-true e.from p (send_from p e own parts.0) in
        ap (pid_eq p) (ap (λ (d : MessageContent). d.from) (sym content) ∙ who) ∙ pid_eq-refl p

    told_sends : (c : MessageContent) → told streams next (tells kind.Send c) c.from
        ≡ told streams order (tells kind.Send c) c.from
        + cond (pid_eq p c.from) (cond (tells kind.Send c e) 1 0) 0
    told_sends c = told_more streams order (tells kind.Send c) p c.from e here

    told_receives : (c : MessageContent) (q : Pid)
        → told streams next (tells kind.Receive c) q
        ≡ told streams order (tells kind.Receive c) q
        + cond (pid_eq p q) (takes_alike (is_content c) o.report) 0
    told_receives c q = told_more streams order (tells kind.Receive c) p q e here
        ∙ ap (λ n. told streams order (tells kind.Receive c) q + cond (pid_eq p q) n 0)
        (sym (takes_is c))

    no_receive : (c : MessageContent) → tells kind.Send c e ≡ true → tells kind.Receive c e ≡ false
    no_receive c so = send_no_receive e.kind (is_content c e)
        (and_parts (kind_eq e.kind kind.Send) (is_content c e) so).0

    sent_then : AreSent streams next o.after
    sent_then c q to in_list =
        let before = at.sent c q to in_list in
        let sends = told_sends c in
        let receives = told_receives c q in
        elim (by_act c q in_list) [
          | inl keeps ↦ omega arith
          | inr new ↦
              let so = new.is e is in
              let most = new.most in
              let one : cond {A = ℕ} (pid_eq p c.from) (cond (tells kind.Send c e) 1 0) 0 ≡ 1 =
              ap (λ b. cond {A = ℕ} b (cond (tells kind.Send c e) 1 0) 0) (sender_is c so)
              ∙ ap (λ b. cond {A = ℕ} b 1 0) so in
              let none : cond (pid_eq p q) (takes_alike (is_content c) o.report) 0 ≡ 0 =
              ap (λ n. cond (pid_eq p q) n 0)
              (takes_is c ∙ ap (λ b. cond b 1 0) (no_receive c so)) ∙ same_if (pid_eq p q) in
              omega arith
        ]

    send_came : takes_message e ≡ true
        → told streams order (tells kind.Receive (content_of e)) p
        < told streams order (tells kind.Send (content_of e)) e.from
    send_came takes =
        let c = content_of e in
        let to = receive_to p e own takes in
        let before = at.sent c p to listed in
        let so : tells kind.Receive c e ≡ true =
        both_true (takes_message e) (is_content c e) takes (content_itself c) in
        elim (by_act c p listed) [
          | inl keeps ↦
              let one : cond (pid_eq p p) (takes_alike (is_content c) o.report) 0 ≡ 1 =
              ap (λ b. cond b (takes_alike (is_content c) o.report) 0) (pid_eq-refl p)
              ∙ takes_is c ∙ ap (λ b. cond b 1 0) so in
              omega arith
          | inr new ↦ absurd (false≢true (sym (no_receive c (new.is e is)) ∙ so))
        ]

    goes : GoesSent streams order p
    goes = record {
      event = e;
      next = here;
      sent = λ takes. nth_within (tells kind.Send (content_of e)) (events_of streams e.from)
          (turns e.from order) (told streams order (tells kind.Receive (content_of e)) p)
          (send_came takes);
    }

    goes_on : IsReached streams next o.after rest others
    goes_on = record {
      left = left_then;
      sent = sent_then;
      fit = lasts_fit_then s a o t at.fit;
    }

  -- EITHER

  record Then : Type 0 where
    order_then : List Pid
    is_order : IsSentOrder streams order_then
    reached : IsReached streams order_then o.after rest others

  then_on : IsSentOrder streams order → Then
  then_on is_order = (elim (lists streams p) as (λ b. lists streams p ≡ b → Then) [
    | true ↦ λ listed. (elim o.report as (λ report. o.report ≡ report → Then) [
      | None ↦ λ none.
          record { order_then = order; is_order = is_order; reached = stays (λ _. none) }
      | Some e ↦ λ is. record {
        order_then = p ∷ order;
        is_order = (goes e listed is, is_order);
        reached = goes_on e listed is;
      }
    ]) refl
    | false ↦ λ other. record {
      order_then = order;
      is_order = is_order;
      reached = stays (λ listed. absurd (false≢true (sym other ∙ listed)));
    }
  ]) refl

-- THE RUN

over_at : (streams : List Stream) (order : List Pid) (s : State) (os : List Outcome)
    → IsReached streams order s [] os
    → (p : Pid) → next_event streams order p ≡ None
over_at streams order s os at p = (elim (lists streams p) as (λ b. lists streams p ≡ b
    → next_event streams order p ≡ None) [
      | true ↦ λ listed. none_dropped (events_of streams p) (turns p order) (at.left p listed)
      | false ↦ λ other. ap (λ es. slice_get es (turns p order))
          (unlisted_events streams p (sym (lists_among streams p) ∙ other))
    ]) refl

walk : (streams : List Stream) (acts : List NodeAct) (order : List Pid) (s : State)
    (os : List Outcome) → node_run_from s acts ≡ Some os → ReportSends streams s acts os
    → IsReached streams order s acts os → IsSentOrder streams order
    → HaveSentOrder streams
walk streams [] order s os runs sends at is = record {
  order = order;
  is_order = is;
  over = over_at streams order s os at;
}
walk streams (a ∷ rest) order s [] runs sends at is = absurd (node_run_parts s a rest [] runs)
walk streams (a ∷ rest) order s (o ∷ os) runs sends at is =
    let run = node_run_parts s a rest (o ∷ os) runs in
    let next = then_on streams order s a rest o os (node_step_parts s a o run.0) sends.0 at is in
    walk streams rest next.order_then o.after os run.1 sends.1 next.reached next.is_order

start : (streams : List Stream) (pids : List Pid) (acts : List NodeAct) (os : List Outcome)
    → AreReported streams acts os
    → IsReached streams [] (zero_state pids) acts os
start streams pids acts os are = record {
  left = listed_events streams acts os are;
  sent = λ c q to listed. let none = zero_alike (is_content c) pids q in omega arith;
  fit = zero_lasts_fit pids;
}

has_sent_order : (streams : List Stream) (pids : List Pid) (acts : List NodeAct)
    (os : List Outcome) → AreStreamsOf streams pids acts os
    → HaveSentOrder streams
has_sent_order streams pids acts os are =
    walk streams acts [] (zero_state pids) os are.runs are.sends
    (start streams pids acts os are.reported) tt

pub all_sent : (streams : List Stream) (pids : List Pid) (acts : List NodeAct)
    (os : List Outcome) → AreStreamsOf streams pids acts os
    → unsent_among streams (pids_of streams) ≡ []
all_sent streams pids acts os are =
    nothing_unsent streams (has_sent_order streams pids acts os are)

pub run_order : (streams : List Stream) (pids : List Pid) (acts : List NodeAct)
    (os : List Outcome) → AreStreamsOf streams pids acts os
    → HaveOrder streams
run_order streams pids acts os are = sent_order streams (has_sent_order streams pids acts os are)
