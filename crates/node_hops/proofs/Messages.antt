-- Up to each act at most as many alike messages were received as were sent: so either one of the
-- sends wasn't reported, or the send of a receive came before it.
use Rattle.std.proofs.Common.{◌≡◌, ℕ, ◌+◌, ◌<◌, ◌≤◌, ◌⊎◌, ◌&&◌, zero, suc, Bool, true, false, cond}
use Rattle.std.proofs.Common.{List, [], ◌∷◌, ◌++◌, map, take, drop, Option, Some, None, is_some}
use Rattle.std.proofs.Common.{option_and_then, option_map, option_to_list, inl, inr, refl, sym, ◌∙◌}
use Rattle.std.proofs.Common.{ap, arith, subst}
use Rattle.std.specs.Prelude.{MatchOption}
use Rattle.std.specs.List.{count_by, slice_get}
use Rattle.std.specs.Option.{option_map_or}
use Rattle.std.proofs.Math.Seq.{take-append_seam}
use Rattle.std.proofs.lemmas.Bool.{and_parts, cases_order, false≢true}
use Rattle.std.proofs.lemmas.List.{take-map}
use Rattle.std.proofs.lemmas.List.Sums.{sum_by-append, sum_by-cons}
use Rattle.std.proofs.lemmas.Option.{same_Some, none-some}
use Rattle.st_core.specs.declared.types.Pid.{Pid}
use Rattle.st_core.specs.declared.types.Kind.TheVariants as kind
use Rattle.st_core.specs.declared.types.Event.{Event}
use Rattle.st_core.specs.declared.types.Act.{Act}
use Rattle.st_core.specs.Pid.{pid_eq}
use Rattle.st_core.specs.Event.{kind_eq}
use Rattle.st_core.specs.Run.{Stream, stream}
use Rattle.st_core.specs.State.{process, State, zero_state}
use Rattle.st_core.specs.Step.{Acted, changed, Outcome}
use Rattle.st_core.specs.Streams.{events_of, IsStreams, lists, stream_of}
use Rattle.st_core.specs.Laws.{AreAllListed, is_reset, IsLeastUnlisted}
use Rattle.st_core.proofs.ForCallers.{event_reported, local_found, pid_eq-refl, unlisted_is_least}
use Rattle.st_pair.specs.Places.{event_at}
use Rattle.node_machine.specs.Node.{machine_act, NodeAct, node_acted, node_actor, node_run}
use Rattle.node_machine.specs.Node.{node_run_from}
use Rattle.node_machine.proofs.ForCallers.{actor_same, alike_in, LastsFit, lasts_fit_then}
use Rattle.node_machine.proofs.ForCallers.{node_process_after, node_run_parts, node_run_take}
use Rattle.node_machine.proofs.ForCallers.{node_step_parts, NodeStepped, queue_step, report_own}
use Rattle.node_machine.proofs.ForCallers.{SentAlike, takes_alike, zero_alike, zero_lasts_fit}
use Rattle.node_streams.specs.declared.content.MessageContent.{MessageContent}
use Rattle.node_streams.specs.Messages.{content_eq, content_of, owner, send_of, tells}
use Rattle.node_streams.specs.Runs.{AreReported}
use Rattle.node_streams.proofs.ForCallers.{content_itself, content_same, is_content, kind_same}
use Rattle.node_streams.proofs.ForCallers.{listed_events, nth_is, nth_within, own_event, owner_is}
use Rattle.node_streams.proofs.ForCallers.{receive_to}
use Rattle.node_hops.specs.Claims.{IsReported, IsSentBefore, IsSentUnreported, IsSilent}
use Rattle.node_hops.specs.Claims.{NodeReports, ReportsLike, SendsLike, told_before}
use Rattle.node_hops.proofs.Fronts.{stream_parts, told_by, told_next, told_rises}

-- SENDS

abbrev acts_of : List NodeAct → List Act
acts_of acts = map machine_act acts

sends_later : (a : NodeAct) (o : Outcome) (acts : List NodeAct) (os : List Outcome)
    (c : MessageContent) (s : ℕ)
    → SendsLike acts os c s → SendsLike (a ∷ acts) (o ∷ os) c (suc s)
sends_later a o acts os c s x = record {
  sending = x.sending;
  at = x.at;
  to = x.to;
  value = x.value;
  sends = x.sends;
  sender = x.sender;
  is_sender = x.is_sender;
  token = x.token;
  stamped = x.stamped;
  content = x.content;
}

-- the first act sends a message of the content
sends_first : (s : State) (a : NodeAct) (o : Outcome) (rest : List NodeAct) (os : List Outcome)
    (c : MessageContent) (x : Pid) (t : NodeStepped s a o) → SentAlike (is_content c) s a o x
    → SendsLike (a ∷ rest) (o ∷ os) c 0
sends_first s a o rest os c x t sent =
    let after = changed (machine_act a) t.done t.before in
    let found : process o.after (node_actor a) ≡ Some after =
    node_process_after s a o t (node_actor a)
    ∙ ap (option_map (changed (machine_act a) t.done)) t.is_before in
    let plain : is_reset (machine_act a) ≡ false = ap is_reset sent.is_act in
    let same = actor_same s a o t plain (node_actor a) (pid_eq-refl (node_actor a)) in
    let who = same_Some sent.sender t.before (sym sent.is_sender ∙ t.is_before) in
    record {
      sending = a;
      at = refl;
      to = x;
      value = sent.value;
      sends = sent.is_act;
      sender = after;
      is_sender = found;
      token = sent.sent;
      stamped = ap (λ r. (local_found r).token) (sym found) ∙ same.token
          ∙ ap (λ (done : Acted). done.local.token) (sym t.is_done)
          ∙ ap (λ r. (node_acted r a).local.token) (sym who) ∙ sent.is_sent;
      content = content_same _ c sent.content;
    }

zero_if : (b : Bool) → cond {A = ℕ} b 0 0 ≡ 0
zero_if true = refl
zero_if false = refl

-- AS MANY RECEIVED AS SENT

module _ (c : MessageContent) (x : Pid) (to : c.to ≡ Some x) where
  abbrev received : List NodeAct → List Outcome → ℕ
  received acts os = count_by (tells kind.Receive c) (stream (acts_of acts) os x)

  abbrev sent : List NodeAct → List Outcome → ℕ
  sent acts os = count_by (tells kind.Send c) (stream (acts_of acts) os c.from)

  -- a send of the content reported nothing
  abbrev Unreported : List NodeAct → List Outcome → Type 0
  Unreported acts os = (k : ℕ) × SendsLike acts os c k × IsSilent os k

  counted : (test : Event → Bool) (a : NodeAct) (o : Outcome) (rest : List NodeAct)
      (os : List Outcome) (q : Pid)
      → count_by test (stream (acts_of (a ∷ rest)) (o ∷ os) q)
      ≡ count_by test (told_by q (machine_act a) o) + count_by test (stream (acts_of rest) os q)
  counted test a o rest os q =
      let f : Event → ℕ = λ e. cond (test e) 1 0 in
      sum_by-append f (told_by q (machine_act a) o) (stream (acts_of rest) os q)

  one : (test : Event → Bool) (e : Event) → count_by test (e ∷ []) ≡ cond (test e) 1 0
  one test e =
      let f : Event → ℕ = λ d. cond (test d) 1 0 in
      let sum = sum_by-cons f e [] in
      omega arith

  told_count : (test : Event → Bool) (b : Bool) (o : Option Event)
      → count_by test (cond b (option_to_list o) [])
      ≡ cond b (let n : ℕ = elim o [ None ↦ 0 | Some e ↦ cond (test e) 1 0 ] in n) 0
  told_count test true None = refl
  told_count test true (Some e) = one test e
  told_count test false o = refl

  takes_same : (o : Option Event) → (let n : ℕ = elim o [
    | None ↦ 0
    | Some e ↦ cond (tells kind.Receive c e) 1 0
  ] in n) ≡ takes_alike (is_content c) o
  takes_same None = refl
  takes_same (Some e) = refl

  abbrev Balanced : State → List NodeAct → List Outcome → Type 0
  Balanced s acts os = Unreported acts os
      ⊎ (received acts os ≤ alike_in (is_content c) s x + sent acts os)

  module _ (s : State) (a : NodeAct) (o : Outcome) (rest : List NodeAct) (os : List Outcome)
      (t : NodeStepped s a o) (fit : LastsFit s) where
    taken : count_by (tells kind.Receive c) (told_by x (machine_act a) o)
        ≡ cond (pid_eq (node_actor a) x) (takes_alike (is_content c) o.report) 0
    taken = told_count (tells kind.Receive c) (pid_eq (node_actor a) x) o.report
        ∙ ap (λ n. cond (pid_eq (node_actor a) x) n 0) (takes_same o.report)

    -- a reported send of the content is its sender's
    module _ (e : Event) (report : o.report ≡ Some e) (like : tells kind.Send c e ≡ true) where
      sends : e.kind ≡ kind.Send
      sends = kind_same e.kind kind.Send (and_parts (kind_eq e.kind kind.Send) _ like).0

      who : pid_eq (node_actor a) c.from ≡ true
      who =
          let content = content_same (content_of e) c
          (and_parts (kind_eq e.kind kind.Send) _ like).1 in
          let own = owner_is (node_actor a) e (report_own s a o t e report) in
          let from : c.from ≡ node_actor a =
          ap (λ (d : MessageContent). d.from) (sym content)
          ∙ ap (λ k. owner k (content_of e)) (sym sends) ∙ own in
          ap (pid_eq (node_actor a)) from ∙ pid_eq-refl (node_actor a)

      sent_one : count_by (tells kind.Send c) (told_by c.from (machine_act a) o) ≡ 1
      sent_one = told_count (tells kind.Send c) (pid_eq (node_actor a) c.from) o.report
          ∙ ap (λ b. cond b (let n : ℕ = elim o.report [
            | None ↦ 0
            | Some d ↦ cond (tells kind.Send c d) 1 0
          ] in n) 0) who
          ∙ ap (λ (y : Option Event). let n : ℕ = elim y [
            | None ↦ 0
            | Some d ↦ cond (tells kind.Send c d) 1 0
          ] in n) report
          ∙ ap (λ b. cond b 1 0) like

      none_taken : cond (pid_eq (node_actor a) x) (takes_alike (is_content c) o.report) 0 ≡ 0
      none_taken =
          ap (λ y. cond (pid_eq (node_actor a) x) (takes_alike (is_content c) y) 0) report
          ∙ ap (λ k. cond (pid_eq (node_actor a) x)
          (cond (kind_eq k kind.Receive && is_content c e) 1 0) 0) sends
          ∙ zero_if (pid_eq (node_actor a) x)

    by_report : received rest os ≤ alike_in (is_content c) o.after x + sent rest os
        → SentAlike (is_content c) s a o x → (report : Option Event) → o.report ≡ report
        → Balanced s (a ∷ rest) (o ∷ os)
    by_report later sent_now None none =
        inl (0, sends_first s a o rest os c x t sent_now, none)
    by_report later sent_now (Some e) is =
        let like = sent_now.told e is in
        let all = counted (tells kind.Receive c) a o rest os x in
        let sends_all = counted (tells kind.Send c) a o rest os c.from in
        let now = taken in
        let none = none_taken e is like in
        let sent_is = sent_one e is like in
        let most = sent_now.most in
        inr (omega arith)

    balanced : Balanced o.after rest os → Balanced s (a ∷ rest) (o ∷ os)
    balanced (inl later) =
        inl (suc later.0, sends_later a o rest os c later.0 later.1, later.2)
    balanced (inr later) =
        let all = counted (tells kind.Receive c) a o rest os x in
        let sends_all = counted (tells kind.Send c) a o rest os c.from in
        let now = taken in
        elim (queue_step (is_content c) (λ u to v. refl) s o a t fit x) [
          | inl keeps ↦ inr (omega arith)
          | inr sent_now ↦ by_report later sent_now o.report refl
        ]

  no_sum : (n : ℕ) → 0 ≤ n
  no_sum n = omega arith

  pub told_or_unreported : (s : State) (acts : List NodeAct) (os : List Outcome)
      → node_run_from s acts ≡ Some os → LastsFit s → Balanced s acts os
  told_or_unreported s [] os h fit = inr (no_sum _)
  told_or_unreported s (a ∷ rest) [] h fit = absurd (node_run_parts s a rest [] h)
  told_or_unreported s (a ∷ rest) (o ∷ os) h fit =
      let run = node_run_parts s a rest (o ∷ os) h in
      let t = node_step_parts s a o run.0 in
      balanced s a o rest os t fit
      (told_or_unreported o.after rest os run.1 (lasts_fit_then s a o t fit))

-- A FRONT OF A RUN

taken_at : {A : Type 0} (n : ℕ) (xs : List A) (k : ℕ) (y : A) → slice_get (take n xs) k ≡ Some y
    → k < n
taken_at zero xs k y at = absurd (none-some y at)
taken_at (suc n) [] k y at = absurd (none-some y at)
taken_at (suc n) (x ∷ xs) zero y at = omega arith
taken_at (suc n) (x ∷ xs) (suc k) y at = let less = taken_at n xs k y at in omega arith

taken_same : {A : Type 0} (n : ℕ) (xs : List A) (k : ℕ) → k < n
    → slice_get (take n xs) k ≡ slice_get xs k
taken_same zero xs k less = absurd (omega arith)
taken_same (suc n) [] k less = refl
taken_same (suc n) (x ∷ xs) zero less = refl
taken_same (suc n) (x ∷ xs) (suc k) less = taken_same n xs k (omega arith)

sends_in_all : (n : ℕ) (acts : List NodeAct) (os : List Outcome) (c : MessageContent) (k : ℕ)
    → SendsLike (take n acts) (take n os) c k
    → (k < n) × SendsLike acts os c k
sends_in_all n acts os c k x =
    let less = taken_at n acts k x.sending x.at in (
      less,
      record {
        sending = x.sending;
        at = sym (taken_same n acts k less) ∙ x.at;
        to = x.to;
        value = x.value;
        sends = x.sends;
        sender = x.sender;
        is_sender = ap (option_and_then (λ (o : Outcome). process o.after (node_actor x.sending)))
            (sym (taken_same n os k less)) ∙ x.is_sender;
        token = x.token;
        stamped = x.stamped;
        content = x.content;
      },
    )

no_send : (e : Event) → e.kind ≡ kind.Receive → e.kind ≡ kind.Send → ⊥
no_send e receives sends = absurd (cc)

-- streams list all their processes
named : (streams : List Stream) → IsStreams streams → AreAllListed streams
named streams s =
    subst (λ (o : Option (Pid × ℕ)). MatchOption o (AreAllListed streams)
    (λ x. IsLeastUnlisted streams x.0 x.1))
    s.listed (unlisted_is_least streams s.draft.rising)

pub listed_at : (streams : List Stream) (p : Pid) (i : ℕ) (e : Event)
    → event_at streams p i ≡ Some e → lists streams p ≡ true
listed_at streams p i e at =
    elim (stream_of streams p) as (λ o. slice_get (elim o [ None ↦ [] | Some y ↦ y.events ]) i
    ≡ Some e → is_some o ≡ true) [
      | None ↦ λ at. absurd (none-some e at)
      | Some y ↦ λ at. refl
    ] at

-- THE RECEIVE

module _ (streams : List Stream) (sound : IsStreams streams) (pids : List Pid)
    (acts : List NodeAct) (os : List Outcome)
    (h : node_run pids acts ≡ Some os) (shown : AreReported streams acts os) (p : Pid) (i n : ℕ)
    (e : Event) (at : event_at streams p i ≡ Some e) (r : NodeReports acts os p i e n)
    (receives : e.kind ≡ kind.Receive) where
  abbrev c : MessageContent
  c = content_of e

  abbrev es : List Event
  es = events_of streams p

  abbrev told : List Event
  told = stream (take n (acts_of acts)) (take n os) p

  es_are : es ≡ stream (acts_of acts) os p
  es_are = listed_events streams acts os shown p (listed_at streams p i e at)

  -- the events before the receive are those that p reported before act n
  taken_are : take i es ≡ told
  taken_are = ap (take i) (es_are ∙ stream_parts n (acts_of acts) os p)
      ∙ ap (λ k. take k (told ++ stream (drop n (acts_of acts)) (drop n os) p)) (sym r.before)
      ∙ take-append_seam told (stream (drop n (acts_of acts)) (drop n os) p)

  receiver : c.to ≡ Some p
  receiver = receive_to p e (own_event streams p i e sound.draft.own at)
      (ap (λ k. kind_eq k kind.Receive) receives)

  is_like : tells kind.Receive c e ≡ true
  is_like = ap (λ k. kind_eq k kind.Receive && content_eq c c) receives ∙ content_itself c

  abbrev before : ℕ
  before = count_by (tells kind.Receive c) (take i es)

  received_is : received c p receiver (take (suc n) acts) (take (suc n) os) ≡ before + 1
  received_is =
      let f : Event → ℕ = λ d. cond (tells kind.Receive c d) 1 0 in
      let all = ap (λ xs. count_by (tells kind.Receive c) (stream xs (take (suc n) os) p))
      (sym (take-map machine_act (suc n) acts))
      ∙ ap (count_by (tells kind.Receive c)) (told_next acts os p n e r.reports)
      ∙ sum_by-append f told (e ∷ []) in
      let last = one c p receiver (tells kind.Receive c) e ∙ ap (λ b. cond b 1 0) is_like in
      let same = ap (count_by (tells kind.Receive c)) taken_are in
      omega arith

  abbrev sender : Pid
  sender = e.from

  senders : events_of streams sender ≡ stream (acts_of acts) os sender
  senders = listed_events streams acts os shown sender
      (and_parts (lists streams e.from) (option_map_or (lists streams) e.to true)
      (named streams sound p i e at)).0

  -- the number of events that the sender reported up to act n
  abbrev up_to : ℕ
  up_to = told_before acts os sender (suc n)

  sent_is : sent c p receiver (take (suc n) acts) (take (suc n) os)
      ≡ count_by (tells kind.Send c) (take up_to (events_of streams sender))
  sent_is =
      let front = stream (take (suc n) (acts_of acts)) (take (suc n) os) sender in
      let back = stream (drop (suc n) (acts_of acts)) (drop (suc n) os) sender in
      ap (λ xs. count_by (tells kind.Send c) (stream xs (take (suc n) os) sender))
      (sym (take-map machine_act (suc n) acts))
      ∙ sym (ap (count_by (tells kind.Send c)) (ap (take up_to)
      (senders ∙ stream_parts (suc n) (acts_of acts) os sender)
      ∙ take-append_seam front back))

  reported_here : IsReported os n
  reported_here = ap is_some r.reports.report

  -- either a send wasn't reported, or the receive's send came before it
  found : IsSentUnreported acts os c n
      ⊎ ((j : ℕ) × (send_of streams (take i es) e ≡ Some j) × (j < up_to))
  found = elim (told_or_unreported c p receiver (zero_state pids) (take (suc n) acts)
      (take (suc n) os) (node_run_take (suc n) (zero_state pids) acts os h)
      (zero_lasts_fit pids)) [
        | inl quiet ↦
            let all = sends_in_all (suc n) acts os c quiet.0 quiet.1 in
            let silent : IsSilent os quiet.0 =
            ap (option_and_then (λ (o : Outcome). o.report))
            (sym (taken_same (suc n) os quiet.0 all.0)) ∙ quiet.2 in
            inl (elim (cases_order quiet.0 n) [
              | inl same ↦ absurd (false≢true
                  (sym (ap is_some (subst (IsSilent os) same silent)) ∙ reported_here))
              | inr other ↦ elim other [
                | inl less ↦ record {
                  number = quiet.0;
                  before = less;
                  sends = all.1;
                  unreported = silent;
                }
                | inr more ↦ let least = all.0 in absurd (omega arith)
              ]
            ])
        | inr balance ↦
            let none = zero_alike (is_content c) pids p in
            let was = received_is in
            let were = sent_is in
            inr (nth_within (tells kind.Send c) (events_of streams sender) up_to before
            (omega arith))
      ]

  pub unsent_true : send_of streams (take i es) e ≡ None → IsSentUnreported acts os c n
  unsent_true none = elim found [
    | inl quiet ↦ quiet
    | inr one ↦ absurd (none-some one.0 (sym none ∙ one.1))
  ]

  pub sent_true : (j : ℕ) → send_of streams (take i es) e ≡ Some j
      → ReportsLike pids acts os p c n → IsSentBefore acts os sender j c n
  sent_true j is all = elim found [
    | inl quiet ↦ absurd (false≢true (sym (ap is_some quiet.unreported)
        ∙ all quiet.number quiet.before quiet.sends))
    | inr there ↦
        let same = same_Some j there.0 (sym is ∙ there.1) in
        let less = there.2 in
        let x = nth_is (tells kind.Send c) before (events_of streams sender) j is in
        let f = x.event in
        let parts = and_parts (kind_eq f.kind kind.Send) (content_eq (content_of f) c) x.passes in
        let f_sends = kind_same f.kind kind.Send parts.0 in
        let s = event_reported (acts_of acts) os sender j f
        (ap (λ es. slice_get es j) (sym senders) ∙ x.at) in
        let count = s.1.before in
        record {
          event = f;
          number = s.0;
          before = elim (cases_order s.0 n) [
            | inl here ↦
                let one : f ≡ e = same_Some f e (sym s.1.reports.report
                ∙ ap (λ k. option_and_then (λ (o : Outcome). o.report) (slice_get os k)) here
                ∙ r.reports.report) in
                absurd (no_send e receives (ap (λ (d : Event). d.kind) (sym one) ∙ f_sends))
            | inr other ↦ elim other [
              | inl earlier ↦ earlier
              | inr later ↦
                  let rise = told_rises acts os sender (suc n) s.0 (omega arith) in
                  absurd (omega arith)
            ]
          ];
          reports = s.1;
          sends = f_sends;
          content = content_same (content_of f) c parts.1;
        }
  ]
