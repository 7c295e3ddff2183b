-- A receive takes its message out of the queue, and only a send puts one with a token in: so no
-- more alike messages are received than were sent.
use Rattle.std.proofs.Common.{◌≡◌, ℕ, ◌+◌, ◌≤◌, ◌⊎◌, ◌&&◌, Bool, true, false, cond, List, [], ◌∷◌}
use Rattle.std.proofs.Common.{◌++◌, map, Option, Some, None, is_some, option_map, inl, inr, refl}
use Rattle.std.proofs.Common.{arith, sym, ◌∙◌, ap, subst}
use Rattle.std.specs.List.{count_by, remove, slice_get}
use Rattle.std.proofs.lemmas.List.Sums.{sum_by-append, sum_by-cons, sum_by-remove}
use Rattle.std.proofs.lemmas.Option.{get_or_from_slice_get, none-some, same_Some, slice_get_within}
use Rattle.st_core.specs.declared.types.Pid.{Pid}
use Rattle.st_core.specs.declared.types.Token.{Token}
use Rattle.st_core.specs.declared.types.Message.{Message}
use Rattle.st_core.specs.declared.types.Kind.{Kind}
use Rattle.st_core.specs.declared.types.Kind.TheVariants as kind
use Rattle.st_core.specs.declared.types.Event.{Event}
use Rattle.st_core.specs.declared.types.Act.{Act}
use Rattle.st_core.specs.declared.types.Act.TheVariants as act
use Rattle.st_core.specs.declared.types.Reply.TheVariants as reply
use Rattle.st_core.specs.declared.types.Want.{Want}
use Rattle.st_core.specs.declared.types.Want.TheVariants as want
use Rattle.st_core.specs.Pid.{node_eq, pid_eq}
use Rattle.st_core.specs.Event.{kind_eq}
use Rattle.st_core.specs.Local.{received, wiped}
use Rattle.st_core.specs.Pick.{pick}
use Rattle.st_core.specs.Report.{flag_of, report, token_event}
use Rattle.st_core.specs.State.{LocalState, Process, State, process, zero_local, zero_state}
use Rattle.st_core.specs.Step.{Acted, actor, answers, changed, Outcome, prints, reached, receives}
use Rattle.st_core.specs.Step.{untraced}
use Rattle.st_core.specs.Streams.{is_own}
use Rattle.st_core.proofs.ForCallers.{both_true, local_found, mapped, some_if, pick_found}
use Rattle.st_core.proofs.ForCallers.{pid_eq-refl, pid_eq-swap, pid_same, process_pid, zero_found}
use Rattle.node_machine.specs.Counts.{node_token, stamp_count, next_clock}
use Rattle.node_machine.specs.Node.{after_stamp, Answer, Common, machine_act, node_acted}
use Rattle.node_machine.specs.Node.{node_actor, NodeAct, node_found, node_stamped_token}
use Rattle.node_machine.specs.Node.{takes_answer}
use Rattle.node_machine.proofs.Counts.{FitsSerial, serial_fits, serial_same}
use Rattle.node_machine.proofs.Steps.{node_process_after, NodeStepped, print_at_either}
use Rattle.node_machine.proofs.Steps.{reached_same, stamp_either}

-- ALIKE MESSAGES

-- the message has a token, and the event of its receive by x passes the test
abbrev pub bears : (Event → Bool) → Pid → Message → Bool
bears alike x m = elim m.token [
  | None ↦ false
  | Some t ↦ alike (token_event kind.Receive (node_token t) (Some x) m.value)
]

abbrev pub queue_found : Option Process → List Message
queue_found found = elim found [ None ↦ [] | Some r ↦ r.queue ]

-- the number of alike messages in x's queue
abbrev pub alike_in : (Event → Bool) → State → Pid → ℕ
alike_in alike s x = count_by (bears alike x) (queue_found (process s x))

-- 1 for the receive of an alike message, else 0
abbrev pub takes_alike : (Event → Bool) → Option Event → ℕ
takes_alike alike None = 0
takes_alike alike (Some e) = cond (kind_eq e.kind kind.Receive && alike e) 1 0

-- the number of alike messages that an act puts into x's queue, if its actor has the token after
-- it
abbrev arrives : (Event → Bool) → Act → Option Token → Pid → ℕ
arrives alike (act.Send p q v) token x =
    cond (pid_eq x q && bears alike x (record { from = p; value = v; token = token })) 1 0
arrives alike a token x = 0

-- THE ACTOR'S PART

-- the message of a reported receive leaves the queue
abbrev PartKeeps : (Event → Bool) → Process → Acted → Type 0
PartKeeps alike r done =
    count_by (bears alike r.pid) done.queue + takes_alike alike done.report
    ≤ count_by (bears alike r.pid) r.queue

no_take : (alike : Event → Bool) (k : Kind) → kind_eq k kind.Receive ≡ false → (traced : Bool)
    (token : Option Token) (to : Option Pid) (v : ℕ)
    → takes_alike alike (report traced k token to v) ≡ 0
no_take alike k other traced None to v = refl
no_take alike k other traced (Some t) to v =
    elim (traced && flag_of k t.flags) as (λ b.
    takes_alike alike (cond b (Some (token_event k t to v)) None) ≡ 0) [
      | true ↦ ap (λ b. cond (b && alike (token_event k t to v)) 1 0) other
      | false ↦ refl
    ]

same_queue : (alike : Event → Bool) (r : Process) (done : Acted) → done.queue ≡ r.queue
    → takes_alike alike done.report ≡ 0
    → PartKeeps alike r done
same_queue alike r done same none =
    let even = ap (count_by (bears alike r.pid)) same in
    omega arith

pub count_removed : {A : Type 0} (test : A → Bool) (xs : List A) (k : ℕ) (x : A)
    → slice_get xs k ≡ Some x
    → count_by test (remove xs k) + cond (test x) 1 0 ≡ count_by test xs
count_removed {A} test xs k x at =
    let f : A → ℕ = λ y. cond (test y) 1 0 in
    ap (λ y. count_by test (remove xs k) + f y) (sym (get_or_from_slice_get xs k x x at))
    ∙ sum_by-remove f xs k x (slice_get_within xs k x at)

one_if : (b : Bool) → cond (true && b) 1 0 ≤ cond b 1 0
one_if true = omega arith
one_if false = omega arith

taken_most : (alike : Event → Bool) (x : Pid) (traced : Bool) (token : Option Token) (from : Pid)
    (v : ℕ)
    → (let m : Message = record { from = from; value = v; token = token } in
    takes_alike alike (report traced kind.Receive (option_map node_token token) (Some x) v)
    ≤ cond (bears alike x m) 1 0)
taken_most alike x traced None from v = omega arith
taken_most alike x traced (Some t) from v =
    let e = token_event kind.Receive (node_token t) (Some x) v in
    elim (traced && t.flags.receive) as (λ b.
    takes_alike alike (cond b (Some e) None) ≤ cond (alike e) 1 0) [
      | true ↦ one_if (alike e)
      | false ↦ omega arith
    ]

found_keeps : (alike : Event → Bool) (r : Process) (found : ℕ × Message)
    → slice_get r.queue found.0 ≡ Some found.1
    → PartKeeps alike r (receives r (node_found (Some found)))
found_keeps alike r found at =
    let m = found.1 in
    let fewer = count_removed (bears alike r.pid) r.queue found.0 m at in
    let most = taken_most alike r.pid r.local.traced m.token m.from m.value in
    omega arith

picked_keeps : (alike : Event → Bool) (r : Process) (w : Want)
    → PartKeeps alike r (receives r (node_found (pick w r.queue)))
picked_keeps alike r w = (elim (pick w r.queue) as (λ found. pick w r.queue ≡ found
    → PartKeeps alike r (receives r (node_found found))) [
      | None ↦ λ _. same_queue alike r (receives r None) refl refl
      | Some found ↦ λ is. found_keeps alike r found (pick_found w r.queue found is)
    ]) refl

answer_keeps : (alike : Event → Bool) (r : Process) (found : Option (ℕ × Message))
    → PartKeeps alike r (receives r (node_found found))
    → PartKeeps alike r (takes_answer r (node_found found))
answer_keeps alike r None keeps = keeps
answer_keeps alike r (Some found) keeps = keeps

print_keeps : (alike : Event → Bool) (r : Process) (v : ℕ)
    → PartKeeps alike r (prints r v (after_stamp r.pid r.local))
print_keeps alike r v = same_queue alike r (prints r v (after_stamp r.pid r.local)) refl
    (no_take alike kind.Print refl r.local.traced (after_stamp r.pid r.local).token None v)

part_keeps : (alike : Event → Bool) (a : NodeAct) (r : Process)
    → PartKeeps alike r (node_acted r a)
part_keeps alike (Answer p place) r =
    answer_keeps alike r (pick (want.Place place) r.queue)
    (picked_keeps alike r (want.Place place))
part_keeps alike (Common (act.Receive p w)) r = picked_keeps alike r w
part_keeps alike (Common (act.Send p q v)) r =
    same_queue alike r (node_acted r (Common (act.Send p q v))) refl
    (no_take alike kind.Send refl r.local.traced (after_stamp r.pid r.local).token (Some q) v)
part_keeps alike (Common (act.Print p v)) r = print_keeps alike r v
part_keeps alike (Common (act.PrintAt p n v)) r =
    print_at_either (PartKeeps alike r) r p n v (print_keeps alike r v)
    (same_queue alike r (answers r r.local reply.Done) refl refl)
part_keeps alike (Common a) r = same_queue alike r (node_acted r (Common a)) refl refl

-- WHAT REACHES A QUEUE

-- taking tokens away leaves no more alike messages
untraced_fewer : (alike : Event → Bool) (x : Pid) (ms : List Message)
    → count_by (bears alike x) (map untraced ms) ≤ count_by (bears alike x) ms
untraced_fewer alike x [] = omega arith
untraced_fewer alike x (m ∷ ms) =
    let f : Message → ℕ = λ y. cond (bears alike x y) 1 0 in
    let rest = untraced_fewer alike x ms in
    let now = sum_by-cons f (untraced m) (map untraced ms) in
    let before = sum_by-cons f m ms in
    omega arith

reached_keeps : (alike : Event → Bool) (a : Act) (token : Option Token) (r : Process)
    → count_by (bears alike r.pid) (reached a token r).queue
    ≤ count_by (bears alike r.pid) r.queue + arrives alike a token r.pid
reached_keeps alike (act.Send p q v) token r =
    let m : Message = record { from = p; value = v; token = token } in
    let f : Message → ℕ = λ y. cond (bears alike r.pid y) 1 0 in
    elim (pid_eq r.pid q) as (λ b.
    count_by (bears alike r.pid) (cond b (record r { queue = r.queue ++ m ∷ [] }) r).queue
    ≤ count_by (bears alike r.pid) r.queue + cond (b && bears alike r.pid m) 1 0) [
      | true ↦
          let both = sum_by-append f r.queue (m ∷ []) in
          let one = sum_by-cons f m [] in
          omega arith
      | false ↦ omega arith
    ]
reached_keeps alike (act.Reset p) token r =
    elim (node_eq r.pid p) as (λ b. count_by (bears alike r.pid)
    (cond b (record r { local = wiped r.local; queue = map untraced r.queue }) r).queue
    ≤ count_by (bears alike r.pid) r.queue + 0) [
      | true ↦ let fewer = untraced_fewer alike r.pid r.queue in omega arith
      | false ↦ omega arith
    ]
reached_keeps alike (act.Tracer p on) token r =
    elim (node_eq r.pid p) as (λ b. count_by (bears alike r.pid)
    (cond b (record r { local = record r.local { traced = on } }) r).queue
    ≤ count_by (bears alike r.pid) r.queue + 0) [
      | true ↦ omega arith
      | false ↦ omega arith
    ]
reached_keeps alike a token r = omega arith

-- EACH STEP

module _ (alike : Event → Bool) (s : State) (a : NodeAct) (o : Outcome)
    (t : NodeStepped s a o) where
  abbrev takes : ℕ
  takes = takes_alike alike o.report

  actor_is : (r : Process) → process s r.pid ≡ Some r → pid_eq r.pid (node_actor a) ≡ true
      → t.before ≡ r
  actor_is r is mine = same_Some t.before r
      (sym t.is_before ∙ ap (process s) (sym (pid_same r.pid (node_actor a) mine)) ∙ is)

  own_keeps : (r : Process) → process s r.pid ≡ Some r → pid_eq r.pid (node_actor a) ≡ true
      → count_by (bears alike r.pid) t.done.queue + takes ≤ count_by (bears alike r.pid) r.queue
  own_keeps r is mine =
      let part = subst (λ (done : Acted). PartKeeps alike t.before done) t.is_done
      (part_keeps alike a t.before) in
      let here = subst (λ x. PartKeeps alike x t.done) (actor_is r is mine) part in
      subst (λ told. count_by (bears alike r.pid) t.done.queue + takes_alike alike told
      ≤ count_by (bears alike r.pid) r.queue) (ap (λ (y : Outcome). y.report) t.is_outcome) here

  process_keeps : (r : Process) → process s r.pid ≡ Some r
      → count_by (bears alike r.pid) (changed (machine_act a) t.done r).queue
      + cond (pid_eq r.pid (node_actor a)) takes 0
      ≤ count_by (bears alike r.pid) r.queue
      + arrives alike (machine_act a) t.done.local.token r.pid
  process_keeps r is =
      let own : Process = record r { local = t.done.local; queue = t.done.queue } in
      (elim (pid_eq r.pid (node_actor a)) as (λ b. pid_eq r.pid (node_actor a) ≡ b
      → count_by (bears alike r.pid)
      (reached (machine_act a) t.done.local.token (cond b own r)).queue + cond b takes 0
      ≤ count_by (bears alike r.pid) r.queue
      + arrives alike (machine_act a) t.done.local.token r.pid) [
        | true ↦ λ mine.
            let part = own_keeps r is mine in
            let rest = reached_keeps alike (machine_act a) t.done.local.token own in
            omega arith
        | false ↦ λ _.
            let rest = reached_keeps alike (machine_act a) t.done.local.token r in
            omega arith
      ]) refl

  -- x's queue grows at most by what arrives, less what is taken
  alike_step : (x : Pid)
      → alike_in alike o.after x + cond (pid_eq (node_actor a) x) takes 0
      ≤ alike_in alike s x + arrives alike (machine_act a) t.done.local.token x
  alike_step x =
      let new : ℕ = arrives alike (machine_act a) t.done.local.token x in
      subst (λ found. count_by (bears alike x) (queue_found found)
      + cond (pid_eq (node_actor a) x) takes 0 ≤ alike_in alike s x + new)
      (sym (node_process_after s a o t x))
      ((elim (process s x) as (λ found. process s x ≡ found
      → count_by (bears alike x) (queue_found (option_map (changed (machine_act a) t.done) found))
      + cond (pid_eq (node_actor a) x) takes 0
      ≤ count_by (bears alike x) (queue_found found) + new) [
        | None ↦ λ none.
            (elim (pid_eq (node_actor a) x) as (λ b. pid_eq (node_actor a) x ≡ b
            → 0 + cond b takes 0 ≤ 0 + new) [
              | true ↦ λ mine. absurd (none-some t.before
                  (sym none ∙ ap (process s) (sym (pid_same (node_actor a) x mine)) ∙ t.is_before))
              | false ↦ λ _. omega arith
            ]) refl
        | Some r ↦ λ is.
            let who = process_pid s x r is in
            let here = process_keeps r (ap (process s) who ∙ is) in
            let there = subst (λ q.
            count_by (bears alike q) (changed (machine_act a) t.done r).queue
            + cond (pid_eq q (node_actor a)) takes 0 ≤ count_by (bears alike q) r.queue
            + arrives alike (machine_act a) t.done.local.token q) who here in
            subst (λ b. count_by (bears alike x) (changed (machine_act a) t.done r).queue
            + cond b takes 0 ≤ count_by (bears alike x) r.queue + new)
            (pid_eq-swap x (node_actor a)) there
      ]) refl)

-- LAST

-- each process's last has 60 bits
abbrev pub LastsFit : State → Type 0
LastsFit s = (p : Pid) (r : Process) → process s p ≡ Some r → FitsSerial r.local.last

pub stamp_last : (p : Pid) (l : LocalState) → (after_stamp p l).last ≡ l.last
stamp_last p l =
    stamp_either (λ (m : LocalState). m.last ≡ l.last) p l (λ _. refl) (λ _ _. refl)

stamp_fits : (p : Pid) (l : LocalState) → FitsSerial l.last → FitsSerial (after_stamp p l).last
stamp_fits p l fits = subst FitsSerial (sym (stamp_last p l)) fits

received_fits : (l : LocalState) (token : Option Token) → FitsSerial l.last
    → FitsSerial (received l (option_map node_token token)).last
received_fits l None fits = fits
received_fits l (Some t) fits = serial_fits t.serial.this

found_fits : (r : Process) (found : Option (ℕ × Message)) → FitsSerial r.local.last
    → FitsSerial (receives r (node_found found)).local.last
found_fits r None fits = fits
found_fits r (Some found) fits = received_fits r.local found.1.token fits

answer_fits : (r : Process) (place : ℕ) (from : Pid) (v : ℕ) (token : Option Token)
    → FitsSerial r.local.last
    → (let m : Message = record { from = from; value = v; token = token } in
    FitsSerial (takes_answer r (node_found (Some (place, m)))).local.last)
answer_fits r place from v None fits = fits
answer_fits r place from v (Some t) fits = serial_fits _

answered_fits : (r : Process) (found : Option (ℕ × Message)) → FitsSerial r.local.last
    → FitsSerial (takes_answer r (node_found found)).local.last
answered_fits r None fits = fits
answered_fits r (Some found) fits =
    answer_fits r found.0 found.1.from found.1.value found.1.token fits

acted_fits : (a : NodeAct) (r : Process) → FitsSerial r.local.last
    → FitsSerial (node_acted r a).local.last
acted_fits (Answer p place) r fits = answered_fits r (pick (want.Place place) r.queue) fits
acted_fits (Common (act.Receive p w)) r fits = found_fits r (pick w r.queue) fits
acted_fits (Common (act.Send p q v)) r fits = stamp_fits r.pid r.local fits
acted_fits (Common (act.Print p v)) r fits = stamp_fits r.pid r.local fits
acted_fits (Common (act.PrintAt p n v)) r fits =
    print_at_either (λ (done : Acted). FitsSerial done.local.last) r p n v
    (stamp_fits r.pid r.local fits) fits
acted_fits (Common (act.Restore p t)) r fits = serial_fits t.serial.prev
acted_fits (Common a) r fits = fits

reached_fits : (a : Act) (token : Option Token) (r : Process) → FitsSerial r.local.last
    → FitsSerial (reached a token r).local.last
reached_fits (act.Reset p) token r fits =
    elim (node_eq r.pid p) as (λ b. FitsSerial
    (cond b (record r { local = wiped r.local; queue = map untraced r.queue }) r).local.last) [
      | true ↦ omega arith
      | false ↦ fits
    ]
reached_fits a token r fits = subst FitsSerial (sym (reached_same a token r refl).last) fits

changed_fits : (a : Act) (done : Acted) (r : Process) → FitsSerial done.local.last
    → FitsSerial r.local.last
    → FitsSerial (changed a done r).local.last
changed_fits a done r own other =
    let mine : Process = record r { local = done.local; queue = done.queue } in
    elim (pid_eq r.pid (actor a)) as (λ b.
    FitsSerial (reached a done.local.token (cond b mine r)).local.last) [
      | true ↦ reached_fits a done.local.token mine own
      | false ↦ reached_fits a done.local.token r other
    ]

pub lasts_fit_then : (s : State) (a : NodeAct) (o : Outcome) → NodeStepped s a o → LastsFit s
    → LastsFit o.after
lasts_fit_then s a o t fit p r is =
    let own = subst (λ (done : Acted). FitsSerial done.local.last) t.is_done
    (acted_fits a t.before (fit (node_actor a) t.before t.is_before)) in
    let parts = mapped (changed (machine_act a) t.done) (process s p) r
    (sym (node_process_after s a o t p) ∙ is) in
    subst (λ (x : Process). FitsSerial x.local.last) parts.2
    (changed_fits (machine_act a) t.done parts.0 own (fit p parts.0 parts.1))

pub zero_lasts_fit : (pids : List Pid) → LastsFit (zero_state pids)
zero_lasts_fit pids p r is =
    subst (λ (l : LocalState). FitsSerial l.last)
    (sym (ap local_found (sym is) ∙ zero_found pids p)) (omega arith)

-- SENDS

-- the node holds a stamped token as it is
stamp_same : (p : Pid) (l : LocalState) (t : Token) → FitsSerial l.last
    → node_token (node_stamped_token p l t) ≡ node_stamped_token p l t
stamp_same p l t fits =
    let prev = serial_same l.last fits in
    let this = serial_same (stamp_count l.clock) (serial_fits (l.clock + 1)) in
    λ i. record (node_stamped_token p l t) { serial = record { prev = prev i; this = this i } }

no_one : (b : Bool) → cond {A = ℕ} (b && false) 1 0 ≡ 0
no_one true = refl
no_one false = refl

at_most_one : (b : Bool) → cond b 1 0 ≤ 1
at_most_one true = omega arith
at_most_one false = omega arith

-- the act sends its actor's token to x, and each report of it is alike
record SendsAlike (alike : Event → Bool) (r : Process) (a : NodeAct) (x : Pid) : Type 0 where
  value : ℕ
  is_act : machine_act a ≡ act.Send (node_actor a) x value
  token : is_some r.local.token ≡ true
  most : arrives alike (machine_act a) (node_acted r a).local.token x ≤ 1
  told : (e : Event) → (node_acted r a).report ≡ Some e
      → (kind_eq e.kind kind.Send && alike e) ≡ true
  sent : Token
  is_sent : (node_acted r a).local.token ≡ Some sent
  content : alike (token_event kind.Send sent (Some x) value) ≡ true

-- x's queue loses each alike message that the act reports as received by x, and gains none
abbrev pub KeepsQueue : (Event → Bool) → State → NodeAct → Outcome → Pid → Type 0
KeepsQueue alike s a o x =
    alike_in alike o.after x + cond (pid_eq (node_actor a) x) (takes_alike alike o.report) 0
    ≤ alike_in alike s x

-- the act sends an alike message to x, and is reported as alike or not at all
pub record SentAlike (alike : Event → Bool) (s : State) (a : NodeAct) (o : Outcome)
    (x : Pid) : Type 0 where
  pub sender : Process
  pub is_sender : process s (node_actor a) ≡ Some sender
  pub value : ℕ
  pub is_act : machine_act a ≡ act.Send (node_actor a) x value
  pub token : is_some sender.local.token ≡ true
  pub most : alike_in alike o.after x ≤ alike_in alike s x + 1
  pub told : (e : Event) → o.report ≡ Some e → (kind_eq e.kind kind.Send && alike e) ≡ true
  pub sent : Token
  pub is_sent : (node_acted sender a).local.token ≡ Some sent
  pub content : alike (token_event kind.Send sent (Some x) value) ≡ true

module _ (alike : Event → Bool)
    (blind : (t : Token) (to : Option Pid) (v : ℕ)
    → alike (token_event kind.Receive t to v) ≡ alike (token_event kind.Send t to v)) where
  sent_alike : (t : Token) (q : Pid) (v : ℕ) → node_token t ≡ t
      → alike (token_event kind.Receive (node_token t) (Some q) v) ≡ true
      → alike (token_event kind.Send t (Some q) v) ≡ true
  sent_alike t q v same is = sym (blind t (Some q) v)
      ∙ ap (λ u. alike (token_event kind.Receive u (Some q) v)) (sym same) ∙ is

  told_alike : (traced : Bool) (t : Token) (q : Pid) (v : ℕ) → node_token t ≡ t
      → alike (token_event kind.Receive (node_token t) (Some q) v) ≡ true → (e : Event)
      → report traced kind.Send (Some t) (Some q) v ≡ Some e
      → (kind_eq e.kind kind.Send && alike e) ≡ true
  told_alike traced t q v same is e at =
      subst (λ (d : Event). (kind_eq d.kind kind.Send && alike d) ≡ true)
      (some_if (traced && t.flags.send) (token_event kind.Send t (Some q) v) e at).1
      (sent_alike t q v same is)

  -- the send puts nothing alike into q's queue, or its token and its report are alike
  abbrev SentWith : Pid → Pid → ℕ → LocalState → LocalState → Type 0
  SentWith p q v l m =
      (arrives alike (act.Send p q v) m.token q ≡ 0)
      ⊎ ((is_some l.token ≡ true)
      × ((e : Event) → report l.traced kind.Send m.token (Some q) v ≡ Some e
      → (kind_eq e.kind kind.Send && alike e) ≡ true)
      × ((u : Token) × (m.token ≡ Some u)
      × (alike (token_event kind.Send u (Some q) v) ≡ true)))

  stamped_with : (p q : Pid) (v : ℕ) (x : Pid) (l : LocalState) (t : Token) → FitsSerial l.last
      → l.token ≡ Some t
      → (let stamped = Some (node_stamped_token x l t) in
      SentWith p q v l (record l { token = stamped; clock = next_clock l.clock }))
  stamped_with p q v x l t fits had =
      let stamped = node_stamped_token x l t in
      let m : LocalState = record l { token = Some stamped; clock = next_clock l.clock } in
      (elim (alike (token_event kind.Receive (node_token stamped) (Some q) v)) as (λ b.
      alike (token_event kind.Receive (node_token stamped) (Some q) v) ≡ b
      → SentWith p q v l m) [
        | true ↦ λ is.
            let same = stamp_same x l t fits in
            inr (
              ap is_some had,
              told_alike l.traced stamped q v same is,
              (stamped, refl, sent_alike stamped q v same is),
            )
        | false ↦ λ is. inl (ap (λ b. cond (pid_eq q q && b) 1 0) is ∙ no_one (pid_eq q q))
      ]) refl

  sent_with : (p q : Pid) (v : ℕ) (x : Pid) (l : LocalState) → FitsSerial l.last
      → SentWith p q v l (after_stamp x l)
  sent_with p q v x l fits = stamp_either (SentWith p q v l) x l
      (λ none. inl
      (ap (λ token. arrives alike (act.Send p q v) token q) none ∙ no_one (pid_eq q q)))
      (λ t had. stamped_with p q v x l t fits had)

  -- the act puts nothing alike into x's queue, or sends x an alike message
  abbrev SendsOrNot : NodeAct → Process → Pid → Type 0
  SendsOrNot a r x = (arrives alike (machine_act a) (node_acted r a).local.token x ≡ 0)
      ⊎ SendsAlike alike r a x

  sends_to : (p q : Pid) (v : ℕ) (r : Process) (x : Pid) → FitsSerial r.local.last
      → SendsOrNot (Common (act.Send p q v)) r x
  sends_to p q v r x fits =
      let token = (after_stamp r.pid r.local).token in
      let lies = λ (y : Pid). bears alike y (record { from = p; value = v; token = token }) in
      (elim (pid_eq x q) as (λ b. pid_eq x q ≡ b → SendsOrNot (Common (act.Send p q v)) r x) [
        | false ↦ λ apart. inl (ap (λ b. cond (b && lies x) 1 0) apart)
        | true ↦ λ same.
            let who = pid_same x q same in
            elim (sent_with p q v r.pid r.local fits) [
              | inl none ↦ inl
                  (subst (λ y. arrives alike (act.Send p q v) token y ≡ 0) (sym who) none)
              | inr sent ↦ inr (record {
                value = v;
                is_act = ap (λ y. act.Send p y v) (sym who);
                token = sent.0;
                most = at_most_one (pid_eq x q && lies x);
                told = sent.1;
                sent = sent.2.0;
                is_sent = sent.2.1;
                content = subst (λ y. alike (token_event kind.Send sent.2.0 (Some y) v) ≡ true)
                    (sym who) sent.2.2;
              })
            ]
      ]) refl

  sends_or_not : (a : NodeAct) (r : Process) (x : Pid) → FitsSerial r.local.last
      → SendsOrNot a r x
  sends_or_not (Common (act.Send p q v)) r x fits = sends_to p q v r x fits
  sends_or_not a r x fits = inl refl

  pub queue_step : (s : State) (o : Outcome) (a : NodeAct) → NodeStepped s a o → LastsFit s
      → (x : Pid) → KeepsQueue alike s a o x ⊎ SentAlike alike s a o x
  queue_step s o a t fit x =
      let now = alike_step alike s a o t x in
      let same = t.is_done in
      elim (sends_or_not a t.before x (fit (node_actor a) t.before t.is_before)) [
        | inl none ↦
            let no : arrives alike (machine_act a) t.done.local.token x ≡ 0 =
            ap (λ (y : Acted). arrives alike (machine_act a) y.local.token x) (sym same) ∙ none in
            inl (omega arith)
        | inr sent ↦
            let most : arrives alike (machine_act a) t.done.local.token x ≤ 1 =
            subst (λ (y : Acted). arrives alike (machine_act a) y.local.token x ≤ 1) same
            sent.most in
            inr (record {
              sender = t.before;
              is_sender = t.is_before;
              value = sent.value;
              is_act = sent.is_act;
              token = sent.token;
              most = omega arith;
              told = λ e is. sent.told e (ap (λ (y : Acted). y.report) same
                  ∙ ap (λ (y : Outcome). y.report) t.is_outcome ∙ is);
              sent = sent.sent;
              is_sent = sent.is_sent;
              content = sent.content;
            })
      ]

pub zero_alike : (alike : Event → Bool) (pids : List Pid) (x : Pid)
    → alike_in alike (zero_state pids) x ≡ 0
zero_alike alike [] x = refl
zero_alike alike (p ∷ pids) x =
    let first : Process = record { pid = p; local = zero_local; queue = [] } in
    elim (pid_eq p x) as (λ b. count_by (bears alike x)
    (queue_found (cond b (Some first) (process (zero_state pids) x))) ≡ 0) [
      | true ↦ refl
      | false ↦ zero_alike alike pids x
    ]

-- REPORTS

-- an event of kind k to the process is p's own if its token is from p
abbrev OwnIf : Pid → Kind → Option Pid → Type 0
OwnIf p k to = (t : Token) (v : ℕ) → t.from ≡ p → is_own p (token_event k t to v) ≡ true

own_report : (p : Pid) (k : Kind) (to : Option Pid) → OwnIf p k to → (token : Option Token)
    → ((t : Token) → token ≡ Some t → t.from ≡ p)
    → (traced : Bool) (v : ℕ) (e : Event) → report traced k token to v ≡ Some e
    → is_own p e ≡ true
own_report p k to own None from traced v e is = absurd (none-some e is)
own_report p k to own (Some t) from traced v e is =
    subst (λ d. is_own p d ≡ true)
    (some_if (traced && flag_of k t.flags) (token_event k t to v) e is).1 (own t v (from t refl))

stamp_from : (p : Pid) (l : LocalState) (t : Token) → (after_stamp p l).token ≡ Some t
    → t.from ≡ p
stamp_from p l t = stamp_either (λ (m : LocalState). m.token ≡ Some t → t.from ≡ p) p l
    (λ none is. absurd (none-some t (sym none ∙ is)))
    (λ u _ is. ap (λ (x : Token). x.from) (sym (same_Some (node_stamped_token p l u) t is)))

from_own : (p : Pid) (t : Token) → t.from ≡ p → (pid_eq t.from p && true) ≡ true
from_own p t from =
    both_true (pid_eq t.from p) true (ap (λ x. pid_eq x p) from ∙ pid_eq-refl p) refl

send_own : (p q : Pid) → OwnIf p kind.Send (Some q)
send_own p q t v from = from_own p t from

print_own : (p : Pid) → OwnIf p kind.Print None
print_own p t v from = from_own p t from

taken_own : (p : Pid) (token : Option Token) (traced : Bool) (v : ℕ) (e : Event)
    → report traced kind.Receive token (Some p) v ≡ Some e → is_own p e ≡ true
taken_own p None traced v e is = absurd (none-some e is)
taken_own p (Some t) traced v e is =
    subst (λ d. is_own p d ≡ true)
    (some_if (traced && t.flags.receive) (token_event kind.Receive t (Some p) v) e is).1
    (pid_eq-refl p)

found_own : (r : Process) (found : Option (ℕ × Message)) (e : Event)
    → (receives r (node_found found)).report ≡ Some e → is_own r.pid e ≡ true
found_own r None e is = absurd (none-some e is)
found_own r (Some found) e is =
    taken_own r.pid (option_map node_token found.1.token) r.local.traced found.1.value e is

answer_own : (r : Process) (found : Option (ℕ × Message)) (e : Event)
    → (takes_answer r (node_found found)).report ≡ Some e → is_own r.pid e ≡ true
answer_own r None e is = absurd (none-some e is)
answer_own r (Some found) e is =
    taken_own r.pid (option_map node_token found.1.token) r.local.traced found.1.value e is

print_report_own : (r : Process) (v : ℕ) (e : Event)
    → report r.local.traced kind.Print (after_stamp r.pid r.local).token None v ≡ Some e
    → is_own r.pid e ≡ true
print_report_own r v e is = own_report r.pid kind.Print None (print_own r.pid)
    (after_stamp r.pid r.local).token (stamp_from r.pid r.local) r.local.traced v e is

acted_own : (a : NodeAct) (r : Process) (e : Event) → (node_acted r a).report ≡ Some e
    → is_own r.pid e ≡ true
acted_own (Answer p place) r e is = answer_own r (pick (want.Place place) r.queue) e is
acted_own (Common (act.Receive p w)) r e is = found_own r (pick w r.queue) e is
acted_own (Common (act.Send p q v)) r e is =
    own_report r.pid kind.Send (Some q) (send_own r.pid q) (after_stamp r.pid r.local).token
    (stamp_from r.pid r.local) r.local.traced v e is
acted_own (Common (act.Print p v)) r e is = print_report_own r v e is
acted_own (Common (act.PrintAt p n v)) r e is =
    print_at_either (λ (done : Acted). done.report ≡ Some e → is_own r.pid e ≡ true) r p n v
    (print_report_own r v e) (λ at. absurd (none-some e at)) is
acted_own (Common a) r e is = absurd (none-some e is)

-- each event is its actor's own
pub report_own : (s : State) (a : NodeAct) (o : Outcome) → NodeStepped s a o → (e : Event)
    → o.report ≡ Some e
    → is_own (node_actor a) e ≡ true
report_own s a o t e is =
    let told = ap (λ (x : Acted). x.report) t.is_done
    ∙ ap (λ (x : Outcome). x.report) t.is_outcome ∙ is in
    subst (λ p. is_own p e ≡ true) (process_pid s (node_actor a) t.before t.is_before)
    (acted_own a t.before e told)
