-- An act of one process changes only its record, and a send also one queue. So for each kind of
-- act the definition's step is what the code writes at one or two numbers of the rows.
use Rattle.std.proofs.Common.{IsSome, ◌≡◌, ℕ, ◌<◌, true, false, List, [], ◌∷◌, ◌++◌, map, length}
use Rattle.std.proofs.Common.{get_or, set, All}
use Rattle.std.proofs.Common.{Option, Some, None, position, refl, sym, ◌∙◌, ap, arith}
use Rattle.std.specs.Option.{ForSome}
use Rattle.std.proofs.lemmas.List.{length-set, get_or_default}
use Rattle.std.proofs.lemmas.List.Elements.{All-weaker}
use Rattle.st_core.specs.declared.types.Pid.{Pid}
use Rattle.st_core.specs.declared.types.Message.{Message}
use Rattle.st_core.specs.declared.types.Token.{Token}
use Rattle.st_core.specs.declared.types.Want.{Want}
use Rattle.st_core.specs.declared.types.Act.{Act}
use Rattle.st_core.specs.declared.types.Act.TheVariants as act
use Rattle.st_core.specs.declared.types.Kind.TheVariants as kind
use Rattle.st_core.specs.declared.types.Reply.{Reply}
use Rattle.st_core.specs.declared.types.Reply.TheVariants as reply
use Rattle.st_core.specs.Laws.{IsStamped, IsSound}
use Rattle.st_core.specs.Local.{IsMeetable}
use Rattle.st_core.specs.Pid.{pid_eq}
use Rattle.st_core.specs.State.{LocalState, Process, State, process, zero_local}
use Rattle.st_core.specs.Stamp.{stamp_any}
use Rattle.st_core.specs.Report.{report}
use Rattle.st_core.specs.Step.{Acted, acted, actor, receiver, reached, answers, step}
use Rattle.st_core.proofs.ForCallers.{All_at, pid_eq-same}
use Rattle.st_mail.specs.Actor.{process_of, part_of, is_inner, QueueFits, ActsOutside}
use Rattle.st_mail.specs.declared.outcome.Outcome.{Outcome as Told}
use Rattle.st_world.specs.Rows.{state_of, AreAligned}
use Rattle.st_world.specs.World.{outcome_to}
use Rattle.st_world.proofs.States.{StandsAt, AreApart, map_one, map_same, map_agree, set_back}
use Rattle.st_world.proofs.States.{step_own, step_full}
use Rattle.st_world.proofs.RowLemmas.{apart_rows, stands, number_within, set_stands, set_local}
use Rattle.st_world.proofs.RowLemmas.{set_queue}

-- an act that touches no queue reaches no process
reached_inner : (a : Act) (t : Option Token) (x : Process) → is_inner a ≡ true → reached a t x ≡ x
reached_inner (act.Send p q v) t x h = absurd (cc)
reached_inner (act.Receive p w) t x h = absurd (cc)
reached_inner (act.Reset p) t x h = absurd (cc)
reached_inner (act.Tracer p b) t x h = absurd (cc)
reached_inner a t x h = refl

pub receiver_inner : (a : Act) → is_inner a ≡ true → receiver a ≡ actor a
receiver_inner (act.Send p q v) h = absurd (cc)
receiver_inner (act.Receive p w) h = absurd (cc)
receiver_inner (act.Reset p) h = absurd (cc)
receiver_inner (act.Tracer p b) h = absurd (cc)
receiver_inner a h = refl

-- the message of a send
abbrev pub mail : Pid → ℕ → LocalState → Message
mail p v l = record { from = p; value = v; token = l.token }

-- a send adds its message to the receiver's queue, and reaches nothing else
reached_send : (s : State) (p q : Pid) (v : ℕ) (t : Option Token) (j : ℕ) (r : Process) → AreApart s
    → StandsAt s q j r
    → map (reached (act.Send p q v) t) s
    ≡ set s j (record r { queue = r.queue ++ record { from = p; value = v; token = t } ∷ [] })
reached_send s p q v t j r apart there =
    let f : Process → Process = reached (act.Send p q v) t in
    let after : Process = record r {
      queue = r.queue ++ record { from = p; value = v; token = t }
          ∷ [];
    } in
    let others : (x : Process) → pid_eq x.pid r.pid ≡ false
    → f x ≡ x = λ x other. rw (sym there.own, other) refl in
    let here : f r ≡ after = rw (sym there.own, pid_eq-same r.pid) refl in
    map_one s j r f apart there.at others ∙ ap (set s j) here

-- a token that was stamped can be met
stamped_fits : (top : ℕ) (p : Pid) (token : Option Token) → ForSome token (IsStamped top p)
    → IsMeetable top token
stamped_fits top p None stamped = tt
stamped_fits top p (Some t) stamped = (stamped t refl).within

module _ (top : ℕ) (ps : List Pid) (ls : List LocalState) (bs : List (List Message))
    (aligned : AreAligned ps ls bs) where
  -- q has the number i
  abbrev IsAt : Pid → ℕ → Type 0
  IsAt q i = position (λ p. pid_eq p q) ps ≡ Some i

  -- a process that has a number is in the state
  is_found : (q : Pid) (i : ℕ) → IsAt q i → (r : Process) × (process (state_of ps ls bs) q ≡ Some r)
  is_found q i at =
      let within : i < length ls = omega (arith, number_within ps q i at, aligned.locals_len) in
      let l : LocalState = get_or ls i zero_local in
      let here = stands ps ls bs aligned q i at l (get_or_default ls i zero_local l within) in
      (process_of q l (get_or bs i []), here.found)

  pub is_there : (q : Pid) (i : ℕ) → IsAt q i → IsSome (process (state_of ps ls bs) q)
  is_there q i at = rw (is_found q i at).1 refl

  -- a sound process can meet each token in its queue
  pub queue_fits : All (IsSound top) (state_of ps ls bs)
      → (q : Pid) (i : ℕ) (l : LocalState) → IsAt q i → l ≡ get_or ls i l
      → QueueFits top (get_or bs i [])
  queue_fits sound q i l at el =
      let here = stands ps ls bs aligned q i at l el in
      let whole = All_at (IsSound top) (state_of ps ls bs) i (process_of q l (get_or bs i []))
      here.at sound in
      let stamped = λ (m : Message). ForSome m.token (IsStamped top m.from) in
      All-weaker stamped (λ m. IsMeetable top m.token)
      (λ m is. stamped_fits top m.from m.token is) (get_or bs i []) whole.queued

  -- if the actor's part has no value, the act has no step
  pub full_act : (a : Act) (i : ℕ) (l : LocalState) → IsAt (actor a) i → l ≡ get_or ls i l
      → acted top (process_of (actor a) l (get_or bs i [])) a ≡ None
      → step top (state_of ps ls bs) a ≡ None
  full_act a i l at el full =
      let here = stands ps ls bs aligned (actor a) i at l el in
      step_full top (state_of ps ls bs) a (process_of (actor a) l (get_or bs i [])) here.found full

  -- the step of an act that reaches only its actor, written at the actor's number
  step_alone : (a : Act) (i : ℕ) (l : LocalState) (told : Told) (l2 : LocalState)
      (b2 : List Message)
      → receiver a ≡ actor a → ((t : Option Token) (x : Process) → reached a t x ≡ x)
      → IsAt (actor a) i → l ≡ get_or ls i l
      → acted top (process_of (actor a) l (get_or bs i [])) a ≡ Some (part_of told l2 b2)
      → step top (state_of ps ls bs) a
      ≡ Some (outcome_to told (set (state_of ps ls bs) i (process_of (actor a) l2 b2)))
  step_alone a i l told l2 b2 same none at el acts =
      let s : State = state_of ps ls bs in
      let r : Process = process_of (actor a) l (get_or bs i []) in
      let new : Process = process_of (actor a) l2 b2 in
      let here = stands ps ls bs aligned (actor a) i at l el in
      let there : process (state_of ps ls bs) (receiver a) ≡ Some r = rw same here.found in
      let apart = apart_rows ps ls bs aligned.rising in
      step_own top s a i r r (part_of told l2 b2) new apart here there acts refl
      ∙ ap (λ (x : State). Some (outcome_to told x))
      (map_same (reached a l2.token) (set s i new) (none l2.token))

  -- the step of an act that touches no queue
  pub step_inner : (a : Act) (i : ℕ) (l : LocalState) (told : Told) (l2 : LocalState)
      → is_inner a ≡ true → IsAt (actor a) i → l ≡ get_or ls i l
      → ActsOutside top a (actor a) l l2 told
      → step top (state_of ps ls bs) a ≡ Some (outcome_to told (state_of ps (set ls i l2) bs))
  step_inner a i l told l2 inner at el acts =
      step_alone a i l told l2 (get_or bs i []) (receiver_inner a inner)
      (λ t x. reached_inner a t x inner)
      at el (acts (get_or bs i []))
      ∙ ap (λ (x : State). Some (outcome_to told x))
      (sym (set_local ps ls bs aligned (actor a) i at l2))

  -- the step of a receive
  pub step_receive : (p : Pid) (w : Want) (i : ℕ) (l : LocalState) (told : Told) (l2 : LocalState)
      (b2 : List Message)
      → IsAt p i → l ≡ get_or ls i l
      → acted top (process_of p l (get_or bs i [])) (act.Receive p w) ≡ Some (part_of told l2 b2)
      → step top (state_of ps ls bs) (act.Receive p w)
      ≡ Some (outcome_to told (state_of ps (set ls i l2) (set bs i b2)))
  step_receive p w i l told l2 b2 at el acts =
      step_alone (act.Receive p w) i l told l2 b2 refl (λ t x. refl) at el acts
      ∙ ap (λ (x : State). Some (outcome_to told x))
      (sym (set_stands ps ls bs aligned p i at l2 b2))

  -- a send whose stamp has no value has no step
  pub full_send : (p q : Pid) (v : ℕ) (i : ℕ) (l : LocalState)
      → IsAt p i → l ≡ get_or ls i l → stamp_any top p l ≡ None
      → step top (state_of ps ls bs) (act.Send p q v) ≡ None
  full_send p q v i l at el full = full_act (act.Send p q v) i l at el (rw full refl)

  -- the step of an act on a node
  pub step_node : (a : Act) (i : ℕ) (l : LocalState) (y : Reply)
      → receiver a ≡ actor a → ((t : Option Token) (x : Process) → reached a t x ≡ reached a None x)
      → IsAt (actor a) i → l ≡ get_or ls i l
      → acted top (process_of (actor a) l (get_or bs i [])) a
      ≡ Some (answers (process_of (actor a) l (get_or bs i [])) l y)
      → step top (state_of ps ls bs) a
      ≡ Some (record {
        reply = y;
        report = None;
        place = None;
        after =
            map (reached a None) (state_of ps ls bs);
      })
  step_node a i l y same any at el acts =
      let s : State = state_of ps ls bs in
      let r : Process = process_of (actor a) l (get_or bs i []) in
      let here = stands ps ls bs aligned (actor a) i at l el in
      let there : process (state_of ps ls bs) (receiver a) ≡ Some r = rw same here.found in
      let back = set_back s i r here.at in
      let after : map (reached a l.token) (set s i r) ≡ map (reached a None) s =
      ap (map (reached a l.token)) back ∙ map_agree (reached a l.token) (reached a None) s
      (any l.token) in
      step_own top s a i r r (answers r l y) r (apart_rows ps ls bs aligned.rising) here there acts
      refl
      ∙ ap (λ (x : State). Some (record { reply = y; report = None; place = None; after = x }))
      after

-- the outcome of a send
abbrev pub told_of_send : Pid → ℕ → LocalState → LocalState → Told
told_of_send q v l l2 = record {
  reply = reply.Done;
  report = report l.traced kind.Send l2.token (Some q) v;
  place = None;
}

-- the step of a send: the actor's part, and then the message at the end of the receiver's queue
pub step_send
    : (top : ℕ) (ps : List Pid) (ls : List LocalState) (bs : List (List Message))
    (aligned : AreAligned ps ls bs)
    → (p q : Pid) (v : ℕ) (i j : ℕ) (l l2 : LocalState)
    → position (λ x. pid_eq x p) ps ≡ Some i → position (λ x. pid_eq x q) ps ≡ Some j
    → l ≡ get_or ls i l → stamp_any top p l ≡ Some l2
    → step top (state_of ps ls bs) (act.Send p q v)
    ≡ Some (outcome_to (told_of_send q v l l2)
    (state_of ps (set ls i l2) (set bs j (get_or bs j [] ++ mail p v l2 ∷ []))))
step_send top ps ls bs aligned p q v i j l l2 from to el stamped =
    let s : State = state_of ps ls bs in
    let r : Process = process_of p l (get_or bs i []) in
    let own : Process = process_of p l2 (get_or bs i []) in
    let done : Acted = part_of (told_of_send q v l l2) l2 (get_or bs i []) in
    let acts : acted top r (act.Send p q v) ≡ Some done = rw stamped refl in
    let here = stands ps ls bs aligned p i from l el in
    let there = is_found top ps ls bs aligned q j to in
    let ls2 : List LocalState = set ls i l2 in
    let written : AreAligned ps ls2 bs = record {
      rising = aligned.rising;
      locals_len = length-set ls i l2 ∙ aligned.locals_len;
      queues_len = aligned.queues_len;
    } in
    let within : j < length ls2 = omega (arith, number_within ps q j to, written.locals_len) in
    let m : LocalState = get_or ls2 j zero_local in
    let em : m ≡ get_or ls2 j m = get_or_default ls2 j zero_local m within in
    let queue : List Message = get_or bs j [] in
    let more : List Message = get_or bs j [] ++ mail p v l2 ∷ [] in
    let sends : Process → Process = reached (act.Send p q v) l2.token in
    let receiver_there = stands ps ls2 bs written q j to m em in
    let reach : map (reached (act.Send p q v) l2.token) (set s i own)
    ≡ state_of ps ls2 (set bs j more) =
    ap (map sends) (sym (set_local ps ls bs aligned p i from l2))
    ∙ reached_send (state_of ps ls2 bs) p q v l2.token j (process_of q m queue)
    (apart_rows ps ls2 bs aligned.rising) receiver_there
    ∙ sym (set_queue ps ls2 bs written q j to m more em) in
    step_own top s (act.Send p q v) i r there.0 done own (apart_rows ps ls bs aligned.rising) here
    there.1 acts refl
    ∙ ap (λ (x : State). Some (outcome_to (told_of_send q v l l2) x)) reach
