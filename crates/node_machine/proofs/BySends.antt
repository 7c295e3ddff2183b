-- Each act keeps the claim that the origin of the process's token is among those that its stamps
-- and the sends to it allow: so the claim holds at each of its stamps.
use Rattle.std.proofs.Common.{◌≡◌, ℕ, ◌+◌, ◌⊎◌, true, false, List, [], ◌∷◌, ◌++◌, map, length}
use Rattle.std.proofs.Common.{Option, Some, None, IsSome, inl, inr, refl, arith, sym, ◌∙◌, ap}
use Rattle.std.proofs.Common.{subst, append_assoc, append-nil, if◌then◌else◌}
use Rattle.std.specs.List.{slice_get, AllByRecursion}
use Rattle.std.proofs.lemmas.Option.{same_Some, none-some}
use Rattle.st_core.specs.declared.types.Pid.{Pid}
use Rattle.st_core.specs.declared.types.Token.{Token}
use Rattle.st_core.specs.declared.types.Kind.TheVariants as kind
use Rattle.st_core.specs.declared.types.Event.{Event}
use Rattle.st_core.specs.Event.{kind_eq}
use Rattle.st_core.specs.Pid.{pid_eq}
use Rattle.st_core.specs.State.{LocalState, State, process, zero_local, zero_state}
use Rattle.st_core.specs.Step.{Outcome}
use Rattle.st_core.proofs.ForCallers.{local_found, local_in, pid_same, zero_found}
use Rattle.node_machine.specs.Counts.{serial_count}
use Rattle.node_machine.specs.Node.{node_actor, node_run, node_run_from, NodeAct}
use Rattle.node_machine.specs.Premises.{IsAmong, NoNodeReset}
use Rattle.node_machine.specs.Given.{fresh}
use Rattle.node_machine.specs.Origins.{Held, held_in, Home, TokenOrigin}
use Rattle.node_machine.specs.ByMessages.{CanBeClock, CanBeHeld, CanBySends, clock_at_zero}
use Rattle.node_machine.specs.ByMessages.{held_now, LabelRule, made_at_zero, no_past}
use Rattle.node_machine.specs.ByMessages.{OriginsAreBySends, Past, ReportsStamps, send_in, SendsTo}
use Rattle.node_machine.specs.ByMessages.{stamp_in, stamp_origins, stamp_stream, taken_by}
use Rattle.node_machine.specs.ByMessages.{taken_found}
use Rattle.node_machine.proofs.Brings.{Brings, gifts_taken, node_brings, PartBrings}
use Rattle.node_machine.proofs.Counts.{serial_same}
use Rattle.node_machine.proofs.Lists.{all_append, all_change, item_behind, length_more, length_push}
use Rattle.node_machine.proofs.Lists.{AllAlong, along_at}
use Rattle.node_machine.proofs.Steps.{of_token, actor_found, actor_same, node_run_parts}
use Rattle.node_machine.proofs.Steps.{node_step_parts, other_same, SameButTraced}
use Rattle.node_machine.proofs.HeldBySends.{AreGifts, AreKnown, HasTokens, InForce, IsKnown}
use Rattle.node_machine.proofs.HeldBySends.{IsSmall, JustStamped, hold_later, in_force_more}
use Rattle.node_machine.proofs.HeldBySends.{in_force_same, known_more, next_just, next_known}
use Rattle.node_machine.proofs.HeldBySends.{next_tokens, now_can, told_more}

module _ (sent : SendsTo) (rule : LabelRule) (all : List Event) where
  abbrev Can : ℕ → TokenOrigin → Type 0
  Can = CanBySends sent rule all

  abbrev AllCan : ℕ → List Event → List TokenOrigin → Type 0
  AllCan = AllAlong (λ n _ h. Can n h)

  held_later : (es more taken new : List Event) (held : List Held)
      → AllByRecursion (IsKnown sent rule all es taken) held
      → AllByRecursion (IsKnown sent rule all (es ++ more) (taken ++ new)) held
  held_later es more taken new held known =
      all_change (IsKnown sent rule all es taken) (IsKnown sent rule all (es ++ more) (taken ++
      new))
      (λ x is. (
        hold_later sent rule all (length es) (length (es ++ more)) x.serial x.label x.origin
            (length_more es more) is.0,
        told_more sent rule all es more taken new x.serial is.1,
      )) held known

  known_traced : (es taken : List Event) (l m : LocalState) → SameButTraced l m
      → AreKnown sent rule all es taken l → AreKnown sent rule all es taken m
  known_traced es taken l m same are = record {
    clock = subst (λ n. CanBeClock sent es (serial_count n)) (sym same.clock) are.clock;
    small = subst (IsSmall sent rule all) (sym same.clock) are.small;
    last = subst (λ n. CanBeHeld sent es taken (fresh n)) (sym same.last) are.last;
  }

  stamp_shape : (report : Option Event)
      → (stamp_in report ≡ []) ⊎ ((e : Event) × (stamp_in report ≡ e ∷ []))
  stamp_shape None = inl refl
  stamp_shape (Some e) = elim e.kind as (λ k. (let told : List Event =
      if kind_eq k kind.Receive then [] else e ∷ [] in
      (told ≡ []) ⊎ ((d : Event) × (told ≡ d ∷ [])))) [
        | kind.Send ↦ inr (e, refl)
        | kind.Receive ↦ inl refl
        | kind.Print ↦ inr (e, refl)
      ]

  send_stamp : (report : Option Event) (request : Event) → send_in report ≡ Some request
      → stamp_in report ≡ request ∷ []
  send_stamp None request is = absurd (none-some request is)
  send_stamp (Some e) request is = (elim e.kind as (λ k.
      (if kind_eq k kind.Send then Some e else None) ≡ Some request
      → (let told : List Event = if kind_eq k kind.Receive then [] else e ∷ [] in
      told ≡ request ∷ [])) [
        | kind.Send ↦ λ at. ap (λ (x : Event). x ∷ []) (same_Some e request at)
        | kind.Receive ↦ λ at. absurd (none-some request at)
        | kind.Print ↦ λ at. absurd (none-some request at)
      ]) is

  can_part : (es told tail : List Event) (now : TokenOrigin) (later : List TokenOrigin)
      → (told ≡ []) ⊎ ((e : Event) × (told ≡ e ∷ []))
      → ((e : Event) → told ≡ e ∷ [] → Can (length es) now)
      → AllCan (length (es ++ told)) tail later
      → AllCan (length es) (told ++ tail) (map (λ _. now) told ++ later)
  can_part es told tail now later (inl none) can rest =
      subst (λ xs. AllCan (length es) (xs ++ tail) (map (λ _. now) xs ++ later)) (sym none)
      (subst (λ n. AllCan n tail later)
      (ap length (ap (λ xs. es ++ xs) none ∙ append-nil es)) rest)
  can_part es told tail now later (inr (e, is)) can rest =
      subst (λ xs. AllCan (length es) (xs ++ tail) (map (λ _. now) xs ++ later)) (sym is) (
        can e is,
        subst (λ n. AllCan n tail later)
            (ap (λ xs. length (es ++ xs)) is ∙ length_push es e) rest,
      )

  can_from : (s : State) (acts : List NodeAct) (os : List Outcome) (hs : List TokenOrigin) (p : Pid)
      (past : Past)
      → all ≡ past.stamped ++ stamp_stream acts os p → node_run_from s acts ≡ Some os
      → NoNodeReset acts → ReportsStamps p s acts os
      → OriginsAreBySends sent rule p past s acts os hs → AreGifts sent rule all past.taken
      → AllByRecursion (IsKnown sent rule all past.stamped past.taken) past.held
      → AreKnown sent rule all past.stamped past.taken (local_in s p)
      → HasTokens sent rule all past.stamped past.taken (local_in s p) past.origin
      → ((request : Event) → past.asked ≡ Some request → (t : Token)
      → (local_in s p).token ≡ Some t
      → JustStamped sent rule all past.stamped request t.label past.origin)
      → AllCan (length past.stamped) (stamp_stream acts os p) (stamp_origins acts os hs p)
  can_from s [] os hs p past split h none told parts gifts known are has just = tt
  can_from s (a ∷ acts) [] hs p past split h none told parts gifts known are has just = tt
  can_from s (a ∷ acts) (o ∷ os) [] p past split h none told parts gifts known are has just =
      absurd parts
  can_from s (a ∷ acts) (o ∷ os) (now ∷ hs) p past split h none told parts gifts known are has
      just =
      let run = node_run_parts s a acts (o ∷ os) h in
      let x = node_step_parts s a o run.0 in
      let es = past.stamped in
      let taken = past.taken in
      let tail = stamp_stream acts os p in
      let later = stamp_origins acts os hs p in
      let holds = held_now p s past in
      let have : AllByRecursion (IsKnown sent rule all es taken) holds =
      all_append (IsKnown sent rule all es taken) past.held (held_in s p past.origin) known
      (of_token (IsKnown sent rule all es taken) (λ (t : Token). let y : Held =
      record { serial = t.serial; label = t.label; origin = past.origin } in y) (process s p)
      (λ t is. ((has t is).can, (has t is).told))) in
      let new = taken_found (process s p) a in
      elim (pid_eq (node_actor a) p) as (λ b. pid_eq (node_actor a) p ≡ b
      → all ≡ es ++ ((if b then stamp_in o.report else []) ++ tail)
      → (let next : Past = record {
        stamped = es ++ (if b then stamp_in o.report else []);
        taken = taken ++ (if b then new else []);
        held = holds;
        asked = if b then send_in o.report else past.asked;
        origin = now;
      } in OriginsAreBySends sent rule p next o.after acts os hs)
      → AllCan (length es) ((if b then stamp_in o.report else []) ++ tail)
      (map (λ _. now) (if b then stamp_in o.report else []) ++ later)) [
        | true ↦ λ mine here are_later.
            let who = pid_same (node_actor a) p mine in
            let found = actor_found s a o x none.0 p mine in
            let r = x.before in
            let line = stamp_in o.report in
            let same : x.done.report ≡ o.report = ap (λ (y : Outcome). y.report) x.is_outcome in
            let after = parts.0 who r found in
            let is_new : taken_by r a ≡ new = ap (λ f. taken_found f a) (sym found) in
            let brings : Brings sent rule past holds now new r.local x.done.local line =
            subst (λ xs. Brings sent rule past holds now xs r.local x.done.local line) is_new
            (subst (λ y. Brings sent rule past holds now (taken_by r a) r.local x.done.local
            (stamp_in y)) same
            (subst (PartBrings sent rule past holds now a r) x.is_done
            (node_brings sent rule past holds now a r)
            (λ moved. subst IsSome (sym same) (told.0 who r found moved)) after)) in
            let there : (e : Event) → line ≡ e ∷ [] → slice_get all (length es) ≡ Some e =
            λ e is. ap (λ ys. slice_get ys (length es))
            (here ∙ ap (λ xs. es ++ (xs ++ tail)) is) ∙ item_behind es tail e in
            let was = subst (AreKnown sent rule all es taken) (ap local_found found) are in
            let had = subst (λ l. HasTokens sent rule all es taken l past.origin) (ap local_found
            found) has in
            let asked : (request : Event) → past.asked ≡ Some request → (u : Token)
            → r.local.token ≡ Some u
            → JustStamped sent rule all es request u.label past.origin =
            λ request is u at.
            just request is u (ap (λ y. (local_found y).token) found ∙ at) in
            let to = actor_same s a o x none.0 p mine in
            let next : Past = record {
              stamped = es ++ line;
              taken = taken ++ new;
              held = holds;
              asked = send_in o.report;
              origin = now;
            } in
            let more_gifts : AreGifts sent rule all (taken ++ new) =
            all_append (IsAmong sent.gifts) taken new gifts
            (subst (AreGifts sent rule all) is_new (gifts_taken sent rule past holds now a r
            after)) in
            let tokens : HasTokens sent rule all (es ++ line) (taken ++ new) (local_in o.after p)
            now =
            λ u is. in_force_same sent rule all (es ++ line) (taken ++ new) x.done.local
            (local_in o.after p) u u
            now now to.clock to.last refl refl refl
            (next_tokens sent rule all past holds (line ++ tail) new r.local x.done.local line
            now here there
            gifts was have had asked brings u (sym to.token ∙ is)) in
            let counts = known_traced (es ++ line) (taken ++ new) x.done.local
            (local_in o.after p) to
            (next_known sent rule all past holds (line ++ tail) new r.local x.done.local line now
            here there
            gifts was have had asked brings) in
            let just_later : (request : Event) → send_in o.report ≡ Some request → (u : Token)
            → (local_in o.after p).token ≡ Some u
            → JustStamped sent rule all (es ++ line) request u.label now =
            λ request is u at.
            next_just sent rule all past holds (line ++ tail) new r.local x.done.local line now
            here there gifts
            was have had asked brings request (send_stamp o.report request is) u
            (sym to.token ∙ at) in
            let rest = can_from o.after acts os hs p next
            (here ∙ sym (append_assoc es line tail)) run.1 none.1 told.1 are_later more_gifts
            (held_later es line taken new holds have) counts tokens just_later in
            can_part es line tail now later (stamp_shape o.report)
            (now_can sent rule all past holds (line ++ tail) new r.local x.done.local line now
            here there gifts
            was have had asked brings) rest
        | false ↦ λ other here are_later.
            let to = other_same s a o x none.0 p other in
            let same = parts.1 other in
            let next : Past = record {
              stamped = es ++ [];
              taken = taken ++ [];
              held = holds;
              asked = past.asked;
              origin = now;
            } in
            let more_gifts : AreGifts sent rule all (taken ++ []) =
            subst (AreGifts sent rule all) (sym (append-nil taken)) gifts in
            let tokens : HasTokens sent rule all (es ++ []) (taken ++ []) (local_in o.after p)
            now = λ u is.
            subst (λ xs. InForce sent rule all xs (taken ++ []) (local_in o.after p) u now)
            (sym (append-nil es))
            (in_force_same sent rule all es (taken ++ []) (local_in s p) (local_in o.after p) u u
            past.origin now
            to.clock to.last refl refl same
            (in_force_more sent rule all es taken [] (local_in s p) u past.origin (has u (sym
            to.token ∙ is))))
            in
            let just_later : (request : Event) → past.asked ≡ Some request → (u : Token)
            → (local_in o.after p).token ≡ Some u
            → JustStamped sent rule all (es ++ []) request u.label now = λ request is u at.
            subst (λ xs. JustStamped sent rule all xs request u.label now) (sym (append-nil es))
            (subst (JustStamped sent rule all es request u.label) (sym same)
            (just request is u (sym to.token ∙ at))) in
            let rest = can_from o.after acts os hs p next
            (here ∙ sym (append_assoc es [] tail)) run.1 none.1 told.1 are_later more_gifts
            (held_later es [] taken [] holds have)
            (known_more sent rule all es [] taken [] (local_in s p) (local_in o.after p) to.clock
            to.last are)
            tokens just_later in
            can_part es [] tail now later (inl refl)
            (λ e is. absurd (none-some e (ap (λ (xs : List Event). slice_get xs 0) is))) rest
      ] refl split parts.2

  zero_known : AreKnown sent rule all [] [] zero_local
  zero_known = record {
    clock = subst (CanBeClock sent []) (sym (serial_same 0 (omega arith))) clock_at_zero;
    small = inl (omega arith);
    last = made_at_zero;
  }

pub origins_by_sends : (pids : List Pid) (acts : List NodeAct) (os : List Outcome)
    → node_run pids acts ≡ Some os → NoNodeReset acts → (p : Pid)
    → ReportsStamps p (zero_state pids) acts os
    → (sent : SendsTo) (rule : LabelRule) (hs : List TokenOrigin)
    → OriginsAreBySends sent rule p no_past (zero_state pids) acts os hs
    → (i : ℕ) (e : Event) (h : TokenOrigin) → slice_get (stamp_stream acts os p) i ≡ Some e
    → slice_get (stamp_origins acts os hs p) i ≡ Some h
    → CanBySends sent rule (stamp_stream acts os p) i h
origins_by_sends pids acts os run none p tells sent rule hs origins i e h at is =
    let all = stamp_stream acts os p in
    let empty : HasTokens sent rule all [] [] (local_in (zero_state pids) p) Home =
    (λ t is. absurd (none-some t
    (sym (ap (λ (l : LocalState). l.token) (zero_found pids p)) ∙ is))) in
    let whole = can_from sent rule all (zero_state pids) acts os hs p no_past refl run none tells
    origins tt tt (subst (AreKnown sent rule all [] []) (sym (zero_found pids p))
    (zero_known sent rule all)) empty (λ request asks. absurd (none-some request asks)) in
    let found = along_at (λ n _ h. CanBySends sent rule all n h) 0 all (stamp_origins acts os hs p)
    i e h whole at is in
    let same : 0 + i ≡ i = omega arith in
    subst (λ k. CanBySends sent rule all k h) same found
