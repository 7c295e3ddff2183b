-- An act does the same if its process is traced and all flags are set, since acts look at the
-- tracer and the flags only to report; so the act then reports its event.
use Rattle.std.proofs.Common.{◌≡◌, ℕ, ◌+◌, ◌&&◌, zero, suc, Bool, true, false, cond, nat_lt, List}
use Rattle.std.proofs.Common.{[], ◌∷◌, ◌++◌, map, Option, Some, None, is_some, IsSome, option_map}
use Rattle.std.proofs.Common.{option_and_then, refl, sym, ◌∙◌, ap, subst}
use Rattle.std.specs.Option.{option_map_or}
use Rattle.std.specs.List.{remove}
use Rattle.std.proofs.lemmas.Bool.{false≢true}
use Rattle.std.proofs.lemmas.List.{map-append}
use Rattle.std.proofs.lemmas.Option.{same_Some, none-some, cond_some, option_and_then_some}
use Rattle.st_core.specs.declared.types.Pid.{Pid}
use Rattle.st_core.specs.declared.types.Label.{Label}
use Rattle.st_core.specs.declared.types.Token.{Token}
use Rattle.st_core.specs.declared.types.Message.{Message}
use Rattle.st_core.specs.declared.types.Kind.{Kind}
use Rattle.st_core.specs.declared.types.Event.{Event}
use Rattle.st_core.specs.declared.types.Want.{Want}
use Rattle.st_core.specs.declared.types.Act.{Act}
use Rattle.st_core.specs.Pid.{pid_eq, node_eq}
use Rattle.st_core.specs.State.{LocalState, Process}
use Rattle.st_core.specs.Stamp.{stamp, stamp_any, stamped_token}
use Rattle.st_core.specs.Local.{received, has_label}
use Rattle.st_core.specs.Pick.{matches, pick, pick_from}
use Rattle.st_core.specs.Report.{flag_of, report, token_event}
use Rattle.st_core.specs.Step.{Acted, acted, actor, answers, changed, prints, reached, receiver}
use Rattle.st_core.specs.Step.{receives, sends}
use Rattle.st_core.specs.Laws.{is_reset, moves_token}
use Rattle.st_core.specs.declared.types.Kind.TheVariants as kind
use Rattle.st_core.specs.declared.types.Want.TheVariants as want
use Rattle.st_core.specs.declared.types.Act.TheVariants as act
use Rattle.st_core.specs.declared.types.Reply.TheVariants as reply
use Rattle.st_core.proofs.ForCallers.{mapped}
use Rattle.lack_laws.specs.Wholes.{event_by, loud, loud_local, loud_message, loud_token}

-- STAMPS AND REPORTS

stamp_loud : (top : ℕ) (p : Pid) (l : LocalState) → stamp top p (loud_local l)
    ≡ option_map loud_local (stamp top p l)
stamp_loud top p l =
    let made = λ (b : Bool) (t : Token). let m : LocalState =
    record { token = Some (stamped_token p l t); clock = l.clock + 1; last = l.last; traced = b } in
    cond (nat_lt l.clock top) (Some m) None in
    elim l.token as (λ token. option_and_then (made true) (option_map loud_token token)
    ≡ option_map loud_local (option_and_then (made l.traced) token)) [
      | None ↦ refl
      | Some t ↦ elim (nat_lt l.clock top) as (λ b. cond b (Some (let m : LocalState = record {
        token = Some (stamped_token p l (loud_token t));
        clock = l.clock + 1;
        last = l.last;
        traced = true;
      } in m)) None ≡ option_map loud_local (cond b (Some (let m : LocalState = record {
        token = Some (stamped_token p l t);
        clock = l.clock + 1;
        last = l.last;
        traced = l.traced;
      } in m)) None)) [ true ↦ refl | false ↦ refl ]
    ]

any_loud : (top : ℕ) (p : Pid) (l : LocalState)
    → stamp_any top p (loud_local l) ≡ option_map loud_local (stamp_any top p l)
any_loud top p l =
    let here = stamp top p l in
    let there = stamp top p (loud_local l) in
    elim l.token as (λ token. cond (is_some (option_map loud_token token)) there
    (Some (loud_local l))
    ≡ option_map loud_local (cond (is_some token) here (Some l)))
    [ None ↦ refl | Some t ↦ stamp_loud top p l ]

stamped_some : (top : ℕ) (p : Pid) (l m : LocalState) → stamp top p l ≡ Some m
    → is_some m.token ≡ true
stamped_some top p l m h =
    let made = λ (t : Token). let m : LocalState =
    record l { token = Some (stamped_token p l t); clock = l.clock + 1 } in m in
    option_and_then_some (λ t. cond (nat_lt l.clock top) (Some (made t)) None) l.token m h
    (λ t _ at.
    subst (λ (x : LocalState). is_some x.token ≡ true)
    (cond_some (nat_lt l.clock top) (made t) m at).1 refl)

any_some : (top : ℕ) (p : Pid) (l m : LocalState) → stamp_any top p l ≡ Some m
    → is_some (option_map loud_token l.token) ≡ true → is_some m.token ≡ true
any_some top p l m h had =
    let here = stamp top p l in
    elim l.token as (λ token. cond (is_some token) here (Some l) ≡ Some m
    → is_some (option_map loud_token token) ≡ true → is_some m.token ≡ true) [
      | None ↦ λ h had. absurd (false≢true had)
      | Some t ↦ λ h had. stamped_some top p l m h
    ] h had

report_says : (k : Kind) (t : Token) (to : Option Pid) (v : ℕ)
    → report true k (Some (loud_token t)) to v ≡ Some (token_event k t to v)
report_says kind.Send t to v = refl
report_says kind.Receive t to v = refl
report_says kind.Print t to v = refl

report_loud : (traced : Bool) (k : Kind) (token : Option Token) (to : Option Pid) (v : ℕ)
    (e : Event)
    → report traced k token to v ≡ Some e → report true k (option_map loud_token token) to v
    ≡ Some e
report_loud traced k None to v e h = absurd (none-some e h)
report_loud traced k (Some t) to v e h =
    report_says k t to v
    ∙ ap (λ (x : Event). Some x)
    (cond_some (traced && flag_of k t.flags) (token_event k t to v) e h).1

report_some : (k : Kind) (token : Option Token) (to : Option Pid) (v : ℕ) → is_some token ≡ true
    → IsSome (report true k (option_map loud_token token) to v)
report_some k None to v h = absurd (false≢true h)
report_some k (Some t) to v h = ap (λ (o : Option Event). is_some o) (report_says k t to v)

label_loud : (n : Label) (token : Option Token) → has_label n (option_map loud_token token)
    ≡ has_label n token
label_loud n None = refl
label_loud n (Some t) = refl

received_loud : (l : LocalState) (token : Option Token)
    → received (loud_local l) (option_map loud_token token) ≡ loud_local (received l token)
received_loud l None = refl
received_loud l (Some t) = refl

-- QUEUES

matches_loud : (w : Want) (k : ℕ) (m : Message) → matches w k (loud_message m) ≡ matches w k m
matches_loud want.First k m = refl
matches_loud (want.From q) k m = refl
matches_loud (want.Value v) k m = refl
matches_loud (want.Both q v) k m = refl
matches_loud (want.Place n) k m = refl

abbrev loud_found : ℕ × Message → ℕ × Message
loud_found x = (x.0, loud_message x.1)

pick_loud : (k : ℕ) (w : Want) (ms : List Message)
    → pick_from k w (map loud_message ms) ≡ option_map loud_found (pick_from k w ms)
pick_loud k w [] = refl
pick_loud k w (m ∷ ms) =
    let rest = pick_from (k + 1) w (map loud_message ms) in
    ap (λ b. cond b (Some (k, loud_message m)) rest) (matches_loud w k m)
    ∙ elim (matches w k m) as (λ b. cond b (Some (k, loud_message m)) rest
    ≡ option_map loud_found (cond b (Some (k, m)) (pick_from (k + 1) w ms))) [
      | true ↦ refl
      | false ↦ pick_loud (k + 1) w ms
    ]

remove_loud : (ms : List Message) (k : ℕ) → remove (map loud_message ms) k
    ≡ map loud_message (remove ms k)
remove_loud [] zero = refl
remove_loud [] (suc k) = refl
remove_loud (m ∷ ms) zero = refl
remove_loud (m ∷ ms) (suc k) = ap (λ xs. loud_message m ∷ xs) (remove_loud ms k)

-- THE ACTOR'S PART

-- the act that does to loud processes what the act did: it restores a loud token, and turns no
-- tracer off
abbrev pub louder : Act → Act
louder (act.Restore p t) = act.Restore p (loud_token t)
louder (act.Tracer p b) = act.Tracer p true
louder a = a

-- the louder act does the same to the loud process, and reports the event
pub record IsLouder (top : ℕ) (r : Process) (a : Act) (done : Acted) : Type 0 where
  pub part : Acted
  pub is_part : acted top (loud r) (louder a) ≡ Some part
  pub local : part.local ≡ loud_local done.local
  pub queue : part.queue ≡ map loud_message done.queue
  pub event : event_by top r a ≡ part.report
  pub agrees : (e : Event) → done.report ≡ Some e → part.report ≡ Some e
  pub moves : moves_token (loud r) (louder a) ≡ true → IsSome part.report

-- the act is a set, after which the machine makes a token without flags
abbrev pub is_set : Act → Bool
is_set (act.Set p c) = true
is_set a = false

abbrev pub report_of : Acted → Option Event
report_of done = done.report

module _ (top : ℕ) (a : Act) (r : Process) (was part done : Acted) (is : was ≡ done)
    (acts : acted top (loud r) (louder a) ≡ Some part) (local : part.local ≡ loud_local was.local)
    (queue : part.queue ≡ map loud_message was.queue) (event : event_by top r a ≡ part.report) where
  -- the louder act reports what the act reported, if it reported anything
  told_louder : (k : Kind) (token : Option Token) (to : Option Pid) (v : ℕ)
      → was.report ≡ report r.local.traced k token to v
      → part.report ≡ report true k (option_map loud_token token) to v
      → (moves_token (loud r) (louder a) ≡ true → is_some token ≡ true) → IsLouder top r a done
  told_louder k token to v told tells had = subst (IsLouder top r a) is (record {
    part = part;
    is_part = acts;
    local = local;
    queue = queue;
    event = event;
    agrees = λ e reported.
        tells ∙ report_loud r.local.traced k token to v e (sym told ∙ reported);
    moves = λ moves.
        ap (λ (o : Option Event). is_some o) tells ∙ report_some k token to v (had moves);
  })

  -- the louder act does the same if the act reports nothing and moves no token
  quiet_louder : was.report ≡ None → moves_token (loud r) (louder a) ≡ false → IsLouder top r a done
  quiet_louder silent still = subst (IsLouder top r a) is (record {
    part = part;
    is_part = acts;
    local = local;
    queue = queue;
    event = event;
    agrees = λ e reported. absurd (none-some e (sym silent ∙ reported));
    moves = λ moves. absurd (false≢true (sym still ∙ moves));
  })

had_token : (token : Option Token) → is_some (option_map loud_token token) ≡ true
    → is_some token ≡ true
had_token None h = h
had_token (Some t) h = h

-- the receive takes a message with a token
abbrev moved : Option (ℕ × Message) → Bool
moved found = option_map_or (λ (x : ℕ × Message). is_some x.1.token) found false

taken_louder : (top : ℕ) (p : Pid) (w : Want) (r : Process) (found : Option (ℕ × Message))
    → pick w r.queue ≡ found → IsLouder top r (act.Receive p w) (receives r found)
taken_louder top p w r None is =
    let none : pick w (map loud_message r.queue) ≡ None =
    pick_loud 0 w r.queue ∙ ap (option_map loud_found) is in
    let part = receives (loud r) None in
    let acts : acted top (loud r) (act.Receive p w) ≡ Some part =
    ap (λ (f : Option (ℕ × Message)). Some (receives (loud r) f)) none in
    quiet_louder top (act.Receive p w) r (receives r None) part (receives r None) refl acts refl
    refl (ap (option_and_then report_of) acts) refl (ap moved none)
taken_louder top p w r (Some found) is =
    let m = found.1 in
    let some : pick w (map loud_message r.queue) ≡ Some (loud_found found) =
    pick_loud 0 w r.queue ∙ ap (option_map loud_found) is in
    let done = receives r (Some found) in
    let part = receives (loud r) (Some (loud_found found)) in
    let acts : acted top (loud r) (act.Receive p w) ≡ Some part =
    ap (λ (f : Option (ℕ × Message)). Some (receives (loud r) f)) some in
    told_louder top (act.Receive p w) r done part done refl acts (received_loud r.local m.token)
    (remove_loud r.queue found.0) (ap (option_and_then report_of) acts) kind.Receive m.token
    (Some r.pid) m.value refl refl (λ moves. had_token m.token (sym (ap moved some) ∙ moves))

pub acted_louder : (top : ℕ) (a : Act) (r : Process) (done : Acted) → acted top r a ≡ Some done
    → is_set a ≡ false → IsLouder top r a done
acted_louder top (act.Send p q v) r done h other =
    let parts = mapped (sends r q v) (stamp_any top r.pid r.local) done h in
    let m = parts.0 in
    let acts : acted top (loud r) (act.Send p q v) ≡ Some (sends (loud r) q v (loud_local m)) =
    ap (option_map (sends (loud r) q v)) (any_loud top r.pid r.local
    ∙ ap (option_map loud_local) parts.1) in
    told_louder top (act.Send p q v) r (sends r q v m) (sends (loud r) q v (loud_local m)) done
    parts.2 acts refl refl (ap (option_and_then report_of) acts) kind.Send m.token (Some q) v refl
    refl (any_some top r.pid r.local m parts.1)
acted_louder top (act.Receive p w) r done h other =
    subst (IsLouder top r (act.Receive p w)) (same_Some _ done h)
    (taken_louder top p w r (pick w r.queue) refl)
acted_louder top (act.Print p v) r done h other =
    let parts = mapped (prints r v) (stamp_any top r.pid r.local) done h in
    let m = parts.0 in
    let acts : acted top (loud r) (act.Print p v) ≡ Some (prints (loud r) v (loud_local m)) =
    ap (option_map (prints (loud r) v)) (any_loud top r.pid r.local
    ∙ ap (option_map loud_local) parts.1) in
    told_louder top (act.Print p v) r (prints r v m) (prints (loud r) v (loud_local m)) done
    parts.2 acts refl refl (ap (option_and_then report_of) acts) kind.Print m.token None v refl
    refl (any_some top r.pid r.local m parts.1)
acted_louder top (act.PrintAt p n v) r done h other =
    let a = act.PrintAt p n v in
    let prints_at = λ (b : Bool). cond b (option_map (prints (loud r) v)
    (stamp top r.pid (loud_local r.local)))
    (Some (answers (loud r) (loud_local r.local) reply.Done)) in
    elim (has_label n r.local.token) as (λ b. has_label n r.local.token ≡ b
    → cond b (option_map (prints r v) (stamp top r.pid r.local))
    (Some (answers r r.local reply.Done)) ≡ Some done
    → IsLouder top r a done) [
      | true ↦ λ is h.
          let parts = mapped (prints r v) (stamp top r.pid r.local) done h in
          let m = parts.0 in
          let acts : acted top (loud r) a ≡ Some (prints (loud r) v (loud_local m)) =
          ap prints_at (label_loud n r.local.token ∙ is)
          ∙ ap (option_map (prints (loud r) v)) (stamp_loud top r.pid r.local
          ∙ ap (option_map loud_local) parts.1) in
          told_louder top a r (prints r v m) (prints (loud r) v (loud_local m)) done parts.2 acts
          refl refl (ap (option_and_then report_of) acts) kind.Print m.token None v refl refl
          (λ _. stamped_some top r.pid r.local m parts.1)
      | false ↦ λ is h.
          let was = answers r r.local reply.Done in
          let part = answers (loud r) (loud_local r.local) reply.Done in
          let acts : acted top (loud r) a ≡ Some part =
          ap prints_at (label_loud n r.local.token ∙ is) in
          quiet_louder top a r was part done (same_Some was done h) acts refl refl
          (ap (option_and_then report_of) acts) refl (label_loud n r.local.token ∙ is)
    ] refl h
acted_louder top (act.Set p c) r done h other = absurd (false≢true (sym other))
acted_louder top (act.Clear p) r done h other =
    quiet_louder top (act.Clear p) r _ _ done (same_Some _ done h) refl refl refl refl refl refl
acted_louder top (act.Restore p t) r done h other =
    quiet_louder top (act.Restore p t) r _ _ done (same_Some _ done h) refl refl refl refl refl refl
acted_louder top (act.Look p) r done h other =
    quiet_louder top (act.Look p) r _ _ done (same_Some _ done h) refl refl refl refl refl refl
acted_louder top (act.Reset p) r done h other =
    quiet_louder top (act.Reset p) r _ _ done (same_Some _ done h) refl refl refl refl refl refl
acted_louder top (act.Tracer p b) r done h other =
    quiet_louder top (act.Tracer p b) r _ _ done (same_Some _ done h) refl refl refl refl refl refl

-- EVERY PROCESS

pub louder_actor : (a : Act) → actor (louder a) ≡ actor a
louder_actor (act.Send p q v) = refl
louder_actor a = refl

pub louder_receiver : (a : Act) → receiver (louder a) ≡ receiver a
louder_receiver (act.Send p q v) = refl
louder_receiver a = refl

pub louder_plain : (a : Act) → is_reset a ≡ false → is_reset (louder a) ≡ false
louder_plain (act.Reset p) h = h
louder_plain a h = refl

reached_loud : (a : Act) (token : Option Token) (r : Process) → is_reset a ≡ false
    → reached (louder a) (option_map loud_token token) (loud r) ≡ loud (reached a token r)
reached_loud (act.Send p q v) token r plain =
    let sent : Message = record { from = p; value = v; token = token } in
    elim (pid_eq r.pid q) as (λ b. cond b (let x : Process = record (loud r) {
      queue = map loud_message r.queue ++ loud_message sent ∷ [];
    } in x) (loud r) ≡ loud (cond b (let x : Process = record r { queue = r.queue ++ sent ∷ [] } in
    x) r)) [
      | true ↦ ap (λ (q : List Message). let x : Process = record (loud r) { queue = q } in x)
          (sym (map-append loud_message r.queue (sent ∷ [])))
      | false ↦ refl
    ]
reached_loud (act.Reset p) token r plain = absurd (false≢true (sym plain))
reached_loud (act.Tracer p b) token r plain =
    elim (node_eq r.pid p) as (λ on. cond on (let x : Process = record (loud r) {
      local = record (loud r).local { traced = true };
    } in x) (loud r) ≡ loud (cond on (let x : Process =
    record r { local = record r.local { traced = b } } in x) r)) [
      | true ↦ refl
      | false ↦ refl
    ]
reached_loud a token r plain = refl

-- the louder act makes of each loud process what the act made of the process
pub changed_loud : (top : ℕ) (r : Process) (a : Act) (done : Acted)
    (louder_is : IsLouder top r a done)
    → is_reset a ≡ false → (x : Process) → changed (louder a) louder_is.part (loud x)
    ≡ loud (changed a done x)
changed_loud top r a done is plain x =
    let part = is.part in
    let made = λ (l : LocalState) (q : List Message) (p : Pid). let own : Process =
    record (loud x) { local = l; queue = q } in
    reached (louder a) l.token (cond (pid_eq x.pid p) own (loud x)) in
    let now : LocalState = loud_local done.local in
    let left = map loud_message done.queue in
    let own : Process = record x { local = done.local; queue = done.queue } in
    ap (λ l. made l part.queue (actor (louder a))) is.local
    ∙ ap (λ q. made now q (actor (louder a))) is.queue
    ∙ ap (λ p. made now left p) (louder_actor a)
    ∙ elim (pid_eq x.pid (actor a)) as (λ b. reached (louder a) now.token
    (cond b (loud own) (loud x))
    ≡ loud (reached a done.local.token (cond b own x))) [
      | true ↦ reached_loud a done.local.token own plain
      | false ↦ reached_loud a done.local.token x plain
    ]
