-- Only a receive, an answer and a put-back move last, and its value then is one that the events
-- show.
use Rattle.std.proofs.Common.{◌≡◌, ◌≢◌, ℕ, ◌⊎◌, true, false, List, [], ◌∷◌, ◌++◌, take, Option}
use Rattle.std.proofs.Common.{Some, None, is_some, IsSome, option_map, option_to_list, inl, inr}
use Rattle.std.proofs.Common.{refl, sym, ◌∙◌, ap, subst, append-nil, if◌then◌else◌}
use Rattle.std.specs.List.{slice_get, AllByRecursion}
use Rattle.std.proofs.lemmas.Bool.{false≢true}
use Rattle.std.proofs.lemmas.Option.{same_Some, none-some}
use Rattle.st_core.specs.declared.types.Pid.{Pid}
use Rattle.st_core.specs.declared.types.Serial.{Serial}
use Rattle.st_core.specs.declared.types.Token.{Token}
use Rattle.st_core.specs.declared.types.Kind.TheVariants as kind
use Rattle.st_core.specs.declared.types.Act.{Act}
use Rattle.st_core.specs.declared.types.Act.TheVariants as act
use Rattle.st_core.specs.Pid.{pid_eq}
use Rattle.st_core.specs.State.{LocalState, Process, State, process, zero_state}
use Rattle.st_core.specs.Laws.{is_reset, moves_token}
use Rattle.st_core.specs.Step.{Acted, Outcome}
use Rattle.st_core.proofs.ForCallers.{local_found, local_in, pid_same, zero_found}
use Rattle.node_machine.specs.Node.{after_stamp, Answer, Common, is_answer, machine_act, node_acted}
use Rattle.node_machine.specs.Node.{node_actor, node_run, node_run_from, node_stamped_token}
use Rattle.node_machine.specs.Node.{NodeAct, Seen, seen, seen_by, seen_stream}
use Rattle.node_machine.specs.Premises.{IsAmong, NoNodeReset, PutsBackOwn, ReportsTaken, serials_in}
use Rattle.node_machine.specs.Premises.{takes_token, token_put_back}
use Rattle.node_machine.specs.Readings.{is_receipt}
use Rattle.node_machine.specs.Given.{fresh}
use Rattle.node_machine.specs.Ways.{lasts}
use Rattle.node_machine.proofs.Lists.{all_append, all_of}
use Rattle.node_machine.proofs.Steps.{node_run_parts, node_step_parts, NodeStepped, SameButTraced}
use Rattle.node_machine.proofs.Steps.{actor_found, actor_same, of_token, other_same}
use Rattle.node_machine.proofs.Steps.{print_at_either, stamp_either}
use Rattle.node_machine.proofs.Moves.{IsAnswered, IsBack, is_plain, IsStamp, IsTake, Moves}
use Rattle.node_machine.proofs.Moves.{node_acted_moves, plain_moves}
use Rattle.node_machine.proofs.Tokens.{tokens_answer, tokens_count, tokens_fresh, tokens_more}
use Rattle.node_machine.proofs.Tokens.{tokens_receive}
use Rattle.node_machine.proofs.Givens.{EachStamp, held_more, IsHeld, no_receive, stamp_at}
use Rattle.node_machine.proofs.Givens.{stamps_part}
use Rattle.node_machine.proofs.Ways.{made_last}

-- ONE ACT

-- last stays, and a token has the prev of the token before, or last
pub record KeepsLast (l m : LocalState) : Type 0 where
  pub last : m.last ≡ l.last
  pub token : (t : Token) → m.token ≡ Some t
      → ((u : Token) × (l.token ≡ Some u) × (u.serial.prev ≡ t.serial.prev))
      ⊎ (t.serial.prev ≡ l.last)

keeps_same : (l : LocalState) → KeepsLast l l
keeps_same l = record { last = refl; token = λ t is. inl (t, is, refl) }

stamp_keeps : (p : Pid) (l : LocalState) → KeepsLast l (after_stamp p l)
stamp_keeps p l = stamp_either (KeepsLast l) p l (λ _. keeps_same l) (λ t _. record {
  last = refl;
  token = λ u is.
      inr (ap (λ (x : Token). x.serial.prev) (sym (same_Some (node_stamped_token p l t) u is)));
})

plain_keeps : (a : Act) (r : Process) → is_plain a ≡ true
    → KeepsLast r.local (node_acted r (Common a)).local
plain_keeps (act.Send p q v) r plain = stamp_keeps r.pid r.local
plain_keeps (act.Receive p w) r plain = absurd (false≢true plain)
plain_keeps (act.Print p v) r plain = stamp_keeps r.pid r.local
plain_keeps (act.PrintAt p n v) r plain =
    print_at_either (λ (done : Acted). KeepsLast r.local done.local) r p n v
    (stamp_keeps r.pid r.local) (keeps_same r.local)
plain_keeps (act.Set p c) r plain = absurd (false≢true plain)
plain_keeps (act.Clear p) r plain =
    record { last = refl; token = λ t is. absurd (none-some t is) }
plain_keeps (act.Restore p t) r plain = absurd (false≢true plain)
plain_keeps a r plain = keeps_same r.local

-- how an act changes its actor, if its stamps may go unreported
abbrev pub Loosely : Option Token → LocalState → LocalState → Option Seen → Type 0
Loosely (Some t) l m told = (told ≡ None) × IsBack t m
Loosely None l m None = KeepsLast l m
Loosely None l m (Some e) = IsStamp l m e ⊎ (IsTake l m e ⊎ IsAnswered l m e)

loosely : (back : Option Token) (l m : LocalState) (told : Option Seen) → Moves back l m told
    → Loosely back l m told
loosely (Some t) l m told moves = moves
loosely None l m None still = record {
  last = still.last;
  token = λ t is. elim (still.token t is) [
    | inl old ↦ inl (old.0, old.1, ap (λ (x : Serial). x.prev) old.2)
    | inr new ↦ inr (ap (λ (x : Serial). x.prev) new)
  ];
}
loosely None l m (Some e) moves = moves

abbrev pub PartLoose : NodeAct → Process → Acted → Type 0
PartLoose a r done = (takes_token r (machine_act a) ≡ true → IsSome done.report)
    → Loosely (token_put_back a) r.local done.local (option_map (seen (is_answer a)) done.report)

plain_loose : (a : Act) (r : Process) → is_plain a ≡ true
    → (let done = node_acted r (Common a) in
    Loosely None r.local done.local (option_map (seen false) done.report))
plain_loose a r plain =
    let done = node_acted r (Common a) in
    elim done.report as (λ report. done.report ≡ report
    → Loosely None r.local done.local (option_map (seen false) report)) [
      | None ↦ λ _. plain_keeps a r plain
      | Some e ↦ λ is.
          subst (λ report. Loosely None r.local done.local (option_map (seen false) report)) is
          (loosely None r.local done.local (option_map (seen false) done.report)
          (plain_moves a r plain (λ _. ap is_some is)))
    ] refl

-- the case of a receive, a set, a put-back or an answer
other_loose : (a : NodeAct) (r : Process)
    → (moves_token r (machine_act a) ≡ true → IsSome (node_acted r a).report)
    → (let done = node_acted r a in
    Loosely (token_put_back a) r.local done.local (option_map (seen (is_answer a)) done.report))
other_loose a r is =
    let done = node_acted r a in
    loosely (token_put_back a) r.local done.local (option_map (seen (is_answer a)) done.report)
    (node_acted_moves a r is)

pub acted_loose : (a : NodeAct) (r : Process) → PartLoose a r (node_acted r a)
acted_loose (Answer p place) r is = other_loose (Answer p place) r is
acted_loose (Common (act.Receive p w)) r is = other_loose (Common (act.Receive p w)) r is
acted_loose (Common (act.Set p c)) r is =
    other_loose (Common (act.Set p c)) r (λ no. absurd (false≢true no))
acted_loose (Common (act.Restore p t)) r is =
    other_loose (Common (act.Restore p t)) r (λ no. absurd (false≢true no))
acted_loose (Common a) r is = plain_loose a r refl

module _ (s : State) (a : NodeAct) (o : Outcome) (x : NodeStepped s a o)
    (plain : is_reset (machine_act a) ≡ false) (p : Pid) where
  pub step_loose : pid_eq (node_actor a) p ≡ true
      → (node_actor a ≡ p → (r : Process) → process s p ≡ Some r
      → takes_token r (machine_act a) ≡ true
      → IsSome o.report)
      → Loosely (token_put_back a) x.before.local x.done.local (seen_by a o)
  step_loose mine tells =
      let same : x.done.report ≡ o.report = ap (λ (y : Outcome). y.report) x.is_outcome in
      let found = actor_found s a o x plain p mine in
      subst (λ r. Loosely (token_put_back a) x.before.local x.done.local
      (option_map (seen (is_answer a)) r)) same
      (subst (PartLoose a x.before) x.is_done (acted_loose a x.before) (λ moved.
      subst IsSome (sym same) (tells (pid_same (node_actor a) p mine) x.before found moved)))

-- WHAT EVENTS SHOW

-- v was a last
abbrev WasLast : List Seen → ℕ → Type 0
WasLast es v = IsHeld es (fresh v)

abbrev WasPrev : List Seen → Serial → Type 0
WasPrev es x = WasLast es x.prev

record AreShown (es : List Seen) (l : LocalState) : Type 0 where
  last : WasLast es l.last
  token : (t : Token) → l.token ≡ Some t → WasPrev es t.serial

shown_same : (es : List Seen) (l m : LocalState) → SameButTraced l m → AreShown es l
    → AreShown es m
shown_same es l m same are = record {
  last = subst (WasLast es) (sym same.last) are.last;
  token = λ t is. are.token t (sym same.token ∙ is);
}

next_shown : (es : List Seen) (back : Option Token) (l m : LocalState) (report : Option Seen)
    → Loosely back l m report
    → ((t : Token) → back ≡ Some t → WasPrev es t.serial) → AreShown es l
    → AreShown (es ++ option_to_list report) m
next_shown es (Some t) l m report moves own are =
    subst (λ r. AreShown (es ++ option_to_list r) m) (sym moves.0)
    (subst (λ xs. AreShown xs m) (sym (append-nil es)) (record {
      last = subst (WasLast es) (sym moves.1.last) (own t refl);
      token = λ u is. subst (λ (x : Token). WasPrev es x.serial)
          (same_Some t u (sym moves.1.token ∙ is)) (own t refl);
    }))
next_shown es None l m None keeps own are =
    subst (λ xs. AreShown xs m) (sym (append-nil es)) (record {
      last = subst (WasLast es) (sym keeps.last) are.last;
      token = λ t is. elim (keeps.token t is) as (λ _. WasPrev es t.serial) [
        | inl old ↦ subst (WasLast es) old.2 (are.token old.0 old.1)
        | inr new ↦ subst (WasLast es) (sym new) are.last
      ];
    })
next_shown es None l m (Some e) (inl stamp) own are = record {
  last = subst (WasLast (es ++ e ∷ [])) (sym stamp.last)
      (tokens_more e es (fresh l.last) are.last);
  token = λ t is. subst (WasLast (es ++ e ∷ []))
      (sym stamp.prev ∙ ap (λ (x : Serial). x.prev) (stamp.token t is))
      (tokens_more e es (fresh l.last) are.last);
}
next_shown es None l m (Some e) (inr (inl take)) own are = record {
  last = subst (WasLast (es ++ e ∷ [])) (sym take.last) (tokens_count e es take.kind take.answer);
  token = λ t is. subst (WasPrev (es ++ e ∷ [])) (take.token t is)
      (tokens_fresh (es ++ e ∷ []) e.serial (tokens_receive e es take.kind take.answer));
}
next_shown es None l m (Some e) (inr (inr answer)) own are = record {
  last = subst (WasLast (es ++ e ∷ [])) (sym answer.last)
      (tokens_answer e es answer.kind answer.answer);
  token = λ t is.
      tokens_more e es (fresh t.serial.prev) (are.token t (sym answer.token ∙ is));
}

now_shown : (es : List Seen) (back : Option Token) (l m : LocalState) (e : Seen)
    → Loosely back l m (Some e)
    → is_receipt e ≡ false → AreShown es l → WasLast es e.serial.prev
now_shown es (Some t) l m e moves is are = absurd (none-some e (sym moves.0))
now_shown es None l m e (inl stamp) is are =
    subst (WasLast es) (sym stamp.prev) are.last
now_shown es None l m e (inr (inl take)) is are = absurd (false≢true (sym is ∙ take.kind))
now_shown es None l m e (inr (inr answer)) is are = absurd (false≢true (sym is ∙ answer.kind))

-- RUNS

-- the stamp's prev can have been last
abbrev HasShown : List Seen → Seen → Type 0
HasShown es e = WasLast es e.serial.prev

shown_from : (s : State) (acts : List NodeAct) (os : List Outcome) (p : Pid)
    (es : List Seen) (held : List Serial)
    → node_run_from s acts ≡ Some os → NoNodeReset acts → ReportsTaken p s acts os
    → PutsBackOwn p held s acts os → AllByRecursion (WasPrev es) held
    → AreShown es (local_in s p)
    → EachStamp HasShown es (seen_stream acts os p)
shown_from s [] os p es held h none tells owns had now = tt
shown_from s (a ∷ acts) [] p es held h none tells owns had now = tt
shown_from s (a ∷ acts) (o ∷ os) p es held h none tells owns had now =
    let run = node_run_parts s a acts (o ∷ os) h in
    let x = node_step_parts s a o run.0 in
    let tail = seen_stream acts os p in
    let back = token_put_back a in
    let holds = held ++ serials_in s p in
    let have : AllByRecursion (WasPrev es) holds =
    all_append (WasPrev es) held (serials_in s p) had
    (of_token (WasPrev es) (λ (t : Token). t.serial) (process s p) now.token) in
    elim (pid_eq (node_actor a) p) as (λ b. pid_eq (node_actor a) p ≡ b
    → EachStamp HasShown es ((if b then option_to_list (seen_by a o) else []) ++ tail)) [
      | true ↦ λ mine.
          let who = pid_same (node_actor a) p mine in
          let found = actor_found s a o x none.0 p mine in
          let here : AreShown es x.before.local =
          subst (AreShown es) (ap local_found found) now in
          let moves = step_loose s a o x none.0 p mine tells.0 in
          let mine_own = λ (t : Token) (is : back ≡ Some t).
          all_of (WasPrev es) holds t.serial have (owns.0 who t is) in
          stamps_part HasShown es (seen_by a o) tail
          (λ e is stamp. now_shown es back x.before.local x.done.local e
          (subst (Loosely back x.before.local x.done.local) is moves) stamp here)
          (shown_from o.after acts os p (es ++ option_to_list (seen_by a o)) holds
          run.1 none.1 tells.1 owns.1
          (held_more WasPrev es (λ e x is. tokens_more e es (fresh x.prev) is) (seen_by a o) holds
          have)
          (shown_same (es ++ option_to_list (seen_by a o)) x.done.local (local_in o.after p)
          (actor_same s a o x none.0 p mine)
          (next_shown es back x.before.local x.done.local (seen_by a o) moves mine_own here)))
      | false ↦ λ other.
          shown_from o.after acts os p es holds run.1 none.1 tells.1 owns.1 have
          (shown_same es (local_in s p) (local_in o.after p)
          (other_same s a o x none.0 p other) now)
    ] refl

pub prevs_shown : (pids : List Pid) (acts : List NodeAct) (os : List Outcome)
    → node_run pids acts ≡ Some os → NoNodeReset acts → (p : Pid)
    → ReportsTaken p (zero_state pids) acts os → PutsBackOwn p [] (zero_state pids) acts os
    → (i : ℕ) (e : Seen) → slice_get (seen_stream acts os p) i ≡ Some e → e.kind ≢ kind.Receive
    → IsAmong (lasts (take i (seen_stream acts os p))) e.serial.prev
prevs_shown pids acts os h none p tells own i e at other =
    let found = stamp_at HasShown [] (seen_stream acts os p) i e
    (shown_from (zero_state pids) acts os p [] [] h none tells own tt
    (subst (AreShown []) (sym (zero_found pids p))
    (record { last = inl refl; token = λ t is. absurd (none-some t is) }))) at
    (no_receive e other) in
    made_last (take i (seen_stream acts os p)) e.serial.prev found
