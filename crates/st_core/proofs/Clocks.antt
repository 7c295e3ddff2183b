-- In a run without a reset a clock doesn't fall, since only a reset lowers one, and a stamp lifts
-- its process's clock to the stamp's count: so the count is above all that the clock was before. A
-- reported send or print is a stamp, and so is a send that a reported receive follows.
use Rattle.std.proofs.Common.{◌≡◌, ℕ, ◌+◌, ◌<◌, ◌≤◌, ◌≢◌, ◌&&◌, zero, suc, Bool, true, false, cond}
use Rattle.std.proofs.Common.{nat_lt, List, [], ◌∷◌, ◌++◌, Option, Some, None, is_some, option_map}
use Rattle.std.proofs.Common.{option_and_then, All, inl, inr, refl, sym, ◌∙◌, ap, subst, arith}
use Rattle.std.specs.List.{slice_get}
use Rattle.std.proofs.lemmas.Bool.{false≢true, cases_order}
use Rattle.std.proofs.lemmas.List.Elements.{All-nil, All-cons, All-weaker}
use Rattle.std.proofs.lemmas.Option.{same_Some, none-some, cond_some, option_and_then_some}
use Rattle.st_core.specs.declared.types.Pid.{Pid}
use Rattle.st_core.specs.declared.types.Token.{Token}
use Rattle.st_core.specs.declared.types.Label.{Label}
use Rattle.st_core.specs.declared.types.Message.{Message}
use Rattle.st_core.specs.declared.types.Kind.{Kind}
use Rattle.st_core.specs.declared.types.Kind.TheVariants as kind
use Rattle.st_core.specs.declared.types.Event.{Event}
use Rattle.st_core.specs.declared.types.Act.{Act}
use Rattle.st_core.specs.declared.types.Act.TheVariants as act
use Rattle.st_core.specs.declared.types.Reply.{Reply}
use Rattle.st_core.specs.declared.types.Reply.TheVariants as reply
use Rattle.st_core.specs.Pid.{pid_eq, node_eq}
use Rattle.st_core.specs.State.{LocalState, Process, State, process, zero_state}
use Rattle.st_core.specs.Stamp.{stamp, stamp_any, stamped_token}
use Rattle.st_core.specs.Local.{received, default_token, has_label}
use Rattle.st_core.specs.Pick.{pick}
use Rattle.st_core.specs.Report.{flag_of, report, token_event}
use Rattle.st_core.specs.Step.{Acted, Outcome, acted, actor, answers, sends, prints, receives}
use Rattle.st_core.specs.Step.{reached, changed, step}
use Rattle.st_core.specs.Run.{run, run_from}
use Rattle.st_core.specs.Pairs.{IsFollowing}
use Rattle.st_core.specs.Laws.{Reports, is_reset, NoReset, clock_in, ClocksNeverFall, LiftsClock}
use Rattle.st_core.specs.Laws.{stamps, StampsToken}
use Rattle.st_core.proofs.Pids.{pid_eq-true}
use Rattle.st_core.proofs.Others.{process_pid, mapped, Stepped, step_parts, run_parts}
use Rattle.st_core.proofs.Others.{process_after, actor_mine, actor_after, sent_local}
use Rattle.st_core.proofs.Paired.{report_kind}
use Rattle.st_core.proofs.Zips.{AllPairs_cons}

-- THE STAMP

-- t is p's stamp, by which p's clock rose from this count to t's
record IsStampAbove (p : Pid) (count : ℕ) (l : LocalState) (t : Token) : Type 0 where
  from : t.from ≡ p
  above : count < t.serial.this
  reaches : l.clock ≡ t.serial.this

-- m is p's record l after a stamp, or has no token
record IsGrown (p : Pid) (l m : LocalState) : Type 0 where
  least : l.clock ≤ m.clock
  token : (t : Token) → m.token ≡ Some t → IsStampAbove p l.clock m t

stamp_grows : (top : ℕ) (p : Pid) (l m : LocalState) → stamp top p l ≡ Some m → IsGrown p l m
stamp_grows top p l m h =
    let made = λ (t : Token).
    record l { token = Some (stamped_token p l t); clock = l.clock + 1 } in
    option_and_then_some (λ t. cond (nat_lt l.clock top) (Some (made t)) None) l.token m h
    (λ t0 _ at.
    let parts = cond_some (nat_lt l.clock top) (made t0) m at in
    let stamped : IsStampAbove p l.clock (made t0) (stamped_token p l t0) =
    record { from = refl; above = omega arith; reaches = refl } in
    subst (IsGrown p l) parts.1 (record {
      least = omega arith;
      token = λ t e. subst (IsStampAbove p l.clock (made t0)) (same_Some (stamped_token p l t0) t e)
          stamped;
    }))

any_at : (top : ℕ) (p : Pid) (l m : LocalState) (token : Option Token) → l.token ≡ token
    → cond (is_some token) (stamp top p l) (Some l) ≡ Some m → IsGrown p l m
any_at top p l m None e h =
    subst (IsGrown p l) (same_Some l m h)
    (record { least = omega arith; token = λ t is. absurd (none-some t (sym e ∙ is)) })
any_at top p l m (Some t) e h = stamp_grows top p l m h

any_grows : (top : ℕ) (p : Pid) (l m : LocalState) → stamp_any top p l ≡ Some m → IsGrown p l m
any_grows top p l m h = any_at top p l m l.token refl h

-- THE ACTOR'S PART

abbrev IsNoLower : LocalState → Acted → Type 0
IsNoLower l done = l.clock ≤ done.local.clock

printed_least : (r : Process) (v : ℕ) (stamped : Option LocalState) (done : Acted)
    → ((m : LocalState) → stamped ≡ Some m → IsGrown r.pid r.local m)
    → option_map (prints r v) stamped ≡ Some done
    → IsNoLower r.local done
printed_least r v stamped done grows h =
    let parts = mapped (prints r v) stamped done h in
    subst (IsNoLower r.local) parts.2 (grows parts.0 parts.1).least

silent : (r : Process) (l : LocalState) (y : Reply) (done : Acted)
    → Some (answers r l y) ≡ Some done
    → r.local.clock ≤ l.clock → IsNoLower r.local done
silent r l y done h least = subst (IsNoLower r.local) (same_Some (answers r l y) done h) least

token_least : (l : LocalState) (token : Option Token) → l.clock ≤ (received l token).clock
token_least l None = omega arith
token_least l (Some t) = omega arith

received_least : (r : Process) (found : Option (ℕ × Message)) → IsNoLower r.local (receives r found)
received_least r None = omega arith
received_least r (Some found) = let m = found.1 in token_least r.local m.token

set_least : (p : Pid) (l : LocalState) (token : Option Token)
    → l.clock ≤ (let m : LocalState = elim token [
      | None ↦ record l { token = Some (default_token p); last = l.clock }
      | Some t ↦ l
    ] in m.clock)
set_least p l None = omega arith
set_least p l (Some t) = omega arith

acted_least : (top : ℕ) (a : Act) (r : Process) (done : Acted) → acted top r a ≡ Some done
    → IsNoLower r.local done
acted_least top (act.Send p q v) r done h =
    let parts = mapped (sends r q v) (stamp_any top r.pid r.local) done h in
    subst (IsNoLower r.local) parts.2 (any_grows top r.pid r.local parts.0 parts.1).least
acted_least top (act.Receive p w) r done h =
    subst (IsNoLower r.local) (same_Some _ done h) (received_least r (pick w r.queue))
acted_least top (act.Print p v) r done h =
    printed_least r v (stamp_any top r.pid r.local) done (any_grows top r.pid r.local) h
acted_least top (act.PrintAt p n v) r done h =
    elim (has_label n r.local.token) as (λ b.
    cond b (option_map (prints r v) (stamp top r.pid r.local)) (Some (answers r r.local reply.Done))
    ≡ Some done
    → IsNoLower r.local done) [
      | true ↦ printed_least r v (stamp top r.pid r.local) done (stamp_grows top r.pid r.local)
      | false ↦ λ h. silent r r.local reply.Done done h (omega arith)
    ] h
acted_least top (act.Set p c) r done h = silent r _ _ done h (set_least r.pid r.local r.local.token)
acted_least top a r done h = silent r _ _ done h (omega arith)

-- EACH PROCESS

pub record SameCounts (l m : LocalState) : Type 0 where
  pub clock : m.clock ≡ l.clock
  pub last : m.last ≡ l.last

same_counts : (l : LocalState) → SameCounts l l
same_counts l = record { clock = refl; last = refl }

reached_counts : (a : Act) (t : Option Token) (r : Process) → is_reset a ≡ false
    → SameCounts r.local (reached a t r).local
reached_counts (act.Reset p) t r plain = absurd (false≢true (sym plain))
reached_counts (act.Send p q v) t r plain =
    let m : Message = record { from = p; value = v; token = t } in
    elim (pid_eq r.pid q) as (λ b.
    SameCounts r.local (cond b (record r { queue = r.queue ++ m ∷ [] }) r).local) [
      | true ↦ same_counts r.local
      | false ↦ same_counts r.local
    ]
reached_counts (act.Tracer p on) t r plain =
    elim (node_eq r.pid p) as (λ b.
    SameCounts r.local (cond b (record r { local = record r.local { traced = on } }) r).local) [
      | true ↦ record { clock = refl; last = refl }
      | false ↦ same_counts r.local
    ]
reached_counts a t r plain = same_counts r.local

-- the actor's counts are those of its part, and each other process keeps its own
pub changed_counts : (a : Act) (done : Acted) (r : Process) (mine : Bool) → is_reset a ≡ false
    → pid_eq r.pid (actor a) ≡ mine
    → SameCounts (cond mine done.local r.local) (changed a done r).local
changed_counts a done r mine plain is =
    let own : Process = record r { local = done.local; queue = done.queue } in
    let x = λ (b : Bool). cond b own r in
    let reached = reached_counts a done.local.token (x (pid_eq r.pid (actor a))) plain in
    let part : SameCounts (x mine).local (changed a done r).local =
    subst (λ b. SameCounts (x b).local (changed a done r).local) is reached in
    elim mine as (λ b. SameCounts (x b).local (changed a done r).local
    → SameCounts (cond b done.local r.local) (changed a done r).local) [
      | true ↦ λ h. h
      | false ↦
          λ h. h
    ] part

abbrev clock_found : Option Process → ℕ
clock_found o = elim o [ None ↦ 0 | Some r ↦ r.local.clock ]

found_clock : (a : Act) (done : Acted) (before : Process) (found : Option Process)
    → is_reset a ≡ false
    → before.local.clock ≤ done.local.clock
    → ((r : Process) → found ≡ Some r → pid_eq r.pid (actor a) ≡ true → before ≡ r)
    → clock_found found ≤ clock_found (option_map (changed a done) found)
found_clock a done before None plain least same = omega arith
found_clock a done before (Some r) plain least same =
    elim (pid_eq r.pid (actor a)) as (λ b. pid_eq r.pid (actor a) ≡ b
    → r.local.clock ≤ (changed a done r).local.clock) [
      | true ↦ λ is.
          let who : before.local.clock ≡ r.local.clock =
          ap (λ (x : Process). x.local.clock) (same r refl is) in
          let now = (changed_counts a done r true plain is).clock in
          omega arith
      | false ↦ λ is. let now = (changed_counts a done r false plain is).clock in omega arith
    ] refl

-- only a reset lowers a clock
pub step_clock : (top : ℕ) (s : State) (a : Act) (o : Outcome) (p : Pid) → step top s a ≡ Some o
    → is_reset a ≡ false
    → clock_in s p ≤ clock_in o.after p
step_clock top s a o p h plain =
    let t = step_parts top s a o h in
    let same = λ (r : Process) (is_r : process s p ≡ Some r) (mine : pid_eq r.pid (actor a) ≡ true).
    let who : actor a ≡ p = sym (pid_eq-true r.pid (actor a) mine) ∙ process_pid s p r is_r in
    same_Some t.before r (sym t.is_before ∙ ap (process s) who ∙ is_r) in
    subst (λ found. clock_in s p ≤ clock_found found) (sym (process_after top s a o t p))
    (found_clock a t.done t.before (process s p) plain (acted_least top a t.before t.done t.is_done)
    same)

-- A STEP THAT LIFTS A CLOCK

pub record Lifts (s : State) (o : Outcome) (p : Pid) (this : ℕ) : Type 0 where
  pub above : clock_in s p < this
  pub reaches : clock_in o.after p ≡ this

actor_clock : (top : ℕ) (s : State) (a : Act) (o : Outcome) (t : Stepped top s a o)
    → is_reset a ≡ false
    → clock_in o.after (actor a) ≡ t.done.local.clock
actor_clock top s a o t plain =
    ap clock_found (actor_after top s a o t)
    ∙ (changed_counts a t.done t.before true plain (actor_mine top s a o t)).clock

-- A STAMP, REPORTED OR NOT

-- after an act that stamps, the actor's token is its stamp, which lifted its clock
printed_stamp : (r : Process) (v : ℕ) (stamped : Option LocalState) (done : Acted) (t : Token)
    → ((m : LocalState) → stamped ≡ Some m → IsGrown r.pid r.local m)
    → option_map (prints r v) stamped ≡ Some done
    → done.local.token ≡ Some t → IsStampAbove r.pid r.local.clock done.local t
printed_stamp r v stamped done t grows h is =
    let parts = mapped (prints r v) stamped done h in
    let local : parts.0 ≡ done.local = ap (λ (d : Acted). d.local) parts.2 in
    subst (λ l. IsStampAbove r.pid r.local.clock l t) local
    ((grows parts.0 parts.1).token t (ap (λ (l : LocalState). l.token) local ∙ is))

stamp_label : (n : Label) (r : Process) (done : Acted) (t : Token)
    → Some (answers r r.local reply.Done) ≡ Some done → done.local.token ≡ Some t
    → has_label n r.local.token ≡ false → has_label n (Some t) ≡ false
stamp_label n r done t h is none =
    let same : r.local.token ≡ Some t = ap (λ (d : Acted). d.local.token) (same_Some _ done h)
    ∙ is in
    ap (has_label n) (sym same) ∙ none

acted_stamp : (top : ℕ) (a : Act) (r : Process) (done : Acted) (t : Token)
    → acted top r a ≡ Some done
    → stamps a t ≡ true → done.local.token ≡ Some t → IsStampAbove r.pid r.local.clock done.local t
acted_stamp top (act.Send p q v) r done t h is token =
    let parts = mapped (sends r q v) (stamp_any top r.pid r.local) done h in
    let local : parts.0 ≡ done.local = ap (λ (d : Acted). d.local) parts.2 in
    subst (λ l. IsStampAbove r.pid r.local.clock l t) local
    ((any_grows top r.pid r.local parts.0 parts.1).token t
    (ap (λ (l : LocalState). l.token) local ∙ token))
acted_stamp top (act.Print p v) r done t h is token =
    printed_stamp r v (stamp_any top r.pid r.local) done t (any_grows top r.pid r.local) h token
acted_stamp top (act.PrintAt p n v) r done t h is token =
    elim (has_label n r.local.token) as (λ b. has_label n r.local.token ≡ b
    → cond b (option_map (prints r v) (stamp top r.pid r.local))
    (Some (answers r r.local reply.Done)) ≡ Some done
    → IsStampAbove r.pid r.local.clock done.local t) [
      | true ↦ λ _ h. printed_stamp r v (stamp top r.pid r.local) done t
          (stamp_grows top r.pid r.local) h token
      | false ↦ λ none h.
          absurd (false≢true (sym (stamp_label n r done t h token none) ∙ is))
    ] refl h
acted_stamp top a r done t h is token = absurd (false≢true is)

never_reset : (a : Act) (t : Token) → stamps a t ≡ true → is_reset a ≡ false
never_reset (act.Reset p) t is = absurd (false≢true is)
never_reset a t is = refl

-- an act that stamps leaves its actor the token of the actor's own part
own_token : (a : Act) (done : Acted) (r : Process) (t : Token) → stamps a t ≡ true
    → pid_eq r.pid (actor a) ≡ true
    → (changed a done r).local.token ≡ done.local.token
own_token (act.Send p q v) done r t is mine =
    ap (λ (l : LocalState). l.token) (sent_local p q v done r mine)
own_token (act.Print p v) done r t is mine =
    ap (λ b. (cond b (record r { local = done.local; queue = done.queue }) r).local.token) mine
own_token (act.PrintAt p n v) done r t is mine =
    ap (λ b. (cond b (record r { local = done.local; queue = done.queue }) r).local.token) mine
own_token a done r t is mine = absurd (false≢true is)

stamp_lifts : (top : ℕ) (s : State) (a : Act) (o : Outcome) (r : Process) (token : Token)
    → step top s a ≡ Some o
    → stamps a token ≡ true → process o.after (actor a) ≡ Some r → r.local.token ≡ Some token
    → Lifts s o (actor a) token.serial.this
stamp_lifts top s a o r token h is there has =
    let t = step_parts top s a o h in
    let x = t.before in
    let own : r.local.token ≡ t.done.local.token =
    ap (λ (y : Process). y.local.token) (same_Some r _ (sym there ∙ actor_after top s a o t))
    ∙ own_token a t.done x token is (actor_mine top s a o t) in
    let stamped = acted_stamp top a x t.done token t.is_done is (sym own ∙ has) in
    let above = stamped.above in
    let before : clock_in s (actor a) ≡ x.local.clock = ap clock_found t.is_before in
    record {
      above = omega arith;
      reaches = actor_clock top s a o t (never_reset a token is) ∙ stamped.reaches;
    }

-- A REPORTED SEND OR PRINT

-- the token that a reported send or print stamped: its actor has it after the act, and the report
-- has its serial
record IsReported (a : Act) (local : LocalState) (e : Event) : Type 0 where
  token : Token
  stamped : stamps a token ≡ true
  has : local.token ≡ Some token
  serial : token.serial ≡ e.serial

-- a report under the actor's token is of a stamp, if the act stamps each token that the actor has
-- after it
told_reported : (a : Act) (l : LocalState) (traced : Bool) (k : Kind) (token : Option Token)
    (to : Option Pid) (v : ℕ)
    (e : Event) → ((t : Token) → token ≡ Some t → stamps a t ≡ true) → l.token ≡ token
    → report traced k token to v ≡ Some e → IsReported a l e
told_reported a l traced k None to v e stamped is h = absurd (none-some e h)
told_reported a l traced k (Some t) to v e stamped is h = record {
  token = t;
  stamped = stamped t refl;
  has = is;
  serial = ap (λ (x : Event). x.serial)
      (cond_some (traced && flag_of k t.flags) (token_event k t to v) e h).1;
}

printed_reported : (a : Act) (r : Process) (v : ℕ) (stamped : Option LocalState) (done : Acted)
    (e : Event)
    → ((m : LocalState) → stamped ≡ Some m → (t : Token) → m.token ≡ Some t → stamps a t ≡ true)
    → option_map (prints r v) stamped ≡ Some done → done.report ≡ Some e → IsReported a done.local e
printed_reported a r v stamped done e is_stamp h is =
    let parts = mapped (prints r v) stamped done h in
    let m = parts.0 in
    let told = ap (λ (d : Acted). d.report) parts.2 ∙ is in
    subst (λ (d : Acted). IsReported a d.local e) parts.2
    (told_reported a m r.local.traced kind.Print m.token None v e (is_stamp m parts.1) refl told)

stamped_label : (top : ℕ) (p : Pid) (l m : LocalState) (n : Label) (t : Token)
    → stamp top p l ≡ Some m
    → has_label n l.token ≡ true → m.token ≡ Some t → has_label n (Some t) ≡ true
stamped_label top p l m n t h labelled is =
    let made = λ (x : Token).
    record l { token = Some (stamped_token p l x); clock = l.clock + 1 } in
    option_and_then_some (λ x. cond (nat_lt l.clock top) (Some (made x)) None) l.token m h
    (λ x had at.
    let parts = cond_some (nat_lt l.clock top) (made x) m at in
    let token : Some (stamped_token p l x) ≡ Some t =
    ap (λ (y : LocalState). y.token) parts.1 ∙ is in
    ap (has_label n) (sym token) ∙ ap (has_label n) (sym had) ∙ labelled)

silent_reported : (a : Act) (r : Process) (l : LocalState) (y : Reply) (done : Acted) (e : Event)
    → Some (answers r l y) ≡ Some done → done.report ≡ Some e → IsReported a done.local e
silent_reported a r l y done e h is =
    absurd (none-some e (ap (λ (d : Acted). d.report) (same_Some (answers r l y) done h) ∙ is))

received_reported : (a : Act) (r : Process) (found : Option (ℕ × Message)) (done : Acted)
    (e : Event)
    → receives r found ≡ done → done.report ≡ Some e → e.kind ≢ kind.Receive
    → IsReported a done.local e
received_reported a r None done e h is other =
    absurd (none-some e (ap (λ (d : Acted). d.report) h ∙ is))
received_reported a r (Some found) done e h is other =
    let m = found.1 in
    let told = ap (λ (d : Acted). d.report) h ∙ is in
    absurd (other (report_kind r.local.traced kind.Receive m.token (Some r.pid) m.value e told))

acted_reported : (top : ℕ) (a : Act) (r : Process) (done : Acted) (e : Event)
    → acted top r a ≡ Some done
    → done.report ≡ Some e → e.kind ≢ kind.Receive → IsReported a done.local e
acted_reported top (act.Send p q v) r done e h is other =
    let parts = mapped (sends r q v) (stamp_any top r.pid r.local) done h in
    let m = parts.0 in
    let told = ap (λ (d : Acted). d.report) parts.2 ∙ is in
    subst (λ (d : Acted). IsReported (act.Send p q v) d.local e) parts.2
    (told_reported (act.Send p q v) m r.local.traced kind.Send m.token (Some q) v e (λ t has. refl)
    refl told)
acted_reported top (act.Receive p w) r done e h is other =
    received_reported (act.Receive p w) r (pick w r.queue) done e (same_Some _ done h) is other
acted_reported top (act.Print p v) r done e h is other =
    printed_reported (act.Print p v) r v (stamp_any top r.pid r.local) done e (λ m at t has. refl) h
    is
acted_reported top (act.PrintAt p n v) r done e h is other =
    elim (has_label n r.local.token) as (λ b. has_label n r.local.token ≡ b
    → cond b (option_map (prints r v) (stamp top r.pid r.local))
    (Some (answers r r.local reply.Done)) ≡ Some done
    → IsReported (act.PrintAt p n v) done.local e) [
      | true ↦ λ labelled h.
          printed_reported (act.PrintAt p n v) r v (stamp top r.pid r.local) done e
          (λ m at t has. stamped_label top r.pid r.local m n t at labelled has) h is
      | false ↦ λ _ h. silent_reported (act.PrintAt p n v) r r.local reply.Done done e h is
    ] refl h
acted_reported top a r done e h is other = silent_reported a r _ _ done e h is

-- after a step that reports a send or print its actor has the stamped token
reported_stamp : (top : ℕ) (s : State) (a : Act) (o : Outcome) (e : Event) → step top s a ≡ Some o
    → o.report ≡ Some e → e.kind ≢ kind.Receive
    → (r : Process) × (process o.after (actor a) ≡ Some r) × IsReported a r.local e
reported_stamp top s a o e h is other =
    let t = step_parts top s a o h in
    let told = ap (λ (x : Outcome). x.report) t.is_outcome ∙ is in
    let done = acted_reported top a t.before t.done e t.is_done told other in
    let own = own_token a t.done t.before done.token done.stamped (actor_mine top s a o t) in (
      changed a t.done t.before,
      actor_after top s a o t,
      record {
        token = done.token;
        stamped = done.stamped;
        has = own ∙ done.has;
        serial =
            done.serial;
      },
    )

-- A SEND AND ITS TOKEN

-- a send after which its actor has this token: the actor had one before, the token is its stamp,
-- which lifted its clock to the token's count, and the report, if there is one, is the token's
-- event
pub record Sends (s : State) (p q : Pid) (v : ℕ) (o : Outcome) (token : Token) : Type 0 where
  pub had : (r : Process) → process s p ≡ Some r → is_some r.local.token ≡ true
  pub from : token.from ≡ p
  pub lifts : Lifts s o p token.serial.this
  pub report : (e : Event) → o.report ≡ Some e → e ≡ token_event kind.Send token (Some q) v

had_token : (top : ℕ) (p : Pid) (l m : LocalState) (t : Token) (token : Option Token)
    → l.token ≡ token
    → cond (is_some token) (stamp top p l) (Some l) ≡ Some m → m.token ≡ Some t
    → is_some token ≡ true
had_token top p l m t None e h has =
    absurd (none-some t (sym e ∙ ap (λ (x : LocalState). x.token) (same_Some l m h) ∙ has))
had_token top p l m t (Some x) e h has = refl

pub sent : (top : ℕ) (s : State) (p q : Pid) (v : ℕ) (o : Outcome) (r : Process) (token : Token)
    → step top s (act.Send p q v) ≡ Some o → process o.after p ≡ Some r → r.local.token ≡ Some token
    → Sends s p q v o token
sent top s p q v o r token h is has =
    let a = act.Send p q v in
    let t = step_parts top s a o h in
    let x = t.before in
    let parts = mapped (sends x q v) (stamp_any top x.pid x.local) t.done t.is_done in
    let m = parts.0 in
    let part : t.done.local ≡ m = ap (λ (d : Acted). d.local) (sym parts.2) in
    let own : r.local ≡ m =
    ap (λ (y : Process). y.local) (same_Some r _ (sym is ∙ actor_after top s a o t))
    ∙ sent_local p q v t.done x (actor_mine top s a o t)
    ∙ part in
    let token_is : m.token ≡ Some token = ap (λ (l : LocalState). l.token) (sym own) ∙ has in
    let stamped = (any_grows top x.pid x.local m parts.1).token token token_is in
    let had = had_token top x.pid x.local m token x.local.token refl parts.1 token_is in
    record {
      had = λ y there. ap (λ (z : Process). is_some z.local.token)
          (same_Some y x (sym there ∙ t.is_before)) ∙ had;
      from = stamped.from ∙ process_pid s p x t.is_before;
      lifts = stamp_lifts top s a o r token h refl is has;
      report = λ e reported.
          let told : report x.local.traced kind.Send m.token (Some q) v ≡ Some e =
          ap (λ (d : Acted). d.report) parts.2 ∙ ap (λ (y : Outcome). y.report) t.is_outcome
          ∙ reported in
          let event = token_event kind.Send token (Some q) v in
          sym (cond_some (x.local.traced && token.flags.send) event e
          (ap (λ k. report x.local.traced kind.Send k (Some q) v) (sym token_is) ∙ told)).1;
    }

-- RUNS

-- each act of a run is a step
step_in : (top : ℕ) (s : State) (acts : List Act) (os : List Outcome) (n : ℕ) (a : Act)
    (o : Outcome)
    → run_from top s acts ≡ Some os → slice_get acts n ≡ Some a → slice_get os n ≡ Some o
    → (before : State) × (step top before a ≡ Some o)
step_in top s [] os n a o h at out = absurd (none-some a at)
step_in top s (b ∷ acts) os zero a o h at out =
    let t = run_parts top s b acts os h in
    let same = same_Some t.first o (ap (λ xs. slice_get xs 0) (sym t.is_whole) ∙ out) in
    (s, ap (step top s) (sym (same_Some b a at)) ∙ t.is_first ∙ ap (λ (x : Outcome). Some x) same)
step_in top s (b ∷ acts) os (suc n) a o h at out =
    let t = run_parts top s b acts os h in
    step_in top t.first.after acts t.others n a o t.is_rest at
    (ap (λ xs. slice_get xs (suc n)) (sym t.is_whole) ∙ out)

clocks_above : (top : ℕ) (s : State) (acts : List Act) (os : List Outcome)
    → run_from top s acts ≡ Some os
    → NoReset acts → All (λ o. (p : Pid) → clock_in s p ≤ clock_in o.after p) os
clocks_above top s [] os h none =
    subst (All (λ o. (p : Pid) → clock_in s p ≤ clock_in o.after p)) (same_Some [] os h) (All-nil _)
clocks_above top s (a ∷ acts) os h none =
    let t = run_parts top s a acts os h in
    let above = λ (low : State) (o : Outcome). (p : Pid) → clock_in low p ≤ clock_in o.after p in
    let first = λ (p : Pid). step_clock top s a t.first p t.is_first none.0 in
    let rest = clocks_above top t.first.after acts t.others t.is_rest none.1 in
    let later = λ (o : Outcome) (more : above t.first.after o) (p : Pid).
    let low = first p in
    let high = more p in
    let both : clock_in s p ≤ clock_in o.after p = omega arith in
    both in
    subst (All (above s)) (sym t.is_whole)
    (All-cons (above s) t.first t.others first
    (All-weaker (above t.first.after) (above s) later t.others rest))

never_fall_from : (top : ℕ) (s : State) (acts : List Act) (os : List Outcome)
    → run_from top s acts ≡ Some os
    → NoReset acts → ClocksNeverFall os
never_fall_from top s [] os h none =
    subst ClocksNeverFall (same_Some [] os h) (λ i j d below within. absurd (omega arith))
never_fall_from top s (a ∷ acts) os h none =
    let t = run_parts top s a acts os h in
    subst ClocksNeverFall (sym t.is_whole)
    (AllPairs_cons (λ (o later : Outcome). (p : Pid) → clock_in o.after p ≤ clock_in later.after p)
    t.first t.others
    (clocks_above top t.first.after acts t.others t.is_rest none.1)
    (never_fall_from top t.first.after acts t.others t.is_rest none.1))

pub clocks_never_fall : (top : ℕ) (pids : List Pid) (acts : List Act) (os : List Outcome)
    → run top pids acts ≡ Some os
    → NoReset acts → ClocksNeverFall os
clocks_never_fall top pids acts os = never_fall_from top (zero_state pids) acts os

-- an act that lifts a clock in its step lifts it in the run
record LiftsFrom (s : State) (os : List Outcome) (p : Pid) (this n : ℕ) : Type 0 where
  above : clock_in s p < this
  lifts : LiftsClock os p this n

lifts_from : (top : ℕ) (s : State) (acts : List Act) (os : List Outcome) (p : Pid) (this n : ℕ)
    (a : Act) (o : Outcome)
    → run_from top s acts ≡ Some os → NoReset acts → slice_get acts n ≡ Some a
    → slice_get os n ≡ Some o
    → ((low : State) → step top low a ≡ Some o → is_reset a ≡ false → Lifts low o p this)
    → LiftsFrom s os p this n
lifts_from top s [] os p this n a o h none at out lifts = absurd (none-some a at)
lifts_from top s (b ∷ acts) os p this zero a o h none at out lifts =
    let t = run_parts top s b acts os h in
    let same : b ≡ a = same_Some b a at in
    let is : t.first ≡ o = same_Some t.first o (ap (λ xs. slice_get xs 0) (sym t.is_whole) ∙ out) in
    let stepped = ap (step top s) (sym same) ∙ t.is_first ∙ ap (λ (x : Outcome). Some x) is in
    let here = lifts s stepped (ap is_reset (sym same) ∙ none.0) in
    record {
      above = here.above;
      lifts = record {
        outcome = o;
        at = out;
        reaches = here.reaches;
        above =
            λ m x less there. absurd (omega arith);
      };
    }
lifts_from top s (b ∷ acts) os p this (suc n) a o h none at out lifts =
    let t = run_parts top s b acts os h in
    let behind = ap (λ xs. slice_get xs (suc n)) (sym t.is_whole) ∙ out in
    let rest = lifts_from top t.first.after acts t.others p this n a o t.is_rest none.1 at behind
    lifts in
    let first = step_clock top s b t.first p t.is_first none.0 in
    let high = rest.above in
    subst (λ xs. LiftsFrom s xs p this (suc n)) (sym t.is_whole) (record {
      above = omega arith;
      lifts = record {
        outcome = rest.lifts.outcome;
        at = rest.lifts.at;
        reaches = rest.lifts.reaches;
        above = λ m x less there.
            elim m as (λ m. m < suc n → slice_get (t.first ∷ t.others) m ≡ Some x
            → clock_in x.after p < this) [
              | zero ↦ λ less there.
                  subst (λ (y : Outcome). clock_in y.after p < this) (same_Some t.first x there)
                  high
              | suc k ↦ λ less there. rest.lifts.above k x (omega arith) there
            ] less there;
      };
    })

pub stamps_lift : (top : ℕ) (pids : List Pid) (acts : List Act) (os : List Outcome)
    → run top pids acts ≡ Some os
    → NoReset acts → (p : Pid) (n : ℕ) (t : Token) → StampsToken acts os p n t
    → LiftsClock os p t.serial.this n
stamps_lift top pids acts os h none p n t r =
    option_and_then_some (λ (o : Outcome). process o.after p) (slice_get os n) r.after r.is_after
    (λ o out is.
    let lifts = λ (s : State) (stepped : step top s r.act ≡ Some o) (_ : is_reset r.act ≡ false).
    subst (λ q. Lifts s o q t.serial.this) r.own
    (stamp_lifts top s r.act o r.after t stepped r.stamped (ap (process o.after) r.own ∙ is)
    r.token) in
    (lifts_from top (zero_state pids) acts os p t.serial.this n r.act o h none r.at out
    lifts).lifts)

-- a reported stamp lifts its process's clock in the run
pub reported_stamps_lift : (top : ℕ) (pids : List Pid) (acts : List Act) (os : List Outcome)
    → run top pids acts ≡ Some os → NoReset acts → (p : Pid) (n : ℕ) (e : Event)
    → Reports acts os p n e
    → e.kind ≢ kind.Receive → LiftsClock os p e.serial.this n
reported_stamps_lift top pids acts os h none p n e r other =
    option_and_then_some (λ (o : Outcome). o.report) (slice_get os n) e r.report (λ o out is.
    let at = step_in top (zero_state pids) acts os n r.act o h r.at out in
    let after = reported_stamp top at.0 r.act o e at.1 is other in
    let told = after.2 in
    subst (λ count. LiftsClock os p count n) (ap (λ serial. serial.this) told.serial)
    (stamps_lift top pids acts os h none p n told.token (record {
      act = r.act;
      at = r.at;
      own = r.own;
      stamped = told.stamped;
      after = after.0;
      is_after = ap (option_and_then (λ (x : Outcome). process x.after p)) out
          ∙ ap (process o.after) (sym r.own) ∙ after.1;
      token = told.has;
    })))

module _ (top : ℕ) (pids : List Pid) (acts : List Act) (os : List Outcome)
    (h : run top pids acts ≡ Some os)
    (r s : ℕ) (f : IsFollowing acts os r s) where
  pub followed_sends_lift : NoReset acts → LiftsClock os f.event.from f.event.serial.this s
  followed_sends_lift none =
      let e = f.event in
      subst (λ count. LiftsClock os e.from count s) (ap (λ serial. serial.this) f.serial)
      (stamps_lift top pids acts os h none e.from s f.token (record {
        act = act.Send e.from f.to e.value;
        at = f.sends;
        own = refl;
        stamped = refl;
        after = f.sender;
        is_after = f.is_sender;
        token = f.stamped;
      }))

  pub reported_sends_agree : (e : Event) → option_and_then (λ o. o.report) (slice_get os s) ≡ Some e
      → e ≡ record f.event { kind = kind.Send }
  reported_sends_agree e reported =
      let x = f.event in
      option_and_then_some (λ (o : Outcome). process o.after x.from) (slice_get os s) f.sender
      f.is_sender (λ o out is.
      let told : o.report ≡ Some e = ap (option_and_then (λ (y : Outcome). y.report)) (sym out)
      ∙ reported in
      let at = step_in top (zero_state pids) acts os s (act.Send x.from f.to x.value) o h f.sends
      out in
      let sends = sent top at.0 x.from f.to x.value o f.sender f.token at.1 is f.stamped in
      sends.report e told ∙ (λ k. record {
        label = f.label k;
        kind = kind.Send;
        serial = f.serial k;
        from = sends.from k;
        to = sym f.is_to k;
        value = x.value;
      }))

pub lifted_once : (os : List Outcome) (p : Pid) (this m n : ℕ) → LiftsClock os p this m
    → LiftsClock os p this n
    → m ≡ n
lifted_once os p this m n a b = elim (cases_order m n) [
  | inl same ↦ same
  | inr (inl less) ↦ let low = b.above m a.outcome less a.at in let high = a.reaches in
      absurd (omega arith)
  | inr (inr more) ↦ let low = a.above n b.outcome more b.at in let high = b.reaches in
      absurd (omega arith)
]

pub lifted_later : (os : List Outcome) (p : Pid) (x y m n : ℕ) → LiftsClock os p x m
    → LiftsClock os p y n → m < n
    → x < y
lifted_later os p x y m n a b less = let low = b.above m a.outcome less a.at in let high =
    a.reaches in omega arith
