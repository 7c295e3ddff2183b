-- An entry is legal for a process, since the calls on the process returned the machine's own
-- parts.
use Rattle.std.proofs.Common.{◌≡◌, ℕ, Bool, true, false, ◌&&◌, ◌==◌, List, Option}
use Rattle.std.proofs.Common.{Some, None, option_map, refl, sym, ◌∙◌, ap}
use Rattle.std.specs.Prelude.{MatchBool}
use Rattle.std.proofs.lemmas.Option.{same_Some}
use Rattle.st_core.specs.declared.types.Pid.{Pid}
use Rattle.st_core.specs.declared.types.Token.{Token}
use Rattle.st_core.specs.declared.types.Message.{Message}
use Rattle.st_core.specs.declared.types.Want.{Want}
use Rattle.st_core.specs.declared.types.Act.{Act}
use Rattle.st_core.specs.declared.types.Act.TheVariants as act
use Rattle.st_core.specs.declared.types.Reply.{Reply}
use Rattle.st_core.specs.Pid.{pid_eq, node_eq}
use Rattle.st_core.specs.State.{LocalState, Process}
use Rattle.st_core.specs.Step.{Acted, acted, actor, touches, reached}
use Rattle.st_core.proofs.ForCallers.{pid_eq-true, pid_eq-same, changed_pid, reached_pid}
use Rattle.st_mail.specs.Actor.{process_of, part_of, is_inner}
use Rattle.st_mail.specs.declared.outcome.Outcome.{Outcome as Told}
use Rattle.st_log.specs.declared.entry.Entry.{Entry}
use Rattle.st_log.specs.Entries.{is_wide}
use Rattle.st_runtime.specs.Logs.{carried_by, IsOwnPart, IsOtherPart, IsPart}

-- CASES

match_true : (b : Bool) (P Q : Type 0) → b ≡ true → P → MatchBool b P Q
match_true true P Q is p = p
match_true false P Q is p = cc

match_false : (b : Bool) (P Q : Type 0) → b ≡ false → Q → MatchBool b P Q
match_false true P Q is q = cc
match_false false P Q is q = q

-- by cases on a test
pub match_test : (b : Bool) (P Q : Type 0) → (b ≡ true → P) → (b ≡ false → Q) → MatchBool b P Q
match_test true P Q p q = p refl
match_test false P Q p q = q refl

-- THE PID OF A PROCESS

node_same : (p : Pid) → node_eq p p ≡ true
node_same p = left (p.node == p.node) _ (pid_eq-same p)
  where
    left : (a b : Bool) → (a && b) ≡ true → a ≡ true
    left true b both = refl
    left false b both = both

-- an act touches its actor
pub touches_actor : (a : Act) → touches a (actor a) ≡ true
touches_actor (act.Send p q v) = rw (pid_eq-same p) refl
touches_actor (act.Reset p) = node_same p
touches_actor (act.Tracer p b) = node_same p
touches_actor a = pid_eq-same (actor a)

-- no part changes the pid of a process
pub part_pid : (top : ℕ) (r : Process) (e : Entry) (m : Process) → IsPart top r e m → m.pid ≡ r.pid
part_pid top r e m part =
    elim (pid_eq r.pid (actor e.act)) as (λ b.
    MatchBool b (IsOwnPart top r e m) (IsOtherPart top r e m) → m.pid ≡ r.pid) [
      | true ↦ λ own. ap (λ (x : Process). x.pid) (sym own.after) ∙ changed_pid e.act own.done r
      | false ↦ λ other. ap (λ (x : Process). x.pid) (sym other.after)
          ∙ reached_pid e.act e.carried r
    ] part.part

-- THE ACTOR'S OWN PART

pub own_is_part : (top : ℕ) (r : Process) (e : Entry) (s : Process)
    → actor e.act ≡ r.pid → IsOwnPart top r e s → IsPart top r e s
own_is_part top r e s mine own = record {
  touched = ap (touches e.act) (sym mine) ∙ touches_actor e.act;
  part = match_true (pid_eq r.pid (actor e.act)) _ _ (ap (pid_eq r.pid) mine ∙ pid_eq-same r.pid)
      own;
}

-- the entry of an act with the given report, reply and token
abbrev pub entry_of : ℕ → Act → Told → Option Token → Entry
entry_of n a told carried = record {
  rank = n;
  act = a;
  reply = told.reply;
  report = told.report;
  carried = carried;
}

-- the actor is changed by its own part, and then by what reaches it
pub own_part : (top : ℕ) (a : Act) (p : Pid) (l m : LocalState) (queue queue' : List Message)
    (n : ℕ) (told : Told)
    → actor a ≡ p → acted top (process_of p l queue) a ≡ Some (part_of told m queue')
    → IsOwnPart top (process_of p l queue) (entry_of n a told (carried_by a m.token))
    (reached a m.token (process_of p m queue'))
own_part top a p l m queue queue' n told mine acts = record {
  done = part_of told m queue';
  acts = acts;
  reply = refl;
  report = refl;
  carried = refl;
  after = rw (mine, pid_eq-same p) refl;
}

inner_reached : (a : Act) (t : Option Token) (r : Process) → is_inner a ≡ true → reached a t r ≡ r
inner_reached (act.Send p q v) t r inner = absurd (cc)
inner_reached (act.Reset p) t r inner = absurd (cc)
inner_reached (act.Tracer p b) t r inner = absurd (cc)
inner_reached a t r inner = refl

inner_carried : (a : Act) (t : Option Token) → is_inner a ≡ true → carried_by a t ≡ None
inner_carried (act.Send p q v) t inner = absurd (cc)
inner_carried a t inner = refl

-- an act that leaves all queues
pub inner_part : (top : ℕ) (a : Act) (p : Pid) (l m : LocalState) (queue : List Message) (n : ℕ)
    (told : Told)
    → is_inner a ≡ true → actor a ≡ p
    → acted top (process_of p l queue) a ≡ Some (part_of told m queue)
    → IsOwnPart top (process_of p l queue) (entry_of n a told None) (process_of p m queue)
inner_part top a p l m queue n told inner mine acts =
    let carried : carried_by a m.token ≡ None = inner_carried a m.token inner in
    let after : reached a m.token (process_of p m queue) ≡ process_of p m queue =
    inner_reached a m.token (process_of p m queue) inner in
    rw (← carried, ← after) (own_part top a p l m queue queue n told mine acts)

pub receive_part : (top : ℕ) (p : Pid) (w : Want) (l m : LocalState) (queue queue' : List Message)
    (n : ℕ)
    (told : Told) → acted top (process_of p l queue) (act.Receive p w)
    ≡ Some (part_of told m queue')
    → IsOwnPart top (process_of p l queue) (entry_of n (act.Receive p w) told None)
    (process_of p m queue')
receive_part top p w l m queue queue' n told acts =
    own_part top (act.Receive p w) p l m queue queue' n told refl acts

-- THE PART OF ANOTHER

pub other_is_part : (top : ℕ) (r : Process) (e : Entry) (s : Process)
    → touches e.act r.pid ≡ true → pid_eq r.pid (actor e.act) ≡ false → IsOtherPart top r e s
    → IsPart top r e s
other_is_part top r e s touched apart other = record {
  touched = touched;
  part = match_false (pid_eq r.pid (actor e.act)) _ _ apart other;
}

-- THE PARTS OF A WHOLE NODE

-- the entry of an act of a whole node
abbrev pub wide_entry : ℕ → Act → Reply → Entry
wide_entry n a y = record { rank = n; act = a; reply = y; report = None; carried = None }

-- the act's reply is the machine's, if r is its actor
abbrev pub IsReplied : ℕ → Process → Act → Reply → Type 0
IsReplied top r a y = actor a ≡ r.pid → option_map (λ (done : Acted). done.reply) (acted top r a)
    ≡ Some y

pub wide_part : (top : ℕ) (r : Process) (n : ℕ) (a : Act) (y : Reply)
    → is_wide a ≡ true → node_eq r.pid (actor a) ≡ true → IsReplied top r a y
    → IsPart top r (wide_entry n a y) (reached a None r)
wide_part top r n (act.Reset p) y wide node replied = record {
  touched = node;
  part = match_test (pid_eq r.pid p) _ _
      (λ is. record {
        done = _;
        acts = refl;
        reply = same_Some _ _ (replied (sym (pid_eq-true r.pid p is)));
        report = refl;
        carried = refl;
        after = rw is refl;
      })
      (λ is. record { carried = refl; after = refl });
}
wide_part top r n (act.Tracer p b) y wide node replied = record {
  touched = node;
  part = match_test (pid_eq r.pid p) _ _
      (λ is. record {
        done = _;
        acts = refl;
        reply = same_Some _ _ (replied (sym (pid_eq-true r.pid p is)));
        report = refl;
        carried = refl;
        after = rw is refl;
      })
      (λ is. record { carried = refl; after = refl });
}
wide_part top r n (act.Send p q v) y wide node replied = absurd (cc)
wide_part top r n (act.Receive p w) y wide node replied = absurd (cc)
wide_part top r n (act.Print p v) y wide node replied = absurd (cc)
wide_part top r n (act.PrintAt p k v) y wide node replied = absurd (cc)
wide_part top r n (act.Set p c) y wide node replied = absurd (cc)
wide_part top r n (act.Clear p) y wide node replied = absurd (cc)
wide_part top r n (act.Restore p t) y wide node replied = absurd (cc)
wide_part top r n (act.Look p) y wide node replied = absurd (cc)
