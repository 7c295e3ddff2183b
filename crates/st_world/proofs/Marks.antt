-- The actor's part of an act leaves the actor's mark: only what a tracer change does to each
-- process sets it.
use Rattle.std.proofs.Common.{◌≡◌, ℕ, ◌+◌, nat_lt, Bool, true, false, if◌then◌else◌, Option, Some}
use Rattle.std.proofs.Common.{None, option_map, option_and_then, refl, sym, ◌∙◌, ap}
use Rattle.std.specs.Option.{is_some}
use Rattle.std.proofs.lemmas.Option.{none-some, same_Some}
use Rattle.st_core.specs.declared.types.Pid.{Pid}
use Rattle.st_core.specs.declared.types.Token.{Token}
use Rattle.st_core.specs.declared.types.Message.{Message}
use Rattle.st_core.specs.declared.types.Component.{Component}
use Rattle.st_core.specs.declared.types.Act.{Act}
use Rattle.st_core.specs.declared.types.Act.TheVariants as act
use Rattle.st_core.specs.declared.types.Reply.TheVariants as reply
use Rattle.st_core.specs.Local.{default_token, with_set, received, has_label}
use Rattle.st_core.specs.Pick.{pick}
use Rattle.st_core.specs.Stamp.{stamped_token, stamp, stamp_any}
use Rattle.st_core.specs.State.{LocalState, Process}
use Rattle.st_core.specs.Step.{Acted, acted, answers, prints, receives, sends}

stamp_mark : (top : ℕ) (p : Pid) (l m : LocalState) → stamp top p l ≡ Some m → m.traced ≡ l.traced
stamp_mark top p l m h = by l.token h
  where
    one : (t : Token) (b : Bool)
        → (if b then Some (let x : LocalState = record l
        { token = Some (stamped_token p l t); clock = l.clock + 1 } in x)
        else None) ≡ Some m
        → m.traced ≡ l.traced
    one t true h = ap (λ (x : LocalState). x.traced) (sym (same_Some _ m h))
    one t false h = absurd (none-some m h)

    by : (o : Option Token)
        → option_and_then (λ t. if nat_lt l.clock top then Some
        (let x : LocalState = record l {
          token = Some (stamped_token p l t);
          clock = l.clock + 1;
        } in x) else None) o ≡ Some m
        → m.traced ≡ l.traced
    by None h = absurd (none-some m h)
    by (Some t) h = one t (nat_lt l.clock top) h

stamp_any_mark : (top : ℕ) (p : Pid) (l m : LocalState) → stamp_any top p l ≡ Some m
    → m.traced ≡ l.traced
stamp_any_mark top p l m h = by (is_some l.token) h
  where
    by : (b : Bool) → (if b then stamp top p l else Some l) ≡ Some m → m.traced ≡ l.traced
    by true h = stamp_mark top p l m h
    by false h = ap (λ (x : LocalState). x.traced) (sym (same_Some l m h))

-- an act that stamps leaves the mark if it does so after every stamp
after_stamp : (f : LocalState → Acted) (o : Option LocalState) (done : Acted) (mark : Bool)
    → ((m : LocalState) → o ≡ Some m → (f m).local.traced ≡ mark)
    → option_map f o ≡ Some done → done.local.traced ≡ mark
after_stamp f None done mark each h = absurd (none-some done h)
after_stamp f (Some m) done mark each h = ap (λ (d : Acted). d.local.traced)
    (sym (same_Some (f m) done h)) ∙ each m refl

at_once : (a done : Acted) (mark : Bool) → a.local.traced ≡ mark → Some a ≡ Some done
    → done.local.traced ≡ mark
at_once a done mark is h = ap (λ (d : Acted). d.local.traced) (sym (same_Some a done h)) ∙ is

set_mark : (p : Pid) (c : Component) (l : LocalState) → (with_set p c l).traced ≡ l.traced
set_mark p c l = by l.token
  where
    by : (o : Option Token)
        → (let x : LocalState = elim o [
          | None ↦ record l
              { token = Some (default_token p); last = l.clock }
          | Some t ↦ l
        ] in x).traced ≡
        l.traced
    by None = refl
    by (Some t) = refl

receive_mark : (r : Process) (o : Option (ℕ × Message))
    → (receives r o).local.traced ≡ r.local.traced
receive_mark r None = refl
receive_mark r (Some found) = by found.1.token
  where
    by : (o : Option Token) → (received r.local o).traced ≡ r.local.traced
    by None = refl
    by (Some t) = refl

pub acted_mark : (top : ℕ) (r : Process) (a : Act) (done : Acted)
    → acted top r a ≡ Some done → done.local.traced ≡ r.local.traced
acted_mark top r (act.Send p q v) done h =
    after_stamp (sends r q v) (stamp_any top r.pid r.local) done r.local.traced
    (stamp_any_mark top r.pid r.local) h
acted_mark top r (act.Receive p w) done h =
    at_once (receives r (pick w r.queue)) done r.local.traced (receive_mark r (pick w r.queue)) h
acted_mark top r (act.Print p v) done h =
    after_stamp (prints r v) (stamp_any top r.pid r.local) done r.local.traced
    (stamp_any_mark top r.pid r.local) h
acted_mark top r (act.PrintAt p n v) done h = by (has_label n r.local.token) h
  where
    by : (b : Bool)
        → (if b then option_map (prints r v) (stamp top r.pid r.local) else Some
        (answers r r.local reply.Done))
        ≡ Some done
        → done.local.traced ≡ r.local.traced
    by true h = after_stamp (prints r v) (stamp top r.pid r.local) done r.local.traced
        (stamp_mark top r.pid r.local) h
    by false h = at_once (answers r r.local reply.Done) done r.local.traced refl h
acted_mark top r (act.Set p c) done h = at_once _ done r.local.traced (set_mark r.pid c r.local) h
acted_mark top r a done h = at_once _ done r.local.traced refl h
