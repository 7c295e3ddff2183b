-- Acts that run under one greatest clock run alike under a greater one: only a stamp looks at it,
-- and only to see that the clock is below.
use Rattle.std.proofs.Common.{◌≡◌, ℕ, ◌+◌, ◌≤◌, nat_lt, Bool, true, false, cond, List, [], ◌∷◌}
use Rattle.std.proofs.Common.{Option, Some, None, is_some, option_map, option_and_then, refl, sym}
use Rattle.std.proofs.Common.{◌∙◌, ap, arith}
use Rattle.std.proofs.lemmas.Bool.{ltb-true, lt-ltb}
use Rattle.std.proofs.lemmas.Option.{none-some}
use Rattle.st_core.specs.declared.types.Pid.{Pid}
use Rattle.st_core.specs.declared.types.Token.{Token}
use Rattle.st_core.specs.declared.types.Act.{Act}
use Rattle.st_core.specs.declared.types.Act.TheVariants as act
use Rattle.st_core.specs.State.{LocalState, Process, State}
use Rattle.st_core.specs.Stamp.{stamp, stamp_any, stamped_token}
use Rattle.st_core.specs.Local.{has_label}
use Rattle.st_core.specs.Step.{Acted, Outcome, acted, answers, prints, sends, step}
use Rattle.st_core.specs.Run.{run_from}
use Rattle.st_core.proofs.ForCallers.{mapped, run_parts, step_parts, step_done}
use Rattle.st_core.specs.declared.types.Reply.TheVariants as reply

module _ (top wide : ℕ) (wider : top ≤ wide) where
  under : (b c : Bool) (l m : LocalState) → (b ≡ true → c ≡ true) → cond b (Some l) None ≡ Some m
      → cond c (Some l) None ≡ Some m
  under true c l m h is = ap (λ x. cond x (Some l) None) (h refl) ∙ is
  under false c l m h is = absurd (none-some m is)

  stamp_wider : (p : Pid) (l m : LocalState) → stamp top p l ≡ Some m → stamp wide p l ≡ Some m
  stamp_wider p l m h =
      let made = λ (t : Token). (let m : LocalState =
      record l { token = Some (stamped_token p l t); clock = l.clock + 1 } in m) in
      elim l.token as (λ token.
      option_and_then (λ t. cond (nat_lt l.clock top) (Some (made t)) None) token ≡ Some m
      → option_and_then (λ t. cond (nat_lt l.clock wide) (Some (made t)) None) token ≡ Some m) [
        | None ↦ λ h. h
        | Some t ↦ λ h. under (nat_lt l.clock top) (nat_lt l.clock wide) (made t) m
            (λ below. let less = ltb-true l.clock top below in lt-ltb l.clock wide (omega arith)) h
      ] h

  any_wider : (p : Pid) (l m : LocalState) → stamp_any top p l ≡ Some m
      → stamp_any wide p l ≡ Some m
  any_wider p l m h = elim (is_some l.token) as (λ b. cond b (stamp top p l) (Some l) ≡ Some m
      → cond b (stamp wide p l) (Some l) ≡ Some m) [
        | true ↦ λ h. stamp_wider p l m h
        | false ↦ λ h. h
      ] h

  mapped_wider : (f : LocalState → Acted) (one two : Option LocalState) (done : Acted)
      → ((m : LocalState) → one ≡ Some m → two ≡ Some m) → option_map f one ≡ Some done
      → option_map f two ≡ Some done
  mapped_wider f one two done h is =
      let parts = mapped f one done is in
      ap (option_map f) (h parts.0 parts.1) ∙ ap (λ (d : Acted). Some d) parts.2

  acted_wider : (r : Process) (a : Act) (done : Acted) → acted top r a ≡ Some done
      → acted wide r a ≡ Some done
  acted_wider r (act.Send p q v) done h =
      mapped_wider (sends r q v) (stamp_any top r.pid r.local) (stamp_any wide r.pid r.local) done
      (λ m. any_wider r.pid r.local m) h
  acted_wider r (act.Print p v) done h =
      mapped_wider (prints r v) (stamp_any top r.pid r.local) (stamp_any wide r.pid r.local) done
      (λ m. any_wider r.pid r.local m) h
  acted_wider r (act.PrintAt p n v) done h =
      let other = Some (answers r r.local reply.Done) in
      elim (has_label n r.local.token) as (λ b.
      cond b (option_map (prints r v) (stamp top r.pid r.local)) other ≡ Some done
      → cond b (option_map (prints r v) (stamp wide r.pid r.local)) other ≡ Some done) [
        | true ↦ λ h. mapped_wider (prints r v) (stamp top r.pid r.local) (stamp wide r.pid r.local)
            done
            (λ m. stamp_wider r.pid r.local m) h
        | false ↦ λ h. h
      ] h
  acted_wider r a done h = h

  step_wider : (s : State) (a : Act) (o : Outcome) → step top s a ≡ Some o → step wide s a ≡ Some o
  step_wider s a o h =
      let t = step_parts top s a o h in
      step_done wide s a t.before t.other t.done t.is_before t.is_other
      (acted_wider t.before a t.done t.is_done)
      ∙ ap (λ (x : Outcome). Some x) t.is_outcome

  pub run_wider : (s : State) (acts : List Act) (os : List Outcome) → run_from top s acts ≡ Some os
      → run_from wide s acts ≡ Some os
  run_wider s [] os h = h
  run_wider s (a ∷ acts) os h =
      let t = run_parts top s a acts os h in
      ap (option_and_then (λ (o : Outcome). option_map (λ os. o ∷ os) (run_from wide o.after acts)))
      (step_wider s a t.first t.is_first)
      ∙ ap (option_map (λ os. t.first ∷ os)) (run_wider t.first.after acts t.others t.is_rest)
      ∙ ap (λ (os : List Outcome). Some os) (sym t.is_whole)
