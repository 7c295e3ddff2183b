-- Only a put-back changes last without an event: so a stamp with another prev than the last before
-- it has a put-back after the stamp before it.
use Rattle.std.proofs.Common.{◌≡◌, ℕ, ◌+◌, ◌⊎◌, ◌&&◌, ◌==◌, ◌≤◌, true, false, cond, List, [], ◌∷◌}
use Rattle.std.proofs.Common.{◌++◌, Option, Some, None, is_some, option_to_list, inl, inr, refl}
use Rattle.std.proofs.Common.{arith, sym, ◌∙◌, ap, subst, if◌then◌else◌}
use Rattle.std.proofs.lemmas.Bool.{eq-eqb}
use Rattle.st_core.specs.declared.types.Pid.{Pid}
use Rattle.st_core.specs.declared.types.Token.{Token}
use Rattle.st_core.specs.Pid.{pid_eq}
use Rattle.st_core.specs.State.{LocalState, State, zero_state}
use Rattle.st_core.specs.Step.{Outcome}
use Rattle.st_core.proofs.ForCallers.{local_found, local_in, zero_found}
use Rattle.node_machine.specs.Node.{node_actor, node_run, node_run_from, NodeAct, Seen, seen_by}
use Rattle.node_machine.specs.Node.{seen_stream}
use Rattle.node_machine.specs.Premises.{NoNodeReset, put_backs, ReportsTaken, token_put_back}
use Rattle.node_machine.specs.Readings.{is_receipt, last_by}
use Rattle.node_machine.specs.Given.{strange_prevs, strange_prevs_from}
use Rattle.node_machine.proofs.Steps.{node_run_parts, node_step_parts, SameButTraced, actor_found}
use Rattle.node_machine.proofs.Steps.{actor_same, other_same}
use Rattle.node_machine.proofs.Lasts.{Loosely, step_loose}
use Rattle.node_machine.proofs.Tokens.{last_by_answer, last_by_receive, last_by_stamp}

-- the process has the given last, or a put-back is to spare
abbrev Spare : ℕ → ℕ → LocalState → Type 0
Spare spare last l = (l.last ≡ last) ⊎ (1 ≤ spare)

spare_same : (spare last : ℕ) (l m : LocalState) → SameButTraced l m → Spare spare last l
    → Spare spare last m
spare_same spare last l m same (inl is) = inl (same.last ∙ is)
spare_same spare last l m same (inr is) = inr is

-- the put-backs that an event needs, if its process has the given last
abbrev need : ℕ → Seen → ℕ
need last e = if is_receipt e then 0 else (if e.serial.prev == last then 0 else 1)

need_within : (last : ℕ) (e : Seen) → need last e ≤ 1
need_within last e = elim (is_receipt e) as (λ b. cond b 0 (cond (e.serial.prev == last) 0 1) ≤ 1) [
  | true ↦ omega arith
  | false ↦ elim (e.serial.prev == last) as (λ b. cond b 0 1 ≤ 1) [
    | true ↦ omega arith
    | false ↦ omega arith
  ]
]

no_need : (last : ℕ) (e : Seen) → is_receipt e ≡ true → need last e ≡ 0
no_need last e is = ap (λ b. cond b 0 (cond (e.serial.prev == last) 0 1)) is

next_no_need : (last : ℕ) (e : Seen) → is_receipt e ≡ false → e.serial.prev ≡ last
    → need last e ≡ 0
next_no_need last e is prev =
    ap (λ b. cond b 0 (cond (e.serial.prev == last) 0 1)) is
    ∙ ap (λ b. cond b 0 1) (eq-eqb e.serial.prev last prev)

-- an act pays what its event needs, and more is to spare after it
record IsPaid (spare last : ℕ) (back : Option Token) (m : LocalState)
    (report : Option Seen) : Type 0 where
  more : ℕ
  later : elim report as (λ _. Type 0) [
    | None ↦ Spare more last m × (more ≤ cond (is_some back) 1 0 + spare)
    | Some e ↦ Spare more (last_by e) m
        × (need last e + more ≤ cond (is_some back) 1 0 + spare)
  ]

act_paid : (spare last : ℕ) (back : Option Token) (l m : LocalState) (report : Option Seen)
    → Loosely back l m report → Spare spare last l → IsPaid spare last back m report
act_paid spare last (Some t) l m report moves now =
    subst (λ r. IsPaid spare last (Some t) m r) (sym moves.0)
    (record { more = 1 + spare; later = (inr (omega arith), omega arith) })
act_paid spare last None l m None moves (inl is) =
    record { more = spare; later = (inl (moves.last ∙ is), omega arith) }
act_paid spare last None l m None moves (inr is) =
    record { more = spare; later = (inr is, omega arith) }
act_paid spare last None l m (Some e) (inl stamp) now =
    let enough : need last e ≤ spare = elim now as (λ _. need last e ≤ spare) [
      | inl is ↦ let none = next_no_need last e stamp.kind (stamp.prev ∙ is) in omega arith
      | inr is ↦ let within = need_within last e in omega arith
    ] in
    let behind = stamp.last ∙ sym stamp.prev ∙ sym (last_by_stamp e stamp.kind) in
    record { more = 0; later = (inl behind, omega arith) }
act_paid spare last None l m (Some e) (inr (inl take)) now =
    let none = no_need last e take.kind in
    let behind = take.last ∙ sym (last_by_receive e take.kind take.answer) in
    record { more = 0; later = (inl behind, omega arith) }
act_paid spare last None l m (Some e) (inr (inr answer)) now =
    let none = no_need last e answer.kind in
    let behind = answer.last ∙ sym (last_by_answer e answer.kind answer.answer) in
    record { more = 0; later = (inl behind, omega arith) }

paid_for : (s : State) (acts : List NodeAct) (os : List Outcome) (p : Pid)
    (spare last : ℕ)
    → node_run_from s acts ≡ Some os → NoNodeReset acts → ReportsTaken p s acts os
    → Spare spare last (local_in s p)
    → strange_prevs_from last (seen_stream acts os p) ≤ put_backs p acts + spare
paid_for s [] os p spare last h none tells now = omega arith
paid_for s (a ∷ acts) [] p spare last h none tells now = omega arith
paid_for s (a ∷ acts) (o ∷ os) p spare last h none tells now =
    let run = node_run_parts s a acts (o ∷ os) h in
    let x = node_step_parts s a o run.0 in
    let tail = seen_stream acts os p in
    let later = λ (spare last : ℕ) (now : Spare spare last (local_in o.after p)).
    paid_for o.after acts os p spare last run.1 none.1 tells.1 now in
    let backs = put_backs p acts in
    let some = is_some (token_put_back a) in
    elim (pid_eq (node_actor a) p) as (λ b. pid_eq (node_actor a) p ≡ b
    → strange_prevs_from last ((if b then option_to_list (seen_by a o) else []) ++ tail)
    ≤ cond (b && some) 1 0 + backs + spare) [
      | true ↦ λ mine.
          let found = actor_found s a o x none.0 p mine in
          let here : Spare spare last x.before.local =
          subst (Spare spare last) (ap local_found found) now in
          let moves = step_loose s a o x none.0 p mine tells.0 in
          let after = actor_same s a o x none.0 p mine in
          let paid = act_paid spare last (token_put_back a) x.before.local x.done.local
          (seen_by a o) moves here in
          elim (seen_by a o) as (λ r. IsPaid spare last (token_put_back a) x.done.local r
          → strange_prevs_from last (option_to_list r ++ tail) ≤ cond some 1 0 + backs + spare) [
            | None ↦ λ paid.
                let rest = later paid.more last
                (spare_same paid.more last x.done.local (local_in o.after p) after
                paid.later.0) in
                let enough = paid.later.1 in
                omega arith
            | Some e ↦ λ paid.
                let rest = later paid.more (last_by e)
                (spare_same paid.more (last_by e) x.done.local
                (local_in o.after p) after paid.later.0) in
                let enough = paid.later.1 in
                omega arith
          ] paid
      | false ↦ λ other.
          let rest = later spare last (spare_same spare last (local_in s p)
          (local_in o.after p) (other_same s a o x none.0 p other) now) in
          omega arith
    ] refl

pub needs_put_back_anyway : (pids : List Pid) (acts : List NodeAct) (os : List Outcome)
    → node_run pids acts ≡ Some os → NoNodeReset acts → (p : Pid)
    → ReportsTaken p (zero_state pids) acts os
    → strange_prevs (seen_stream acts os p) ≤ put_backs p acts
needs_put_back_anyway pids acts os h none p tells =
    let all = paid_for (zero_state pids) acts os p 0 0 h none tells
    (subst (Spare 0 0) (sym (zero_found pids p)) (inl refl)) in
    omega arith
