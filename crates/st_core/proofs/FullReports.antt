-- If every stamp and every receive of a token is reported, a process's events tell its counts,
-- since without a reset nothing else moves its clock or its last, except a set on no token, which
-- brings last to the clock.
use Rattle.std.proofs.Common.{◌≡◌, ◌≢◌, ℕ, ◌+◌, ◌⊎◌, ◌&&◌, max, zero, suc, Bool, true, false, cond}
use Rattle.std.proofs.Common.{nat_lt, List, [], ◌∷◌, ◌++◌, length, take, Option, Some, None}
use Rattle.std.proofs.Common.{is_some, IsSome, option_map, option_and_then, option_to_list, inl}
use Rattle.std.proofs.Common.{inr, refl, sym, ◌∙◌, ap, subst, arith, append_assoc, append-nil}
use Rattle.std.proofs.Common.{if◌then◌else◌}
use Rattle.std.specs.List.{slice_get}
use Rattle.std.specs.Option.{option_map_or}
use Rattle.std.proofs.lemmas.Bool.{false≢true}
use Rattle.std.proofs.lemmas.Option.{same_Some, none-some, cond_some, option_and_then_some}
use Rattle.st_core.specs.declared.types.Pid.{Pid}
use Rattle.st_core.specs.declared.types.Token.{Token}
use Rattle.st_core.specs.declared.types.Message.{Message}
use Rattle.st_core.specs.declared.types.Kind.{Kind}
use Rattle.st_core.specs.declared.types.Kind.TheVariants as kind
use Rattle.st_core.specs.declared.types.Event.{Event}
use Rattle.st_core.specs.declared.types.Act.{Act}
use Rattle.st_core.specs.declared.types.Act.TheVariants as act
use Rattle.st_core.specs.declared.types.Reply.{Reply}
use Rattle.st_core.specs.declared.types.Reply.TheVariants as reply
use Rattle.st_core.specs.Pid.{pid_eq}
use Rattle.st_core.specs.State.{LocalState, Process, State, process, zero_local, zero_state}
use Rattle.st_core.specs.Stamp.{stamp, stamp_any, stamped_token}
use Rattle.st_core.specs.Local.{received, default_token, has_label}
use Rattle.st_core.specs.Pick.{pick}
use Rattle.st_core.specs.Report.{flag_of, report, token_event}
use Rattle.st_core.specs.Step.{Acted, Outcome, acted, actor, answers, sends, prints, receives}
use Rattle.st_core.specs.Step.{changed, step}
use Rattle.st_core.specs.Run.{run, run_from, stream}
use Rattle.st_core.specs.Pairs.{IsFollowing}
use Rattle.st_core.specs.Laws.{is_reset, NoReset, moves_token, ReportsEverything, greatest_count}
use Rattle.st_core.specs.Laws.{prev_after, GoesOnFrom}
use Rattle.st_core.proofs.Pids.{pid_eq-true, pid_eq-swap}
use Rattle.st_core.proofs.Others.{mapped, Stepped, step_parts, run_parts, process_pid}
use Rattle.st_core.proofs.Others.{process_after, actor_mine, actor_after}
use Rattle.st_core.proofs.Clocks.{SameCounts, changed_counts, sent}
use Rattle.st_core.proofs.Reports.{told, front}

-- THE ACTOR'S PART

-- the counts stay, or last becomes the clock
record IsStill (l m : LocalState) : Type 0 where
  clock : m.clock ≡ l.clock
  last : (m.last ≡ l.last) ⊎ (m.last ≡ m.clock)

unmoved : (l : LocalState) (token : Option Token) → IsStill l (record l { token = token })
unmoved l token = record { clock = refl; last = inl refl }

-- the event reports the stamp by which l became m
record IsStamp (l m : LocalState) (e : Event) : Type 0 where
  kind : e.kind ≢ kind.Receive
  prev : e.serial.prev ≡ l.last
  count : e.serial.this ≡ l.clock + 1
  clock : m.clock ≡ l.clock + 1
  last : m.last ≡ l.last

-- the event reports the receive by which l became m
record IsTake (l m : LocalState) (e : Event) : Type 0 where
  kind : e.kind ≡ kind.Receive
  clock : m.clock ≡ max l.clock e.serial.this
  last : m.last ≡ e.serial.this

-- an act moves its actor's counts as its report, or the lack of one, says
abbrev Moves : LocalState → LocalState → Option Event → Type 0
Moves l m None = IsStill l m
Moves l m (Some e) = IsStamp l m e ⊎ IsTake l m e

module _ (l : LocalState) (k : Kind) (stamps : k ≢ kind.Receive) (traced : Bool) (to : Option Pid)
    (v : ℕ) where
  made_moves : (p : Pid) (t : Token) (b : Bool) → (let made : LocalState =
      record l { token = Some (stamped_token p l t); clock = l.clock + 1 } in
      let told : Option Event = cond b (Some (token_event k (stamped_token p l t) to v)) None in
      IsSome told → Moves l made told)
  made_moves p t true is =
      inl (record { kind = stamps; prev = refl; count = refl; clock = refl; last = refl })
  made_moves p t false is = absurd (false≢true is)

  stamp_moves : (top : ℕ) (p : Pid) (m : LocalState) → stamp top p l ≡ Some m
      → IsSome (report traced k m.token to v)
      → Moves l m (report traced k m.token to v)
  stamp_moves top p m h is =
      let made = λ (t : Token).
      record l { token = Some (stamped_token p l t); clock = l.clock + 1 } in
      option_and_then_some (λ t. cond (nat_lt l.clock top) (Some (made t)) None) l.token m h
      (λ t _ at.
      let same = (cond_some (nat_lt l.clock top) (made t) m at).1 in
      let part = λ (x : LocalState). IsSome (report traced k x.token to v)
      → Moves l x (report traced k x.token to v) in
      subst part same (made_moves p t (traced && flag_of k t.flags)) is)

  any_moves_at : (top : ℕ) (p : Pid) (m : LocalState) (token : Option Token) → l.token ≡ token
      → cond (is_some token) (stamp top p l) (Some l) ≡ Some m
      → (is_some token ≡ true → IsSome (report traced k m.token to v))
      → Moves l m (report traced k m.token to v)
  any_moves_at top p m None e h is =
      let still : Moves l l (report traced k l.token to v) =
      subst (λ token. Moves l l (report traced k token to v)) (sym e)
      (record { clock = refl; last = inl refl }) in
      subst (λ (x : LocalState). Moves l x (report traced k x.token to v)) (same_Some l m h) still
  any_moves_at top p m (Some t) e h is = stamp_moves top p m h (is refl)

  any_moves : (top : ℕ) (p : Pid) (m : LocalState) → stamp_any top p l ≡ Some m
      → (is_some l.token ≡ true → IsSome (report traced k m.token to v))
      → Moves l m (report traced k m.token to v)
  any_moves top p m h is = any_moves_at top p m l.token refl h is

-- an act's part that reports what it has to moves its actor's counts as the report says
abbrev PartMoves : Process → Acted → Bool → Type 0
PartMoves r done moves = (moves ≡ true → IsSome done.report) → Moves r.local done.local done.report

printed_moves : (r : Process) (v : ℕ) (stamped : Option LocalState) (done : Acted) (moves : Bool)
    → ((m : LocalState) → stamped ≡ Some m
    → (moves ≡ true → IsSome (report r.local.traced kind.Print m.token None v))
    → Moves r.local m (report r.local.traced kind.Print m.token None v))
    → option_map (prints r v) stamped ≡ Some done → PartMoves r done moves
printed_moves r v stamped done moves part h =
    let parts = mapped (prints r v) stamped done h in
    subst (λ (x : Acted). PartMoves r x moves) parts.2 (part parts.0 parts.1)

still_moves : (r : Process) (l : LocalState) (y : Reply) (done : Acted) (moves : Bool)
    → Some (answers r l y) ≡ Some done → IsStill r.local l → PartMoves r done moves
still_moves r l y done moves h still =
    subst (λ (x : Acted). PartMoves r x moves) (same_Some (answers r l y) done h) (λ _. still)

take_moves : (r : Process) (place : ℕ) (from : Pid) (v : ℕ) (token : Option Token)
    → (let m : Message = record { from = from; value = v; token = token } in
    PartMoves r (receives r (Some (place, m))) (is_some token))
take_moves r place from v None is = unmoved r.local None
take_moves r place from v (Some t) is =
    elim (r.local.traced && t.flags.receive) as (λ b.
    (let told : Option Event = cond b (Some (token_event kind.Receive t (Some r.pid) v)) None in
    IsSome told → Moves r.local (received r.local (Some t)) told)) [
      | true ↦ λ is. inr (record { kind = refl; clock = refl; last = refl })
      | false ↦ λ is. absurd (false≢true is)
    ] (is refl)

received_moves : (r : Process) (found : Option (ℕ × Message))
    → PartMoves r (receives r found)
    (option_map_or (λ (x : ℕ × Message). is_some x.1.token) found false)
received_moves r None is = unmoved r.local r.local.token
received_moves r (Some found) is =
    let m = found.1 in
    take_moves r found.0 m.from m.value m.token is

set_still : (p : Pid) (l : LocalState) (token : Option Token) → (let m : LocalState = elim token [
  | None ↦ record l { token = Some (default_token p); last = l.clock }
  | Some t ↦ l
] in IsStill l m)
set_still p l None = record { clock = refl; last = inr refl }
set_still p l (Some t) = record { clock = refl; last = inl refl }

acted_moves : (top : ℕ) (a : Act) (r : Process) (done : Acted) → acted top r a ≡ Some done
    → PartMoves r done (moves_token r a)
acted_moves top (act.Send p q v) r done h =
    let parts = mapped (sends r q v) (stamp_any top r.pid r.local) done h in
    subst (λ (x : Acted). PartMoves r x (is_some r.local.token)) parts.2
    (any_moves r.local kind.Send (λ e. absurd (cc)) r.local.traced (Some q) v top r.pid parts.0
    parts.1)
acted_moves top (act.Receive p w) r done h =
    subst (λ (x : Acted). PartMoves r x (moves_token r (act.Receive p w))) (same_Some _ done h)
    (received_moves r (pick w r.queue))
acted_moves top (act.Print p v) r done h =
    printed_moves r v (stamp_any top r.pid r.local) done (is_some r.local.token)
    (any_moves r.local kind.Print (λ e. absurd (cc)) r.local.traced None v top r.pid) h
acted_moves top (act.PrintAt p n v) r done h =
    elim (has_label n r.local.token) as (λ b.
    cond b (option_map (prints r v) (stamp top r.pid r.local)) (Some (answers r r.local reply.Done))
    ≡ Some done
    → PartMoves r done b) [
      | true ↦ λ h. printed_moves r v (stamp top r.pid r.local) done true
          (λ m at is.
          stamp_moves r.local kind.Print (λ e. absurd (cc)) r.local.traced None v top r.pid m at
          (is refl)) h
      | false ↦ λ h. still_moves r r.local reply.Done done false h (unmoved r.local r.local.token)
    ] h
acted_moves top (act.Set p c) r done h =
    let set = set_still r.pid r.local r.local.token in
    still_moves r _ _ done false h (record { clock = set.clock; last = set.last })
acted_moves top (act.Clear p) r done h = still_moves r _ _ done false h (unmoved r.local None)
acted_moves top (act.Restore p t) r done h =
    still_moves r _ _ done false h (unmoved r.local (Some t))
acted_moves top a r done h =
    still_moves r _ _ done false h (unmoved r.local r.local.token)

-- WHAT EVENTS TELL

-- the events tell the counts: the clock is their greatest, and last is what they leave, or the
-- clock
record AreTold (es : List Event) (l : LocalState) : Type 0 where
  clock : l.clock ≡ greatest_count es
  last : (l.last ≡ prev_after es) ⊎ (l.last ≡ l.clock)

told_same : (es : List Event) (l m : LocalState) → SameCounts l m → AreTold es l → AreTold es m
told_same es l m same told = record {
  clock = same.clock ∙ told.clock;
  last = elim told.last [
    | inl x ↦ inl (same.last ∙ x)
    | inr x ↦
        inr (same.last ∙ x ∙ sym same.clock)
  ];
}

pub greatest_push : (es : List Event) (e : Event)
    → greatest_count (es ++ e ∷ []) ≡ max (greatest_count es) e.serial.this
greatest_push [] e = omega arith
greatest_push (d ∷ es) e = let rest = greatest_push es e in omega arith

pub prev_push : (es : List Event) (e : Event) → prev_after (es ++ e ∷ []) ≡ prev_after (e ∷ [])
prev_push (d ∷ f ∷ es) e = prev_push (f ∷ es) e
prev_push es e = refl

abbrev left_by : Event → Kind → ℕ
left_by e k = elim k [
  | kind.Send ↦ e.serial.prev
  | kind.Receive ↦ e.serial.this
  | kind.Print ↦
      e.serial.prev
]

stamp_leaves : (e : Event) → e.kind ≢ kind.Receive → prev_after (e ∷ []) ≡ e.serial.prev
stamp_leaves e other = elim e.kind as (λ k. k ≢ kind.Receive → left_by e k ≡ e.serial.prev) [
  | kind.Send ↦ λ _. refl
  | kind.Receive ↦ λ no. absurd (no refl)
  | kind.Print ↦ λ _. refl
] other

told_next : (es : List Event) (l m : LocalState) (report : Option Event) → Moves l m report
    → AreTold es l
    → AreTold (es ++ option_to_list report) m
told_next es l m None still told =
    subst (λ xs. AreTold xs m) (sym (append-nil es)) (record {
      clock = still.clock ∙ told.clock;
      last = elim still.last [
        | inl same ↦ elim told.last [
          | inl x ↦ inl (same ∙ x)
          | inr x ↦
              inr (same ∙ x ∙ sym still.clock)
        ]
        | inr new ↦ inr new
      ];
    })
told_next es l m (Some e) (inl stamp) told =
    let before = told.clock in
    let clock = stamp.clock in
    let count = stamp.count in
    let push = greatest_push es e in
    record {
      clock = omega arith;
      last = inl (stamp.last ∙ sym stamp.prev ∙ sym (prev_push es e ∙ stamp_leaves e stamp.kind));
    }
told_next es l m (Some e) (inr take) told =
    let before = told.clock in
    let clock = take.clock in
    let push = greatest_push es e in
    record {
      clock = omega arith;
      last =
          inl (take.last ∙ sym (prev_push es e ∙ ap (left_by e) take.kind));
    }

stamp_goes_on : (es : List Event) (l m : LocalState) (e : Event) → Moves l m (Some e)
    → e.kind ≢ kind.Receive
    → AreTold es l → GoesOnFrom es e
stamp_goes_on es l m e (inl stamp) other told = record {
  count = stamp.count ∙ ap (λ n. n + 1) told.clock;
  prev = elim told.last [
    | inl x ↦ inl (stamp.prev ∙ x)
    | inr x ↦
        inr (stamp.prev ∙ x ∙ told.clock)
  ];
}
stamp_goes_on es l m e (inr take) other told = absurd (other take.kind)

-- A STEP

abbrev pub local_found : Option Process → LocalState
local_found o = elim o [ None ↦ zero_local | Some r ↦ r.local ]

abbrev pub local_in : State → Pid → LocalState
local_in s p = local_found (process s p)

-- the act is reported if it moves a token
abbrev TellsAct : State → Act → Outcome → Type 0
TellsAct s a o = (r : Process) → process s (actor a) ≡ Some r → moves_token r a ≡ true
    → IsSome o.report

module _ (top : ℕ) (s : State) (a : Act) (o : Outcome) (t : Stepped top s a o)
    (plain : is_reset a ≡ false) where
  actor_moves : TellsAct s a o → Moves t.before.local t.done.local o.report
  actor_moves tells =
      let same : t.done.report ≡ o.report = ap (λ (x : Outcome). x.report) t.is_outcome in
      subst (Moves t.before.local t.done.local) same
      (acted_moves top a t.before t.done t.is_done
      (λ moves. subst IsSome (sym same) (tells t.before t.is_before moves)))

  own_told : (es : List Event) (p : Pid) → actor a ≡ p → AreTold es (local_in s p)
      → AreTold es t.before.local
  own_told es p who told =
      subst (AreTold es) (ap local_found t.is_before)
      (subst (λ q. AreTold es (local_in s q)) (sym who) told)

  other_counts : (p : Pid) → pid_eq (actor a) p ≡ false
      → SameCounts (local_in s p) (local_in o.after p)
  other_counts p other =
      subst (λ found. SameCounts (local_in s p) (local_found found))
      (sym (process_after top s a o t p))
      (elim (process s p) as (λ found. process s p ≡ found
      → SameCounts (local_found found) (local_found (option_map (changed a t.done) found))) [
        | None ↦ λ _. record { clock = refl; last = refl }
        | Some r ↦ λ is.
            let apart = ap (λ q. pid_eq q (actor a)) (process_pid s p r is)
            ∙ pid_eq-swap p (actor a) ∙ other in
            changed_counts a t.done r false plain apart
      ] refl)

  actor_counts : SameCounts t.done.local (local_in o.after (actor a))
  actor_counts =
      subst (λ found. SameCounts t.done.local (local_found found)) (sym (actor_after top s a o t))
      (changed_counts a t.done t.before true plain (actor_mine top s a o t))

  step_told : (es : List Event) (p : Pid) → TellsAct s a o → AreTold es (local_in s p)
      → AreTold (es ++ told p a o) (local_in o.after p)
  step_told es p tells now =
      elim (pid_eq (actor a) p) as (λ b. pid_eq (actor a) p ≡ b
      → AreTold (es ++ (if b then option_to_list o.report else [])) (local_in o.after p)) [
        | true ↦ λ same.
            let who = pid_eq-true (actor a) p same in
            let part = told_next es t.before.local t.done.local o.report (actor_moves tells)
            (own_told es p who now) in
            let all = es ++ option_to_list o.report in
            subst (λ q. AreTold all (local_in o.after q)) who
            (told_same all t.done.local (local_in o.after (actor a)) actor_counts part)
        | false ↦ λ other.
            subst (λ xs. AreTold xs (local_in o.after p)) (sym (append-nil es))
            (told_same es (local_in s p) (local_in o.after p) (other_counts p other) now)
      ] refl

-- RUNS

take_past : {A : Type 0} (xs ys : List A) (i j : ℕ) → length xs + j ≡ i
    → take i (xs ++ ys) ≡ xs ++ take j ys
take_past [] ys i j e = let same : i ≡ j = omega arith in ap (λ n. take n ys) same
take_past (x ∷ xs) ys zero j e = absurd (omega arith)
take_past (x ∷ xs) ys (suc i) j e = ap (λ zs. x ∷ zs) (take_past xs ys i j (omega arith))

goes_on_from : (top : ℕ) (s : State) (acts : List Act) (os : List Outcome) (p : Pid)
    (es : List Event)
    → run_from top s acts ≡ Some os → NoReset acts → ReportsEverything s acts os
    → AreTold es (local_in s p)
    → (i : ℕ) (e : Event) → slice_get (stream acts os p) i ≡ Some e → e.kind ≢ kind.Receive
    → GoesOnFrom (es ++ take i (stream acts os p)) e
goes_on_from top s [] os p es h none all now i e at other = absurd (none-some e at)
goes_on_from top s (a ∷ acts) os p es h none all now i e at other =
    let t = run_parts top s a acts os h in
    let o = t.first in
    let here = told p a o in
    let tail = stream acts t.others p in
    let full = subst (ReportsEverything s (a ∷ acts)) t.is_whole all in
    let x = step_parts top s a o t.is_first in
    let there : slice_get (here ++ tail) i ≡ Some e =
    ap (λ xs. slice_get (stream (a ∷ acts) xs p) i) (sym t.is_whole) ∙ at in
    subst (λ xs. GoesOnFrom (es ++ take i (stream (a ∷ acts) xs p)) e) (sym t.is_whole)
    (elim (front (pid_eq (actor a) p) o.report tail i e there) [
      | inl first ↦
          let moves = subst (Moves x.before.local x.done.local) first.2
          (actor_moves top s a o x none.0 full.0) in
          let mine = own_told top s a o x none.0 es p (pid_eq-true (actor a) p first.1) now in
          subst (λ n. GoesOnFrom (es ++ take n (here ++ tail)) e) (sym first.0)
          (subst (λ xs. GoesOnFrom xs e) (sym (append-nil es))
          (stamp_goes_on es x.before.local x.done.local e moves other mine))
      | inr rest ↦
          let j = rest.0 in
          let next = step_told top s a o x none.0 es p full.0 now in
          let later =
          goes_on_from top o.after acts t.others p (es ++ here) t.is_rest none.1 full.1 next j e
          rest.2 other in
          let whole : (es ++ here) ++ take j tail ≡ es ++ take i (here ++ tail) =
          append_assoc es here (take j tail)
          ∙ ap (λ xs. es ++ xs) (sym (take_past here tail i j rest.1)) in
          subst (λ xs. GoesOnFrom xs e) whole later
    ])

pub zero_found : (pids : List Pid) (p : Pid) → local_in (zero_state pids) p ≡ zero_local
zero_found [] p = refl
zero_found (q ∷ pids) p =
    let first : Process = record { pid = q; local = zero_local; queue = [] } in
    elim (pid_eq q p) as (λ b. local_found (cond b (Some first) (process (zero_state pids) p))
    ≡ zero_local) [
      | true ↦ refl
      | false ↦ zero_found pids p
    ]

pub tell_counts : (top : ℕ) (pids : List Pid) (acts : List Act) (os : List Outcome)
    → run top pids acts ≡ Some os
    → NoReset acts → ReportsEverything (zero_state pids) acts os → (p : Pid) (i : ℕ) (e : Event)
    → slice_get (stream acts os p) i ≡ Some e → e.kind ≢ kind.Receive
    → GoesOnFrom (take i (stream acts os p)) e
tell_counts top pids acts os h none all p =
    goes_on_from top (zero_state pids) acts os p [] h none all
    (subst (AreTold []) (sym (zero_found pids p)) (record { clock = refl; last = inl refl }))

-- THE SENDS OF RECEIVES

-- an act is a step, and is reported if it moves a token
record StepTold (top : ℕ) (a : Act) (o : Outcome) : Type 0 where
  before : State
  steps : step top before a ≡ Some o
  tells : TellsAct before a o

told_in : (top : ℕ) (s : State) (acts : List Act) (os : List Outcome) (n : ℕ) (a : Act)
    (o : Outcome)
    → run_from top s acts ≡ Some os → ReportsEverything s acts os → slice_get acts n ≡ Some a
    → slice_get os n ≡ Some o → StepTold top a o
told_in top s [] os n a o h all at out = absurd (none-some a at)
told_in top s (b ∷ acts) os n a o h all at out =
    let t = run_parts top s b acts os h in
    let full = subst (ReportsEverything s (b ∷ acts)) t.is_whole all in
    let there = ap (λ xs. slice_get xs n) (sym t.is_whole) ∙ out in
    elim n as (λ n. slice_get (b ∷ acts) n ≡ Some a → slice_get (t.first ∷ t.others) n ≡ Some o
    → StepTold top a o) [
      | zero ↦ λ at there.
          let here : StepTold top b t.first =
          record { before = s; steps = t.is_first; tells = full.0 } in
          subst (λ x. StepTold top x o) (same_Some b a at)
          (subst (StepTold top b) (same_Some t.first o there) here)
      | suc k ↦ λ at there. told_in top t.first.after acts t.others k a o t.is_rest full.1 at there
    ] at there

pub have_sends : (top : ℕ) (pids : List Pid) (acts : List Act) (os : List Outcome)
    → run top pids acts ≡ Some os
    → ReportsEverything (zero_state pids) acts os → (r s : ℕ) → IsFollowing acts os r s
    → IsSome (option_and_then (λ o. o.report) (slice_get os s))
have_sends top pids acts os h all r s f =
    let e = f.event in
    let a = act.Send e.from f.to e.value in
    option_and_then_some (λ (o : Outcome). process o.after e.from) (slice_get os s) f.sender
    f.is_sender (λ o out is.
    let at = told_in top (zero_state pids) acts os s a o h all f.sends out in
    let sends = sent top at.before e.from f.to e.value o f.sender f.token at.steps is f.stamped in
    let t = step_parts top at.before a o at.steps in
    ap (λ (x : Option Outcome). is_some (option_and_then (λ o. o.report) x)) out
    ∙ at.tells t.before t.is_before (sends.had t.before t.is_before))
