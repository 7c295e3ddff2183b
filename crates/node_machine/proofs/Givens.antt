-- Each act of a process leads to counts that its events show, or puts back a token that it held:
-- so each of its stamps is given.
use Rattle.std.proofs.Common.{◌≡◌, ◌≢◌, ℕ, ◌⊎◌, max, zero, suc, true, false, List, [], ◌∷◌, ◌++◌}
use Rattle.std.proofs.Common.{take, Option, Some, None, IsSome, option_map, option_to_list, inl}
use Rattle.std.proofs.Common.{inr, refl, sym, ◌∙◌, ap, subst, append_assoc, append-nil}
use Rattle.std.proofs.Common.{if◌then◌else◌}
use Rattle.std.specs.List.{slice_get, AllByRecursion}
use Rattle.std.proofs.lemmas.Bool.{false≢true}
use Rattle.std.proofs.lemmas.Option.{same_Some, none-some}
use Rattle.st_core.specs.declared.types.Pid.{Pid}
use Rattle.st_core.specs.declared.types.Serial.{Serial}
use Rattle.st_core.specs.declared.types.Token.{Token}
use Rattle.st_core.specs.declared.types.Kind.TheVariants as kind
use Rattle.st_core.specs.Pid.{pid_eq}
use Rattle.st_core.specs.Event.{kind_eq}
use Rattle.st_core.specs.State.{LocalState, Process, State, process, zero_local, zero_state}
use Rattle.st_core.specs.Step.{Acted, Outcome}
use Rattle.st_core.specs.Laws.{is_reset, moves_token}
use Rattle.st_core.proofs.ForCallers.{local_found, local_in, pid_same, zero_found}
use Rattle.node_machine.specs.Counts.{next_clock, stamp_count}
use Rattle.node_machine.specs.Node.{is_answer, machine_act, node_actor, node_run, node_run_from}
use Rattle.node_machine.specs.Node.{NodeAct, Seen, seen, seen_by, seen_stream}
use Rattle.node_machine.specs.Premises.{IsAmong, NoNodeReset, PutsBackOwn, ReportsTokens}
use Rattle.node_machine.specs.Premises.{serials_in, token_put_back}
use Rattle.node_machine.specs.Readings.{clock_behind, going_on, is_next, is_receipt, last_behind}
use Rattle.node_machine.specs.Readings.{put_back_before, taking}
use Rattle.node_machine.specs.Given.{fresh, IsGiven, IsStraight, IsPutBack, takes, tokens}
use Rattle.node_machine.proofs.Counts.{FitsSerial, max_either}
use Rattle.node_machine.proofs.Lists.{all_append, all_change, all_of}
use Rattle.node_machine.proofs.Readings.{clock_fits, next_true, put_back_reads, some_reading}
use Rattle.node_machine.proofs.Readings.{stamp_reads, take_reads}
use Rattle.node_machine.proofs.Steps.{node_run_parts, node_step_parts, NodeStepped, SameButTraced}
use Rattle.node_machine.proofs.Steps.{actor_found, actor_same, of_token, other_same}
use Rattle.node_machine.proofs.Moves.{IsAnswered, IsBack, IsStamp, IsStill, IsTake, Moves}
use Rattle.node_machine.proofs.Moves.{node_acted_moves, PartMoves}
use Rattle.node_machine.proofs.Tokens.{clock_by_answer, clock_by_receive, clock_push}
use Rattle.node_machine.proofs.Tokens.{last_by_answer, takes_true, tokens_answer, tokens_receive}
use Rattle.node_machine.proofs.Tokens.{last_by_receive, last_by_stamp, last_push, tokens_count}
use Rattle.node_machine.proofs.Tokens.{tokens_fresh, tokens_more, tokens_stamp}

-- WHAT EVENTS TELL

-- the events show that a token with the serial can have been held
abbrev pub IsHeld : List Seen → Serial → Type 0
IsHeld es x = IsAmong (tokens es) x

-- the events lead straight to the counts, or a token was put back and the clock has 60 bits
abbrev pub IsReached : List Seen → ℕ → ℕ → Type 0
IsReached es clock last =
    IsStraight es clock last ⊎ (IsPutBack es clock last × FitsSerial clock)

-- the events tell the process's counts and the serial of its token
pub record AreTold (es : List Seen) (l : LocalState) : Type 0 where
  pub reached : IsReached es l.clock l.last
  pub last : IsHeld es (fresh l.last)
  pub token : (t : Token) → l.token ≡ Some t → IsHeld es t.serial

-- ONE ACT

pub stamp_last : (es : List Seen) (l m : LocalState) (e : Seen) → IsStamp l m e
    → m.last ≡ last_behind 0 (es ++ e ∷ [])
stamp_last es l m e stamp =
    stamp.last ∙ sym stamp.prev ∙ sym (last_push es e 0 ∙ last_by_stamp e stamp.kind)

pub next_stamp : (es : List Seen) (l m : LocalState) (e : Seen) (clock : ℕ) → IsStamp l m e
    → l.clock ≡ clock → l.last ≡ last_behind 0 es
    → is_next clock (last_behind 0 es) e ≡ true
next_stamp es l m e clock stamp same last =
    next_true clock (last_behind 0 es) e (stamp.count ∙ ap stamp_count same) (stamp.prev ∙ last)

fits_max : (a b c : ℕ) → c ≡ max a b → FitsSerial a → FitsSerial b → FitsSerial c
fits_max a b c lifted below_a below_b = elim (max_either a b) [
  | inl left ↦ subst FitsSerial (sym (lifted ∙ left)) below_a
  | inr right ↦ subst FitsSerial (sym (lifted ∙ right)) below_b
]

pub stamp_plain : (es : List Seen) (l m : LocalState) (e : Seen) → IsStamp l m e
    → IsStraight es l.clock l.last
    → IsStraight (es ++ e ∷ []) m.clock m.last
stamp_plain es l m e stamp plain =
    let r = plain.reading in
    record {
      reading = going_on r;
      reads = stamp_reads es e r plain.reads stamp.kind
          (next_stamp es l m e r.clock stamp plain.clock_is plain.last_is);
      clock_is = stamp.clock ∙ ap next_clock plain.clock_is;
      last_is = stamp_last es l m e stamp;
    }

pub stamp_back : (es : List Seen) (l m : LocalState) (e : Seen) → IsStamp l m e
    → FitsSerial l.clock
    → IsStraight (es ++ e ∷ []) m.clock m.last
stamp_back es l m e stamp fits =
    let some = some_reading es in
    record {
      reading = put_back_before e some.0;
      reads = put_back_reads es e some.0 some.1 stamp.kind;
      clock_is = stamp.clock ∙ clock_fits l.clock e fits stamp.count;
      last_is = stamp_last es l m e stamp;
    }

pub take_plain : (es : List Seen) (l m : LocalState) (e : Seen) → IsTake l m e
    → IsStraight es l.clock l.last → IsStraight (es ++ e ∷ []) m.clock m.last
take_plain es l m e take plain =
    let r = plain.reading in
    record {
      reading = taking e r;
      reads = take_reads es e r plain.reads take.kind;
      clock_is = take.clock ∙ ap (λ n. max n e.serial.this) plain.clock_is
          ∙ sym (clock_by_receive e r.clock take.answer);
      last_is = take.last ∙ sym (last_push es e 0 ∙ last_by_receive e take.kind take.answer);
    }

pub answer_plain : (es : List Seen) (l m : LocalState) (e : Seen) → IsAnswered l m e
    → IsStraight (es ++ e ∷ []) m.clock m.last
answer_plain es l m e answer =
    let some = some_reading es in
    record {
      reading = taking e some.0;
      reads = take_reads es e some.0 some.1 answer.kind;
      clock_is = answer.clock ∙ sym (clock_by_answer e some.0.clock answer.answer);
      last_is = answer.last ∙ sym (last_push es e 0 ∙ last_by_answer e answer.kind answer.answer);
    }

pub take_fits : (l m : LocalState) (e : Seen) → IsTake l m e → FitsSerial l.clock
    → FitsSerial m.clock
take_fits l m e take fits =
    let lifted = take.clock in
    let below = take.fits in
    fits_max l.clock e.serial.this m.clock lifted fits below

stamp_reached : (es : List Seen) (l m : LocalState) (e : Seen) → IsStamp l m e
    → IsReached es l.clock l.last
    → IsStraight (es ++ e ∷ []) m.clock m.last
stamp_reached es l m e stamp (inl plain) = stamp_plain es l m e stamp plain
stamp_reached es l m e stamp (inr back) = stamp_back es l m e stamp back.1

stamp_told : (es : List Seen) (l m : LocalState) (e : Seen) → IsStamp l m e → AreTold es l
    → AreTold (es ++ e ∷ []) m
stamp_told es l m e stamp told = record {
  reached = inl (stamp_reached es l m e stamp told.reached);
  last = subst (λ n. IsHeld (es ++ e ∷ []) (fresh n)) (sym stamp.last)
      (tokens_more e es (fresh l.last) told.last);
  token = λ t is. subst (IsHeld (es ++ e ∷ [])) (stamp.token t is)
      (tokens_stamp e es stamp.kind);
}

take_reached : (es : List Seen) (l m : LocalState) (e : Seen) → IsTake l m e
    → IsReached es l.clock l.last
    → IsReached (es ++ e ∷ []) m.clock m.last
take_reached es l m e take (inl plain) = inl (take_plain es l m e take plain)
take_reached es l m e take (inr (back, fits)) = inr (
  record {
    front = back.front;
    back = back.back ++ e ∷ [];
    split = ap (λ xs. xs ++ e ∷ []) back.split ∙ append_assoc back.front back.back (e ∷ []);
    receives = all_append (λ e. takes e ≡ true) back.back (e ∷ []) back.receives
        (takes_true e take.kind take.answer, tt);
    token = back.token;
    held = back.held;
    clock_is = take.clock ∙ ap (λ n. max n e.serial.this) back.clock_is
        ∙ sym (clock_push back.back e back.token.this
        ∙ clock_by_receive e (clock_behind back.token.this back.back) take.answer);
    last_is = take.last
        ∙ sym (last_push back.back e back.token.prev ∙ last_by_receive e take.kind take.answer);
  },
  take_fits l m e take fits,
)

take_told : (es : List Seen) (l m : LocalState) (e : Seen) → IsTake l m e → AreTold es l
    → AreTold (es ++ e ∷ []) m
take_told es l m e take told = record {
  reached = take_reached es l m e take told.reached;
  last = subst (λ n. IsHeld (es ++ e ∷ []) (fresh n)) (sym take.last)
      (tokens_count e es take.kind take.answer);
  token = λ t is. subst (IsHeld (es ++ e ∷ [])) (take.token t is)
      (tokens_receive e es take.kind take.answer);
}

answer_told : (es : List Seen) (l m : LocalState) (e : Seen) → IsAnswered l m e → AreTold es l
    → AreTold (es ++ e ∷ []) m
answer_told es l m e answer told = record {
  reached = inl (answer_plain es l m e answer);
  last = subst (λ n. IsHeld (es ++ e ∷ []) (fresh n)) (sym answer.last)
      (tokens_answer e es answer.kind answer.answer);
  token = λ t is. tokens_more e es t.serial (told.token t (sym answer.token ∙ is));
}

still_told : (es : List Seen) (l m : LocalState) → IsStill l m → AreTold es l → AreTold es m
still_told es l m still told = record {
  reached = subst (λ n. IsReached es n m.last) (sym still.clock)
      (subst (IsReached es l.clock) (sym still.last) told.reached);
  last = subst (λ n. IsHeld es (fresh n)) (sym still.last) told.last;
  token = λ t is. elim (still.token t is) [
    | inl old ↦ subst (IsHeld es) old.2 (told.token old.0 old.1)
    | inr new ↦ subst (IsHeld es) (sym new) told.last
  ];
}

pub told_same : (es : List Seen) (l m : LocalState) → SameButTraced l m → AreTold es l
    → AreTold es m
told_same es l m same = still_told es l m (record {
  clock = same.clock;
  last = same.last;
  token = λ t is. inl (t, sym same.token ∙ is, refl);
})

back_told : (es : List Seen) (t : Token) (m : LocalState) → IsBack t m → IsHeld es t.serial
    → AreTold es m
back_told es t m back held = record {
  reached = inr (
    record {
      front = es;
      back = [];
      split = sym (append-nil es);
      receives = tt;
      token = t.serial;
      held = held;
      clock_is = back.clock;
      last_is = back.last;
    },
    subst FitsSerial (sym back.clock) back.fits,
  );
  last = subst (λ n. IsHeld es (fresh n)) (sym back.last) (tokens_fresh es t.serial held);
  token = λ u is. subst (λ (x : Token). IsHeld es x.serial)
      (same_Some t u (sym back.token ∙ is)) held;
}

pub next_told : (es : List Seen) (back : Option Token) (l m : LocalState) (report : Option Seen)
    → Moves back l m report
    → ((t : Token) → back ≡ Some t → IsHeld es t.serial) → AreTold es l
    → AreTold (es ++ option_to_list report) m
next_told es (Some t) l m report moves own told =
    subst (λ r. AreTold (es ++ option_to_list r) m) (sym moves.0)
    (subst (λ xs. AreTold xs m) (sym (append-nil es))
    (back_told es t m moves.1 (own t refl)))
next_told es None l m None moves own told =
    subst (λ xs. AreTold xs m) (sym (append-nil es)) (still_told es l m moves told)
next_told es None l m (Some e) (inl stamp) own told = stamp_told es l m e stamp told
next_told es None l m (Some e) (inr (inl take)) own told = take_told es l m e take told
next_told es None l m (Some e) (inr (inr answer)) own told = answer_told es l m e answer told

pub reached_way : (es : List Seen) (clock last : ℕ) → IsReached es clock last
    → IsStraight es clock last ⊎ IsPutBack es clock last
reached_way es clock last (inl plain) = inl plain
reached_way es clock last (inr back) = inr back.0

now_given : (es : List Seen) (back : Option Token) (l m : LocalState) (e : Seen)
    → Moves back l m (Some e)
    → is_receipt e ≡ false → AreTold es l → IsGiven es e
now_given es (Some t) l m e moves is told = absurd (none-some e (sym moves.0))
now_given es None l m e (inl stamp) is told = record {
  clock = l.clock;
  count = stamp.count;
  way = subst (λ n. IsStraight es l.clock n ⊎ IsPutBack es l.clock n) (sym stamp.prev)
      (reached_way es l.clock l.last told.reached);
}
now_given es None l m e (inr (inl take)) is told = absurd (false≢true (sym is ∙ take.kind))
now_given es None l m e (inr (inr answer)) is told =
    absurd (false≢true (sym is ∙ answer.kind))

-- RUNS

-- P holds of each stamp among the later events, with the events before it
abbrev pub EachStamp : (List Seen → Seen → Type 0) → List Seen → List Seen → Type 0
EachStamp P es [] = Unit {0}
EachStamp P es (e ∷ rest) = (is_receipt e ≡ false → P es e) × EachStamp P (es ++ e ∷ []) rest

pub stamps_part : (P : List Seen → Seen → Type 0) (es : List Seen) (report : Option Seen)
    (rest : List Seen) → ((e : Seen) → report ≡ Some e → is_receipt e ≡ false → P es e)
    → EachStamp P (es ++ option_to_list report) rest
    → EachStamp P es (option_to_list report ++ rest)
stamps_part P es None rest now later = subst (λ xs. EachStamp P xs rest) (append-nil es) later
stamps_part P es (Some e) rest now later = (now e refl, later)

pub stamp_at : (P : List Seen → Seen → Type 0) (es rest : List Seen) (i : ℕ) (e : Seen)
    → EachStamp P es rest → slice_get rest i ≡ Some e → is_receipt e ≡ false
    → P (es ++ take i rest) e
stamp_at P es [] i e all at is = absurd (none-some e at)
stamp_at P es (d ∷ rest) zero e all at is =
    subst (λ xs. P xs e) (sym (append-nil es))
    (subst (λ x. is_receipt x ≡ false → P es x) (same_Some d e at) all.0 is)
stamp_at P es (d ∷ rest) (suc i) e all at is =
    subst (λ xs. P xs e) (append_assoc es (d ∷ []) (take i rest))
    (stamp_at P (es ++ d ∷ []) rest i e all.1 at is)

pub held_more : (P : List Seen → Serial → Type 0) (es : List Seen)
    → ((e : Seen) (x : Serial) → P es x → P (es ++ e ∷ []) x) → (report : Option Seen)
    (held : List Serial) → AllByRecursion (P es) held
    → AllByRecursion (P (es ++ option_to_list report)) held
held_more P es more None held all =
    subst (λ xs. AllByRecursion (P xs) held) (sym (append-nil es)) all
held_more P es more (Some e) held all = all_change (P es) (P (es ++ e ∷ [])) (more e) held all

module _ (s : State) (a : NodeAct) (o : Outcome) (x : NodeStepped s a o)
    (plain : is_reset (machine_act a) ≡ false) (p : Pid) where
  pub step_moves : pid_eq (node_actor a) p ≡ true
      → (node_actor a ≡ p → (r : Process) → process s p ≡ Some r
      → moves_token r (machine_act a) ≡ true
      → IsSome o.report)
      → Moves (token_put_back a) x.before.local x.done.local (seen_by a o)
  step_moves mine tells =
      let same : x.done.report ≡ o.report = ap (λ (y : Outcome). y.report) x.is_outcome in
      let found = actor_found s a o x plain p mine in
      subst (λ r. Moves (token_put_back a) x.before.local x.done.local
      (option_map (seen (is_answer a)) r)) same
      (subst (λ (done : Acted). PartMoves (token_put_back a) (is_answer a) x.before done
      (moves_token x.before (machine_act a))) x.is_done (node_acted_moves a x.before) (λ moves.
      subst IsSome (sym same) (tells (pid_same (node_actor a) p mine) x.before found moves)))

  pub step_told : (es : List Seen) (mine : pid_eq (node_actor a) p ≡ true)
      → Moves (token_put_back a) x.before.local x.done.local (seen_by a o)
      → ((t : Token) → token_put_back a ≡ Some t → IsHeld es t.serial) → AreTold es x.before.local
      → AreTold (es ++ option_to_list (seen_by a o)) (local_in o.after p)
  step_told es mine moves own now =
      told_same (es ++ option_to_list (seen_by a o)) x.done.local (local_in o.after p)
      (actor_same s a o x plain p mine)
      (next_told es (token_put_back a) x.before.local x.done.local (seen_by a o) moves own now)

given_from : (s : State) (acts : List NodeAct) (os : List Outcome) (p : Pid)
    (es : List Seen) (held : List Serial)
    → node_run_from s acts ≡ Some os → NoNodeReset acts → ReportsTokens p s acts os
    → PutsBackOwn p held s acts os → AllByRecursion (IsHeld es) held → AreTold es (local_in s p)
    → EachStamp IsGiven es (seen_stream acts os p)
given_from s [] os p es held h none tells owns had now = tt
given_from s (a ∷ acts) [] p es held h none tells owns had now = tt
given_from s (a ∷ acts) (o ∷ os) p es held h none tells owns had now =
    let run = node_run_parts s a acts (o ∷ os) h in
    let x = node_step_parts s a o run.0 in
    let tail = seen_stream acts os p in
    let holds = held ++ serials_in s p in
    let have : AllByRecursion (IsHeld es) holds =
    all_append (IsHeld es) held (serials_in s p) had
    (of_token (IsHeld es) (λ (t : Token). t.serial) (process s p) now.token) in
    elim (pid_eq (node_actor a) p) as (λ b. pid_eq (node_actor a) p ≡ b
    → EachStamp IsGiven es ((if b then option_to_list (seen_by a o) else []) ++ tail)) [
      | true ↦ λ mine.
          let found = actor_found s a o x none.0 p mine in
          let here : AreTold es x.before.local = subst (AreTold es) (ap local_found found) now in
          let moves = step_moves s a o x none.0 p mine tells.0 in
          let mine_own = λ (t : Token) (is : token_put_back a ≡ Some t).
          all_of (IsHeld es) holds t.serial have (owns.0 (pid_same (node_actor a) p mine) t is) in
          stamps_part IsGiven es (seen_by a o) tail
          (λ e is stamp. now_given es (token_put_back a) x.before.local x.done.local e
          (subst (Moves (token_put_back a) x.before.local x.done.local) is moves) stamp here)
          (given_from o.after acts os p (es ++ option_to_list (seen_by a o)) holds run.1
          none.1 tells.1 owns.1
          (held_more IsHeld es (λ e. tokens_more e es) (seen_by a o) holds have)
          (step_told s a o x none.0 p es mine moves mine_own here))
      | false ↦ λ other.
          given_from o.after acts os p es holds run.1 none.1 tells.1 owns.1 have
          (told_same es (local_in s p) (local_in o.after p)
          (other_same s a o x none.0 p other) now)
    ] refl

pub no_receive : (e : Seen) → e.kind ≢ kind.Receive → is_receipt e ≡ false
no_receive e other = elim e.kind as (λ k. k ≢ kind.Receive → kind_eq k kind.Receive ≡ false) [
  | kind.Receive ↦ λ no. absurd (no refl)
  | _ ↦ λ _. refl
] other

pub zero_straight : IsStraight [] zero_local.clock zero_local.last
zero_straight = record {
  reading = record { clock = 0; put_backs = 0 };
  reads = inl refl;
  clock_is = refl;
  last_is = refl;
}

pub zero_told : AreTold [] zero_local
zero_told = record {
  reached = inl zero_straight;
  last = inl refl;
  token = λ t is. absurd (none-some t is);
}

pub stamps_given : (pids : List Pid) (acts : List NodeAct) (os : List Outcome)
    → node_run pids acts ≡ Some os → NoNodeReset acts → (p : Pid)
    → ReportsTokens p (zero_state pids) acts os → PutsBackOwn p [] (zero_state pids) acts os
    → (i : ℕ) (e : Seen) → slice_get (seen_stream acts os p) i ≡ Some e → e.kind ≢ kind.Receive
    → IsGiven (take i (seen_stream acts os p)) e
stamps_given pids acts os h none p tells own i e at other =
    stamp_at IsGiven [] (seen_stream acts os p) i e
    (given_from (zero_state pids) acts os p [] [] h none tells own tt
    (subst (AreTold []) (sym (zero_found pids p)) zero_told)) at (no_receive e other)
