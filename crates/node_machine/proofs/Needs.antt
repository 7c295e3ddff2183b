-- A run says where tokens are put back, and so reads its events in one way: it puts back at least
-- as many as every reading needs.
use Rattle.std.proofs.Common.{◌≡◌, ℕ, ◌+◌, ◌⊎◌, ◌&&◌, ◌≤◌, max, true, false, cond, List, [], ◌∷◌}
use Rattle.std.proofs.Common.{◌++◌, Option, Some, None, is_some, option_to_list, inl, inr, refl}
use Rattle.std.proofs.Common.{arith, sym, ◌∙◌, ap, subst, append_assoc, append-nil, if◌then◌else◌}
use Rattle.st_core.specs.declared.types.Pid.{Pid}
use Rattle.st_core.specs.declared.types.Token.{Token}
use Rattle.st_core.specs.Pid.{pid_eq}
use Rattle.st_core.specs.State.{LocalState, State, zero_local, zero_state}
use Rattle.st_core.specs.Step.{Outcome}
use Rattle.st_core.proofs.ForCallers.{local_found, local_in, zero_found}
use Rattle.node_machine.specs.Counts.{next_clock}
use Rattle.node_machine.specs.Node.{node_actor, node_run, node_run_from, NodeAct, Seen, seen_by}
use Rattle.node_machine.specs.Node.{seen_stream}
use Rattle.node_machine.specs.Premises.{IsAmong, NoNodeReset, put_backs, ReportsTokens}
use Rattle.node_machine.specs.Premises.{token_put_back}
use Rattle.node_machine.specs.Readings.{going_on, last_behind, NeedsAtLeast, put_back_before}
use Rattle.node_machine.specs.Readings.{Reading, readings, taking}
use Rattle.node_machine.proofs.Counts.{FitsSerial}
use Rattle.node_machine.proofs.Lists.{all_of}
use Rattle.node_machine.proofs.Readings.{clock_fits, put_back_reads, stamp_reads, take_reads}
use Rattle.node_machine.proofs.Steps.{node_run_parts, node_step_parts, actor_found, actor_same}
use Rattle.node_machine.proofs.Steps.{other_same}
use Rattle.node_machine.proofs.Moves.{IsStamp, Moves}
use Rattle.node_machine.proofs.Tokens.{clock_by_answer, clock_by_receive, last_by_answer}
use Rattle.node_machine.proofs.Tokens.{last_by_receive, last_push}
use Rattle.node_machine.proofs.Givens.{next_stamp, stamp_last, step_moves, take_fits}

-- a reading of the events leads to the process's counts, with no more put-backs than were spent;
-- or a put-back more was spent after the last stamp
record IsRead (es : List Seen) (spent : ℕ) (l : LocalState) : Type 0 where
  reading : Reading
  reads : IsAmong (readings es) reading
  form : ((l.clock ≡ reading.clock) × (l.last ≡ last_behind 0 es) × (reading.put_backs ≤ spent))
      ⊎ (FitsSerial l.clock × (reading.put_backs + 1 ≤ spent))

read_same : (es : List Seen) (spent : ℕ) (l m : LocalState) → m.clock ≡ l.clock
    → m.last ≡ l.last → IsRead es spent l → IsRead es spent m
read_same es spent l m clock last now = record {
  reading = now.reading;
  reads = now.reads;
  form = elim now.form [
    | inl plain ↦ inl (clock ∙ plain.0, last ∙ plain.1, plain.2)
    | inr back ↦ inr (subst FitsSerial (sym clock) back.0, back.1)
  ];
}

read_within : (es : List Seen) (spent : ℕ) (l : LocalState) (now : IsRead es spent l)
    → now.reading.put_backs ≤ spent
read_within es spent l now = elim now.form as (λ _. now.reading.put_backs ≤ spent) [
  | inl plain ↦ plain.2
  | inr back ↦ let more = back.1 in omega arith
]

stamp_read : (es : List Seen) (spent : ℕ) (l m : LocalState) (e : Seen) → IsStamp l m e
    → IsRead es spent l → IsRead (es ++ e ∷ []) spent m
stamp_read es spent l m e stamp now =
    let r = now.reading in
    elim now.form as (λ _. IsRead (es ++ e ∷ []) spent m) [
      | inl plain ↦ record {
        reading = going_on r;
        reads = stamp_reads es e r now.reads stamp.kind
            (next_stamp es l m e r.clock stamp plain.0 plain.1);
        form = inl (stamp.clock ∙ ap next_clock plain.0, stamp_last es l m e stamp, plain.2);
      }
      | inr back ↦ record {
        reading = put_back_before e r;
        reads = put_back_reads es e r now.reads stamp.kind;
        form = inl (
          stamp.clock ∙ clock_fits l.clock e back.0 stamp.count,
          stamp_last es l m e stamp,
          back.1,
        );
      }
    ]

abbrev counted : Option Token → ℕ → ℕ
counted None spent = spent
counted (Some t) spent = 1 + spent

counted_is : (back : Option Token) (spent : ℕ)
    → counted back spent ≡ cond (is_some back) 1 0 + spent
counted_is None spent = omega arith
counted_is (Some t) spent = omega arith

next_read : (es : List Seen) (spent : ℕ) (back : Option Token) (l m : LocalState)
    (report : Option Seen)
    → Moves back l m report → IsRead es spent l
    → IsRead (es ++ option_to_list report) (counted back spent) m
next_read es spent (Some t) l m report moves now =
    let within = read_within es spent l now in
    subst (λ r. IsRead (es ++ option_to_list r) (1 + spent) m) (sym moves.0)
    (subst (λ xs. IsRead xs (1 + spent) m) (sym (append-nil es)) (record {
      reading = now.reading;
      reads = now.reads;
      form = inr (subst FitsSerial (sym moves.1.clock) moves.1.fits, omega arith);
    }))
next_read es spent None l m None still now =
    subst (λ xs. IsRead xs spent m) (sym (append-nil es))
    (read_same es spent l m still.clock still.last now)
next_read es spent None l m (Some e) (inl stamp) now = stamp_read es spent l m e stamp now
next_read es spent None l m (Some e) (inr (inl take)) now = record {
  reading = taking e now.reading;
  reads = take_reads es e now.reading now.reads take.kind;
  form = elim now.form [
    | inl plain ↦ inl (
      take.clock ∙ ap (λ n. max n e.serial.this) plain.0
          ∙ sym (clock_by_receive e now.reading.clock take.answer),
      take.last ∙ sym (last_push es e 0 ∙ last_by_receive e take.kind take.answer),
      plain.2,
    )
    | inr back ↦ inr (take_fits l m e take back.0, back.1)
  ];
}
next_read es spent None l m (Some e) (inr (inr answer)) now = record {
  reading = taking e now.reading;
  reads = take_reads es e now.reading now.reads answer.kind;
  form = inl (
    answer.clock ∙ sym (clock_by_answer e now.reading.clock answer.answer),
    answer.last ∙ sym (last_push es e 0 ∙ last_by_answer e answer.kind answer.answer),
    read_within es spent l now,
  );
}

-- a reading of the events with at most n put-backs
abbrev ReadsWithin : List Seen → ℕ → Type 0
ReadsWithin es n = (r : Reading) × IsAmong (readings es) r × (r.put_backs ≤ n)

within_more : (es : List Seen) (m n : ℕ) → m ≤ n → ReadsWithin es m → ReadsWithin es n
within_more es m n le found = let within = found.2 in (found.0, found.1, omega arith)

read_from : (s : State) (acts : List NodeAct) (os : List Outcome) (p : Pid)
    (es : List Seen) (spent : ℕ)
    → node_run_from s acts ≡ Some os → NoNodeReset acts → ReportsTokens p s acts os
    → IsRead es spent (local_in s p)
    → ReadsWithin (es ++ seen_stream acts os p) (put_backs p acts + spent)
read_from s [] os p es spent h none tells now =
    let within = read_within es spent (local_in s p) now in
    subst (λ xs. ReadsWithin xs (0 + spent)) (sym (append-nil es))
    (now.reading, now.reads, omega arith)
read_from s (a ∷ acts) [] p es spent h none tells now = absurd (node_run_parts s a acts [] h)
read_from s (a ∷ acts) (o ∷ os) p es spent h none tells now =
    let run = node_run_parts s a acts (o ∷ os) h in
    let x = node_step_parts s a o run.0 in
    let tail = seen_stream acts os p in
    let back = token_put_back a in
    let backs = put_backs p acts in
    elim (pid_eq (node_actor a) p) as (λ b. pid_eq (node_actor a) p ≡ b
    → ReadsWithin (es ++ ((if b then option_to_list (seen_by a o) else []) ++ tail))
    (cond (b && is_some back) 1 0 + backs + spent)) [
      | true ↦ λ mine.
          let found = actor_found s a o x none.0 p mine in
          let here : IsRead es spent x.before.local =
          subst (IsRead es spent) (ap local_found found) now in
          let moves = step_moves s a o x none.0 p mine tells.0 in
          let to = actor_same s a o x none.0 p mine in
          let told = es ++ option_to_list (seen_by a o) in
          let more = counted back spent in
          let same = counted_is back spent in
          let next = read_same told more x.done.local (local_in o.after p) to.clock to.last
          (next_read es spent back x.before.local x.done.local (seen_by a o) moves here) in
          let rest = read_from o.after acts os p told more run.1 none.1 tells.1 next in
          subst (λ xs. ReadsWithin xs (cond (is_some back) 1 0 + backs + spent))
          (append_assoc es (option_to_list (seen_by a o)) tail)
          (within_more (told ++ tail) (backs + more) (cond (is_some back) 1 0 + backs + spent)
          (omega arith) rest)
      | false ↦ λ other.
          let to = other_same s a o x none.0 p other in
          within_more (es ++ tail) (backs + spent) (0 + backs + spent) (omega arith)
          (read_from o.after acts os p es spent run.1 none.1 tells.1
          (read_same es spent (local_in s p) (local_in o.after p) to.clock to.last now))
    ] refl

zero_read : IsRead [] 0 zero_local
zero_read = record {
  reading = record { clock = 0; put_backs = 0 };
  reads = inl refl;
  form = inl (refl, refl, omega arith);
}

pub needs_put_back : (pids : List Pid) (acts : List NodeAct) (os : List Outcome)
    → node_run pids acts ≡ Some os → NoNodeReset acts → (p : Pid)
    → ReportsTokens p (zero_state pids) acts os
    → (n : ℕ) → NeedsAtLeast (seen_stream acts os p) n → n ≤ put_backs p acts
needs_put_back pids acts os h none p tells n least =
    let found = read_from (zero_state pids) acts os p [] 0 h none tells
    (subst (IsRead [] 0) (sym (zero_found pids p)) zero_read) in
    let enough = all_of (λ (r : Reading). n ≤ r.put_backs) (readings (seen_stream acts os p))
    found.0 least found.1 in
    let within = found.2 in
    omega arith
