-- Only a put-back leads to counts that no reading of the events has.
use Rattle.std.proofs.Common.{◌≡◌, ◌≢◌, ℕ, ◌⊎◌, ◌&&◌, true, false, cond, List, [], ◌∷◌, ◌++◌}
use Rattle.std.proofs.Common.{length, take, Option, Some, None, is_some, option_to_list, inl, inr}
use Rattle.std.proofs.Common.{refl, sym, ◌∙◌, ap, subst, append_assoc, append-nil, if◌then◌else◌}
use Rattle.std.specs.List.{slice_get}
use Rattle.std.proofs.lemmas.Bool.{false≢true}
use Rattle.std.proofs.lemmas.Option.{none-some}
use Rattle.st_core.specs.declared.types.Pid.{Pid}
use Rattle.st_core.specs.declared.types.Token.{Token}
use Rattle.st_core.specs.declared.types.Kind.TheVariants as kind
use Rattle.st_core.specs.Pid.{pid_eq}
use Rattle.st_core.specs.State.{LocalState, State, zero_state}
use Rattle.st_core.specs.Step.{Outcome}
use Rattle.st_core.proofs.ForCallers.{local_found, local_in, zero_found}
use Rattle.node_machine.specs.Node.{node_actor, node_run, node_run_from, NodeAct, Seen, seen_by}
use Rattle.node_machine.specs.Node.{seen_stream}
use Rattle.node_machine.specs.Premises.{IsAmong, NoNodeReset, places, ReportsTokens, token_put_back}
use Rattle.node_machine.specs.Readings.{is_next, is_receipt, last_behind, NeedsPutBack, Reading}
use Rattle.node_machine.specs.Readings.{readings}
use Rattle.node_machine.specs.Given.{IsMet, IsStraight, takes}
use Rattle.node_machine.proofs.Counts.{FitsSerial}
use Rattle.node_machine.proofs.Lists.{all_append, all_of, among_back}
use Rattle.node_machine.proofs.Steps.{node_run_parts, node_step_parts, actor_found, actor_same}
use Rattle.node_machine.proofs.Steps.{other_same}
use Rattle.node_machine.proofs.Moves.{Moves}
use Rattle.node_machine.proofs.Tokens.{takes_true}
use Rattle.node_machine.proofs.Givens.{answer_plain, next_stamp, no_receive, stamp_back, EachStamp}
use Rattle.node_machine.proofs.Givens.{stamp_at, stamps_part, stamp_plain, step_moves, take_fits}
use Rattle.node_machine.proofs.Givens.{take_plain, zero_straight}

-- the events lead straight to the counts, or a token was put back after the last stamp
abbrev IsCounted : List ℕ → List Seen → LocalState → Type 0
IsCounted all es l = IsStraight es l.clock l.last ⊎ (IsMet all es × FitsSerial l.clock)

counted_same : (all : List ℕ) (es : List Seen) (l m : LocalState) → m.clock ≡ l.clock
    → m.last ≡ l.last
    → IsCounted all es l → IsCounted all es m
counted_same all es l m clock last (inl plain) = inl (record {
  reading = plain.reading;
  reads = plain.reads;
  clock_is = clock ∙ plain.clock_is;
  last_is = last ∙ plain.last_is;
})
counted_same all es l m clock last (inr met) = inr (met.0, subst FitsSerial (sym clock) met.1)

met_longer : (all : List ℕ) (es : List Seen) (e : Seen) → takes e ≡ true → IsMet all es
    → IsMet all (es ++ e ∷ [])
met_longer all es e is met = record {
  front = met.front;
  back = met.back ++ e ∷ [];
  split = ap (λ xs. xs ++ e ∷ []) met.split ∙ append_assoc met.front met.back (e ∷ []);
  receives = all_append (λ e. takes e ≡ true) met.back (e ∷ []) met.receives (is, tt);
  place = met.place;
}

next_counted : (all : List ℕ) (es : List Seen) (back : Option Token) (l m : LocalState)
    (report : Option Seen)
    → Moves back l m report → (is_some back ≡ true → IsMet all es) → IsCounted all es l
    → IsCounted all (es ++ option_to_list report) m
next_counted all es (Some t) l m report moves here now =
    subst (λ r. IsCounted all (es ++ option_to_list r) m) (sym moves.0)
    (subst (λ xs. IsCounted all xs m) (sym (append-nil es))
    (inr (here refl, subst FitsSerial (sym moves.1.clock) moves.1.fits)))
next_counted all es None l m None still here now =
    subst (λ xs. IsCounted all xs m) (sym (append-nil es))
    (counted_same all es l m still.clock still.last now)
next_counted all es None l m (Some e) (inl stamp) here (inl plain) =
    inl (stamp_plain es l m e stamp plain)
next_counted all es None l m (Some e) (inl stamp) here (inr met) =
    inl (stamp_back es l m e stamp met.1)
next_counted all es None l m (Some e) (inr (inl take)) here (inl plain) =
    inl (take_plain es l m e take plain)
next_counted all es None l m (Some e) (inr (inl take)) here (inr met) =
    inr (met_longer all es e (takes_true e take.kind take.answer) met.0, take_fits l m e take met.1)
next_counted all es None l m (Some e) (inr (inr answer)) here now =
    inl (answer_plain es l m e answer)

now_met : (all : List ℕ) (es : List Seen) (back : Option Token) (l m : LocalState) (e : Seen)
    → Moves back l m (Some e)
    → is_receipt e ≡ false → NeedsPutBack es e → IsCounted all es l → IsMet all es
now_met all es (Some t) l m e moves is needs now = absurd (none-some e (sym moves.0))
now_met all es None l m e moves is needs (inr met) = met.0
now_met all es None l m e (inl stamp) is needs (inl plain) =
    let last = last_behind 0 es in
    let never = all_of (λ (r : Reading). is_next r.clock last e ≡ false) (readings es) plain.reading
    needs plain.reads in
    absurd (false≢true (sym never
    ∙ next_stamp es l m e plain.reading.clock stamp plain.clock_is plain.last_is))
now_met all es None l m e (inr (inl take)) is needs (inl plain) =
    absurd (false≢true (sym is ∙ take.kind))
now_met all es None l m e (inr (inr answer)) is needs (inl plain) =
    absurd (false≢true (sym is ∙ answer.kind))

-- a stamp that needs a put-back has one
abbrev HasMet : List ℕ → List Seen → Seen → Type 0
HasMet all es e = NeedsPutBack es e → IsMet all es

met_from : (all : List ℕ) (s : State) (acts : List NodeAct) (os : List Outcome) (p : Pid)
    (es : List Seen)
    → ((n : ℕ) → IsAmong (places p es acts os) n → IsAmong all n)
    → node_run_from s acts ≡ Some os → NoNodeReset acts → ReportsTokens p s acts os
    → IsCounted all es (local_in s p)
    → EachStamp (HasMet all) es (seen_stream acts os p)
met_from all s [] os p es placed h none tells now = tt
met_from all s (a ∷ acts) [] p es placed h none tells now = tt
met_from all s (a ∷ acts) (o ∷ os) p es placed h none tells now =
    let run = node_run_parts s a acts (o ∷ os) h in
    let x = node_step_parts s a o run.0 in
    let tail = seen_stream acts os p in
    let back = token_put_back a in
    elim (pid_eq (node_actor a) p) as (λ b. pid_eq (node_actor a) p ≡ b
    → ((n : ℕ) → IsAmong ((if b && is_some back then length es ∷ [] else [])
    ++ places p (es ++ (if b then option_to_list (seen_by a o) else [])) acts os) n
    → IsAmong all n)
    → EachStamp (HasMet all) es ((if b then option_to_list (seen_by a o) else []) ++ tail)) [
      | true ↦ λ mine placed.
          let found = actor_found s a o x none.0 p mine in
          let here : IsCounted all es x.before.local =
          subst (IsCounted all es) (ap local_found found) now in
          let moves = step_moves s a o x none.0 p mine tells.0 in
          let rest = places p (es ++ option_to_list (seen_by a o)) acts os in
          let meets : is_some back ≡ true → IsMet all es =
          λ yes. record {
            front = es;
            back = [];
            split = sym (append-nil es);
            receives = tt;
            place = placed (length es)
                (subst (λ b. IsAmong (cond b (length es ∷ []) [] ++ rest) (length es)) (sym yes)
                (inl refl));
          } in
          let to = actor_same s a o x none.0 p mine in
          stamps_part (HasMet all) es (seen_by a o) tail
          (λ e is stamp needs. now_met all es back x.before.local x.done.local e
          (subst (Moves back x.before.local x.done.local) is moves) stamp needs here)
          (met_from all o.after acts os p (es ++ option_to_list (seen_by a o))
          (λ n is. placed n (among_back (cond (is_some back) (length es ∷ []) []) rest n is))
          run.1 none.1 tells.1
          (counted_same all (es ++ option_to_list (seen_by a o)) x.done.local (local_in o.after p)
          to.clock to.last
          (next_counted all es back x.before.local x.done.local (seen_by a o) moves meets here)))
      | false ↦ λ other placed.
          let to = other_same s a o x none.0 p other in
          met_from all o.after acts os p es
          (λ n is. placed n (subst (λ xs. IsAmong (places p xs acts os) n)
          (sym (append-nil es)) is))
          run.1 none.1 tells.1
          (counted_same all es (local_in s p) (local_in o.after p) to.clock to.last now)
    ] refl placed

pub needs_met : (pids : List Pid) (acts : List NodeAct) (os : List Outcome)
    → node_run pids acts ≡ Some os → NoNodeReset acts → (p : Pid)
    → ReportsTokens p (zero_state pids) acts os → (i : ℕ) (e : Seen)
    → slice_get (seen_stream acts os p) i ≡ Some e → e.kind ≢ kind.Receive
    → (let es = take i (seen_stream acts os p) in
    NeedsPutBack es e → IsMet (places p [] acts os) es)
needs_met pids acts os h none p tells i e at other needs =
    let all = places p [] acts os in
    stamp_at (HasMet all) [] (seen_stream acts os p) i e
    (met_from all (zero_state pids) acts os p [] (λ n is. is) h none tells
    (subst (IsCounted all []) (sym (zero_found pids p)) (inl zero_straight))) at
    (no_receive e other) needs
