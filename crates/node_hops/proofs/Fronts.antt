-- An act adds its report to the events of its process, and nothing to those of others.
use Rattle.std.proofs.Common.{◌≡◌, ℕ, ◌+◌, ◌≤◌, zero, suc, cond, List, [], ◌∷◌, ◌++◌, length, take}
use Rattle.std.proofs.Common.{map, Some, option_to_list, drop, refl, sym, ◌∙◌, ap, arith}
use Rattle.std.proofs.Common.{append_assoc, append-nil}
use Rattle.std.specs.List.{slice_get}
use Rattle.std.proofs.lemmas.List.{length-append, take-take}
use Rattle.std.proofs.lemmas.Option.{option_and_then_some, same_Some, none-some, slice_get-map}
use Rattle.st_core.specs.declared.types.Pid.{Pid}
use Rattle.st_core.specs.declared.types.Event.{Event}
use Rattle.st_core.specs.declared.types.Act.{Act}
use Rattle.st_core.specs.Pid.{pid_eq}
use Rattle.st_core.specs.Step.{Outcome, actor}
use Rattle.st_core.specs.Run.{stream}
use Rattle.st_core.specs.Laws.{Reports}
use Rattle.st_core.proofs.ForCallers.{mapped, pid_eq-refl}
use Rattle.node_machine.specs.Node.{machine_act, NodeAct, node_actor}
use Rattle.node_hops.specs.Claims.{told_before}

-- the event of p that an act reports
abbrev pub told_by : Pid → Act → Outcome → List Event
told_by p a o = cond (pid_eq (actor a) p) (option_to_list o.report) []

pub stream_next : (acts : List Act) (os : List Outcome) (p : Pid) (n : ℕ) (a : Act) (o : Outcome)
    → slice_get acts n ≡ Some a → slice_get os n ≡ Some o
    → stream (take (suc n) acts) (take (suc n) os) p
    ≡ stream (take n acts) (take n os) p ++ told_by p a o
stream_next [] os p n a o at is = absurd (none-some a at)
stream_next (b ∷ acts) [] p n a o at is = absurd (none-some o is)
stream_next (b ∷ acts) (x ∷ os) p zero a o at is =
    ap (λ y. told_by p y x ++ []) (same_Some b a at)
    ∙ ap (λ y. told_by p a y ++ []) (same_Some x o is) ∙ append-nil (told_by p a o)
stream_next (b ∷ acts) (x ∷ os) p (suc n) a o at is =
    ap (λ es. told_by p b x ++ es) (stream_next acts os p n a o at is)
    ∙ sym (append_assoc (told_by p b x) (stream (take n acts) (take n os) p) (told_by p a o))

no_outcomes : (acts : List Act) (p : Pid) → [] ≡ stream acts [] p
no_outcomes [] p = refl
no_outcomes (a ∷ acts) p = refl

pub stream_parts : (n : ℕ) (acts : List Act) (os : List Outcome) (p : Pid)
    → stream acts os p ≡ stream (take n acts) (take n os) p ++ stream (drop n acts) (drop n os) p
stream_parts zero acts os p = refl
stream_parts (suc n) [] os p = refl
stream_parts (suc n) (a ∷ acts) [] p = no_outcomes (drop n acts) p
stream_parts (suc n) (a ∷ acts) (o ∷ os) p =
    ap (λ rest. told_by p a o ++ rest) (stream_parts n acts os p)
    ∙ sym (append_assoc (told_by p a o) (stream (take n acts) (take n os) p)
    (stream (drop n acts) (drop n os) p))

count_rises : (acts : List Act) (os : List Outcome) (p : Pid) (m n : ℕ) → m ≤ n
    → length (stream (take m acts) (take m os) p) ≤ length (stream (take n acts) (take n os) p)
count_rises acts os p m n le =
    let front = stream (take m (take n acts)) (take m (take n os)) p in
    let back = stream (drop m (take n acts)) (drop m (take n os)) p in
    let whole = ap length (stream_parts m (take n acts) (take n os) p)
    ∙ length-append front back in
    let same : front ≡ stream (take m acts) (take m os) p =
    ap (λ xs. stream xs (take m (take n os)) p) (take-take m n acts le)
    ∙ ap (λ ys. stream (take m acts) ys p) (take-take m n os le) in
    let even = ap length same in
    omega arith

module _ (acts : List NodeAct) (os : List Outcome) (p : Pid) where
  pub told_rises : (m n : ℕ) → m ≤ n → told_before acts os p m ≤ told_before acts os p n
  told_rises m n le = count_rises (map machine_act acts) os p m n le

  pub told_next : (n : ℕ) (e : Event) → Reports (map machine_act acts) os p n e
      → stream (take (suc n) (map machine_act acts)) (take (suc n) os) p
      ≡ stream (take n (map machine_act acts)) (take n os) p ++ e ∷ []
  told_next n e r = option_and_then_some (λ o. o.report) (slice_get os n) e r.report (λ o is told.
      stream_next (map machine_act acts) os p n r.act o r.at is
      ∙ ap (λ q. stream (take n (map machine_act acts)) (take n os) p
      ++ cond (pid_eq q p) (option_to_list o.report) []) r.own
      ∙ ap (λ b. stream (take n (map machine_act acts)) (take n os) p
      ++ cond b (option_to_list o.report) []) (pid_eq-refl p)
      ∙ ap (λ x. stream (take n (map machine_act acts)) (take n os) p ++ option_to_list x) told)

  pub told_more : (n : ℕ) (e : Event) → Reports (map machine_act acts) os p n e
      → told_before acts os p (suc n) ≡ told_before acts os p n + 1
  told_more n e r = ap length (told_next n e r)
      ∙ length-append (stream (take n (map machine_act acts)) (take n os) p) (e ∷ [])

-- act n reports the event e of p
pub record NodeReport (acts : List NodeAct) (os : List Outcome) (p : Pid) (n : ℕ)
    (e : Event) : Type 0 where
  pub act : NodeAct
  pub at : slice_get acts n ≡ Some act
  pub own : node_actor act ≡ p
  pub outcome : Outcome
  pub is : slice_get os n ≡ Some outcome
  pub told : outcome.report ≡ Some e

pub node_report : (acts : List NodeAct) (os : List Outcome) (p : Pid) (n : ℕ) (e : Event)
    → Reports (map machine_act acts) os p n e → NodeReport acts os p n e
node_report acts os p n e r =
    let found = mapped machine_act (slice_get acts n) r.act
    (sym (slice_get-map machine_act acts n) ∙ r.at) in
    option_and_then_some (λ o. o.report) (slice_get os n) e r.report (λ o is told. record {
      act = found.0;
      at = found.1;
      own = ap actor found.2 ∙ r.own;
      outcome = o;
      is = is;
      told = told;
    })
