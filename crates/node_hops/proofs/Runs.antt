-- An act that gives its process nothing keeps the label of its token, and acts of others keep its
-- token and counts.
use Rattle.std.proofs.Common.{◌≡◌, ◌≢◌, ℕ, ◌<◌, ◌≤◌, ◌⊎◌, zero, suc, true, false, cond, List, []}
use Rattle.std.proofs.Common.{◌∷◌, Option, Some, None, option_and_then, inl, inr, refl, sym, ◌∙◌}
use Rattle.std.proofs.Common.{ap, arith, subst}
use Rattle.std.specs.List.{slice_get}
use Rattle.std.proofs.lemmas.Bool.{cases_order, false≢true}
use Rattle.std.proofs.lemmas.Option.{same_Some, none-some}
use Rattle.st_core.specs.declared.types.Pid.{Pid}
use Rattle.st_core.specs.Pid.{pid_eq}
use Rattle.st_core.specs.State.{LocalState, Process, process, State, zero_state}
use Rattle.st_core.specs.Step.{Acted, Outcome}
use Rattle.st_core.specs.Laws.{is_reset}
use Rattle.st_core.proofs.ForCallers.{local_found, local_in, pid_eq-refl, pid_same}
use Rattle.node_machine.specs.Node.{machine_act, NodeAct, node_acted, node_actor, node_run}
use Rattle.node_machine.specs.Node.{node_run_from, node_step}
use Rattle.node_machine.specs.Premises.{NoNodeReset}
use Rattle.node_machine.proofs.ForCallers.{actor_found, actor_same, node_run_parts, node_step_parts}
use Rattle.node_machine.proofs.ForCallers.{NodeStepped, other_same, SameButTraced}
use Rattle.node_hops.specs.Gifts.{Begins, Follows, act_gift, gift_by, gift_to, moves_counters, Gift}
use Rattle.node_hops.specs.Gifts.{latest_gift, PutsBack, state_at}
use Rattle.node_hops.proofs.Gifts.{gift_is, IsGift, KeepsLabel, keeps_label, keeps_last, same_token}

-- THE STEP OF AN ACT

later_state : (s : State) (o : Outcome) (os : List Outcome) (n : ℕ)
    → state_at s (o ∷ os) (suc n) ≡ state_at o.after os n
later_state s o os zero = refl
later_state s o os (suc n) = refl

-- act n has a step from the state before it
pub record StepAt (s : State) (os : List Outcome) (n : ℕ) (a : NodeAct) : Type 0 where
  pub outcome : Outcome
  pub is : slice_get os n ≡ Some outcome
  pub parts : NodeStepped (state_at s os n) a outcome

pub step_at : (s : State) (acts : List NodeAct) (os : List Outcome) → node_run_from s acts ≡ Some os
    → (n : ℕ) (a : NodeAct) → slice_get acts n ≡ Some a → StepAt s os n a
step_at s [] os h n a at = absurd (none-some a at)
step_at s (b ∷ acts) [] h n a at = absurd (node_run_parts s b acts [] h)
step_at s (b ∷ acts) (o ∷ os) h zero a at =
    let run = node_run_parts s b acts (o ∷ os) h in
    record {
      outcome = o;
      is = refl;
      parts = node_step_parts s a o (ap (node_step s) (sym (same_Some b a at)) ∙ run.0);
    }
step_at s (b ∷ acts) (o ∷ os) h (suc n) a at =
    let rest = step_at o.after acts os (node_run_parts s b acts (o ∷ os) h).1 n a at in
    record {
      outcome = rest.outcome;
      is = rest.is;
      parts = subst (λ x. NodeStepped x a rest.outcome) (sym (later_state s o os n)) rest.parts;
    }

plain_at : (acts : List NodeAct) (n : ℕ) (a : NodeAct) → NoNodeReset acts
    → slice_get acts n ≡ Some a → is_reset (machine_act a) ≡ false
plain_at [] n a none at = absurd (none-some a at)
plain_at (b ∷ acts) zero a none at =
    subst (λ x. is_reset (machine_act x) ≡ false) (same_Some b a at) none.0
plain_at (b ∷ acts) (suc n) a none at = plain_at acts n a none.1 at

-- p's local state before act n
abbrev pub local_at : List Pid → List Outcome → Pid → ℕ → LocalState
local_at pids os p n = local_in (state_at (zero_state pids) os n) p

label_same : (k l m n : LocalState) → k ≡ l → n.token ≡ m.token → KeepsLabel l m → KeepsLabel k n
label_same k l m n before after (inl none) = inl (after ∙ none)
label_same k l m n before after (inr kept) = inr (
  kept.0,
  kept.1,
  ap (λ (x : LocalState). x.token) before ∙ kept.2,
  after ∙ kept.3,
  kept.4,
)

-- act n is p's, and does its actor's part
pub record IsOwn (pids : List Pid) (acts : List NodeAct) (os : List Outcome) (p : Pid) (n : ℕ)
    (a : NodeAct) : Type 0 where
  pub before : Process
  pub local : local_at pids os p n ≡ before.local
  pub gift : act_gift pids acts os p n ≡ gift_by n before a
  pub then : SameButTraced (node_acted before a).local (local_at pids os p (suc n))
  pub told : (o : Outcome) → slice_get os n ≡ Some o → o.report ≡ (node_acted before a).report

-- act n isn't p's, and leaves p as it was
pub record IsOther (pids : List Pid) (acts : List NodeAct) (os : List Outcome) (p : Pid)
    (n : ℕ) : Type 0 where
  pub gift : act_gift pids acts os p n ≡ None
  pub then : SameButTraced (local_at pids os p n) (local_at pids os p (suc n))

module _ (pids : List Pid) (acts : List NodeAct) (os : List Outcome)
    (h : node_run pids acts ≡ Some os) (plain : NoNodeReset acts) (p : Pid) where
  abbrev state : ℕ → State
  state n = state_at (zero_state pids) os n

  abbrev local : ℕ → LocalState
  local n = local_at pids os p n

  after_is : (n : ℕ) (o : Outcome) → slice_get os n ≡ Some o → local (suc n) ≡ local_in o.after p
  after_is n o is = ap (λ (x : Option Outcome).
      local_in (let s : State = elim x [ None ↦ [] | Some y ↦ y.after ] in s) p) is

  gift_at : (n : ℕ) (a : NodeAct) → slice_get acts n ≡ Some a
      → act_gift pids acts os p n ≡ gift_to p n (state n) a
  gift_at n a at = ap (option_and_then (gift_to p n (state n))) at

  pub turn_at : (n : ℕ) (a : NodeAct) → slice_get acts n ≡ Some a
      → ((node_actor a ≡ p) × IsOwn pids acts os p n a)
      ⊎ ((¬ (node_actor a ≡ p)) × IsOther pids acts os p n)
  turn_at n a at =
      let step = step_at (zero_state pids) acts os h n a at in
      let o = step.outcome in
      let t = step.parts in
      let still = plain_at acts n a plain at in
      (elim (pid_eq (node_actor a) p) as (λ b. pid_eq (node_actor a) p ≡ b
      → ((node_actor a ≡ p) × IsOwn pids acts os p n a)
      ⊎ ((¬ (node_actor a ≡ p)) × IsOther pids acts os p n)) [
        | true ↦ λ mine.
            let found = actor_found (state n) a o t still p mine in
            inl (
              pid_same (node_actor a) p mine,
              record {
                before = t.before;
                local = ap local_found found;
                gift = gift_at n a at
                    ∙ ap (λ b. cond b (option_and_then (λ r. gift_by n r a) (process (state n) p))
                    None) mine
                    ∙ ap (option_and_then (λ r. gift_by n r a)) found;
                then = subst (λ (m : LocalState). SameButTraced (node_acted t.before a).local m)
                    (sym (after_is n o step.is))
                    (subst (λ (done : Acted). SameButTraced done.local (local_in o.after p))
                    (sym t.is_done) (actor_same (state n) a o t still p mine));
                told = λ x is. ap (λ (y : Outcome). y.report)
                    (same_Some x o (sym is ∙ step.is) ∙ sym t.is_outcome)
                    ∙ ap (λ (done : Acted). done.report) (sym t.is_done);
              },
            )
        | false ↦ λ other. inr (
          λ same. false≢true
              (sym other ∙ ap (λ q. pid_eq q p) same ∙ pid_eq-refl p),
          record {
            gift = gift_at n a at
                ∙ ap (λ b. cond b (option_and_then (λ r. gift_by n r a) (process (state n) p)) None)
                other;
            then = subst (λ (m : LocalState). SameButTraced (local n) m)
                (sym (after_is n o step.is))
                (other_same (state n) a o t still p other);
          },
        )
      ]) refl

  pub own_at : (n : ℕ) (a : NodeAct) → slice_get acts n ≡ Some a → node_actor a ≡ p
      → IsOwn pids acts os p n a
  own_at n a at own = elim (turn_at n a at) [
    | inl mine ↦ mine.1
    | inr other ↦ absurd (other.0 own)
  ]

  -- KINDS OF GIFTS

  abbrev gift : ℕ → Option Gift
  gift n = act_gift pids acts os p n

  nothing_past : (n : ℕ) → slice_get acts n ≡ None → gift n ≡ None
  nothing_past n none = ap (option_and_then (gift_to p n (state n))) none

  -- act n is p's, and moves its counters
  abbrev pub IsMoving : ℕ → Type 0
  IsMoving n = (a : NodeAct) × (slice_get acts n ≡ Some a) × (node_actor a ≡ p)
      × (moves_counters a ≡ true)

  abbrev pub AreKinds : ℕ → Option Gift → Type 0
  AreKinds n None = Unit {0}
  AreKinds n (Some (Follows m)) = m ≡ n
  AreKinds n (Some (Begins m)) = m ≡ n
  AreKinds n (Some (PutsBack m)) = IsMoving n

  kinds_of : (n : ℕ) (a : NodeAct) → slice_get acts n ≡ Some a → node_actor a ≡ p → (o : Gift)
      → IsGift n a o → AreKinds n (Some o)
  kinds_of n a at own (Follows m) is = is
  kinds_of n a at own (Begins m) is = is
  kinds_of n a at own (PutsBack m) is = (a, at, own, is)

  own_kinds : (n : ℕ) (a : NodeAct) → slice_get acts n ≡ Some a → node_actor a ≡ p
      → (r : Process) (o : Option Gift) → gift_by n r a ≡ o → AreKinds n o
  own_kinds n a at own r None is = tt
  own_kinds n a at own r (Some o) is = kinds_of n a at own o (gift_is n r a o is)

  pub kinds_at : (n : ℕ) → AreKinds n (gift n)
  kinds_at n = (elim (slice_get acts n) as (λ x. slice_get acts n ≡ x → AreKinds n (gift n)) [
    | None ↦ λ none. subst (AreKinds n) (sym (nothing_past n none)) tt
    | Some a ↦ λ at. elim (turn_at n a at) [
      | inl mine ↦ subst (AreKinds n) (sym mine.1.gift)
          (own_kinds n a at mine.0 mine.1.before (gift_by n mine.1.before a) refl)
      | inr other ↦ subst (AreKinds n) (sym other.1.gift) tt
    ]
  ]) refl

  -- an act that gives p something is p's
  pub gift_own : (n : ℕ) (a : NodeAct) → slice_get acts n ≡ Some a → (o : Gift)
      → gift n ≡ Some o → node_actor a ≡ p
  gift_own n a at o is = elim (turn_at n a at) [
    | inl mine ↦ mine.0
    | inr other ↦ absurd (none-some o (sym other.1.gift ∙ is))
  ]

  -- ONE ACT MORE

  -- an act that gives p nothing keeps its label
  pub label_step : (n : ℕ) (a : NodeAct) → slice_get acts n ≡ Some a → gift n ≡ None
      → KeepsLabel (local n) (local (suc n))
  label_step n a at none = elim (turn_at n a at) [
    | inl mine ↦
        let own = mine.1 in
        let kept = keeps_label n own.before a (sym own.gift ∙ none) in
        label_same (local n) own.before.local (node_acted own.before a).local (local (suc n))
        own.local own.then.token kept
    | inr other ↦ same_token (local n) (local (suc n)) other.1.then.token
  ]

  pub last_step : (n : ℕ) (a : NodeAct) → slice_get acts n ≡ Some a
      → ((m : ℕ) → gift n ≢ Some (Follows m)) → (node_actor a ≡ p → moves_counters a ≡ false)
      → (local (suc n)).last ≡ (local n).last
  last_step n a at isnt still = elim (turn_at n a at) [
    | inl mine ↦
        let own = mine.1 in
        own.then.last ∙ keeps_last n own.before a (λ m is. isnt m (own.gift ∙ is)) (still mine.0)
        ∙ ap (λ (l : LocalState). l.last) (sym own.local)
    | inr other ↦ other.1.then.last
  ]

-- A RANGE OF ACTS

-- the acts from m to below n
module _ (pids : List Pid) (acts : List NodeAct) (os : List Outcome)
    (h : node_run pids acts ≡ Some os) (plain : NoNodeReset acts) (p : Pid) (m : ℕ) where
  -- the acts give p nothing
  abbrev pub GiveNothing : ℕ → Type 0
  GiveNothing n = (x : ℕ) → m ≤ x → x < n → act_gift pids acts os p x ≡ None

  -- each of the acts gives p nothing, or a token or label of its own
  abbrev pub GiveBeginnings : ℕ → Type 0
  GiveBeginnings n = (x : ℕ) → m ≤ x → x < n
      → (act_gift pids acts os p x ≡ None) ⊎ (act_gift pids acts os p x ≡ Some (Begins x))

  -- the gift behind a stamp at act n is the one at act m, or a beginning between
  abbrev pub Since : ℕ → Type 0
  Since n = (GiveNothing n × (latest_gift pids acts os p n ≡ latest_gift pids acts os p m))
      ⊎ ((x : ℕ) × (m ≤ x) × (x < n) × (latest_gift pids acts os p n ≡ Some (Begins x))
      × (act_gift pids acts os p x ≡ Some (Begins x)))

  latest : (k : ℕ) (o : Option Gift) → act_gift pids acts os p k ≡ o
      → latest_gift pids acts os p (suc k)
      ≡ (let now : Option Gift = elim o [ None ↦ latest_gift pids acts os p k | Some x ↦ Some x ] in
      now)
  latest k o is = ap (λ (y : Option Gift). elim y as (λ _. Option Gift) [
    | None ↦ latest_gift pids acts os p k
    | Some x ↦ Some x
  ]) is

  nothing_more : (k : ℕ) → GiveNothing k → act_gift pids acts os p k ≡ None → GiveNothing (suc k)
  nothing_more k before none x low high = elim (cases_order x k) [
    | inl same ↦ ap (act_gift pids acts os p) same ∙ none
    | inr other ↦ elim other [
      | inl less ↦ before x low less
      | inr more ↦ absurd (omega arith)
    ]
  ]

  since_more : (k : ℕ) → m ≤ k → Since k
      → (act_gift pids acts os p k ≡ None) ⊎ (act_gift pids acts os p k ≡ Some (Begins k))
      → Since (suc k)
  since_more k le (inl before) (inl none) =
      inl (nothing_more k before.0 none, latest k None none ∙ before.1)
  since_more k le (inr begun) (inl none) =
      let less = begun.2 in
      inr (begun.0, begun.1, omega arith, latest k None none ∙ begun.3, begun.4)
  since_more k le (inl before) (inr begins) =
      inr (k, le, omega arith, latest k (Some (Begins k)) begins, begins)
  since_more k le (inr begun) (inr begins) =
      inr (k, le, omega arith, latest k (Some (Begins k)) begins, begins)

  pub since : (n : ℕ) → m ≤ n → GiveBeginnings n → Since n
  since zero le all =
      let none : m ≡ 0 = omega arith in
      inl (λ x low high. absurd (omega arith), ap (latest_gift pids acts os p) (sym none))
  since (suc k) le all = elim (cases_order m (suc k)) [
    | inl same ↦
        inl (λ x low high. absurd (omega arith), ap (latest_gift pids acts os p) (sym same))
    | inr other ↦ elim other [
      | inl less ↦ since_more k (omega arith)
          (since k (omega arith) (λ x low high. all x low (omega arith)))
          (all k (omega arith) (omega arith))
      | inr more ↦ absurd (omega arith)
    ]
  ]

  -- a claim that depends on no more than the label of p's token stays true
  pub token_stays : (P : LocalState → Type 0)
      → ((k l : LocalState) → KeepsLabel k l → P k → P l) → P (local_at pids os p m)
      → (n : ℕ) → m ≤ n
      → ((x : ℕ) → m ≤ x → x < n → (a : NodeAct) × (slice_get acts x ≡ Some a))
      → GiveNothing n → P (local_at pids os p n)
  token_stays P keep start zero le acts_there none =
      let zeroed : m ≡ 0 = omega arith in
      subst (λ n. P (local_at pids os p n)) zeroed start
  token_stays P keep start (suc k) le acts_there none = elim (cases_order m (suc k)) [
    | inl same ↦ subst (λ n. P (local_at pids os p n)) same start
    | inr other ↦ elim other [
      | inl less ↦
          let here = acts_there k (omega arith) (omega arith) in
          keep (local_at pids os p k) (local_at pids os p (suc k))
          (label_step pids acts os h plain p k here.0 here.1 (none k (omega arith) (omega arith)))
          (token_stays P keep start k (omega arith)
          (λ x low high. acts_there x low (omega arith))
          (λ x low high. none x low (omega arith)))
      | inr more ↦ absurd (omega arith)
    ]
  ]

  -- last stays if none of the acts takes a token or moves the counters
  pub last_stays : (n : ℕ) → m ≤ n
      → ((x : ℕ) → m ≤ x → x < n → (a : NodeAct) × (slice_get acts x ≡ Some a)
      × ((y : ℕ) → act_gift pids acts os p x ≢ Some (Follows y))
      × (node_actor a ≡ p → moves_counters a ≡ false))
      → (local_at pids os p n).last ≡ (local_at pids os p m).last
  last_stays zero le still =
      let zeroed : m ≡ 0 = omega arith in
      ap (λ n. (local_at pids os p n).last) (sym zeroed)
  last_stays (suc k) le still = elim (cases_order m (suc k)) [
    | inl same ↦ ap (λ n. (local_at pids os p n).last) (sym same)
    | inr other ↦ elim other [
      | inl less ↦
          let here = still k (omega arith) (omega arith) in
          last_step pids acts os h plain p k here.0 here.1 here.2 here.3
          ∙ last_stays k (omega arith) (λ x low high. still x low (omega arith))
      | inr more ↦ absurd (omega arith)
    ]
  ]
