-- From the receive that a stamp's hop names, or from the event before its row, up to the stamp,
-- only what the premises exclude could have given the process another token, or another last.
use Rattle.std.proofs.Common.{◌≡◌, ◌≢◌, ℕ, ◌<◌, ◌≤◌, ◌⊎◌, ◌==◌, ◌&&◌, ◌||◌, zero, suc, Bool, true}
use Rattle.std.proofs.Common.{false, cond, List, [], ◌∷◌, map, take, Option, Some, None, is_some}
use Rattle.std.proofs.Common.{option_map, option_and_then, inl, inr, refl, sym, ◌∙◌, ap, arith}
use Rattle.std.proofs.Common.{subst, eq-eqb}
use Rattle.std.specs.List.{slice_get}
use Rattle.std.specs.Option.{option_map_or}
use Rattle.std.proofs.lemmas.Bool.{and_parts, cases_order, false≢true}
use Rattle.std.proofs.lemmas.Option.{same_Some, none-some, slice_get-map}
use Rattle.st_core.specs.declared.types.Pid.{Pid}
use Rattle.st_core.specs.declared.types.Token.{Token}
use Rattle.st_core.specs.declared.types.Kind.{Kind}
use Rattle.st_core.specs.declared.types.Kind.TheVariants as kind
use Rattle.st_core.specs.declared.types.Event.{Event}
use Rattle.st_core.specs.Pid.{pid_eq}
use Rattle.st_core.specs.Event.{kind_eq}
use Rattle.st_core.specs.State.{LocalState, Process, zero_local}
use Rattle.st_core.specs.Step.{Outcome}
use Rattle.st_core.specs.Run.{stream}
use Rattle.st_core.specs.Laws.{Reports}
use Rattle.st_core.proofs.ForCallers.{pid_eq-refl, pid_same, reported_in_order, report_told}
use Rattle.st_core.proofs.ForCallers.{some_of, zero_found}
use Rattle.node_machine.specs.Node.{Answer, Common, is_answer, machine_act, NodeAct, node_acted}
use Rattle.node_machine.specs.Node.{node_actor, node_run, seen}
use Rattle.node_machine.specs.Premises.{NoNodeReset, token_put_back}
use Rattle.node_machine.proofs.ForCallers.{IsAnswered, IsStamp, IsTake, Moves, node_acted_moves}
use Rattle.node_streams.proofs.ForCallers.{kind_same}
use Rattle.node_hops.specs.Claims.{BeganAfter, BeginsNothing, FollowsTake, IsOwnBeginning, IsMoved}
use Rattle.node_hops.specs.Claims.{IsFrom, IsSilent, KeepsCounters, MovesUnseen, NodeReports}
use Rattle.node_hops.specs.Claims.{ReportsTakes, told_before}
use Rattle.node_hops.specs.Events.{is_take}
use Rattle.node_hops.specs.Gifts.{Begins, Follows, act_gift, moves_counters, Gift, latest_gift}
use Rattle.node_hops.specs.Gifts.{PutsBack}
use Rattle.node_hops.proofs.Fronts.{node_report, NodeReport, told_more, told_rises}
use Rattle.node_hops.proofs.Gifts.{gift_received, KeepsLabel, received_gives}
use Rattle.node_hops.proofs.RowLemmas.{IsRowBetween, receive_is, row_no_receive}
use Rattle.node_hops.proofs.Runs.{AreKinds, GiveBeginnings, GiveNothing, IsOwn, kinds_at}
use Rattle.node_hops.proofs.Runs.{last_stays, gift_own, local_at, own_at, Since, since, token_stays}

-- WHAT IS REPORTED

-- the actor's part is a stamp, a receive or an answer, as its report says
abbrev Reported : Process → NodeAct → Event → Type 0
Reported r a e = IsStamp r.local (node_acted r a).local (seen (is_answer a) e)
    ⊎ (IsTake r.local (node_acted r a).local (seen (is_answer a) e)
    ⊎ IsAnswered r.local (node_acted r a).local (seen (is_answer a) e))

by_put_back : (r : Process) (a : NodeAct) (e : Event) (back : Option Token)
    → Moves back r.local (node_acted r a).local (Some (seen (is_answer a) e)) → Reported r a e
by_put_back r a e None moves = moves
by_put_back r a e (Some t) moves = absurd (none-some (seen (is_answer a) e) (sym moves.0))

reported : (r : Process) (a : NodeAct) (e : Event) → (node_acted r a).report ≡ Some e
    → Reported r a e
reported r a e told =
    by_put_back r a e (token_put_back a)
    (subst (λ (o : Option Event). Moves (token_put_back a) r.local (node_acted r a).local
    (option_map (seen (is_answer a)) o)) told
    (node_acted_moves a r (λ _. ap is_some told)))

answer_moves : (a : NodeAct) → is_answer a ≡ true → moves_counters a ≡ true
answer_moves (Common a) is = absurd (false≢true is)
answer_moves (Answer p place) is = refl

stamp_reported : (r : Process) (a : NodeAct) (e : Event) → (node_acted r a).report ≡ Some e
    → e.kind ≢ kind.Receive → IsStamp r.local (node_acted r a).local (seen (is_answer a) e)
stamp_reported r a e told other = elim (reported r a e told) [
  | inl stamp ↦ stamp
  | inr taken ↦ elim taken [
    | inl take ↦ absurd (other (kind_same e.kind kind.Receive take.kind))
    | inr answered ↦ absurd (other (kind_same e.kind kind.Receive answered.kind))
  ]
]

take_reported : (r : Process) (a : NodeAct) (e : Event) → (node_acted r a).report ≡ Some e
    → e.kind ≡ kind.Receive → moves_counters a ≡ false
    → IsTake r.local (node_acted r a).local (seen (is_answer a) e)
take_reported r a e told receives still = elim (reported r a e told) [
  | inl stamp ↦ absurd (false≢true (sym stamp.kind ∙ ap (λ k. kind_eq k kind.Receive) receives))
  | inr taken ↦ elim taken [
    | inl take ↦ take
    | inr answered ↦ absurd (false≢true (sym still ∙ answer_moves a answered.answer))
  ]
]

pub kind_receive : (k : Kind) → (let b : Bool =
    elim k [ kind.Send ↦ false | kind.Receive ↦ true | kind.Print ↦ false ] in b) ≡ true
    → k ≡ kind.Receive
kind_receive kind.Receive is = refl
kind_receive k is = absurd (false≢true is)

-- a reported act leaves the last that its event shows
left_by : (r : Process) (a : NodeAct) (d : Event) → (node_acted r a).report ≡ Some d
    → moves_counters a ≡ false
    → (node_acted r a).local.last ≡ cond (is_take d) d.serial.this d.serial.prev
left_by r a d told still = (elim (is_take d) as (λ b. is_take d ≡ b
    → (node_acted r a).local.last ≡ cond b d.serial.this d.serial.prev) [
      | true ↦ λ is. (take_reported r a d told (kind_receive d.kind is) still).last
      | false ↦ λ is.
          let stamp = stamp_reported r a d told
          (λ receives. false≢true (sym is ∙ receive_is d receives)) in
          stamp.last ∙ sym stamp.prev
    ]) refl

none_kept : (k l : LocalState) → KeepsLabel k l → k.token ≡ None → l.token ≡ None
none_kept k l (inl none) is = none
none_kept k l (inr both) is = absurd (none-some both.1 (sym is ∙ both.2))

-- SEARCHES

earlier_there : {A : Type 0} (xs : List A) (x n : ℕ) (a : A) → slice_get xs n ≡ Some a → x < n
    → (b : A) × (slice_get xs x ≡ Some b)
earlier_there [] x n a at less = absurd (none-some a at)
earlier_there (y ∷ xs) zero n a at less = (y, refl)
earlier_there (y ∷ xs) (suc x) zero a at less = absurd (omega arith)
earlier_there (y ∷ xs) (suc x) (suc n) a at less = earlier_there xs x n a at (omega arith)

at_end : (test : ℕ → Bool) (m n : ℕ) → ((x : ℕ) → m ≤ x → x < n → test x ≡ false) → m ≤ n
    → ((x : ℕ) × (m ≤ x) × (x < suc n) × (test x ≡ true))
    ⊎ ((x : ℕ) → m ≤ x → x < suc n → test x ≡ false)
at_end test m n none le = (elim (test n) as (λ b. test n ≡ b
    → ((x : ℕ) × (m ≤ x) × (x < suc n) × (test x ≡ true))
    ⊎ ((x : ℕ) → m ≤ x → x < suc n → test x ≡ false)) [
      | true ↦ λ is. inl (n, le, omega arith, is)
      | false ↦ λ is. inr (λ x low high. elim (cases_order x n) [
        | inl same ↦ ap test same ∙ is
        | inr other ↦ elim other [
          | inl less ↦ none x low less
          | inr more ↦ absurd (omega arith)
        ]
      ])
    ]) refl

search_range : (test : ℕ → Bool) (m n : ℕ)
    → ((x : ℕ) × (m ≤ x) × (x < n) × (test x ≡ true))
    ⊎ ((x : ℕ) → m ≤ x → x < n → test x ≡ false)
search_range test m zero = inr (λ x low high. absurd (omega arith))
search_range test m (suc n) = elim (search_range test m n) [
  | inl found ↦ let less = found.2 in inl (found.0, found.1, omega arith, found.3)
  | inr none ↦ elim (cases_order n m) [
    | inl same ↦ at_end test m n none (omega arith)
    | inr other ↦ elim other [
      | inl less ↦ inr (λ x low high. absurd (omega arith))
      | inr more ↦ at_end test m n none (omega arith)
    ]
  ]
]

module _ (pids : List Pid) (acts : List NodeAct) (os : List Outcome)
    (h : node_run pids acts ≡ Some os) (plain : NoNodeReset acts) (p : Pid) (i n : ℕ) (e : Event)
    (r : NodeReports acts os p i e n) (other : e.kind ≢ kind.Receive) where
  abbrev es : List Event
  es = stream (map machine_act acts) os p

  abbrev local : ℕ → LocalState
  local x = local_at pids os p x

  abbrev told : ℕ → ℕ
  told x = told_before acts os p x

  abbrev gift : ℕ → Option Gift
  gift x = act_gift pids acts os p x

  here : NodeReport acts os p n e
  here = node_report acts os p n e r.reports

  own : IsOwn pids acts os p n here.act
  own = own_at pids acts os h plain p n here.act here.at here.own

  stamp : IsStamp own.before.local (node_acted own.before here.act).local
      (seen (is_answer here.act) e)
  stamp = stamp_reported own.before here.act e (sym (own.told here.outcome here.is) ∙ here.told)
      other

  prev_is : e.serial.prev ≡ (local n).last
  prev_is = stamp.prev ∙ ap (λ (l : LocalState). l.last) (sym own.local)

  -- the label of p's token at the stamp
  had : (u : Token) × ((local n).token ≡ Some u) × (u.label ≡ e.label)
  had = (stamp.had.0, ap (λ (l : LocalState). l.token) own.local ∙ stamp.had.1, stamp.had.2)

  there : (x : ℕ) → x < n → (a : NodeAct) × (slice_get acts x ≡ Some a)
  there x less = earlier_there acts x n here.act here.at less

  -- FROM AN ACT ON, AFTER WHICH THE ROW IS ALL THAT IS REPORTED

  module _ (b k : ℕ) (within : b ≤ n) (counted : told b ≡ k)
      (row : IsRowBetween e.serial.prev es k i) where
    since_is : (x : ℕ) → b ≤ x → IsFrom acts os p k x
    since_is x low = let rise = told_rises acts os p b (suc x) (omega arith) in omega arith

    -- a take between them isn't reported
    take_untold : (x y : ℕ) → b ≤ x → x < n → gift x ≡ Some (Follows y) → (f : Event)
        → option_and_then (λ (o : Outcome). o.report) (slice_get os x) ≡ Some f → ⊥
    take_untold x y low high is f report =
        let at = there x high in
        let mine = gift_own pids acts os h plain p x at.0 at.1 (Follows y) is in
        let step = own_at pids acts os h plain p x at.0 at.1 mine in
        let reports : Reports (map machine_act acts) os p x f = record {
          act = machine_act at.0;
          at = slice_get-map machine_act acts x ∙ ap (option_map machine_act) at.1;
          own = mine;
          report = report;
        } in
        let node = node_report acts os p x f reports in
        let receives = gift_received x step.before at.0 y f (sym step.gift ∙ is)
        (sym (step.told node.outcome node.is) ∙ node.told) in
        let rise = told_rises acts os p b x low in
        let more = told_more acts os p x f reports in
        let last = told_rises acts os p (suc x) n (omega arith) in
        let end = r.before in
        let found = row (told x) (omega arith) (omega arith) in
        let same : found.0 ≡ f = same_Some found.0 f
        (sym found.1 ∙ report_told (map machine_act acts) os p x f reports) in
        let none = row_no_receive e.serial.prev found.0 (is_take found.0) refl found.2 in
        false≢true (sym none ∙ ap is_take same ∙ receive_is f receives)

    by_kind : (x : ℕ) → b ≤ x → x < n → ReportsTakes pids acts os p k n
        → KeepsCounters pids acts os p k n → (o : Option Gift) → gift x ≡ o
        → AreKinds pids acts os h plain p x (gift x)
        → (gift x ≡ None) ⊎ (gift x ≡ Some (Begins x))
    by_kind x low high takes keeps None is kinds = inl is
    by_kind x low high takes keeps (Some (Follows y)) is kinds =
        let told_is = some_of _ (takes x y high (since_is x low) is) in
        absurd (take_untold x y low high is told_is.0 told_is.1)
    by_kind x low high takes keeps (Some (Begins y)) is kinds =
        let same : y ≡ x = subst (AreKinds pids acts os h plain p x) is kinds in
        inr (is ∙ ap (λ z. Some (Begins z)) same)
    by_kind x low high takes keeps (Some (PutsBack y)) is kinds =
        let moving = subst (AreKinds pids acts os h plain p x) is kinds in
        absurd (false≢true (sym (keeps x moving.0 high (since_is x low) moving.1 moving.2)
        ∙ moving.3))

    -- if the premises hold, p gets only beginnings
    beginnings : ReportsTakes pids acts os p k n → KeepsCounters pids acts os p k n
        → GiveBeginnings pids acts os h plain p b n
    beginnings takes keeps x low high = by_kind x low high takes keeps (gift x) refl
        (kinds_at pids acts os h plain p x)

    -- MOVED

    abbrev follows : Option Gift → Bool
    follows (Some (Follows y)) = true
    follows o = false

    abbrev moving : ℕ → Bool
    moving x = option_map_or (λ a. pid_eq (node_actor a) p && moves_counters a)
        (slice_get acts x) false

    abbrev moves : ℕ → Bool
    moves x = follows (gift x) || moving x

    moving_is : (x : ℕ) → moving x ≡ true
        → (a : NodeAct) × (slice_get acts x ≡ Some a) × (node_actor a ≡ p)
        × (moves_counters a ≡ true)
    moving_is x is = (elim (slice_get acts x) as (λ o. slice_get acts x ≡ o
        → option_map_or (λ a. pid_eq (node_actor a) p && moves_counters a) o false ≡ true
        → (a : NodeAct) × (slice_get acts x ≡ Some a) × (node_actor a ≡ p)
        × (moves_counters a ≡ true)) [
          | None ↦ λ _ isnt. absurd (false≢true isnt)
          | Some a ↦ λ at does.
              let parts = and_parts (pid_eq (node_actor a) p) (moves_counters a) does in
              (a, at, pid_same (node_actor a) p parts.0, parts.1)
        ]) refl is

    untold : (x y : ℕ) → b ≤ x → x < n → gift x ≡ Some (Follows y) → IsSilent os x
    untold x y low high is =
        (elim (option_and_then (λ (o : Outcome). o.report) (slice_get os x)) as (λ t.
        option_and_then (λ (o : Outcome). o.report) (slice_get os x) ≡ t → t ≡ None) [
          | None ↦ λ _. refl
          | Some f ↦ λ report. absurd (take_untold x y low high is f report)
        ]) refl

    taken_moves : (x : ℕ) → b ≤ x → x < n → (o : Option Gift) → gift x ≡ o
        → AreKinds pids acts os h plain p x (gift x)
        → (follows o || moving x) ≡ true → MovesUnseen pids acts os p x
    taken_moves x low high (Some (Follows y)) is kinds does =
        let same : y ≡ x = subst (AreKinds pids acts os h plain p x) is kinds in
        inl (is ∙ ap (λ z. Some (Follows z)) same, untold x y low high is)
    taken_moves x low high o is kinds does = inr (moving_is x does)

    no_follow : (o : Option Gift) (m : Bool) → (follows o || m) ≡ false → (y : ℕ)
        → o ≢ Some (Follows y)
    no_follow (Some (Follows z)) m isnt y is = false≢true (sym isnt)
    no_follow o m isnt y is = absurd (cc)

    right_false : (o : Option Gift) (m : Bool) → (follows o || m) ≡ false → m ≡ false
    right_false (Some (Follows z)) m isnt = absurd (false≢true (sym isnt))
    right_false o m isnt = isnt

    still_at : (x : ℕ) (a : NodeAct) → slice_get acts x ≡ Some a → moving x ≡ false
        → node_actor a ≡ p → moves_counters a ≡ false
    still_at x a at isnt mine =
        sym (ap (λ q. pid_eq q p && moves_counters a) mine
        ∙ ap (λ c. c && moves_counters a) (pid_eq-refl p))
        ∙ sym (ap (λ o. option_map_or (λ c. pid_eq (node_actor c) p && moves_counters c) o false)
        at) ∙ isnt

    -- something moved p's counters, or last stayed
    moved_or_same : ((x : ℕ) × (b ≤ x) × (x < n) × MovesUnseen pids acts os p x)
        ⊎ ((local n).last ≡ (local b).last)
    moved_or_same = elim (search_range moves b n) [
      | inl found ↦ inl (
        found.0,
        found.1,
        found.2,
        taken_moves found.0 found.1 found.2 (gift found.0) refl
            (kinds_at pids acts os h plain p found.0) found.3,
      )
      | inr none ↦ inr (last_stays pids acts os h plain p b n within (λ x low high.
          let at = there x high in
          let isnt = none x low high in (
            at.0,
            at.1,
            no_follow (gift x) (moving x) isnt,
            still_at x at.0 at.1 (right_false (gift x) (moving x) isnt),
          )))
    ]

  -- AFTER A RECEIVE

  module _ (j : ℕ) (d : Event) (m : ℕ) (q : NodeReports acts os p j d m) (less : j < i)
      (receives : d.kind ≡ kind.Receive)
      (row : IsRowBetween e.serial.prev es (suc j) i) where
    before : m < n
    before = reported_in_order (map machine_act acts) os p j i m n d e q r less

    counted : told (suc m) ≡ suc j
    counted = let more = told_more acts os p m d q.reports in let at = q.before in omega arith

    node_m : NodeReport acts os p m d
    node_m = node_report acts os p m d q.reports

    own_m : IsOwn pids acts os p m node_m.act
    own_m = own_at pids acts os h plain p m node_m.act node_m.at node_m.own

    told_m : (node_acted own_m.before node_m.act).report ≡ Some d
    told_m = sym (own_m.told node_m.outcome node_m.is) ∙ node_m.told

    -- act m took the token, unless it is an answer
    module _ (still : moves_counters node_m.act ≡ false) where
      gave : gift m ≡ Some (Follows m)
      gave = own_m.gift ∙ received_gives m own_m.before node_m.act d told_m receives still

      first : latest_gift pids acts os p (suc m) ≡ Some (Follows m)
      first = ap (λ (o : Option Gift). elim o as (λ _. Option Gift) [
        | None ↦ latest_gift pids acts os p m
        | Some x ↦ Some x
      ]) gave

      abbrev IsLabelled : LocalState → Type 0
      IsLabelled l = (l.token ≡ None) ⊎ ((t : Token) × (l.token ≡ Some t) × (t.label ≡ d.label))

      kept : (k l : LocalState) → KeepsLabel k l → IsLabelled k → IsLabelled l
      kept k l (inl none) is = inl none
      kept k l (inr both) (inl none) = absurd (none-some both.1 (sym none ∙ both.2))
      kept k l (inr both) (inr old) =
          let same : both.1 ≡ old.0 = same_Some both.1 old.0 (sym both.2 ∙ old.1) in
          inr (both.0, both.3, both.4 ∙ ap (λ (t : Token). t.label) same ∙ old.2)

      labelled : IsLabelled (local (suc m))
      labelled =
          let take = take_reported own_m.before node_m.act d told_m receives still in
          let then = own_m.then.token in
          (elim ((node_acted own_m.before node_m.act).local.token) as (λ o.
          (node_acted own_m.before node_m.act).local.token ≡ o → IsLabelled (local (suc m))) [
            | None ↦ λ none. inl (then ∙ none)
            | Some t ↦ λ is. inr (t, then ∙ is, sym (take.label t is))
          ]) refl

      -- if p got no other token, the stamp has the message's label
      same_label : GiveNothing pids acts os h plain p (suc m) n → d.label ≡ e.label
      same_label none = elim (token_stays pids acts os h plain p (suc m) IsLabelled kept labelled n
          before (λ x low high. there x high) none) [
            | inl gone ↦ absurd (none-some had.0 (sym gone ∙ had.1))
            | inr has ↦
                let same = same_Some has.0 had.0 (sym has.1 ∙ had.1) in
                sym has.2 ∙ ap (λ (t : Token). t.label) same ∙ had.2
          ]

      abbrev Range : ℕ → Type 0
      Range x = Since pids acts os h plain p (suc m) x

      ranged : ReportsTakes pids acts os p (suc j) n → KeepsCounters pids acts os p (suc j) n
          → Range n
      ranged takes keeps = since pids acts os h plain p (suc m) n before
          (beginnings (suc m) (suc j) before counted row takes keeps)

    answers_not : KeepsCounters pids acts os p (suc j) n → moves_counters node_m.act ≡ false
    answers_not keeps =
        let at = counted in
        keeps m node_m.act before (omega arith) node_m.at node_m.own

    pub follows_it : ReportsTakes pids acts os p (suc j) n → KeepsCounters pids acts os p (suc j) n
        → BeginsNothing pids acts os p (suc j) n
        → FollowsTake acts os p j (latest_gift pids acts os p n)
    follows_it takes keeps begins =
        let still = answers_not keeps in
        elim (ranged still takes keeps) [
          | inl none ↦ (m, none.1 ∙ first still, (d, q))
          | inr begun ↦ absurd (begins begun.0 begun.0 begun.2
              (since_is (suc m) (suc j) before counted row begun.0 begun.1) begun.4)
        ]

    pub begins_after : ReportsTakes pids acts os p (suc j) n
        → KeepsCounters pids acts os p (suc j) n → ¬ (d.label ≡ e.label)
        → BeganAfter acts os p j (latest_gift pids acts os p n)
    begins_after takes keeps differ =
        let still = answers_not keeps in
        elim (ranged still takes keeps) [
          | inl none ↦ absurd (differ (same_label still none.0))
          | inr begun ↦
              let rise = told_rises acts os p (suc m) begun.0 begun.1 in
              let at = counted in
              (begun.0, begun.3, omega arith)
        ]

  -- FROM THE BEGINNING

  start_is : local 0 ≡ zero_local
  start_is = zero_found pids p

  pub begins : IsRowBetween e.serial.prev es 0 i → ReportsTakes pids acts os p 0 n
      → KeepsCounters pids acts os p 0 n → IsOwnBeginning (latest_gift pids acts os p n)
  begins row takes keeps =
      elim (since pids acts os h plain p 0 n (omega arith)
      (beginnings 0 0 (omega arith) refl row takes keeps)) [
        | inl none ↦
            let gone = token_stays pids acts os h plain p 0 (λ l. l.token ≡ None) none_kept
            (ap (λ (l : LocalState). l.token) start_is) n (omega arith)
            (λ x low high. there x high) none.0 in
            absurd (none-some had.0 (sym gone ∙ had.1))
        | inr begun ↦ (begun.0, begun.3)
      ]

  -- MOVED

  pub moved_first : IsRowBetween e.serial.prev es 0 i → (e.serial.prev == 0) ≡ false
      → IsMoved pids acts os p 0 n
  moved_first row some = elim (moved_or_same 0 0 (omega arith) refl row) [
    | inl found ↦ record {
      number = found.0;
      before = found.2;
      since = omega arith;
      moves = found.3;
    }
    | inr same ↦ absurd (false≢true (sym some
        ∙ eq-eqb e.serial.prev 0 (prev_is ∙ same ∙ ap (λ (l : LocalState). l.last) start_is)))
  ]

  -- the last that an event leaves, unless it is an answer
  abbrev last_shown : Event → ℕ
  last_shown d = cond (is_take d) d.serial.this d.serial.prev

  pub moved_later : (j : ℕ) (d : Event) (m : ℕ) (q : NodeReports acts os p j d m) → j < i
      → IsRowBetween e.serial.prev es (suc j) i → (last_shown d == e.serial.prev) ≡ false
      → IsMoved pids acts os p (suc j) n
  moved_later j d m q less row differs =
      let before : m < n =
      reported_in_order (map machine_act acts) os p j i m n d e q r less in
      let node_m = node_report acts os p m d q.reports in
      let own_m = own_at pids acts os h plain p m node_m.act node_m.at node_m.own in
      let told_m = sym (own_m.told node_m.outcome node_m.is) ∙ node_m.told in
      let more = told_more acts os p m d q.reports in
      let at = q.before in
      let counted : told (suc m) ≡ suc j = omega arith in
      (elim (moves_counters node_m.act) as (λ c. moves_counters node_m.act ≡ c
      → IsMoved pids acts os p (suc j) n) [
        | true ↦ λ is. record {
          number = m;
          before = before;
          since = omega arith;
          moves = inr (node_m.act, node_m.at, node_m.own, is);
        }
        | false ↦ λ still. elim (moved_or_same (suc m) (suc j) before counted row) [
          | inl found ↦ record {
            number = found.0;
            before = found.2;
            since = since_is (suc m) (suc j) before counted row found.0 found.1;
            moves = found.3;
          }
          | inr same ↦
              let left = left_by own_m.before node_m.act d told_m still in
              absurd (false≢true (sym differs ∙ eq-eqb (last_shown d) e.serial.prev
              (sym left ∙ sym own_m.then.last ∙ sym same ∙ sym prev_is)))
        ]
      ]) refl
