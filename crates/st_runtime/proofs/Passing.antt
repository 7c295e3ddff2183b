-- The cursors that an act's pass moves are those of the processes that it touches: pids rise, so
-- that each is at one place, and the pids of a node are in a row.
use Rattle.std.proofs.Common.{◌≡◌, ◌≢◌, ℕ, zero, suc, ◌<◌, ◌≤◌, ◌+◌, Bool, true, false, List, []}
use Rattle.std.proofs.Common.{◌∷◌}
use Rattle.std.proofs.Common.{length, get_or, set, refl, sym, ◌∙◌, ap, subst, arith, inl, inr}
use Rattle.std.proofs.Common.{⊎_elim, ◌⊎◌, Some}
use Rattle.std.specs.Prelude.{MatchBool, eqb, nat_lt, slice_get}
use Rattle.std.specs.declared.cmp.Ordering.TheVariants.{Less, Equal, Greater}
use Rattle.std.specs.Ordering.{nat_cmp, ordering_then}
use Rattle.std.proofs.lemmas.Bool.{cases_lt, cases_order, cases_eq}
use Rattle.std.proofs.lemmas.Bool.Decides.{nat_tests}
use Rattle.std.proofs.lemmas.List.{get_or-set_same, get_or-set_other, get_or_default}
use Rattle.std.proofs.lemmas.List.{length-set}
use Rattle.st_core.specs.declared.types.Pid.{Pid}
use Rattle.st_core.specs.declared.types.Act.{Act}
use Rattle.st_core.specs.declared.types.Act.TheVariants as act
use Rattle.st_core.specs.Pid.{node_of, IsBelow, IsRising}
use Rattle.st_core.specs.Step.{actor, receiver, touches}
use Rattle.st_core.proofs.ForCallers.{rising_at, not_below_itself}
use Rattle.st_log.specs.declared.entry.Entry.{Entry}
use Rattle.st_log.specs.Entries.{is_wide}
use Rattle.st_runtime.specs.Walk.{Along, pids_along, MovesPast, MovesPastAt, MovesPastIfTouched}
use Rattle.st_runtime.specs.Walk.{AreStepped, AreLower}
use Rattle.st_runtime.proofs.Members.{got_at}
use Rattle.st_runtime.proofs.PartLemmas.{touches_actor}
use Rattle.st_runtime.proofs.Wholeness.{touches_two, touches_receiver}

-- ---- pids

pub below_from : (m n : ℕ) → nat_lt m n ≡ true → m < n
below_from m n is = grind (arith, nat_tests)

-- pids that rise differ at different places
pub one_place : (ps : List Pid) (i j : ℕ) (d : Pid) → IsRising ps → i < length ps → j < length ps
    → get_or ps i d ≡ get_or ps j d → i ≡ j
one_place ps i j d rising here there same =
    ⊎_elim (λ one. one)
    (λ apart. ⊎_elim
    (λ low. absurd (not_below_itself (get_or ps j d)
    (subst (λ q. IsBelow q (get_or ps j d)) same (rising_at ps i j d rising low there))))
    (λ high. absurd (not_below_itself (get_or ps i d)
    (subst (λ q. IsBelow q (get_or ps i d)) (sym same) (rising_at ps j i d rising high here))))
    apart)
    (cases_order i j)

less_than : (m n : ℕ) → nat_cmp m n ≡ Less → m < n
less_than m n is = grind (arith, nat_tests)

equal_to : (m n : ℕ) → nat_cmp m n ≡ Equal → m ≡ n
equal_to m n is = grind (arith, nat_tests)

node_below : (p q : Pid) → IsBelow p q → node_of p ≤ node_of q
node_below p q below =
    elim (nat_cmp p.node q.node) as (λ o. nat_cmp p.node q.node ≡ o
    → ordering_then o (nat_cmp p.number q.number) ≡ Less → p.node ≤ q.node) [
      | Less ↦ λ is h. let low = less_than p.node q.node is in omega arith
      | Equal ↦ λ is h. let same = equal_to p.node q.node is in omega arith
      | Greater ↦ λ is h. absurd (cc)
    ] refl below

-- nodes don't fall along pids that rise
node_up : (ps : List Pid) (i j : ℕ) (d : Pid) → IsRising ps → i < j → j < length ps
    → node_of (get_or ps i d) ≤ node_of (get_or ps j d)
node_up ps i j d rising before within =
    node_below (get_or ps i d) (get_or ps j d) (rising_at ps i j d rising before within)

-- if the last pid before a place is on a lower node, all before it are
pub lower_before : (ps : List Pid) (node last first : ℕ) (q : Pid) → IsRising ps
    → first ≡ last + 1 → first ≤ length ps → node_of (get_or ps last q) < node
    → (i : ℕ) → i < first → (p : Pid) → node_of (get_or ps i p) < node
lower_before ps node last first q rising is within low i before p =
    let there : last < length ps = omega (arith, is, within) in
    let at : get_or ps last q ≡ get_or ps last p = get_or_default ps last q p there in
    let here : node_of (get_or ps last p) < node = subst (λ x. node_of x < node) at low in
    ⊎_elim
    (λ less. let up = node_up ps i last p rising less there in omega (arith, up, here))
    (λ from. let same : last ≡ i = omega (arith, is, before, from) in
    subst (λ j. node_of (get_or ps j p) < node) same here)
    (cases_lt i last)

-- ---- cursors

pub length_pids : (cs : List Along) → length (pids_along cs) ≡ length cs
length_pids [] = refl
length_pids (c ∷ cs) = ap suc (length_pids cs)

-- the pid at a place of the cursors
pub pid_at : (cs : List Along) (i : ℕ) (c : Along) (d : Pid) → i < length cs
    → (get_or cs i c).pid ≡ get_or (pids_along cs) i d
pid_at [] i c d below = absurd (omega arith)
pid_at (x ∷ xs) zero c d below = refl
pid_at (x ∷ xs) (suc i) c d below = pid_at xs i c d (omega arith)

-- a cursor passes the entry, which touches its process, or stays, and it doesn't
abbrev Moves : Entry → Along → Along → Type 0
Moves e c d = (MovesPast e c d × (touches e.act c.pid ≡ true))
    ⊎ ((d ≡ c) × (touches e.act c.pid ≡ false))

moves_if : (e : Entry) (c d : Along) → Moves e c d → MovesPastIfTouched e c d
moves_if e c d moves = ⊎_elim
    (λ past. subst (λ b. MatchBool b (MovesPast e c d) (d ≡ c)) (sym past.1) past.0)
    (λ still. subst (λ b. MatchBool b (MovesPast e c d) (d ≡ c)) (sym still.1) still.0) moves

pub false_unless : (b : Bool) → ¬ (b ≡ true) → b ≡ false
false_unless true h = absurd (h refl)
false_unless false h = refl

-- an act that isn't one of a whole node touches only the processes at these two places
module _ (e : Entry) (cs : List Along) (ps : List Pid) (me them : ℕ) (of : pids_along cs ≡ ps)
    (rising : IsRising ps) (narrow : is_wide e.act ≡ false)
    (mine : slice_get ps me ≡ Some (actor e.act))
    (theirs : slice_get ps them ≡ Some (receiver e.act)) where
  abbrev p : Pid
  p = actor e.act

  long : length ps ≡ length cs
  long = ap length (sym of) ∙ length_pids cs

  me_within : me < length cs
  me_within = let at = (got_at ps me p p mine).0 in omega (arith, at, long)

  them_within : them < length cs
  them_within = let at = (got_at ps them (receiver e.act) p theirs).0 in omega (arith, at, long)

  whose : (i : ℕ) (d : Along) → i < length cs → (get_or cs i d).pid ≡ get_or ps i p
  whose i d below = pid_at cs i d p below ∙ ap (λ qs. get_or qs i p) of

  touched_two : (i : ℕ) (d : Along) → i < length cs → touches e.act (get_or cs i d).pid ≡ true
      → (i ≡ me) ⊎ (i ≡ them)
  touched_two i d below touched =
      let here : i < length ps = omega (arith, below, long) in
      ⊎_elim
      (λ a. inl (one_place ps i me p rising here (got_at ps me p p mine).0
      (sym (whose i d below) ∙ a ∙ sym (got_at ps me p p mine).1)))
      (λ b. inr (one_place ps i them p rising here (got_at ps them (receiver e.act) p theirs).0
      (sym (whose i d below) ∙ b ∙ sym (got_at ps them (receiver e.act) p theirs).1)))
      (touches_two e.act (get_or cs i d).pid narrow touched)

  touched_me : (d : Along) → touches e.act (get_or cs me d).pid ≡ true
  touched_me d = ap (touches e.act) (whose me d me_within ∙ (got_at ps me p p mine).1)
      ∙ touches_actor e.act

  touched_them : (d : Along) → touches e.act (get_or cs them d).pid ≡ true
  touched_them d =
      ap (touches e.act) (whose them d them_within ∙ (got_at ps them (receiver e.act) p theirs).1)
      ∙ touches_receiver e.act

  untouched : (i : ℕ) (d : Along) → i < length cs → i ≢ me → i ≢ them
      → touches e.act (get_or cs i d).pid ≡ false
  untouched i d below not_me not_them =
      false_unless (touches e.act (get_or cs i d).pid)
      (λ yes. ⊎_elim not_me not_them (touched_two i d below yes))

  -- one cursor passed it, whose process is actor and receiver
  pub stepped_one : (ds : List Along) → me ≡ them → MovesPastAt e me cs ds → AreStepped e cs ds
  stepped_one ds one at =
      let c = at.cursor in
      let Stepped : List Along → Type 0 = λ xs. AreStepped e cs xs in
      subst Stepped (sym at.written) (record {
        even = length-set cs me c;
        each = λ i below d. moves_if e (get_or cs i d) (get_or (set cs me c) i d)
            (⊎_elim
            (λ here. subst (λ j. Moves e (get_or cs j d) (get_or (set cs me c) j d)) (sym here)
            (inl (
              subst (MovesPast e (get_or cs me d)) (sym (get_or-set_same cs me c d me_within))
                  (subst (λ x. MovesPast e x c) (get_or_default cs me c d me_within) at.passes),
              touched_me d,
            )))
            (λ other. inr (
              get_or-set_other cs me i c d other,
              untouched i d below other (λ it. other (it ∙ sym one)),
            ))
            (cases_eq i me));
      })

  -- the cursors of both passed it
  pub stepped_two : (bs ds : List Along) → them ≢ me → MovesPastAt e me cs bs
      → MovesPastAt e them bs ds → AreStepped e cs ds
  stepped_two bs ds apart from to =
      let b = from.cursor in
      let c = to.cursor in
      let still = length-set cs me b in
      let Stepped : List Along → Type 0 = λ xs. AreStepped e cs xs in
      let both : ds ≡ set (set cs me b) them c =
      to.written ∙ ap (λ xs. set xs them c) from.written in
      let passes : MovesPast e (get_or (set cs me b) them c) c =
      subst (λ xs. MovesPast e (get_or xs them c) c) from.written to.passes in
      subst Stepped (sym both) (record {
        even = length-set (set cs me b) them c ∙ still;
        each = λ i below d.
            moves_if e (get_or cs i d) (get_or (set (set cs me b) them c) i d)
            (⊎_elim
            (λ here. subst
            (λ j. Moves e (get_or cs j d) (get_or (set (set cs me b) them c) j d)) (sym here)
            (inl (
              subst (MovesPast e (get_or cs them d))
                  (sym (get_or-set_same (set cs me b) them c d (omega (arith, still, them_within))))
                  (subst (λ x. MovesPast e x c)
                  (get_or-set_other cs me them b c apart ∙ get_or_default cs them c d them_within)
                  passes),
              touched_them d,
            )))
            (λ other. ⊎_elim
            (λ there. subst
            (λ j. Moves e (get_or cs j d) (get_or (set (set cs me b) them c) j d)) (sym there)
            (inl (
              subst (MovesPast e (get_or cs me d))
                  (sym (get_or-set_other (set cs me b) them me c d (λ it. apart (sym it))
                  ∙ get_or-set_same cs me b d me_within))
                  (subst (λ x. MovesPast e x b) (get_or_default cs me b d me_within) from.passes),
              touched_me d,
            )))
            (λ neither. inr (
              get_or-set_other (set cs me b) them i c d other
                  ∙ get_or-set_other cs me i b d neither,
              untouched i d below neither other,
            ))
            (cases_eq i me))
            (cases_eq i them));
      })

-- ---- a whole node

wide_touches : (a : Act) (q : Pid) → is_wide a ≡ true
    → touches a q ≡ eqb (node_of q) (node_of (actor a))
wide_touches (act.Reset p) q wide = refl
wide_touches (act.Tracer p b) q wide = refl
wide_touches a q wide = absurd (cc)

eqb_same : (m n : ℕ) → m ≡ n → eqb m n ≡ true
eqb_same m n same = grind (arith, nat_tests)

eqb_apart : (m n : ℕ) → (m < n) ⊎ (n < m) → eqb m n ≡ false
eqb_apart m n apart =
    ⊎_elim (λ low. grind (arith, nat_tests)) (λ high. grind (arith, nat_tests)) apart

-- The cursors from the first of the node up to here passed the entry, and no others. Their pids are
-- on the node.
pub record IsPassedUpTo (e : Entry) (node : ℕ) (ps : List Pid) (first at : ℕ)
    (before after : List Along) : Type 0 where
  pub even : length after ≡ length before
  pub inside : (i : ℕ) → first ≤ i → i < at → (d : Along)
      → MovesPast e (get_or before i d) (get_or after i d)
  pub outside : (i : ℕ) → (i < first) ⊎ (at ≤ i) → (d : Along)
      → get_or after i d ≡ get_or before i d
  pub on_node : (i : ℕ) → first ≤ i → i < at → (p : Pid) → node_of (get_or ps i p) ≡ node

-- the processes before the first are on lower nodes, and those from the end on higher ones
pub node_stepped : (e : Entry) (node : ℕ) (ps : List Pid) (first at : ℕ) (cs ds : List Along)
    (p : Pid) → pids_along cs ≡ ps → node ≡ node_of (actor e.act) → IsRising ps
    → is_wide e.act ≡ true → AreLower node ps first
    → (length cs ≤ at) ⊎ (node < node_of (get_or ps at p))
    → IsPassedUpTo e node ps first at cs ds → AreStepped e cs ds
node_stepped e node ps first at cs ds p of whole rising wide low end passed =
    let long : length ps ≡ length cs = ap length (sym of) ∙ length_pids cs in
    record {
      even = passed.even;
      each = λ i below d.
          let within : i < length ps = omega (arith, below, long) in
          let whose : node_of (get_or cs i d).pid ≡ node_of (get_or ps i p) =
          ap node_of (pid_at cs i d p below ∙ ap (λ qs. get_or qs i p) of) in
          let test : touches e.act (get_or cs i d).pid ≡ eqb (node_of (get_or ps i p)) node =
          wide_touches e.act (get_or cs i d).pid wide
          ∙ (λ j. eqb (whose j) (sym whole j)) in
          let stays : (i < first) ⊎ (at ≤ i)
          → (node_of (get_or ps i p) < node) ⊎ (node < node_of (get_or ps i p))
          → Moves e (get_or cs i d) (get_or ds i d) =
          λ out apart. inr (passed.outside i out d, test ∙ eqb_apart _ _ apart) in
          moves_if e (get_or cs i d) (get_or ds i d)
          (⊎_elim
          (λ before. stays (inl before) (inl (low i before p)))
          (λ from. ⊎_elim
          (λ inside. inl (
            passed.inside i from inside d,
            test ∙ eqb_same _ _ (passed.on_node i from inside p),
          ))
          (λ past. stays (inr past) (inr (beyond ps node at i p rising within past
          (⊎_elim (λ none. absurd (omega (arith, below, none, past))) (λ high. high) end))))
          (cases_lt i at))
          (cases_lt i first));
    }
  where
    beyond : (ps : List Pid) (node at i : ℕ) (p : Pid) → IsRising ps → i < length ps → at ≤ i
        → node < node_of (get_or ps at p) → node < node_of (get_or ps i p)
    beyond ps node at i p rising within past high =
        ⊎_elim
        (λ later. let up = node_up ps at i p rising later within in omega (arith, up, high))
        (λ here. let same : at ≡ i = omega (arith, here, past) in
        subst (λ j. node < node_of (get_or ps j p)) same high)
        (cases_lt at i)
