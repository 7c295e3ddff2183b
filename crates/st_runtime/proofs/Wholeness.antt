-- An act that isn't one of a whole node touches its actor and a send's receiver alone; and pids
-- that rise tell processes apart.
use Rattle.std.proofs.Common.{◌≡◌, cond, ℕ, ◌<◌, Bool, true, false, ◌||◌, List, [], ◌∷◌, length}
use Rattle.std.proofs.Common.{get_or, Some, refl, sym, ◌∙◌, ap, subst, inl, inr, ⊎_elim, ◌⊎◌}
use Rattle.std.specs.Prelude.{All, Contains, slice_get}
use Rattle.st_core.specs.declared.types.Pid.{Pid}
use Rattle.st_core.specs.declared.types.Act.{Act}
use Rattle.st_core.specs.declared.types.Act.TheVariants as act
use Rattle.st_core.specs.Pid.{pid_eq, IsBelow, IsRising}
use Rattle.st_core.specs.Step.{actor, receiver, touches}
use Rattle.st_core.specs.Streams.{is_among}
use Rattle.st_core.proofs.ForCallers.{pid_eq-true, pid_eq-same, IsBelow-apart}
use Rattle.st_log.specs.declared.entry.Entry.{Entry}
use Rattle.st_log.specs.Entries.{is_wide}
use Rattle.st_runtime.specs.Joining.{HasAt}
use Rattle.st_runtime.specs.Pcb.{Control}
use Rattle.st_runtime.specs.Pieces.{pids_in, HasIfTouched, IsWholeEntry}
use Rattle.st_runtime.proofs.Members.{In, In-Contains, Contains-In, All-In, In-All}
use Rattle.st_runtime.proofs.PartLemmas.{touches_actor}
use Rattle.st_runtime.proofs.Searching.{key_at}
use Rattle.st_runtime.proofs.Members.{Ascends, Ascends-from_rising, among_in}

-- ---- processes of one pid

not_below : (p q : Pid) → p ≡ q → IsBelow p q → ⊥
not_below p q same below =
    let apart = IsBelow-apart p q below in
    let alike : pid_eq p q ≡ true = ap (pid_eq p) (sym same) ∙ pid_eq-same p in
    cc

one_ascends : (xs : List Control) (x y : Control) → Ascends xs → In x xs → In y xs
    → x.process.pid ≡ y.process.pid → x ≡ y
one_ascends [] x y up i j same = absurd i
one_ascends (z ∷ zs) x y up i j same =
    ⊎_elim
    (λ first. ⊎_elim
    (λ also. first ∙ sym also)
    (λ later. let Below : Control → Type 0 = λ w. IsBelow w.process.pid y.process.pid in
    absurd (not_below _ _ same (subst Below (sym first) (up.0 y later)))) j)
    (λ later. ⊎_elim
    (λ first. let Below : Control → Type 0 = λ w. IsBelow w.process.pid x.process.pid in
    absurd (not_below _ _ (sym same) (subst Below (sym first) (up.0 x later))))
    (λ also. one_ascends zs x y up.1 later also same) j) i

-- processes of one pid are one, if pids rise
pub one_process : (xs : List Control) (x y : Control) → IsRising (pids_in xs) → In x xs → In y xs
    → x.process.pid ≡ y.process.pid → x ≡ y
one_process xs x y rising i j same = one_ascends xs x y (Ascends-from_rising xs rising) i j same

-- the process at a place whose pid is known
pub control_at : (xs : List Control) (i : ℕ) (x : Control) (p : Pid) → i < length xs
    → slice_get (pids_in xs) i ≡ Some p → x ≡ get_or xs i x → Contains xs x × (x.process.pid ≡ p)
control_at xs i x p within pid is = (
  (i, within, sym is),
  ap (λ (y : Control). y.process.pid) is ∙ key_at (λ (y : Control). y.process.pid) xs i x p within
      pid,
)

-- whoever of this pid has the entry, the one process of this pid has it
pub has_at_one : (xs : List Control) (x : Control) (p : Pid) (e : Entry) → IsRising (pids_in xs)
    → Contains xs x → x.process.pid ≡ p → HasAt xs p e → Contains x.log e
has_at_one xs x p e rising among pid has =
    let y = has.control in
    let one : y ≡ x =
    one_process xs y x rising (Contains-In y xs has.among) (Contains-In x xs among)
    (has.pid ∙ sym pid) in
    subst (λ (z : Control). Contains z.log e) one has.has

in_among : (xs : List Control) (x : Control) (p : Pid) → In x xs → x.process.pid ≡ p
    → is_among (pids_in xs) p ≡ true
in_among [] x p i pid = absurd i
in_among (y ∷ ys) x p i pid =
    elim (pid_eq y.process.pid p) as (λ b. pid_eq y.process.pid p ≡ b
    → (b || is_among (pids_in ys) p) ≡ true) [
      | true ↦ λ is. refl
      | false ↦ λ is. ⊎_elim
          (λ first. let same : pid_eq y.process.pid p ≡ true =
          ap (λ (z : Control). pid_eq z.process.pid p) (sym first)
          ∙ ap (pid_eq x.process.pid) (sym pid)
          ∙ pid_eq-same x.process.pid in cc)
          (λ later. in_among ys x p later pid) i
    ] refl

pub not_among : (xs : List Control) (p : Pid) (e : Entry) → is_among (pids_in xs) p ≡ false
    → HasAt xs p e → ⊥
not_among xs p e none has =
    let some = in_among xs has.control p (Contains-In has.control xs has.among) has.pid in cc

pub among_has : (xs : List Control) (p : Pid) (e : Entry) → HasAt xs p e
    → is_among (pids_in xs) p ≡ true
among_has xs p e has = in_among xs has.control p (Contains-In has.control xs has.among) has.pid

-- ---- whole entries

either_true : (a b : Bool) → cond a true b ≡ true → (a ≡ true) ⊎ (b ≡ true)
either_true true b is = inl refl
either_true false b is = inr is

pub touches_two : (a : Act) (p : Pid) → is_wide a ≡ false → touches a p ≡ true
    → (p ≡ actor a) ⊎ (p ≡ receiver a)
touches_two (act.Send p q v) r narrow touched = ⊎_elim
    (λ l. inl (pid_eq-true _ _ l)) (λ s. inr (pid_eq-true _ _ s)) (either_true _ _ touched)
touches_two (act.Reset p) r narrow touched = absurd (cc)
touches_two (act.Tracer p b) r narrow touched = absurd (cc)
touches_two a r narrow touched = inl (pid_eq-true r (actor a) touched)

pub touches_receiver : (a : Act) → touches a (receiver a) ≡ true
touches_receiver (act.Send p q v) =
    elim (pid_eq q p) as (λ b. cond b true (pid_eq q q) ≡ true) [
      | true ↦ refl
      | false ↦
          pid_eq-same q
    ]
touches_receiver (act.Reset p) = touches_actor (act.Reset p)
touches_receiver (act.Tracer p b) = touches_actor (act.Tracer p b)
touches_receiver a = touches_actor a

-- an entry that the actor and a send's receiver have is whole
pub whole_of_two : (xs : List Control) (e : Entry) → IsRising (pids_in xs) → is_wide e.act ≡ false
    → HasAt xs (actor e.act) e → HasAt xs (receiver e.act) e → IsWholeEntry xs e
whole_of_two xs e rising narrow from to = record {
  actor = among_has xs (actor e.act) e from;
  receiver = among_has xs (receiver e.act) e to;
  everywhere = In-All (HasIfTouched e) xs (λ x i touched. ⊎_elim
      (λ mine. has_at_one xs x (actor e.act) e rising (In-Contains x xs i) mine from)
      (λ theirs. has_at_one xs x (receiver e.act) e rising (In-Contains x xs i) theirs to)
      (touches_two e.act x.process.pid narrow touched));
}

pub wide_receiver : (a : Act) → is_wide a ≡ true → receiver a ≡ actor a
wide_receiver (act.Send p q v) wide = absurd (cc)
wide_receiver a wide = refl

-- an entry of a whole node that its actor has, and each process of the node, is whole
pub whole_of_wide : (xs : List Control) (e : Entry) → is_wide e.act ≡ true
    → HasAt xs (actor e.act) e
    → All (HasIfTouched e) xs → IsWholeEntry xs e
whole_of_wide xs e wide made everywhere = record {
  actor = among_has xs (actor e.act) e made;
  receiver = ap (is_among (pids_in xs)) (wide_receiver e.act wide)
      ∙ among_has xs (actor e.act) e made;
  everywhere = everywhere;
}

has_at_of : (xs : List Control) (e : Entry) (p : Pid) → touches e.act p ≡ true
    → is_among (pids_in xs) p ≡ true
    → All (HasIfTouched e) xs → HasAt xs p e
has_at_of xs e p touched there everywhere =
    let found = among_in p xs there in
    let x = found.0 in
    record {
      control = x;
      among = In-Contains x xs found.1.0;
      pid = found.1.1;
      has = All-In (HasIfTouched e) xs x everywhere found.1.0
          (ap (touches e.act) found.1.1 ∙ touched);
    }

pub whole_actor : (xs : List Control) (e : Entry) → IsWholeEntry xs e → HasAt xs (actor e.act) e
whole_actor xs e whole =
    has_at_of xs e (actor e.act) (touches_actor e.act) whole.actor whole.everywhere

pub whole_receiver : (xs : List Control) (e : Entry) → IsWholeEntry xs e
    → HasAt xs (receiver e.act) e
whole_receiver xs e whole =
    has_at_of xs e (receiver e.act) (touches_receiver e.act) whole.receiver whole.everywhere
