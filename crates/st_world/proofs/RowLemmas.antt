-- The number of a pid is the place of its process in the state, since the rows are of one length
-- and rising pids occur once. So a look-up or a write at a number of the rows is one at that place
-- of the state.
use Rattle.std.proofs.Common.{◌≡◌, ℕ, ◌+◌, ◌<◌, ◌≤◌, nat_lt, zero, suc, Bool, true, false, cond}
use Rattle.std.proofs.Common.{List, [], ◌∷◌, length, get_or, set, replicate, Some, None, position}
use Rattle.std.proofs.Common.{slice_get, refl, sym, ◌∙◌, ap, arith}
use Rattle.std.specs.List.{AllByRecursion, position_or_len}
use Rattle.std.proofs.lemmas.Bool.{ltb-false}
use Rattle.std.proofs.lemmas.List.{set-get_or, get_or_default}
use Rattle.std.proofs.lemmas.List.Quantifiers.{position-Some}
use Rattle.std.proofs.lemmas.Option.{cond_some, slice_get_past}
use Rattle.st_core.specs.declared.types.Pid.{Pid}
use Rattle.st_core.specs.declared.types.Message.{Message}
use Rattle.st_core.specs.Pid.{pid_eq, IsBelow, IsRising}
use Rattle.st_core.specs.State.{LocalState, Process, process, zero_local, zero_state}
use Rattle.st_core.proofs.ForCallers.{pid_eq-true}
use Rattle.st_mail.specs.Actor.{process_of}
use Rattle.st_world.specs.Rows.{state_of, AreAligned}
use Rattle.st_world.proofs.Pids.{below_apart}
use Rattle.st_world.proofs.States.{AreApart, StandsAt}

-- the place of the pid q, or the number of pids if q isn't among them
abbrev pub number_in : List Pid → Pid → ℕ
number_in ps q = position_or_len (λ p. pid_eq p q) ps

-- BY RECURSION ON ALL ROWS

pub length-rows : (ps : List Pid) (ls : List LocalState) (bs : List (List Message))
    → length ls ≡ length ps → length bs ≡ length ps → length (state_of ps ls bs) ≡ length ps
length-rows [] ls bs e f = refl
length-rows (p ∷ ps) (l ∷ ls) (b ∷ bs) e f =
    ap suc (length-rows ps ls bs (omega arith) (omega arith))
length-rows ps ls bs e f = absurd (omega arith)

next : (n : ℕ) → suc n ≡ 1 + n
next n = omega arith

-- the process with the pid q is the one at the number of q
place_rows : (ps : List Pid) (ls : List LocalState) (bs : List (List Message)) (q : Pid)
    → length ls ≡ length ps → length bs ≡ length ps
    → process (state_of ps ls bs) q ≡ slice_get (state_of ps ls bs) (number_in ps q)
place_rows [] ls bs q e f = refl
place_rows (p ∷ ps) [] bs q e f = absurd (omega arith)
place_rows (p ∷ ps) (l ∷ ls) [] q e f = absurd (omega arith)
place_rows (p ∷ ps) (l ∷ ls) (b ∷ bs) q e f =
    let rest = place_rows ps ls bs q (omega arith) (omega arith) in by (pid_eq p q) refl rest
  where
    by : (t : Bool) → pid_eq p q ≡ t
        → process (state_of ps ls bs) q ≡ slice_get (state_of ps ls bs) (number_in ps q)
        → process (state_of (p ∷ ps) (l ∷ ls) (b ∷ bs)) q
        ≡ slice_get (state_of (p ∷ ps) (l ∷ ls) (b ∷ bs)) (number_in (p ∷ ps) q)
    by true t rest = rw t refl
    by false t rest = rw t (rest ∙ ap (slice_get (process_of p l b ∷ state_of ps ls bs))
        (next (number_in ps q)))

pub at_rows : (ps : List Pid) (ls : List LocalState) (bs : List (List Message)) (i : ℕ)
    → (p : Pid) (l : LocalState) (b : List Message)
    → length ls ≡ length ps → length bs ≡ length ps → i < length ps
    → p ≡ get_or ps i p → l ≡ get_or ls i l → b ≡ get_or bs i b
    → slice_get (state_of ps ls bs) i ≡ Some (process_of p l b)
at_rows (x ∷ ps) (y ∷ ls) (z ∷ bs) zero p l b e f h ep el eb = rw (ep, el, eb) refl
at_rows (x ∷ ps) (y ∷ ls) (z ∷ bs) (suc i) p l b e f h ep el eb =
    at_rows ps ls bs i p l b (omega arith) (omega arith) (omega arith) ep el eb
at_rows ps ls bs i p l b e f h ep el eb = absurd (omega arith)

-- writing a tracing state and a queue at one number writes the process there
pub set_rows : (ps : List Pid) (ls : List LocalState) (bs : List (List Message)) (i : ℕ)
    → (p : Pid) (l : LocalState) (b : List Message)
    → length ls ≡ length ps → length bs ≡ length ps → i < length ps → p ≡ get_or ps i p
    → state_of ps (set ls i l) (set bs i b) ≡ set (state_of ps ls bs) i (process_of p l b)
set_rows (x ∷ ps) (y ∷ ls) (z ∷ bs) zero p l b e f h ep = rw ep refl
set_rows (x ∷ ps) (y ∷ ls) (z ∷ bs) (suc i) p l b e f h ep =
    ap (λ s. process_of x y z ∷ s)
    (set_rows ps ls bs i p l b (omega arith) (omega arith) (omega arith) ep)
set_rows ps ls bs i p l b e f h ep = absurd (omega arith)

apart_rows_from : (ps : List Pid) (ls : List LocalState) (bs : List (List Message)) (p : Pid)
    → AllByRecursion (IsBelow p) ps
    → AllByRecursion (λ (x : Process). pid_eq x.pid p ≡ false) (state_of ps ls bs)
apart_rows_from (x ∷ ps) (y ∷ ls) (z ∷ bs) p all =
    (below_apart p x all.0, apart_rows_from ps ls bs p all.1)
apart_rows_from ps ls bs p all = tt

-- in the state of rising pids no pid occurs twice
pub apart_rows : (ps : List Pid) (ls : List LocalState) (bs : List (List Message))
    → IsRising ps → AreApart (state_of ps ls bs)
apart_rows (x ∷ ps) (y ∷ ls) (z ∷ bs) rising =
    (apart_rows_from ps ls bs x rising.0, apart_rows ps ls bs rising.1)
apart_rows ps ls bs rising = tt

-- the rows of a new world are the zero state
pub zero_rows : (ps : List Pid)
    → state_of ps (replicate (length ps) zero_local) (replicate (length ps) []) ≡ zero_state ps
zero_rows [] = refl
zero_rows (p ∷ ps) = ap (λ s. process_of p zero_local [] ∷ s) (zero_rows ps)

-- AT THE NUMBER OF A PID

cond_none : (b : Bool) (n : ℕ) → cond b (Some n) None ≡ None → b ≡ false
cond_none true n h = absurd (cc)
cond_none false n h = refl

-- the number of a pid is below the number of pids
pub number_within : (ps : List Pid) (q : Pid) (i : ℕ) → position (λ p. pid_eq p q) ps ≡ Some i
    → i < length ps
number_within ps q i h = (position-Some (λ p. pid_eq p q) ps i q h).0

module _ (ps : List Pid) (ls : List LocalState) (bs : List (List Message))
    (aligned : AreAligned ps ls bs)
    (q : Pid) where
  -- a pid without a number is unknown
  pub unknown : position (λ p. pid_eq p q) ps ≡ None → process (state_of ps ls bs) q ≡ None
  unknown h =
      let place : ℕ = number_in ps q in
      let len = length-rows ps ls bs aligned.locals_len aligned.queues_len in
      let none = ltb-false place (length ps) (cond_none (nat_lt place (length ps)) place h) in
      let past : length (state_of ps ls bs) ≤ place = omega (arith, len, none) in
      place_rows ps ls bs q aligned.locals_len aligned.queues_len
      ∙ slice_get_past (state_of ps ls bs) place past

  module _ (i : ℕ) (at : position (λ p. pid_eq p q) ps ≡ Some i) where
    -- the process of a pid stands at its number
    pub stands : (l : LocalState) → l ≡ get_or ls i l
        → StandsAt (state_of ps ls bs) q i (process_of q l (get_or bs i []))
    stands l el =
        let facts = position-Some (λ p. pid_eq p q) ps i q at in
        let place = (cond_some _ _ _ at).1 in
        let own : get_or ps i q ≡ q = pid_eq-true (get_or ps i q) q facts.1 in
        let queue : List Message = get_or bs i [] in
        let eb : get_or bs i [] ≡ get_or bs i (get_or bs i []) =
        get_or_default bs i [] queue (omega (arith, facts.0, aligned.queues_len)) in
        let here : slice_get (state_of ps ls bs) i ≡ Some (process_of q l (get_or bs i [])) =
        at_rows ps ls bs i q l queue aligned.locals_len aligned.queues_len facts.0 (sym own) el
        eb in
        record {
          at = here;
          found =
              place_rows ps ls bs q aligned.locals_len aligned.queues_len
              ∙ ap (slice_get (state_of ps ls bs)) place
              ∙ here;
          own = refl;
        }

    -- writing both rows writes the process
    pub set_stands : (l : LocalState) (b : List Message)
        → state_of ps (set ls i l) (set bs i b) ≡ set (state_of ps ls bs) i (process_of q l b)
    set_stands l b =
        let facts = position-Some (λ p. pid_eq p q) ps i q at in
        let own : q ≡ get_or ps i q = sym (pid_eq-true (get_or ps i q) q facts.1) in
        set_rows ps ls bs i q l b aligned.locals_len aligned.queues_len facts.0 own

    -- writing its tracing state writes the process
    pub set_local : (l : LocalState)
        → state_of ps (set ls i l) bs ≡ set (state_of ps ls bs) i (process_of q l (get_or bs i []))
    set_local l = ap (state_of ps (set ls i l)) (sym (set-get_or bs i []))
        ∙ set_stands l (get_or bs i [])

    -- writing its queue writes the process
    pub set_queue : (l : LocalState) (b : List Message) → l ≡ get_or ls i l
        → state_of ps ls (set bs i b) ≡ set (state_of ps ls bs) i (process_of q l b)
    set_queue l b el =
        ap (λ ks. state_of ps ks (set bs i b)) (sym (set-get_or ls i l) ∙ ap (set ls i) (sym el))
        ∙ set_stands l b
