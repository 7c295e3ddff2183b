-- The first event of which a test holds is the next one, or else the first of the rest. So the
-- first that a loop finds is at the least place.
use Rattle.std.proofs.Common.{◌≡◌, ℕ, ◌+◌, ◌<◌, suc, Bool, true, false, cond, List, [], ◌∷◌, length}
use Rattle.std.proofs.Common.{get_or, take, drop, slice_get, Option, None, Some, refl, sym, ◌∙◌, ap}
use Rattle.std.proofs.Common.{subst, arith}
use Rattle.std.proofs.lemmas.Bool.{false≢true}
use Rattle.std.proofs.lemmas.Option.{cond_some, none-some}
use Rattle.st_core.specs.declared.types.Pid.{Pid}
use Rattle.st_core.specs.declared.types.Event.{Event}
use Rattle.st_core.specs.Pid.{IsRising}
use Rattle.st_core.specs.Run.{Stream, pids_of}
use Rattle.st_core.specs.Streams.{events_of}
use Rattle.st_pair.specs.Places.{first, first_from, or_else}
use Rattle.st_pair.proofs.ForCallers.{event_none, first_from-at, first_least, first-loop}
use Rattle.lack_laws.specs.Needs.{HoldsOfNone}
use Rattle.lack_laws.specs.Reasons.{HoldsAt}
use Rattle.lack_laws.specs.OpenReasons.{IsLeastPlace}
use Rattle.lack_needs.specs.Places.{flaw_place, place_where}

module _ (rule : Pid → ℕ → Event → Option (Pid × ℕ)) (p : Pid) (es : List Event) (i : ℕ) (e : Event)
    (at : slice_get es i ≡ Some e) where
  pub here : rule p i e ≡ Some (p, i) → first_from rule p i (drop i es) ≡ Some (p, i)
  here gives = first_from-at rule p i i es e at
      ∙ ap (λ (o : Option (Pid × ℕ)). or_else o (first_from rule p (i + 1) (drop (suc i) es))) gives

  pub passed : rule p i e ≡ None → first_from rule p i (drop i es)
      ≡ first_from rule p (i + 1) (drop (i + 1) es)
  passed none =
      let next : suc i ≡ i + 1 = omega arith in
      first_from-at rule p i i es e at
      ∙ ap (λ (o : Option (Pid × ℕ)). or_else o (first_from rule p (i + 1) (drop (suc i) es))) none
      ∙ ap (λ (n : ℕ). first_from rule p (i + 1) (drop n es)) next

pub if_true : (b : Bool) (p : Pid) (i : ℕ) → b ≡ true
    → (let o : Option (Pid × ℕ) = cond b (Some (p, i)) None in o)
    ≡ Some (p, i)
if_true b p i is = ap (λ (c : Bool). cond c (Some (p, i)) None) is

pub if_false : (b : Bool) (p : Pid) (i : ℕ) → b ≡ false
    → (let o : Option (Pid × ℕ) = cond b (Some (p, i)) None in o)
    ≡ None
if_false b p i is = ap (λ (c : Bool). cond c (Some (p, i)) None) is

same_from : (r t : Pid → ℕ → Event → Option (Pid × ℕ)) (p : Pid)
    → ((i : ℕ) (e : Event) → r p i e ≡ t p i e)
    → (i : ℕ) (es : List Event) → first_from r p i es ≡ first_from t p i es
same_from r t p same i [] = refl
same_from r t p same i (e ∷ es) = ap (λ (o : Option (Pid × ℕ)).
    or_else o (first_from r p (i + 1) es)) (same i e)
    ∙ ap (or_else (t p i e)) (same_from r t p same (i + 1) es)

-- a test reads the same events from a process as from its stream
pub in_streams : (test : List Event → Event → Bool) (streams : List Stream) (p : Pid)
    (es : List Event)
    → es ≡ events_of streams p → first_from (place_where test es) p 0 es
    ≡ first_from (flaw_place test streams) p 0 es
in_streams test streams p es is =
    same_from (place_where test es) (flaw_place test streams) p
    (λ i e. ap (λ (l : List Event). place_where test l p i e) is) 0 es

module _ (rule : Pid → ℕ → Event
    → Option (Pid × ℕ)) (streams : List Stream) (rising : IsRising (pids_of streams)) where
  pub given : (pids : List Pid) (k : ℕ) (d : Pid) (es : List Event) (x : Pid × ℕ)
      → pids ≡ pids_of streams → k < length pids → es ≡ events_of streams (get_or pids k d)
      → Some x ≡ first_from rule (get_or pids k d) 0 es
      → first rule streams ≡ first rule (drop k streams) → Some x ≡ first rule streams
  given pids k d es x are within events gives far =
      let from : first_from rule (get_or pids k d) 0 (events_of streams (get_or pids k d))
      ≡ Some x =
      subst (λ (l : List Event). first_from rule (get_or pids k d) 0 l ≡ Some x) events
      (sym gives) in
      sym (far ∙ first-loop rule streams rising pids k d are within
      ∙ ap (λ (o : Option (Pid × ℕ)). or_else o (first rule (drop (k + 1) streams))) from)

  pub none_given : (pids : List Pid) (k : ℕ) (d : Pid) (es : List Event) → pids ≡ pids_of streams
      → k < length pids
      → es ≡ events_of streams (get_or pids k d) → None ≡ first_from rule (get_or pids k d) 0 es
      → first rule streams ≡ first rule (drop k streams)
      → first rule streams ≡ first rule (drop (k + 1) streams)
  none_given pids k d es are within events gives far =
      let from : first_from rule (get_or pids k d) 0 (events_of streams (get_or pids k d)) ≡ None =
      subst (λ (l : List Event). first_from rule (get_or pids k d) 0 l ≡ None) events (sym gives) in
      far ∙ first-loop rule streams rising pids k d are within
      ∙ ap (λ (o : Option (Pid × ℕ)). or_else o (first rule (drop (k + 1) streams))) from

pub none_false : {X : Type 0} (b : Bool) (x : X) → cond b (Some x) None ≡ None → b ≡ false
none_false true x is = absurd (none-some x (sym is))
none_false false x is = refl

-- the first place at which a test holds is the least
pub least_there : (test : List Event → Event → Bool) (streams : List Stream) (p : Pid) (i : ℕ)
    → IsRising (pids_of streams) → first (flaw_place test streams) streams ≡ Some (p, i)
    → IsLeastPlace (HoldsAt test streams) p i
least_there test streams p i rising is =
    let l = first_least (flaw_place test streams) streams (p, i) rising is in
    let given = cond_some (test (take l.index (events_of streams l.pid)) l.event) (l.pid, l.index)
    (p, i) l.gives in
    subst (λ (x : Pid × ℕ). IsLeastPlace (HoldsAt test streams) x.0 x.1) given.1 (record {
      holds = record { event = l.event; at = l.at; holds = given.0 };
      least = λ q j earlier h. false≢true (sym (none_false
          (test (take j (events_of streams q)) h.event) (q, j)
          (l.least q j h.event h.at earlier)) ∙ h.holds);
    })

pub holds_of_none : (test : List Event → Event → Bool) (streams : List Stream)
    → first (flaw_place test streams) streams ≡ None → HoldsOfNone test streams
holds_of_none test streams none = λ p i e at.
    none_false (test (take i (events_of streams p)) e) (p, i)
    (event_none (flaw_place test streams) streams none p i e at)
