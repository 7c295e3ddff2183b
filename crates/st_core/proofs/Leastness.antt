-- The unlisted place is the least one, since the search goes through the streams, whose pids rise,
-- in order, and through the events of each in order, and passes only events that name listed pids.
use Rattle.std.proofs.Common.{◌≡◌, ℕ, ◌<◌, ◌≤◌, Bool, true, false, not, cond, List, [], ◌∷◌, length}
use Rattle.std.proofs.Common.{get_or, Option, Some, None, refl, sym, ◌∙◌, ap, subst, arith}
use Rattle.std.specs.List.{slice_get, position, position_or_len, AllByRecursion}
use Rattle.std.specs.Option.{MatchOption}
use Rattle.std.proofs.lemmas.Bool.{false≢true, not-true, not-false, ltb-false}
use Rattle.std.proofs.lemmas.List.Quantifiers.{position-Some}
use Rattle.std.proofs.lemmas.List.Sums.{fails_before_first}
use Rattle.std.proofs.lemmas.Option.{none-some, slice_get_within, slice_get-get_or}
use Rattle.std.proofs.lemmas.Option.{get_or_from_slice_get}
use Rattle.st_core.specs.declared.types.Pid.{Pid}
use Rattle.st_core.specs.declared.types.Kind.TheVariants as kind
use Rattle.st_core.specs.declared.types.Event.{Event}
use Rattle.st_core.specs.Pid.{pid_eq, IsBelow, IsRising}
use Rattle.st_core.specs.Run.{Stream, pids_of}
use Rattle.st_core.specs.Streams.{stream_of, events_of, names_listed, unlisted_among, unlisted}
use Rattle.st_core.specs.Laws.{AreAllListed, IsLeastUnlisted}
use Rattle.st_core.proofs.Pids.{pid_eq-true, pid_eq-same, pid_eq-swap, IsBelow-trans, IsBelow-apart}

-- ONE LIST OF EVENTS

no_place : {X : Type 0} (b : Bool) (x : X) → cond b (Some x) None ≡ None → b ≡ false
no_place true x h = absurd (none-some x (sym h))
no_place false x h = refl

none_fails : (test : Event → Bool) (es : List Event) → position (λ e. not (test e)) es ≡ None
    → (i : ℕ) (e : Event) → slice_get es i ≡ Some e → test e ≡ true
none_fails test es none i e at =
    let fails = λ (d : Event). not (test d) in
    let within : i < length es = slice_get_within es i e at in
    let past : length es ≤ position_or_len fails es = ltb-false _ _ (no_place _ _ none) in
    let passes = fails_before_first fails es i e (omega arith) in
    not-false (test e) (ap fails (sym (get_or_from_slice_get es i e e at)) ∙ passes)

-- STREAMS, THE FIRST AND THE REST

taken : Option Stream → List Event
taken o = elim o [ None ↦ [] | Some x ↦ x.events ]

events_here : (x : Stream) (rest : List Stream) (q : Pid) → pid_eq x.pid q ≡ true
    → events_of (x ∷ rest) q ≡ x.events
unfolding taken
events_here x rest q is = ap (λ b. taken (cond b (Some x) (stream_of rest q))) is

events_there : (x : Stream) (rest : List Stream) (q : Pid) → pid_eq x.pid q ≡ false
    → events_of (x ∷ rest) q ≡ events_of rest q
unfolding taken
events_there x rest q is = ap (λ b. taken (cond b (Some x) (stream_of rest q))) is

-- a claim about event i of q holds if it holds of the first stream's events and of those in the
-- rest
by_stream : (x : Stream) (rest : List Stream) (q : Pid) (i : ℕ) (e : Event) (P : Type 0)
    → (pid_eq x.pid q ≡ true → slice_get x.events i ≡ Some e → P)
    → (pid_eq x.pid q ≡ false → slice_get (events_of rest q) i ≡ Some e → P)
    → slice_get (events_of (x ∷ rest) q) i ≡ Some e → P
by_stream x rest q i e P here there at =
    elim (pid_eq x.pid q) as (λ b. pid_eq x.pid q ≡ b → P) [
      | true ↦ λ is. here is (ap (λ es. slice_get es i) (sym (events_here x rest q is)) ∙ at)
      | false ↦ λ is. there is (ap (λ es. slice_get es i) (sym (events_there x rest q is)) ∙ at)
    ] refl

found_above : (q : Pid) (ss : List Stream) (p : Pid) (i : ℕ) (e : Event)
    → AllByRecursion (IsBelow q) (pids_of ss)
    → slice_get (events_of ss p) i ≡ Some e → IsBelow q p
found_above q [] p i e above at = absurd (none-some e at)
found_above q (x ∷ rest) p i e above at =
    by_stream x rest p i e (IsBelow q p)
    (λ is _. subst (IsBelow q) (pid_eq-true x.pid p is) above.0)
    (λ _ there. found_above q rest p i e above.1 there) at

-- a process that has an event in streams above x isn't x's
apart : (x : Stream) (rest : List Stream) (p : Pid) (i : ℕ) (e : Event)
    → AllByRecursion (IsBelow x.pid) (pids_of rest)
    → slice_get (events_of rest p) i ≡ Some e → pid_eq x.pid p ≡ false
apart x rest p i e above at = IsBelow-apart x.pid p (found_above x.pid rest p i e above at)

-- LEAST PLACES

-- event i of p fails the test, and no event before it does
record IsLeast (test : Event → Bool) (ss : List Stream) (p : Pid) (i : ℕ) : Type 0 where
  pub event : Event
  pub at : slice_get (events_of ss p) i ≡ Some event
  pub fails : test event ≡ false
  pub earlier : (j : ℕ) (e : Event) → j < i → slice_get (events_of ss p) j ≡ Some e → test e ≡ true
  pub lower : (q : Pid) (j : ℕ) (e : Event) → IsBelow q p → slice_get (events_of ss q) j ≡ Some e
      → test e ≡ true

abbrev PassAll : (Event → Bool) → List Stream → Type 0
PassAll test ss = (p : Pid) (i : ℕ) (e : Event) → slice_get (events_of ss p) i ≡ Some e
    → test e ≡ true

least_in_rest : (test : Event → Bool) (x : Stream) (rest : List Stream) (p : Pid) (i : ℕ)
    → position (λ e. not (test e)) x.events ≡ None → AllByRecursion (IsBelow x.pid) (pids_of rest)
    → IsLeast test rest p i → IsLeast test (x ∷ rest) p i
least_in_rest test x rest p i none above least =
    let other = apart x rest p i least.event above least.at in
    record {
      event = least.event;
      at = ap (λ es. slice_get es i) (events_there x rest p other) ∙ least.at;
      fails = least.fails;
      earlier = λ j e below at.
          least.earlier j e below (ap (λ es. slice_get es j) (sym (events_there x rest p other))
          ∙ at);
      lower = λ q j e below at. by_stream x rest q j e (test e ≡ true)
          (λ _ here. none_fails test x.events none j e here)
          (λ _ there. least.lower q j e below there) at;
    }

-- some event of p's
some_event : Pid → Event
some_event p = record {
  label = record { 0 = 0 };
  kind = kind.Print;
  serial = record { prev = 0; this = 0 };
  from = p;
  to = None;
  value = 0;
}

least_in_first : (test : Event → Bool) (x : Stream) (rest : List Stream) (i : ℕ)
    → position (λ e. not (test e)) x.events ≡ Some i → AllByRecursion (IsBelow x.pid) (pids_of rest)
    → IsLeast test (x ∷ rest) x.pid i
least_in_first test x rest i some above =
    let d = some_event x.pid in
    let found = position-Some (λ e. not (test e)) x.events i d some in
    let own = events_here x rest x.pid (pid_eq-same x.pid) in
    record {
      event = get_or x.events i d;
      at = ap (λ es. slice_get es i) own ∙ slice_get-get_or x.events i d found.0;
      fails = not-true _ found.1;
      earlier = λ j e below at.
          let is = get_or_from_slice_get x.events j e d
          (ap (λ es. slice_get es j) (sym own) ∙ at) in
          ap test (sym is) ∙ not-false _ (found.2 j below);
      lower = λ q j e below at. by_stream x rest q j e (test e ≡ true)
          (λ is _. absurd (false≢true
          (sym (IsBelow-apart q x.pid below) ∙ pid_eq-swap q x.pid ∙ is)))
          (λ _ there.
          let round = IsBelow-trans q x.pid q below (found_above x.pid rest q j e above there) in
          absurd (false≢true (sym (IsBelow-apart q q round) ∙ pid_eq-same q))) at;
    }

least_among : (all ss : List Stream) → IsRising (pids_of ss)
    → MatchOption (unlisted_among all ss) (PassAll (names_listed all) ss)
    (λ place. IsLeast (names_listed all) ss place.0 place.1)
least_among all [] rising = λ p i e at. absurd (none-some e at)
least_among all (x ∷ rest) rising =
    let test = names_listed all in
    let Told = λ (ss : List Stream) (o : Option (Pid × ℕ)).
    MatchOption o (PassAll test ss) (λ place. IsLeast test ss place.0 place.1) in
    let first = position (λ e. not (test e)) x.events in
    let last = unlisted_among all rest in
    let after = λ (o : Option ℕ). let found : Option (Pid × ℕ) =
    elim o [ None ↦ last | Some i ↦ Some (x.pid, i) ] in
    found in
    elim first as (λ o. first ≡ o → Told (x ∷ rest) (after o)) [
      | None ↦ λ none.
          elim last as (λ o. Told rest o → Told (x ∷ rest) o) [
            | None ↦ λ pass p i e at. by_stream x rest p i e (test e ≡ true)
                (λ _ here. none_fails test x.events none i e here)
                (λ _ there. pass p i e there) at
            | Some place ↦ λ least. least_in_rest test x rest place.0 place.1 none rising.0 least
          ] (least_among all rest rising.1)
      | Some i ↦ λ some. least_in_first test x rest i some rising.0
    ] refl

pub unlisted_is_least : (streams : List Stream) → IsRising (pids_of streams)
    → MatchOption (unlisted streams) (AreAllListed streams)
    (λ place. IsLeastUnlisted streams place.0 place.1)
unlisted_is_least streams rising =
    let test = names_listed streams in
    elim (unlisted streams) as (λ o.
    MatchOption o (PassAll test streams) (λ place. IsLeast test streams place.0 place.1)
    → MatchOption o (AreAllListed streams) (λ place. IsLeastUnlisted streams place.0 place.1)) [
      | None ↦ λ pass. pass
      | Some place ↦ λ least. record {
        event = least.event;
        at = least.at;
        names = least.fails;
        earlier = least.earlier;
        lower = least.lower;
      }
    ] (least_among streams streams rising)
