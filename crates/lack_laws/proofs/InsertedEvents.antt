-- An untold event can be put into streams if it fits: any two events of the longer streams then
-- fit, since each of them was there before or is the new one. They stay streams if its process may
-- report the event among their pids.
use Rattle.std.proofs.Common.{[], ◌≡◌, ℕ, zero, suc, ◌+◌, ◌<◌, ◌≤◌, ◌⊎◌, Bool, true, false, cond}
use Rattle.std.proofs.Common.{List, ◌∷◌, ◌++◌, map, take, drop, length, Some, None, is_some, inl}
use Rattle.std.proofs.Common.{inr, ◌-◌, min, slice_get, refl, sym, ◌∙◌, ap, subst, arith}
use Rattle.std.proofs.lemmas.Bool.{false≢true}
use Rattle.std.proofs.lemmas.Option.{none-some, same_Some}
use Rattle.std.specs.List.{AllByRecursion}
use Rattle.st_core.specs.declared.types.Pid.{Pid}
use Rattle.st_core.specs.declared.types.Event.{Event}
use Rattle.st_core.specs.Pid.{pid_eq, IsRising}
use Rattle.st_core.specs.Run.{Stream, pids_of}
use Rattle.st_core.specs.Streams.{events_of, lists, stream_of, IsStreams, is_among}
use Rattle.st_core.specs.Laws.{IsReportAmong}
use Rattle.st_core.proofs.ForCallers.{pid_eq-refl, pid_same, are_own, AreReports}
use Rattle.st_core.proofs.ForCallers.{names_among_listed, unlisted_none, lists_among}
use Rattle.st_pair.specs.Places.{event_at, is_stamp}
use Rattle.st_pair.specs.Pairing.{agrees}
use Rattle.st_pair.proofs.ForCallers.{events_in, listed_if}
use Rattle.st_order.proofs.ForCallers.{all_found, AreFound}
use Rattle.st_plan.proofs.ForCallers.{named}
use Rattle.lack_laws.proofs.AcceptedStreams.{FitTogether, own_at}

-- THE STREAMS WITH IT

-- the streams with r put before event i of p
abbrev pub more : Pid → ℕ → Event → List Stream → List Stream
more p i r streams = map (λ x. record {
  pid = x.pid;
  events = cond (pid_eq x.pid p) (take i x.events ++ r ∷ drop i x.events) x.events;
}) streams

pub with_pids : (p : Pid) (i : ℕ) (r : Event) (streams : List Stream)
    → pids_of (more p i r streams) ≡ pids_of streams
with_pids p i r [] = refl
with_pids p i r (x ∷ streams) = ap (λ ps. x.pid ∷ ps) (with_pids p i r streams)

-- p has r among its events, and each other process has its old events
pub own_with : (p : Pid) (i : ℕ) (r : Event) (streams : List Stream) → lists streams p ≡ true
    → events_of (more p i r streams) p
    ≡ take i (events_of streams p) ++ r ∷ drop i (events_of streams p)
own_with p i r [] there = absurd (false≢true there)
own_with p i r (x ∷ streams) there =
    let put = λ (es : List Event). take i es ++ r ∷ drop i es in
    elim (pid_eq x.pid p) as (λ b. is_some (cond b (Some x) (stream_of streams p)) ≡ true
    → events_in (cond b (Some (let y : Stream =
    record { pid = x.pid; events = cond b (put x.events) x.events } in y))
    (stream_of (more p i r streams) p))
    ≡ put (events_in (cond b (Some x) (stream_of streams p))))
    [ true ↦ λ _. refl | false ↦ own_with p i r streams ] there

pub others_with : (p : Pid) (i : ℕ) (r : Event) (streams : List Stream) (q : Pid)
    → pid_eq q p ≡ false → events_of (more p i r streams) q ≡ events_of streams q
others_with p i r [] q other = refl
others_with p i r (x ∷ streams) q other =
    let put = λ (b : Bool). cond b (take i x.events ++ r ∷ drop i x.events) x.events in
    let y : Stream = record { pid = x.pid; events = put (pid_eq x.pid p) } in
    elim (pid_eq x.pid q) as (λ b. pid_eq x.pid q ≡ b
    → events_in (cond b (Some y) (stream_of (more p i r streams) q))
    ≡ events_in (cond b (Some x) (stream_of streams q))) [
      | true ↦ λ same. ap put (ap (λ z. pid_eq z p) (pid_same x.pid q same) ∙ other)
      | false ↦ λ _. others_with p i r streams q other
    ] refl

pub listed_at : (streams : List Stream) (q : Pid) (k : ℕ) (e : Event)
    → event_at streams q k ≡ Some e → lists streams q ≡ true
listed_at streams q k e at = lists_among streams q ∙ listed_if streams q k e at

pub unlisted_events : (streams : List Stream) (q : Pid) → lists streams q ≡ false
    → events_of streams q ≡ []
unlisted_events streams q none = elim (stream_of streams q)
    as (λ o. is_some o ≡ false → events_in o ≡ []) [
      | None ↦ λ _. refl
      | Some x ↦ λ h. absurd (false≢true (sym h))
    ] none

listed_with : (p : Pid) (i : ℕ) (r : Event) (streams : List Stream) (q : Pid) (k : ℕ) (e : Event)
    → event_at (more p i r streams) q k ≡ Some e → lists streams q ≡ true
listed_with p i r streams q k e at =
    lists_among streams q
    ∙ ap (λ ps. is_among ps q) (sym (with_pids p i r streams))
    ∙ sym (lists_among (more p i r streams) q)
    ∙ listed_at (more p i r streams) q k e at

-- PLACES

-- event m is at k after the insertion at i; b says whether the new event is in its process
abbrev pub IsMoved : Bool → ℕ → ℕ → ℕ → Type 0
IsMoved false i m k = k ≡ m
IsMoved true i m k = k ≡ m + min 1 (suc m - i)

moved_order : (b : Bool) (i m n j k : ℕ) → IsMoved b i m j → IsMoved b i n k → j < k → m < n
moved_order false i m n j k x y less = omega arith
moved_order true i m n j k x y less = omega arith

moved_same : (b : Bool) (i m j k : ℕ) → IsMoved b i m j → IsMoved b i m k → j ≡ k
moved_same false i m j k x y = x ∙ sym y
moved_same true i m j k x y = x ∙ sym y

moved_after : (i m k : ℕ) → IsMoved true i m k → i < k → i ≤ m
moved_after i m k x less = omega arith

moved_before : (i m k : ℕ) → IsMoved true i m k → k < i → m < i
moved_before i m k x less = omega arith

-- event k of the longer stream was there before, at `index`
pub record IsOld (es : List Event) (b : Bool) (i k : ℕ) (e : Event) : Type 0 where
  pub index : ℕ
  pub at : slice_get es index ≡ Some e
  pub moved : IsMoved b i index k

abbrev pub IsNew : ℕ → Event → ℕ → Event → Type 0
IsNew i r k e = (k ≡ i) × (r ≡ e)

old_later : (x : Event) (es : List Event) (i k : ℕ) (e : Event) → IsOld es true i k e
    → IsOld (x ∷ es) true (suc i) (suc k) e
old_later x es i k e old = record {
  index = suc old.index;
  at = old.at;
  moved = let there = old.moved in omega arith;
}

at_put : (es : List Event) (i : ℕ) (r : Event) (k : ℕ) (e : Event) → i ≤ length es
    → slice_get (take i es ++ r ∷ drop i es) k ≡ Some e → IsNew i r k e ⊎ IsOld es true i k e
at_put es zero r zero e within at = inl (refl, same_Some r e at)
at_put es zero r (suc k) e within at =
    inr (record { index = k; at = at; moved = omega arith })
at_put [] (suc i) r k e within at = absurd (omega arith)
at_put (x ∷ es) (suc i) r zero e within at =
    inr (record { index = 0; at = at; moved = omega arith })
at_put (x ∷ es) (suc i) r (suc k) e within at = elim (at_put es i r k e (omega arith) at) [
  | inl new ↦ inl (ap suc new.0, new.1)
  | inr old ↦ inr (old_later x es i k e old)
]

put_there : (es : List Event) (i : ℕ) (r : Event) → i ≤ length es
    → slice_get (take i es ++ r ∷ drop i es) i ≡ Some r
put_there es zero r within = refl
put_there [] (suc i) r within = absurd (omega arith)
put_there (x ∷ es) (suc i) r within = put_there es i r (omega arith)

kept_put : (es : List Event) (i : ℕ) (r : Event) (m : ℕ) (e : Event) → slice_get es m ≡ Some e
    → (k : ℕ) × (slice_get (take i es ++ r ∷ drop i es) k ≡ Some e)
kept_put es zero r m e at = (suc m, at)
kept_put [] (suc i) r m e at = absurd (none-some e at)
kept_put (x ∷ es) (suc i) r zero e at = (zero, at)
kept_put (x ∷ es) (suc i) r (suc m) e at = let rest = kept_put es i r m e at in (suc rest.0, rest.1)

-- WITH THE EVENT

module _ (p : Pid) (i : ℕ) (r : Event) (streams : List Stream) where
  abbrev longer : List Stream
  longer = more p i r streams

  -- each event of the longer streams is new or old
  pub is_placed : i ≤ length (events_of streams p) → (q : Pid) (k : ℕ) (e : Event)
      → event_at longer q k ≡ Some e
      → ((q ≡ p) × IsNew i r k e) ⊎ IsOld (events_of streams q) (pid_eq q p) i k e
  is_placed within q k e at = elim (pid_eq q p) as (λ b. pid_eq q p ≡ b
      → ((q ≡ p) × IsNew i r k e) ⊎ IsOld (events_of streams q) b i k e) [
        | false ↦ λ other. inr (record {
          index = k;
          at = ap (λ es. slice_get es k) (sym (others_with p i r streams q other)) ∙ at;
          moved = refl;
        })
        | true ↦ λ same.
            let who = pid_same q p same in
            let here = ap (λ x. event_at longer x k) (sym who) ∙ at in
            let own = own_with p i r streams (listed_with p i r streams p k e here) in
            subst (λ x. ((x ≡ p) × IsNew i r k e) ⊎ IsOld (events_of streams x) true i k e)
            (sym who)
            (elim (at_put (events_of streams p) i r k e within
            (ap (λ es. slice_get es k) (sym own) ∙ here)) [
              | inl new ↦ inl (refl, new)
              | inr old ↦ inr old
            ])
      ] refl

  pub stays : (q : Pid) (m : ℕ) (e : Event) → event_at streams q m ≡ Some e
      → (k : ℕ) × (event_at longer q k ≡ Some e)
  stays q m e at = elim (pid_eq q p) as (λ b. pid_eq q p ≡ b
      → (k : ℕ) × (event_at longer q k ≡ Some e)) [
        | false ↦ λ other.
            (m, ap (λ es. slice_get es m) (others_with p i r streams q other) ∙ at)
        | true ↦ λ same.
            let who = pid_same q p same in
            let here = ap (λ x. event_at streams x m) (sym who) ∙ at in
            let own = own_with p i r streams (listed_at streams p m e here) in
            let stay = kept_put (events_of streams p) i r m e here in (
              stay.0,
              ap (λ x. event_at longer x stay.0) who ∙ ap (λ es. slice_get es stay.0) own
                  ∙ stay.1,
            )
      ] refl

  pub new_there : i ≤ length (events_of streams p) → lists streams p ≡ true
      → event_at longer p i ≡ Some r
  new_there within there = ap (λ es. slice_get es i) (own_with p i r streams there)
      ∙ put_there (events_of streams p) i r within

module _ (p : Pid) (i : ℕ) (r : Event) (streams : List Stream)
    (within : i ≤ length (events_of streams p)) where
  -- a relation of any two events in turn holds with the new event if it held before, and holds
  -- between the new event and each of its process
  pub in_turn_with : (R : Event → Event → Type 0)
      → ((q : Pid) (j k : ℕ) (d e : Event) → j < k → event_at streams q j ≡ Some d
      → event_at streams q k ≡ Some e → R d e)
      → ((j : ℕ) (d : Event) → j < i → event_at streams p j ≡ Some d → R d r)
      → ((j : ℕ) (d : Event) → i ≤ j → event_at streams p j ≡ Some d → R r d)
      → (q : Pid) (j k : ℕ) (d e : Event) → j < k → event_at (more p i r streams) q j ≡ Some d
      → event_at (more p i r streams) q k ≡ Some e → R d e
  in_turn_with R old before after q j k d e less at_d at_e =
      elim (is_placed p i r streams within q j d at_d) [
        | inl new_d ↦ elim (is_placed p i r streams within q k e at_e) [
          | inl new_e ↦ let one = new_d.1.0 in let two = new_e.1.0 in absurd (omega arith)
          | inr old_e ↦
              let here = new_d.1.0 in
              let behind = moved_after i old_e.index k (subst (λ b. IsMoved b i old_e.index k)
              (ap (λ x. pid_eq x p) new_d.0 ∙ pid_eq-refl p) old_e.moved) (omega arith) in
              subst (λ x. R x e) new_d.1.1 (after old_e.index e behind
              (ap (λ x. event_at streams x old_e.index) (sym new_d.0) ∙ old_e.at))
        ]
        | inr old_d ↦ elim (is_placed p i r streams within q k e at_e) [
          | inl new_e ↦
              let here = new_e.1.0 in
              let ahead = moved_before i old_d.index j (subst (λ b. IsMoved b i old_d.index j)
              (ap (λ x. pid_eq x p) new_e.0 ∙ pid_eq-refl p) old_d.moved) (omega arith) in
              subst (λ x. R d x) new_e.1.1 (before old_d.index d ahead
              (ap (λ x. event_at streams x old_d.index) (sym new_e.0) ∙ old_d.at))
          | inr old_e ↦ old q old_d.index old_e.index d e
              (moved_order (pid_eq q p) i old_d.index old_e.index j k old_d.moved old_e.moved less)
              old_d.at old_e.at
        ]
      ]

  -- a relation of any two events holds with the new event if it held before, and holds between the
  -- new event and each one
  pub any_two_with : (R : Event → Event → Type 0)
      → ((q x : Pid) (j k : ℕ) (d e : Event) → event_at streams q j ≡ Some d
      → event_at streams x k ≡ Some e → R d e)
      → ((q : Pid) (j : ℕ) (d : Event) → event_at streams q j ≡ Some d → R d r × R r d) → R r r
      → (q x : Pid) (j k : ℕ) (d e : Event) → event_at (more p i r streams) q j ≡ Some d
      → event_at (more p i r streams) x k ≡ Some e → R d e
  any_two_with R old new itself q x j k d e at_d at_e =
      elim (is_placed p i r streams within q j d at_d) [
        | inl new_d ↦ elim (is_placed p i r streams within x k e at_e) [
          | inl new_e ↦ subst (λ y. R y e) new_d.1.1 (subst (λ y. R r y) new_e.1.1 itself)
          | inr old_e ↦ subst (λ y. R y e) new_d.1.1 (new x old_e.index e old_e.at).1
        ]
        | inr old_d ↦ elim (is_placed p i r streams within x k e at_e) [
          | inl new_e ↦ subst (λ y. R d y) new_e.1.1 (new q old_d.index d old_d.at).0
          | inr old_e ↦ old q x old_d.index old_e.index d e old_d.at old_e.at
        ]
      ]

-- the event fits in the streams if it is in turn: its serial rises; each receive of its message
-- agrees with it; and if it is a receive, it is the only one of its message and agrees with the
-- sender's stamp
pub record FitsIn (streams : List Stream) (p : Pid) (r : Event) : Type 0 where
  pub rises : r.serial.prev < r.serial.this
  pub taken : is_stamp r ≡ true → (q : Pid) (j : ℕ) (e : Event) → event_at streams q j ≡ Some e
      → is_stamp e ≡ false → e.from ≡ p → r.serial.this ≡ e.serial.this → agrees r e ≡ true
  pub fresh : is_stamp r ≡ false → (q : Pid) (j : ℕ) (e : Event) → event_at streams q j ≡ Some e
      → is_stamp e ≡ false → e.from ≡ r.from → e.serial.this ≡ r.serial.this → ⊥
  pub sent : is_stamp r ≡ false → (q : Pid) (j : ℕ) (f : Event) → event_at streams q j ≡ Some f
      → q ≡ r.from → is_stamp f ≡ true → f.serial.this ≡ r.serial.this → agrees f r ≡ true

module _ (p : Pid) (i : ℕ) (r : Event) (streams : List Stream)
    (within : i ≤ length (events_of streams p))
    (fit : FitTogether streams) (fits : FitsIn streams p r) where
  abbrev is : (q : Pid) (k : ℕ) (e : Event) → event_at (more p i r streams) q k ≡ Some e
      → ((q ≡ p) × IsNew i r k e) ⊎ IsOld (events_of streams q) (pid_eq q p) i k e
  is = is_placed p i r streams within

  -- each message is still received once
  once_with : (q x : Pid) (j k : ℕ) (d e : Event) → event_at (more p i r streams) q j ≡ Some d
      → event_at (more p i r streams) x k ≡ Some e → is_stamp d ≡ false → is_stamp e ≡ false
      → d.from ≡ e.from → d.serial.this ≡ e.serial.this → (q ≡ x) × (j ≡ k)
  once_with q x j k d e at_d at_e receives_d receives_e from count = elim (is q j d at_d) [
    | inl new_d ↦ elim (is x k e at_e) [
      | inl new_e ↦ (new_d.0 ∙ sym new_e.0, new_d.1.0 ∙ sym new_e.1.0)
      | inr old_e ↦ absurd (fits.fresh (ap is_stamp new_d.1.1 ∙ receives_d) x old_e.index e old_e.at
          receives_e
          (sym from ∙ ap (λ (y : Event). y.from) (sym new_d.1.1))
          (sym count ∙ ap (λ (y : Event). y.serial.this) (sym new_d.1.1)))
    ]
    | inr old_d ↦ elim (is x k e at_e) [
      | inl new_e ↦ absurd (fits.fresh (ap is_stamp new_e.1.1 ∙ receives_e) q old_d.index d old_d.at
          receives_d
          (from ∙ ap (λ (y : Event). y.from) (sym new_e.1.1))
          (count ∙ ap (λ (y : Event). y.serial.this) (sym new_e.1.1)))
      | inr old_e ↦
          let same = fit.once q x old_d.index old_e.index d e old_d.at old_e.at receives_d
          receives_e from count in
          let there : IsMoved (pid_eq q p) i old_d.index k =
          subst (λ m. IsMoved (pid_eq q p) i m k) (sym same.1)
          (subst (λ y. IsMoved (pid_eq y p) i old_e.index k) (sym same.0) old_e.moved) in
          (same.0, moved_same (pid_eq q p) i old_d.index j k old_d.moved there)
    ]
  ]

  -- each receive still agrees with its sender's stamp
  agree_with : (q : Pid) (k j : ℕ) (e f : Event) → event_at (more p i r streams) q k ≡ Some e
      → is_stamp e ≡ false → event_at (more p i r streams) e.from j ≡ Some f → is_stamp f ≡ true
      → f.serial.this ≡ e.serial.this → agrees f e ≡ true
  agree_with q k j e f at_e receives at_f stamps count = elim (is q k e at_e) [
    | inl new_e ↦ elim (is e.from j f at_f) [
      | inl new_f ↦ absurd (false≢true (sym receives ∙ ap is_stamp (sym new_e.1.1 ∙ new_f.1.1)
          ∙ stamps))
      | inr old_f ↦
          let same = new_e.1.1 in
          subst (λ (y : Event). agrees f y ≡ true) same
          (fits.sent (ap is_stamp same ∙ receives) e.from old_f.index f old_f.at
          (ap (λ (y : Event). y.from) (sym same))
          stamps (count ∙ ap (λ (y : Event). y.serial.this) (sym same)))
    ]
    | inr old_e ↦ elim (is e.from j f at_f) [
      | inl new_f ↦
          let same = new_f.1.1 in
          subst (λ (y : Event). agrees y e ≡ true) same
          (fits.taken (ap is_stamp same ∙ stamps) q old_e.index e old_e.at receives new_f.0
          (ap (λ (y : Event). y.serial.this) same ∙ count))
      | inr old_f ↦ fit.agree q old_e.index old_f.index e f old_e.at receives old_f.at stamps count
    ]
  ]

  -- any two events still fit if the stamps of each process are in turn
  pub fit_with : ((q : Pid) (j k : ℕ) (d e : Event) → j < k
      → event_at (more p i r streams) q j ≡ Some d → event_at (more p i r streams) q k ≡ Some e
      → is_stamp d ≡ true → is_stamp e ≡ true → d.serial.this < e.serial.this)
      → FitTogether (more p i r streams)
  fit_with grows = record {
    rises = λ q k e at. elim (is q k e at) [
      | inl new ↦ subst (λ (x : Event). x.serial.prev < x.serial.this) new.1.1 fits.rises
      | inr old ↦ fit.rises q old.index e old.at
    ];
    grows = grows;
    once = once_with;
    agree = agree_with;
  }

-- STREAMS STILL

pub all_from : {X : Type 0} (P : X → Type 0) (xs : List X)
    → ((k : ℕ) (x : X) → slice_get xs k ≡ Some x → P x) → AllByRecursion P xs
all_from P [] each = tt
all_from P (x ∷ xs) each = (each 0 x refl, all_from P xs (λ k y at. each (suc k) y at))

all_put : {X : Type 0} (P : X → Type 0) (i : ℕ) (x : X) (xs : List X) → AllByRecursion P xs → P x
    → AllByRecursion P (take i xs ++ x ∷ drop i xs)
all_put P zero x xs all here = (here, all)
all_put P (suc i) x [] all here = (here, tt)
all_put P (suc i) x (y ∷ xs) all here = (all.0, all_put P i x xs all.1 here)

pub reports_of : (streams : List Stream) → IsStreams streams → AreReports (pids_of streams) streams
reports_of streams sound = along streams (all_found streams sound.draft.rising)
  where
    each : (p : Pid) (i : ℕ) (e : Event) → event_at streams p i ≡ Some e
        → IsReportAmong (pids_of streams) p e
    each p i e at = record {
      own = own_at streams p i e sound.draft.own at;
      names = sym (names_among_listed streams e) ∙ named streams sound p i e at;
    }

    along : (some : List Stream) → AreFound streams some → AreReports (pids_of streams) some
    along [] found = tt
    along (x ∷ some) found = (
      all_from (IsReportAmong (pids_of streams) x.pid) x.events (λ k e at. each x.pid k e
          (ap (λ es. slice_get es k) found.0 ∙ at)),
      along some found.1,
    )

pub sound_of : (streams : List Stream) → IsRising (pids_of streams)
    → AreReports (pids_of streams) streams → IsStreams streams
sound_of streams rising reports = record {
  draft = record { rising = rising; own = are_own (pids_of streams) streams reports };
  listed = unlisted_none streams streams reports;
}

module _ (p : Pid) (i : ℕ) (r : Event) (pids : List Pid) (report : IsReportAmong pids p r) where
  put_reports : (streams : List Stream) → AreReports pids streams
      → AreReports pids (more p i r streams)
  put_reports [] all = tt
  put_reports (x ∷ streams) all = (
    elim (pid_eq x.pid p) as (λ b. pid_eq x.pid p ≡ b → AllByRecursion (IsReportAmong pids x.pid)
        (cond b (take i x.events ++ r ∷ drop i x.events) x.events)) [
          | true ↦ λ same. all_put (IsReportAmong pids x.pid) i r x.events all.0
              (subst (λ q. IsReportAmong pids q r) (sym (pid_same x.pid p same)) report)
          | false ↦ λ _. all.0
        ] refl,
    put_reports streams all.1,
  )

pub sound_with : (p : Pid) (i : ℕ) (r : Event) (streams : List Stream) → IsStreams streams
    → IsReportAmong (pids_of streams) p r → IsStreams (more p i r streams)
sound_with p i r streams sound report =
    let longer = more p i r streams in
    let same = sym (with_pids p i r streams) in
    sound_of longer (subst IsRising same sound.draft.rising)
    (subst (λ ps. AreReports ps longer) same (put_reports p i r (pids_of streams) report streams
    (reports_of streams sound)))
