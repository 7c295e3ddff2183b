-- Each receive can get its send: a hidden send goes right after the last stamp of its process with
-- a lower count, or before all events of its process. So stamps stay in turn, and if the send's
-- prev is 0, all events before it are stamps with prev 0.
use Rattle.std.proofs.Common.{[], ◌≡◌, ◌≢◌, ◌⊎◌, inl, inr, ℕ, zero, suc, ◌<◌, ◌≤◌, ◌&&◌, nat_lt}
use Rattle.std.proofs.Common.{Bool, true, false, List, ◌∷◌, ◌++◌, map, length, Option, Some, None}
use Rattle.std.proofs.Common.{cond, is_some, slice_get, refl, sym, ◌∙◌, ap, subst, arith}
use Rattle.std.specs.List.{AllByRecursion}
use Rattle.std.specs.Option.{option_map_or}
use Rattle.std.proofs.lemmas.Bool.{and_from, and_parts, cases_lt, false≢true, ltb-false, ltb-true}
use Rattle.std.proofs.lemmas.Option.{none-some, same_Some}
use Rattle.st_core.specs.declared.types.Pid.{Pid}
use Rattle.st_core.specs.declared.types.Event.{Event}
use Rattle.st_core.specs.Pid.{pid_eq}
use Rattle.st_core.specs.Run.{Stream}
use Rattle.st_core.specs.Streams.{events_of, lists, stream_of}
use Rattle.st_core.specs.declared.types.Kind.TheVariants as kind
use Rattle.st_core.proofs.ForCallers.{all_at, names_among_listed, pid_eq-refl}
use Rattle.st_pair.specs.Places.{event_at, is_stamp}
use Rattle.st_pair.specs.Pairing.{agrees, stamp_of}
use Rattle.st_pair.proofs.ForCallers.{agrees_if, events_in}
use Rattle.st_order.proofs.ForCallers.{all_append, all_found, all_left, all_right, AreFound}
use Rattle.st_plan.specs.Marks.{all_streams, told_streams, Whole}
use Rattle.st_plan.proofs.ForCallers.{named}
use Rattle.lack_laws.proofs.InsertedEvents.{is_placed, more, new_there, stays, all_from}
use Rattle.lack_laws.proofs.AcceptedStreams.{HasStamp, none_stamped, stamp_if, own_at, received_to}
use Rattle.lack_laws.proofs.AcceptedStreams.{stamper}
use Rattle.lack_laws.proofs.OpenStreams.{AreSent, CanJoin, IsOpen, Leads, open_with, stamp_stays}
use Rattle.lack_laws.proofs.NeedlessStreams.{all_same, marks_all, told_same}
use Rattle.lack_laws.proofs.ToldEvents.{put, put_more, put_told}

-- THE PLACE

-- event k - 1 is a stamp with a count below v
pub record IsLastBelow (v : ℕ) (es : List Event) (k : ℕ) : Type 0 where
  pub index : ℕ
  pub next : k ≡ suc index
  pub event : Event
  pub at : slice_get es index ≡ Some event
  pub stamps : is_stamp event ≡ true
  pub low : event.serial.this < v

pub IsAbove : ℕ → List Event → ℕ → Type 0
IsAbove v es k = (j : ℕ) (d : Event) → k ≤ j → slice_get es j ≡ Some d → is_stamp d ≡ true
    → v ≤ d.serial.this

-- a place among these events for a send of count v
pub record IsSendPlace (v : ℕ) (es : List Event) : Type 0 where
  pub index : ℕ
  pub inside : index ≤ length es
  pub above : IsAbove v es index
  pub before : (index ≡ 0) ⊎ IsLastBelow v es index

above_next : (v : ℕ) (d : Event) (es : List Event) (k : ℕ) → IsAbove v es k
    → IsAbove v (d ∷ es) (suc k)
unfolding IsAbove
above_next v d es k above zero e less at stamps = absurd (omega arith)
above_next v d es k above (suc j) e less at stamps = above j e (omega arith) at stamps

above_all : (v : ℕ) (d : Event) (es : List Event) → (is_stamp d ≡ true → v ≤ d.serial.this)
    → IsAbove v es 0 → IsAbove v (d ∷ es) 0
unfolding IsAbove
above_all v d es here above zero e less at stamps =
    let same = same_Some d e at in
    subst (λ (x : Event). v ≤ x.serial.this) same (here (ap is_stamp same ∙ stamps))
above_all v d es here above (suc j) e less at stamps = above j e (omega arith) at stamps

not_low : (v this : ℕ) (stamp : Bool) → (stamp && nat_lt this v) ≡ false → stamp ≡ true → v ≤ this
not_low v this true test is = ltb-false this v test
not_low v this false test is = absurd (false≢true is)

place_of : (v : ℕ) (es : List Event) → IsSendPlace v es
unfolding IsAbove
place_of v [] = record {
  index = 0;
  inside = omega arith;
  above = λ j d less at stamps. absurd (none-some d at);
  before = inl refl;
}
place_of v (d ∷ es) =
    let rest = place_of v es in
    let inside = rest.inside in
    elim rest.before [
      | inr last ↦
          let next = last.next in
          record {
            index = suc rest.index;
            inside = omega arith;
            above = above_next v d es rest.index rest.above;
            before = inr (record {
              index = suc last.index;
              next = omega arith;
              event = last.event;
              at = last.at;
              stamps = last.stamps;
              low = last.low;
            });
          }
      | inl first ↦
          let above : IsAbove v es 0 = subst (IsAbove v es) first rest.above in
          elim (is_stamp d && nat_lt d.serial.this v)
          as (λ b. (is_stamp d && nat_lt d.serial.this v) ≡ b → IsSendPlace v (d ∷ es)) [
            | true ↦ λ test.
                let parts = and_parts (is_stamp d) (nat_lt d.serial.this v) test in
                record {
                  index = 1;
                  inside = omega arith;
                  above = above_next v d es 0 above;
                  before = inr (record {
                    index = 0;
                    next = refl;
                    event = d;
                    at = refl;
                    stamps = parts.0;
                    low = ltb-true d.serial.this v parts.1;
                  });
                }
            | false ↦ λ test. record {
              index = 0;
              inside = omega arith;
              above = above_all v d es (not_low v d.serial.this (is_stamp d) test) above;
              before = inl refl;
            }
          ] refl
    ]

-- ONE SEND

module _ (top : ℕ) (streams : List Stream) (good : IsOpen top streams) (p : Pid) (i : ℕ)
    (e : Event) (at : event_at streams p i ≡ Some e) (receives : is_stamp e ≡ false)
    (unsent : stamp_of streams e.from e.serial.this ≡ None) where
  abbrev q : Pid
  q = e.from

  abbrev v : ℕ
  v = e.serial.this

  abbrev pub send : Event
  send = record e { kind = kind.Send }

  pub place : IsSendPlace v (events_of streams q)
  place = place_of v (events_of streams q)

  abbrev pub index : ℕ
  index = place.index

  from_q : (j : ℕ) (d : Event) → event_at streams q j ≡ Some d → is_stamp d ≡ true → d.from ≡ q
  from_q j d at_d stamps =
      stamper d.kind d.from d.to q stamps (own_at streams q j d good.sound.draft.own at_d)

  behind : (j : ℕ) (d : Event) → j < index → event_at streams q j ≡ Some d → Leads d send
  behind j d less at_d _ = elim place.before [
    | inl first ↦ absurd (omega arith)
    | inr last ↦
        let next = last.next in
        let low = last.low in
        let root : e.serial.prev ≡ 0 → last.event.serial.prev ≡ 0 =
        λ none. good.roots q p last.index i last.event e last.at at none
        (from_q last.index last.event last.at last.stamps) last.low in
        elim (cases_lt j last.index) [
          | inl earlier ↦
              let lead = good.leads q j last.index d last.event earlier at_d last.at last.stamps in
              (omega (arith, lead.0), λ none. lead.1 (root none))
          | inr not_earlier ↦
              let here : j ≡ last.index = omega arith in
              let same = same_Some last.event d (sym last.at
              ∙ ap (event_at streams q) (sym here) ∙ at_d) in (
                subst (λ (x : Event). x.serial.this < v) same last.low,
                λ _. ap is_stamp (sym same) ∙ last.stamps,
              )
        ]
  ]

  ahead : (j : ℕ) (d : Event) → index ≤ j → event_at streams q j ≡ Some d → Leads send d
  unfolding IsAbove
  ahead j d less at_d stamps =
      let above = place.above j d less at_d stamps in
      let other : d.serial.this ≢ v = λ same. none_stamped streams q v unsent (record {
        index = j;
        event = d;
        at = at_d;
        stamps = stamps;
        count = same;
      }) in
      elim (cases_lt v d.serial.this) [
        | inl more ↦ (more, λ _. refl)
        | inr not_more ↦ absurd (other (omega arith))
      ]

  taken : (x : Pid) (j : ℕ) (d : Event) → event_at streams x j ≡ Some d → is_stamp d ≡ false
      → d.from ≡ q → v ≡ d.serial.this → agrees send d ≡ true
  taken x j d at_d receives_d from count =
      let one = good.fit.once p x i j e d at at_d receives receives_d (sym from) count in
      let same = same_Some e d (sym at ∙ ap (λ y. event_at streams y i) one.0
      ∙ ap (event_at streams x) one.1 ∙ at_d) in
      subst (λ (y : Event). agrees send y ≡ true) same (agrees_if send e
      (record { sends = refl; label = refl; prev = refl; to = refl; value = refl }))

  listed : lists streams q ≡ true
  listed = (and_parts (lists streams e.from) (option_map_or (lists streams) e.to true)
      (named streams good.sound p i e at)).0

  joins : CanJoin top streams q index send
  joins = record {
    inside = place.inside;
    report = record {
      own = and_from (pid_eq q q) (is_some e.to) (pid_eq-refl q) (ap (λ (o : Option Pid). is_some o)
          (received_to e.kind e.from e.to p receives
          (own_at streams p i e good.sound.draft.own at)));
      names = sym (names_among_listed streams e) ∙ named streams good.sound p i e at;
    };
    fits = record {
      rises = good.fit.rises p i e at;
      taken = λ _ x j d at_d receives_d from count. taken x j d at_d receives_d from count;
      fresh = λ never. absurd (false≢true (sym never));
      sent = λ never. absurd (false≢true (sym never));
    };
    behind = behind;
    ahead = ahead;
    roots = λ x j d at_d. (good.roots x p j i d e at_d at, good.roots p x i j e d at at_d);
    high = good.within p i e at;
  }

  pub open_sent : IsOpen top (more q index send streams)
  open_sent = open_with top streams good q index send joins

  pub sent_now : HasStamp (more q index send streams) q v
  sent_now = record {
    index = index;
    event = send;
    at = new_there q index send streams joins.inside listed;
    stamps = refl;
    count = refl;
  }

  pub old_receive : (x : Pid) (k : ℕ) (d : Event)
      → event_at (more q index send streams) x k ≡ Some d → is_stamp d ≡ false
      → (j : ℕ) × (event_at streams x j ≡ Some d)
  old_receive x k d at_d receives_d =
      elim (is_placed q index send streams joins.inside x k d at_d) [
        | inl new ↦ absurd (false≢true (sym receives_d ∙ ap is_stamp (sym new.1.1)))
        | inr old ↦ (old.index, old.at)
      ]

-- ALL OF THEM

pub record IsEvent (streams : List Stream) (e : Event) : Type 0 where
  pub pid : Pid
  pub index : ℕ
  pub at : event_at streams pid index ≡ Some e

-- whole streams to which the sends of these receives were added
pub record HasSends (top : ℕ) (wholes : List Whole) (es : List Event) : Type 0 where
  pub all : List Whole
  pub told : told_streams all ≡ told_streams wholes
  pub good : IsOpen top (all_streams all)
  pub old : (e : Event) → IsEvent (all_streams all) e → is_stamp e ≡ false
      → IsEvent (all_streams wholes) e
  pub stay : (q : Pid) (v : ℕ) → HasStamp (all_streams wholes) q v → HasStamp (all_streams all) q v
  pub sent : AllByRecursion (λ e. is_stamp e ≡ false
      → HasStamp (all_streams all) e.from e.serial.this) es

events_stay : (q : Pid) (k : ℕ) (f : Event) (streams : List Stream) (es : List Event)
    → AllByRecursion (IsEvent streams) es → AllByRecursion (IsEvent (more q k f streams)) es
events_stay q k f streams [] there = tt
events_stay q k f streams (e ∷ es) there =
    let stay = stays q k f streams there.0.pid there.0.index e there.0.at in (
      record { pid = there.0.pid; index = stay.0; at = stay.1 },
      events_stay q k f streams es there.1,
    )

module _ (top : ℕ) where
  sends_skip : (wholes : List Whole) (e : Event) (es : List Event) → HasSends top wholes es
      → (is_stamp e ≡ false → HasStamp (all_streams wholes) e.from e.serial.this)
      → HasSends top wholes (e ∷ es)
  sends_skip wholes e es has here = record {
    all = has.all;
    told = has.told;
    good = has.good;
    old = has.old;
    stay = has.stay;
    sent = (λ receives. has.stay e.from e.serial.this (here receives), has.sent);
  }

  -- the send of e is put in first, and those of the other receives after it
  send_first : (wholes : List Whole) (e : Event) (es : List Event)
      → (good : IsOpen top (all_streams wholes))
      → AllByRecursion (IsEvent (all_streams wholes)) (e ∷ es) → is_stamp e ≡ false
      → stamp_of (all_streams wholes) e.from e.serial.this ≡ None
      → ((ws : List Whole) → IsOpen top (all_streams ws)
      → AllByRecursion (IsEvent (all_streams ws)) es → HasSends top ws es)
      → HasSends top wholes (e ∷ es)
  send_first wholes e es good there receives unsent rest =
      let streams = all_streams wholes in
      let p = there.0.pid in
      let i = there.0.index in
      let at = there.0.at in
      let f = send top streams good p i e at receives unsent in
      let k = index top streams good p i e at receives unsent in
      let longer = more e.from k f streams in
      let ws = map (put e.from k f) wholes in
      let same : all_streams ws ≡ longer = put_more e.from k f wholes in
      let has = rest ws
      (subst (IsOpen top) (sym same) (open_sent top streams good p i e at receives unsent))
      (subst (λ ss. AllByRecursion (IsEvent ss) es) (sym same)
      (events_stay e.from k f streams es there.1)) in
      let stay : (x : Pid) (v : ℕ) → HasStamp streams x v → HasStamp (all_streams has.all) x v =
      λ x v s. has.stay x v (subst (λ ss. HasStamp ss x v) (sym same)
      (stamp_stays e.from k f streams x v s)) in
      record {
        all = has.all;
        told = has.told ∙ put_told e.from k f wholes;
        good = has.good;
        old = λ d is receives_d.
            let old = subst (λ ss. IsEvent ss d) same (has.old d is receives_d) in
            let was = old_receive top streams good p i e at receives unsent old.pid old.index d
            old.at receives_d in
            record { pid = old.pid; index = was.0; at = was.1 };
        stay = stay;
        sent = (
          λ _. has.stay e.from e.serial.this (subst (λ ss. HasStamp ss e.from e.serial.this)
              (sym same) (sent_now top streams good p i e at receives unsent)),
          has.sent,
        );
      }

  all_sends : (es : List Event) (wholes : List Whole) → IsOpen top (all_streams wholes)
      → AllByRecursion (IsEvent (all_streams wholes)) es → HasSends top wholes es
  all_sends [] wholes good there = record {
    all = wholes;
    told = refl;
    good = good;
    old = λ e is _. is;
    stay = λ q v s. s;
    sent = tt;
  }
  all_sends (e ∷ es) wholes good there =
      let streams = all_streams wholes in
      elim (is_stamp e) as (λ b. is_stamp e ≡ b → HasSends top wholes (e ∷ es)) [
        | true ↦ λ stamps. sends_skip wholes e es (all_sends es wholes good there.1)
            (λ receives. absurd (false≢true (sym receives ∙ stamps)))
        | false ↦ λ receives. elim (stamp_of streams e.from e.serial.this)
            as (λ o. stamp_of streams e.from e.serial.this ≡ o → HasSends top wholes (e ∷ es)) [
              | Some f ↦ λ is. sends_skip wholes e es (all_sends es wholes good there.1)
                  (λ _. (stamp_if streams e.from e.serial.this f is).0)
              | None ↦ λ unsent. send_first wholes e es good there receives unsent (all_sends es)
            ] refl
      ] refl

-- EACH EVENT OF THE STREAMS

abbrev events_in_all : List Stream → List Event
events_in_all [] = []
events_in_all (x ∷ rest) = x.events ++ events_in_all rest

are_events : (all some : List Stream) → AreFound all some
    → AllByRecursion (IsEvent all) (events_in_all some)
are_events all [] found = tt
are_events all (x ∷ rest) found = all_append (IsEvent all) x.events (events_in_all rest)
    (all_from (IsEvent all) x.events (λ k e at. record {
      pid = x.pid;
      index = k;
      at = ap (λ es. slice_get es k) found.0 ∙ at;
    }))
    (are_events all rest found.1)

of_each : (P : Event → Type 0) (streams : List Stream) → AllByRecursion P (events_in_all streams)
    → (e : Event) (p : Pid) (i : ℕ) → event_at streams p i ≡ Some e → P e
of_each P [] all e p i at = absurd (none-some e at)
of_each P (x ∷ rest) all e p i at =
    elim (pid_eq x.pid p) as (λ b. slice_get (events_in (cond b (Some x) (stream_of rest p))) i
    ≡ Some e → P e) [
      | true ↦ λ at. all_at P x.events i e (all_left P x.events (events_in_all rest) all) at
      | false ↦ λ at. of_each P rest (all_right P x.events (events_in_all rest) all) e p i at
    ] at

-- whole streams whose told events are the streams, and in which each receive has its send
pub record IsSent (top : ℕ) (streams : List Stream) : Type 0 where
  pub wholes : List Whole
  pub told : told_streams wholes ≡ streams
  pub good : IsOpen top (all_streams wholes)
  pub sent : AreSent (all_streams wholes)

pub with_sends : (top : ℕ) (streams : List Stream) → IsOpen top streams → IsSent top streams
with_sends top streams good =
    let wholes = map marks_all streams in
    let same = all_same streams in
    let has = all_sends top (events_in_all streams) wholes (subst (IsOpen top) (sym same) good)
    (subst (λ ss. AllByRecursion (IsEvent ss) (events_in_all streams)) (sym same)
    (are_events streams streams (all_found streams good.sound.draft.rising))) in
    record {
      wholes = has.all;
      told = has.told ∙ told_same streams;
      good = has.good;
      sent = λ p i e at receives.
          let is = has.old e (record { pid = p; index = i; at = at }) receives in
          let was = subst (λ ss. IsEvent ss e) same is in
          of_each (λ d. is_stamp d ≡ false → HasStamp (all_streams has.all) d.from d.serial.this)
          streams has.sent e was.pid was.index was.at receives;
    }
