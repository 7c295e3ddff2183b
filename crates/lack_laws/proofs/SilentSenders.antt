-- Each stamp that needs a receive gets one from a process of its own, which reported nothing and
-- sends one message, whose count is the stamp's prev; its receive goes right before the stamp. The
-- events of each process are gone through in turn until nothing is needed.
use Rattle.std.proofs.Common.{[], Bool, ◌≡◌, inl, inr, ℕ, zero, suc, ◌<◌, ◌≤◌, ◌==◌, ◌&&◌, ◌||◌}
use Rattle.std.proofs.Common.{nat_lt, true, false, not, cond, List, ◌∷◌, ◌++◌, map, take, drop}
use Rattle.std.proofs.Common.{length, Some, slice_get, append-nil, append_assoc, refl, sym, ◌∙◌, ap}
use Rattle.std.proofs.Common.{subst, arith}
use Rattle.std.specs.Option.{option_map_or}
use Rattle.std.proofs.Math.Seq.{drop-append_seam, take-append_seam}
use Rattle.std.proofs.lemmas.Bool.{and_from, and_parts, cases_lt, eq-eqb, false_from_ne_true}
use Rattle.std.proofs.lemmas.Bool.{false≢true}
use Rattle.std.proofs.lemmas.Option.{none-some, same_Some, slice_get_within}
use Rattle.st_core.specs.declared.types.Pid.{Pid}
use Rattle.st_core.specs.declared.types.Event.{Event}
use Rattle.st_core.specs.Laws.{greatest_count, prev_after}
use Rattle.st_core.specs.Pid.{pid_eq}
use Rattle.st_core.specs.Run.{Stream, pids_of}
use Rattle.st_core.specs.Streams.{events_of, is_among, lists}
use Rattle.st_core.specs.declared.types.Kind.TheVariants as kind
use Rattle.st_core.proofs.ForCallers.{lists_among, pid_eq-refl, pid_eq-swap, pid_same, prev_push}
use Rattle.st_pair.specs.Places.{event_at, is_stamp}
use Rattle.st_pair.specs.Pairing.{agrees}
use Rattle.st_pair.proofs.ForCallers.{agrees_if}
use Rattle.st_plan.specs.Marks.{all_streams, told_streams, Whole, told_events}
use Rattle.st_plan.proofs.ForCallers.{leaves, named}
use Rattle.lack_laws.specs.Needs.{is_need}
use Rattle.lack_laws.specs.Silent.{inserted, with_silent}
use Rattle.lack_laws.proofs.SilentStreams.{fresh, fresh_unlisted, events_inserted, lists_inserted}
use Rattle.lack_laws.proofs.SilentStreams.{still_listed}
use Rattle.lack_laws.proofs.InsertedEvents.{is_placed, listed_at, more, new_there, with_pids}
use Rattle.lack_laws.proofs.InsertedEvents.{own_with, others_with, unlisted_events}
use Rattle.lack_laws.proofs.OpenStreams.{AreSent, CanJoin, IsOpen, Leads, open_silent, open_with}
use Rattle.lack_laws.proofs.OpenStreams.{sent_silent, sent_with, there_before}
use Rattle.lack_laws.proofs.AcceptedStreams.{own_at, stamper}
use Rattle.lack_laws.proofs.ToldEvents.{told_pids, by_inserted, put, put_more, put_told}
use Rattle.lack_laws.proofs.ToldEvents.{whole_inserted, events}

-- ONE NEED

module _ (top : ℕ) (streams : List Stream) (good : IsOpen top streams) (p : Pid) (i : ℕ)
    (e : Event) (at : event_at streams p i ≡ Some e) (stamps : is_stamp e ≡ true)
    (some : 0 < e.serial.prev) (z : Pid) (unlisted : lists streams z ≡ false) where
  abbrev v : ℕ
  v = e.serial.prev

  abbrev pub send : Event
  send = record {
    label = e.label;
    kind = kind.Send;
    serial = record { prev = 0; this = v };
    from = z;
    to = Some p;
    value = 0;
  }

  abbrev pub receive : Event
  receive = record send { kind = kind.Receive }

  abbrev silent_there : List Stream
  silent_there = inserted z streams

  abbrev sent : List Stream
  sent = more z 0 send silent_there

  abbrev pub fed : List Stream
  fed = more p i receive sent

  open_there : IsOpen top silent_there
  open_there = open_silent top streams z unlisted good

  listed : lists streams p ≡ true
  listed = listed_at streams p i e at

  pub apart : pid_eq p z ≡ false
  apart = false_from_ne_true (pid_eq p z) (λ same. false≢true (sym unlisted
      ∙ ap (lists streams) (sym (pid_same p z same)) ∙ listed))

  empty : events_of silent_there z ≡ []
  empty = events_inserted z streams unlisted z ∙ unlisted_events streams z unlisted

  nothing : (j : ℕ) (d : Event) → event_at silent_there z j ≡ Some d → ⊥
  nothing j d at_d = none-some d (ap (λ es. slice_get es j) (sym empty) ∙ at_d)

  not_from : (q : Pid) (j : ℕ) (f : Event) → event_at silent_there q j ≡ Some f → f.from ≡ z → ⊥
  not_from q j f at_f from =
      false≢true (sym unlisted ∙ ap (lists streams) (sym from)
      ∙ (and_parts (lists streams f.from) (option_map_or (lists streams) f.to true)
      (named streams good.sound q j f (there_before top streams z unlisted q j f at_f))).0)

  z_there : lists silent_there z ≡ true
  z_there = lists_inserted z streams z ∙ ap (λ b. b || lists streams z) (pid_eq-refl z)

  p_there : lists silent_there p ≡ true
  p_there = still_listed z streams p listed

  both_named : (is_among (pids_of silent_there) z && is_among (pids_of silent_there) p) ≡ true
  both_named = and_from (is_among (pids_of silent_there) z) (is_among (pids_of silent_there) p)
      (sym (lists_among silent_there z) ∙ z_there) (sym (lists_among silent_there p) ∙ p_there)

  high : v ≤ top
  high =
      omega (arith, good.fit.rises p i e at, good.within p i e at)

  joins_sent : CanJoin top silent_there z 0 send
  joins_sent = record {
    inside = omega arith;
    report = record { own = and_from (pid_eq z z) true (pid_eq-refl z) refl; names = both_named };
    fits = record {
      rises = some;
      taken = λ _ q j d at_d _ from. absurd (not_from q j d at_d from);
      fresh = λ never. absurd (false≢true (sym never));
      sent = λ never. absurd (false≢true (sym never));
    };
    behind = λ j d less. absurd (omega arith);
    ahead = λ j d _ at_d. absurd (nothing j d at_d);
    roots = λ q j d at_d. (
      λ _ from. absurd (not_from q j d at_d from),
      λ _ from. absurd (not_from q j d at_d (sym from)),
    );
    high = high;
  }

  open_sent : IsOpen top sent
  open_sent = open_with top silent_there open_there z 0 send joins_sent

  others_sent : (q : Pid) → pid_eq q z ≡ false → events_of sent q ≡ events_of streams q
  others_sent q other =
      others_with z 0 send silent_there q other ∙ events_inserted z streams unlisted q

  at_sent : event_at sent p i ≡ Some e
  at_sent = ap (λ es. slice_get es i) (others_sent p apart) ∙ at

  only : (q : Pid) (k : ℕ) (f : Event) → event_at sent q k ≡ Some f → f.from ≡ z → send ≡ f
  only q k f at_f from = elim (is_placed z 0 send silent_there joins_sent.inside q k f at_f) [
    | inl new ↦ new.1.1
    | inr old ↦ absurd (not_from q old.index f old.at from)
  ]

  own_stamp : (q : Pid) (k : ℕ) (f : Event) → event_at sent q k ≡ Some f → is_stamp f ≡ true
      → f.from ≡ q
  own_stamp q k f at_f stamps_f =
      stamper f.kind f.from f.to q stamps_f (own_at sent q k f open_sent.sound.draft.own at_f)

  inside : i ≤ length (events_of sent p)
  inside = let less = slice_get_within (events_of sent p) i e at_sent in omega arith

  -- each stamp after the need has a higher count, and another prev than 0
  ahead : (j : ℕ) (d : Event) → i ≤ j → event_at sent p j ≡ Some d → Leads receive d
  ahead j d less at_d stamps_d =
      let rise = good.fit.rises p i e at in
      elim (cases_lt i j) [
        | inl later ↦
            let lead = open_sent.leads p i j e d later at_sent at_d stamps_d in
            let higher = lead.0 in (
              omega arith,
              λ none.
                  let from = own_stamp p i e at_sent stamps ∙ sym (own_stamp p j d at_d stamps_d) in
                  absurd (omega (arith, open_sent.roots p p i j e d at_sent at_d none from lead.0)),
            )
        | inr not_later ↦
            let here : i ≡ j = omega arith in
            let same = same_Some e d (sym at_sent ∙ ap (event_at sent p) here ∙ at_d) in
            subst (λ (x : Event). (v < x.serial.this)
            × (x.serial.prev ≡ 0 → is_stamp receive ≡ true)) same
            (rise, λ none. absurd (omega arith))
      ]

  joins_fed : CanJoin top sent p i receive
  joins_fed = record {
    inside = inside;
    report = record {
      own = pid_eq-refl p;
      names = subst (λ ps. (is_among ps z && is_among ps p) ≡ true)
          (sym (with_pids z 0 send silent_there)) both_named;
    };
    fits = record {
      rises = some;
      taken = λ never. absurd (false≢true never);
      fresh = λ _ q j d at_d receives_d from _. false≢true (sym receives_d
          ∙ ap is_stamp (sym (only q j d at_d from)));
      sent = λ _ q j f at_f who stamps_f _. subst (λ (x : Event). agrees x receive ≡ true)
          (only q j f at_f (own_stamp q j f at_f stamps_f ∙ who))
          (agrees_if send receive
          (record { sends = refl; label = refl; prev = refl; to = refl; value = refl }));
    };
    behind = λ j d less at_d never. absurd (false≢true never);
    ahead = ahead;
    roots = λ q j d at_d. (
      λ _ from less.
          let count = ap (λ (x : Event). x.serial.this) (only q j d at_d from) in
          absurd (omega arith),
      λ _ from less.
          let count = ap (λ (x : Event). x.serial.this) (only q j d at_d (sym from)) in
          absurd (omega arith),
    );
    high = high;
  }

  pub open_fed : IsOpen top fed
  open_fed = open_with top sent open_sent p i receive joins_fed

  pub sent_fed : AreSent streams → AreSent fed
  sent_fed each =
      let before = sent_with z 0 send silent_there joins_sent.inside
      (sent_silent top streams z unlisted each) (λ never. absurd (false≢true (sym never))) in
      sent_with p i receive sent inside before (λ _. record {
        index = 0;
        event = send;
        at = new_there z 0 send silent_there joins_sent.inside z_there;
        stamps = refl;
        count = refl;
      })

  p_sent : lists sent p ≡ true
  p_sent = listed_at sent p i e at_sent

  pub events_fed : events_of fed p
      ≡ take i (events_of streams p) ++ receive ∷ drop i (events_of streams p)
  events_fed =
      own_with p i receive sent p_sent
      ∙ ap (λ es. take i es ++ receive ∷ drop i es) (others_sent p apart)

  -- each other process has its old events, or is the new one
  pub kept : (P : List Event → Type 0) → P (send ∷ []) → (q : Pid) → pid_eq q p ≡ false
      → P (events_of streams q) → P (events_of fed q)
  kept P new q other before = subst P (sym (others_with p i receive sent q other))
      (elim (pid_eq q z) as (λ b. pid_eq q z ≡ b → P (events_of sent q)) [
        | false ↦ λ old. subst P (sym (others_sent q old)) before
        | true ↦ λ same.
            let now : events_of sent z ≡ send ∷ [] =
            own_with z 0 send silent_there z_there ∙ ap (λ es. send ∷ es) empty in
            subst (λ x. P (events_of sent x)) (sym (pid_same q z same)) (subst P (sym now) new)
      ] refl)

-- WHAT EVENTS NEED

-- none of the events is a need, given those before it
abbrev pub AreCaused : List Event → List Event → Type 0
AreCaused before [] = Unit {0}
AreCaused before (e ∷ es) = (is_need before e ≡ false) × AreCaused (before ++ e ∷ []) es

pub caused_at : (before es : List Event) → AreCaused before es → (i : ℕ) (e : Event)
    → slice_get es i ≡ Some e → is_need (before ++ take i es) e ≡ false
caused_at before [] caused i e at = absurd (none-some e at)
caused_at before (d ∷ es) caused zero e at =
    ap (is_need (before ++ [])) (sym (same_Some d e at))
    ∙ ap (λ xs. is_need xs d) (append-nil before) ∙ caused.0
caused_at before (d ∷ es) caused (suc i) e at =
    ap (λ xs. is_need xs e) (sym (append_assoc before (d ∷ []) (take i es)))
    ∙ caused_at (before ++ d ∷ []) es caused.1 i e at

caused_push : (before es : List Event) (e : Event) → AreCaused before es
    → is_need (before ++ es) e ≡ false → AreCaused before (es ++ e ∷ [])
caused_push before [] e caused none =
    (ap (λ xs. is_need xs e) (sym (append-nil before)) ∙ none, tt)
caused_push before (d ∷ es) e caused none = (
  caused.0,
  caused_push (before ++ d ∷ []) es e caused.1
      (ap (λ xs. is_need xs e) (append_assoc before (d ∷ []) es) ∙ none),
)

no_need : (xs : List Event) (e : Event) → is_stamp e ≡ false → is_need xs e ≡ false
no_need xs e receives =
    ap (λ b. b && (not (e.serial.prev == prev_after xs)
    && nat_lt e.serial.prev (greatest_count xs)))
    receives

both_false : (a b : Bool) → (a && (false && b)) ≡ false
both_false true b = refl
both_false false b = refl

-- a need is met by a receive with its prev as count right before it
caused_fed : (front : List Event) (r e : Event) → is_stamp r ≡ false
    → r.serial.this ≡ e.serial.prev → AreCaused [] front → AreCaused [] (front ++ r ∷ e ∷ [])
caused_fed front r e receives count caused =
    let prev = e.serial.prev in
    let before = front ++ r ∷ [] in
    let low = nat_lt prev (greatest_count before) in
    let left : prev_after before ≡ prev =
    prev_push front r ∙ sym (leaves r)
    ∙ ap (λ b. cond (not b) r.serial.this r.serial.prev) receives ∙ count in
    let none : is_need before e ≡ false =
    ap (λ b. is_stamp e && (not b && low)) (eq-eqb prev (prev_after before) (sym left))
    ∙ both_false (is_stamp e) low in
    subst (AreCaused []) (append_assoc front (r ∷ []) (e ∷ []))
    (caused_push [] before e (caused_push [] front r caused (no_need front r receives)) none)

left_none : (es : List Event) → ((j : ℕ) (d : Event) → slice_get es j ≡ Some d
    → (is_stamp d ≡ true) × (d.serial.prev ≡ 0)) → prev_after es ≡ 0
left_none [] each = refl
left_none (d ∷ []) each =
    let here = each 0 d refl in
    sym (leaves d) ∙ ap (λ b. cond (not b) d.serial.this d.serial.prev) here.0 ∙ here.1
left_none (d ∷ f ∷ es) each = left_none (f ∷ es) (λ j g at. each (suc j) g at)

pub at_front : {A : Type 0} (front rest : List A) (j : ℕ) (d : A) → slice_get front j ≡ Some d
    → slice_get (front ++ rest) j ≡ Some d
at_front [] rest j d at = absurd (none-some d at)
at_front (e ∷ front) rest zero d at = at
at_front (e ∷ front) rest (suc j) d at = at_front front rest j d at

pub at_seam : {A : Type 0} (front rest : List A) (e : A)
    → slice_get (front ++ e ∷ rest) (length front) ≡ Some e
at_seam [] rest e = refl
at_seam (d ∷ front) rest e = at_seam front rest e

-- no need has prev 0
need_above : (top : ℕ) (streams : List Stream) → IsOpen top streams → (p : Pid)
    → (front rest : List Event) (e : Event) → events_of streams p ≡ front ++ e ∷ rest
    → is_need front e ≡ true → 0 < e.serial.prev
need_above top streams good p front rest e is need =
    let prev = e.serial.prev in
    let parts = and_parts (is_stamp e)
    (not (prev == prev_after front) && nat_lt prev (greatest_count front)) need in
    let tests = and_parts (not (prev == prev_after front)) (nat_lt prev (greatest_count front))
    parts.1 in
    let at : event_at streams p (length front) ≡ Some e =
    ap (λ es. slice_get es (length front)) is ∙ at_seam front rest e in
    let own = λ (j : ℕ) (d : Event) (there : event_at streams p j ≡ Some d)
    (stamps : is_stamp d ≡ true).
    stamper d.kind d.from d.to p stamps (own_at streams p j d good.sound.draft.own there) in
    elim (cases_lt 0 prev) [
      | inl above ↦ above
      | inr not_above ↦
          let none : prev ≡ 0 = omega arith in
          let left = left_none front (λ j d at_d.
          let there : event_at streams p j ≡ Some d =
          ap (λ es. slice_get es j) is ∙ at_front front (e ∷ rest) j d at_d in
          let lead = good.leads p j (length front) d e (slice_get_within front j d at_d) there at
          parts.0 in
          let stamps = lead.1 none in (
            stamps,
            good.roots p p j (length front) d e there at none
                (own j d there stamps ∙ sym (own (length front) e at parts.0)) lead.0,
          )) in
          absurd (false≢true (sym (ap not (eq-eqb prev (prev_after front) (none ∙ sym left)))
          ∙ tests.0))
    ]

-- ALL NEEDS

-- whole streams whose told events are the streams with some processes that report nothing
pub record IsGrown (top : ℕ) (streams : List Stream) : Type 0 where
  pub others : List Pid
  pub wholes : List Whole
  pub told : told_streams wholes ≡ with_silent streams others
  pub good : IsOpen top (all_streams wholes)
  pub sent : AreSent (all_streams wholes)

module _ (top : ℕ) (streams : List Stream) where
  abbrev events_in : IsGrown top streams → Pid → List Event
  events_in grown p = events_of (all_streams grown.wholes) p

  -- whole streams with the receive that e needs right before it
  record IsFed (grown : IsGrown top streams) (p : Pid) (front rest : List Event)
      (e : Event) : Type 0 where
    next : IsGrown top streams
    receive : Event
    receives : is_stamp receive ≡ false
    count : receive.serial.this ≡ e.serial.prev
    events : events_in next p ≡ front ++ receive ∷ e ∷ rest
    keeps : (q : Pid) → pid_eq q p ≡ false → AreCaused [] (events_in grown q)
        → AreCaused [] (events_in next q)

  feed : (grown : IsGrown top streams) (p : Pid) (front rest : List Event) (e : Event)
      → events_in grown p ≡ front ++ e ∷ rest → is_need front e ≡ true → IsFed grown p front rest e
  feed grown p front rest e is need =
      let all = all_streams grown.wholes in
      let i = length front in
      let z = fresh all in
      let unlisted = fresh_unlisted all in
      let at : event_at all p i ≡ Some e = ap (λ es. slice_get es i) is ∙ at_seam front rest e in
      let stamps = (and_parts (is_stamp e) (not (e.serial.prev == prev_after front)
      && nat_lt e.serial.prev (greatest_count front)) need).0 in
      let above = need_above top all grown.good p front rest e is need in
      let s = send top all grown.good p i e at stamps above z unlisted in
      let r = receive top all grown.good p i e at stamps above z unlisted in
      let after = fed top all grown.good p i e at stamps above z unlisted in
      let wholes = map (put p i r) (map (put z 0 s) (whole_inserted z grown.wholes)) in
      let same : all_streams wholes ≡ after =
      put_more p i r (map (put z 0 s) (whole_inserted z grown.wholes))
      ∙ ap (more p i r) (put_more z 0 s (whole_inserted z grown.wholes)
      ∙ ap (more z 0 s) (by_inserted events refl z grown.wholes)) in
      let none : lists (with_silent streams grown.others) z ≡ false =
      ap (λ ss. lists ss z) (sym grown.told)
      ∙ lists_among (told_streams grown.wholes) z
      ∙ ap (λ ps. is_among ps z) (told_pids grown.wholes)
      ∙ sym (lists_among all z) ∙ unlisted in
      let told : told_streams wholes ≡ with_silent streams (z ∷ grown.others) =
      put_told p i r (map (put z 0 s) (whole_inserted z grown.wholes))
      ∙ put_told z 0 s (whole_inserted z grown.wholes)
      ∙ by_inserted told_events refl z grown.wholes
      ∙ ap (inserted z) grown.told
      ∙ ap (λ b. cond b (with_silent streams grown.others)
      (inserted z (with_silent streams grown.others))) (sym none) in
      record {
        next = record {
          others = z ∷ grown.others;
          wholes = wholes;
          told = told;
          good = subst (IsOpen top) (sym same)
              (open_fed top all grown.good p i e at stamps above z unlisted);
          sent = subst AreSent (sym same)
              (sent_fed top all grown.good p i e at stamps above z unlisted grown.sent);
        };
        receive = r;
        receives = refl;
        count = refl;
        events = ap (λ ss. events_of ss p) same
            ∙ events_fed top all grown.good p i e at stamps above z unlisted
            ∙ ap (λ es. take i es ++ r ∷ drop i es) is
            ∙ ap (λ es. es ++ r ∷ drop i (front ++ e ∷ rest)) (take-append_seam front (e ∷ rest))
            ∙ ap (λ es. front ++ r ∷ es) (drop-append_seam front (e ∷ rest));
        keeps = λ q other caused. subst (λ ss. AreCaused [] (events_of ss q)) (sym same)
            (kept top all grown.good p i e at stamps above z unlisted (AreCaused []) (refl, tt) q
            other caused);
      }

  -- whole streams with all receives that p needs
  record IsServed (grown : IsGrown top streams) (p : Pid) : Type 0 where
    next : IsGrown top streams
    caused : AreCaused [] (events_in next p)
    keeps : (q : Pid) → pid_eq q p ≡ false → AreCaused [] (events_in grown q)
        → AreCaused [] (events_in next q)

  serve : (rest front : List Event) (grown : IsGrown top streams) (p : Pid)
      → events_in grown p ≡ front ++ rest → AreCaused [] front → IsServed grown p
  serve [] front grown p is caused = record {
    next = grown;
    caused = subst (AreCaused []) (sym (is ∙ append-nil front)) caused;
    keeps = λ q _ before. before;
  }
  serve (e ∷ rest) front grown p is caused =
      elim (is_need front e) as (λ b. is_need front e ≡ b → IsServed grown p) [
        | false ↦ λ none. serve rest (front ++ e ∷ []) grown p
            (is ∙ sym (append_assoc front (e ∷ []) rest)) (caused_push [] front e caused none)
        | true ↦ λ need.
            let f = feed grown p front rest e is need in
            let later = serve rest (front ++ f.receive ∷ e ∷ []) f.next p
            (f.events ∙ sym (append_assoc front (f.receive ∷ e ∷ []) rest))
            (caused_fed front f.receive e f.receives f.count caused) in
            record {
              next = later.next;
              caused = later.caused;
              keeps = λ q other before. later.keeps q other (f.keeps q other before);
            }
      ] refl

  pub record IsComplete : Type 0 where
    pub grown : IsGrown top streams
    pub caused : (q : Pid) → AreCaused [] (events_in grown q)

  serve_all : (ps : List Pid) (grown : IsGrown top streams)
      → ((q : Pid) → is_among ps q ≡ false → AreCaused [] (events_in grown q)) → IsComplete
  serve_all [] grown caused = record { grown = grown; caused = λ q. caused q refl }
  serve_all (p ∷ ps) grown caused =
      let served = serve (events_in grown p) [] grown p refl tt in
      serve_all ps served.next (λ q out. elim (pid_eq p q) as (λ b. pid_eq p q ≡ b
      → AreCaused [] (events_in served.next q)) [
        | true ↦ λ same. subst (λ x. AreCaused [] (events_in served.next x)) (pid_same p q same)
            served.caused
        | false ↦ λ other. served.keeps q (pid_eq-swap q p ∙ other)
            (caused q (ap (λ b. b || is_among ps q) other ∙ out))
      ] refl)

  pub all_served : IsGrown top streams → IsComplete
  all_served grown =
      let all = all_streams grown.wholes in
      serve_all (pids_of all) grown (λ q out. subst (AreCaused [])
      (sym (unlisted_events all q (lists_among all q ∙ out))) tt)
