-- Each reason, but for a count above TOP, compares two events. So no reason holds after an event
-- is put in that goes with each other event, or a process is listed that reports nothing.
use Rattle.std.proofs.Common.{◌≡◌, ℕ, ◌<◌, ◌≤◌, true, false, List, Some, length, slice_get, inl}
use Rattle.std.proofs.Common.{inr, sym, ◌∙◌, ap, subst, arith}
use Rattle.st_core.specs.declared.types.Pid.{Pid}
use Rattle.st_core.specs.declared.types.Event.{Event}
use Rattle.st_core.specs.Laws.{IsReportAmong}
use Rattle.st_core.specs.Run.{Stream, pids_of}
use Rattle.st_core.specs.Streams.{events_of, IsStreams, lists}
use Rattle.st_pair.specs.Places.{event_at, is_stamp}
use Rattle.lack_laws.specs.Silent.{inserted}
use Rattle.lack_laws.proofs.AcceptedStreams.{fit_as, FitTogether, HasStamp}
use Rattle.lack_laws.proofs.InsertedEvents.{any_two_with, fit_with, FitsIn, in_turn_with, is_placed}
use Rattle.lack_laws.proofs.InsertedEvents.{more, stays, sound_with}
use Rattle.lack_laws.proofs.SilentStreams.{events_inserted, streams_inserted}

-- if e, later in its process than d, is a stamp, its count is above that of d; and if its prev is
-- 0, d is a stamp
abbrev pub Leads : Event → Event → Type 0
Leads d e = is_stamp e ≡ true
    → (d.serial.this < e.serial.this) × (e.serial.prev ≡ 0 → is_stamp d ≡ true)

-- if e tells of a stamp with prev 0, and d of a stamp of its process with a lower count, that one
-- has prev 0 too
abbrev pub Roots : Event → Event → Type 0
Roots d e = e.serial.prev ≡ 0 → d.from ≡ e.from → d.serial.this < e.serial.this
    → d.serial.prev ≡ 0

pub record IsOpen (top : ℕ) (streams : List Stream) : Type 0 where
  pub sound : IsStreams streams
  pub fit : FitTogether streams
  pub leads : (p : Pid) (j i : ℕ) (d e : Event) → j < i → event_at streams p j ≡ Some d
      → event_at streams p i ≡ Some e → Leads d e
  pub roots : (p q : Pid) (i j : ℕ) (d e : Event) → event_at streams p i ≡ Some d
      → event_at streams q j ≡ Some e → Roots d e
  pub within : (p : Pid) (i : ℕ) (e : Event) → event_at streams p i ≡ Some e → e.serial.this ≤ top

-- each receive has its send
abbrev pub AreSent : List Stream → Type 0
AreSent streams = (p : Pid) (i : ℕ) (e : Event) → event_at streams p i ≡ Some e
    → is_stamp e ≡ false → HasStamp streams e.from e.serial.this

-- WITH ONE MORE EVENT

-- the event fits before event i of p, and no reason holds of the streams with it
pub record CanJoin (top : ℕ) (streams : List Stream) (p : Pid) (i : ℕ) (r : Event) : Type 0 where
  pub inside : i ≤ length (events_of streams p)
  pub report : IsReportAmong (pids_of streams) p r
  pub fits : FitsIn streams p r
  pub behind : (j : ℕ) (d : Event) → j < i → event_at streams p j ≡ Some d → Leads d r
  pub ahead : (j : ℕ) (d : Event) → i ≤ j → event_at streams p j ≡ Some d → Leads r d
  pub roots : (q : Pid) (j : ℕ) (d : Event) → event_at streams q j ≡ Some d → Roots d r × Roots r d
  pub high : r.serial.this ≤ top

module _ (top : ℕ) (streams : List Stream) (good : IsOpen top streams) (p : Pid) (i : ℕ)
    (r : Event) (joins : CanJoin top streams p i r) where
  leads_with : (q : Pid) (j k : ℕ) (d e : Event) → j < k
      → event_at (more p i r streams) q j ≡ Some d → event_at (more p i r streams) q k ≡ Some e
      → Leads d e
  leads_with = in_turn_with p i r streams joins.inside Leads good.leads joins.behind joins.ahead

  pub open_with : IsOpen top (more p i r streams)
  open_with = record {
    sound = sound_with p i r streams good.sound joins.report;
    fit = fit_with p i r streams joins.inside good.fit joins.fits
        (λ q j k d e less at_d at_e _ stamps. (leads_with q j k d e less at_d at_e stamps).0);
    leads = leads_with;
    roots = any_two_with p i r streams joins.inside Roots good.roots joins.roots
        (λ _ _ less. absurd (omega arith));
    within = λ q k e at. elim (is_placed p i r streams joins.inside q k e at) [
      | inl new ↦ subst (λ (x : Event). x.serial.this ≤ top) new.1.1 joins.high
      | inr old ↦ good.within q old.index e old.at
    ];
  }

module _ (p : Pid) (i : ℕ) (r : Event) (streams : List Stream) where
  pub stamp_stays : (q : Pid) (v : ℕ) → HasStamp streams q v → HasStamp (more p i r streams) q v
  stamp_stays q v s =
      let stay = stays p i r streams q s.index s.event s.at in
      record { index = stay.0; event = s.event; at = stay.1; stamps = s.stamps; count = s.count }

  pub sent_with : i ≤ length (events_of streams p)
      → AreSent streams → (is_stamp r ≡ false → HasStamp streams r.from r.serial.this)
      → AreSent (more p i r streams)
  sent_with within sent mine q k e at receives = elim (is_placed p i r streams within q k e at) [
    | inl new ↦
        let same = new.1.1 in
        stamp_stays e.from e.serial.this (subst (λ (x : Event).
        HasStamp streams x.from x.serial.this) same
        (mine (ap is_stamp same ∙ receives)))
    | inr old ↦ stamp_stays e.from e.serial.this (sent q old.index e old.at receives)
  ]

-- WITH A SILENT PROCESS

module _ (top : ℕ) (streams : List Stream) (z : Pid) (unlisted : lists streams z ≡ false) where
  pub there_before : (q : Pid) (k : ℕ) (e : Event) → event_at (inserted z streams) q k ≡ Some e
      → event_at streams q k ≡ Some e
  there_before q k e at =
      ap (λ es. slice_get es k) (sym (events_inserted z streams unlisted q)) ∙ at

  pub open_silent : IsOpen top streams → IsOpen top (inserted z streams)
  open_silent good = record {
    sound = streams_inserted z streams good.sound unlisted;
    fit = fit_as (inserted z streams) streams there_before good.fit;
    leads = λ q j k d e less at_d at_e. good.leads q j k d e less (there_before q j d at_d)
        (there_before q k e at_e);
    roots = λ q x j k d e at_d at_e. good.roots q x j k d e (there_before q j d at_d)
        (there_before x k e at_e);
    within = λ q k e at. good.within q k e (there_before q k e at);
  }

  pub sent_silent : AreSent streams → AreSent (inserted z streams)
  sent_silent sent q k e at receives =
      let s = sent q k e (there_before q k e at) receives in
      record {
        index = s.index;
        event = s.event;
        at = ap (λ es. slice_get es s.index) (events_inserted z streams unlisted e.from) ∙ s.at;
        stamps = s.stamps;
        count = s.count;
      }
