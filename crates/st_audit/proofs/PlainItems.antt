-- In plain streams no reason holds of an item, its acts run, and the last of them reports its event
-- exactly if it is told: so the item goes through.
use Rattle.std.proofs.Common.{◌≡◌, ℕ, ◌+◌, ◌<◌, ◌&&◌, nat_lt, suc, true, false, not, cond}
use Rattle.std.proofs.Common.{List, [], ◌∷◌, ◌++◌, reverse, take, drop, Option, Some, None, Err}
use Rattle.std.proofs.Common.{option_and_then, option_to_list, length, slice_get, get_or, refl, sym}
use Rattle.std.proofs.Common.{◌∙◌, ap, arith}
use Rattle.std.specs.Option.{option_map_or}
use Rattle.std.proofs.lemmas.Bool.{lt-ltb}
use Rattle.std.proofs.lemmas.Option.{same_Some, slice_get-get_or}
use Rattle.st_core.specs.declared.types.Pid.{Pid}
use Rattle.st_core.specs.declared.types.Event.{Event}
use Rattle.st_core.specs.declared.types.Kind.{Kind}
use Rattle.st_core.specs.declared.types.Kind.TheVariants as kind
use Rattle.st_core.specs.declared.types.Act.{Act}
use Rattle.st_core.specs.declared.types.Act.TheVariants as act
use Rattle.st_core.specs.declared.types.Want.TheVariants as want
use Rattle.st_core.specs.Pid.{pid_eq}
use Rattle.st_core.specs.State.{Process, State}
use Rattle.st_core.specs.Step.{actor, Outcome}
use Rattle.st_core.specs.Run.{Stream, run_from, stream}
use Rattle.st_core.specs.Streams.{IsStreams}
use Rattle.st_core.proofs.ForCallers.{and_false, pid_eq-refl}
use Rattle.st_pair.specs.Pairing.{refusal}
use Rattle.st_pair.specs.Places.{is_stamp}
use Rattle.st_pair.proofs.ForCallers.{paired, serial_rises}
use Rattle.st_order.specs.declared.item.Item.{Item}
use Rattle.st_order.specs.declared.item.Item.TheVariants as item
use Rattle.st_order.specs.Items.{event_of}
use Rattle.st_order.specs.Order.{IsOrder}
use Rattle.st_plan.specs.Build.{acts_of, flags_of, ready, start_of, state_after, GoesOn}
use Rattle.st_plan.specs.Marks.{Marks}
use Rattle.st_plan.specs.Moves.{Move, clock, earlier_of, is_taking, move_by, moves}
use Rattle.st_plan.specs.Plain.{IsPlain}
use Rattle.st_plan.specs.Reasons.{too_wide, uncaused}
use Rattle.st_plan.proofs.ForCallers.{caused_at, holds_not, stream_append, IsKept}
use Rattle.st_audit.specs.declared.construction.Construction.{Construction}
use Rattle.st_audit.specs.declared.construction.Halt.{Halt}
use Rattle.st_audit.specs.declared.construction.Halt.TheVariants as halt
use Rattle.st_audit.specs.Construction.{acts_from, attempt, last_report, turn_by, Through}
use Rattle.st_audit.specs.Progress.{if_told, is_below, is_high, is_marked, is_uncaused, item_turn}
use Rattle.st_audit.specs.Progress.{Meets, SaysNothing, WentThrough}
use Rattle.st_audit.proofs.Attempts.{acts_in, attempt_acts, last_report-push, only_memory}
use Rattle.st_audit.proofs.Attempts.{outcomes_in}
use Rattle.st_audit.proofs.ItemPlaces.{split_at}
use Rattle.st_audit.proofs.MoveActs.{last_step, only, print_acts, receive_acts, send_acts}
use Rattle.st_audit.proofs.MoveActs.{send_goes}
use Rattle.st_audit.proofs.MoveOutcomes.{same_report}
use Rattle.st_audit.proofs.NextItem.{caused_as}
use Rattle.st_audit.proofs.Silence.{ready_silent}
use Rattle.st_audit.proofs.Track.{goes_next, none, track_next, GoesNext, IsOnTrack}

-- THE LAST OF THE ACTS

module _ (top : ℕ) (streams : List Stream) (marks : Marks) (s : State) (p : Pid) (i : ℕ) (e : Event)
    (g : GoesOn top streams marks s (move_by (item.Reported p i) e)) where
  -- if all acts but the last report nothing, the last report is that of the last act
  last_shows : (acts : List Act) (a : Act) → acts ++ a ∷ [] ≡ g.acts → actor a ≡ p
      → ((os : List Outcome) → run_from top s acts ≡ Some os → stream acts os p ≡ [])
      → last_report None g.outcomes ≡ if_told (marks p i) e
  last_shows acts a are who silent =
      let x = last_step top s acts a g.outcomes (ap (run_from top s) are ∙ g.runs) in
      let all = x.front ++ x.end ∷ [] in
      let mine : pid_eq (actor a) p ≡ true = ap (λ q. pid_eq q p) who ∙ pid_eq-refl p in
      let whole : stream (acts ++ a ∷ []) all p ≡ option_to_list x.end.report ++ [] =
      stream_append top s acts (a ∷ []) x.front (x.end ∷ []) p x.runs
      ∙ ap (λ es. es ++ stream (a ∷ []) (x.end ∷ []) p) (silent x.front x.runs)
      ∙ ap (λ b. cond b (option_to_list x.end.report) [] ++ []) mine in
      let tells : stream (acts ++ a ∷ []) all p ≡ cond (marks p i) (e ∷ []) [] =
      ap (λ xs. stream xs all p) are ∙ ap (λ os. stream g.acts os p) (sym x.whole) ∙ g.tells p
      ∙ ap (λ b. cond b (cond (marks p i) (e ∷ []) []) []) (pid_eq-refl p) in
      ap (last_report None) x.whole ∙ last_report-push None x.front x.end
      ∙ only x.end.report (marks p i) e (sym whole ∙ tells)

  module _ (rises : e.serial.prev < e.serial.this)
      (caused : is_stamp e ≡ true → is_uncaused (start_of g.before.local) e.serial ≡ false) where
    stamp_shows : (a : Act) → is_stamp e ≡ true → actor a ≡ p
        → ready p (start_of g.before.local) e.label e.serial
        (flags_of streams marks (move_by (item.Reported p i) e))
        ++ a ∷ [] ≡ g.acts → last_report None g.outcomes ≡ if_told (marks p i) e
    stamp_shows a stamps who are =
        let f = flags_of streams marks (move_by (item.Reported p i) e) in
        last_shows (ready p (start_of g.before.local) e.label e.serial f) a are who
        (λ os runs. ready_silent top s p g.before g.is_before e.label f e.serial os rises
        (caused stamps) runs)

    send_shows : e.kind ≡ kind.Send → (o : Option Pid) → e.to ≡ o
        → last_report None g.outcomes ≡ if_told (marks p i) e
    send_shows is None is_to = absurd (send_goes streams marks p i e g.before g.acts g.are is is_to)
    send_shows is (Some to) is_to =
        stamp_shows (act.Send p to e.value) (rw is refl) refl
        (send_acts streams marks p i e g.before g.acts g.are to is is_to)

    kind_shows : (k : Kind) → e.kind ≡ k → last_report None g.outcomes ≡ if_told (marks p i) e
    kind_shows kind.Send is = send_shows is e.to refl
    kind_shows kind.Print is =
        stamp_shows (act.Print p e.value) (rw is refl) refl
        (print_acts streams marks p i e g.before g.acts g.are is)
    kind_shows kind.Receive is =
        let t = receive_acts streams marks p i e g.before g.acts g.are s g.is_before is in
        last_shows [] (act.Receive p (want.Place t.place)) t.same refl (λ os runs. refl)

module _ (top : ℕ) (streams : List Stream) (marks : Marks) (s : State) (past : List Move)
    (kept : IsKept streams marks past s) where
  -- an item's acts report its event exactly if it is told; a hidden send has nothing to report
  item_marked : (x : Item) (e : Event) (g : GoesOn top streams marks s (move_by x e))
      → refusal streams ≡ None
      → event_of streams x ≡ Some e → uncaused past (move_by x e) ≡ false
      → is_marked marks (move_by x e) g.outcomes ≡ true
  item_marked (item.Hidden p i) e g accepted at h = refl
  item_marked (item.Reported p i) e g accepted at h =
      let rises = serial_rises streams (paired streams accepted) p i e at in
      let so = kept.each p g.before g.is_before in
      let shows = kind_shows top streams marks s p i e g rises
      (λ stamps. caused_as past (move_by (item.Reported p i) e) g.before.local
      (record { clocked = so.clocked; lasted = so.lasted }) (ap not stamps) h) e.kind refl in
      same_report (last_report None g.outcomes) (if_told (marks p i) e) shows

  -- the clock before a stamp is below its count
  item_low : (x : Item) (e : Event) (g : GoesOn top streams marks s (move_by x e))
      → (is_taking (move_by x e) ≡ false
      → clock (move_by x e).who past < (move_by x e).event.serial.this)
      → is_high marks s (move_by x e) ≡ false
  item_low (item.Hidden p i) e g below = refl
  item_low (item.Reported p i) e g below =
      elim (is_stamp e) as (λ b. is_stamp e ≡ b → (not (marks p i) && (b && not (is_below s p e)))
      ≡ false) [
        | true ↦ λ stamps.
            let so = kept.each p g.before g.is_before in
            let clocked = so.clocked in
            let less = below (ap not stamps) in
            let low : is_below s p e ≡ true =
            ap (λ o. option_map_or (λ (r : Process). nat_lt r.local.clock e.serial.this) o true)
            g.is_before
            ∙ lt-ltb g.before.local.clock e.serial.this (omega arith) in
            ap (λ b. not (marks p i) && not b) low ∙ and_false (not (marks p i)) false refl
        | false ↦ λ takes. and_false (not (marks p i)) false refl
      ] refl

-- ITEM BY ITEM

module _ (top : ℕ) (streams : List Stream) (marks : Marks) (sound : IsStreams streams)
    (plain : IsPlain top streams)
    (xs : List Item) (order : IsOrder streams xs) (n : ℕ) (x : Item) (at : slice_get xs n ≡ Some x)
  where
    module _ (s : State) (acts : List Act) (track : IsOnTrack top streams marks (take n xs) s acts)
      where
        pub item_goes : GoesNext top streams marks (earlier_of streams (take n xs)) x s
        item_goes = goes_next top streams marks sound plain.settled xs order n x at s acts track

        abbrev pub past : List Move
        past = earlier_of streams (take n xs)

        abbrev later : List Move
        later = moves streams (drop (suc n) xs)

        abbrev pub move : Move
        move = move_by x item_goes.event

        split : moves streams xs ≡ reverse past ++ move ∷ later
        split = split_at streams xs n x item_goes.event at item_goes.there

        caused : uncaused past move ≡ false
        caused = caused_at top streams marks sound plain.settled xs order past later move split

        narrow : too_wide past move ≡ false
        narrow = holds_not streams xs order too_wide plain.narrow past later move split

        pub goes_marked : is_marked marks move item_goes.goes.outcomes ≡ true
        goes_marked =
            item_marked top streams marks s past track.kept x item_goes.event item_goes.goes
            plain.settled.accepted
            item_goes.there caused

        pub goes_tried : attempt top s (uncaused past move) (too_wide past move)
            (acts_from streams marks s move)
            ≡ Through item_goes.goes.acts item_goes.goes.outcomes
        goes_tried =
            let g = item_goes.goes in
            let found : acts_from streams marks s move ≡ Some g.acts =
            ap (option_and_then (λ r. acts_of streams marks r move)) g.is_before ∙ g.are in
            attempt_acts top s (uncaused past move) (too_wide past move)
            (acts_from streams marks s move) g.acts caused
            narrow found ∙ ap (turn_by top s g.acts) g.runs

    -- the item goes through, so its acts lead on, or memory runs out
    module _ (old : Construction top)
        (track : IsOnTrack top streams marks (take n xs) old.world old.acts) where
      abbrev goes : GoesNext top streams marks (earlier_of streams (take n xs)) x old.world
      goes = item_goes old.world old.acts track

      abbrev pub whole : Move
      whole = move_by x goes.event

      item_through : item_turn streams marks old (earlier_of streams (take n xs)) whole
          ≡ Through goes.goes.acts goes.goes.outcomes
      item_through =
          let earlier = earlier_of streams (take n xs) in
          let g = goes.goes in
          let low = item_low top streams marks old.world earlier track.kept x goes.event g
          goes.below in
          rw (
            goes.in_turn,
            low,
            goes_tried old.world old.acts track,
            goes_marked old.world old.acts track,
          ) refl

      goes_memory : (h : Halt) (new : Construction top)
          → Meets {T = Unit {0}} SaysNothing
          (item_turn streams marks old (earlier_of streams (take n xs)) whole) old
          (Err h) new → h ≡ halt.Memory
      goes_memory h new meets =
          only_memory {T = Unit {0}} SaysNothing
          (item_turn streams marks old (earlier_of streams (take n xs)) whole)
          goes.goes.acts goes.goes.outcomes old h new item_through meets

      pub goes_track : (new : Construction top)
          → WentThrough {T = Unit {0}} SaysNothing
          (item_turn streams marks old (earlier_of streams (take n xs)) whole) old tt new
          → IsOnTrack top streams marks (take (n + 1) xs) new.world new.acts
      goes_track new went =
          let same = sym went.through ∙ item_through in
          let os : went.outcomes ≡ goes.goes.outcomes = same_Some _ _ (ap outcomes_in same) in
          track_next top streams marks sound plain.settled xs order n x at old.world old.acts track
          goes new.world
          new.acts (went.put ∙ ap (λ zs. old.acts ++ zs) (ap acts_in same))
          (went.after ∙ ap (state_after old.world) os)

-- an item of plain streams halts the construction only if memory runs out
pub memory_alone : {top : ℕ} {streams : List Stream} {marks : Marks} {xs : List
    Item} {n : ℕ} {h : Halt}
    (old new : Construction top) → IsStreams streams → IsOrder streams xs → IsPlain top streams
    → IsOnTrack top streams marks (take n xs) old.world old.acts → n < length xs
    → ((x : Item) (e : Event) → slice_get xs n ≡ Some x → event_of streams x ≡ Some e
    → Meets {T = Unit {0}} SaysNothing
    (item_turn streams marks old (earlier_of streams (take n xs)) (move_by x e)) old (Err h) new)
    → h ≡ halt.Memory
memory_alone {top} {streams} {marks} {xs} {n} {h} old new sound order plain track within exact =
    let x = get_or xs n none in
    let at = slice_get-get_or xs n none within in
    let next = item_goes top streams marks sound plain xs order n x at old.world old.acts track in
    goes_memory top streams marks sound plain xs order n x at old track h new
    (exact x next.event at next.there)
