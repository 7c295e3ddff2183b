-- Each example's run is computed, and its premises hold of what comes out.
use Rattle.std.proofs.Common.{◌≡◌, ◌==◌, true, false, map, List, [], ◌∷◌, Some, None, inl, inr}
use Rattle.std.proofs.Common.{refl, arith, sym, ap, subst}
use Rattle.std.proofs.lemmas.Bool.{false≢true}
use Rattle.std.proofs.lemmas.Option.{same_Some, none-some}
use Rattle.st_core.specs.declared.types.Pid.{Pid}
use Rattle.st_core.specs.declared.types.Token.{Token}
use Rattle.st_core.specs.declared.types.Component.TheVariants as component
use Rattle.st_core.specs.declared.types.Act.TheVariants as act
use Rattle.st_core.specs.declared.types.Want.TheVariants as want
use Rattle.st_core.specs.Pick.{pick}
use Rattle.st_core.specs.State.{Process, zero_state}
use Rattle.st_core.specs.Step.{Outcome}
use Rattle.node_machine.specs.Counts.{counter_value, node_token, serial_count}
use Rattle.node_machine.specs.Node.{node_found, node_run, Common, Seen, seen_stream}
use Rattle.node_machine.specs.Premises.{NoNodeReset, put_backs, PutsBackOwn, ReportsTokens}
use Rattle.node_machine.specs.Readings.{NeedsAtLeast}
use Rattle.node_machine.specs.Origins.{AnswersComeNext, Follows, Held, Home, OriginAfter}
use Rattle.node_machine.specs.Origins.{OriginsAre}
use Rattle.node_machine.specs.ByMessages.{CanBySends, clock_by_gift, gift_taken, AfterTake, no_past}
use Rattle.node_machine.specs.ByMessages.{OriginsAreBySends, other_label, ReportsSendsTo}
use Rattle.node_machine.specs.ByMessages.{ReportsStamps, sends_to, message_send, stamp_origins}
use Rattle.node_machine.specs.ByMessages.{stamp_stream}
use Rattle.node_machine.specs.Example.{all_come, all_home, first_token, printer, prints_again}
use Rattle.node_machine.specs.Example.{both_sends, other_send, other_sender, prints_what_came}
use Rattle.node_machine.specs.Example.{reported_sends, second_comes, sender, sends_silently}
use Rattle.node_machine.specs.Example.{the_print, the_send, the_sends, three, wrapped_serials}
use Rattle.node_machine.specs.Example.{wraps}

abbrev pub outcomes : List Outcome
outcomes = elim (node_run (printer ∷ []) prints_again) as (λ _. List Outcome) [
  | None ↦ []
  | Some os ↦ os
]

pub runs : node_run (printer ∷ []) prints_again ≡ Some outcomes
unfolding serial_count counter_value
runs = refl

pub no_reset : NoNodeReset prints_again
no_reset = (refl, (refl, (refl, (refl, (refl, (refl, tt))))))

pub reports : ReportsTokens printer (zero_state (printer ∷ [])) prints_again outcomes
unfolding serial_count counter_value
reports = (
  λ _ r _ moves. absurd (false≢true moves),
  (
    λ _ r _ moves. absurd (false≢true moves),
    (
      λ _ r _ _. refl,
      (
        λ _ r _ _. refl,
        (
          λ _ r _ moves. absurd (false≢true moves),
          (λ _ r _ _. refl, tt),
        ),
      ),
    ),
  ),
)

pub own : PutsBackOwn printer [] (zero_state (printer ∷ [])) prints_again outcomes
unfolding serial_count counter_value
own = (
  λ _ t is. absurd (none-some t is),
  (
    λ _ t is. absurd (none-some t is),
    (
      λ _ t is. absurd (none-some t is),
      (
        λ _ t is. absurd (none-some t is),
        (
          λ _ t is.
              inr (inl (ap (λ (x : Token). x.serial) (same_Some (node_token first_token) t is))),
          (λ _ t is. absurd (none-some t is), tt),
        ),
      ),
    ),
  ),
)

-- the printer before its first set
abbrev before_set : Process
before_set = record {
  pid = printer;
  local = record { token = None; clock = 0; last = 0; traced = true };
  queue = [];
}

set_at_home : (r : Process) → Some before_set ≡ Some r
    → OriginAfter [] (seen_stream prints_again outcomes printer) [] r
    (Common (act.Set printer (component.Print true))) Home Home
unfolding serial_count counter_value
set_at_home r is =
    subst (λ (x : Process). OriginAfter [] (seen_stream prints_again outcomes printer) [] x
    (Common (act.Set printer (component.Print true))) Home Home) (same_Some before_set r is)
    (refl, record { new = tt; stamps = (λ _. refl, λ no. absurd (no (refl, refl))) })

-- the first print's token, as a held one
abbrev first_held : Held
first_held = record {
  serial = first_token.serial;
  label = first_token.label;
  origin = Home;
}

pub origins : OriginsAre printer [] [] Home (zero_state (printer ∷ [])) prints_again outcomes
    all_home
unfolding serial_count counter_value
origins = (
  λ _ r _. refl,
  λ _. refl,
  (
    λ _ r is. set_at_home r is,
    λ _. refl,
    (
      λ _ r _. refl,
      λ _. refl,
      (
        λ _ r _. refl,
        λ _. refl,
        (
          λ _ r _. (first_held, inr (inl refl), refl, inl (refl, refl)),
          λ _. refl,
          (λ _ r _. refl, λ _. refl, tt),
        ),
      ),
    ),
  ),
)

pub answers : AnswersComeNext printer false prints_again outcomes
unfolding serial_count counter_value
answers = (
  λ _ no. absurd (false≢true no),
  (
    λ _ no. absurd (false≢true no),
    (
      λ _ no. absurd (false≢true no),
      (
        λ _ no. absurd (false≢true no),
        (λ _ no. absurd (false≢true no), (λ _ no. absurd (false≢true no), tt)),
      ),
    ),
  ),
)

-- the last print needs the put-back in each reading
pub one_need : NeedsAtLeast (seen_stream prints_again outcomes printer) 1
unfolding serial_count counter_value
one_need = (omega arith, (omega arith, (omega arith, (omega arith, tt))))

pub one_put_back : put_backs printer prints_again ≡ 1
one_put_back = refl

-- THE WRAP

abbrev pub wrap_outcomes : List Outcome
wrap_outcomes = elim (node_run (printer ∷ sender ∷ []) wraps) as (λ _. List Outcome) [
  | None ↦ []
  | Some os ↦ os
]

pub wrap_runs : node_run (printer ∷ sender ∷ []) wraps ≡ Some wrap_outcomes
unfolding serial_count counter_value
wrap_runs = refl

apart : sender ≡ printer → ⊥
apart same = false≢true (ap (λ (p : Pid). p.number == 1) same)

pub wrap_reports : ReportsTokens printer (zero_state (printer ∷ sender ∷ [])) wraps wrap_outcomes
unfolding serial_count counter_value
wrap_reports = (
  λ _ r _ moves. absurd (false≢true moves),
  (
    λ mine. absurd (apart mine),
    (
      λ mine. absurd (apart mine),
      (
        λ _ r _ _. refl,
        (
          λ _ r _ _. refl,
          (λ mine. absurd (apart mine), (λ _ r _ _. refl, (λ _ r _ _. refl, tt))),
        ),
      ),
    ),
  ),
)

pub wrap_own : PutsBackOwn printer [] (zero_state (printer ∷ sender ∷ [])) wraps wrap_outcomes
unfolding serial_count counter_value
wrap_own = (
  λ _ t is. absurd (none-some t is),
  (
    λ mine. absurd (apart mine),
    (
      λ _ t is. absurd (none-some t is),
      (
        λ _ t is. absurd (none-some t is),
        (
          λ _ t is. absurd (none-some t is),
          (
            λ _ t is. absurd (none-some t is),
            (λ _ t is. absurd (none-some t is), (λ _ t is. absurd (none-some t is), tt)),
          ),
        ),
      ),
    ),
  ),
)

pub wrap_shown : map (λ (e : Seen). e.serial) (seen_stream wraps wrap_outcomes printer)
    ≡ wrapped_serials
unfolding serial_count counter_value
wrap_shown = refl

-- A RECEIVE THAT ISN'T REPORTED

abbrev pub come_outcomes : List Outcome
come_outcomes = elim (node_run (printer ∷ sender ∷ []) prints_what_came) as (λ _. List Outcome) [
  | None ↦ []
  | Some os ↦ os
]

pub come_runs : node_run (printer ∷ sender ∷ []) prints_what_came ≡ Some come_outcomes
unfolding serial_count counter_value
come_runs = refl

pub come_no_reset : NoNodeReset prints_what_came
come_no_reset = (refl, (refl, (refl, (refl, (refl, (refl, tt))))))

pub come_stamps : ReportsStamps printer (zero_state (printer ∷ sender ∷ [])) prints_what_came
    come_outcomes
unfolding serial_count counter_value
come_stamps = (
  λ _ r _ stamps. absurd (false≢true stamps),
  (
    λ mine. absurd (apart mine),
    (
      λ mine. absurd (apart mine),
      (
        λ mine. absurd (apart mine),
        (λ _ r _ stamps. absurd (false≢true stamps), (λ _ r _ _. refl, tt)),
      ),
    ),
  ),
)

pub come_sends : ReportsSendsTo printer (zero_state (printer ∷ sender ∷ [])) prints_what_came
    come_outcomes
unfolding serial_count counter_value
come_sends = (
  λ r _ sends. absurd (false≢true sends),
  (
    λ r _ sends. absurd (false≢true sends),
    (
      λ r _ sends. absurd (false≢true sends),
      (
        λ r _ _. refl,
        (
          λ r _ sends. absurd (false≢true sends),
          (λ r _ sends. absurd (false≢true sends), tt),
        ),
      ),
    ),
  ),
)

-- the printer before it receives
abbrev before_receive : Process
before_receive = record {
  pid = printer;
  local = record { token = None; clock = 0; last = 0; traced = true };
  queue = record {
    from = sender;
    value = 5;
    token = Some (record {
      label = record { 0 = 0 };
      flags = record { send = true; receive = false; print = true };
      serial = record { prev = 0; this = 1 };
      from = sender;
    });
  } ∷ [];
}

receive_brings : (r : Process) → Some before_receive ≡ Some r
    → AfterTake (the_send ∷ []) (message_send r.pid (node_found (pick want.First r.queue))) Home
    (Follows 0)
unfolding serial_count counter_value
receive_brings r is =
    subst (λ (x : Process). AfterTake (the_send ∷ [])
    (message_send x.pid (node_found (pick want.First x.queue))) Home (Follows 0))
    (same_Some before_receive r is) (0, refl, refl)

pub come_origins : OriginsAreBySends the_sends (other_label the_print.label) printer no_past
    (zero_state (printer ∷ sender ∷ [])) prints_what_came come_outcomes all_come
unfolding serial_count counter_value
come_origins = (
  λ _ r _. refl,
  λ _. refl,
  (
    λ mine. absurd (apart mine),
    λ _. refl,
    (
      λ mine. absurd (apart mine),
      λ _. refl,
      (
        λ mine. absurd (apart mine),
        λ _. refl,
        (
          λ _ r is. receive_brings r is,
          λ no. absurd (false≢true (sym no)),
          (λ _ r _. refl, λ _. refl, tt),
        ),
      ),
    ),
  ),
)

pub come_shown : (sends_to come_outcomes printer ≡ the_send ∷ [])
    × (stamp_stream prints_what_came come_outcomes printer ≡ the_print ∷ [])
    × (stamp_origins prints_what_came come_outcomes all_come printer ≡ Follows 0 ∷ [])
unfolding serial_count counter_value
come_shown = (refl, refl, refl)

-- A SEND THAT ISN'T REPORTED

abbrev pub silent_outcomes : List Outcome
silent_outcomes = elim (node_run three sends_silently) as (λ _. List Outcome) [
  | None ↦ []
  | Some os ↦ os
]

pub silent_runs : node_run three sends_silently ≡ Some silent_outcomes
unfolding serial_count counter_value
silent_runs = refl

other_apart : other_sender ≡ printer → ⊥
other_apart same = false≢true (ap (λ (p : Pid). p.number == 1) same)

pub silent_stamps : ReportsStamps printer (zero_state three) sends_silently silent_outcomes
unfolding serial_count counter_value
silent_stamps = (
  λ _ r _ stamps. absurd (false≢true stamps),
  (
    λ mine. absurd (apart mine),
    (
      λ mine. absurd (apart mine),
      (
        λ mine. absurd (other_apart mine),
        (
          λ mine. absurd (other_apart mine),
          (λ _ r _ stamps. absurd (false≢true stamps), (λ _ r _ _. refl, tt)),
        ),
      ),
    ),
  ),
)

-- the printer before it receives
abbrev before_second : Process
before_second = record {
  pid = printer;
  local = record { token = None; clock = 0; last = 0; traced = true };
  queue = record {
    from = sender;
    value = 5;
    token = Some (record {
      label = record { 0 = 0 };
      flags = record { send = false; receive = false; print = true };
      serial = record { prev = 0; this = 1 };
      from = sender;
    });
  } ∷ record {
    from = other_sender;
    value = 7;
    token = Some (record {
      label = record { 0 = 0 };
      flags = record { send = true; receive = false; print = false };
      serial = record { prev = 0; this = 1 };
      from = other_sender;
    });
  } ∷ [];
}

second_brings : (r : Process) → Some before_second ≡ Some r
    → AfterTake both_sends.gifts (message_send r.pid (node_found (pick want.First r.queue))) Home
    (Follows 1)
unfolding serial_count counter_value
second_brings r is =
    subst (λ (x : Process). AfterTake both_sends.gifts
    (message_send x.pid (node_found (pick want.First x.queue))) Home (Follows 1))
    (same_Some before_second r is) (1, refl, refl)

pub silent_origins : OriginsAreBySends both_sends (other_label the_print.label) printer no_past
    (zero_state three) sends_silently silent_outcomes second_comes
unfolding serial_count counter_value
silent_origins = (
  λ _ r _. refl,
  λ _. refl,
  (
    λ mine. absurd (apart mine),
    λ _. refl,
    (
      λ mine. absurd (apart mine),
      λ _. refl,
      (
        λ mine. absurd (other_apart mine),
        λ _. refl,
        (
          λ mine. absurd (other_apart mine),
          λ _. refl,
          (
            λ _ r is. second_brings r is,
            λ no. absurd (false≢true (sym no)),
            (λ _ r _. refl, λ _. refl, tt),
          ),
        ),
      ),
    ),
  ),
)

pub silent_shown : (sends_to silent_outcomes printer ≡ other_send ∷ [])
    × (stamp_stream sends_silently silent_outcomes printer ≡ the_print ∷ [])
    × (stamp_origins sends_silently silent_outcomes second_comes printer ≡ Follows 1 ∷ [])
unfolding serial_count counter_value
silent_shown = (refl, refl, refl)

pub silent_can : CanBySends reported_sends (other_label the_print.label) (the_print ∷ []) 0
    (Follows 0)
unfolding serial_count
silent_can = gift_taken 0 0 (record {
  stamp = the_print;
  is_stamp = refl;
  gift = other_send;
  at = refl;
  label = refl;
  prev = refl;
  clock = 1;
  shown = clock_by_gift other_send (inl refl);
  count = refl;
  lifted = inl (omega arith);
})
