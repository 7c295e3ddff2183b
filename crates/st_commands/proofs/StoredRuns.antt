-- By the definitions alone `check` says yes of two stored runs: each value that the definitions
-- ask for is computed here. Nothing cites this file; it shows that `check` is proved to owe the
-- output that a reader expects.
use Rattle.std.proofs.Common.{◌≡◌, ℕ, Bool, true, false, List, [], ◌∷◌, ◌++◌, length, Option, Some}
use Rattle.std.proofs.Common.{None, refl, arith}
use Rattle.std.specs.Prelude.{codes}
use Rattle.std.specs.Fmt.{digits}
use Rattle.std.specs.Option.{option_map_or}
use Rattle.std.proofs.lemmas.List.Elements.{All-nil, All-cons}
use Rattle.st_core.specs.declared.types.Pid.{Pid}
use Rattle.st_core.specs.declared.types.Label.{Label}
use Rattle.st_core.specs.declared.types.Token.{Token}
use Rattle.st_core.specs.declared.types.Kind.{Kind}
use Rattle.st_core.specs.declared.types.Kind.TheVariants as kind
use Rattle.st_core.specs.declared.types.Event.{Event}
use Rattle.st_core.specs.declared.types.Want.TheVariants as want
use Rattle.st_core.specs.declared.types.Component.TheVariants as component
use Rattle.st_core.specs.declared.types.Act.{Act}
use Rattle.st_core.specs.declared.types.Act.TheVariants as act
use Rattle.st_core.specs.Pid.{pid_on}
use Rattle.st_core.specs.Step.{Outcome}
use Rattle.st_core.specs.Run.{Stream, pids_of, run, stream}
use Rattle.st_core.specs.Verdict.{Yes, IsVerdict}
use Rattle.st_text.specs.Limits.{standard}
use Rattle.st_text.specs.Text.{Contents, spelling}
use Rattle.st_commands.specs.Checked.{top, Spells, IsChecked, Judged}
use Rattle.st_commands.proofs.OwedOutputs.{judgement}

-- ---- values

abbrev label_of : ℕ → Label
label_of n = record { 0 = n }

abbrev event_of : Kind → ℕ → ℕ → Pid → Option Pid → ℕ → Event
event_of k prev this from to v =
    record {
      label = label_of 17;
      kind = k;
      serial = record { prev = prev; this = this };
      from = from;
      to = to;
      value = v;
    }

abbrev a : Pid
a = pid_on 0 30

abbrev b : Pid
b = pid_on 0 31

-- the outcomes of a run that there is
abbrev outcomes_of : Option (List Outcome) → List Outcome
outcomes_of o = option_map_or (λ os. os) o []

-- ---- a traced print

abbrev print_bytes : List ℕ
print_bytes =
    codes "seqtrace 1\nprocess <0.30.0>\n{seq_trace,17,{print,{0,1},<0.30.0>,[],7}}\nacts\n"
    ++ codes
    "tracer <0.30.0> true\nset <0.30.0> label 17\nset <0.30.0> print true\nprint <0.30.0> 7\n"

abbrev print_stream : Stream
print_stream = record { pid = a; events = event_of kind.Print 0 1 a None 7 ∷ [] }

abbrev print_streams : List Stream
print_streams = print_stream ∷ []

abbrev print_acts : List Act
print_acts =
    act.Tracer a true ∷ act.Set a (component.Label (label_of 17)) ∷ act.Set a (component.Print true)
    ∷ act.Print a 7 ∷ []

print_spelled : Spells standard print_bytes print_streams (Some print_acts)
unfolding digits
print_spelled = record {
  text = record {
    bundle = record {
      streams = record {
        draft = record { rising = (tt, tt); own = ((refl, tt), tt) };
        listed = refl;
      };
      listed = refl;
      fits = omega arith;
    };
    spelled = refl;
  };
  within =
      let all : Contents = record { streams = print_streams; acts = Some print_acts } in
      let size : length (spelling all) ≡ 160 = refl in
      omega arith;
}

abbrev print_outcomes : List Outcome
print_outcomes = outcomes_of (run top (pids_of print_streams) print_acts)

print_verdict : IsVerdict top print_streams print_acts (Yes [])
print_verdict =
    let Reports = λ (x : Stream). stream print_acts print_outcomes x.pid ≡ x.events in
    (print_outcomes, refl, All-cons Reports print_stream [] refl (All-nil Reports), refl)

print_is_yes : IsChecked standard print_bytes (record { text = codes "yes\n"; status = 0 })
print_is_yes =
    Judged print_bytes (Yes []) (judgement standard print_bytes print_streams print_acts
    (Yes []) print_spelled
    print_verdict)

-- ---- two receives whose sends nobody reported

abbrev hidden_bytes : List ℕ
hidden_bytes =
    codes "seqtrace 1\nprocess <0.30.0>\n{seq_trace,17,{print,{0,1},<0.30.0>,[],7}}\n"
    ++ codes "{seq_trace,17,{'receive',{2,4},<0.31.0>,<0.30.0>,6}}\nprocess <0.31.0>\n"
    ++ codes "{seq_trace,17,{'receive',{0,2},<0.30.0>,<0.31.0>,5}}\n"
    ++ codes "{seq_trace,17,{print,{2,3},<0.31.0>,[],8}}\nacts\ntracer <0.30.0> true\n"
    ++ codes "restore <0.30.0> 17 false false true 0 0 <0.30.0>\nprint <0.30.0> 7\n"
    ++ codes "restore <0.30.0> 17 false true false 0 0 <0.30.0>\nsend <0.30.0> <0.31.0> 5\n"
    ++ codes "receive <0.31.0> place 0\nrestore <0.31.0> 17 false false true 0 0 <0.31.0>\n"
    ++ codes "print <0.31.0> 8\nrestore <0.31.0> 17 false true false 0 0 <0.31.0>\n"
    ++ codes "send <0.31.0> <0.30.0> 6\n" ++ codes "receive <0.30.0> place 0\n"

abbrev token_of : Bool → Bool → Pid → Token
token_of r p from =
    record {
      label = label_of 17;
      flags = record { send = false; receive = r; print = p };
      serial = record { prev = 0; this = 0 };
      from = from;
    }

abbrev a_stream : Stream
a_stream = record {
  pid = a;
  events = event_of kind.Print 0 1 a None 7 ∷ event_of kind.Receive 2 4 b (Some a) 6 ∷ [];
}

abbrev b_stream : Stream
b_stream = record {
  pid = b;
  events = event_of kind.Receive 0 2 a (Some b) 5 ∷ event_of kind.Print 2 3 b None 8 ∷ [];
}

abbrev hidden_streams : List Stream
hidden_streams = a_stream ∷ b_stream ∷ []

abbrev hidden_acts : List Act
hidden_acts =
    act.Tracer a true ∷ act.Restore a (token_of false true a) ∷ act.Print a 7
    ∷ act.Restore a (token_of true false a) ∷ act.Send a b 5
    ∷ act.Receive b (want.Place 0) ∷ act.Restore b (token_of false true b) ∷ act.Print b 8
    ∷ act.Restore b (token_of true false b) ∷ act.Send b a 6 ∷ act.Receive a (want.Place 0) ∷ []

hidden_spelled : Spells standard hidden_bytes hidden_streams (Some hidden_acts)
unfolding digits
hidden_spelled = record {
  text = record {
    bundle = record {
      streams = record {
        draft = record {
          rising = ((refl, tt), (tt, tt));
          own = ((refl, (refl, tt)), ((refl, (refl, tt)), tt));
        };
        listed = refl;
      };
      listed = refl;
      fits = omega arith;
    };
    spelled = refl;
  };
  within =
      let all : Contents = record { streams = hidden_streams; acts = Some hidden_acts } in
      let size : length (spelling all) ≡ 597 = refl in
      omega arith;
}

abbrev hidden_outcomes : List Outcome
hidden_outcomes = outcomes_of (run top (pids_of hidden_streams) hidden_acts)

abbrev hidden_pairs : List (ℕ × ℕ)
hidden_pairs = (5, 4) ∷ (10, 9) ∷ []

hidden_verdict : IsVerdict top hidden_streams hidden_acts (Yes hidden_pairs)
hidden_verdict =
    let Reports = λ (x : Stream). stream hidden_acts hidden_outcomes x.pid ≡ x.events in (
      hidden_outcomes,
      refl,
      All-cons Reports a_stream (b_stream ∷ []) refl
          (All-cons Reports b_stream [] refl (All-nil Reports)),
      refl,
    )

hidden_is_yes : IsChecked standard hidden_bytes
    (record { text = codes "yes\npair 5 4\npair 10 9\n"; status = 0 })
unfolding digits
hidden_is_yes =
    Judged hidden_bytes (Yes hidden_pairs)
    (judgement standard hidden_bytes hidden_streams hidden_acts
    (Yes hidden_pairs) hidden_spelled hidden_verdict)
