-- The definitions, computed on worked texts. Each field shows one rule.
use Rattle.std.proofs.Common.{◌≡◌, ℕ, List, [], ◌∷◌, ◌++◌, Some, None, refl}
use Rattle.std.specs.Prelude.{codes}
use Rattle.std.specs.Fmt.{digits}
use Rattle.st_core.specs.declared.types.Kind.TheVariants as kinds
use Rattle.st_core.specs.declared.types.Act.TheVariants as acts
use Rattle.st_core.specs.declared.types.Want.TheVariants as wants
use Rattle.st_core.specs.Pid.{pid_on}
use Rattle.st_text.specs.declared.fault.ReadFault.TheVariants as faults
use Rattle.st_text.specs.declared.line.Line.TheVariants as lines
use Rattle.st_text.specs.Limits.{standard}
use Rattle.st_text.specs.Spelling.{line}
use Rattle.st_text.specs.Text.{spelling}
use Rattle.st_text.specs.Parsing.{line_of, parse_rare, parse_line, number, parse_bool, parse_pid}
use Rattle.st_text.specs.Parsing.{parse_label, parse_serial, parse_kind, parse_head, parse_some_pid}
use Rattle.st_text.specs.Parsing.{parse_place, parse_ends, parse_event, parse_actor}
use Rattle.st_text.specs.Parsing.{parse_component, parse_both, parse_want, parse_flags, parse_token}
use Rattle.st_text.specs.Parsing.{parse_send, parse_receive, parse_print, parse_printat, parse_set}
use Rattle.st_text.specs.Parsing.{parse_restore, parse_tracer, parse_alone, parse_act}
use Rattle.st_text.specs.Fault.{fault_within, first_fault, line_fault, unknown_from}

-- the acts of the stored run
abbrev one_print : List ℕ
one_print =
    codes "tracer <0.30.0> true\nset <0.30.0> label 17\nset <0.30.0> print true\nprint <0.30.0> 7\n"

-- ---- runs: their last line, and whom events name

record WorkedRuns : Type 0 where
  -- the stored run: one traced print
  print_one :
      fault_within standard
      (codes "seqtrace 1\nprocess <0.30.0>\n{seq_trace,17,{print,{0,1},<0.30.0>,[],7}}\nacts\n"
      ++ one_print) ≡ None
  -- no leading zeros
  label_leading_zero :
      fault_within standard
      (codes "seqtrace 1\nprocess <0.30.0>\n{seq_trace,017,{print,{0,1},<0.30.0>,[],7}}\nacts\n"
      ++ one_print) ≡ Some (faults.Line 3)
  -- the last line is ended too
  last_newline_missing :
      fault_within standard
      (codes "seqtrace 1\nprocess <0.30.0>\n{seq_trace,17,{print,{0,1},<0.30.0>,[],7}}\nacts\n"
      ++ codes
      "tracer <0.30.0> true\nset <0.30.0> label 17\nset <0.30.0> print true\nprint <0.30.0> 7")
      ≡ Some faults.Truncated
  -- the first faulty line comes before the end
  line_before_truncated :
      fault_within standard
      (codes "seqtrace 1\nprocess <0.30.0>\n{seq_trace,017,{print,{0,1},<0.30.0>,[],7}}\nacts\n"
      ++ codes
      "tracer <0.30.0> true\nset <0.30.0> label 17\nset <0.30.0> print true\nprint <0.30.0> 7")
      ≡ Some (faults.Line 3)
  -- an event of another process than the last
  foreign_print :
      fault_within standard
      (codes "seqtrace 1\nprocess <0.30.0>\n{seq_trace,17,{print,{0,1},<0.31.0>,[],7}}\nacts\n"
      ++ one_print) ≡ Some (faults.Foreign 3)
  -- processes rise
  processes_falling :
      fault_within standard
      (codes "seqtrace 1\nprocess <0.31.0>\nprocess <0.30.0>\nacts\n") ≡ Some (faults.Order 3)
  -- an event's receiver is listed
  send_event_to_unlisted : fault_within standard (codes "seqtrace 1\nprocess <0.30.0>\n"
      ++ codes "{seq_trace,17,{send,{0,1},<0.30.0>,<0.31.0>,7}}\nacts\n"
      ++ one_print) ≡ Some (faults.Unknown 3)
  -- an event's sender is listed
  prefix_unlisted :
      fault_within standard
      (codes "seqtrace 1\nprocess <0.30.0>\n{seq_trace,17,{print,{0,1},<0.30.0>,[],7}}\n"
      ++ codes "{seq_trace,17,{'receive',{2,4},<0.31.0>,<0.30.0>,6}}\n") ≡ Some (faults.Unknown 4)

worked_runs : WorkedRuns
unfolding fault_within first_fault line_fault unknown_from line_of parse_line number parse_bool
    parse_pid parse_label parse_serial parse_kind parse_head parse_some_pid parse_place parse_ends
    parse_event parse_actor parse_component parse_both parse_want parse_flags parse_token parse_send
    parse_receive parse_print parse_printat parse_set parse_restore parse_tracer parse_alone
    parse_act parse_rare digits
worked_runs = record {
  print_one = refl;
  label_leading_zero = refl;
  last_newline_missing = refl;
  line_before_truncated = refl;
  foreign_print = refl;
  processes_falling = refl;
  send_event_to_unlisted = refl;
  prefix_unlisted = refl;
}

-- ---- headers, and short texts

record WorkedHeaders : Type 0 where
  -- header 1 allows pids of node 0 alone
  pid_other_node_header_1 :
      fault_within standard
      (codes "seqtrace 1\nprocess <1.30.0>\n") ≡ Some (faults.Line 2)
  -- header 2 is needless
  header_2_without_nodes :
      fault_within standard
      (codes "seqtrace 2\nprocess <0.30.0>\n") ≡ Some (faults.Line 1)
  -- but a truncated text comes before a needless header
  header_2_truncated :
      fault_within standard
      (codes "seqtrace 2\nprocess <0.30.0>") ≡ Some faults.Truncated
  -- and so does a faulty line
  header_2_order :
      fault_within standard
      (codes "seqtrace 2\nprocess <0.31.0>\nprocess <0.30.0>\n") ≡ Some (faults.Order 3)
  -- a pid in a want is enough for header 2
  header_2_by_want :
      fault_within standard
      (codes "seqtrace 2\nprocess <0.30.0>\nacts\nreceive <0.30.0> from <1.5.0>\n") ≡ None
  -- a pid that is named only by an unlisted actor counts as named
  unlisted_away :
      fault_within standard
      (codes "seqtrace 2\nprocess <0.30.0>\nacts\nclear <1.30.0>\n") ≡ Some (faults.Unknown 4)
  unlisted_here :
      fault_within standard
      (codes "seqtrace 2\nprocess <0.30.0>\nacts\nclear <0.31.0>\n") ≡ Some (faults.Line 1)
  -- no bytes
  no_bytes : fault_within standard (codes "") ≡ Some faults.Truncated
  -- no processes and no acts
  header_alone : fault_within standard (codes "seqtrace 1\n") ≡ None

worked_headers : WorkedHeaders
unfolding fault_within first_fault line_fault unknown_from line_of parse_line number parse_bool
    parse_pid parse_label parse_serial parse_kind parse_head parse_some_pid parse_place parse_ends
    parse_event parse_actor parse_component parse_both parse_want parse_flags parse_token parse_send
    parse_receive parse_print parse_printat parse_set parse_restore parse_tracer parse_alone
    parse_act parse_rare digits
worked_headers = record {
  pid_other_node_header_1 = refl;
  header_2_without_nodes = refl;
  header_2_truncated = refl;
  header_2_order = refl;
  header_2_by_want = refl;
  unlisted_away = refl;
  unlisted_here = refl;
  no_bytes = refl;
  header_alone = refl;
}

-- ---- lines

record WorkedLines : Type 0 where
  -- a newline is byte 10 alone
  carriage : fault_within standard (codes "seqtrace 1\r\n") ≡ Some (faults.Line 1)
  -- one space between words
  second_space :
      fault_within standard
      (codes "seqtrace 1\nprocess  <0.30.0>\n") ≡ Some (faults.Line 2)
  -- one header
  second_header : fault_within standard (codes "seqtrace 1\nseqtrace 1\n") ≡ Some (faults.Line 2)
  -- one word before the acts
  second_acts : fault_within standard (codes "seqtrace 1\nacts\nacts\n") ≡ Some (faults.Line 3)
  -- no process after the word
  process_behind_acts :
      fault_within standard
      (codes "seqtrace 1\nacts\nprocess <0.30.0>\n") ≡ Some (faults.Line 3)
  -- no event before any process
  event_alone :
      fault_within standard
      (codes "seqtrace 1\n{seq_trace,17,{print,{0,1},<0.30.0>,[],7}}\n") ≡ Some (faults.Line 2)
  -- a label is below 2^32
  label_too_great :
      fault_within standard
      (codes "seqtrace 1\nprocess <0.30.0>\nacts\nset <0.30.0> label 4294967296\n")
      ≡ Some (faults.Line 4)
  -- each form of an act
  every_act :
      fault_within standard
      (codes "seqtrace 2\nprocess <0.30.0>\nprocess <0.31.0>\nacts\nsend <0.30.0> <0.31.0> 5\n"
      ++ codes "receive <0.31.0> first\nreceive <0.31.0> from <1.9.0>\nreceive <0.31.0> value 5\n"
      ++ codes "receive <0.31.0> both <0.30.0> 5\nreceive <0.31.0> place 0\nprint <0.30.0> 7\n"
      ++ codes "printat <0.30.0> 1 7\nset <0.30.0> label 1\nset <0.30.0> send true\n"
      ++ codes "set <0.30.0> receive false\nset <0.30.0> print true\nclear <0.30.0>\n"
      ++ codes "restore <0.30.0> 17 true false true 0 18446744073709551615 <0.31.0>\n"
      ++ codes "look <0.30.0>\nreset <0.30.0>\ntracer <0.30.0> false\n") ≡ None

worked_lines : WorkedLines
unfolding fault_within first_fault line_fault unknown_from line_of parse_line number parse_bool
    parse_pid parse_label parse_serial parse_kind parse_head parse_some_pid parse_place parse_ends
    parse_event parse_actor parse_component parse_both parse_want parse_flags parse_token parse_send
    parse_receive parse_print parse_printat parse_set parse_restore parse_tracer parse_alone
    parse_act parse_rare digits
worked_lines = record {
  carriage = refl;
  second_space = refl;
  second_header = refl;
  second_acts = refl;
  process_behind_acts = refl;
  event_alone = refl;
  label_too_great = refl;
  every_act = refl;
}

-- ---- spellings

a_receive : line (lines.Event (record {
  label = record { 0 = 17 };
  kind = kinds.Receive;
  serial = record
      { prev = 2; this = 4 };
  from = pid_on 0 31;
  to = Some (pid_on 0 30);
  value = 6;
}))
    ≡ codes "{seq_trace,17,{'receive',{2,4},<0.31.0>,<0.30.0>,6}}"
unfolding digits
a_receive = refl

a_bundle : spelling (record {
  streams = record { pid = pid_on 1 30; events = [] }
      ∷ [];
  acts = Some (acts.Receive (pid_on 1 30) wants.First ∷ []);
})
    ≡ codes "seqtrace 2\nprocess <1.30.0>\nacts\nreceive <1.30.0> first\n"
unfolding digits
a_bundle = refl
