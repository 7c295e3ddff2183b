-- Only a completion has status 0, only a reason 1, and only a completion that is too long 5: so an
-- output with the status is the rest of that kind.
use Rattle.std.proofs.Common.{◌≡◌, ◌≤◌, ℕ, List, refl, sym, ap, arith}
use Rattle.st_core.specs.Run.{Stream}
use Rattle.st_text.specs.declared.fault.ReadFault.{ReadFault}
use Rattle.st_text.specs.declared.fault.ReadFault.TheVariants as faults
use Rattle.st_commands.specs.Output.{fault_status, Output}
use Rattle.st_commands.specs.Checked.{top}
use Rattle.st_commands.proofs.ForCallers.{fault_status_high}
use Rattle.lack_decide.specs.declared.answer.Never.TheVariants as never
use Rattle.lack_decide.specs.declared.answer.Never.{Never}
use Rattle.lack_decide.specs.declared.answer.Answer.{Answer}
use Rattle.lack_decide.specs.Answers.{IsFinal, NeverShownWithOthers}
use Rattle.seqtool_commands.specs.declared.complete.Form.{Form}
use Rattle.seqtool_commands.specs.Complete.{Adds, Answered, Answers, Certifies, Completes, Faulty}
use Rattle.seqtool_commands.specs.Complete.{HasAnswer, IsOutputOfComplete, IsLong, IsNever}
use Rattle.seqtool_commands.specs.Complete.{IsUncertified, Uncompleted, completed_text}
use Rattle.seqtool_commands.specs.Complete.{MeansCompleted, MeansLong, MeansNever}

final_here : (streams : List Stream) (r : Never) → IsFinal top streams r
    → NeverShownWithOthers top streams
final_here streams never.PrevNotBefore final = final top
final_here streams (never.NotRising j) final = final top
final_here streams (never.Repeated q j) final = final top
final_here streams (never.Mismatch q j) final = final top
final_here streams (never.Late j) final = final top
final_here streams never.Unfounded final = final top
final_here streams never.TooHigh final = final

completion_of : (f : Form) (bytes : List ℕ) (streams : List Stream) (found : Answer) (out : Output)
    → HasAnswer bytes streams found → Answers f streams found out → out.status ≡ 0
    → MeansCompleted f bytes out
completion_of f bytes streams _ _ has (Adds c is) e =
    record {
      streams = streams;
      given = has.given;
      completed = c;
      acts = has.is.shown.acts;
      spelled = has.spelled;
      apart = has.is.completes.apart;
      shows = has.is.shown.shows;
      one_trace = has.is.shown.one_trace;
      few = λ bundle. absurd (bundle is);
      short = λ same. absurd (cc (is, same));
      told = has.is.completes.is.told;
      lacks = has.is.lacks;
      needed = has.is.completes.needed;
      text = sym (ap (λ (g : Form). completed_text g streams c (has.is.shown.acts)) is);
    }
completion_of f bytes streams _ _ has (Completes c is few) e =
    record {
      streams = streams;
      given = has.given;
      completed = c;
      acts = has.is.shown.acts;
      spelled = has.spelled;
      apart = has.is.completes.apart;
      shows = has.is.shown.shows;
      one_trace = has.is.shown.one_trace;
      few = λ _. few;
      short = λ same. absurd (cc (is, same));
      told = has.is.completes.is.told;
      lacks = has.is.lacks;
      needed = has.is.completes.needed;
      text = sym (ap (λ (g : Form). completed_text g streams c (has.is.shown.acts)) is);
    }
completion_of f bytes streams _ _ has (Certifies c acts is shows one_trace few short) e =
    record {
      streams = streams;
      given = has.given;
      completed = c;
      acts = acts;
      spelled = has.spelled;
      apart = has.is.completes.apart;
      shows = shows;
      one_trace = one_trace;
      few = λ _. few;
      short = λ _. short;
      told = has.is.completes.is.told;
      lacks = has.is.lacks;
      needed = has.is.completes.needed;
      text = sym (ap (λ (g : Form). completed_text g streams c (acts)) is);
    }
completion_of f bytes streams _ _ has (IsLong c is) e = absurd (omega arith)
completion_of f bytes streams _ _ has (IsUncertified c is enough) e = absurd (omega arith)
completion_of f bytes streams _ _ has (IsNever p i r) e = absurd (omega arith)

pub completed_means : (f : Form) (bytes : List ℕ) (out : Output) → IsOutputOfComplete f bytes out
    → out.status ≡ 0
    → MeansCompleted f bytes out
completed_means f bytes out (Answered b streams found o has is) e =
    completion_of f bytes streams found out has is e
completed_means f bytes out (Uncompleted b streams given spelled none) e = absurd (omega arith)
completed_means f bytes out (Faulty b x is) e = let high = fault_status_high x in
    absurd (omega arith)

reason_of : (f : Form) (bytes : List ℕ) (streams : List Stream) (found : Answer) (out : Output)
    → HasAnswer bytes streams found → Answers f streams found out → out.status ≡ 1
    → MeansNever bytes out
reason_of f bytes streams _ _ has (Adds c is) e = absurd (omega arith)
reason_of f bytes streams _ _ has (Completes c is few) e = absurd (omega arith)
reason_of f bytes streams _ _ has (Certifies c acts is shows one_trace few short) e =
    absurd (omega arith)
reason_of f bytes streams _ _ has (IsLong c is) e = absurd (omega arith)
reason_of f bytes streams _ _ has (IsUncertified c is enough) e = absurd (omega arith)
reason_of f bytes streams _ _ has (IsNever p i r) e =
    record {
      streams = streams;
      given = has.given;
      pid = p;
      index = i;
      reason = r;
      spelled = has.spelled;
      ruled_out = final_here streams r has.is.final;
      holds = has.is.holds;
      text = refl;
    }

pub never_means : (f : Form) (bytes : List ℕ) (out : Output) → IsOutputOfComplete f bytes out
    → out.status ≡ 1
    → MeansNever bytes out
never_means f bytes out (Answered b streams found o has is) e =
    reason_of f bytes streams found out has is e
never_means f bytes out (Uncompleted b streams given spelled none) e = absurd (omega arith)
never_means f bytes out (Faulty b x is) e = let high = fault_status_high x in absurd (omega arith)

long_of : (f : Form) (bytes : List ℕ) (streams : List Stream) (found : Answer) (out : Output)
    → HasAnswer bytes streams found → Answers f streams found out → out.status ≡ 5
    → MeansLong f bytes out
long_of f bytes streams _ _ has (Adds c is) e = absurd (omega arith)
long_of f bytes streams _ _ has (Completes c is few) e = absurd (omega arith)
long_of f bytes streams _ _ has (Certifies c acts is shows one_trace few short) e =
    absurd (omega arith)
long_of f bytes streams _ _ has (IsLong c is) e =
    record {
      streams = streams;
      given = has.given;
      completed = c;
      spelled = has.spelled;
      whole = has.is;
      too_long = is;
      text = refl;
    }
long_of f bytes streams _ _ has (IsUncertified c is enough) e = absurd (omega arith)
long_of f bytes streams _ _ has (IsNever p i r) e = absurd (omega arith)

fault_status_low : (x : ReadFault) → fault_status x ≤ 4
fault_status_low faults.Memory = omega arith
fault_status_low faults.Device = omega arith
fault_status_low faults.TooLarge = omega arith
fault_status_low (faults.Line n) = omega arith
fault_status_low (faults.Order n) = omega arith
fault_status_low (faults.Foreign n) = omega arith
fault_status_low (faults.Unknown n) = omega arith
fault_status_low (faults.TooMany n) = omega arith
fault_status_low faults.Truncated = omega arith

pub long_means : (f : Form) (bytes : List ℕ) (out : Output) → IsOutputOfComplete f bytes out
    → out.status ≡ 5
    → MeansLong f bytes out
long_means f bytes out (Answered b streams found o has is) e =
    long_of f bytes streams found out has is e
long_means f bytes out (Uncompleted b streams given spelled none) e = absurd (omega arith)
long_means f bytes out (Faulty b x is) e = let low = fault_status_low x in absurd (omega arith)
