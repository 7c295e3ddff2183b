-- Each form has its text.
use Rattle.std.proofs.Common.{◌≡◌, ℕ, ◌<◌, ◌≤◌, Bool, false, inl, inr, IsTrue, sym, ◌∙◌, subst}
use Rattle.std.proofs.lemmas.Bool.{cases_lt, false≢true}
use Rattle.st_text.specs.Limits.{greater}
use Rattle.st_plan.specs.Marks.{all_streams}
use Rattle.lack_decide.specs.declared.answer.Answer.TheVariants as answer
use Rattle.st_commands.specs.Command.{call}
use Rattle.st_commands.proofs.ForCallers.{delivers}
use Rattle.seqtool_commands.specs.Renumber.{streams_output}
use Rattle.seqtool_commands.specs.Complete.{Adds, Completes, HasFewProcesses, HasProcesses, IsLong}
use Rattle.seqtool_commands.specs.Complete.{added_text, long, text_of_status}
use Rattle.seqtool_commands.specs.Parts.{CompletesTo, Finds}
use Rattle.seqtool_commands.proofs.complete.tell_completion.Goals as goal
use Rattle.seqtool_commands.proofs.complete.tell_completion.Goals.{else-ne-via-else-ne}
use Rattle.seqtool_commands.proofs.complete.tell_completion.Goals.{else-ne-via-then-ne+else-is_long}

few_if : (n : ℕ) (long : Bool) → (greater.processes < n → IsTrue long) → long ≡ false
    → n ≤ greater.processes
few_if n long is short = elim (cases_lt greater.processes n) [
  | inl less ↦ absurd (false≢true (sym short ∙ is less))
  | inr few ↦ few
]

pub tell_acts-requires-clause-few : goal.tell_acts-requires-clause-few
tell_acts-requires-clause-few g c = λ _ _. elim c.else-ne.branch [
  | else-ne-via-then-ne+else-is_long w ↦ few_if _ _ w.is_long.ensures.1 w.if-is_long.false
  | else-ne-via-else-ne w ↦
      absurd (false≢true (sym w.if-ne.false ∙ rw c.in-Acts.is at c.ne.ensures))
]

pub returns-then-is_long : goal.returns-then-is_long
returns-then-is_long g c =
    record {
      output = long;
      owed = Finds (answer.Whole c.args.completion.now) long c.requires
          (IsLong c.args.completion.now
          (HasProcesses (λ same. false≢true (sym (rw same at c.ne.ensures) ∙ c.if-ne.true))
          (c.is_long.ensures.0 c.if-is_long.true)));
      delivered = c.tell_line.ensures;
    }

pub returns-in-Acts : goal.returns-in-Acts
returns-in-Acts g c =
    let told = c.tell_acts.ensures in
    record {
      output = told.output;
      owed = subst (λ f. CompletesTo f c.args.streams.now told.output) (sym c.in-Acts.is) told.owed;
      delivered = told.delivered;
    }

pub returns-in-Streams : goal.returns-in-Streams
returns-in-Streams g c =
    let out = streams_output (all_streams c.args.completion.now.wholes) in
    let few : HasFewProcesses c.args.completion.now = elim c.else-ne.branch [
      | else-ne-via-then-ne+else-is_long w ↦ few_if _ _ w.is_long.ensures.1 w.if-is_long.false
      | else-ne-via-else-ne w ↦
          absurd (false≢true (sym w.if-ne.false ∙ rw c.in-Streams.is at c.ne.ensures))
    ] in
    record {
      output = out;
      owed = Finds (answer.Whole c.args.completion.now) out c.requires
          (Completes c.args.completion.now c.in-Streams.is few);
      delivered = rw c.streams-whole.ensures at c.tell_streams.ensures;
    }

pub returns-in-Added : goal.returns-in-Added
returns-in-Added g c =
    let out = text_of_status (added_text c.args.completion.now) 0 in
    record {
      output = out;
      owed = Finds (answer.Whole c.args.completion.now) out c.requires
          (Adds c.args.completion.now c.in-Added.is);
      delivered = delivers (call g.W.ByteSink _ _) out c.send_added-sent.result _
          c.send_added-sent.ensures
          c.status_of.ensures;
    }
