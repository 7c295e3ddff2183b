-- The acts show the streams with their unlisted processes; running out of memory has a line of its
-- own.
use Rattle.std.proofs.Common.{◌≡◌, ℕ, List, refl, subst, arith}
use Rattle.st_core.specs.Run.{Shows, Stream}
use Rattle.st_text.specs.Limits.{greater}
use Rattle.st_commands.specs.Output.{no_memory, bundled}
use Rattle.st_commands.specs.Checked.{top}
use Rattle.st_plan.specs.Marks.{Whole}
use Rattle.lack_decide.specs.Bounds.{IsCertificateFault}
use Rattle.lack_decide.specs.declared.answer.Answer.TheVariants as answer
use Rattle.lack_decide.specs.declared.answer.CertificateFault.{CertificateFault}
use Rattle.lack_laws.specs.Silent.{with_silent}
use Rattle.seqtool_commands.specs.Complete.{Certifies, HasActs, IsLong, IsUncertified, long}
use Rattle.seqtool_commands.specs.Complete.{uncertified}
use Rattle.seqtool_commands.specs.Parts.{Finds, NoRoomToComplete}
use Rattle.seqtool_commands.proofs.complete.tell_shown.Goals as goal

-- the facts about a fault are those about an equal one
fault_is : (wholes : List Whole) (most : ℕ) {f f2 : CertificateFault}
    → IsCertificateFault wholes most f → f ≡ f2 → IsCertificateFault wholes most f2
fault_is wholes most known is = subst (IsCertificateFault wholes most) is known

pub returns-in-Ok : goal.returns-in-Ok
returns-in-Ok g c =
    let acts = c.in-Ok.found.acts in
    let more = with_silent c.args.streams.now c.args.completion.now.unlisted in
    record {
      output = bundled more acts;
      owed = Finds (answer.Whole c.args.completion.now) (bundled more acts) c.requires.whole
          (Certifies c.args.completion.now acts refl
          (subst (λ (xs : List Stream). Shows top xs acts) c.requires.more
          c.in-Ok.ensures.certified.shows)
          c.in-Ok.ensures.certified.one_trace c.requires.few c.in-Ok.ensures.certified.within);
      delivered = rw (c.as_slice.ensures, c.requires.more) at c.tell_bundle.ensures;
    }

pub returns-in-Err-TooManyActs : goal.returns-in-Err-TooManyActs
returns-in-Err-TooManyActs g c =
    record {
      output = long;
      owed = Finds (answer.Whole c.args.completion.now) long c.requires.whole
          (IsLong c.args.completion.now
          (HasActs refl (fault_is c.args.completion.now.wholes greater.acts
          c.in-Err-TooManyActs.ensures.fault
          c.in-Err-TooManyActs.field-0-is)));
      delivered = c.tell_line.ensures;
    }

pub returns-in-Err-Uncertified : goal.returns-in-Err-Uncertified
returns-in-Err-Uncertified g c =
    let enough = fault_is c.args.completion.now.wholes greater.acts
    c.in-Err-Uncertified.ensures.fault
    c.in-Err-Uncertified.field-0-is in
    record {
      output = uncertified;
      owed = Finds (answer.Whole c.args.completion.now) uncertified c.requires.whole
          (IsUncertified c.args.completion.now refl (omega (arith, enough)));
      delivered = c.tell_line-in-Err-Uncertified.ensures;
    }

pub returns-in-Err-Memory : goal.returns-in-Err-Memory
returns-in-Err-Memory g c =
    record { output = no_memory; owed = NoRoomToComplete; delivered = c.tell_fault.ensures }
