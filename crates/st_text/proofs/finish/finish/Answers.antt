-- The faults that only the whole text shows are read off what the builder kept.
use Rattle.std.proofs.Common.{◌≡◌, ◌∙◌, Some, None, List, Option, sym, ap, subst, arith}
use Rattle.st_core.specs.declared.types.Act.{Act}
use Rattle.st_core.specs.Run.{Stream}
use Rattle.st_core.specs.Streams.{IsStreams}
use Rattle.st_text.specs.Text.{unlisted_act}
use Rattle.st_text.specs.Parts.Builder.{so_far}
use Rattle.st_text.specs.Parts.Finish.{event_line_number}
use Rattle.st_text.specs.declared.fault.ReadFault.TheVariants as faults
use Rattle.st_text.proofs.ClosingFaults.{closing_needless, closing_event, closing_act, act_within}
use Rattle.st_text.proofs.finish.finish.Goals as goal

pub returns-then-is_needless : goal.returns-then-is_needless
returns-then-is_needless c =
    λ ls s few. closing_needless c.args.builder ls s
    (sym c.is_needless.ensures ∙ c.if-is_needless.true)

pub returns-in-Err : goal.returns-in-Err
returns-in-Err c = λ ls s few.
    let p = c.args.builder in
    let u = c.in-Err.unlisted in
    let at =
    closing_event p ls u.pid u.index s (sym c.is_needless.ensures ∙ c.if-is_needless.false)
    c.in-Err.ensures.place in
    let same : event_line_number u.draft u.pid u.index ≡ event_line_number p.draft u.pid u.index =
    ap (λ (d : List Stream). event_line_number d u.pid u.index) c.in-Err.ensures.err in
    let exact = c.event_line-n.ensures (omega (arith, same, at.1, few)) in
    at.0 ∙ ap (λ n. Some (faults.Unknown n)) (sym (exact ∙ same))

pub returns-in-Err-new : goal.returns-in-Err-new
returns-in-Err-new c = λ ls s few.
    let p = c.args.builder in
    let first =
    ap (λ (d : List Stream). unlisted_act d p.acts) (sym c.in-Ok.ensures.ok)
    ∙ c.in-Err-new.ensures.first in
    let at =
    closing_act p ls (Some c.in-Err-new.unknown.n) s
    (sym c.is_needless.ensures ∙ c.if-is_needless.false)
    c.in-Ok.ensures.streams.listed first in
    let within = act_within p.draft p.acts c.in-Err-new.unknown.n first in
    at
    ∙ ap (λ n. Some (faults.Unknown n)) (omega
    (arith, c.saturating_add.ensures, within, p.few_processes, p.few_events, p.few_acts))

pub returns-in-Ok-new : goal.returns-in-Ok-new
returns-in-Ok-new c = λ ls s few.
    let p = c.args.builder in
    let b = c.in-Ok-new.bundle in
    let draft : b.streams ≡ p.draft = c.in-Ok-new.ensures.parts.0 ∙ c.in-Ok.ensures.ok in
    let none = ap (λ (d : List Stream). unlisted_act d p.acts) (sym c.in-Ok.ensures.ok)
    ∙ c.in-Ok-new.ensures.listed in
    record {
      lines =
          s.lines ∙ ap (λ (d : List Stream). so_far p.wide d p.acts) (sym draft)
          ∙ ap (λ (o : Option (List Act)). so_far p.wide b.streams o)
          (sym c.in-Ok-new.ensures.parts.1);
      closes =
          closing_act p ls None s (sym c.is_needless.ensures ∙ c.if-is_needless.false)
          c.in-Ok.ensures.streams.listed
          none;
      streams = subst IsStreams (sym draft) c.in-Ok.ensures.streams;
      draft = draft;
      acts = c.in-Ok-new.ensures.parts.1;
    }
