-- Each test decides about all readings and all tokens.
use Rattle.std.proofs.Common.{ℕ, List, max, refl, sym, ◌∙◌, ap}
use Rattle.std.specs.List.{list_any}
use Rattle.std.proofs.lemmas.Bool.{false≢true}
use Rattle.node_machine.specs.Readings.{is_next}
use Rattle.node_machine.specs.Given.{tokens}
use Rattle.node_given.proofs.Decisions.{not_given, not_put_back, plain_way, put_back_needed}
use Rattle.node_given.proofs.walk.Walk.way.Goals as goal

pub returns-then-some_goes_on : goal.returns-then-some_goes_on
returns-then-some_goes_on c = λ es kind known.
    let w = c.args.self.now in
    let e = c.args.stamp in
    let test = λ (ks : List ℕ). list_any (λ k. is_next (max k w.lift) w.last e) ks in (
      kind,
      plain_way es w.clocks.items w.lift w.last w.takes w.tokens known e
          (ap test (sym c.deref.ensures.value) ∙ sym c.some_goes_on.ensures
          ∙ c.if-some_goes_on.true),
    )

pub returns-then-has : goal.returns-then-has
returns-then-has c = λ es kind known.
    let w = c.args.self.now in
    let e = c.args.stamp in
    let test = λ (ks : List ℕ). list_any (λ k. is_next (max k w.lift) w.last e) ks in (
      kind,
      put_back_needed es w.clocks.items w.lift w.last w.takes w.tokens known e
          (ap test (sym c.deref.ensures.value) ∙ sym c.some_goes_on.ensures
          ∙ c.if-some_goes_on.false),
      record {
        held = c.has.ensures.found (tokens es) known.tokens_are c.if-has.true;
        prev = refl;
        count = sym c.count_before-this.ensures.next;
      },
    )

pub returns-in-Some : goal.returns-in-Some
returns-in-Some c = λ es kind known.
    let w = c.args.self.now in
    let e = c.args.stamp in
    let test = λ (ks : List ℕ). list_any (λ k. is_next (max k w.lift) w.last e) ks in (
      kind,
      put_back_needed es w.clocks.items w.lift w.last w.takes w.tokens known e
          (ap test (sym c.deref.ensures.value) ∙ sym c.some_goes_on.ensures
          ∙ c.if-some_goes_on.false),
      c.in-Some.ensures.found es known,
      not_put_back es w.clocks.items w.lift w.last w.takes w.tokens known e
          c.count_before-this.result c.count_before-this.ensures.next
          c.count_before-this.ensures.fits
          (λ held. false≢true (sym c.if-has.false ∙ c.has.ensures.missing (tokens es)
          known.tokens_are held)),
    )

pub returns-in-None : goal.returns-in-None
returns-in-None c = λ es kind known.
    let w = c.args.self.now in
    let e = c.args.stamp in
    let test = λ (ks : List ℕ). list_any (λ k. is_next (max k w.lift) w.last e) ks in (
      kind,
      λ given. not_given es w.clocks.items w.lift w.last w.takes w.tokens known e
          c.count_before-this.result c.count_before-this.ensures.next
          c.count_before-this.ensures.fits
          (put_back_needed es w.clocks.items w.lift w.last w.takes w.tokens known e
          (ap test (sym c.deref.ensures.value) ∙ sym c.some_goes_on.ensures
          ∙ c.if-some_goes_on.false))
          (λ held. false≢true (sym c.if-has.false ∙ c.has.ensures.missing (tokens es)
          known.tokens_are held))
          (λ token low. false≢true (c.in-None.ensures.missing es known token low)) given,
    )
