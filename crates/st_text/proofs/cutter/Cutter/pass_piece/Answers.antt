-- Each newline ends a line, and the bytes after the last newline join the unfinished line.
use Rattle.std.proofs.Common.{◌≡◌, ◌∙◌, ◌++◌, ◌∷◌, [], List, ℕ, refl, sym, ap, subst, append_assoc}
use Rattle.std.proofs.lemmas.List.{append-nil}
use Rattle.st_text.specs.Parts.Cutter.{HasNoNewline}
use Rattle.st_text.specs.Parts.CutterState.{HasTaken}
use Rattle.st_text.proofs.CutterSteps.{holds_over, not_out, plain_front, plain_all, at_newline}
use Rattle.st_text.proofs.CutterSteps.{grows_by, grows_at_end, line_whole}
use Rattle.st_text.proofs.cutter.Cutter.pass_piece.Goals as goal

-- done and the rest are the piece
whole : (bytes done rest piece : List ℕ) → piece ≡ done ++ rest
    → (bytes ++ done) ++ rest ≡ bytes ++ piece
whole bytes done rest piece e =
    append_assoc bytes done rest ∙ ap (λ (x : List ℕ). bytes ++ x) (sym e)

pub loop-rest-init : goal.loop-rest-init
loop-rest-init c =
    let s = c.args.self.now in
    record {
      done = [];
      parts = refl;
      whole = λ bytes some. refl;
      comes = λ bytes h. record {
        holds = subst (λ (t : List ℕ). HasTaken c.args.limits t s) (sym (append-nil bytes)) h;
        growth = λ out going. not_out s.out going out;
      };
    }

pub returns-in_default : goal.returns-in_default
returns-in_default c = λ bytes h.
    let i = c.loop-rest.invariant in
    let rest = c.loop-rest.rest.now in
    let k = c.keep.ensures.holds c.args.limits (bytes ++ i.done)
    (plain_all rest c.in_default.ensures)
    (i.comes bytes h).holds in
    record {
      holds =
          subst (λ (t : List ℕ). HasTaken c.args.limits t c.keep.new.self)
          (whole bytes i.done rest c.args.piece.now i.parts)
          k.holds;
      growth = λ out going. grows_at_end c.args.limits bytes c.args.piece.now i.done rest i.parts
          (k.growth out);
    }

pub loop-rest-preserved : goal.loop-rest-preserved
loop-rest-preserved c =
    let i = c.loop-rest.invariant in
    let rest = c.loop-rest.rest.now in
    let piece = c.args.piece.now in
    let line = c.split_at.result.0.now in
    let more = c.split_at-in-loop-rest.result.1.now in
    let front = c.split_at.ensures.front in
    let at = at_newline rest c.in-Some.i c.in-Some.ensures.0.high c.in-Some.ensures.1 in
    let parts : rest ≡ (line ++ 10 ∷ []) ++ more =
    rw (c.split_at-in-loop-rest.ensures.back, c.split_at.ensures.back, front) at in
    let plain : HasNoNewline line =
    subst HasNoNewline (sym front) (plain_front rest c.in-Some.i c.in-Some.ensures.0.before) in
    let all : piece ≡ i.done ++ ((line ++ 10 ∷ []) ++ more) =
    i.parts ∙ ap (λ (x : List ℕ). i.done ++ x) parts in
    record {
      done = i.done ++ (line ++ 10 ∷ []);
      parts = all ∙ sym (append_assoc i.done (line ++ 10 ∷ []) more);
      whole = λ bytes some. line_whole bytes i.done line some;
      comes = λ bytes h.
          let e = c.end_line.ensures (bytes ++ i.done) plain (i.comes bytes h).holds in
          record {
            holds =
                subst (λ (t : List ℕ). HasTaken c.args.limits t c.end_line.new.self)
                (append_assoc bytes i.done (line ++ 10 ∷ []))
                e.holds;
            growth = λ out going. grows_by c.args.limits bytes piece i.done line more all
                (i.whole bytes)
                (e.growth out);
          };
    }

pub returns : goal.returns
returns c = λ bytes h.
    let i = c.loop-rest.invariant in
    let s = c.loop-rest.self in
    let rest = c.loop-rest.rest.now in
    let over = sym c.is_over.ensures ∙ c.loop-rest-test.false in
    let t = i.comes bytes h in
    let held = holds_over c.args.limits s.out s.fault (bytes ++ i.done) rest s.long s.tail.items
    s.builder over
    t.holds in
    record {
      holds = subst (λ (t : List ℕ). HasTaken c.args.limits t s)
          (whole bytes i.done rest c.args.piece.now i.parts)
          held;
      growth = t.growth;
    }
