-- The actor is at its place, and the receiver at the one that is found, which is another one if it
-- is another process.
use Rattle.std.proofs.Common.{◌≡◌, ◌≢◌, ◌∙◌, ℕ, Bool, List, get_or, Some, true, false, length}
use Rattle.std.proofs.Common.{refl, sym, ap, arith}
use Rattle.std.specs.Prelude.{slice_get}
use Rattle.std.proofs.lemmas.List.{length-set}
use Rattle.std.proofs.lemmas.Option.{same_Some}
use Rattle.st_core.specs.declared.types.Pid.{Pid}
use Rattle.st_core.specs.Pid.{pid_eq}
use Rattle.st_core.specs.Step.{actor, receiver}
use Rattle.st_core.proofs.ForCallers.{both_true, is_among-found, pid_eq-true, pid_eq-same}
use Rattle.st_log.specs.Entries.{entry_at}
use Rattle.st_runtime.proofs.Members.{got_at}
use Rattle.st_runtime.proofs.Passing.{length_pids, stepped_one, stepped_two}
use Rattle.st_runtime.proofs.join.walk.pass_two.Goals as goal

-- the receiver is at the actor's place, if it is the actor
alone : (ps : List Pid) (me : ℕ) (a to q : Pid) (b : Bool) → slice_get ps me ≡ Some a
    → b ≡ pid_eq to (get_or ps me q) → b ≡ true → slice_get ps me ≡ Some to
alone ps me a to q b mine is so =
    let same : to ≡ get_or ps me q = pid_eq-true to (get_or ps me q) (sym is ∙ so) in
    mine ∙ ap Some (sym (same ∙ (got_at ps me a q mine).1))

-- it is at another place, if it is another process
others : (ps : List Pid) (me them : ℕ) (a to q : Pid) (b : Bool) → slice_get ps me ≡ Some a
    → slice_get ps them ≡ Some to → b ≡ pid_eq to (get_or ps me q) → b ≡ false → me ≢ them
others ps me them a to q b mine theirs is unlike same =
    let one : a ≡ to = same_Some a to (sym mine ∙ ap (slice_get ps) same ∙ theirs) in
    let alike : pid_eq to (get_or ps me q) ≡ true =
    ap (pid_eq to) ((got_at ps me a q mine).1 ∙ one) ∙ pid_eq-same to in
    let apart : pid_eq to (get_or ps me q) ≡ false = sym is ∙ unlike in
    cc

pub returns-then-eq-clause-known : goal.returns-then-eq-clause-known
returns-then-eq-clause-known c sure =
    let ps = c.args.pids.now in
    let a = (entry_at c.args.log.now.entries c.args.place).act in
    let to = alone ps c.args.me (actor a) c.receiver_of-to.result _ c.eq.result c.requires.me
    c.eq.ensures c.if-eq.true in
    let is : c.receiver_of-to.result ≡ receiver a =
    c.receiver_of-to.ensures ∙ ap receiver c.act_at.ensures in
    both_true _ _ (is_among-found ps (actor a) c.args.me c.requires.me)
    (is_among-found ps (receiver a) c.args.me (to ∙ ap Some is))

pub returns-then-eq-clause-stepped : goal.returns-then-eq-clause-stepped
returns-then-eq-clause-stepped c sure =
    let ps = c.args.pids.now in
    let e = entry_at c.args.log.now.entries c.args.place in
    let to = alone ps c.args.me (actor e.act) c.receiver_of-to.result _ c.eq.result c.requires.me
    c.eq.ensures c.if-eq.true in
    let is : c.receiver_of-to.result ≡ receiver e.act =
    c.receiver_of-to.ensures ∙ ap receiver c.act_at.ensures in
    stepped_one e c.args.cursors.now ps c.args.me c.args.me c.requires.pids c.requires.rising
    c.requires.narrow c.requires.me (to ∙ ap Some is) c.advance_at.new.cursors refl
    (c.advance_at.ensures e c.requires.next)

pub advance_at-requires : goal.advance_at-requires
advance_at-requires c =
    let ps = c.args.pids.now in
    let a = actor (entry_at c.args.log.now.entries c.args.place).act in
    let within = (got_at ps c.args.me a a c.requires.me).0 in
    let long : length ps ≡ length c.args.cursors.now =
    ap length (sym c.requires.pids) ∙ length_pids c.args.cursors.now in
    omega (arith, within, long)

pub pass_at-requires-clause-at : goal.pass_at-requires-clause-at
pass_at-requires-clause-at c =
    let ps = c.args.pids.now in
    let e = entry_at c.args.log.now.entries c.args.place in
    let to = c.receiver_of-to.result in
    let within = (got_at ps c.in-Some.them to to c.in-Some.ensures.some).0 in
    let long : length ps ≡ length c.args.cursors.now =
    ap length (sym c.requires.pids) ∙ length_pids c.args.cursors.now in
    let moved = c.advance_at.ensures e c.requires.next in
    let still : length c.advance_at.new.cursors ≡ length c.args.cursors.now =
    ap length moved.written ∙ length-set c.args.cursors.now c.args.me moved.cursor in
    omega (arith, within, long, still)

pub returns-in-Some-clause-known : goal.returns-in-Some-clause-known
returns-in-Some-clause-known c sure =
    let ps = c.args.pids.now in
    let a = (entry_at c.args.log.now.entries c.args.place).act in
    let is : c.receiver_of-to.result ≡ receiver a =
    c.receiver_of-to.ensures ∙ ap receiver c.act_at.ensures in
    both_true _ _ (is_among-found ps (actor a) c.args.me c.requires.me)
    (is_among-found ps (receiver a) c.in-Some.them (c.in-Some.ensures.some ∙ ap Some is))

pub returns-in-Some-clause-stepped : goal.returns-in-Some-clause-stepped
returns-in-Some-clause-stepped c sure =
    let ps = c.args.pids.now in
    let e = entry_at c.args.log.now.entries c.args.place in
    let is : c.receiver_of-to.result ≡ receiver e.act =
    c.receiver_of-to.ensures ∙ ap receiver c.act_at.ensures in
    let apart = others ps c.args.me c.in-Some.them (actor e.act) c.receiver_of-to.result _
    c.eq.result c.requires.me c.in-Some.ensures.some c.eq.ensures c.if-eq.false in
    stepped_two e c.args.cursors.now ps c.args.me c.in-Some.them c.requires.pids c.requires.rising
    c.requires.narrow c.requires.me (c.in-Some.ensures.some ∙ ap Some is)
    c.advance_at.new.cursors c.pass_at.new.cursors (λ it. apart (sym it))
    (c.advance_at.ensures e c.requires.next) (c.pass_at.ensures sure)
