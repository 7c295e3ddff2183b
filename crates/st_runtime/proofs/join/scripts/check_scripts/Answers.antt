-- The act comes next in the script of its process, and at the end no script has acts left.
use Rattle.std.proofs.Common.{◌≡◌, ◌∙◌, ◌+◌, ◌<◌, List, [], length, get_or, take, Some, ap, subst}
use Rattle.std.proofs.Common.{arith}
use Rattle.std.specs.Prelude.{slice_get}
use Rattle.std.proofs.lemmas.List.{get_or_default, length-set, take_all}
use Rattle.st_core.specs.declared.types.Act.{Act}
use Rattle.st_core.specs.declared.types.Act.TheVariants as act
use Rattle.st_core.specs.Pid.{pid_on}
use Rattle.st_core.specs.Step.{actor}
use Rattle.st_runtime.proofs.Members.{got_at}
use Rattle.st_runtime.proofs.Scripted.{AreBegun, further_at, all_made}
use Rattle.st_runtime.proofs.join.scripts.check_scripts.Goals as goal

pub loop-act-preserved : goal.loop-act-preserved
loop-act-preserved c =
    let ps = c.args.pids.now in
    let acts = c.args.acts.now in
    let scripts = c.args.scripts.now in
    let made = c.loop-act.made.items in
    let k = c.loop-act.act-index in
    let place = c.in-Some.place in
    let m = c.in-Some-made_with.next in
    let p = pid_on 0 0 in
    let d : Act = act.Send p p 0 in
    let a = get_or acts k d in
    let within : k < length acts = omega (arith, c.loop-act-test.true) in
    let at : slice_get ps place ≡ Some (actor a) =
    c.in-Some.ensures.some ∙ ap Some c.actor-me.ensures in
    let listed = (got_at ps place (actor a) p at).0 in
    let here : c.index.result.now ≡ get_or made place 0 =
    c.index.ensures
    ∙ get_or_default made place _ 0 (omega (arith, listed, c.loop-act.invariant.1)) in
    let script : c.as_slice.result.now ≡ get_or scripts place [] =
    c.as_slice.ensures ∙ c.index-scripts-place.is
    ∙ get_or_default scripts place _ [] (omega (arith, listed, c.requires.each)) in
    let next : slice_get (get_or scripts place []) (get_or made place 0) ≡ Some a =
    subst (λ n. slice_get (get_or scripts place []) n ≡ Some a) here
    (subst (λ (xs : List Act). slice_get xs c.index.result.now ≡ Some a) script
    c.in-Some-made_with.ensures.next) in
    let count : m ≡ get_or made place 0 + 1 =
    c.in-Some-made_with.ensures.count ∙ ap (λ n. n + 1) here in (
      further_at ps acts made scripts place k m d c.requires.rising within c.loop-act.invariant.1 at
          next count c.loop-act.invariant.0,
      length-set made place m ∙ c.loop-act.invariant.1,
    )

pub returns : goal.returns
returns c =
    let ps = c.args.pids.now in
    let acts = c.args.acts.now in
    let scripts = c.args.scripts.now in
    let made = c.loop-act.made.items in
    let k = c.loop-act.act-index in
    let ended = rw c.deref.ensures.value at c.in-None.ensures in
    let all : take k acts ≡ acts = take_all k acts (omega (arith, c.loop-act-test.false)) in
    all_made ps acts made scripts c.requires.each
    (subst (λ xs. AreBegun ps xs made scripts) all c.loop-act.invariant.0) ended
