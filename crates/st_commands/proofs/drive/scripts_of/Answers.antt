-- One more act is appended to the script of its own process.
use Rattle.std.proofs.Common.{◌<◌, length, ap, ◌∙◌}
use Rattle.std.proofs.lemmas.List.{with_items_is}
use Rattle.st_core.specs.Run.{pids_of}
use Rattle.st_commands.proofs.Scripts.{none_yet, next_unscripted, next_scripted, script_within}
use Rattle.st_commands.proofs.drive.scripts_of.Goals as goal
use Rattle.st_commands.proofs.drive.scripts_of.Goals.{in-Some+in_ok-push_at, in_default}

pub loop-act-init : goal.loop-act-init
loop-act-init c = c.in_ok-scripts.ensures ∙ rw c.pids.ensures.value
    (none_yet (pids_of c.args.streams.now))

pub push_at-requires : goal.push_at-requires
push_at-requires c =
    rw c.deref_mut.ensures.value (script_within _ _ _ _ c.in-Some.place c.loop-act.invariant
    c.in-Some.ensures.found)

pub loop-act-preserved : goal.loop-act-preserved
loop-act-preserved c =
    let all = c.as_slice-act-items.ensures in
    let within : c.loop-act.act-index < length c.args.acts = rw (← all) c.loop-act-test.true in
    elim c.match-place_of.branch [
      | in-Some+in_ok-push_at w ↦
          let rising = c.pids.ensures.streams.draft.rising in
          let at = rw (c.actor.ensures, all) at w.in-Some.ensures.found in
          let new = rw (w.deref_mut.ensures.value, all) at w.in_ok-push_at.ensures.ok in
          ap (λ v. v.items) w.scripts-is
          ∙ with_items_is c.loop-act.scripts w.push_at.new.scripts
          (w.push_at.auto.scripts ∙ w.deref_mut.ensures.len)
          ∙ new
          ∙ next_scripted (pids_of c.args.streams.now) c.args.acts c.loop-act.act-index _
          c.loop-act.scripts.items w.in-Some.place c.loop-act.invariant within rising at
      | in_default w ↦
          let others = rw (c.actor.ensures, all) at w.in_default.ensures.missing in
          ap (λ v. v.items) w.scripts-is
          ∙ next_unscripted (pids_of c.args.streams.now) c.args.acts c.loop-act.act-index _
          c.loop-act.scripts.items c.loop-act.invariant within others
    ]
