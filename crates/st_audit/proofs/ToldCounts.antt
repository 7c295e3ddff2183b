-- A reported item adds one to the count of its process, which is at the place of its pid alone.
use Rattle.std.proofs.Common.{◌≡◌, ◌≢◌, ℕ, ◌+◌, ◌^◌, ◌<◌, min, true, false, cond, List, [], ◌∷◌}
use Rattle.std.proofs.Common.{length, replicate, Some, slice_get, get_or, refl, sym, ◌∙◌, ap, subst}
use Rattle.std.proofs.Common.{arith}
use Rattle.std.specs.List.{AllByRecursion, slice_set}
use Rattle.std.proofs.Math.ListN.{length-map}
use Rattle.std.proofs.lemmas.Bool.{false≢true}
use Rattle.std.proofs.lemmas.Bool.Decides.{nat_tests}
use Rattle.std.proofs.lemmas.List.{get_or-replicate, length-replicate}
use Rattle.std.proofs.lemmas.Option.{same_Some, none-some, slice_get-get_or, slice_get_within}
use Rattle.st_core.specs.declared.types.Pid.{Pid}
use Rattle.st_core.specs.declared.types.Event.{Event}
use Rattle.st_core.specs.Pid.{pid_eq, IsRising}
use Rattle.st_core.specs.Run.{Stream, pids_of}
use Rattle.st_core.proofs.ForCallers.{pid_eq-refl, pid_same}
use Rattle.st_pair.specs.Places.{event_at}
use Rattle.st_pair.proofs.ForCallers.{missing_events, one_place, set_apart, set_same}
use Rattle.st_order.specs.declared.item.Item.TheVariants as item
use Rattle.st_plan.specs.Moves.{Move, move_by}
use Rattle.st_plan.specs.Plain.{event_count}
use Rattle.st_audit.specs.Progress.{AreTold, TellsOne}

-- a process that isn't listed has no events
pub not_missing : (streams : List Stream) (p : Pid) (i : ℕ) (e : Event)
    → AllByRecursion (λ q. pid_eq q p ≡ false) (pids_of streams) → event_at streams p i ≡ Some e → ⊥
not_missing streams p i e missing at =
    let none = missing_events streams p missing in
    none-some e (sym (ap (λ (es : List Event). slice_get es i) none) ∙ at)

pub place_below : (streams : List Stream) (place : ℕ) (p : Pid)
    → slice_get (pids_of streams) place ≡ Some p
    → place < length streams
place_below streams place p at =
    let within = slice_get_within (pids_of streams) place p at in
    let all = length-map streams (λ (x : Stream). x.pid) in
    omega arith

-- the count at the process's place goes up by one
pub tells_one : (streams : List Stream) (p : Pid) (i place count : ℕ) (old : List ℕ)
    → slice_get (pids_of streams) place ≡ Some p → slice_get old place ≡ Some i
    → count ≡ min (i + 1) 18446744073709551615
    → TellsOne streams p i old (slice_set old place count)
tells_one streams p i place count old is_place was put =
    let within = slice_get_within old place i was in
    record {
      place = place;
      is_place = is_place;
      was = was;
      now = λ fits.
          let next : count ≡ i + 1 = grind (arith, nat_tests) in
          set_same old place count within ∙ ap (λ (n : ℕ). Some n) next;
      others = λ k apart. set_apart old place k count (λ same. apart (sym same));
    }

-- the counts after a reported item are those of one move more
pub told_next : (streams : List Stream) (earlier : List Move) (old new : List ℕ) (p : Pid) (i : ℕ)
    (e : Event)
    → IsRising (pids_of streams) → AreTold streams earlier old → TellsOne streams p i old new
    → AreTold streams (move_by (item.Reported p i) e ∷ earlier) new
told_next streams earlier old new p i e rising are one k q at =
    elim (pid_eq p q) as (λ b. pid_eq p q ≡ b → event_count q earlier + cond b 1 0 < 2 ^ 64
    → slice_get new k ≡ Some (event_count q earlier + cond b 1 0)) [
      | true ↦ λ same fits.
          let who = pid_same p q same in
          let place : one.place ≡ k = one_place (pids_of streams) one.place k q rising
          (one.is_place ∙ ap (λ (x : Pid). Some x) who) at in
          let was : event_count q earlier ≡ i = same_Some (event_count q earlier) i
          (sym (are k q at (omega arith)) ∙ ap (slice_get old) (sym place) ∙ one.was) in
          ap (slice_get new) (sym place) ∙ one.now (omega arith)
          ∙ ap (λ (n : ℕ). Some (n + 1)) (sym was)
      | false ↦ λ apart fits.
          let other : k ≢ one.place = λ same.
          let who : p ≡ q = same_Some p q
          (sym one.is_place ∙ ap (slice_get (pids_of streams)) (sym same) ∙ at) in
          false≢true (sym apart ∙ ap (pid_eq p) (sym who) ∙ pid_eq-refl p) in
          let still : event_count q earlier ≡ event_count q earlier + 0 = omega arith in
          one.others k other ∙ are k q at (omega arith) ∙ ap (λ (n : ℕ). Some n) still
    ] refl

-- the counts after a hidden send are those of one move more
pub told_hidden : (streams : List Stream) (earlier : List Move) (counts : List ℕ) (p : Pid) (i : ℕ)
    (e : Event)
    → AreTold streams earlier counts
    → AreTold streams (move_by (item.Hidden p i) e ∷ earlier) counts
told_hidden streams earlier counts p i e are k q at fits =
    let still : event_count q earlier ≡ event_count q earlier + 0 = omega arith in
    are k q at (omega arith) ∙ ap (λ (n : ℕ). Some n) still

-- all counts are zero before the first item
pub none_told : (streams : List Stream) (pids : List Pid) (counts : List ℕ)
    → counts ≡ replicate (length pids) 0
    → pids ≡ pids_of streams → AreTold streams [] counts
none_told streams pids counts are is k p at fits =
    let within = slice_get_within (pids_of streams) k p at in
    let here : k < length pids = subst (λ (ps : List Pid). k < length ps) (sym is) within in
    let size : length counts ≡ length pids = ap length are ∙ length-replicate (length pids) 0 in
    slice_get-get_or counts k 0 (omega arith) ∙ ap (λ xs. Some (get_or xs k 0)) are
    ∙ ap (λ (n : ℕ). Some n) (get_or-replicate (length pids) k 0 0 here)
