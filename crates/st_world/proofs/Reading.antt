-- The row at a pid's number is what the state has of the process, except for the mark, which is
-- the node's; and each process of the state is sound.
use Rattle.std.proofs.Common.{◌≡◌, ℕ, ◌<◌, List, [], length, Some, None, IfSome, position, get_or}
use Rattle.std.proofs.Common.{subst, arith}
use Rattle.std.proofs.lemmas.List.{get_or_default}
use Rattle.st_core.specs.declared.types.Message.{Message}
use Rattle.st_core.specs.declared.types.Pid.{Pid}
use Rattle.st_core.specs.Pid.{pid_eq}
use Rattle.st_core.specs.State.{LocalState, State, process, zero_local}
use Rattle.st_mail.specs.Actor.{process_of}
use Rattle.st_world.specs.Nodes.{Groups, are_traced, flagged, traced_at}
use Rattle.st_world.specs.Rows.{state_of, AreKept}
use Rattle.st_world.specs.World.{AreOrdered, AreStamped}
use Rattle.st_world.proofs.Answering.{ordered, stamped}
use Rattle.st_world.proofs.Kept.{marked_at}
use Rattle.st_world.proofs.RowLemmas.{unknown, stands, number_within}

-- the rows and lists make the state
module _ {top : ℕ} {ps : List Pid} {g : Groups} {raw : List LocalState} {bs : List
    (List Message)} {state : State}
    (kept : AreKept top ps g raw bs) (is : state_of ps (flagged (are_traced g) raw) bs ≡ state)
    (p : Pid) where
  -- the state has no process for a pid without a number
  pub read_nothing : position (λ q. pid_eq q p) ps ≡ None → process state p ≡ None
  read_nothing at =
      subst (λ (s : State). process s p ≡ None) is
      (unknown ps (flagged (are_traced g) raw) bs kept.rows.aligned p at)

  -- the process with the number i is its row with its node's mark
  pub read_kept : (i : ℕ) (l : LocalState) → position (λ q. pid_eq q p) ps ≡ Some i
      → l ≡ get_or raw i l
      → process state p ≡ Some (process_of p (record l { traced = traced_at g i }) (get_or bs i []))
  read_kept i l at el =
      let marked : LocalState = record l { traced = traced_at g i } in
      subst (λ (s : State). process s p ≡ Some (process_of p marked (get_or bs i []))) is
      (stands ps (flagged (are_traced g) raw) bs kept.rows.aligned p i at marked
      (marked_at top ps g raw bs kept p i at l el)).found

  -- the process with the number i, by its place in the state's rows
  pub read_queue : (i : ℕ) → position (λ q. pid_eq q p) ps ≡ Some i
      → process state p
      ≡ Some (process_of p (get_or (flagged (are_traced g) raw) i zero_local) (get_or bs i []))
  read_queue i at =
      let ls = flagged (are_traced g) raw in
      let l : LocalState = get_or ls i zero_local in
      let within : i < length ls =
      omega (arith, number_within ps p i at, kept.rows.aligned.locals_len) in
      subst (λ (s : State). process s p ≡ Some (process_of p l (get_or bs i []))) is
      (stands ps ls bs kept.rows.aligned p i at l (get_or_default ls i zero_local l within)).found

  pub read_ordered : IfSome (process state p) (λ r. AreOrdered top r.local)
  read_ordered =
      subst (λ (s : State). IfSome (process s p) (λ r. AreOrdered top r.local)) is
      (ordered top (state_of ps (flagged (are_traced g) raw) bs) p kept.rows.sound)

  pub read_stamped : IfSome (process state p) (λ r. AreStamped top r.queue)
  read_stamped =
      subst (λ (s : State). IfSome (process s p) (λ r. AreStamped top r.queue)) is
      (stamped top (state_of ps (flagged (are_traced g) raw) bs) p kept.rows.sound)
