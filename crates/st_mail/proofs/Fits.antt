-- After a change the process can still meet each token in its queue, since no change adds a token
-- that it can't meet.
use Rattle.std.proofs.Common.{◌≡◌, ℕ, suc, List, [], ◌∷◌, ◌++◌, take, drop, Option, Some, None, All}
use Rattle.std.proofs.lemmas.List.Elements.{All-append, All-drop, All-push, All-take}
use Rattle.st_core.specs.declared.types.Message.{Message}
use Rattle.st_core.specs.declared.types.Want.{Want}
use Rattle.st_core.specs.Local.{IsMeetable}
use Rattle.st_core.specs.Pick.{pick}
use Rattle.st_core.proofs.ForCallers.{All_at, pick_found}
use Rattle.st_mail.specs.Actor.{QueueFits}
use Rattle.st_mail.specs.Mail.{queue_without}

module _ (top : ℕ) where
  abbrev Fits : Message → Type 0
  Fits m = IsMeetable top m.token

  -- the process can meet the token of the message that a receive takes
  pub pick_fits : (w : Want) (ms : List Message) (k : ℕ) (m : Message)
      → QueueFits top ms → pick w ms ≡ Some (k, m) → IsMeetable top m.token
  pick_fits w ms k m fit picked = All_at Fits ms k m (pick_found w ms (k, m) picked) fit

  -- and those of the messages left
  pub left_fits : (o : Option (ℕ × Message)) (ms : List Message) → QueueFits top ms
      → QueueFits top (queue_without o ms)
  left_fits None ms fit = fit
  left_fits (Some found) ms fit =
      let front : All Fits (take found.0 ms) = All-take Fits found.0 ms fit in
      let back : All Fits (drop (suc found.0) ms) = All-drop Fits (suc found.0) ms fit in
      All-append Fits (take found.0 ms) (drop (suc found.0) ms) front back

  -- and those of a queue with one more message whose token it can meet
  pub push_fits : (ms : List Message) (m : Message)
      → QueueFits top ms → IsMeetable top m.token → QueueFits top (ms ++ m ∷ [])
  push_fits ms m fit here = All-push Fits ms m fit here
