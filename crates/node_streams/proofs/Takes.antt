-- The send that an event took is at its index in its process's list.
use Rattle.std.proofs.Common.{◌≡◌, ℕ, ◌&&◌, cond, Bool, true, false, List, take, Option, Some, None}
use Rattle.std.proofs.Common.{option_and_then, refl, ◌∙◌, ap}
use Rattle.std.specs.List.{slice_get}
use Rattle.std.specs.Prelude.{is_none}
use Rattle.st_core.specs.declared.types.Pid.{Pid}
use Rattle.st_core.specs.declared.types.Event.{Event}
use Rattle.st_core.specs.Run.{Stream}
use Rattle.st_core.specs.Streams.{events_of}
use Rattle.node_streams.specs.Messages.{is_unsent, send_of, taken_send, taken_sends, takes_message}
use Rattle.node_streams.proofs.EachEvents.{each_at}

pub taken_among : (streams : List Stream) (es : List Event) (i : ℕ) (e : Event)
    (taken : List (Option ℕ)) (o : Option ℕ) → taken ≡ taken_sends streams es
    → slice_get es i ≡ Some e → o ≡ option_and_then (λ x. x) (slice_get taken i)
    → o ≡ taken_send streams (take i es) e
taken_among streams es i e taken o are at is =
    is ∙ ap (λ xs. option_and_then (λ x. x) (slice_get xs i)) are
    ∙ ap (option_and_then (λ x. x)) (each_at (taken_send streams) es i e at)

pub taken_is : (streams : List Stream) (p : Pid) (i : ℕ) (e : Event)
    (taken : List (Option ℕ)) (o : Option ℕ) → taken ≡ taken_sends streams (events_of streams p)
    → slice_get (events_of streams p) i ≡ Some e
    → o ≡ option_and_then (λ x. x) (slice_get taken i)
    → o ≡ taken_send streams (take i (events_of streams p)) e
taken_is streams p i e taken o = taken_among streams (events_of streams p) i e taken o

none_taken : (b : Bool) (o : Option ℕ) → (b && is_none (cond b o None)) ≡ (b && is_none o)
none_taken true o = refl
none_taken false o = refl

pub unsent_is : (streams : List Stream) (before : List Event) (e : Event) (o : Option ℕ)
    → o ≡ taken_send streams before e
    → (takes_message e && is_none o) ≡ is_unsent streams before e
unsent_is streams before e o is =
    ap (λ x. takes_message e && is_none x) is
    ∙ none_taken (takes_message e) (send_of streams before e)
