-- Reading an act undoes its spelling, and reads no other bytes: each step of a reader moves a word
-- or a field from the rest to the front, until the front is the spelling of the value that the
-- reader makes. The steps are lemmas of `Fields`.
use Rattle.std.proofs.Common.{◌≡◌, ℕ, List, ◌++◌, Some, refl, append_assoc}
use Rattle.std.specs.Prelude.{codes, decimal}
use Rattle.st_core.specs.declared.types.Flags.{Flags}
use Rattle.st_core.specs.declared.types.Token.{Token}
use Rattle.st_core.specs.declared.types.Component.{Component}
use Rattle.st_core.specs.declared.types.Component.TheVariants as components
use Rattle.st_core.specs.declared.types.Want.{Want}
use Rattle.st_core.specs.declared.types.Want.TheVariants as wants
use Rattle.st_core.specs.declared.types.Act.{Act}
use Rattle.st_core.specs.declared.types.Act.TheVariants as acts
use Rattle.st_text.specs.Spelling.{bool, pid, label, component, want, flags, token, act}
use Rattle.st_text.specs.Range.{FitsComponent, FitsWant, FitsToken, FitsAct}
use Rattle.st_text.specs.Parsing.{parse_component, parse_both, parse_want, parse_flags, parse_token}
use Rattle.st_text.specs.Parsing.{parse_send, parse_receive, parse_print, parse_printat, parse_set}
use Rattle.st_text.specs.Parsing.{parse_restore, parse_tracer, parse_alone, parse_act}
use Rattle.st_text.proofs.Numbers.{Stops}
use Rattle.st_text.proofs.Fields.{Takes, Any, unread, begins_cases, word_next, field_next}
use Rattle.st_text.proofs.Fields.{actor_next, made, none_left, five_parts, value_takes, value_again}
use Rattle.st_text.proofs.Fields.{bool_takes, bool_again, pid_takes, pid_again, label_takes}
use Rattle.st_text.proofs.Fields.{label_again, actor_again, actor_then}

component_takes : (bytes : List ℕ) (x : Component × List ℕ) → parse_component bytes ≡ Some x
    → Takes component FitsComponent bytes x
unfolding parse_component
component_takes bytes x e =
    begins_cases (codes "label ") bytes e
    (λ rest s e. field_next (label_takes rest) s e λ l fits s e. made e s fits) λ e.
    begins_cases (codes "send ") bytes e
    (λ rest s e. field_next (bool_takes rest) s e λ b fits s e. made e s fits) λ e.
    begins_cases (codes "receive ") bytes e
    (λ rest s e. field_next (bool_takes rest) s e λ b fits s e. made e s fits) λ e.
    begins_cases (codes "print ") bytes e
    (λ rest s e. field_next (bool_takes rest) s e λ b fits s e. made e s fits) none_left

component_again : (c : Component) (rest : List ℕ) → FitsComponent c → Stops rest
    → parse_component (component c ++ rest) ≡ Some (c, rest)
unfolding parse_component
component_again (components.Label l) rest fits stops = rw (label_again l rest fits stops)
component_again (components.Send b) rest fits stops = rw (bool_again b rest)
component_again (components.Receive b) rest fits stops = rw (bool_again b rest)
component_again (components.Print b) rest fits stops = rw (bool_again b rest)

want_takes : (bytes : List ℕ) (x : Want × List ℕ) → parse_want bytes ≡ Some x
    → Takes want FitsWant bytes x
unfolding parse_want parse_both
want_takes bytes x e =
    begins_cases (codes "first") bytes e (λ rest s e. made e s tt) λ e.
    begins_cases (codes "from ") bytes e
    (λ rest s e. field_next (pid_takes rest) s e λ p fits s e. made e s fits) λ e.
    begins_cases (codes "value ") bytes e
    (λ rest s e. field_next (value_takes rest) s e λ v fits s e. made e s fits) λ e.
    begins_cases (codes "both ") bytes e
    (λ rest s e. actor_next s e λ p p_fits s e.
    field_next (value_takes p.1) s e λ v v_fits s e. made e s (p_fits, v_fits)) λ e.
    begins_cases (codes "place ") bytes e
    (λ rest s e. field_next (value_takes rest) s e λ k fits s e. made e s fits) none_left

want_again : (w : Want) (rest : List ℕ) → FitsWant w → Stops rest
    → parse_want (want w ++ rest) ≡ Some (w, rest)
unfolding parse_want parse_both
want_again wants.First rest fits stops = refl
want_again (wants.From p) rest fits stops = rw (pid_again p rest fits)
want_again (wants.Value v) rest fits stops = rw (value_again v rest fits stops)
want_again (wants.Both p v) rest fits stops =
    rw (actor_then p (decimal v) _ fits.0, value_again v _ fits.1 stops)
want_again (wants.Place k) rest fits stops = rw (value_again k rest fits stops)

-- ---- tokens

flags_takes : (bytes : List ℕ) (x : Flags × List ℕ) → parse_flags bytes ≡ Some x
    → Takes flags Any bytes x
unfolding parse_flags
flags_takes bytes x e =
    field_next (bool_takes bytes) (unread bytes) e λ send any s e.
    word_next (codes " ") s e λ a s e.
    field_next (bool_takes a) s e λ receive any s e.
    word_next (codes " ") s e λ b s e.
    field_next (bool_takes b) s e λ print any s e.
    made e s any

flags_again : (f : Flags) (rest : List ℕ) → parse_flags (flags f ++ rest) ≡ Some (f, rest)
unfolding parse_flags
flags_again f rest = simp (append_assoc, bool_again)

token_takes : (bytes : List ℕ) (x : Token × List ℕ) → parse_token bytes ≡ Some x
    → Takes token FitsToken bytes x
unfolding parse_token
token_takes bytes x e =
    field_next (label_takes bytes) (unread bytes) e λ l label s e.
    word_next (codes " ") s e λ a s e.
    field_next (flags_takes a) s e λ f any s e.
    word_next (codes " ") s e λ b s e.
    field_next (value_takes b) s e λ m prev s e.
    word_next (codes " ") s e λ c s e.
    field_next (value_takes c) s e λ n this s e.
    word_next (codes " ") s e λ d s e.
    field_next (pid_takes d) s e λ p from s e.
    made e s (record { label = label; serial = record { prev = prev; this = this }; from = from })

token_again : (t : Token) (rest : List ℕ) → FitsToken t
    → parse_token (token t ++ rest) ≡ Some (t, rest)
unfolding parse_token
token_again t rest fits =
    let m : List ℕ = decimal t.serial.prev in
    let front : List ℕ = label t.label ++ codes " " ++ flags t.flags ++ codes " " ++ m in
    rw (
      five_parts front (codes " ") (decimal t.serial.this) (codes " ") (pid t.from),
      five_parts (label t.label) (codes " ") (flags t.flags) (codes " ") m,
      label_again t.label _ fits.label refl,
      flags_again t.flags,
      value_again t.serial.prev _ fits.serial.prev refl,
      value_again t.serial.this _ fits.serial.this refl,
      pid_again t.from _ fits.from,
    )

-- ---- acts, each after its word

pub act_takes : (bytes : List ℕ) (x : Act × List ℕ) → parse_act bytes ≡ Some x
    → Takes act FitsAct bytes x
unfolding parse_act parse_send parse_receive parse_print parse_printat parse_set parse_restore
    parse_tracer parse_alone
act_takes bytes x e =
    begins_cases (codes "send ") bytes e
    (λ rest s e. actor_next s e λ p p_fits s e.
    actor_next s e λ q q_fits s e.
    field_next (value_takes q.1) s e λ v v_fits s e. made e s (p_fits, q_fits, v_fits)) λ e.
    begins_cases (codes "receive ") bytes e
    (λ rest s e. actor_next s e λ p p_fits s e.
    field_next (want_takes p.1) s e λ w w_fits s e. made e s (p_fits, w_fits)) λ e.
    begins_cases (codes "print ") bytes e
    (λ rest s e. actor_next s e λ p p_fits s e.
    field_next (value_takes p.1) s e λ v v_fits s e. made e s (p_fits, v_fits)) λ e.
    begins_cases (codes "printat ") bytes e
    (λ rest s e. actor_next s e λ p p_fits s e.
    field_next (label_takes p.1) s e λ l l_fits s e.
    word_next (codes " ") s e λ a s e.
    field_next (value_takes a) s e λ v v_fits s e. made e s (p_fits, l_fits, v_fits)) λ e.
    begins_cases (codes "set ") bytes e
    (λ rest s e. actor_next s e λ p p_fits s e.
    field_next (component_takes p.1) s e λ c c_fits s e. made e s (p_fits, c_fits)) λ e.
    begins_cases (codes "restore ") bytes e
    (λ rest s e. actor_next s e λ p p_fits s e.
    field_next (token_takes p.1) s e λ t t_fits s e. made e s (p_fits, t_fits)) λ e.
    begins_cases (codes "tracer ") bytes e
    (λ rest s e. actor_next s e λ p p_fits s e.
    field_next (bool_takes p.1) s e λ b b_fits s e. made e s p_fits) λ e.
    begins_cases (codes "clear ") bytes e
    (λ rest s e. field_next (pid_takes rest) s e λ p fits s e. made e s fits) λ e.
    begins_cases (codes "look ") bytes e
    (λ rest s e. field_next (pid_takes rest) s e λ p fits s e. made e s fits) λ e.
    begins_cases (codes "reset ") bytes e
    (λ rest s e. field_next (pid_takes rest) s e λ p fits s e. made e s fits) none_left

pub act_again : (a : Act) (rest : List ℕ) → FitsAct a → Stops rest
    → parse_act (act a ++ rest) ≡ Some (a, rest)
unfolding parse_act parse_alone parse_send parse_receive parse_print parse_printat parse_set
    parse_restore parse_tracer
act_again (acts.Send p q v) rest fits stops =
    rw (
      five_parts (pid p) (codes " ") (pid q) (codes " ") (decimal v),
      actor_again p _ fits.0,
      actor_again q _ fits.1,
      value_again v _ fits.2 stops,
    )
act_again (acts.Receive p w) rest fits stops =
    rw (actor_then p (want w) _ fits.0, want_again w _ fits.1 stops)
act_again (acts.Print p v) rest fits stops =
    rw (actor_then p (decimal v) _ fits.0, value_again v _ fits.1 stops)
act_again (acts.PrintAt p l v) rest fits stops =
    rw (
      five_parts (pid p) (codes " ") (label l) (codes " ") (decimal v),
      actor_again p _ fits.0,
      label_again l _ fits.1 refl,
      value_again v _ fits.2 stops,
    )
act_again (acts.Set p c) rest fits stops =
    rw (actor_then p (component c) _ fits.0, component_again c _ fits.1 stops)
act_again (acts.Clear p) rest fits stops = rw (pid_again p rest fits)
act_again (acts.Restore p t) rest fits stops =
    rw (actor_then p (token t) _ fits.0, token_again t _ fits.1)
act_again (acts.Look p) rest fits stops = rw (pid_again p rest fits)
act_again (acts.Reset p) rest fits stops = rw (pid_again p rest fits)
act_again (acts.Tracer p b) rest fits stops = rw (actor_then p (bool b) _ fits, bool_again b)
