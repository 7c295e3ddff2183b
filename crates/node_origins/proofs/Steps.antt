-- A token that is put back before several receives leads to the clock of a token that is put back
-- right before the last of them.
use Rattle.std.proofs.Common.{◌≡◌, ℕ, ◌++◌, max, true, List, [], ◌∷◌, refl, sym, ◌∙◌, ap, subst}
use Rattle.std.proofs.Common.{append_assoc, append-nil}
use Rattle.st_core.specs.declared.types.Serial.{Serial}
use Rattle.node_machine.specs.Counts.{stamp_count}
use Rattle.node_machine.specs.declared.types.Seen.{Seen}
use Rattle.node_machine.specs.Premises.{IsAmong}
use Rattle.node_machine.specs.Readings.{clock_behind}
use Rattle.node_machine.specs.Given.{IsPutBack, takes, tokens}
use Rattle.node_machine.specs.Ways.{IsLowered}
use Rattle.node_machine.proofs.ForCallers.{all_append, AreTaken, clock_by_receive, clock_push}
use Rattle.node_machine.proofs.ForCallers.{last_by_receive, last_push, lower, takes_parts}

module _ (es : List Seen) (receive e : Seen) (clock last : ℕ) (way : IsPutBack es clock last)
    (taken : takes receive ≡ true) (prev : receive.serial.this ≡ e.serial.prev)
    (count : e.serial.this ≡ stamp_count (max clock receive.serial.this)) where
  lowered_behind : (back : List Seen) → way.back ≡ back
      → (token : Serial) × IsLowered (es ++ receive ∷ []) e token
  lowered_behind [] none =
      let this : clock ≡ way.token.this = way.clock_is ∙ ap (clock_behind way.token.this) none in
      let whole : way.front ≡ es =
      sym (way.split ∙ ap (λ xs. way.front ++ xs) none ∙ append-nil way.front) in (
        way.token,
        record {
          front = es;
          receive = receive;
          split = refl;
          taken = taken;
          held = subst (λ xs. IsAmong (tokens xs) way.token) whole way.held;
          prev = prev;
          count = count ∙ ap (λ n. stamp_count (max n receive.serial.this)) this;
        },
      )
  lowered_behind (first ∷ back) is =
      let parts = takes_parts receive taken in
      let t = way.token in
      let before : clock ≡ clock_behind t.this (first ∷ back) =
      way.clock_is ∙ ap (clock_behind t.this) is in
      let split = ap (λ xs. xs ++ receive ∷ []) (way.split ∙ ap (λ xs. way.front ++ xs) is)
      ∙ append_assoc way.front (first ∷ back) (receive ∷ []) in
      lower (es ++ receive ∷ []) e (max clock receive.serial.this) count way.front first
      (back ++ receive ∷ []) t split way.held
      (all_append (λ r. takes r ≡ true) (first ∷ back) (receive ∷ [])
      (subst AreTaken is way.receives) (taken, tt))
      (ap (λ n. max n receive.serial.this) before
      ∙ sym (clock_by_receive receive (clock_behind t.this (first ∷ back)) parts.1)
      ∙ sym (clock_push (first ∷ back) receive t.this))
      (sym (last_push (first ∷ back) receive t.prev ∙ last_by_receive receive parts.0 parts.1
      ∙ prev))

  pub lowered_receive : (token : Serial) × IsLowered (es ++ receive ∷ []) e token
  lowered_receive = lowered_behind way.back refl
