-- A label that was new when it was given is on no stamp and no message before: so it was given
-- before the first stamp that has it.
use Rattle.std.proofs.Common.{◌≡◌, ℕ, ◌<◌, ◌≤◌, ◌==◌, ◌||◌, zero, suc, not, true, false, List, []}
use Rattle.std.proofs.Common.{◌∷◌, ◌++◌, length, Some, inl, inr, refl, arith, sym, ◌∙◌, ap}
use Rattle.std.specs.List.{slice_get, AllByRecursion, list_any}
use Rattle.std.proofs.lemmas.Bool.{cases_order, eq-eqb, false≢true}
use Rattle.std.proofs.lemmas.Option.{same_Some}
use Rattle.st_core.specs.declared.types.Label.{Label}
use Rattle.st_core.specs.declared.types.Event.{Event}
use Rattle.st_core.proofs.ForCallers.{not_true}
use Rattle.node_machine.specs.Premises.{IsAmong}
use Rattle.node_machine.specs.Origins.{Follows, Home, TokenOrigin}
use Rattle.node_machine.specs.ByMessages.{CanBySends, gift_put_back, gift_taken, IsAtHomeBySends}
use Rattle.node_machine.specs.ByMessages.{IsEarlierToken, IsLastTaken, IsSuccessorOf, LabelRule}
use Rattle.node_machine.specs.ByMessages.{new_label, other_label, SendsTo, stamp_put_back}
use Rattle.node_machine.specs.ByMessages.{token_at_home, token_kept}
use Rattle.node_machine.proofs.Lists.{among_back, among_front}

-- the first stamp with a label is from home, if no gift gives its token
pub first_is_home : (sent : SendsTo) (rule : LabelRule) (es : List Event) (i : ℕ) (stamp : Event)
    → slice_get es i ≡ Some stamp → ((k : ℕ) (e : Event) → k < i → slice_get es k ≡ Some e
    → ¬ (e.label ≡ stamp.label))
    → ((k : ℕ) → ¬ IsLastTaken sent es i k)
    → ((k : ℕ) (e : Event) → slice_get sent.gifts k ≡ Some e → ¬ IsSuccessorOf e es i)
    → (h : TokenOrigin) → CanBySends sent rule es i h → h ≡ Home
first_is_home sent rule es i stamp at first last back h (gift_taken _ k is) = absurd (last k is)
first_is_home sent rule es i stamp at first last back h (gift_put_back _ k e there is) =
    absurd (back k e there is)
first_is_home sent rule es i stamp at first last back h (stamp_put_back _ k _ e less there is can) =
    let same = same_Some is.stamp stamp (sym is.is_stamp ∙ at) in
    absurd (first k e less there (is.label ∙ ap (λ (x : Event). x.label) same))
first_is_home sent rule es i stamp at first last back h (token_kept _ k _ is can) =
    let same = same_Some is.stamp stamp (sym is.is_stamp ∙ at) in
    let behind = is.behind in
    absurd (first k is.request (omega arith) is.at (is.label ∙ ap (λ (x : Event). x.label) same))
first_is_home sent rule es i stamp at first last back h (token_at_home _ is) = refl

-- a message brings each token whose label its process gives to no token
pub gift_brings : (sent : SendsTo) (label : Label) (es : List Event) (i : ℕ) (stamp : Event)
    → slice_get es i ≡ Some stamp → stamp.label ≡ label → (h : TokenOrigin)
    → CanBySends sent (other_label label) es i h
    → (k : ℕ) × (h ≡ Follows k)
gift_brings sent label es i stamp at same h (gift_taken _ k is) = (k, refl)
gift_brings sent label es i stamp at same h (gift_put_back _ k e there is) = (k, refl)
gift_brings sent label es i stamp at same h (stamp_put_back _ k _ e less there is can) =
    let here = same_Some is.stamp stamp (sym is.is_stamp ∙ at) in
    gift_brings sent label es k e there
    (is.label ∙ ap (λ (x : Event). x.label) here ∙ same) h can
gift_brings sent label es i stamp at same h (token_kept _ k _ is can) =
    let here = same_Some is.stamp stamp (sym is.is_stamp ∙ at) in
    gift_brings sent label es k is.request is.at
    (is.label ∙ ap (λ (x : Event). x.label) here ∙ same) h can
gift_brings sent label es i stamp at same h (token_at_home _ is) =
    let here = same_Some is.stamp stamp (sym is.is_stamp ∙ at) in
    let equal = eq-eqb is.stamp.label.0 label.0
    (ap (λ (x : Label). x.0) (ap (λ (x : Event). x.label) here ∙ same)) in
    absurd (false≢true (ap not (sym equal) ∙ is.own))

-- A NEW LABEL

no_such : (es : List Event) (label : Label) → list_any (λ e. e.label.0 == label.0) es ≡ false
    → (e : Event) → IsAmong es e
    → ¬ (e.label ≡ label)
no_such [] label none e is same = is
no_such (d ∷ es) label none e (inl is) same =
    let rest = list_any (λ (x : Event). x.label.0 == label.0) es in
    let equal = eq-eqb d.label.0 label.0
    (ap (λ (x : Event). x.label.0) is ∙ ap (λ (x : Label). x.0) same) in
    false≢true (sym none ∙ ap (λ b. b || rest) equal)
no_such (d ∷ es) label none e (inr is) same =
    let rest = list_any (λ (x : Event). x.label.0 == label.0) es in
    let fewer = (elim (d.label.0 == label.0) as (λ b. (b || rest) ≡ false → rest ≡ false) [
      | true ↦ λ no. absurd (false≢true (sym no))
      | false ↦ λ no. no
    ]) none in
    no_such es label fewer e is same

in_front : (front rest : List Event) (k : ℕ) (e : Event) → k < length front
    → slice_get (front ++ rest) k ≡ Some e
    → IsAmong front e
in_front [] rest k e less at = absurd (omega arith)
in_front (x ∷ front) rest zero e less at = inl (same_Some x e at)
in_front (x ∷ front) rest (suc k) e less at = inr (in_front front rest k e (omega arith) at)

all_among : (P : Event → Type 0) (es : List Event) → ((e : Event) → IsAmong es e → P e)
    → AllByRecursion P es
all_among P [] each = tt
all_among P (e ∷ es) each = (each e (inl refl), all_among P es (λ d is. each d (inr is)))

-- a later stamp with a new label, if it is from home, succeeds a token from before the first one
pub earlier_token : (sent : SendsTo) (es : List Event) (i k : ℕ) (stamp first : Event)
    → slice_get es i ≡ Some stamp → k < i → slice_get es k ≡ Some first
    → first.label ≡ stamp.label
    → IsAtHomeBySends sent new_label es i
    → IsEarlierToken sent es stamp k
earlier_token sent es i k stamp first at less there label home =
    let here = same_Some home.stamp stamp (sym home.is_stamp ∙ at) in
    let same = ap (λ (x : Event). x.label) here in
    let shown = home.front ++ home.taken in
    let none = not_true
    (list_any (λ (e : Event). e.label.0 == home.stamp.label.0) shown) home.own in
    let other : (e : Event) → IsAmong shown e → ¬ (e.label ≡ stamp.label) =
    λ e is equal. no_such shown home.stamp.label none e is (equal ∙ sym same) in
    let within : length home.front ≤ k = elim (cases_order (length home.front) k) [
      | inl even ↦ omega arith
      | inr apart ↦ elim apart [
        | inl below ↦ omega arith
        | inr above ↦ absurd (other first (among_front home.front home.taken first
            (in_front home.front home.rest k first above
            (ap (λ xs. slice_get xs k) (sym home.split) ∙ there))) label)
      ]
    ] in
    elim home.way [
      | inl now ↦ absurd (let last = now.0 in omega arith)
      | inr before ↦ record {
        front = home.front;
        rest = home.rest;
        split = home.split;
        within = within;
        taken = home.taken;
        gifts = home.gifts;
        others = all_among (λ e. ¬ (e.label ≡ stamp.label)) home.taken
            (λ e is. other e (among_back home.front home.taken e is));
        token = before.0;
        held = before.1;
        prev = before.2 ∙ ap (λ (x : Event). x.serial.prev) here;
        count = ap (λ (x : Event). x.serial.this) (sym here) ∙ before.3;
      }
    ]
