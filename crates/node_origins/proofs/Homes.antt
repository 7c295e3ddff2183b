-- A process can have given a stamp's token its label exactly if the first event that bears the
-- label is no receive, and either it doesn't come before the stamp, or a token that the stamp
-- succeeds was held before it.
use Rattle.std.proofs.Common.{◌≡◌, ℕ, ◌≤◌, ◌⊎◌, zero, suc, false, List, [], ◌∷◌, ◌++◌, length, take}
use Rattle.std.proofs.Common.{drop, Some, inl, inr, refl, arith, sym, ◌∙◌, ap, subst}
use Rattle.std.specs.List.{slice_get}
use Rattle.std.proofs.lemmas.List.{take-append-drop}
use Rattle.std.proofs.Math.Seq.{take-append_seam}
use Rattle.std.proofs.lemmas.Option.{none-some, same_Some, slice_get_within as at_below}
use Rattle.st_core.specs.declared.types.Label.{Label}
use Rattle.st_core.specs.declared.types.Serial.{Serial}
use Rattle.node_machine.specs.declared.types.Seen.{Seen}
use Rattle.node_machine.specs.Premises.{IsAmong}
use Rattle.node_machine.specs.Readings.{is_receipt}
use Rattle.node_machine.specs.Given.{shown, tokens}
use Rattle.node_machine.specs.Origins.{Bears, IsAtHome, StampsFirst}
use Rattle.node_machine.proofs.ForCallers.{among_back, among_front, among_parts}
use Rattle.node_given.proofs.ForCallers.{zero_held}
use Rattle.node_origins.specs.declared.first_labels.FirstBearer.{FirstBearer}
use Rattle.node_origins.specs.Tables.{HasPredecessor, IsBearer, NoneBears}

-- LISTS

pub length_taken : {A : Type 0} (n : ℕ) (xs : List A) → n ≤ length xs → length (take n xs) ≡ n
length_taken zero xs most = refl
length_taken (suc n) [] most = absurd (omega arith)
length_taken (suc n) (x ∷ xs) most = ap suc (length_taken n xs (omega arith))

pub tokens_later : (m n : ℕ) (es : List Seen) (x : Serial) → m ≤ n
    → IsAmong (tokens (take m es)) x → IsAmong (tokens (take n es)) x
tokens_later zero n es x most (inl is) =
    subst (IsAmong (tokens (take n es))) is (zero_held (take n es))
tokens_later zero n es x most (inr is) = absurd is
tokens_later (suc m) zero es x most is = absurd (omega arith)
tokens_later (suc m) (suc n) [] x most is = is
tokens_later (suc m) (suc n) (e ∷ es) x most is =
    elim (among_parts (shown e) (tokens (take m es)) x is) [
      | inl now ↦ among_front (shown e) (tokens (take n es)) x now
      | inr later ↦ among_back (shown e) (tokens (take n es)) x
          (tokens_later m n es x (omega arith) later)
    ]

-- LABELS

module _ (label : Label) where
  none_stamps : (es : List Seen) → NoneBears label es → StampsFirst label es
  none_stamps [] none = tt
  none_stamps (e ∷ es) none = (λ bears. absurd (none.0 bears), λ _. none_stamps es none.1)

  none_parts : (n : ℕ) (es : List Seen) → NoneBears label es
      → NoneBears label (take n es) × StampsFirst label (drop n es)
  none_parts zero es none = (tt, none_stamps es none)
  none_parts (suc n) [] none = (tt, tt)
  none_parts (suc n) (e ∷ es) none =
      let rest = none_parts n es none.1 in
      ((none.0, rest.0), rest.1)

  stamps_first : (es : List Seen) (j : ℕ) (e : Seen) → slice_get es j ≡ Some e
      → is_receipt e ≡ false → NoneBears label (take j es) → Bears label e
      → StampsFirst label es
  stamps_first [] j e at stamp new bears = absurd (none-some e at)
  stamps_first (d ∷ es) zero e at stamp new bears =
      let same = same_Some d e at in (
        λ _. ap is_receipt same ∙ stamp,
        λ never. absurd (never (subst (Bears label) (sym same) bears)),
      )
  stamps_first (d ∷ es) (suc j) e at stamp new bears =
      (λ now. absurd (new.0 now), λ _. stamps_first es j e at stamp new.1 bears)

  first_parts : (n : ℕ) (es : List Seen) (j : ℕ) (e : Seen) → n ≤ j → slice_get es j ≡ Some e
      → is_receipt e ≡ false → NoneBears label (take j es) → Bears label e
      → NoneBears label (take n es) × StampsFirst label (drop n es)
  first_parts zero es j e most at stamp new bears =
      (tt, stamps_first es j e at stamp new bears)
  first_parts (suc n) [] j e most at stamp new bears = absurd (none-some e at)
  first_parts (suc n) (d ∷ es) zero e most at stamp new bears = absurd (omega arith)
  first_parts (suc n) (d ∷ es) (suc j) e most at stamp new bears =
      let rest = first_parts n es j e (omega arith) at stamp new.1 bears in
      ((new.0, rest.0), rest.1)

  -- if the process stamps with the label first, its first bearer is no receive
  first_stamps : (es : List Seen) (j : ℕ) (e : Seen) → slice_get es j ≡ Some e
      → NoneBears label (take j es) → Bears label e → StampsFirst label es
      → is_receipt e ≡ false
  first_stamps [] j e at new bears stamps = absurd (none-some e at)
  first_stamps (d ∷ es) zero e at new bears stamps =
      let same = same_Some d e at in
      ap is_receipt (sym same) ∙ stamps.0 (subst (Bears label) (sym same) bears)
  first_stamps (d ∷ es) (suc j) e at new bears stamps =
      first_stamps es j e at new.1 bears (stamps.1 new.0)

  first_behind : (front rest : List Seen) (j : ℕ) (e : Seen)
      → slice_get (front ++ rest) j ≡ Some e → NoneBears label (take j (front ++ rest))
      → Bears label e → NoneBears label front → StampsFirst label rest
      → (length front ≤ j) × (is_receipt e ≡ false)
  first_behind [] rest j e at new bears none stamps =
      (omega arith, first_stamps rest j e at new bears stamps)
  first_behind (d ∷ front) rest zero e at new bears none stamps =
      absurd (none.0 (subst (Bears label) (sym (same_Some d e at)) bears))
  first_behind (d ∷ front) rest (suc j) e at new bears none stamps =
      let more = first_behind front rest j e at new.1 bears none.1 stamps in
      let most = more.0 in
      (omega arith, more.1)

-- HOME

module _ (es : List Seen) (i : ℕ) (e : Seen) (at : slice_get es i ≡ Some e) where
  home_now : NoneBears e.label (take i es) × StampsFirst e.label (drop i es) → IsAtHome es i
  home_now own =
      let within = at_below es i e at in
      let long = length_taken i es (omega arith) in
      record {
        stamp = e;
        is_stamp = at;
        front = take i es;
        rest = drop i es;
        split = sym (take-append-drop i es);
        within = omega arith;
        own = record { new = own.0; stamps = own.1 };
        way = inl long;
      }

  -- the stamp is at home if no event bears the label, or the first that does isn't before it
  pub home_unborne : NoneBears e.label es → IsAtHome es i
  home_unborne none = home_now (none_parts e.label i es none)

  module _ (first : FirstBearer) (is : IsBearer es e.label first) where
    stamping : first.receives ≡ false → is_receipt is.event ≡ false
    stamping stamps = is.kind ∙ stamps

    pub home_new : first.receives ≡ false → i ≤ first.index → IsAtHome es i
    home_new stamps most = home_now
        (first_parts e.label i es first.index is.event most is.at (stamping stamps) is.new
        is.bears)

    pub home_saved : first.receives ≡ false → first.index ≤ i
        → HasPredecessor (tokens (take first.index es)) e.serial.prev e.serial.this
        → IsAtHome es i
    home_saved stamps most saved =
        let within = at_below es first.index is.event is.at in
        let long = length_taken first.index es (omega arith) in
        let least : first.index ≤ first.index = omega arith in
        let own = first_parts e.label first.index es first.index is.event least is.at
        (stamping stamps) is.new is.bears in
        record {
          stamp = e;
          is_stamp = at;
          front = take first.index es;
          rest = drop first.index es;
          split = sym (take-append-drop first.index es);
          within = omega arith;
          own = record { new = own.0; stamps = own.1 };
          way = inr (saved.token, saved.held, saved.prev_is, saved.count);
        }

    pub home_back : IsAtHome es i → (first.receives ≡ false) × ((i ≤ first.index)
        ⊎ HasPredecessor (tokens (take first.index es)) e.serial.prev e.serial.this)
    home_back home =
        let stamp = same_Some home.stamp e (sym home.is_stamp ∙ at) in
        let label = ap (λ (d : Seen). d.label) stamp in
        let behind = first_behind e.label home.front home.rest first.index is.event
        (ap (λ xs. slice_get xs first.index) (sym home.split) ∙ is.at)
        (subst (λ xs. NoneBears e.label (take first.index xs)) home.split is.new)
        is.bears (subst (λ l. NoneBears l home.front) label home.own.new)
        (subst (λ l. StampsFirst l home.rest) label home.own.stamps) in
        let most = behind.0 in (
          sym is.kind ∙ behind.1,
          elim home.way [
            | inl now ↦ inl (omega arith)
            | inr saved ↦
                let front : take (length home.front) es ≡ home.front =
                ap (take (length home.front)) home.split
                ∙ take-append_seam home.front home.rest in
                inr (record {
                  token = saved.0;
                  held = tokens_later (length home.front) first.index es saved.0 most
                      (subst (λ xs. IsAmong (tokens xs) saved.0) (sym front) saved.1);
                  prev_is = saved.2 ∙ ap (λ (d : Seen). d.serial.prev) stamp;
                  count = ap (λ (d : Seen). d.serial.this) (sym stamp) ∙ saved.3;
                })
          ],
        )
