-- Brief forms and whole calls are only appended, so each brief form keeps its call.
use Rattle.std.proofs.Common.{◌≡◌, ℕ, ◌+◌, List, [], ◌∷◌, ◌++◌, length, refl, sym, ap, ◌∙◌, arith}
use Rattle.std.proofs.Common.{◌≤◌, ◌⊎◌, ⊎_elim, subst}
use Rattle.std.specs.List.{AllByRecursion}
use Rattle.std.proofs.lemmas.List.{get_or_append_left, length-append, map-append}
use Rattle.st_core.specs.declared.types.Act.{Act}
use Rattle.st_core.specs.declared.types.Reply.{Reply}
use Rattle.st_log.specs.declared.calls.Brief.{Brief}
use Rattle.st_log.specs.declared.calls.Brief.TheVariants as brief
use Rattle.st_log.specs.Briefs.{call_in, calls_in, no_call, IsBriefPlaced, IsCallLog}

-- ---- one more whole call

stays : (whole : List (Act × Reply)) (u : Act × Reply) (b : Brief)
    → IsBriefPlaced (length whole) b → call_in (whole ++ u ∷ []) b ≡ call_in whole b
stays whole u (brief.Send p q v) placed = refl
stays whole u (brief.Print p v) placed = refl
stays whole u (brief.Nothing p w) placed = refl
stays whole u (brief.First p q v) placed = refl
stays whole u (brief.From p q v) placed = refl
stays whole u (brief.Value p q v) placed = refl
stays whole u (brief.Both p q v) placed = refl
stays whole u (brief.Place p k q v) placed = refl
stays whole u (brief.Whole i) placed = get_or_append_left whole (u ∷ []) no_call i placed

stays_placed : (n : ℕ) (b : Brief) → IsBriefPlaced n b → IsBriefPlaced (n + 1) b
stays_placed n (brief.Send p q v) placed = tt
stays_placed n (brief.Print p v) placed = tt
stays_placed n (brief.Nothing p w) placed = tt
stays_placed n (brief.First p q v) placed = tt
stays_placed n (brief.From p q v) placed = tt
stays_placed n (brief.Value p q v) placed = tt
stays_placed n (brief.Both p q v) placed = tt
stays_placed n (brief.Place p k q v) placed = tt
stays_placed n (brief.Whole i) placed = omega arith

calls_stay : (briefs : List Brief) (whole : List (Act × Reply)) (u : Act × Reply)
    → AllByRecursion (IsBriefPlaced (length whole)) briefs
    → calls_in briefs (whole ++ u ∷ []) ≡ calls_in briefs whole
calls_stay [] whole u placed = refl
calls_stay (b ∷ briefs) whole u placed =
    let first = stays whole u b placed.0 in
    let rest = calls_stay briefs whole u placed.1 in
    λ i. first i ∷ rest i

placed_stay : (briefs : List Brief) (n : ℕ)
    → AllByRecursion (IsBriefPlaced n) briefs → AllByRecursion (IsBriefPlaced (n + 1)) briefs
placed_stay [] n placed = tt
placed_stay (b ∷ briefs) n placed = (stays_placed n b placed.0, placed_stay briefs n placed.1)

-- ---- one more brief form

placed_push : (briefs : List Brief) (b : Brief) (n : ℕ)
    → AllByRecursion (IsBriefPlaced n) briefs → IsBriefPlaced n b
    → AllByRecursion (IsBriefPlaced n) (briefs ++ b ∷ [])
placed_push [] b n placed one = (one, tt)
placed_push (x ∷ briefs) b n placed one = (placed.0, placed_push briefs b n placed.1 one)

-- ---- both

-- the list of whole calls is as it was, or has one more call
abbrev pub HasGrown : List (Act × Reply) → List (Act × Reply) → Act × Reply → Type 0
HasGrown whole whole' u = (whole' ≡ whole) ⊎ (whole' ≡ whole ++ u ∷ [])

calls_grown : (briefs : List Brief) (whole whole' : List (Act × Reply)) (u : Act × Reply)
    → AllByRecursion (IsBriefPlaced (length whole)) briefs → HasGrown whole whole' u
    → calls_in briefs whole' ≡ calls_in briefs whole
calls_grown briefs whole whole' u placed grown =
    ⊎_elim (λ same. ap (calls_in briefs) same)
    (λ more. ap (calls_in briefs) more ∙ calls_stay briefs whole u placed) grown

grown_length : (whole whole' : List (Act × Reply)) (u : Act × Reply) → HasGrown whole whole' u
    → length whole' ≤ length whole + 1
grown_length whole whole' u grown =
    ⊎_elim (λ same. let long = ap (λ (xs : List (Act × Reply)). length xs) same in
    omega (arith, long))
    (λ more.
    let long : length whole' ≡ length whole + 1 = ap (λ (xs : List (Act × Reply)). length xs) more
    ∙ length-append whole (u ∷ []) in omega (arith, long)) grown

placed_grown : (briefs : List Brief) (whole whole' : List (Act × Reply)) (u : Act × Reply)
    → AllByRecursion (IsBriefPlaced (length whole)) briefs → HasGrown whole whole' u
    → AllByRecursion (IsBriefPlaced (length whole')) briefs
placed_grown briefs whole whole' u placed grown =
    let Placed : ℕ → Type 0 = λ n. AllByRecursion (IsBriefPlaced n) briefs in
    ⊎_elim (λ same. subst Placed (ap (λ (xs : List (Act × Reply)). length xs) (sym same)) placed)
    (λ more.
    let long : length whole' ≡ length whole + 1 = ap (λ (xs : List (Act × Reply)). length xs) more
    ∙ length-append whole (u ∷ []) in
    subst Placed (sym long) (placed_stay briefs (length whole) placed)) grown

-- the calls after a push
pub calls_pushed : (briefs briefs' : List Brief) (whole whole' : List (Act × Reply)) (b : Brief)
    (u : Act × Reply)
    → AllByRecursion (IsBriefPlaced (length whole)) briefs → HasGrown whole whole' u
    → call_in whole' b ≡ u → briefs' ≡ briefs ++ b ∷ []
    → calls_in briefs' whole' ≡ calls_in briefs whole ++ u ∷ []
calls_pushed briefs briefs' whole whole' b u placed grown says more =
    ap (λ xs. calls_in xs whole') more ∙ map-append (call_in whole') briefs (b ∷ [])
    ∙ (λ i. calls_grown briefs whole whole' u placed grown i ++ says i ∷ [])

-- the invariant holds after a push
pub calls_kept : (briefs briefs' : List Brief) (whole whole' : List (Act × Reply)) (b : Brief)
    (u : Act × Reply)
    (brief_room whole_room n m : ℕ)
    → IsCallLog briefs whole brief_room whole_room n → HasGrown whole whole' u
    → IsBriefPlaced (length whole') b
    → briefs' ≡ briefs ++ b ∷ [] → n ≡ m + 1
    → IsCallLog briefs' whole' brief_room whole_room m
calls_kept briefs briefs' whole whole' b u brief_room whole_room n m is grown placed more fewer =
    let Placed : List Brief → Type 0 = λ xs. AllByRecursion (IsBriefPlaced (length whole')) xs in
    let long : length briefs' ≡ length briefs + 1 =
    ap (λ (xs : List Brief). length xs) more ∙ length-append briefs (b ∷ []) in
    let at_most = grown_length whole whole' u grown in
    record {
      placed = subst Placed (sym more) (placed_push briefs b (length whole')
          (placed_grown briefs whole whole' u is.placed grown) placed);
      briefs_fit = omega (arith, long, is.briefs_fit, fewer);
      whole_fit = omega (arith, at_most, is.whole_fit, fewer);
      calls_fit = omega (arith, long, is.calls_fit, fewer);
      places_fit = omega (arith, at_most, is.places_fit, fewer);
    }
