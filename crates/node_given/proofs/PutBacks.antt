-- In each reading of the events a token was put back for each stamp for which the walk names one.
use Rattle.std.proofs.Common.{◌≡◌, ℕ, ◌+◌, ◌≤◌, cond, true, false, List, [], ◌∷◌, ◌++◌, inl, inr}
use Rattle.std.proofs.Common.{refl, arith, sym, ◌∙◌, ap, subst}
use Rattle.std.specs.List.{count_by}
use Rattle.std.proofs.lemmas.Bool.{false≢true}
use Rattle.std.proofs.lemmas.List.Sums.{sum_by-append}
use Rattle.node_machine.specs.declared.types.Seen.{Seen}
use Rattle.node_machine.specs.declared.types.Reading.{Reading}
use Rattle.node_machine.specs.Premises.{IsAmong}
use Rattle.node_machine.specs.Readings.{is_next, is_receipt, last_behind, NeedsAtLeast}
use Rattle.node_machine.specs.Readings.{NeedsPutBack, readings}
use Rattle.node_machine.proofs.ForCallers.{all_of, stamped_reads, took_reads}
use Rattle.node_given.specs.declared.way.Way.{Way}
use Rattle.node_given.specs.declared.way.Way.TheVariants as way
use Rattle.node_given.specs.Walk.{IsWay, names_put_back}
use Rattle.node_given.proofs.Decisions.{all_from}

-- a reading of one event more comes from one of the events, with no more put-backs
record IsGrown (es : List Seen) (x : Reading) : Type 0 where
  from : Reading
  reads : IsAmong (readings es) from
  more : from.put_backs ≤ x.put_backs

grown_reading : (es : List Seen) (e : Seen) (x : Reading) → IsAmong (readings (es ++ e ∷ [])) x
    → IsGrown es x
grown_reading es e x is = elim (is_receipt e) as (λ b. is_receipt e ≡ b → IsGrown es x) [
  | true ↦ λ kind.
      let back = took_reads es e x is kind in
      let same = ap (λ (r : Reading). r.put_backs) back.2 in
      record { from = back.0; reads = back.1; more = omega arith }
  | false ↦ λ kind.
      let back = stamped_reads es e x is kind in
      elim back.2 [
        | inl goes ↦
            let same = ap (λ (r : Reading). r.put_backs) goes.1 in
            record { from = back.0; reads = back.1; more = omega arith }
        | inr put ↦
            let same = ap (λ (r : Reading). r.put_backs) put in
            record { from = back.0; reads = back.1; more = omega arith }
      ]
] refl

least_same : (es : List Seen) (e : Seen) (n : ℕ) → NeedsAtLeast es n
    → NeedsAtLeast (es ++ e ∷ []) n
least_same es e n least = all_from (λ (x : Reading). n ≤ x.put_backs) (readings (es ++ e ∷ []))
    (λ x is.
    let back = grown_reading es e x is in
    let enough = all_of (λ (r : Reading). n ≤ r.put_backs) (readings es) back.from least
    back.reads in
    let more = back.more in
    omega arith)

least_more : (es : List Seen) (e : Seen) (n : ℕ) → is_receipt e ≡ false → NeedsPutBack es e
    → NeedsAtLeast es n
    → NeedsAtLeast (es ++ e ∷ []) (n + 1)
least_more es e n kind needs least =
    all_from (λ (x : Reading). n + 1 ≤ x.put_backs) (readings (es ++ e ∷ [])) (λ x is.
    let back = stamped_reads es e x is kind in
    let r = back.0 in
    let enough = all_of (λ (r : Reading). n ≤ r.put_backs) (readings es) r least back.1 in
    elim back.2 [
      | inl goes ↦ absurd (false≢true
          (sym (all_of (λ (r : Reading). is_next r.clock (last_behind 0 es) e ≡ false) (readings es)
          r
          needs back.1) ∙ goes.0))
      | inr put ↦
          let same = ap (λ (r : Reading). r.put_backs) put in
          omega arith
    ])

pub way_least : (es : List Seen) (e : Seen) (w : Way) (n : ℕ) → IsWay es e w → NeedsAtLeast es n
    → NeedsAtLeast (es ++ e ∷ []) (n + cond (names_put_back w) 1 0)
way_least es e way.Receive n is least =
    let same : n ≡ n + 0 = omega arith in
    subst (NeedsAtLeast (es ++ e ∷ [])) same (least_same es e n least)
way_least es e way.Plain n is least =
    let same : n ≡ n + 0 = omega arith in
    subst (NeedsAtLeast (es ++ e ∷ [])) same (least_same es e n least)
way_least es e (way.PutBack token) n is least = least_more es e n is.0 is.1 least
way_least es e (way.Lowered token) n is least = least_more es e n is.0 is.1 least
way_least es e way.Ungiven n is least =
    let same : n ≡ n + 0 = omega arith in
    subst (NeedsAtLeast (es ++ e ∷ [])) same (least_same es e n least)

pub counted_more : (ws : List Way) (w : Way)
    → count_by names_put_back (ws ++ w ∷ []) ≡ count_by names_put_back ws + cond (names_put_back w)
    1 0
counted_more ws w =
    let f : Way → ℕ = λ v. cond (names_put_back v) 1 0 in
    let all = sum_by-append f ws (w ∷ []) in
    omega arith
