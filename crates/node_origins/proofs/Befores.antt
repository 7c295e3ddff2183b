-- The receive or the answer right before a stamp is at one index: so a receive allows one origin
-- at most, and an answer those of its request.
use Rattle.std.proofs.Common.{◌≡◌, ℕ, ◌+◌, zero, suc, false, List, [], ◌∷◌, ◌++◌, take, Some, refl}
use Rattle.std.proofs.Common.{arith, sym, ◌∙◌, ap, subst}
use Rattle.std.specs.List.{slice_get}
use Rattle.std.proofs.lemmas.Option.{same_Some}
use Rattle.node_machine.specs.declared.types.Seen.{Seen}
use Rattle.node_machine.specs.Readings.{is_receipt}
use Rattle.node_machine.specs.Origins.{Can, Follows, TokenOrigin}
use Rattle.node_machine.proofs.ForCallers.{takes_true}
use Rattle.node_given.specs.declared.way.Way.{Way}
use Rattle.node_given.specs.Walk.{AreFit, IsWay}
use Rattle.node_given.proofs.ForCallers.{fits_at, taken_more}
use Rattle.node_origins.specs.declared.origin.EventOrigins.{EventOrigins}
use Rattle.node_origins.specs.declared.origin.EventOrigins.TheVariants as origins
use Rattle.node_origins.specs.declared.origin.StampOrigin.TheVariants as stamp_origin
use Rattle.node_origins.specs.Sources.{Brings, FromReceive, FromRequest, FollowsAnswer}
use Rattle.node_origins.specs.Summary.{IsEntry, IsSummary}
use Rattle.node_origins.proofs.Summaries.{entry_summary, same_summary}
use Rattle.node_origins.proofs.Receives.{Leads, leads_leaves, leads_taken, leaves_leads}
use Rattle.node_origins.proofs.Receives.{taken_leads}

fit_front : (n : ℕ) (es : List Seen) → AreFit es → AreFit (take n es)
fit_front zero es fit = tt
fit_front (suc n) [] fit = tt
fit_front (suc n) (e ∷ es) fit = (fit.0, fit_front n es fit.1)

module _ (es : List Seen) (i k : ℕ) (e before : Seen) (at_e : slice_get es i ≡ Some e)
    (at : slice_get es k ≡ Some before) (next : i ≡ suc k) (fit : AreFit es) where
  front_is : take i es ≡ take k es ++ before ∷ []
  front_is =
      let more : i ≡ k + 1 = omega arith in
      ap (λ n. take n es) more ∙ taken_more es k before at

  module _ (w : Way) (stamp : is_receipt e ≡ false) (is : IsWay (take i es) e w) where
    way_there : IsWay (take k es ++ before ∷ []) e w
    way_there = subst (λ xs. IsWay xs e w) front_is is

    fit_there : AreFit (take k es ++ before ∷ [])
    fit_there = subst AreFit front_is (fit_front i es fit)

    pub receive_brings : Brings before e w
        → IsSummary (FromReceive es i) (origins.One (stamp_origin.Follows k))
    receive_brings by =
        let leads = leaves_leads (take k es) before e (takes_true before by.kind by.own) by.prev
        fit_there (fits_at es k before fit at) w way_there by.leaves in (
          (k, leads_taken es i k before e at_e at next by.kind by.own by.label by.prev leads, refl),
          λ h there.
              let once : there.0 ≡ k =
              (let behind = there.1.before in omega arith) in
              there.2 ∙ ap Follows once,
        )

    pub none_brings : (Brings before e w → ⊥) → (h : TokenOrigin) → FromReceive es i h → ⊥
    none_brings never h there =
        let once : there.0 ≡ k = (let behind = there.1.before in omega arith) in
        let parts = taken_leads es i there.0 before e at_e
        (ap (λ n. slice_get es n) once ∙ at) there.1 in
        never (record {
          kind = parts.1;
          own = parts.2;
          label = parts.3;
          prev = parts.4;
          leaves = leads_leaves (take k es) before e (takes_true before parts.1 parts.2) parts.4
              fit_there (fits_at es k before fit at) w stamp way_there
              (subst (λ n. Leads (take n es) before e) once parts.5);
        })

module _ (es : List Seen) (i k : ℕ) (e answer request : Seen) (at_e : slice_get es i ≡ Some e)
    (at_answer : slice_get es (suc k) ≡ Some answer) (at : slice_get es k ≡ Some request)
    (next : i ≡ suc (suc k)) where
  pub request_gives : FollowsAnswer request answer e → (o : EventOrigins) → IsEntry es k request o
      → IsSummary (FromRequest es i) o
  request_gives goes o entry =
      same_summary (Can es k) (FromRequest es i)
      (λ h can. (
        k,
        record {
          stamp = e;
          is_stamp = at_e;
          event = request;
          at = at;
          kind = goes.kind;
          label = goes.label;
          answer = answer;
          answer_at = at_answer;
          answers = goes.answers;
          behind = next;
          prev = goes.prev;
          count = goes.count;
        },
        can,
      ))
      (λ h there.
      let once : there.0 ≡ k = (let behind = there.1.behind in omega arith) in
      subst (λ n. Can es n h) once there.2)
      o (entry_summary es k request goes.kind o entry)

  pub none_requests : (FollowsAnswer request answer e → ⊥) → (h : TokenOrigin) → FromRequest es i h
      → ⊥
  none_requests never h there =
      let once : there.0 ≡ k = (let behind = there.1.behind in omega arith) in
      let r = there.1 in
      let stamp = same_Some r.stamp e (sym r.is_stamp ∙ at_e) in
      let event = same_Some r.event request
      (sym r.at ∙ ap (λ n. slice_get es n) once ∙ at) in
      let told = same_Some r.answer answer
      (sym r.answer_at ∙ ap (λ n. slice_get es (suc n)) once ∙ at_answer) in
      never (subst (λ d. FollowsAnswer request answer d) stamp
      (subst (λ d. FollowsAnswer request d r.stamp) told
      (subst (λ d. FollowsAnswer d r.answer r.stamp) event (record {
        kind = r.kind;
        label = r.label;
        answers = r.answers;
        prev = r.prev;
        count = r.count;
      }))))
