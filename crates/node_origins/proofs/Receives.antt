-- The receive right before a stamp can have brought its token exactly if the stamp goes on plainly
-- after it, or a token that was put back right before the receive leads there. What gives the
-- stamp tells which: a token that was put back right before the stamp, with a count not below the
-- receive's, was held before the receive, which brought another token.
use Rattle.std.proofs.Common.{◌≡◌, ℕ, ◌<◌, ◌≤◌, ◌^◌, ◌⊎◌, max, suc, true, false, List, [], ◌∷◌}
use Rattle.std.proofs.Common.{◌++◌, take, Some, inl, inr, refl, arith, sym, ◌∙◌, ap, subst}
use Rattle.std.proofs.Common.{append-nil}
use Rattle.std.specs.List.{slice_get}
use Rattle.std.proofs.lemmas.Bool.{cases_order, false≢true}
use Rattle.std.proofs.lemmas.Option.{same_Some}
use Rattle.st_core.specs.declared.types.Serial.{Serial}
use Rattle.node_machine.specs.Counts.{stamp_count}
use Rattle.node_machine.specs.declared.types.Seen.{Seen}
use Rattle.node_machine.specs.declared.types.Reading.{Reading}
use Rattle.node_machine.specs.Premises.{IsAmong}
use Rattle.node_machine.specs.Readings.{clock_by, is_next, is_receipt, last_behind, NeedsPutBack}
use Rattle.node_machine.specs.Readings.{readings, taking}
use Rattle.node_machine.specs.Given.{fresh, IsPutBack, IsStraight, takes, tokens}
use Rattle.node_machine.specs.Ways.{IsLowered, IsPlainly}
use Rattle.node_machine.specs.Origins.{IsTaken}
use Rattle.node_machine.proofs.ForCallers.{all_of, clock_by_receive, last_by_receive, last_push}
use Rattle.node_machine.proofs.ForCallers.{next_parts, next_true, serial_case, take_reads}
use Rattle.node_machine.proofs.ForCallers.{takes_true, took_reads, ways_give}
use Rattle.node_given.specs.declared.way.Way.{Way}
use Rattle.node_given.specs.declared.way.Way.TheVariants as way
use Rattle.node_given.specs.Walk.{AreFit, IsWay}
use Rattle.node_given.proofs.ForCallers.{before_receive, lowered_clock, lowered_last, tokens_fit}
use Rattle.node_given.proofs.ForCallers.{zero_held}
use Rattle.node_origins.proofs.Steps.{lowered_receive}
use Rattle.node_origins.specs.Sources.{LeavesReceive}

-- the receive leads to the stamp e
abbrev pub Leads : List Seen → Seen → Seen → Type 0
Leads front receive e = IsPlainly (front ++ receive ∷ []) e
    ⊎ ((token : Serial) × IsLowered (front ++ receive ∷ []) e token)

ends_once : {A : Type 0} (xs ys : List A) (x y : A) → xs ++ x ∷ [] ≡ ys ++ y ∷ []
    → (xs ≡ ys) × (x ≡ y)
ends_once [] [] x y is = let same : x ≡ y = cc in (refl, same)
ends_once [] (z ∷ []) x y is = absurd (cc)
ends_once [] (z ∷ w ∷ ys) x y is = absurd (cc)
ends_once (z ∷ []) [] x y is = absurd (cc)
ends_once (z ∷ w ∷ xs) [] x y is = absurd (cc)
ends_once (z ∷ xs) (w ∷ ys) x y is =
    let first : z ≡ w = cc in
    let more : xs ++ x ∷ [] ≡ ys ++ y ∷ [] = cc in
    let rest = ends_once xs ys x y more in
    (λ i. first i ∷ rest.0 i, rest.1)

module _ (front : List Seen) (receive e : Seen) (kind : is_receipt receive ≡ true)
    (own : receive.answer ≡ false) where
  leads_after : (clock last : ℕ) → IsStraight front clock last ⊎ IsPutBack front clock last
      → receive.serial.this ≡ e.serial.prev
      → e.serial.this ≡ stamp_count (max clock receive.serial.this) → Leads front receive e
  leads_after clock last (inl straight) prev count =
      let r = straight.reading in
      let lifted = ap (λ n. stamp_count (max n receive.serial.this)) straight.clock_is
      ∙ ap stamp_count (sym (clock_by_receive receive r.clock own)) in
      let behind = last_push front receive 0 ∙ last_by_receive receive kind own ∙ prev in
      inl (record {
        reading = taking receive r;
        reads = take_reads front receive r straight.reads kind;
        next = next_true (clock_by receive r.clock) (last_behind 0 (front ++ receive ∷ [])) e
            (count ∙ lifted) (sym behind);
      })
  leads_after clock last (inr back) prev count =
      inr (lowered_receive front receive e clock last back (takes_true receive kind own) prev count)

  record IsThere : Type 0 where
    clock : ℕ
    last : ℕ
    way : IsStraight front clock last ⊎ IsPutBack front clock last
    count : e.serial.this ≡ stamp_count (max clock receive.serial.this)

  there_before : Leads front receive e → IsThere
  there_before (inl plain) =
      let whole = front ++ receive ∷ [] in
      let back = took_reads front receive plain.reading plain.reads kind in
      let clocks : clock_by receive back.0.clock ≡ plain.reading.clock =
      ap (λ (r : Reading). r.clock) back.2 in
      let parts = next_parts plain.reading.clock (last_behind 0 whole) e plain.next in
      record {
        clock = back.0.clock;
        last = last_behind 0 front;
        way = inl (record {
          reading = back.0;
          reads = back.1;
          clock_is = refl;
          last_is = refl;
        });
        count = parts.0
            ∙ ap stamp_count (sym clocks ∙ clock_by_receive receive back.0.clock own);
      }
  there_before (inr low) =
      let ends = ends_once front low.1.front receive low.1.receive low.1.split in
      let token = low.0 in
      record {
        clock = token.this;
        last = token.prev;
        way = inr (record {
          front = front;
          back = [];
          split = sym (append-nil front);
          receives = tt;
          token = token;
          held = subst (λ xs. IsAmong (tokens xs) token) (sym ends.0) low.1.held;
          clock_is = refl;
          last_is = refl;
        });
        count = low.1.count
            ∙ ap (λ (r : Seen). stamp_count (max token.this r.serial.this)) (sym ends.1);
      }

module _ (es : List Seen) (i k : ℕ) (receive e : Seen) (at_e : slice_get es i ≡ Some e)
    (at : slice_get es k ≡ Some receive) where
  pub taken_leads : IsTaken es i k → (i ≡ suc k) × (is_receipt receive ≡ true)
      × (receive.answer ≡ false) × (receive.label ≡ e.label)
      × (receive.serial.this ≡ e.serial.prev) × Leads (take k es) receive e
  taken_leads is =
      let stamp = same_Some is.stamp e (sym is.is_stamp ∙ at_e) in
      let event = same_Some is.event receive (sym is.at ∙ at) in
      let kind = subst (λ (d : Seen). is_receipt d ≡ true) event is.receive in
      let own = subst (λ (d : Seen). d.answer ≡ false) event is.own in
      let prev = ap (λ (d : Seen). d.serial.this) (sym event) ∙ is.prev
      ∙ ap (λ (d : Seen). d.serial.prev) stamp in (
        is.before,
        kind,
        own,
        ap (λ (d : Seen). d.label) (sym event) ∙ is.label ∙ ap (λ (d : Seen). d.label) stamp,
        prev,
        leads_after (take k es) receive e kind own is.clock is.last is.way prev
            (ap (λ (d : Seen). d.serial.this) (sym stamp) ∙ is.count
            ∙ ap (λ (d : Seen). stamp_count (max is.clock d.serial.this)) event),
      )

  pub leads_taken : i ≡ suc k → is_receipt receive ≡ true → receive.answer ≡ false
      → receive.label ≡ e.label → receive.serial.this ≡ e.serial.prev
      → Leads (take k es) receive e → IsTaken es i k
  leads_taken before kind own label prev leads =
      let there = there_before (take k es) receive e kind own leads in
      record {
        stamp = e;
        is_stamp = at_e;
        event = receive;
        at = at;
        before = before;
        receive = kind;
        own = own;
        label = label;
        clock = there.clock;
        last = there.last;
        way = there.way;
        prev = prev;
        count = there.count;
      }

-- BY WHAT GIVES THE STAMP

module _ (front : List Seen) (receive e : Seen) (taken : takes receive ≡ true)
    (prev : receive.serial.this ≡ e.serial.prev) where
  abbrev whole : List Seen
  whole = front ++ receive ∷ []

  module _ (fit : AreFit whole) (low : receive.serial.this < 2 ^ 60) where
    lowered_again : (t : Serial) → IsAmong (tokens whole) t → e.serial.this ≡ stamp_count t.this
        → receive.serial.this ≤ t.this → (token : Serial) × IsLowered whole e token
    lowered_again t held count least = elim (cases_order receive.serial.this t.this) [
      | inl same ↦
          let most : t.this ≡ max 0 receive.serial.this = omega arith in (
            fresh 0,
            record {
              front = front;
              receive = receive;
              split = refl;
              taken = taken;
              held = zero_held front;
              prev = prev;
              count = count ∙ ap stamp_count most;
            },
          )
      | inr other ↦ elim other [
        | inl less ↦
            let most : t.this ≡ max t.this receive.serial.this = omega arith in (
              t,
              record {
                front = front;
                receive = receive;
                split = refl;
                taken = taken;
                held = before_receive front receive t taken less held;
                prev = prev;
                count = count ∙ ap stamp_count most;
              },
            )
        | inr more ↦ absurd (omega arith)
      ]
    ]

    -- the receive's count isn't above the token's
    not_above : (t : Serial) → IsAmong (tokens whole) t → e.serial.this ≡ stamp_count t.this
        → (e.serial.this ≡ 0) ⊎ (e.serial.prev < e.serial.this)
        → receive.serial.this ≤ t.this
    not_above t held count leaves = elim (serial_case t.this (tokens_fit whole t fit held)) [
      | inl below ↦
          let next = below.1 in
          elim leaves [
            | inl none ↦ absurd (omega arith)
            | inr less ↦ omega arith
          ]
      | inr wraps ↦ let top = wraps.0 in omega arith
    ]

    above_never : (t token : Serial) → IsAmong (tokens whole) t
        → e.serial.this ≡ stamp_count t.this → IsLowered whole e token
        → (e.serial.this ≡ 0) ⊎ (e.serial.prev < e.serial.this)
    above_never t token held count lowered =
        let fits = tokens_fit whole t fit held in
        let most = lowered_clock whole e token t.this fit lowered fits (sym count) in
        let last = lowered_last whole e token lowered in
        elim (serial_case t.this fits) [
          | inl below ↦ let next = below.1 in inr (omega arith)
          | inr wraps ↦ inl (count ∙ wraps.1)
        ]

    pub leaves_leads : (w : Way) → IsWay whole e w → LeavesReceive w e → Leads front receive e
    leaves_leads way.Receive is leaves = absurd leaves
    leaves_leads way.Plain is leaves = inl is.1
    leaves_leads (way.PutBack t) is leaves =
        inr (lowered_again t is.2.held is.2.count (not_above t is.2.held is.2.count leaves))
    leaves_leads (way.Lowered t) is leaves = inr (t, is.2)
    leaves_leads way.Ungiven is leaves = absurd leaves

    needs_plain : NeedsPutBack whole e → IsPlainly whole e → ⊥
    needs_plain needs plain = false≢true
        (sym (all_of (λ (r : Reading). is_next r.clock (last_behind 0 whole) e ≡ false)
        (readings whole) plain.reading needs plain.reads) ∙ plain.next)

    pub leads_leaves : (w : Way) → is_receipt e ≡ false → IsWay whole e w → Leads front receive e
        → LeavesReceive w e
    leads_leaves way.Receive stamp is leads = absurd (false≢true (sym stamp ∙ is))
    leads_leaves way.Plain stamp is leads = tt
    leads_leaves (way.PutBack t) stamp is (inl plain) = absurd (needs_plain is.1 plain)
    leads_leaves (way.PutBack t) stamp is (inr lowered) =
        above_never t lowered.0 is.2.held is.2.count lowered.1
    leads_leaves (way.Lowered t) stamp is leads = tt
    leads_leaves way.Ungiven stamp is (inl plain) = is.1 (ways_give whole e (inl plain))
    leads_leaves way.Ungiven stamp is (inr lowered) =
        is.1 (ways_give whole e (inr (inr (inr lowered))))
