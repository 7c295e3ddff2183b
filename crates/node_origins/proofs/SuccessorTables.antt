-- The walk adds only the token that the event shows, under the stamp that succeeds it.
use Rattle.std.proofs.Common.{◌≡◌, ℕ, ◌+◌, ◌==◌, ◌⊎◌, cond, Bool, true, false, List, Some, inl, inr}
use Rattle.std.proofs.Common.{refl, arith, sym, ◌∙◌, ap, subst}
use Rattle.std.specs.List.{slice_get}
use Rattle.std.specs.HashMap.{get}
use Rattle.std.specs.Option.{unwrap_or}
use Rattle.std.proofs.lemmas.Bool.{and_parts, cases_order, eq-eqb, eqb-true, false≢true}
use Rattle.std.proofs.lemmas.Option.{same_Some}
use Rattle.st_core.specs.declared.types.Label.{Label}
use Rattle.st_core.proofs.ForCallers.{both_true}
use Rattle.node_machine.specs.Counts.{stamp_count}
use Rattle.node_machine.specs.declared.types.Seen.{Seen}
use Rattle.node_machine.specs.Readings.{is_receipt}
use Rattle.node_machine.specs.Origins.{Can, TokenOrigin}
use Rattle.node_origins.specs.declared.origin.EventOrigins.{EventOrigins}
use Rattle.node_origins.specs.declared.origin.EventOrigins.TheVariants as origins
use Rattle.node_origins.specs.declared.origin.StampOrigin.TheVariants as stamp_origin
use Rattle.node_origins.specs.declared.successors.Successor.{Successor}
use Rattle.node_origins.specs.declared.successors.Successors.{Successors}
use Rattle.node_origins.specs.Sources.{FromPredecessor, OfToken}
use Rattle.node_origins.specs.Summary.{either_origins, IsEntry, IsSummary}
use Rattle.node_origins.specs.Tables.{AreSuccessors, LeadsTo, origins_in, successor_eq}
use Rattle.node_origins.proofs.Summaries.{either_summary, entry_summary, same_summary}

successor_same : (a b : Successor) → successor_eq a b ≡ true
    → (a.label ≡ b.label) × (a.prev ≡ b.prev) × (a.this ≡ b.this)
successor_same a b is =
    let first = and_parts (a.label == b.label) _ is in
    let rest = and_parts (a.prev == b.prev) (a.this == b.this) first.1 in (
      eqb-true a.label b.label first.0,
      eqb-true a.prev b.prev rest.0,
      eqb-true a.this b.this rest.1,
    )

successor_true : (a b : Successor) → a.label ≡ b.label → a.prev ≡ b.prev → a.this ≡ b.this
    → successor_eq a b ≡ true
successor_true a b label prev this =
    both_true (a.label == b.label) _ (eq-eqb a.label b.label label)
    (both_true (a.prev == b.prev) (a.this == b.this) (eq-eqb a.prev b.prev prev)
    (eq-eqb a.this b.this this))

-- adding a token changes the origins under one stamp
pub added : (t u : Successors) (key : Successor) (all o : EventOrigins)
    → ((q : Successor) → get successor_eq u.origins q
    ≡ cond (successor_eq key q) (Some all) (get successor_eq t.origins q))
    → all ≡ either_origins (origins_in t key) o → (q : Successor)
    → origins_in u q ≡ cond (successor_eq key q) (either_origins (origins_in t q) o)
    (origins_in t q)
added t u key all o now is q =
    ap (λ x. unwrap_or x origins.Unknown) (now q)
    ∙ (elim (successor_eq key q) as (λ b. successor_eq key q ≡ b
    → unwrap_or (cond b (Some all) (get successor_eq t.origins q)) origins.Unknown
    ≡ cond b (either_origins (origins_in t q) o) (origins_in t q)) [
      | true ↦ λ same.
          let parts = successor_same key q same in
          is ∙ ap (λ (k : Successor). either_origins (origins_in t k) o)
          (λ i. record { label = parts.0 i; prev = parts.1 i; this = parts.2 i })
      | false ↦ λ _. refl
    ]) refl

module _ (es : List Seen) (i : ℕ) (e : Seen) where
  -- the origin of a receive's token is the receive
  pub receive_origin : is_receipt e ≡ true
      → IsSummary (OfToken es i e) (origins.One (stamp_origin.Follows i))
  receive_origin kind = (
    inl (kind, refl),
    λ h there. elim there [
      | inl by ↦ by.1
      | inr stamp ↦ absurd (false≢true (sym stamp.0 ∙ kind))
    ],
  )

  pub stamp_origin_at : is_receipt e ≡ false → (o : EventOrigins) → IsEntry es i e o
      → IsSummary (OfToken es i e) o
  stamp_origin_at stamp o is =
      same_summary (Can es i) (OfToken es i e) (λ h can. inr (stamp, can))
      (λ h there. elim there [
        | inl by ↦ absurd (false≢true (sym stamp ∙ by.0))
        | inr can ↦ can.1
      ])
      o (entry_summary es i e stamp o is)

module _ (es : List Seen) (i : ℕ) (e : Seen) (at : slice_get es i ≡ Some e) where
  leads_later : (label prev this : ℕ) (h : TokenOrigin) → LeadsTo es i label prev this h
      → LeadsTo es (i + 1) label prev this h
  leads_later label prev this h is =
      let before = is.before in
      record {
        index = is.index;
        event = is.event;
        at = is.at;
        before = omega arith;
        own = is.own;
        label_is = is.label_is;
        prev_is = is.prev_is;
        count = is.count;
        origin = is.origin;
      }

  leads_now : e.answer ≡ false → (h : TokenOrigin) → OfToken es i e h
      → LeadsTo es (i + 1) e.label.0 e.serial.prev (stamp_count e.serial.this) h
  leads_now own h origin = record {
    index = i;
    event = e;
    at = at;
    before = omega arith;
    own = own;
    label_is = refl;
    prev_is = refl;
    count = refl;
    origin = origin;
  }

  record IsNow (label prev this : ℕ) (h : TokenOrigin) : Type 0 where
    own : e.answer ≡ false
    label_is : e.label.0 ≡ label
    prev_is : e.serial.prev ≡ prev
    count : this ≡ stamp_count e.serial.this
    origin : OfToken es i e h

  leads_parts : (label prev this : ℕ) (h : TokenOrigin) → LeadsTo es (i + 1) label prev this h
      → LeadsTo es i label prev this h ⊎ IsNow label prev this h
  leads_parts label prev this h is =
      let before = is.before in
      elim (cases_order is.index i) [
        | inr (inl less) ↦ inl (record {
          index = is.index;
          event = is.event;
          at = is.at;
          before = less;
          own = is.own;
          label_is = is.label_is;
          prev_is = is.prev_is;
          count = is.count;
          origin = is.origin;
        })
        | inr (inr more) ↦ absurd (omega arith)
        | inl same ↦
            let event = same_Some is.event e
            (sym is.at ∙ ap (λ n. slice_get es n) same ∙ at) in
            inr (record {
              own = subst (λ (d : Seen). d.answer ≡ false) event is.own;
              label_is = subst (λ (d : Seen). d.label.0 ≡ label) event is.label_is;
              prev_is = subst (λ (d : Seen). d.serial.prev ≡ prev) event is.prev_is;
              count = subst (λ (d : Seen). this ≡ stamp_count d.serial.this) event is.count;
              origin = subst (λ (d : Seen). OfToken es i d h) event
                  (subst (λ n. OfToken es n is.event h) same is.origin);
            })
      ]

  -- an answer adds no token, since its token isn't taken
  pub successors_answer : (t : Successors) → e.answer ≡ true → AreSuccessors es i t
      → AreSuccessors es (i + 1) t
  successors_answer t answer are = λ x.
      same_summary (LeadsTo es i x.label x.prev x.this) (LeadsTo es (i + 1) x.label x.prev x.this)
      (leads_later x.label x.prev x.this)
      (λ h is. elim (leads_parts x.label x.prev x.this h is) [
        | inl old ↦ old
        | inr now ↦ absurd (false≢true (sym now.own ∙ answer))
      ])
      (origins_in t x) (are x)

  module _ (own : e.answer ≡ false) (o : EventOrigins) (is : IsSummary (OfToken es i e) o)
      (t u : Successors) (are : AreSuccessors es i t) (key : Successor)
      (label : key.label ≡ e.label.0) (prev : key.prev ≡ e.serial.prev)
      (this : key.this ≡ stamp_count e.serial.this)
      (now : (q : Successor) → origins_in u q ≡ cond (successor_eq key q)
      (either_origins (origins_in t q) o) (origins_in t q)) where
    same_key : (x : Successor) → successor_eq key x ≡ true
        → IsSummary (LeadsTo es (i + 1) x.label x.prev x.this) (either_origins (origins_in t x) o)
    same_key x same =
        let parts = successor_same key x same in
        let Old = LeadsTo es i x.label x.prev x.this in
        same_summary (λ h. LeadsTo es i x.label x.prev x.this h ⊎ OfToken es i e h)
        (LeadsTo es (i + 1) x.label x.prev x.this)
        (λ h either. elim either [
          | inl old ↦ leads_later x.label x.prev x.this h old
          | inr here ↦
              subst (λ n. LeadsTo es (i + 1) n x.prev x.this h) (sym label ∙ parts.0)
              (subst (λ n. LeadsTo es (i + 1) e.label.0 n x.this h) (sym prev ∙ parts.1)
              (subst (λ n. LeadsTo es (i + 1) e.label.0 e.serial.prev n h) (sym this ∙ parts.2)
              (leads_now own h here)))
        ])
        (λ h leads. elim (leads_parts x.label x.prev x.this h leads) [
          | inl old ↦ inl old
          | inr here ↦ inr here.origin
        ])
        (either_origins (origins_in t x) o)
        (either_summary (LeadsTo es i x.label x.prev x.this) (OfToken es i e)
        (origins_in t x) o (are x) is)

    other_key : (x : Successor) → successor_eq key x ≡ false
        → IsSummary (LeadsTo es (i + 1) x.label x.prev x.this) (origins_in t x)
    other_key x other =
        same_summary (LeadsTo es i x.label x.prev x.this)
        (LeadsTo es (i + 1) x.label x.prev x.this)
        (leads_later x.label x.prev x.this)
        (λ h leads. elim (leads_parts x.label x.prev x.this h leads) [
          | inl old ↦ old
          | inr here ↦ absurd (false≢true (sym other
              ∙ successor_true key x (label ∙ here.label_is) (prev ∙ here.prev_is)
              (this ∙ sym here.count)))
        ])
        (origins_in t x) (are x)

    by_key : (x : Successor) (b : Bool) → successor_eq key x ≡ b
        → IsSummary (LeadsTo es (i + 1) x.label x.prev x.this)
        (cond b (either_origins (origins_in t x) o) (origins_in t x))
    by_key x true same = same_key x same
    by_key x false other = other_key x other

    pub successors_more : AreSuccessors es (i + 1) u
    successors_more = λ x.
        subst (IsSummary (LeadsTo es (i + 1) x.label x.prev x.this)) (sym (now x))
        (by_key x (successor_eq key x) refl)

  -- the table has the origins of the tokens that the stamp e succeeds
  pub predecessors : (t : Successors) → AreSuccessors es i t → (key : Successor)
      → key.label ≡ e.label.0 → key.prev ≡ e.serial.prev → key.this ≡ e.serial.this
      → IsSummary (FromPredecessor es i) (origins_in t key)
  predecessors t are key label prev this =
      same_summary (LeadsTo es i key.label key.prev key.this) (FromPredecessor es i)
      (λ h leads. (
        leads.index,
        elim leads.origin [
          | inl by ↦ inl (
            record {
              stamp = e;
              is_stamp = at;
              event = leads.event;
              at = leads.at;
              before = leads.before;
              kind = by.0;
              own = leads.own;
              label = ap (λ n. record { 0 = n }) (leads.label_is ∙ label);
              prev = leads.prev_is ∙ prev;
              count = sym this ∙ leads.count;
            },
            by.1,
          )
          | inr can ↦ inr (
            record {
              stamp = e;
              is_stamp = at;
              event = leads.event;
              at = leads.at;
              before = leads.before;
              kind = can.0;
              own = leads.own;
              label = ap (λ n. record { 0 = n }) (leads.label_is ∙ label);
              prev = leads.prev_is ∙ prev;
              count = sym this ∙ leads.count;
            },
            can.1,
          )
        ],
      ))
      (λ h from. elim from.1 [
        | inl by ↦
            let stamp = same_Some by.0.stamp e (sym by.0.is_stamp ∙ at) in
            record {
              index = from.0;
              event = by.0.event;
              at = by.0.at;
              before = by.0.before;
              own = by.0.own;
              label_is = ap (λ (l : Label). l.0)
                  (by.0.label ∙ ap (λ (d : Seen). d.label) stamp) ∙ sym label;
              prev_is = by.0.prev ∙ ap (λ (d : Seen). d.serial.prev) stamp ∙ sym prev;
              count = this ∙ ap (λ (d : Seen). d.serial.this) (sym stamp) ∙ by.0.count;
              origin = inl (by.0.kind, by.1);
            }
        | inr can ↦
            let stamp = same_Some can.0.stamp e (sym can.0.is_stamp ∙ at) in
            record {
              index = from.0;
              event = can.0.event;
              at = can.0.at;
              before = can.0.before;
              own = can.0.own;
              label_is = ap (λ (l : Label). l.0)
                  (can.0.label ∙ ap (λ (d : Seen). d.label) stamp) ∙ sym label;
              prev_is = can.0.prev ∙ ap (λ (d : Seen). d.serial.prev) stamp ∙ sym prev;
              count = this ∙ ap (λ (d : Seen). d.serial.this) (sym stamp) ∙ can.0.count;
              origin = inr (can.0.kind, can.1);
            }
      ])
      (origins_in t key) (are key)
