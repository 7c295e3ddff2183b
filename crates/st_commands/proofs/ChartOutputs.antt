-- Bytes have exactly one output of each label's chart: they are the text of one bundle or have one
-- fault; pairing refuses the bundle's streams for one reason, or they have one order.
use Rattle.std.proofs.Common.{◌≡◌, ℕ, Bool, true, false, List, Option, Some, None, refl, sym, ap}
use Rattle.std.proofs.Common.{subst, ◌∙◌}
use Rattle.std.specs.List.{list_any}
use Rattle.std.proofs.lemmas.Option.{same_Some, none-some}
use Rattle.st_core.specs.declared.types.Label.{Label}
use Rattle.st_core.specs.declared.types.Act.{Act}
use Rattle.st_core.specs.Run.{Stream}
use Rattle.st_pair.specs.declared.answer.PairFault.{PairFault}
use Rattle.st_pair.specs.declared.answer.PairFault.TheVariants as pairing
use Rattle.st_pair.specs.Pairing.{refusal}
use Rattle.st_pair.proofs.ForCallers.{paired, reason_at}
use Rattle.st_order.specs.declared.item.Item.{Item}
use Rattle.st_order.specs.Order.{IsOrder, order}
use Rattle.st_order.specs.Labels.{item_has_label}
use Rattle.st_order.proofs.ForCallers.{an_order, one_order}
use Rattle.st_audit.specs.declared.finding.Finding.{Finding}
use Rattle.st_audit.specs.declared.finding.Finding.TheVariants as finding
use Rattle.st_audit.specs.declared.finding.Reason.TheVariants as reason
use Rattle.st_audit.specs.Findings.{unfit_by}
use Rattle.st_text.specs.declared.fault.ReadFault.{ReadFault}
use Rattle.st_text.specs.Text.{Contents}
use Rattle.st_text.specs.declared.limits.Limits.{Limits}
use Rattle.st_text.specs.Fault.{fault_within}
use Rattle.st_text.proofs.ForCallers.{text_one, readable}
use Rattle.st_commands.specs.Output.{Output, refused}
use Rattle.st_commands.specs.Audited.{report_output}
use Rattle.st_commands.specs.Checked.{Spells}
use Rattle.st_commands.specs.Charted.{HasOrder, HasPairFault, IsCharted, drawn, no_label}
use Rattle.st_commands.specs.Charted as charted
use Rattle.st_commands.specs.Laws.{HasOutput, HasOneOutput}
use Rattle.st_commands.proofs.Outputs.{whole, fault_apart, one_fault}

-- ---- an output

module _ (limits : Limits) (label : Label) (bytes : List ℕ) (streams : List Stream)
    (given : Option (List Act)) (spelled : Spells limits bytes streams given) where
  abbrev An : Type 0
  An = (out : Output) × IsCharted limits label bytes out

  of_label : (items : List Item) → HasOrder limits bytes streams items → (some : Bool)
      → list_any (item_has_label streams label) items ≡ some → An
  of_label items h true is = (drawn streams items label, charted.Drawn bytes streams items h is)
  of_label items h false is = (no_label label, charted.Unlabelled bytes streams items h is)

  of_accepted : refusal streams ≡ None → An
  of_accepted none =
      let items = order streams in
      let is_order = an_order streams spelled.text.bundle.streams.draft.rising
      (paired streams none).once in
      of_label items (record {
        given = given;
        spelled = spelled;
        accepted = none;
        order = is_order;
      })
      (list_any (item_has_label streams label) items) refl

  by_reason : (f : PairFault) (found : Finding) → refusal streams ≡ Some f → unfit_by f ≡ Some found
      → An
  by_reason f found is by = (
    report_output streams found,
    charted.Unpaired bytes streams found
        (record { given = given; spelled = spelled; fault = f; refused = is; found_by = by }),
  )

  of_refused : (f : PairFault) → refusal streams ≡ Some f → An
  of_refused pairing.Memory is =
      let rising = spelled.text.bundle.streams.draft.rising in
      let x = reason_at streams pairing.Memory rising is in
      absurd (none-some x.0 (sym x.3))
  of_refused (pairing.PrevNotBefore p i) is =
      by_reason _ (finding.Unfit p i reason.PrevNotBefore) is refl
  of_refused (pairing.NotRising p i j) is =
      by_reason _ (finding.Unfit p i (reason.NotRising j)) is refl
  of_refused (pairing.Repeated p i q j) is =
      by_reason _ (finding.Unfit p i (reason.Repeated q j)) is refl
  of_refused (pairing.Mismatch p i q j) is =
      by_reason _ (finding.Unfit p i (reason.Mismatch q j)) is refl

  of_streams : (o : Option PairFault) → refusal streams ≡ o → An
  of_streams None is = of_accepted is
  of_streams (Some f) is = of_refused f is

pub a_chart : (limits : Limits) (label : Label) → HasOutput (IsCharted limits label)
a_chart limits label bytes = by (fault_within limits bytes) refl
  where
    by : (o : Option ReadFault) → fault_within limits bytes ≡ o
        → (out : Output) × IsCharted limits label bytes out
    by (Some f) is = (refused f, charted.Faulty bytes f is)
    by None none =
        let read = readable limits bytes none in
        of_streams limits label bytes read.0.streams read.0.acts
        (record { text = read.1.text; within = read.1.within }) (refusal read.0.streams) refl

-- ---- one at most

module _ (limits : Limits) (bytes : List ℕ) where
  pub same_streams : (ss ts : List Stream) (xs ys : Option (List Act)) → Spells limits bytes ss xs
      → Spells limits bytes ts ys → ss ≡ ts
  same_streams ss ts xs ys s t =
      ap (λ (c : Contents). c.streams) (text_one bytes (whole ss xs) (whole ts ys) s.text t.text)

module _ (limits : Limits) (label : Label) (bytes : List ℕ) where
  module _ (ss ts : List Stream) (xs ys : List Item) (h : HasOrder limits bytes ss xs)
      (k : HasOrder limits bytes ts ys)
    where
      listed : ss ≡ ts
      listed = same_streams limits bytes ss ts h.given k.given h.spelled k.spelled

      ordered : xs ≡ ys
      ordered = one_order ss xs ys h.order (subst (λ (s : List Stream). IsOrder s ys)
          (sym listed) k.order)

      one_drawn : drawn ss xs label ≡ drawn ts ys label
      one_drawn = ap (λ s. drawn s xs label) listed ∙ ap (λ z. drawn ts z label) ordered

      label_apart : list_any (item_has_label ss label) xs ≡ true
          → list_any (item_has_label ts label) ys ≡ false → (X : Type 0) → X
      label_apart some none X =
          let moved : list_any (item_has_label ss label) xs
          ≡ list_any (item_has_label ts label) ys =
          ap (λ s. list_any (item_has_label s label) xs) listed
          ∙ ap (list_any (item_has_label ts label)) ordered in
          absurd (cc)

  reason_apart : (ss ts : List Stream) (xs : List Item) (found : Finding)
      → HasOrder limits bytes ss xs → HasPairFault limits bytes ts found → (X : Type 0) → X
  reason_apart ss ts xs found h k X =
      let moved : refusal ss ≡ refusal ts =
      ap refusal (same_streams limits bytes ss ts h.given k.given h.spelled k.spelled) in
      absurd (none-some k.fault (sym h.accepted ∙ moved ∙ k.refused))

  one_reason : (ss ts : List Stream) (one other : Finding) → HasPairFault limits bytes ss one
      → HasPairFault limits bytes ts other → report_output ss one ≡ report_output ts other
  one_reason ss ts one other h k =
      let listed : ss ≡ ts = same_streams limits bytes ss ts h.given k.given h.spelled k.spelled in
      let faults : h.fault ≡ k.fault =
      same_Some h.fault k.fault (sym h.refused ∙ ap refusal listed ∙ k.refused) in
      let found : one ≡ other =
      same_Some one other (sym h.found_by ∙ ap unfit_by faults ∙ k.found_by) in
      ap (λ s. report_output s one) listed ∙ ap (report_output ts) found

pub one_chart : (limits : Limits) (label : Label) → HasOneOutput (IsCharted limits label)
one_chart limits label bytes one other (charted.Drawn x ss xs h some)
    (charted.Drawn y ts ys k more) =
    one_drawn limits label x ss ts xs ys h k
one_chart limits label bytes one other (charted.Drawn x ss xs h some)
    (charted.Unlabelled y ts ys k none) =
    label_apart limits label x ss ts xs ys h k some none _
one_chart limits label bytes one other (charted.Drawn x ss xs h some)
    (charted.Unpaired y ts found k) =
    reason_apart limits label x ss ts xs found h k _
one_chart limits label bytes one other (charted.Drawn x ss xs h some) (charted.Faulty y f bad) =
    fault_apart limits x ss h.given f h.spelled bad _
one_chart limits label bytes one other (charted.Unlabelled x ss xs h none)
    (charted.Drawn y ts ys k some) =
    label_apart limits label x ts ss ys xs k h some none _
one_chart limits label bytes one other (charted.Unlabelled x ss xs h none)
    (charted.Unlabelled y ts ys k less) = refl
one_chart limits label bytes one other (charted.Unlabelled x ss xs h none)
    (charted.Unpaired y ts found k) =
    reason_apart limits label x ss ts xs found h k _
one_chart limits label bytes one other (charted.Unlabelled x ss xs h none)
    (charted.Faulty y f bad) =
    fault_apart limits x ss h.given f h.spelled bad _
one_chart limits label bytes one other (charted.Unpaired x ss found h)
    (charted.Drawn y ts ys k some) =
    reason_apart limits label x ts ss ys found k h _
one_chart limits label bytes one other (charted.Unpaired x ss found h)
    (charted.Unlabelled y ts ys k none) =
    reason_apart limits label x ts ss ys found k h _
one_chart limits label bytes one other (charted.Unpaired x ss found h)
    (charted.Unpaired y ts more k) =
    one_reason limits label x ss ts found more h k
one_chart limits label bytes one other (charted.Unpaired x ss found h) (charted.Faulty y f bad) =
    fault_apart limits x ss h.given f h.spelled bad _
one_chart limits label bytes one other (charted.Faulty x f bad) (charted.Drawn y ts ys k some) =
    fault_apart limits x ts k.given f k.spelled bad _
one_chart limits label bytes one other (charted.Faulty x f bad)
    (charted.Unlabelled y ts ys k none) =
    fault_apart limits x ts k.given f k.spelled bad _
one_chart limits label bytes one other (charted.Faulty x f bad) (charted.Unpaired y ts found k) =
    fault_apart limits x ts k.given f k.spelled bad _
one_chart limits label bytes one other (charted.Faulty x f bad) (charted.Faulty y g also) =
    ap refused (one_fault limits x f g bad also)
