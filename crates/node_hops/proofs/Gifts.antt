-- Only a receive, a set and a put-back give a process another token, or its token another label,
-- and only a receive, a put-back and an answer change last.
use Rattle.std.proofs.Common.{◌≡◌, ◌≢◌, ℕ, ◌⊎◌, ◌||◌, ◌&&◌, Bool, true, false, cond, Option, Some}
use Rattle.std.proofs.Common.{None, is_some, option_map, inl, inr, refl, sym, ◌∙◌, ap, subst}
use Rattle.std.specs.Prelude.{is_none}
use Rattle.std.specs.Option.{option_map_or}
use Rattle.std.proofs.lemmas.Bool.{false≢true, or_parts}
use Rattle.std.proofs.lemmas.Option.{cond_some, same_Some, none-some}
use Rattle.st_core.specs.declared.types.Pid.{Pid}
use Rattle.st_core.specs.declared.types.Token.{Token}
use Rattle.st_core.specs.declared.types.Message.{Message}
use Rattle.st_core.specs.declared.types.Component.{Component}
use Rattle.st_core.specs.declared.types.Component.TheVariants as component
use Rattle.st_core.specs.declared.types.Kind.{Kind}
use Rattle.st_core.specs.declared.types.Kind.TheVariants as kind
use Rattle.st_core.specs.declared.types.Event.{Event}
use Rattle.st_core.specs.declared.types.Act.TheVariants as act
use Rattle.st_core.specs.declared.types.Want.TheVariants as want
use Rattle.st_core.specs.State.{LocalState, Process}
use Rattle.st_core.specs.Local.{received, with_component}
use Rattle.st_core.specs.Pick.{pick}
use Rattle.st_core.specs.Report.{flag_of, report, token_event}
use Rattle.st_core.specs.Step.{Acted, prints, receives}
use Rattle.node_machine.specs.Counts.{node_token}
use Rattle.node_machine.specs.Node.{after_answer, after_stamp, Answer, Common, fresh_token}
use Rattle.node_machine.specs.Node.{node_acted, node_found, node_stamped_token, NodeAct}
use Rattle.node_machine.specs.Node.{takes_answer, token_to_set}
use Rattle.node_machine.proofs.ForCallers.{print_at_either, stamp_either, stamp_last}
use Rattle.node_hops.specs.Gifts.{Begins, Follows, gift_by, sets_label, moves_counters, Gift}
use Rattle.node_hops.specs.Gifts.{PutsBack}

-- KINDS OF GIFTS

-- a gift bears its act's number, and a put-back moves the counters
abbrev pub IsGift : ℕ → NodeAct → Gift → Type 0
IsGift n a (Follows m) = m ≡ n
IsGift n a (Begins m) = m ≡ n
IsGift n a (PutsBack m) = moves_counters a ≡ true

pub gift_is : (n : ℕ) (r : Process) (a : NodeAct) (o : Gift) → gift_by n r a ≡ Some o
    → IsGift n a o
gift_is n r (Common (act.Receive p w)) o is =
    subst (IsGift n (Common (act.Receive p w))) (cond_some _ (Follows n) o is).1 refl
gift_is n r (Common (act.Set p c)) o is =
    subst (IsGift n (Common (act.Set p c))) (cond_some _ (Begins n) o is).1 refl
gift_is n r (Common (act.Restore p t)) o is =
    subst (IsGift n (Common (act.Restore p t))) (same_Some (PutsBack n) o is) refl
gift_is n r a o is = absurd (none-some o is)

-- LABELS

-- m has no token, or one with the label of l's token
abbrev pub KeepsLabel : LocalState → LocalState → Type 0
KeepsLabel l m = (m.token ≡ None)
    ⊎ ((t : Token) × (u : Token) × (l.token ≡ Some u) × (m.token ≡ Some t) × (t.label ≡ u.label))

pub same_token : (l m : LocalState) → m.token ≡ l.token → KeepsLabel l m
same_token l m same = (elim l.token as (λ token. l.token ≡ token → KeepsLabel l m) [
  | None ↦ λ none. inl (same ∙ none)
  | Some u ↦ λ is. inr (u, u, is, same ∙ is, refl)
]) refl

stamp_label : (p : Pid) (l : LocalState) → KeepsLabel l (after_stamp p l)
stamp_label p l = stamp_either (KeepsLabel l) p l (λ none. inl none)
    (λ t is. inr (node_stamped_token p l t, t, is, refl, refl))

no_gift : (b : Bool) (x : Gift) → cond b (Some x) None ≡ None → b ≡ false
no_gift true x is = absurd (none-some x (sym is))
no_gift false x is = refl

-- a message without a token takes the process's token away, and changes nothing else
taken_label : (l : LocalState) (token : Option Token) → is_some token ≡ false
    → KeepsLabel l (received l (option_map node_token token))
taken_label l None none = inl refl
taken_label l (Some t) none = absurd (false≢true (sym none))

found_label : (r : Process) (found : Option (ℕ × Message))
    → option_map_or (λ (x : ℕ × Message). is_some x.1.token) found false ≡ false
    → KeepsLabel r.local (receives r (node_found found)).local
found_label r None none = same_token r.local r.local refl
found_label r (Some found) none = taken_label r.local found.1.token none

answered_token : (l : LocalState) (token : Option Token) → (after_answer l token).token ≡ l.token
answered_token l None = refl
answered_token l (Some t) = refl

answer_label : (r : Process) (found : Option (ℕ × Message))
    → KeepsLabel r.local (takes_answer r (node_found found)).local
answer_label r None = same_token r.local r.local refl
answer_label r (Some found) =
    same_token r.local (after_answer r.local (option_map node_token found.1.token))
    (answered_token r.local (option_map node_token found.1.token))

flag_label : (c : Component) (t : Token) → sets_label c ≡ false
    → (with_component c t).label ≡ t.label
flag_label (component.Label x) t is = absurd (false≢true (sym is))
flag_label c t is = refl

set_label : (p : Pid) (c : Component) (l : LocalState) → (sets_label c || is_none l.token) ≡ false
    → KeepsLabel l (record l { token = Some (with_component c (token_to_set p l)) })
set_label p c l isnt =
    let parts = or_parts (sets_label c) (is_none l.token) isnt in
    (elim l.token as (λ token. l.token ≡ token → is_none token ≡ false
    → (let made : Token = elim token [ None ↦ fresh_token p l | Some t ↦ t ] in
    KeepsLabel l (record l { token = Some (with_component c made) }))) [
      | None ↦ λ _ some. absurd (false≢true (sym some))
      | Some t ↦ λ is _. inr (with_component c t, t, is, refl, flag_label c t parts.0)
    ]) refl parts.1

pub keeps_label : (n : ℕ) (r : Process) (a : NodeAct) → gift_by n r a ≡ None
    → KeepsLabel r.local (node_acted r a).local
keeps_label n r (Common (act.Send p q v)) none = stamp_label r.pid r.local
keeps_label n r (Common (act.Receive p w)) none =
    found_label r (pick w r.queue) (no_gift _ (Follows n) none)
keeps_label n r (Common (act.Print p v)) none = stamp_label r.pid r.local
keeps_label n r (Common (act.PrintAt p x v)) none =
    print_at_either (λ (done : Acted). KeepsLabel r.local done.local) r p x v
    (stamp_label r.pid r.local) (same_token r.local r.local refl)
keeps_label n r (Common (act.Set p c)) none = set_label r.pid c r.local (no_gift _ (Begins n) none)
keeps_label n r (Common (act.Clear p)) none = inl refl
keeps_label n r (Common (act.Restore p t)) none = absurd (none-some (PutsBack n) (sym none))
keeps_label n r (Answer p place) none = answer_label r (pick (want.Place place) r.queue)
keeps_label n r (Common a) none = same_token r.local r.local refl

-- LAST

taken_last : (l : LocalState) (token : Option Token) → is_some token ≡ false
    → (received l (option_map node_token token)).last ≡ l.last
taken_last l None none = refl
taken_last l (Some t) none = absurd (false≢true (sym none))

found_last : (r : Process) (found : Option (ℕ × Message))
    → option_map_or (λ (x : ℕ × Message). is_some x.1.token) found false ≡ false
    → (receives r (node_found found)).local.last ≡ r.local.last
found_last r None none = refl
found_last r (Some found) none = taken_last r.local found.1.token none

-- a receive that gives nothing takes no token
not_given : (b : Bool) (n : ℕ) → ((m : ℕ) → cond b (Some (Follows n)) None ≢ Some (Follows m))
    → b ≡ false
not_given true n isnt = absurd (isnt n refl)
not_given false n isnt = refl

pub keeps_last : (n : ℕ) (r : Process) (a : NodeAct)
    → ((m : ℕ) → gift_by n r a ≢ Some (Follows m)) → moves_counters a ≡ false
    → (node_acted r a).local.last ≡ r.local.last
keeps_last n r (Common (act.Send p q v)) isnt still = stamp_last r.pid r.local
keeps_last n r (Common (act.Receive p w)) isnt still =
    found_last r (pick w r.queue) (not_given _ n isnt)
keeps_last n r (Common (act.Print p v)) isnt still = stamp_last r.pid r.local
keeps_last n r (Common (act.PrintAt p x v)) isnt still =
    print_at_either (λ (done : Acted). done.local.last ≡ r.local.last) r p x v
    (stamp_last r.pid r.local) refl
keeps_last n r (Common (act.Restore p t)) isnt still = absurd (false≢true (sym still))
keeps_last n r (Answer p place) isnt still = absurd (false≢true (sym still))
keeps_last n r (Common a) isnt still = refl

-- RECEIVES

told_kind : (traced : Bool) (k : Kind) (token : Option Token) (to : Option Pid) (v : ℕ) (e : Event)
    → report traced k token to v ≡ Some e → (e.kind ≡ k) × (is_some token ≡ true)
told_kind traced k None to v e is = absurd (none-some e is)
told_kind traced k (Some t) to v e is =
    let same = (cond_some (traced && flag_of k t.flags) (token_event k t to v) e is).1 in
    (ap (λ (x : Event). x.kind) (sym same), refl)

-- only a receive's report is a receive
other_kind : (k : Kind) → k ≢ kind.Receive → (traced : Bool) (token : Option Token)
    (to : Option Pid) (v : ℕ) (e : Event) → report traced k token to v ≡ Some e
    → e.kind ≡ kind.Receive
    → ⊥
other_kind k other traced token to v e is receives =
    other (sym (told_kind traced k token to v e is).0 ∙ receives)

node_some : (token : Option Token) → is_some (option_map node_token token) ≡ is_some token
node_some None = refl
node_some (Some t) = refl

found_told : (r : Process) (found : Option (ℕ × Message)) (e : Event)
    → (receives r (node_found found)).report ≡ Some e
    → (e.kind ≡ kind.Receive)
    × (option_map_or (λ (x : ℕ × Message). is_some x.1.token) found false ≡ true)
found_told r None e is = absurd (none-some e is)
found_told r (Some found) e is =
    let parts = told_kind r.local.traced kind.Receive (option_map node_token found.1.token)
    (Some r.pid) found.1.value e is in
    (parts.0, sym (node_some found.1.token) ∙ parts.1)

no_print : (r : Process) (v : ℕ) (e : Event) → e.kind ≡ kind.Receive
    → (prints r v (after_stamp r.pid r.local)).report ≡ Some e → ⊥
no_print r v e receives is = other_kind kind.Print (λ x. absurd (cc)) r.local.traced
    (after_stamp r.pid r.local).token None v e is receives

-- a reported receive gives its token, unless it is an answer
pub received_gives : (n : ℕ) (r : Process) (a : NodeAct) (e : Event)
    → (node_acted r a).report ≡ Some e → e.kind ≡ kind.Receive → moves_counters a ≡ false
    → gift_by n r a ≡ Some (Follows n)
received_gives n r (Common (act.Send p q v)) e is receives still =
    absurd (other_kind kind.Send (λ x. absurd (cc)) r.local.traced (after_stamp r.pid r.local).token
    (Some q) v e is receives)
received_gives n r (Common (act.Receive p w)) e is receives still =
    ap (λ b. cond b (Some (Follows n)) None) (found_told r (pick w r.queue) e is).1
received_gives n r (Common (act.Print p v)) e is receives still =
    absurd (no_print r v e receives is)
received_gives n r (Common (act.PrintAt p x v)) e is receives still =
    absurd (print_at_either (λ (done : Acted). done.report ≡ Some e → ⊥) r p x v
    (no_print r v e receives) (none-some e) is)
received_gives n r (Answer p place) e is receives still = absurd (false≢true (sym still))
received_gives n r (Common a) e is receives still = absurd (none-some e is)

-- the report of an act that gives a token with a message is a receive
pub gift_received : (n : ℕ) (r : Process) (a : NodeAct) (m : ℕ) (e : Event)
    → gift_by n r a ≡ Some (Follows m) → (node_acted r a).report ≡ Some e
    → e.kind ≡ kind.Receive
gift_received n r (Common (act.Receive p w)) m e is told = (found_told r (pick w r.queue) e told).0
gift_received n r (Common (act.Set p c)) m e is told = absurd (none-some e told)
gift_received n r (Common (act.Restore p t)) m e is told = absurd (none-some e told)
gift_received n r a m e is told = absurd (none-some (Follows m) is)
