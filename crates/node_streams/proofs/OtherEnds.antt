-- Two events are the ends of one message if as many alike ones come before each.
use Rattle.std.proofs.Common.{◌≡◌, ℕ, ◌+◌, ◌&&◌, zero, suc, cond, Bool, true, false, List, [], ◌∷◌}
use Rattle.std.proofs.Common.{take, Option, Some, None, option_map, refl, arith, sym, ◌∙◌, ap}
use Rattle.std.proofs.Common.{subst}
use Rattle.std.specs.List.{count_by, slice_get}
use Rattle.std.proofs.lemmas.Bool.{and_parts}
use Rattle.std.proofs.lemmas.Option.{same_Some, none-some}
use Rattle.st_core.specs.declared.types.Pid.{Pid}
use Rattle.st_core.specs.declared.types.Kind.{Kind}
use Rattle.st_core.specs.declared.types.Kind.TheVariants as kind
use Rattle.st_core.specs.declared.types.Event.{Event}
use Rattle.st_core.specs.Event.{kind_eq}
use Rattle.st_core.specs.Run.{Stream}
use Rattle.st_core.specs.Streams.{AreOwn, events_of}
use Rattle.node_streams.specs.declared.content.MessageContent.{MessageContent}
use Rattle.node_streams.specs.Messages.{content_eq, content_of, nth, owner, other_end_of, partners}
use Rattle.node_streams.specs.Messages.{send_of, tells}
use Rattle.node_streams.proofs.Counting.{content_itself, content_same}
use Rattle.node_streams.proofs.EachEvents.{each_at}
use Rattle.node_streams.proofs.Owners.{kind_same, own_event, owner_is}
use Rattle.node_machine.proofs.ForCallers.{count_first}

pub partner_at : (streams : List Stream) (es : List Event) (i : ℕ) (e : Event)
    → slice_get es i ≡ Some e
    → slice_get (partners streams es) i ≡ Some (other_end_of streams (take i es) e)
partner_at streams es i e at = each_at (other_end_of streams) es i e at

-- THE NTH

counted : (test : Event → Bool) (e : Event) (es : List Event) (b : Bool) → test e ≡ b
    → count_by test (e ∷ es) ≡ cond b 1 0 + count_by test es
counted test e es b is =
    count_first test e es ∙ ap (λ c. cond c 1 0 + count_by test es) is

nth_passed : (test : Event → Bool) (n : ℕ) (e : Event) (es : List Event) → test e ≡ true
    → nth test (suc n) (e ∷ es) ≡ option_map suc (nth test n es)
nth_passed test n e es is =
    ap (λ b. cond b (option_map suc (nth test n es)) (option_map suc (nth test (suc n) es))) is

nth_first : (test : Event → Bool) (e : Event) (es : List Event) → test e ≡ true
    → nth test zero (e ∷ es) ≡ Some 0
nth_first test e es is = ap (λ b. cond b (Some 0) (option_map suc (nth test zero es))) is

nth_failed : (test : Event → Bool) (n : ℕ) (e : Event) (es : List Event) → test e ≡ false
    → nth test n (e ∷ es) ≡ option_map suc (nth test n es)
nth_failed test zero e es is = ap (λ b. cond b (Some 0) (option_map suc (nth test zero es))) is
nth_failed test (suc n) e es is =
    ap (λ b. cond b (option_map suc (nth test n es)) (option_map suc (nth test (suc n) es))) is

-- an event that passes comes after as many events as pass before it
pub nth_counts : (test : Event → Bool) (es : List Event) (i : ℕ) (e : Event)
    → slice_get es i ≡ Some e → test e ≡ true → nth test (count_by test (take i es)) es ≡ Some i
nth_counts test [] i e at is = absurd (none-some e at)
nth_counts test (d ∷ es) zero e at is =
    nth_first test d es (ap test (same_Some d e at) ∙ is)
nth_counts test (d ∷ es) (suc i) e at is = (elim (test d) as (λ b. test d ≡ b
    → nth test (count_by test (d ∷ take i es)) (d ∷ es) ≡ Some (suc i)) [
      | true ↦ λ yes.
          let more : 1 + count_by test (take i es) ≡ suc (count_by test (take i es)) =
          omega arith in
          ap (λ n. nth test n (d ∷ es)) (counted test d (take i es) true yes ∙ more)
          ∙ nth_passed test (count_by test (take i es)) d es yes
          ∙ ap (option_map suc) (nth_counts test es i e at is)
      | false ↦ λ no.
          let same : 0 + count_by test (take i es) ≡ count_by test (take i es) = omega arith in
          ap (λ n. nth test n (d ∷ es)) (counted test d (take i es) false no ∙ same)
          ∙ nth_failed test (count_by test (take i es)) d es no
          ∙ ap (option_map suc) (nth_counts test es i e at is)
    ]) refl

-- the event at index j passes, after n others that do
pub record IsNth (test : Event → Bool) (n : ℕ) (es : List Event) (j : ℕ) : Type 0 where
  pub event : Event
  pub at : slice_get es j ≡ Some event
  pub passes : test event ≡ true
  pub before : count_by test (take j es) ≡ n

later : (o : Option ℕ) (j : ℕ) → option_map suc o ≡ Some j → (k : ℕ) × (o ≡ Some k) × (j ≡ suc k)
later None j is = absurd (none-some j is)
later (Some k) j is = (k, refl, sym (same_Some (suc k) j is))

nth_later : (test : Event → Bool) (n m : ℕ) (d : Event) (es : List Event) (b : Bool)
    → test d ≡ b → cond b 1 0 + m ≡ n → (j : ℕ) (o : Option ℕ) → option_map suc o ≡ Some j
    → ((k : ℕ) → o ≡ Some k → IsNth test m es k) → IsNth test n (d ∷ es) j
nth_later test n m d es b is sum j o found rest =
    let one = later o j found in
    let k = one.0 in
    let x = rest k one.1 in
    record {
      event = x.event;
      at = ap (slice_get (d ∷ es)) one.2 ∙ x.at;
      passes = x.passes;
      before = ap (λ i. count_by test (take i (d ∷ es))) one.2
          ∙ counted test d (take k es) b is ∙ ap (λ c. cond b 1 0 + c) x.before ∙ sum;
    }

pub nth_is : (test : Event → Bool) (n : ℕ) (es : List Event) (j : ℕ) → nth test n es ≡ Some j
    → IsNth test n es j
nth_is test n [] j found = absurd (none-some j found)
nth_is test zero (d ∷ es) j found = (elim (test d) as (λ b. test d ≡ b
    → cond b (Some 0) (option_map suc (nth test zero es)) ≡ Some j → IsNth test zero (d ∷ es) j) [
      | true ↦ λ is at.
          let first = same_Some 0 j at in
          subst (IsNth test zero (d ∷ es)) first
          (record { event = d; at = refl; passes = is; before = refl })
      | false ↦ λ is at. nth_later test zero zero d es false is refl j (nth test zero es) at
          (λ k there. nth_is test zero es k there)
    ]) refl found
nth_is test (suc n) (d ∷ es) j found = (elim (test d) as (λ b. test d ≡ b
    → cond b (option_map suc (nth test n es)) (option_map suc (nth test (suc n) es)) ≡ Some j
    → IsNth test (suc n) (d ∷ es) j) [
      | true ↦ λ is at.
          let sum : 1 + n ≡ suc n = omega arith in
          nth_later test (suc n) n d es true is sum j (nth test n es) at
          (λ k there. nth_is test n es k there)
      | false ↦ λ is at.
          let sum : 0 + suc n ≡ suc n = omega arith in
          nth_later test (suc n) (suc n) d es false is sum j (nth test (suc n) es) at
          (λ k there. nth_is test (suc n) es k there)
    ]) refl found

-- BOTH ENDS

kind_itself : (k : Kind) → (kind_eq k k && true) ≡ true
kind_itself kind.Send = refl
kind_itself kind.Receive = refl
kind_itself kind.Print = refl

pub tells_own : (k : Kind) (e : Event) → e.kind ≡ k → tells k (content_of e) e ≡ true
tells_own k e is =
    ap (λ j. kind_eq j k && content_eq (content_of e) (content_of e)) is
    ∙ ap (λ b. kind_eq k k && b) (content_itself (content_of e)) ∙ kind_itself k

told_kind : (k : Kind) (c : MessageContent) (e : Event) → tells k c e ≡ true → e.kind ≡ k
told_kind k c e is =
    kind_same e.kind k (and_parts (kind_eq e.kind k) (content_eq (content_of e) c) is).0

pub told_content : (k : Kind) (c : MessageContent) (e : Event) → tells k c e ≡ true
    → content_of e ≡ c
told_content k c e is =
    content_same (content_of e) c
    (and_parts (kind_eq e.kind k) (content_eq (content_of e) c) is).1

-- event j of q is the send of the receive at event i of p
pub record IsSendOf (streams : List Stream) (p : Pid) (i : ℕ) (q : Pid) (j : ℕ) : Type 0 where
  pub event : Event
  pub at : slice_get (events_of streams q) j ≡ Some event
  pub sends : event.kind ≡ kind.Send
  pub receiver : owner kind.Receive (content_of event) ≡ p
  pub received : other_end_of streams (take j (events_of streams q)) event ≡ Some i

-- event i of p is the receive of the message that event j of q sends
pub record IsReceiveOf (streams : List Stream) (q : Pid) (j : ℕ) (p : Pid) (i : ℕ) : Type 0 where
  pub event : Event
  pub at : slice_get (events_of streams p) i ≡ Some event
  pub receives : event.kind ≡ kind.Receive
  pub sender : event.from ≡ q
  pub sent : send_of streams (take i (events_of streams p)) event ≡ Some j

-- the index of an event's other end, by the event's kind
abbrev partner_by : List Stream → List Event → Event → Kind → Option ℕ
partner_by streams before e k = let c = content_of e in elim k as (λ _. Option ℕ) [
  | kind.Send ↦ nth (tells kind.Receive c) (count_by (tells kind.Send c) before)
      (events_of streams (owner kind.Receive c))
  | kind.Receive ↦ send_of streams before e
  | kind.Print ↦ None
]

module _ (streams : List Stream) (own : AreOwn streams) where
  pub sent_received : (p : Pid) (i : ℕ) (e : Event) (j : ℕ)
      → slice_get (events_of streams p) i ≡ Some e → e.kind ≡ kind.Receive
      → send_of streams (take i (events_of streams p)) e ≡ Some j
      → IsSendOf streams p i e.from j
  sent_received p i e j at is sent =
      let c = content_of e in
      let x = nth_is (tells kind.Send c) _ (events_of streams e.from) j sent in
      let f = x.event in
      let kind_is = told_kind kind.Send c f x.passes in
      let content = told_content kind.Send c f x.passes in
      let who : owner kind.Receive c ≡ p = ap (λ k. owner k c) (sym is)
      ∙ owner_is p e (own_event streams p i e own at) in
      record {
        event = f;
        at = x.at;
        sends = kind_is;
        receiver = ap (owner kind.Receive) content ∙ who;
        received = ap (λ k. partner_by streams (take j (events_of streams e.from)) f k) kind_is
            ∙ ap (λ d. nth (tells kind.Receive d)
            (count_by (tells kind.Send d) (take j (events_of streams e.from)))
            (events_of streams (owner kind.Receive d))) content
            ∙ ap (λ n. nth (tells kind.Receive c) n (events_of streams (owner kind.Receive c)))
            x.before
            ∙ ap (λ r. nth (tells kind.Receive c)
            (count_by (tells kind.Receive c) (take i (events_of streams p)))
            (events_of streams r)) who
            ∙ nth_counts (tells kind.Receive c) (events_of streams p) i e at
            (tells_own kind.Receive e is);
      }

  pub received_sent : (q : Pid) (j : ℕ) (f : Event) (i : ℕ)
      → slice_get (events_of streams q) j ≡ Some f → f.kind ≡ kind.Send
      → other_end_of streams (take j (events_of streams q)) f ≡ Some i
      → IsReceiveOf streams q j (owner kind.Receive (content_of f)) i
  received_sent q j f i at is received =
      let c = content_of f in
      let p = owner kind.Receive c in
      let x = nth_is (tells kind.Receive c) _ (events_of streams p) i
      (sym (ap (λ k. partner_by streams (take j (events_of streams q)) f k) is) ∙ received) in
      let e = x.event in
      let content = told_content kind.Receive c e x.passes in
      let who : c.from ≡ q = ap (λ k. owner k c) (sym is)
      ∙ owner_is q f (own_event streams q j f own at) in
      record {
        event = e;
        at = x.at;
        receives = told_kind kind.Receive c e x.passes;
        sender = ap (λ (d : MessageContent). d.from) content ∙ who;
        sent = ap (λ (d : MessageContent). nth (tells kind.Send d)
            (count_by (tells kind.Receive d) (take i (events_of streams p)))
            (events_of streams d.from)) content
            ∙ ap (λ n. nth (tells kind.Send c) n (events_of streams c.from)) x.before
            ∙ ap (λ r. nth (tells kind.Send c)
            (count_by (tells kind.Send c) (take j (events_of streams q))) (events_of streams r)) who
            ∙ nth_counts (tells kind.Send c) (events_of streams q) j f at
            (tells_own kind.Send f is);
      }
