-- A receive's link names the send or print that has its sender and count, so no other event can
-- make it differ from its send.
use Rattle.std.proofs.Common.{◌≡◌, ℕ, ◌||◌, Bool, false, cond, if◌then◌else◌, List, Option, None}
use Rattle.std.proofs.Common.{Some, option_and_then, slice_get, refl, sym, ◌∙◌, ap, subst}
use Rattle.std.proofs.lemmas.Option.{same_Some, none-some}
use Rattle.st_core.specs.declared.types.Pid.{Pid}
use Rattle.st_core.specs.declared.types.Kind.TheVariants as kind
use Rattle.st_core.specs.declared.types.Event.{Event}
use Rattle.st_core.specs.Run.{Stream}
use Rattle.st_core.specs.Streams.{events_of}
use Rattle.st_pair.specs.declared.answer.PairFault.TheVariants as fault
use Rattle.st_pair.specs.declared.pairing.Link.{Link}
use Rattle.st_pair.specs.declared.pairing.Link.TheVariants as link
use Rattle.st_pair.specs.Links.{link_of, received_link, sent_link}
use Rattle.st_pair.specs.Pairing.{agrees, mismatch, receive_of, stamp_of}
use Rattle.st_pair.specs.Places.{is_stamp}
use Rattle.st_pair.proofs.Stamps.{receive_unstamped, stamp_at}

pub record IsFrom (streams : List Stream) (e : Event) (q : Pid) (j : ℕ) : Type 0 where
  pub receives : is_stamp e ≡ false
  pub from : e.from ≡ q
  pub event : Event
  pub sent : stamp_of streams e.from e.serial.this ≡ Some (j, event)

module _ (streams : List Stream) (p : Pid) (e : Event) (q : Pid) (j : ℕ) where
  pub linked_from : link_of streams p e ≡ link.From q j → IsFrom streams e q j
  linked_from h = elim e.kind as (λ k. e.kind ≡ k
      → (let l : Link = elim k [
        | kind.Send ↦ sent_link (receive_of streams p e.serial.this)
        | kind.Receive ↦ received_link e.from (stamp_of streams e.from e.serial.this)
        | kind.Print ↦ link.Printed
      ] in l) ≡ link.From q j → IsFrom streams e q j) [
        | kind.Send ↦ λ is given. elim (receive_of streams p e.serial.this)
            as (λ o. sent_link o ≡ link.From q j → IsFrom streams e q j) [
              | None ↦ λ same. absurd (cc)
              | Some at ↦ λ same. absurd (cc)
            ] given
        | kind.Receive ↦ λ is given. elim (stamp_of streams e.from e.serial.this)
            as (λ o. stamp_of streams e.from e.serial.this ≡ o
            → received_link e.from o ≡ link.From q j
            → IsFrom streams e q j) [
              | None ↦ λ found same. absurd (cc)
              | Some f ↦ λ found same.
                  let index : f.0 ≡ j = cc in
                  record {
                    receives = receive_unstamped e is;
                    from = cc;
                    event = f.1;
                    sent = found ∙ (λ i. Some (index i, f.1));
                  }
            ] refl given
        | kind.Print ↦ λ is given. absurd (cc)
      ] refl h

  module _ (is : IsFrom streams e q j) where
    there : slice_get (events_of streams q) j ≡ Some is.event
    there = subst (λ (x : Pid). slice_get (events_of streams x) j ≡ Some is.event) is.from
        (stamp_at streams e.from e.serial.this (j, is.event) is.sent)

    -- the index of the link has an event
    pub not_absent : None ≡ slice_get (events_of streams q) j → ⊥
    not_absent none = none-some is.event (none ∙ there)

    pub mismatch_is : (i : ℕ) (sent : Event) → Some sent ≡ slice_get (events_of streams q) j
        → (b : Bool)
        → b ≡ agrees sent e → mismatch streams p i e ≡ cond b None (Some (fault.Mismatch p i q j))
    mismatch_is i sent at b same =
        let found : is.event ≡ sent = same_Some is.event sent (sym there ∙ sym at) in
        ap (option_and_then (λ (f : ℕ × Event). if is_stamp e || agrees f.1 e then None
        else Some (fault.Mismatch p i e.from f.0))) is.sent
        ∙ ap (λ (c : Bool). cond (c || agrees is.event e) None (Some (fault.Mismatch p i e.from j)))
        is.receives
        ∙ ap (λ (f : Event). cond (agrees f e) None (Some (fault.Mismatch p i e.from j))) found
        ∙ ap (λ (c : Bool). cond c None (Some (fault.Mismatch p i e.from j))) (sym same)
        ∙ ap (λ (x : Pid). cond b None (Some (fault.Mismatch p i x j))) is.from

-- a send's link names the first receive that has its process and count
pub linked_send : (streams : List Stream) (p : Pid) (e : Event) (o : Option (Pid × ℕ))
    → e.kind ≡ kind.Send
    → o ≡ receive_of streams p e.serial.this → sent_link o ≡ link_of streams p e
linked_send streams p e o is found = rw is (ap sent_link found)
