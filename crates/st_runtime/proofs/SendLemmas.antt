-- A send's entry is legal for both processes: for the sender by its own part, and for the receiver
-- since the sender stamped the carried token.
use Rattle.std.proofs.Common.{◌≡◌, ℕ, false, ◌++◌, List, [], ◌∷◌, length, set, Option, refl, sym}
use Rattle.std.proofs.Common.{◌∙◌, ap, subst, arith}
use Rattle.std.specs.Option.{ForSome}
use Rattle.std.proofs.lemmas.List.{get_or-set_same, length-set}
use Rattle.st_core.specs.declared.types.Pid.{Pid}
use Rattle.st_core.specs.declared.types.Token.{Token}
use Rattle.st_core.specs.declared.types.Message.{Message}
use Rattle.st_core.specs.declared.types.Act.TheVariants as act
use Rattle.st_core.specs.Pid.{pid_eq}
use Rattle.st_core.specs.State.{LocalState}
use Rattle.st_core.specs.Local.{IsMeetable}
use Rattle.st_core.specs.Laws.{IsStamped}
use Rattle.st_core.specs.Step.{reached}
use Rattle.st_core.proofs.ForCallers.{pid_eq-same, pid_eq-swap}
use Rattle.st_mail.specs.Actor.{process_of, QueueFits, ActsOutside}
use Rattle.st_mail.specs.Mail.{queue_in}
use Rattle.st_mail.specs.declared.outcome.Outcome.{Outcome as Told}
use Rattle.st_mail.proofs.ForCallers.{push_fits}
use Rattle.st_log.specs.declared.entry.Entry.{Entry}
use Rattle.st_runtime.specs.Inside.{IsInside}
use Rattle.st_runtime.specs.Logs.{IsOwnPart, IsOtherPart}
use Rattle.st_runtime.proofs.LogLemmas.{IsNext, inside_push}
use Rattle.st_runtime.proofs.PartLemmas.{entry_of, own_part, own_is_part, other_is_part}

-- the message of a send
abbrev pub mail : Pid → ℕ → Option Token → Message
mail p v t = record { from = p; value = v; token = t }

-- the entry of a send
abbrev pub sent_entry : ℕ → Pid → Pid → ℕ → Told → Option Token → Entry
sent_entry n p q v told t = entry_of n (act.Send p q v) told t

-- what the sender's part of a send tells: p had l and has m, and its token is now t
pub record IsSent (top : ℕ) (p q : Pid) (v : ℕ) (l m : LocalState) (told : Told)
    (t : Option Token) : Type 0 where
  pub acts : ActsOutside top (act.Send p q v) p l m told
  pub token : t ≡ m.token
  pub fit : IsMeetable top m.token
  pub stamped : ForSome m.token (IsStamped top p)

-- the one box after a put
pub record IsPut (boxes boxes' : List (List Message)) (x : Message) : Type 0 where
  pub one_box : length boxes ≡ 1
  pub put : boxes' ≡ set boxes 0 (queue_in boxes 0 ++ x ∷ [])

pub put_queue : (boxes boxes' : List (List Message)) (x : Message)
    → IsPut boxes boxes' x → queue_in boxes' 0 ≡ queue_in boxes 0 ++ x ∷ []
put_queue boxes boxes' x is =
    let queue = queue_in boxes 0 ++ x ∷ [] in
    ap (λ bs. queue_in bs 0) is.put ∙ get_or-set_same boxes 0 queue [] (omega (arith, is.one_box))

pub put_length : (boxes boxes' : List (List Message)) (x : Message) → IsPut boxes boxes' x
    → length boxes' ≡ 1
put_length boxes boxes' x is =
    let queue = queue_in boxes 0 ++ x ∷ [] in
    ap (λ (bs : List (List Message)). length bs) is.put ∙ length-set boxes 0 queue ∙ is.one_box

arrived : (p q : Pid) (v : ℕ) (t : Option Token) (l : LocalState) (queue : List Message)
    → reached (act.Send p q v) t (process_of q l queue) ≡ process_of q l (queue ++ mail p v t ∷ [])
arrived p q v t l queue = rw (pid_eq-same q) refl

passed_by : (p q : Pid) (v : ℕ) (t : Option Token) (l : LocalState) (queue : List Message)
    → pid_eq p q ≡ false → reached (act.Send p q v) t (process_of p l queue) ≡ process_of p l queue
passed_by p q v t l queue apart = rw apart refl

-- TO ITSELF

pub itself_part : (top : ℕ) (p : Pid) (v : ℕ) (l m : LocalState)
    (boxes boxes' : List (List Message)) (n : ℕ)
    (told : Told) (t : Option Token) → IsSent top p p v l m told t → IsPut boxes boxes' (mail p v t)
    → IsOwnPart top (process_of p l (queue_in boxes 0)) (sent_entry n p p v told t)
    (process_of p m (queue_in boxes' 0))
itself_part top p v l m boxes boxes' n told t sent put =
    let queue = queue_in boxes 0 in
    let after : reached (act.Send p p v) t (process_of p m queue)
    ≡ process_of p m (queue_in boxes' 0) =
    arrived p p v t m queue ∙ ap (process_of p m) (sym (put_queue boxes boxes' (mail p v t) put)) in
    let own : IsOwnPart top (process_of p l queue) (sent_entry n p p v told t)
    (reached (act.Send p p v) t (process_of p m queue)) =
    rw sent.token (own_part top (act.Send p p v) p l m queue queue n told refl (sent.acts queue)) in
    subst (IsOwnPart top (process_of p l queue) (sent_entry n p p v told t)) after own

pub itself_inside : (top ranks : ℕ) (p : Pid) (v : ℕ) (l m : LocalState)
    (boxes boxes' : List (List Message))
    (log : List Entry) (n : ℕ) (told : Told) (t : Option Token)
    → IsInside top ranks p l boxes log → IsSent top p p v l m told t
    → IsPut boxes boxes' (mail p v t)
    → IsNext ranks log n → IsInside top ranks p m boxes' (log ++ sent_entry n p p v told t ∷ [])
itself_inside top ranks p v l m boxes boxes' log n told t inside sent put next =
    let e = sent_entry n p p v told t in
    let own = itself_part top p v l m boxes boxes' n told t sent put in
    let meetable : IsMeetable top t = rw sent.token sent.fit in
    let fit : QueueFits top (queue_in boxes' 0) =
    rw (put_queue boxes boxes' (mail p v t) put)
    (push_fits top (queue_in boxes 0) (mail p v t) inside.fit meetable) in
    let part = own_is_part top (process_of p l (queue_in boxes 0)) e
    (process_of p m (queue_in boxes' 0)) refl own in
    inside_push top ranks p l boxes log e m boxes' inside (put_length boxes boxes' (mail p v t) put)
    fit part next

-- TO ANOTHER

pub sender_part : (top : ℕ) (p q : Pid) (v : ℕ) (l m : LocalState) (queue : List Message) (n : ℕ)
    (told : Told) (t : Option Token) → pid_eq p q ≡ false → IsSent top p q v l m told t
    → IsOwnPart top (process_of p l queue) (sent_entry n p q v told t) (process_of p m queue)
sender_part top p q v l m queue n told t apart sent =
    let own : IsOwnPart top (process_of p l queue) (sent_entry n p q v told t)
    (reached (act.Send p q v) t (process_of p m queue)) =
    rw sent.token (own_part top (act.Send p q v) p l m queue queue n told refl (sent.acts queue)) in
    subst (IsOwnPart top (process_of p l queue) (sent_entry n p q v told t))
    (passed_by p q v t m queue apart) own

pub sender_inside : (top ranks : ℕ) (p q : Pid) (v : ℕ) (l m : LocalState)
    (boxes : List (List Message))
    (log : List Entry) (n : ℕ) (told : Told) (t : Option Token)
    → IsInside top ranks p l boxes log → pid_eq p q ≡ false → IsSent top p q v l m told t
    → IsNext ranks log n → IsInside top ranks p m boxes (log ++ sent_entry n p q v told t ∷ [])
sender_inside top ranks p q v l m boxes log n told t inside apart sent next =
    let e = sent_entry n p q v told t in
    let queue = queue_in boxes 0 in
    let own = sender_part top p q v l m queue n told t apart sent in
    let part = own_is_part top (process_of p l queue) e (process_of p m queue) refl own in
    inside_push top ranks p l boxes log e m boxes inside inside.one_box inside.fit part next

pub receiver_part : (top : ℕ) (p q : Pid) (v : ℕ) (l m k : LocalState)
    (boxes boxes' : List (List Message)) (n : ℕ)
    (told : Told) (t : Option Token) → IsSent top p q v l m told t → IsPut boxes boxes' (mail p v t)
    → IsOtherPart top (process_of q k (queue_in boxes 0)) (sent_entry n p q v told t)
    (process_of q k (queue_in boxes' 0))
receiver_part top p q v l m k boxes boxes' n told t sent put = record {
  carried = rw sent.token sent.stamped;
  after = arrived p q v t k (queue_in boxes 0)
      ∙ ap (process_of q k) (sym (put_queue boxes boxes' (mail p v t) put));
}

pub receiver_inside : (top ranks : ℕ) (p q : Pid) (v : ℕ) (l m k : LocalState)
    (boxes boxes' : List (List Message))
    (log : List Entry) (n : ℕ) (told : Told) (t : Option Token)
    → IsInside top ranks q k boxes log → pid_eq p q ≡ false → IsSent top p q v l m told t
    → IsPut boxes boxes' (mail p v t) → IsNext ranks log n
    → IsInside top ranks q k boxes' (log ++ sent_entry n p q v told t ∷ [])
receiver_inside top ranks p q v l m k boxes boxes' log n told t inside apart sent put next =
    let e = sent_entry n p q v told t in
    let away : pid_eq q p ≡ false = pid_eq-swap q p ∙ apart in
    let other = receiver_part top p q v l m k boxes boxes' n told t sent put in
    let part = other_is_part top (process_of q k (queue_in boxes 0)) e
    (process_of q k (queue_in boxes' 0))
    (rw away (pid_eq-same q)) away other in
    let meetable : IsMeetable top t = rw sent.token sent.fit in
    let fit : QueueFits top (queue_in boxes' 0) =
    rw (put_queue boxes boxes' (mail p v t) put)
    (push_fits top (queue_in boxes 0) (mail p v t) inside.fit meetable) in
    inside_push top ranks q k boxes log e k boxes' inside (put_length boxes boxes' (mail p v t) put)
    fit part next
