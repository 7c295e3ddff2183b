-- If the send of a receive came before it and nothing took its message, the message waits in the
-- queue. The first message with the receive's sender and count, which it takes, is from a send
-- that came.
use Rattle.std.proofs.Common.{◌≡◌, ℕ, zero, suc, ◌≤◌, ◌==◌, ◌&&◌, ◌⊎◌, Bool, true, false, cond}
use Rattle.std.proofs.Common.{List, [], ◌∷◌, ◌++◌, length, get_or, Option, Some, None, inl, inr}
use Rattle.std.proofs.Common.{refl, sym, ◌∙◌, ap, subst, arith, if◌then◌else◌}
use Rattle.std.specs.List.{slice_get, AllByRecursion, remove, position, position_or_len}
use Rattle.std.proofs.lemmas.Bool.{eqb-true, eq-eqb, false≢true, and_parts, and_from, cases_lt}
use Rattle.std.proofs.lemmas.Bool.{lt-ltb}
use Rattle.std.proofs.lemmas.List.Quantifiers.{position-Some}
use Rattle.std.proofs.lemmas.List.Sums.{fails_before_first}
use Rattle.std.proofs.lemmas.Option.{same_Some, none-some, slice_get_within, slice_get-get_or}
use Rattle.std.proofs.lemmas.Option.{get_or_from_slice_get}
use Rattle.st_core.specs.declared.types.Pid.{Pid}
use Rattle.st_core.specs.declared.types.Token.{Token}
use Rattle.st_core.specs.declared.types.Message.{Message}
use Rattle.st_core.specs.declared.types.Event.{Event}
use Rattle.st_core.specs.Pid.{pid_eq}
use Rattle.st_core.specs.Run.{Stream}
use Rattle.st_core.proofs.ForCallers.{pid_same, pid_eq-refl}
use Rattle.st_mail.specs.Mail as mail
use Rattle.st_plan.specs.Marks.{Marks}
use Rattle.st_plan.specs.Moves.{Move, is_taking}
use Rattle.st_plan.specs.Build.{flags_of}
use Rattle.st_plan.proofs.KeptState.{is_told, message_of, queue_of, sends_to, stamp_queue, token_of}
use Rattle.st_plan.proofs.KeptState.{without}
use Rattle.st_plan.proofs.Receives.{got_of, IsWaiting}

-- the message's token has this from and this count
abbrev pub has_stamp : Pid → ℕ → Message → Bool
has_stamp from this x = mail.bears_stamp from this x.token

-- A MESSAGE IN A LIST

pub record IsIn (test : Message → Bool) (xs : List Message) : Type 0 where
  pub place : ℕ
  pub message : Message
  pub at : slice_get xs place ≡ Some message
  pub passes : test message ≡ true

front : (xs ys : List Message) (k : ℕ) (x : Message) → slice_get xs k ≡ Some x
    → slice_get (xs ++ ys) k ≡ Some x
front [] ys k x h = absurd (none-some x h)
front (y ∷ xs) ys zero x h = h
front (y ∷ xs) ys (suc k) x h = front xs ys k x h

in_front : (test : Message → Bool) (xs ys : List Message) → IsIn test xs → IsIn test (xs ++ ys)
in_front test xs ys i = record {
  place = i.place;
  message = i.message;
  at = front xs ys i.place i.message i.at;
  passes = i.passes;
}

at_end : (test : Message → Bool) (xs : List Message) (x : Message) → test x ≡ true
    → IsIn test (xs ++ x ∷ [])
at_end test [] x h = record { place = 0; message = x; at = refl; passes = h }
at_end test (y ∷ xs) x h =
    let rest = at_end test xs x h in
    record { place = suc rest.place; message = rest.message; at = rest.at; passes = rest.passes }

-- a message stays if another is removed
kept_in : (test : Message → Bool) (xs : List Message) (k j : ℕ) (x y : Message)
    → slice_get xs k ≡ Some x
    → test x ≡ true → slice_get xs j ≡ Some y → test y ≡ false → IsIn test (remove xs j)
kept_in test [] k j x y at pass there fail = absurd (none-some x at)
kept_in test (z ∷ xs) zero zero x y at pass there fail =
    absurd (false≢true (sym fail ∙ ap test (sym (same_Some z y there)) ∙ ap test (same_Some z x at)
    ∙ pass))
kept_in test (z ∷ xs) zero (suc j) x y at pass there fail = record {
  place = 0;
  message = z;
  at = refl;
  passes = ap test (same_Some z x at) ∙ pass;
}
kept_in test (z ∷ xs) (suc k) zero x y at pass there fail =
    record { place = k; message = x; at = at; passes = pass }
kept_in test (z ∷ xs) (suc k) (suc j) x y at pass there fail =
    let rest = kept_in test xs k j x y at pass there fail in
    record { place = suc rest.place; message = rest.message; at = rest.at; passes = rest.passes }

-- what position finds
pub record IsFirst (test : Message → Bool) (xs : List Message) : Type 0 where
  pub place : ℕ
  pub message : Message
  pub is : position test xs ≡ Some place
  pub at : slice_get xs place ≡ Some message
  pub passes : test message ≡ true

found_at : (test : Message → Bool) (xs : List Message) (k : ℕ) (d : Message)
    → position test xs ≡ Some k → IsFirst test xs
found_at test xs k d h =
    let at = position-Some test xs k d h in
    record {
      place = k;
      message = get_or xs k d;
      is = h;
      at = slice_get-get_or xs k d at.0;
      passes = at.1;
    }

missing : (test : Message → Bool) (xs : List Message) (k : ℕ) (x : Message)
    → position test xs ≡ None → slice_get xs k ≡ Some x → test x ≡ true → ⊥
missing test xs k x none at pass =
    let within = slice_get_within xs k x at in
    let low : position_or_len test xs ≤ k = elim (cases_lt k (position_or_len test xs)) [
      | inl before ↦ absurd (false≢true (sym (fails_before_first test xs k x before)
          ∙ ap test (get_or_from_slice_get xs k x x at) ∙ pass))
      | inr least ↦ least
    ] in
    none-some (position_or_len test xs) (sym none ∙ ap
    (λ b. cond b (Some (position_or_len test xs)) None)
    (lt-ltb (position_or_len test xs) (length xs) (omega arith)))

first_in : (test : Message → Bool) (xs : List Message) → IsIn test xs → IsFirst test xs
first_in test xs i =
    elim (position test xs) as (λ o. position test xs ≡ o → IsFirst test xs) [
      | None ↦ λ e. absurd (missing test xs i.place i.message e i.at i.passes)
      | Some k ↦ λ e. found_at test xs k i.message e
    ] refl

-- a token that bears one stamp bears no other
other_key : (from q : Pid) (this that : ℕ) (token : Option Token)
    → (pid_eq from q && this == that) ≡ false
    → mail.bears_stamp q that token ≡ true → mail.bears_stamp from this token ≡ false
other_key from q this that None apart pass = refl
other_key from q this that (Some t) apart pass =
    let theirs = and_parts (pid_eq t.from q) (t.serial.this == that) pass in
    elim (pid_eq t.from from && t.serial.this == this) as
    (λ b. (pid_eq t.from from && t.serial.this == this) ≡ b
    → b ≡ false) [
      | false ↦ λ e. refl
      | true ↦ λ e.
          let mine = and_parts (pid_eq t.from from) (t.serial.this == this) e in
          let who : from ≡ q = sym (pid_same t.from from mine.0) ∙ pid_same t.from q theirs.0 in
          let count : this ≡ that =
          sym (eqb-true t.serial.this this mine.1) ∙ eqb-true t.serial.this that theirs.1 in
          absurd (false≢true (sym apart ∙ and_from (pid_eq from q) (this == that)
          (ap (λ p. pid_eq p q) who
          ∙ pid_eq-refl q) (eq-eqb this that count)))
    ] refl

kept_without : (from q : Pid) (this that : ℕ) (xs : List Message)
    → (pid_eq from q && this == that) ≡ false
    → IsIn (has_stamp from this) xs → IsIn (has_stamp from this) (without q that xs)
kept_without from q this that xs apart i =
    let left = λ (o : Option ℕ). let ys : List Message =
    elim o [ None ↦ xs | Some k ↦ remove xs k ] in ys in
    elim (position (has_stamp q that) xs) as (λ o. position (has_stamp q that) xs ≡ o
    → IsIn (has_stamp from this) (left o)) [
      | None ↦ λ e. i
      | Some k ↦ λ e.
          let f = found_at (has_stamp q that) xs k i.message e in
          let same : f.place ≡ k = same_Some f.place k (sym f.is ∙ e) in
          subst (λ j. IsIn (has_stamp from this) (remove xs j)) same
          (kept_in (has_stamp from this) xs i.place f.place i.message f.message i.at i.passes f.at
          (other_key from q this that f.message.token apart f.passes))
    ] refl

-- THE QUEUE

-- the move sends to p a message of this from and this count
pub record IsSendTo (p from : Pid) (this : ℕ) (y : Move) : Type 0 where
  pub stamps : is_taking y ≡ false
  pub sends : sends_to p y ≡ true
  pub who : y.who ≡ from
  pub count : y.event.serial.this ≡ this

-- no move took a message of this from and count out of p's queue
abbrev pub Untaken : Pid → Pid → ℕ → List Move → Type 0
Untaken p from this earlier = AllByRecursion (λ y. is_taking y ≡ true → y.who ≡ p
    → (pid_eq from y.event.from && this == y.event.serial.this) ≡ false) earlier

stays_in : (streams : List Stream) (marks : Marks) (p from : Pid) (this : ℕ) (y : Move)
    (earlier : List Move)
    → (is_taking y ≡ true → y.who ≡ p → (pid_eq from y.event.from && this == y.event.serial.this)
    ≡ false)
    → IsIn (has_stamp from this) (queue_of streams marks p earlier)
    → IsIn (has_stamp from this) (queue_of streams marks p (y ∷ earlier))
stays_in streams marks p from this y earlier untaken i =
    let old = queue_of streams marks p earlier in
    let took = without y.event.from y.event.serial.this old in
    let sent = if sends_to p y then old ++ message_of streams marks y ∷ [] else old in
    let waits = λ (xs : List Message). IsIn (has_stamp from this) xs in
    elim (is_taking y) as (λ b. is_taking y ≡ b → waits
    (cond b (cond (pid_eq y.who p) took old) sent)) [
      | true ↦ λ takes.
          elim (pid_eq y.who p) as (λ b. pid_eq y.who p ≡ b → waits (cond b took old)) [
            | true ↦ λ same.
                kept_without from y.event.from this y.event.serial.this old
                (untaken takes (pid_same y.who p same)) i
            | false ↦ λ other. i
          ] refl
      | false ↦ λ stamps.
          elim (sends_to p y) as (λ b. waits (cond b (old ++ message_of streams marks y
          ∷ []) old)) [
            | true ↦ in_front (has_stamp from this) old (message_of streams marks y ∷ []) i
            | false ↦ i
          ]
    ] refl

-- the message of a send that came waits if nothing took it
pub waits : (streams : List Stream) (marks : Marks) (p from : Pid) (this : ℕ) (earlier : List Move)
    (n : ℕ) (z : Move)
    → Untaken p from this earlier → slice_get earlier n ≡ Some z → IsSendTo p from this z
    → IsIn (has_stamp from this) (queue_of streams marks p earlier)
waits streams marks p from this [] n z untaken at sent = absurd (none-some z at)
waits streams marks p from this (y ∷ earlier) zero z untaken at sent =
    let old = queue_of streams marks p earlier in
    let same : y ≡ z = same_Some y z at in
    let here : queue_of streams marks p (z ∷ earlier) ≡ old ++ message_of streams marks z ∷ [] =
    stamp_queue streams marks z earlier p true sent.stamps sent.sends in
    let mine : has_stamp from this (message_of streams marks z) ≡ true =
    and_from (pid_eq z.who from) (z.event.serial.this == this)
    (ap (λ q. pid_eq q from) sent.who ∙ pid_eq-refl from)
    (eq-eqb z.event.serial.this this sent.count) in
    subst (IsIn (has_stamp from this)) (sym (ap (λ x. queue_of streams marks p (x ∷ earlier)) same
    ∙ here))
    (at_end (has_stamp from this) old (message_of streams marks z) mine)
waits streams marks p from this (y ∷ earlier) (suc n) z untaken at sent =
    stays_in streams marks p from this y earlier untaken.0
    (waits streams marks p from this earlier n z untaken.1 at sent)

-- each queued message is one of a send that came
pub record IsOf (streams : List Stream) (marks : Marks) (p : Pid) (earlier : List Move)
    (x : Message) : Type 0 where
  pub number : ℕ
  pub move : Move
  pub among : slice_get earlier number ≡ Some move
  pub stamps : is_taking move ≡ false
  pub sends : sends_to p move ≡ true
  pub is : message_of streams marks move ≡ x

of_later : (streams : List Stream) (marks : Marks) (p : Pid) (y : Move) (earlier : List Move)
    (x : Message) → IsOf streams marks p earlier x → IsOf streams marks p (y ∷ earlier) x
of_later streams marks p y earlier x o = record {
  number = suc o.number;
  move = o.move;
  among = o.among;
  stamps = o.stamps;
  sends = o.sends;
  is = o.is;
}

removed_at : (xs : List Message) (j k : ℕ) (x : Message) → slice_get (remove xs j) k ≡ Some x
    → (i : ℕ) × (slice_get xs i ≡ Some x)
removed_at [] zero k x at = absurd (none-some x at)
removed_at [] (suc j) k x at = absurd (none-some x at)
removed_at (y ∷ xs) zero k x at = (suc k, at)
removed_at (y ∷ xs) (suc j) zero x at = (0, at)
removed_at (y ∷ xs) (suc j) (suc k) x at = let rest = removed_at xs j k x at in (suc rest.0, rest.1)

pushed_at : (xs : List Message) (y : Message) (k : ℕ) (x : Message)
    → slice_get (xs ++ y ∷ []) k ≡ Some x → (slice_get xs k ≡ Some x) ⊎ (y ≡ x)
pushed_at [] y zero x at = inr (same_Some y x at)
pushed_at [] y (suc k) x at = absurd (none-some x at)
pushed_at (z ∷ xs) y zero x at = inl at
pushed_at (z ∷ xs) y (suc k) x at = pushed_at xs y k x at

pub queued_of : (streams : List Stream) (marks : Marks) (p : Pid) (earlier : List Move) (k : ℕ)
    (x : Message)
    → slice_get (queue_of streams marks p earlier) k ≡ Some x → IsOf streams marks p earlier x
queued_of streams marks p [] k x at = absurd (none-some x at)
queued_of streams marks p (y ∷ earlier) k x at =
    let old = queue_of streams marks p earlier in
    let test = has_stamp y.event.from y.event.serial.this in
    let left = λ (o : Option ℕ). let ys : List Message =
    elim o [ None ↦ old | Some j ↦ remove old j ] in ys in
    let sent = old ++ message_of streams marks y ∷ [] in
    let took = left (position test old) in
    let later = of_later streams marks p y earlier x in
    let Of = IsOf streams marks p (y ∷ earlier) x in
    elim (is_taking y) as (λ b. is_taking y ≡ b
    → slice_get (cond b (cond (pid_eq y.who p) took old) (cond (sends_to p y) sent old)) k ≡ Some x
    → Of) [
      | true ↦ λ takes at.
          elim (pid_eq y.who p) as (λ b. slice_get (cond b took old) k ≡ Some x → Of) [
            | true ↦ λ at.
                elim (position test old) as (λ o. slice_get (left o) k ≡ Some x → Of) [
                  | None ↦ λ at. later (queued_of streams marks p earlier k x at)
                  | Some j ↦ λ at.
                      let was = removed_at old j k x at in
                      later (queued_of streams marks p earlier was.0 x was.1)
                ] at
            | false ↦ λ at. later (queued_of streams marks p earlier k x at)
          ] at
      | false ↦ λ stamps at.
          elim (sends_to p y) as (λ b. sends_to p y ≡ b → slice_get (cond b sent old) k ≡ Some x
          → Of) [
            | true ↦ λ sends at.
                elim (pushed_at old (message_of streams marks y) k x at) [
                  | inl was ↦ later (queued_of streams marks p earlier k x was)
                  | inr new ↦ record {
                    number = 0;
                    move = y;
                    among = refl;
                    stamps = stamps;
                    sends = sends;
                    is = new;
                  }
                ]
            | false ↦ λ sends at. later (queued_of streams marks p earlier k x at)
          ] refl at
    ] refl at

-- the send's message is seen where it should be, and a receive of it gives this event of p
abbrev pub Fits : List Stream → Marks → Pid → Event → Bool → Move → Type 0
Fits streams marks p e seen y =
    ((flags_of streams marks y).receive ≡ seen) ×
    (got_of p y.event.value (token_of streams marks y) ≡ e)

-- a receive finds its message, if each send that came with its sender and count fits it
pub is_waiting : (streams : List Stream) (marks : Marks) (earlier : List Move) (m : Move) (n : ℕ)
    (z : Move)
    → Untaken m.who m.event.from m.event.serial.this earlier → slice_get earlier n ≡ Some z
    → IsSendTo m.who m.event.from m.event.serial.this z
    → ((k : ℕ) (y : Move) → slice_get earlier k ≡ Some y
    → IsSendTo m.who m.event.from m.event.serial.this y
    → Fits streams marks m.who m.event (is_told marks m) y)
    → IsWaiting streams marks earlier m
is_waiting streams marks earlier m n z untaken at sent fits =
    let from = m.event.from in
    let this = m.event.serial.this in
    let queue = queue_of streams marks m.who earlier in
    let f = first_in (has_stamp from this) queue
    (waits streams marks m.who from this earlier n z untaken at sent) in
    let o = queued_of streams marks m.who earlier f.place f.message f.at in
    let y = o.move in
    let passes : has_stamp from this (message_of streams marks y) ≡ true =
    ap (has_stamp from this) o.is ∙ f.passes in
    let parts = and_parts (pid_eq y.who from) (y.event.serial.this == this) passes in
    let good = fits o.number y o.among (record {
      stamps = o.stamps;
      sends = o.sends;
      who = pid_same y.who from parts.0;
      count = eqb-true y.event.serial.this this parts.1;
    }) in
    record {
      place = f.place;
      message = f.message;
      token = token_of streams marks y;
      is = f.is;
      at = f.at;
      has = ap (λ (x : Message). x.token) (sym o.is);
      seen = good.0;
      gives = ap (λ v. got_of m.who v (token_of streams marks y))
          (ap (λ (x : Message). x.value) (sym o.is)) ∙ good.1;
    }
