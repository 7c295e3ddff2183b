-- Each reported receive follows the send whose message it took, since the tag at the message's
-- place names an act that sent this very message, and the message's token is the one that its
-- sender had after that act.
use Rattle.std.proofs.Common.{◌≡◌, ℕ, ◌+◌, ◌<◌, ◌≢◌, ◌⊎◌, ◌&&◌, List, [], ◌∷◌, ◌++◌, Option, Some}
use Rattle.std.proofs.Common.{None, is_some, option_and_then, All, refl, sym, ◌∙◌, ap, subst, arith}
use Rattle.std.proofs.Common.{inl, inr, if◌then◌else◌}
use Rattle.std.specs.List.{slice_get}
use Rattle.std.proofs.lemmas.Option.{none-some, cond_some}
use Rattle.st_core.specs.declared.types.Pid.{Pid}
use Rattle.st_core.specs.declared.types.Token.{Token}
use Rattle.st_core.specs.declared.types.Message.{Message}
use Rattle.st_core.specs.declared.types.Kind.TheVariants as kind
use Rattle.st_core.specs.declared.types.Event.{Event}
use Rattle.st_core.specs.declared.types.Want.{Want}
use Rattle.st_core.specs.declared.types.Act.{Act}
use Rattle.st_core.specs.declared.types.Act.TheVariants as act
use Rattle.st_core.specs.State.{State, process, zero_state}
use Rattle.st_core.specs.Pick.{pick}
use Rattle.st_core.specs.Report.{flag_of, report}
use Rattle.st_core.specs.Step.{Acted, Outcome, step}
use Rattle.st_core.specs.Run.{run}
use Rattle.st_core.specs.Pairs.{Tags, tags_after, pair_at, pairs_from, pairs, IsFollowing, Follows}
use Rattle.st_core.proofs.Others.{process_pid, Stepped, step_parts}
use Rattle.st_core.proofs.Sound.{All_at, pick_found}
use Rattle.st_core.proofs.Zips.{AllZip_at, AllPairs_cons}
use Rattle.st_core.proofs.Tags.{AreKnown, no_tags, IsGone, pairs_gone, taken_gone}
use Rattle.st_core.proofs.Queues.{IsTag, AreTags, receive_none, receive_some}
use Rattle.st_core.proofs.Underway.{Underway, starts, next}

-- ONE RECEIVE

-- a reported receive follows the send whose message it took
receive_follows : (top : ℕ) (acts : List Act) (os : List Outcome) (n : ℕ) (s : State) (tags : Tags)
    (p : Pid) (w : Want) (o : Outcome) (t : Stepped top s (act.Receive p w) o) (found : ℕ × Message)
    → pick w t.before.queue ≡ Some found
    → slice_get os n ≡ Some o → AreKnown acts n tags → AreTags acts os s tags
    → (e : Event) → o.report ≡ Some e → (i : ℕ) → slice_get (tags p) found.0 ≡ Some i
    → IsFollowing acts os n i
receive_follows top acts os n s tags p w o t found is out known are e reported i at =
    let m = found.1 in
    let r = t.before in
    let who : r.pid ≡ p = process_pid s p r t.is_before in
    let tag : IsTag acts os p i m =
    AllZip_at (IsTag acts os p) (tags p) r.queue found.0 i m (are.queues p r t.is_before) at
    (pick_found w r.queue found is) in
    let part : report r.local.traced kind.Receive m.token (Some r.pid) m.value ≡ Some e =
    ap (λ (x : Acted). x.report) (receive_some top r p w t.done found is t.is_done)
    ∙ ap (λ (x : Outcome). x.report) t.is_outcome
    ∙ reported in
    let event =
    λ (token : Token).
    let x : Event =
    record {
      label = token.label;
      kind = kind.Receive;
      serial = token.serial;
      from = token.from;
      to = Some r.pid;
      value = m.value;
    } in
    x in
    let taken : (token : Option Token) → m.token ≡ token
    → report r.local.traced kind.Receive token (Some r.pid) m.value ≡ Some e
    → IsFollowing acts os n i =
    elim [
      | None ↦ λ none h. absurd (none-some e h)
      | Some token ↦ λ some h.
          let same = cond_some (r.local.traced && flag_of kind.Receive token.flags) (event token) e
          h in
          let from : token.from ≡ m.from = tag.from token some in
          let after = tag.token token some in
          record {
            event = event token;
            to = r.pid;
            sender = after.sender;
            token = token;
            before = All_at (λ j. j < n) (tags p) found.0 i at (known.below p);
            reports =
                ap (option_and_then (λ (x : Outcome). x.report)) out
                ∙ reported
                ∙ ap (λ (x : Event). Some x) (sym same.1);
            sends =
                tag.sent
                ∙ ap (λ q. Some (act.Send q p m.value)) (sym from)
                ∙ ap (λ q. Some (act.Send token.from q m.value)) (sym who);
            is_to = refl;
            is_sender =
                ap (λ q. option_and_then (λ (x : Outcome). process x.after q) (slice_get os i)) from
                ∙ after.is_sender;
            stamped = after.stamped;
            label = refl;
            serial = refl;
          }
    ] in
    taken m.token refl part

-- the act has one pair, whose receive follows its send, and the send is in no tags afterwards
pub record IsPair (acts : List Act) (os : List Outcome) (n : ℕ) (later : Tags)
    (ps : List (ℕ × ℕ)) : Type 0 where
  pub send : ℕ
  pub is : ps ≡ (n, send) ∷ []
  pub follows : IsFollowing acts os n send
  pub gone : IsGone later (n + 1) send

taken_place : (top : ℕ) (s : State) (p : Pid) (w : Want) (o : Outcome)
    (t : Stepped top s (act.Receive p w) o)
    (found : ℕ × Message) → pick w t.before.queue ≡ Some found → o.place ≡ Some found.0
taken_place top s p w o t found is =
    ap (λ (x : Outcome). x.place) (sym t.is_outcome)
    ∙ ap (λ (x : Acted). x.place) (sym (receive_some top t.before p w t.done found is t.is_done))

no_place : (top : ℕ) (s : State) (p : Pid) (w : Want) (o : Outcome)
    (t : Stepped top s (act.Receive p w) o)
    → pick w t.before.queue ≡ None → o.place ≡ None
no_place top s p w o t is =
    ap (λ (x : Outcome). x.place) (sym t.is_outcome)
    ∙ ap (λ (x : Acted). x.place) (sym (receive_none top t.before p w t.done is t.is_done))

pair_receive : (top : ℕ) (acts : List Act) (os : List Outcome) (n : ℕ) (s : State) (tags : Tags)
    (p : Pid) (w : Want)
    (o : Outcome) (t : Stepped top s (act.Receive p w) o) → slice_get os n ≡ Some o
    → AreKnown acts n tags
    → AreTags acts os s tags → (e : Event) → o.report ≡ Some e
    → (pair_at tags n (act.Receive p w) o.place ≡ [])
    ⊎ IsPair acts os n (tags_after tags n (act.Receive p w) o.place)
    (pair_at tags n (act.Receive p w) o.place)
pair_receive top acts os n s tags p w o t out known are e reported =
    let a = act.Receive p w in
    let P =
    λ (k : Option ℕ). (pair_at tags n a k ≡ [])
    ⊎ IsPair acts os n (tags_after tags n a k) (pair_at tags n a k) in
    elim (pick w t.before.queue) as (λ found. pick w t.before.queue ≡ found → P o.place) [
      | None ↦ λ is. subst P (sym (no_place top s p w o t is)) (inl refl)
      | Some found ↦ λ is. subst P (sym (taken_place top s p w o t found is))
          (let pair = λ (x : Option ℕ). let ps : List (ℕ × ℕ) =
          elim x [ None ↦ [] | Some i ↦ (n, i) ∷ [] ] in ps in
          elim (slice_get (tags p) found.0) as (λ x.
          slice_get (tags p) found.0 ≡ x
          → (pair x ≡ []) ⊎ IsPair acts os n (tags_after tags n a (Some found.0)) (pair x)) [
            | None ↦ λ at. inl refl
            | Some i ↦ λ at. inr (record {
              send = i;
              is = refl;
              follows = receive_follows top acts os n s tags p w o t found is out known are e
                  reported i at;
              gone = taken_gone acts n tags p w found.0 i known at;
            })
          ] refl)
    ] refl

pair_of : (top : ℕ) (acts : List Act) (os : List Outcome) (n : ℕ) (s : State) (tags : Tags)
    (a : Act) (o : Outcome)
    → step top s a ≡ Some o → slice_get os n ≡ Some o → AreKnown acts n tags
    → AreTags acts os s tags → (e : Event)
    → o.report ≡ Some e
    → (pair_at tags n a o.place ≡ [])
    ⊎ IsPair acts os n (tags_after tags n a o.place) (pair_at tags n a o.place)
pair_of top acts os n s tags (act.Receive p w) o h out known are e reported =
    pair_receive top acts os n s tags p w o (step_parts top s (act.Receive p w) o h) out known are e
    reported
pair_of top acts os n s tags a o h out known are e reported = inl refl

-- a reported act has no pair, or one that follows; an act that isn't reported has none
reported_pair : (top : ℕ) (acts : List Act) (os : List Outcome) (n : ℕ) (s : State) (tags : Tags)
    (a : Act) (o : Outcome) → step top s a ≡ Some o → slice_get os n ≡ Some o → AreKnown acts n tags
    → AreTags acts os s tags
    → ((if is_some o.report then pair_at tags n a o.place else []) ≡ [])
    ⊎ IsPair acts os n (tags_after tags n a o.place)
    (if is_some o.report then pair_at tags n a o.place else [])
reported_pair top acts os n s tags a o h out known are =
    let ps = pair_at tags n a o.place in
    elim o.report as (λ report.
    o.report ≡ report
    → ((if is_some report then ps else []) ≡ [])
    ⊎ IsPair acts os n (tags_after tags n a o.place) (if is_some report then ps else [])) [
      | None ↦ λ e. inl refl
      | Some event ↦ λ e. pair_of top acts os n s tags a o h out known are event e
    ] refl

-- RUNS

follows_nil : (acts : List Act) (os : List Outcome) → Follows acts os []
follows_nil acts os = record { each = tt; once = λ i j d below within. absurd (omega arith) }

follows_cons : (acts : List Act) (os : List Outcome) (n : ℕ) (i : ℕ) (ps : List (ℕ × ℕ))
    → IsFollowing acts os n i
    → All (λ x. i ≢ x.1) ps → Follows acts os ps → Follows acts os ((n, i) ∷ ps)
follows_cons acts os n i ps one apart rest =
    record {
      each = (one, rest.each);
      once =
          AllPairs_cons (λ (x y : ℕ × ℕ). x.1 ≢ y.1) (n, i) ps apart rest.once;
    }

follows_from : (top : ℕ) (acts : List Act) (os : List Outcome) (n : ℕ) (s : State) (tags : Tags)
    (rest : List Act) (outs : List Outcome) → Underway top acts os n s tags rest outs
    → Follows acts os (pairs_from tags n rest outs)
follows_from top acts os n s tags [] outs u = follows_nil acts os
follows_from top acts os n s tags (a ∷ rest) outs u =
    let t = next top acts os n s tags a rest outs u in
    let o = t.outcome in
    let later = tags_after tags n a o.place in
    let tail = pairs_from later (n + 1) rest t.others in
    let others : Follows acts os tail =
    follows_from top acts os (n + 1) o.after later rest t.others t.later in
    let whole : Follows acts os
    ((if is_some o.report then pair_at tags n a o.place else []) ++ tail) =
    elim (reported_pair top acts os n s tags a o t.is_step t.outcome_at u.known u.are) [
      | inl none ↦ subst (λ ps. Follows acts os (ps ++ tail)) (sym none) others
      | inr one ↦ subst (λ ps. Follows acts os (ps ++ tail)) (sym one.is)
          (follows_cons acts os n one.send tail one.follows
          (pairs_gone later (n + 1) rest t.others one.send one.gone) others)
    ] in
    subst (λ xs. Follows acts os (pairs_from tags n (a ∷ rest) xs)) (sym t.is_whole) whole

pub receives_follow : (top : ℕ) (pids : List Pid) (acts : List Act) (os : List Outcome)
    → run top pids acts ≡ Some os
    → Follows acts os (pairs acts os)
receives_follow top pids acts os h =
    follows_from top acts os 0 (zero_state pids) no_tags acts os (starts top pids acts os h)
