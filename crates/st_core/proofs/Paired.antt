-- Each reported receive is in a pair, since it took a message, whose send's number lay at the same
-- place of the tags, and no later act takes a pair away.
use Rattle.std.proofs.Common.{◌≡◌, ℕ, ◌+◌, ◌&&◌, zero, suc, Bool, true, false, cond, List, [], ◌∷◌}
use Rattle.std.proofs.Common.{◌++◌, get_or, Option, Some, None, is_some, option_map}
use Rattle.std.proofs.Common.{option_and_then, refl, sym, ◌∙◌, ap, subst, arith, if◌then◌else◌}
use Rattle.std.specs.List.{slice_get, Contains}
use Rattle.std.proofs.lemmas.List.Elements.{Contains-append_right}
use Rattle.std.proofs.lemmas.Option.{same_Some, none-some, cond_some, slice_get_within}
use Rattle.std.proofs.lemmas.Option.{slice_get-get_or}
use Rattle.st_core.specs.declared.types.Pid.{Pid}
use Rattle.st_core.specs.declared.types.Token.{Token}
use Rattle.st_core.specs.declared.types.Kind.{Kind}
use Rattle.st_core.specs.declared.types.Kind.TheVariants as kind
use Rattle.st_core.specs.declared.types.Event.{Event}
use Rattle.st_core.specs.declared.types.Want.{Want}
use Rattle.st_core.specs.declared.types.Act.{Act}
use Rattle.st_core.specs.declared.types.Act.TheVariants as act
use Rattle.st_core.specs.declared.types.Reply.{Reply}
use Rattle.st_core.specs.declared.types.Reply.TheVariants as reply
use Rattle.st_core.specs.State.{LocalState, Process, State}
use Rattle.st_core.specs.Stamp.{stamp, stamp_any}
use Rattle.st_core.specs.Local.{has_label}
use Rattle.st_core.specs.Pick.{pick}
use Rattle.st_core.specs.Report.{flag_of, report, token_event}
use Rattle.st_core.specs.Step.{Acted, Outcome, acted, answers, sends, prints, step}
use Rattle.st_core.specs.Run.{run}
use Rattle.st_core.specs.Pairs.{Tags, tags_after, pair_at, pairs_from, pairs, IsPaired, AllPaired}
use Rattle.st_core.proofs.Others.{mapped, Stepped, step_parts}
use Rattle.st_core.proofs.Sound.{pick_found}
use Rattle.st_core.proofs.Zips.{AllZip_length}
use Rattle.st_core.proofs.Tags.{no_tags}
use Rattle.st_core.proofs.Queues.{IsReceive, IsTag, AreTags, receive_none, receive_some}
use Rattle.st_core.proofs.Underway.{Underway, starts, next}

-- KINDS OF REPORTS

pub report_kind : (traced : Bool) (k : Kind) (token : Option Token) (to : Option Pid) (v : ℕ)
    (e : Event)
    → report traced k token to v ≡ Some e → e.kind ≡ k
report_kind traced k None to v e h = absurd (none-some e h)
report_kind traced k (Some t) to v e h =
    sym (ap (λ (x : Event). x.kind)
    (cond_some (traced && flag_of k t.flags) (token_event k t to v) e h).1)

NoReceive : Acted → Type 0
NoReceive done = (e : Event) → done.report ≡ Some e → ¬ (e.kind ≡ kind.Receive)

silent : (r : Process) (l : LocalState) (y : Reply) (done : Acted)
    → Some (answers r l y) ≡ Some done → NoReceive done
unfolding NoReceive
silent r l y done h e is =
    absurd (none-some e (ap (λ (x : Acted). x.report) (same_Some (answers r l y) done h) ∙ is))

sends_none : (r : Process) (q : Pid) (v : ℕ) (stamped : Option LocalState) (done : Acted)
    → option_map (sends r q v) stamped ≡ Some done → NoReceive done
unfolding NoReceive
sends_none r q v stamped done h e is receive =
    let parts = mapped (sends r q v) stamped done h in
    let reported = ap (λ (x : Acted). x.report) parts.2 ∙ is in
    let send = report_kind r.local.traced kind.Send parts.0.token (Some q) v e reported in
    cc

prints_none : (r : Process) (v : ℕ) (stamped : Option LocalState) (done : Acted)
    → option_map (prints r v) stamped ≡ Some done → NoReceive done
unfolding NoReceive
prints_none r v stamped done h e is receive =
    let parts = mapped (prints r v) stamped done h in
    let reported = ap (λ (x : Acted). x.report) parts.2 ∙ is in
    let print = report_kind r.local.traced kind.Print parts.0.token None v e reported in
    cc

-- only a receive reports a receive
acted_none : (top : ℕ) (a : Act) (r : Process) (done : Acted) → ¬ IsReceive a
    → acted top r a ≡ Some done
    → NoReceive done
acted_none top (act.Receive p w) r done other h = absurd (other tt)
acted_none top (act.Send p q v) r done other h =
    sends_none r q v (stamp_any top r.pid r.local) done h
acted_none top (act.Print p v) r done other h = prints_none r v (stamp_any top r.pid r.local) done h
acted_none top (act.PrintAt p n v) r done other h =
    let printed = option_map (prints r v) (stamp top r.pid r.local) in
    let left = Some (answers r r.local reply.Done) in
    elim (has_label n r.local.token) as (λ b. cond b printed left ≡ Some done → NoReceive done) [
      | true ↦ prints_none r v (stamp top r.pid r.local) done
      | false ↦ silent r r.local reply.Done done
    ] h
acted_none top a r done other h = silent r _ _ done h

-- ONE RECEIVE

-- act n has exactly one pair
record HasPair (n : ℕ) (ps : List (ℕ × ℕ)) : Type 0 where
  pub send : ℕ
  pub is : ps ≡ (n, send) ∷ []

receive_pair : (top : ℕ) (acts : List Act) (os : List Outcome) (n : ℕ) (s : State) (tags : Tags)
    (p : Pid) (w : Want) (o : Outcome) (t : Stepped top s (act.Receive p w) o) (e : Event)
    → AreTags acts os s tags → o.report ≡ Some e
    → HasPair n (pair_at tags n (act.Receive p w) o.place)
receive_pair top acts os n s tags p w o t e are is =
    let r = t.before in
    let reported : t.done.report ≡ Some e = ap (λ (x : Outcome). x.report) t.is_outcome ∙ is in
    let P = λ (k : Option ℕ). HasPair n (pair_at tags n (act.Receive p w) k) in
    subst P (ap (λ (x : Outcome). x.place) t.is_outcome)
    (elim (pick w r.queue) as (λ found. pick w r.queue ≡ found → P t.done.place) [
      | None ↦ λ none.
          let silent = ap (λ (x : Acted). x.report)
          (receive_none top r p w t.done none t.is_done) in
          absurd (none-some e (silent ∙ reported))
      | Some found ↦ λ some.
          let within = slice_get_within r.queue found.0 found.1 (pick_found w r.queue found some) in
          let even = AllZip_length (IsTag acts os p) (tags p) r.queue
          (are.queues p r t.is_before) in
          let at = slice_get-get_or (tags p) found.0 0 (omega arith) in
          let pair = λ (x : Option ℕ). let ps : List (ℕ × ℕ) =
          elim x [ None ↦ [] | Some i ↦ (n, i) ∷ [] ] in ps in
          subst P (ap (λ (x : Acted). x.place) (receive_some top r p w t.done found some t.is_done))
          (record { send = get_or (tags p) found.0 0; is = ap pair at })
    ] refl)

pair_of : (top : ℕ) (acts : List Act) (os : List Outcome) (n : ℕ) (s : State) (tags : Tags)
    (a : Act) (o : Outcome) (e : Event) → step top s a ≡ Some o → AreTags acts os s tags
    → o.report ≡ Some e → e.kind ≡ kind.Receive → HasPair n (pair_at tags n a o.place)
unfolding NoReceive
pair_of top acts os n s tags (act.Receive p w) o e h are is receive =
    receive_pair top acts os n s tags p w o (step_parts top s (act.Receive p w) o h) e are is
pair_of top acts os n s tags a o e h are is receive =
    let t = step_parts top s a o h in
    let reported = ap (λ (x : Outcome). x.report) t.is_outcome ∙ is in
    absurd (acted_none top a t.before t.done (λ x. x) t.is_done e reported receive)

-- RUNS

paired_from : (top : ℕ) (acts : List Act) (os : List Outcome) (n : ℕ) (s : State) (tags : Tags)
    (rest : List Act) (outs : List Outcome) → Underway top acts os n s tags rest outs
    → (m : ℕ) (e : Event) → option_and_then (λ (o : Outcome). o.report) (slice_get outs m) ≡ Some e
    → e.kind ≡ kind.Receive → IsPaired (pairs_from tags n rest outs) (n + m)
paired_from top acts os n s tags [] outs u m e is receive =
    let none = ap (λ xs. option_and_then (λ (o : Outcome). o.report) (slice_get xs m))
    (same_Some [] outs u.runs) in
    absurd (none-some e (none ∙ is))
paired_from top acts os n s tags (a ∷ rest) outs u zero e is receive =
    let t = next top acts os n s tags a rest outs u in
    let o = t.outcome in
    let reported : o.report ≡ Some e =
    ap (λ xs. option_and_then (λ (o : Outcome). o.report) (slice_get xs 0)) (sym t.is_whole) ∙ is in
    let one = pair_of top acts os n s tags a o e t.is_step u.are reported receive in
    let tail = pairs_from (tags_after tags n a o.place) (n + 1) rest t.others in
    let made = λ (x : Option Event). (if is_some x then pair_at tags n a o.place else []) ++ tail in
    let whole : made o.report ≡ (n, one.send) ∷ tail =
    ap made reported ∙ ap (λ ps. ps ++ tail) one.is in
    let number : n ≡ n + zero = omega arith in
    let here : Contains ((n, one.send) ∷ tail) (n, one.send) = (0, omega arith, refl) in
    subst (λ xs. IsPaired (pairs_from tags n (a ∷ rest) xs) (n + zero)) (sym t.is_whole) (
      one.send,
      subst (λ k. Contains (made o.report) (k, one.send)) number
          (subst (λ ps. Contains ps (n, one.send)) (sym whole) here),
    )
paired_from top acts os n s tags (a ∷ rest) outs u (suc m) e is receive =
    let t = next top acts os n s tags a rest outs u in
    let o = t.outcome in
    let later = tags_after tags n a o.place in
    let head = if is_some o.report then pair_at tags n a o.place else [] in
    let there = ap (λ xs. option_and_then (λ (o : Outcome). o.report) (slice_get xs (suc m)))
    (sym t.is_whole) ∙ is in
    let inner = paired_from top acts os (n + 1) o.after later rest t.others t.later m e there
    receive in
    let number : n + 1 + m ≡ n + suc m = omega arith in
    let among = Contains-append_right head (pairs_from later (n + 1) rest t.others)
    (n + 1 + m, inner.0) inner.1 in
    subst (λ xs. IsPaired (pairs_from tags n (a ∷ rest) xs) (n + suc m)) (sym t.is_whole) (
      inner.0,
      subst (λ k. Contains (head ++ pairs_from later (n + 1) rest t.others) (k, inner.0))
          number among,
    )

pub receives_are_paired : (top : ℕ) (pids : List Pid) (acts : List Act) (os : List Outcome)
    → run top pids acts ≡ Some os → AllPaired os (pairs acts os)
receives_are_paired top pids acts os h r e is receive =
    let same : 0 + r ≡ r = omega arith in
    subst (IsPaired (pairs acts os)) same
    (paired_from top acts os 0 _ no_tags acts os (starts top pids acts os h) r e is receive)
