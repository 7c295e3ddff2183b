-- A tag is below the number of the next act, a send adds its own number, which is new, and a
-- receive takes one out: so each tag occurs once, is that of a send to the queue's process, and
-- doesn't come back.
use Rattle.std.proofs.Common.{◌≡◌, ℕ, ◌+◌, ◌<◌, ◌≢◌, true, false, cond, List, [], ◌∷◌, ◌++◌, get_or}
use Rattle.std.proofs.Common.{Option, Some, None}
use Rattle.std.proofs.Common.{is_some, All, AllPairs, refl, sym, ◌∙◌, ap, subst, arith}
use Rattle.std.specs.List.{slice_get, remove}
use Rattle.std.proofs.lemmas.Bool.{false≢true}
use Rattle.std.proofs.lemmas.List.Elements.{All-nil, All-cons, All-append, All-push, All-weaker}
use Rattle.std.proofs.lemmas.List.Quantifiers.{all_pairs_push}
use Rattle.std.proofs.lemmas.Option.{same_Some}
use Rattle.st_core.specs.declared.types.Pid.{Pid}
use Rattle.st_core.specs.declared.types.Want.{Want}
use Rattle.st_core.specs.declared.types.Act.{Act}
use Rattle.st_core.specs.declared.types.Act.TheVariants as act
use Rattle.st_core.specs.Pid.{pid_eq}
use Rattle.st_core.specs.Step.{Outcome}
use Rattle.st_core.specs.Pairs.{Tags, tags_after, pair_at, pairs_from}
use Rattle.st_core.proofs.Pids.{pid_eq-true, pid_eq-same}
use Rattle.st_core.proofs.Sound.{All_at, All-remove}
use Rattle.st_core.proofs.Zips.{AllPairs_remove, removed_once}

-- act i sends to p
pub record SendsTo (acts : List Act) (p : Pid) (i : ℕ) : Type 0 where
  pub from : Pid
  pub value : ℕ
  pub is : slice_get acts i ≡ Some (act.Send from p value)

-- each tag is below n, is the number of a send to its process, and occurs once
pub record AreKnown (acts : List Act) (n : ℕ) (tags : Tags) : Type 0 where
  pub below : (p : Pid) → All (λ i. i < n) (tags p)
  pub to : (p : Pid) → All (SendsTo acts p) (tags p)
  pub once : (p : Pid) → AllPairs (λ i j. i ≢ j) (tags p)

abbrev pub no_tags : Tags
no_tags p = []

pub no_tags_known : (acts : List Act) → AreKnown acts 0 no_tags
no_tags_known acts =
    record {
      below = λ p. All-nil (λ i. i < 0);
      to = λ p. All-nil (SendsTo acts p);
      once = λ p i j d below within. absurd (omega arith);
    }

below_later : (n : ℕ) (xs : List ℕ) → All (λ i. i < n) xs → All (λ i. i < n + 1) xs
below_later n xs all = All-weaker (λ i. i < n) (λ i. i < n + 1) (λ i h. omega arith) xs all

known_kept : (acts : List Act) (n : ℕ) (tags : Tags) → AreKnown acts n tags
    → AreKnown acts (n + 1) tags
known_kept acts n tags k =
    record { below = λ x. below_later n (tags x) (k.below x); to = k.to; once = k.once }

known_send : (acts : List Act) (n : ℕ) (tags : Tags) (p q : Pid) (v : ℕ) (place : Option ℕ)
    → slice_get acts n ≡ Some (act.Send p q v) → AreKnown acts n tags
    → AreKnown acts (n + 1) (tags_after tags n (act.Send p q v) place)
known_send acts n tags p q v place at k = record {
  below = λ x. elim (pid_eq x q) as (λ b.
      All (λ i. i < n + 1) (cond b (tags x ++ n ∷ []) (tags x))) [
        | true ↦ All-push (λ i. i < n + 1) (tags x) n (below_later n (tags x) (k.below x))
            (omega arith)
        | false ↦ below_later n (tags x) (k.below x)
      ];
  to = λ x. elim (pid_eq x q) as (λ b. pid_eq x q ≡ b
      → All (SendsTo acts x) (cond b (tags x ++ n ∷ []) (tags x))) [
        | true ↦ λ e.
            All-push (SendsTo acts x) (tags x) n (k.to x)
            (record {
              from = p;
              value = v;
              is =
                  at ∙ ap (λ y. Some (act.Send p y v)) (sym (pid_eq-true x q e));
            })
        | false ↦ λ e. k.to x
      ] refl;
  once = λ x. elim (pid_eq x q) as (λ b.
      AllPairs (λ i j. i ≢ j) (cond b (tags x ++ n ∷ []) (tags x))) [
        | true ↦
            all_pairs_push (λ i j. i ≢ j) (tags x) n (k.once x)
            (λ m d within same. let low : get_or (tags x) m d < n = k.below x m d within in
            omega arith)
        | false ↦ k.once x
      ];
}

known_receive : (acts : List Act) (n : ℕ) (tags : Tags) (p : Pid) (w : Want) (place : Option ℕ)
    → AreKnown acts n tags
    → AreKnown acts (n + 1) (tags_after tags n (act.Receive p w) place)
known_receive acts n tags p w None k = known_kept acts n tags k
known_receive acts n tags p w (Some at) k = record {
  below = λ x. elim (pid_eq x p) as (λ b.
      All (λ i. i < n + 1) (cond b (remove (tags x) at) (tags x))) [
        | true ↦ All-remove (λ i. i < n + 1) (tags x) at (below_later n (tags x) (k.below x))
        | false ↦ below_later n (tags x) (k.below x)
      ];
  to =
      λ x.
      elim (pid_eq x p) as (λ b. All (SendsTo acts x) (cond b (remove (tags x) at) (tags x))) [
        | true ↦ All-remove (SendsTo acts x) (tags x) at (k.to x)
        | false ↦ k.to x
      ];
  once =
      λ x.
      elim (pid_eq x p) as (λ b. AllPairs (λ i j. i ≢ j) (cond b (remove (tags x) at) (tags x))) [
        | true ↦ AllPairs_remove (λ i j. i ≢ j) (tags x) at (k.once x)
        | false ↦ k.once x
      ];
}

pub known_step : (acts : List Act) (n : ℕ) (tags : Tags) (a : Act) (place : Option ℕ)
    → slice_get acts n ≡ Some a
    → AreKnown acts n tags → AreKnown acts (n + 1) (tags_after tags n a place)
known_step acts n tags (act.Send p q v) place at k = known_send acts n tags p q v place at k
known_step acts n tags (act.Receive p w) place at k = known_receive acts n tags p w place k
known_step acts n tags a place at k = known_kept acts n tags k

-- i is the number of an act before act n, and no queue's tag
pub record IsGone (tags : Tags) (n i : ℕ) : Type 0 where
  pub before : i < n
  pub absent : (p : Pid) → All (λ j. i ≢ j) (tags p)

gone_kept : (tags : Tags) (n i : ℕ) → IsGone tags n i → IsGone tags (n + 1) i
gone_kept tags n i g = let before : i < n = g.before in
    record { before = omega arith; absent = g.absent }

gone_step : (tags : Tags) (n : ℕ) (a : Act) (place : Option ℕ) (i : ℕ) → IsGone tags n i
    → IsGone (tags_after tags n a place) (n + 1) i
gone_step tags n (act.Send p q v) place i g =
    let before : i < n = g.before in
    record {
      before = omega arith;
      absent =
          λ x.
          elim (pid_eq x q) as (λ b. All (λ j. i ≢ j) (cond b (tags x ++ n ∷ []) (tags x))) [
            | true ↦ All-push (λ j. i ≢ j) (tags x) n (g.absent x) (λ same. omega arith)
            | false ↦ g.absent x
          ];
    }
gone_step tags n (act.Receive p w) None i g = gone_kept tags n i g
gone_step tags n (act.Receive p w) (Some at) i g =
    let before : i < n = g.before in
    record {
      before = omega arith;
      absent =
          λ x.
          elim (pid_eq x p) as (λ b. All (λ j. i ≢ j) (cond b (remove (tags x) at) (tags x))) [
            | true ↦ All-remove (λ j. i ≢ j) (tags x) at (g.absent x)
            | false ↦ g.absent x
          ];
    }
gone_step tags n a place i g = gone_kept tags n i g

pair_gone : (tags : Tags) (n : ℕ) (a : Act) (place : Option ℕ) (i : ℕ) → IsGone tags n i
    → All (λ x. i ≢ x.1) (pair_at tags n a place)
pair_gone tags n (act.Receive p w) None i g = All-nil (λ x. i ≢ x.1)
pair_gone tags n (act.Receive p w) (Some k) i g =
    let P = λ (x : ℕ × ℕ). i ≢ x.1 in
    elim (slice_get (tags p) k) as (λ o.
    slice_get (tags p) k ≡ o → All P (elim o [ None ↦ [] | Some s ↦ (n, s) ∷ [] ])) [
      | None ↦ λ e. All-nil P
      | Some s ↦ λ e. All-cons P (n, s) [] (All_at (λ j. i ≢ j) (tags p) k s e (g.absent p))
          (All-nil P)
    ] refl
pair_gone tags n a place i g = All-nil (λ x. i ≢ x.1)

-- a number that is gone is in no later pair
pub pairs_gone : (tags : Tags) (n : ℕ) (acts : List Act) (os : List Outcome) (i : ℕ)
    → IsGone tags n i
    → All (λ x. i ≢ x.1) (pairs_from tags n acts os)
pairs_gone tags n (a ∷ acts) (o ∷ os) i g =
    let P = λ (x : ℕ × ℕ). i ≢ x.1 in
    All-append P (cond (is_some o.report) (pair_at tags n a o.place) [])
    (pairs_from (tags_after tags n a o.place) (n + 1) acts os)
    (elim (is_some o.report) as (λ b. All P (cond b (pair_at tags n a o.place) [])) [
      | true ↦ pair_gone tags n a o.place i g
      | false ↦ All-nil P
    ])
    (pairs_gone (tags_after tags n a o.place) (n + 1) acts os i (gone_step tags n a o.place i g))
pairs_gone tags n acts os i g = All-nil (λ x. i ≢ x.1)

sent_same : (acts : List Act) (p q : Pid) (i : ℕ) → SendsTo acts p i → SendsTo acts q i → p ≡ q
sent_same acts p q i s t =
    let same : act.Send s.from p s.value ≡ act.Send t.from q t.value =
    same_Some _ _ (sym s.is ∙ t.is) in
    cc

other_pid : (x p : Pid) → pid_eq x p ≡ false → x ≡ p → ⊥
other_pid x p apart same = false≢true (sym apart ∙ ap (pid_eq x) (sym same) ∙ pid_eq-same x)

-- the number that a receive takes out is gone
pub taken_gone : (acts : List Act) (n : ℕ) (tags : Tags) (p : Pid) (w : Want) (k i : ℕ)
    → AreKnown acts n tags
    → slice_get (tags p) k ≡ Some i
    → IsGone (tags_after tags n (act.Receive p w) (Some k)) (n + 1) i
taken_gone acts n tags p w k i known at =
    let before : i < n = All_at (λ j. j < n) (tags p) k i at (known.below p) in
    let mine : SendsTo acts p i = All_at (SendsTo acts p) (tags p) k i at (known.to p) in
    record {
      before = omega arith;
      absent = λ x.
          elim (pid_eq x p) as (λ b. pid_eq x p ≡ b
          → All (λ j. i ≢ j) (cond b (remove (tags x) k) (tags x))) [
            | true ↦ λ e.
                subst (λ y. All (λ j. i ≢ j) (remove (tags y) k)) (sym (pid_eq-true x p e))
                (removed_once (tags p) k i (known.once p) at)
            | false ↦ λ e.
                All-weaker (SendsTo acts x) (λ j. i ≢ j)
                (λ j theirs same.
                other_pid x p e (sent_same acts x p i (subst (SendsTo acts x) (sym same) theirs)
                mine))
                (tags x) (known.to x)
          ] refl;
    }
