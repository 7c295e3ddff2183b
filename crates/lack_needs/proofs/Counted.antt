-- All counts of the streams are noted with 0, sorted, and kept once each, and two rising lists
-- with the same members are one list. So the counts that are found are those of the definition.
use Rattle.std.proofs.Common.{◌≡◌, ℕ, ◌+◌, zero, suc, ◌<◌, ◌⊎◌, inl, inr, List, [], ◌∷◌, ◌++◌}
use Rattle.std.proofs.Common.{length, drop, get_or, refl, sym, ◌∙◌, ap, subst, arith}
use Rattle.std.specs.List.{AllPairs, Contains}
use Rattle.std.specs.List.Sorted.{IsStrictlyIncreasing}
use Rattle.std.proofs.lemmas.List.{append_assoc}
use Rattle.std.proofs.lemmas.List.Kept.{AllPairs-from_increasing}
use Rattle.st_core.specs.declared.types.Pid.{Pid}
use Rattle.st_core.specs.declared.types.Event.{Event}
use Rattle.st_core.specs.Pid.{IsRising}
use Rattle.st_core.specs.Run.{Stream, pids_of}
use Rattle.st_core.specs.Streams.{events_of}
use Rattle.st_pair.proofs.ForCallers.{drop_next, stream_here}
use Rattle.lack_laws.specs.Renumbering.{counts_of, insert_count, insert_counts}
use Rattle.lack_laws.proofs.ForCallers.{AllAbove, Climbs, IsIn, above_in, counts_climb, insert_by}
use Rattle.lack_laws.proofs.ForCallers.{insert_has, insert_keeps}
use Rattle.lack_needs.specs.Counts.{all_counts, counts_in}

-- NOTING THE COUNTS

-- the counts of one more process are noted
pub process_noted : (old now more : List ℕ) (streams : List Stream) (pids : List Pid) (k : ℕ)
    (d : Pid)
    (es : List Event) → IsRising (pids_of streams) → pids ≡ pids_of streams → k < length pids
    → es ≡ events_of streams (get_or pids k d) → more ≡ now ++ counts_in es
    → now ++ all_counts (drop k streams) ≡ old → more ++ all_counts (drop (k + 1) streams) ≡ old
process_noted old now more streams pids k d es rising are within is noted so_far =
    let at = stream_here streams pids k d es rising are within is in
    let next : suc k ≡ k + 1 = omega arith in
    ap (λ cs. cs ++ all_counts (drop (k + 1) streams)) noted
    ∙ append_assoc now (counts_in es) (all_counts (drop (k + 1) streams))
    ∙ ap (λ n. now ++ (counts_in es ++ all_counts (drop n streams))) (sym next)
    ∙ sym (ap (λ xs. now ++ all_counts xs) (drop_next streams k _ at))
    ∙ so_far

-- LISTS THAT RISE

-- each member of one list is in the other
abbrev pub AreIn : List ℕ → List ℕ → Type 0
AreIn cs ds = (c : ℕ) → IsIn c cs → IsIn c ds

rest_in : (x : ℕ) (xs ys : List ℕ) → AllAbove x xs → AreIn (x ∷ xs) (x ∷ ys) → AreIn xs ys
rest_in x xs ys above are c here = elim (are c (inr here)) [
  | inl same ↦ (let high = above_in x c xs above here in absurd (omega (arith, same)))
  | inr later ↦ later
]

first_same : (x y : ℕ) (xs ys : List ℕ) → AllAbove x xs → AllAbove y ys → IsIn x (y ∷ ys)
    → IsIn y (x ∷ xs) → x ≡ y
first_same x y xs ys above below here there = elim here [
  | inl same ↦ same
  | inr later ↦ elim there [
    | inl same ↦ sym same
    | inr other ↦
        absurd (omega (arith, above_in y x ys below later, above_in x y xs above other))
  ]
]

pub one_list : (xs ys : List ℕ) → Climbs xs → Climbs ys → AreIn xs ys → AreIn ys xs → xs ≡ ys
one_list [] [] up down to from = refl
one_list [] (y ∷ ys) up down to from = absurd (from y (inl refl))
one_list (x ∷ xs) [] up down to from = absurd (to x (inl refl))
one_list (x ∷ xs) (y ∷ ys) up down to from =
    let same = first_same x y xs ys up.0 down.0 (to x (inl refl)) (from y (inl refl)) in
    let above : AllAbove x ys = subst (λ n. AllAbove n ys) (sym same) down.0 in
    let here : AreIn (x ∷ xs) (x ∷ ys) = subst (λ n. AreIn (x ∷ xs) (n ∷ ys)) (sym same) to in
    let there : AreIn (x ∷ ys) (x ∷ xs) = subst (λ n. AreIn (n ∷ ys) (x ∷ xs)) (sym same) from in
    ap (λ n. n ∷ xs) same
    ∙ ap (λ zs. y ∷ zs) (one_list xs ys up.1 down.1 (rest_in x xs ys up.0 here)
    (rest_in x ys xs above there))

-- THE COUNTS OF STREAMS

insert_in : (b c : ℕ) (ds : List ℕ) → IsIn b (c ∷ ds) → IsIn b (insert_count c ds)
insert_in b c ds (inl same) = subst (λ x. IsIn x (insert_count c ds)) (sym same) (insert_has c ds)
insert_in b c ds (inr later) = insert_keeps b c ds later

in_insert : (b c : ℕ) (ds : List ℕ) → IsIn b (insert_count c ds) → IsIn b (c ∷ ds)
in_insert b c [] = λ here. here
in_insert b c (d ∷ ds) = insert_by (λ xs. IsIn b xs → IsIn b (c ∷ d ∷ ds)) c d ds (λ _ here. here)
    (λ _ here. elim here [
      | inl first ↦ inr (inl first)
      | inr later ↦ elim (in_insert b c ds later)
          [ inl same ↦ inl same | inr rest ↦ inr (inr rest) ]
    ]) (λ _ here. inr here)

insert_all_in : (b : ℕ) (es : List Event) (cs : List ℕ) → IsIn b (counts_in es) ⊎ IsIn b cs
    → IsIn b (insert_counts es cs)
insert_all_in b [] cs here = elim here [ inl none ↦ absurd none | inr other ↦ other ]
insert_all_in b (e ∷ es) cs here =
    let rest = insert_counts es cs in
    let more = insert_count e.serial.this rest in
    insert_in b e.serial.prev more (elim here [
      | inr other ↦ inr (insert_in b e.serial.this rest (inr (insert_all_in b es cs (inr other))))
      | inl own ↦ elim own [
        | inl prev ↦ inl prev
        | inr later ↦ inr (insert_in b e.serial.this rest (elim later [
          | inl this ↦ inl this
          | inr last ↦ inr (insert_all_in b es cs (inl last))
        ]))
      ]
    ])

in_insert_all : (b : ℕ) (es : List Event) (cs : List ℕ) → IsIn b (insert_counts es cs)
    → IsIn b (counts_in es) ⊎ IsIn b cs
in_insert_all b [] cs here = inr here
in_insert_all b (e ∷ es) cs here =
    let rest = insert_counts es cs in
    elim (in_insert b e.serial.prev (insert_count e.serial.this rest) here) [
      | inl prev ↦ inl (inl prev)
      | inr more ↦ elim (in_insert b e.serial.this rest more) [
        | inl this ↦ inl (inr (inl this))
        | inr later ↦ elim (in_insert_all b es cs later)
            [ inl own ↦ inl (inr (inr own)) | inr other ↦ inr other ]
      ]
    ]

in_either : (b : ℕ) (cs ds : List ℕ) → IsIn b (cs ++ ds) → IsIn b cs ⊎ IsIn b ds
in_either b [] ds here = inr here
in_either b (c ∷ cs) ds here = elim here [
  | inl first ↦ inl (inl first)
  | inr later ↦ elim (in_either b cs ds later) [ inl own ↦ inl (inr own) | inr other ↦ inr other ]
]

pub either_in : (b : ℕ) (cs ds : List ℕ) → IsIn b cs ⊎ IsIn b ds → IsIn b (cs ++ ds)
either_in b [] ds here = elim here [ inl none ↦ absurd none | inr other ↦ other ]
either_in b (c ∷ cs) ds here = elim here [
  | inr other ↦ inr (either_in b cs ds (inr other))
  | inl own ↦ elim own [ inl first ↦ inl first | inr later ↦ inr (either_in b cs ds (inl later)) ]
]

pub counts_has : (streams : List Stream) → AreIn (0 ∷ all_counts streams) (counts_of streams)
counts_has [] c here = here
counts_has (x ∷ streams) c here = insert_all_in c x.events (counts_of streams) (elim here [
  | inl none ↦ inr (counts_has streams c (inl none))
  | inr later ↦ elim (in_either c (counts_in x.events) (all_counts streams) later) [
    | inl own ↦ inl own
    | inr other ↦ inr (counts_has streams c (inr other))
  ]
])

pub has_counts : (streams : List Stream) → AreIn (counts_of streams) (0 ∷ all_counts streams)
has_counts [] c here = here
has_counts (x ∷ streams) c here =
    let all = counts_in x.events in
    let rest = all_counts streams in
    elim (in_insert_all c x.events (counts_of streams) here) [
      | inl own ↦ inr (either_in c all rest (inl own))
      | inr other ↦ elim (has_counts streams c other) [
        | inl none ↦ inl none
        | inr later ↦ inr (either_in c all rest (inr later))
      ]
    ]

-- LISTS AS CONTRACTS SPEAK OF THEM

contains_in : (xs : List ℕ) (c k : ℕ) → k < length xs → get_or xs k c ≡ c → IsIn c xs
contains_in [] c k within is = absurd (omega arith)
contains_in (x ∷ xs) c zero within is = inl (sym is)
contains_in (x ∷ xs) c (suc k) within is = inr (contains_in xs c k (omega arith) is)

in_contains : (xs : List ℕ) (c : ℕ) → IsIn c xs → Contains xs c
in_contains [] c here = absurd here
in_contains (x ∷ xs) c here = elim here [
  | inl same ↦ (0, (omega arith), sym same)
  | inr later ↦ let at = in_contains xs c later in (
    suc at.0,
    (let within = at.1 in omega arith),
    at.2,
  )
]

increasing_above : (b : ℕ) (xs : List ℕ) → ((k d : ℕ) → k < length xs → b < get_or xs k d)
    → AllAbove b xs
increasing_above b [] each = tt
increasing_above b (x ∷ xs) each = (
  each 0 0 (omega arith),
  increasing_above b xs (λ k d within.
      each (suc k) d (omega (arith, within))),
)

increasing_climbs : (xs : List ℕ) → AllPairs (λ x y. x < y) xs → Climbs xs
increasing_climbs [] pairs = tt
increasing_climbs (x ∷ xs) pairs = (
  increasing_above x xs (λ k d within. pairs 0 (suc k) d (omega arith) (omega (arith, within))),
  increasing_climbs xs (λ i j d less within. pairs (suc i) (suc j) d (omega (arith, less))
      (omega (arith, within))),
)

-- noted counts, sorted and kept once each, are the counts of the streams
pub counts_are : (streams : List Stream) (noted counts : List ℕ) → noted ≡ 0 ∷ all_counts streams
    → IsStrictlyIncreasing counts → ((c : ℕ) → Contains noted c → Contains counts c)
    → ((c : ℕ) → Contains counts c → Contains noted c) → counts ≡ counts_of streams
counts_are streams noted counts is rises keeps adds_none =
    one_list counts (counts_of streams) (increasing_climbs counts
    (AllPairs-from_increasing counts rises))
    (counts_climb streams)
    (λ c here. counts_has streams c (let at = adds_none c (in_contains counts c here) in
    subst (IsIn c) is (contains_in noted c at.0 at.1 at.2)))
    (λ c here. let at = keeps c (in_contains noted c
    (subst (IsIn c) (sym is) (has_counts streams c here))) in
    contains_in counts c at.0 at.1 at.2)
