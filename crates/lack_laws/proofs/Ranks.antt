-- The counts of streams make a rising list that begins with 0, in which the rank of a count is its
-- place. So what is at the place of a count's rank is the count itself, and counts keep their
-- order.
use Rattle.std.proofs.Common.{◌≡◌, ℕ, ◌+◌, zero, suc, ◌<◌, ◌≤◌, ◌⊎◌, inl, inr, nat_lt, true, false}
use Rattle.std.proofs.Common.{cond, List, [], ◌∷◌, map, refl, sym, ◌∙◌, ap, subst, arith}
use Rattle.std.specs.List.{AllByRecursion}
use Rattle.std.proofs.lemmas.Bool.{ltb-true, ltb-false, le-ltb, lt-ltb}
use Rattle.st_core.specs.declared.types.Event.{Event}
use Rattle.st_core.specs.Pid.{IsRising}
use Rattle.st_core.specs.Run.{Stream, pids_of}
use Rattle.lack_laws.specs.Completed.{IsShownInOneTrace}
use Rattle.lack_laws.specs.Renumbering.{count_of_rank, counts_of, event_with, insert_count}
use Rattle.lack_laws.specs.Renumbering.{insert_counts, KeepsOrder, rank, renumbered_streams}
use Rattle.lack_laws.specs.Renumbering.{with_counts}
use Rattle.lack_laws.proofs.NeedlessStreams.{exactly_needless, needless_shown}
use Rattle.lack_laws.proofs.Renumbering.{pids_with, shown_with}

abbrev pub AllAbove : ℕ → List ℕ → Type 0
AllAbove b cs = AllByRecursion (λ c. b < c) cs

-- each count is below all after it
abbrev pub Climbs : List ℕ → Type 0
Climbs [] = Unit {0}
Climbs (c ∷ cs) = AllAbove c cs × Climbs cs

abbrev pub IsIn : ℕ → List ℕ → Type 0
IsIn c [] = ⊥
IsIn c (d ∷ ds) = (c ≡ d) ⊎ IsIn c ds

-- INSERTING

pub above_lower : (b c : ℕ) (ds : List ℕ) → b < c → AllAbove c ds → AllAbove b ds
above_lower b c [] low all = all
above_lower b c (d ∷ ds) low all = (let high = all.0 in omega arith, above_lower b c ds low all.1)

-- a count goes before the first one, or among those after it, or is the first one
pub insert_by : (P : List ℕ → Type 0) (c d : ℕ) (ds : List ℕ) → (c < d → P (c ∷ d ∷ ds))
    → (d < c → P (d ∷ insert_count c ds)) → (c ≡ d → P (d ∷ ds)) → P (insert_count c (d ∷ ds))
insert_by P c d ds before later here =
    elim (nat_lt c d) as (λ x. nat_lt c d ≡ x
    → P (cond x (c ∷ d ∷ ds) (cond (nat_lt d c) (d ∷ insert_count c ds) (d ∷ ds)))) [
      | true ↦ λ less. before (ltb-true c d less)
      | false ↦ λ low. elim (nat_lt d c) as (λ y. nat_lt d c ≡ y
          → P (cond y (d ∷ insert_count c ds) (d ∷ ds))) [
            | true ↦ λ more. later (ltb-true d c more)
            | false ↦ λ high.
                here (omega (arith, ltb-false c d low, ltb-false d c high))
          ] refl
    ] refl

insert_above : (b c : ℕ) (ds : List ℕ) → b < c → AllAbove b ds → AllAbove b (insert_count c ds)
insert_above b c [] low all = (low, all)
insert_above b c (d ∷ ds) low all = insert_by (AllAbove b) c d ds (λ _. (low, all))
    (λ _. (all.0, insert_above b c ds low all.1)) (λ _. all)

pub insert_climbs : (c : ℕ) (ds : List ℕ) → Climbs ds → Climbs (insert_count c ds)
insert_climbs c [] all = (all, all)
insert_climbs c (d ∷ ds) all = insert_by Climbs c d ds
    (λ low. ((low, above_lower c d ds low all.0), all))
    (λ high. (insert_above d c ds high all.0, insert_climbs c ds all.1)) (λ _. all)

pub insert_has : (c : ℕ) (ds : List ℕ) → IsIn c (insert_count c ds)
insert_has c [] = inl refl
insert_has c (d ∷ ds) =
    insert_by (IsIn c) c d ds (λ _. inl refl) (λ _. inr (insert_has c ds)) (λ same. inl same)

pub insert_keeps : (b c : ℕ) (ds : List ℕ) → IsIn b ds → IsIn b (insert_count c ds)
insert_keeps b c [] here = absurd here
insert_keeps b c (d ∷ ds) here = insert_by (IsIn b) c d ds (λ _. inr here)
    (λ _. elim here [ inl same ↦ inl same | inr later ↦ inr (insert_keeps b c ds later) ])
    (λ _. here)

-- THE COUNTS OF STREAMS

-- the counts rise, and begin with 0
record AreCounts (cs : List ℕ) : Type 0 where
  rest : List ℕ
  is : cs ≡ 0 ∷ rest
  climb : Climbs cs

insert_counted : (c : ℕ) (cs : List ℕ) → AreCounts cs → AreCounts (insert_count c cs)
insert_counted c cs are =
    let climb = insert_climbs c cs are.climb in
    let low : nat_lt c 0 ≡ false = le-ltb c 0 (omega arith) in
    let next = cond (nat_lt 0 c) (insert_count c are.rest) are.rest in
    record {
      rest = next;
      is = ap (insert_count c) are.is
          ∙ ap (λ x. cond x (c ∷ 0 ∷ are.rest) (cond (nat_lt 0 c) (0 ∷ insert_count c are.rest)
          (0 ∷ are.rest))) low
          ∙ (elim (nat_lt 0 c) as (λ y. cond y (0 ∷ insert_count c are.rest) (0 ∷ are.rest)
          ≡ 0 ∷ cond y (insert_count c are.rest) are.rest) [ true ↦ refl | false ↦ refl ]);
      climb = climb;
    }

insert_all : (es : List Event) (cs : List ℕ) → AreCounts cs → AreCounts (insert_counts es cs)
insert_all [] cs are = are
insert_all (e ∷ es) cs are =
    insert_counted e.serial.prev (insert_count e.serial.this (insert_counts es cs))
    (insert_counted e.serial.this (insert_counts es cs) (insert_all es cs are))

counts_are : (streams : List Stream) → AreCounts (counts_of streams)
counts_are [] = record { rest = []; is = refl; climb = (tt, tt) }
counts_are (s ∷ streams) = insert_all s.events (counts_of streams) (counts_are streams)

pub counts_climb : (streams : List Stream) → Climbs (counts_of streams)
counts_climb streams = (counts_are streams).climb

kept_by_all : (b : ℕ) (es : List Event) (cs : List ℕ) → IsIn b cs → IsIn b (insert_counts es cs)
kept_by_all b [] cs here = here
kept_by_all b (e ∷ es) cs here =
    insert_keeps b e.serial.prev (insert_count e.serial.this (insert_counts es cs))
    (insert_keeps b e.serial.this (insert_counts es cs) (kept_by_all b es cs here))

abbrev AreIn : List ℕ → Event → Type 0
AreIn cs e = IsIn e.serial.prev cs × IsIn e.serial.this cs

events_in : (cs ds : List ℕ) (es : List Event)
    → ((c : ℕ) → IsIn c (insert_counts es ds) → IsIn c cs) → AllByRecursion (AreIn cs) es
events_in cs ds [] within = tt
events_in cs ds (e ∷ es) within =
    let rest = insert_counts es ds in
    let more = insert_count e.serial.this rest in (
      (
        within e.serial.prev (insert_has e.serial.prev more),
        within e.serial.this (insert_keeps e.serial.this e.serial.prev more
            (insert_has e.serial.this rest)),
      ),
      events_in cs ds es (λ c here. within c (insert_keeps c e.serial.prev more
          (insert_keeps c e.serial.this rest here))),
    )

all_in : (cs : List ℕ) (streams : List Stream) → ((c : ℕ) → IsIn c (counts_of streams) → IsIn c cs)
    → AllByRecursion (λ (s : Stream). AllByRecursion (AreIn cs) s.events) streams
all_in cs [] within = tt
all_in cs (s ∷ streams) within = (
  events_in cs (counts_of streams) s.events within,
  all_in cs streams (λ c here. within c (kept_by_all c s.events (counts_of streams) here)),
)

-- RANKS AND BACK

rank_low : (c : ℕ) (ds : List ℕ) → AllAbove c ds → rank ds c ≡ 0
rank_low c [] all = refl
rank_low c (d ∷ ds) all =
    let rest = rank_low c ds all.1 in
    ap (λ b. cond b 1 0 + rank ds c) (le-ltb d c (let high = all.0 in omega arith)) ∙ (omega arith)

rank_first : (c : ℕ) (ds : List ℕ) → AllAbove c ds → rank (c ∷ ds) c ≡ 0
rank_first c ds all =
    let rest = rank_low c ds all in
    ap (λ b. cond b 1 0 + rank ds c) (le-ltb c c (omega arith)) ∙ (omega arith)

pub above_in : (b c : ℕ) (ds : List ℕ) → AllAbove b ds → IsIn c ds → b < c
above_in b c [] all here = absurd here
above_in b c (d ∷ ds) all here = elim here [
  | inl same ↦ (let high = all.0 in omega (arith, same))
  | inr later ↦ above_in b c ds all.1 later
]

rank_next : (c d : ℕ) (ds : List ℕ) → d < c → rank (d ∷ ds) c ≡ suc (rank ds c)
rank_next c d ds less = ap (λ b. cond b 1 0 + rank ds c) (lt-ltb d c less) ∙ (omega arith)

back : (c : ℕ) (cs : List ℕ) → Climbs cs → IsIn c cs → count_of_rank cs (rank cs c) ≡ c
back c [] climb here = absurd here
back c (d ∷ []) climb here = elim here [
  | inl same ↦
      ap (λ x. count_of_rank (d ∷ []) (rank (d ∷ []) x)) same
      ∙ ap (count_of_rank (d ∷ [])) (rank_first d [] climb.0)
      ∙ (omega (arith, same))
  | inr later ↦ absurd later
]
back c (d ∷ e ∷ es) climb here = elim here [
  | inl same ↦
      ap (λ x. count_of_rank (d ∷ e ∷ es) (rank (d ∷ e ∷ es) x)) same
      ∙ ap (count_of_rank (d ∷ e ∷ es)) (rank_first d (e ∷ es) climb.0)
      ∙ sym same
  | inr later ↦
      ap (count_of_rank (d ∷ e ∷ es)) (rank_next c d (e ∷ es) (above_in d c (e ∷ es) climb.0 later))
      ∙ back c (e ∷ es) climb.1 later
]

low_first : (c : ℕ) (cs : List ℕ) (n : ℕ) → Climbs (c ∷ cs) → c ≤ count_of_rank (c ∷ cs) n
low_first c [] n climb = omega arith
low_first c (d ∷ ds) zero climb = omega arith
low_first c (d ∷ ds) (suc n) climb =
    omega (arith, low_first d ds n climb.1, climb.0.0)

rises : (cs : List ℕ) → Climbs cs → (m n : ℕ) → m < n → count_of_rank cs m < count_of_rank cs n
rises [] climb m n less = less
rises (c ∷ []) climb m n less = omega arith
rises (c ∷ d ∷ ds) climb zero zero less = absurd (omega (arith, less))
rises (c ∷ d ∷ ds) climb (suc m) zero less = absurd (omega (arith, less))
rises (c ∷ d ∷ ds) climb zero (suc n) less =
    omega (arith, low_first d ds n climb.1, climb.0.0)
rises (c ∷ d ∷ ds) climb (suc m) (suc n) less = rises (d ∷ ds) climb.1 m n (omega (arith, less))

first_is : (rest : List ℕ) → count_of_rank (0 ∷ rest) 0 ≡ 0
first_is [] = refl
first_is (d ∷ ds) = refl

pub ranks_keep_order : (streams : List Stream) → KeepsOrder (count_of_rank (counts_of streams))
ranks_keep_order streams =
    let are = counts_are streams in
    record {
      from_zero = ap (λ cs. count_of_rank cs 0) are.is ∙ first_is are.rest;
      rises = rises (counts_of streams) are.climb;
    }

module _ (cs : List ℕ) (climb : Climbs cs) where
  event_back : (e : Event) → AreIn cs e → event_with (count_of_rank cs) (event_with (rank cs) e) ≡ e
  event_back e at =
      ap (λ n. record e {
        serial = record { prev = n; this = count_of_rank cs (rank cs e.serial.this) };
      }) (back e.serial.prev cs climb at.0)
      ∙ ap (λ n. record e { serial = record { prev = e.serial.prev; this = n } })
      (back e.serial.this cs climb at.1)

  events_back : (es : List Event) → AllByRecursion (AreIn cs) es
      → map (event_with (count_of_rank cs)) (map (event_with (rank cs)) es) ≡ es
  events_back [] all = refl
  events_back (e ∷ es) all =
      ap (λ d. d ∷ map (event_with (count_of_rank cs)) (map (event_with (rank cs)) es))
      (event_back e all.0)
      ∙ ap (λ ds. e ∷ ds) (events_back es all.1)

  streams_back : (streams : List Stream) → AllByRecursion
      (λ (s : Stream). AllByRecursion (AreIn cs) s.events) streams
      → with_counts (count_of_rank cs) (with_counts (rank cs) streams) ≡ streams
  streams_back [] all = refl
  streams_back (s ∷ streams) all =
      ap (λ es. let t : Stream = record { pid = s.pid; events = es } in
      t ∷ with_counts (count_of_rank cs) (with_counts (rank cs) streams))
      (events_back s.events all.0)
      ∙ ap (λ ss. s ∷ ss) (streams_back streams all.1)

pub counts_put_back : (streams : List Stream)
    → with_counts (count_of_rank (counts_of streams)) (renumbered_streams streams) ≡ streams
counts_put_back streams =
    streams_back (counts_of streams) (counts_climb streams) streams
    (all_in (counts_of streams) streams (λ c here. here))

-- streams that are shown at one TOP are shown at a greater one
pub shown_higher : (top high : ℕ) (streams : List Stream) → IsRising (pids_of streams) → top ≤ high
    → IsShownInOneTrace top streams → IsShownInOneTrace high streams
shown_higher top high streams rising le shown =
    let done = (exactly_needless top streams rising).0 shown in
    needless_shown high streams (record {
      wholes = done.wholes;
      told = done.told;
      sound = done.sound;
      is = record {
        accepted = done.is.accepted;
        reported = done.is.reported;
        timely = done.is.timely;
        caused = done.is.caused;
        within = λ p i e at. let low = done.is.within p i e at in omega arith;
      };
    })

pub renumbered_shown : (top rank_top : ℕ) (streams : List Stream) → IsRising (pids_of streams)
    → count_of_rank (counts_of streams) rank_top ≤ top
    → IsShownInOneTrace rank_top (renumbered_streams streams) → IsShownInOneTrace top streams
renumbered_shown top rank_top streams rising fits shown =
    let cs = counts_of streams in
    let back = count_of_rank cs in
    let rising' = subst IsRising (sym (pids_with (rank cs) streams)) rising in
    shown_higher (back rank_top) top streams rising fits
    (subst (IsShownInOneTrace (back rank_top)) (counts_put_back streams)
    (shown_with back (ranks_keep_order streams) rank_top (renumbered_streams streams) rising'
    shown))
