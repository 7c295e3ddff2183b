-- Only the lanes of an event's from and to are ends of it. So if the lanes are cut after these
-- two, no part has an end before its last lane.
use Rattle.std.proofs.Common.{◌≡◌, ◌≢◌, ℕ, ◌+◌, ◌-◌, ◌<◌, ◌≤◌, ◌||◌, Bool, true, false, inl, inr}
use Rattle.std.proofs.Common.{List, [], ◌∷◌, length, take, drop, get_or, Option, Some, None, min}
use Rattle.std.proofs.Common.{max, refl, sym, ap, subst, ◌∙◌, arith, cond, filter}
use Rattle.std.specs.List.{HoldsAt, AllByRecursion}
use Rattle.std.specs.Option.{option_map_or}
use Rattle.std.specs.declared.cmp.Ordering.TheVariants.{Equal}
use Rattle.std.proofs.lemmas.Bool.{cases_lt}
use Rattle.std.proofs.lemmas.List.{get_or-take, get_or-drop, get_or_append_left, length-take-le}
use Rattle.std.proofs.lemmas.List.{length-drop, length-append}
use Rattle.std.proofs.lemmas.List.Elements.{All-from_recursion}
use Rattle.std.proofs.lemmas.List.Folds.{list_any_none}
use Rattle.st_core.specs.declared.types.Pid.{Pid}
use Rattle.st_core.specs.declared.types.Event.{Event}
use Rattle.st_core.specs.Pid.{pid_eq, pid_cmp, IsBelow, IsRising}
use Rattle.st_core.proofs.ForCallers.{pid_eq-swap, pid_cmp-Equal, IsBelow-apart, rising_at}
use Rattle.st_chart.specs.Chart.{is_end}
use Rattle.st_chart.specs.Parts.{IsNoOther, HasNoEndBeforeLast, AreCutAtEnds}

-- ---- a process among rising lanes

pub found_once : (ps : List Pid) (p : Pid) (k : ℕ) → IsRising ps → k < length ps
    → HoldsAt (λ q. pid_cmp q p ≡ Equal) ps k → IsNoOther (Some p) ps (k + 1)
found_once ps p k rising within found i d below apart =
    let other = get_or ps i d in
    let same : get_or ps k d ≡ p = pid_cmp-Equal (get_or ps k d) p (found d) in
    elim (cases_lt i k) [
      | inl before ↦
          pid_eq-swap p other ∙ subst (λ q. pid_eq other q ≡ false) same
          (IsBelow-apart other (get_or ps k d) (rising_at ps i k d rising before within))
      | inr from ↦ elim (cases_lt k i) [
        | inl after ↦
            subst (λ q. pid_eq q other ≡ false) same
            (IsBelow-apart (get_or ps k d) other (rising_at ps k i d rising after below))
        | inr upto ↦ absurd (apart (omega (arith, from, upto)))
      ]
    ]

pub found_never : (ps : List Pid) (p : Pid) (n : ℕ) → AllByRecursion (λ q. pid_eq q p ≡ false) ps
    → IsNoOther (Some p) ps n
found_never ps p n none i d below apart =
    pid_eq-swap p (get_or ps i d) ∙ All-from_recursion (λ q. pid_eq q p ≡ false) ps none i d below

-- ---- a part of rising pids

kept_below : (p q : Pid) (rest : List Pid) (b : Bool) → IsBelow p q
    → AllByRecursion (IsBelow p) rest
    → AllByRecursion (IsBelow p) (cond b (q ∷ rest) rest)
kept_below p q rest true below all = (below, all)
kept_below p q rest false below all = all

some_below : (f : Pid → Bool) (p : Pid) (qs : List Pid) → AllByRecursion (IsBelow p) qs
    → AllByRecursion (IsBelow p) (filter f qs)
some_below f p [] all = tt
some_below f p (q ∷ qs) all = kept_below p q (filter f qs) (f q) all.0 (some_below f p qs all.1)

kept_rise : (p : Pid) (rest : List Pid) (b : Bool) → AllByRecursion (IsBelow p) rest → IsRising rest
    → IsRising (cond b (p ∷ rest) rest)
kept_rise p rest true below rising = (below, rising)
kept_rise p rest false below rising = rising

pub some_rise : (f : Pid → Bool) (ps : List Pid) → IsRising ps → IsRising (filter f ps)
some_rise f [] rising = tt
some_rise f (p ∷ ps) rising =
    kept_rise p (filter f ps) (f p) (some_below f p ps rising.0) (some_rise f ps rising.1)

-- ---- cut lanes

-- no lanes but the m-th and the n-th, counted from 1, are ends
abbrev OnlyThese : Event → List Pid → ℕ → ℕ → Type 0
OnlyThese e ps m n =
    (i : ℕ) (d : Pid) → i < length ps → i + 1 ≢ m → i + 1 ≢ n → is_end e (get_or ps i d) ≡ false

-- a part has no end before its last lane, if the m-th and n-th lanes are at most its last
part_clear : (e : Event) (ps part : List Pid) (start m n : ℕ) → OnlyThese e ps m n
    → start + length part ≤ length ps
    → ((i : ℕ) (d : Pid) → i < length part → get_or part i d ≡ get_or ps (start + i) d)
    → ((i : ℕ) → i + 1 < length part → (start + i + 1 ≢ m) × (start + i + 1 ≢ n))
    → HasNoEndBeforeLast e part
part_clear e ps part start m n only within same apart others last is =
    let long : length part ≡ length others + 1 = ap length is ∙ length-append others (last ∷ []) in
    list_any_none (is_end e) others (λ i d below.
    let inside : i < length part = omega (arith, long, below) in
    let far = apart i (omega (arith, long, below)) in
    let equal : get_or others i d ≡ get_or ps (start + i) d =
    sym (get_or_append_left others (last ∷ []) d i below)
    ∙ ap (λ (qs : List Pid). get_or qs i d) (sym is) ∙ same i d inside in
    ap (is_end e) equal ∙ only (start + i) d (omega (arith, within, inside)) far.0 far.1)

cut : (e : Event) (ps : List Pid) (m n : ℕ) → m ≤ n → n ≤ length ps → OnlyThese e ps m n
    → AreCutAtEnds e ps m n
cut e ps m n rise within only =
    let front : length (take n ps) ≡ n = length-take-le n ps within in
    let left_len : length (take m (take n ps)) ≡ m =
    length-take-le m (take n ps) (omega (arith, front, rise)) in
    let middle_len : length (drop m (take n ps)) ≡ n - m =
    length-drop m (take n ps) ∙ ap (λ k. k - m) front in
    let right_len : length (drop n ps) ≡ length ps - n = length-drop n ps in
    record {
      rise = rise;
      within = within;
      left =
          part_clear e ps (take m (take n ps)) 0 m n only (omega (arith, left_len, rise, within))
          (λ i d below.
          get_or-take m (take n ps) i d (omega (arith, below, left_len))
          ∙ get_or-take n ps i d (omega (arith, below, left_len, rise))
          ∙ ap (λ j. get_or ps j d) (let e : i ≡ 0 + i = omega arith in e))
          (λ i below. (
            λ same. omega (arith, same, below, left_len),
            λ same. omega (arith, same, below, left_len, rise),
          ));
      middle =
          part_clear e ps (drop m (take n ps)) m m n only (omega (arith, middle_len, rise, within))
          (λ i d below.
          get_or-drop m (take n ps) i d
          ∙ get_or-take n ps (m + i) d (omega (arith, below, middle_len)))
          (λ i below. (
            λ same. omega (arith, same),
            λ same. omega (arith, same, below, middle_len),
          ));
      right =
          part_clear e ps (drop n ps) n m n only (omega (arith, right_len, within))
          (λ i d below. get_or-drop n ps i d)
          (λ i below. (λ same. omega (arith, same, rise), λ same. omega (arith, same)));
    }

neither : (a b : Bool) → a ≡ false → b ≡ false → (a || b) ≡ false
neither true b h k = absurd (cc)
neither false b h k = k

only_ends : (e : Event) (ps : List Pid) (m n : ℕ) → IsNoOther (Some e.from) ps m
    → IsNoOther e.to ps n
    → OnlyThese e ps m n
only_ends e ps m n from to i d below apart other =
    neither (pid_eq e.from (get_or ps i d)) _ (from i d below apart) (by e.to to)
  where
    by : (t : Option Pid) → IsNoOther t ps n → option_map_or (λ q. pid_eq q (get_or ps i d)) t false
        ≡ false
    by None nowhere = refl
    by (Some q) nowhere = nowhere i d below other

-- the lanes are cut at ends if they are cut after the event's from and its to, in either order
pub cut_at_ends : (e : Event) (ps : List Pid) (m n low high : ℕ) → low ≡ min m n → high ≡ max m n
    → m ≤ length ps
    → n ≤ length ps → IsNoOther (Some e.from) ps m → IsNoOther e.to ps n
    → AreCutAtEnds e ps low high
cut_at_ends e ps m n low high lower higher m_within n_within from to =
    let only = only_ends e ps m n from to in
    elim (cases_lt n m) [
      | inl falls ↦
          let is_low : low ≡ n = omega (arith, lower, falls) in
          let is_high : high ≡ m = omega (arith, higher, falls) in
          rw (is_low, is_high) (cut e ps n m (omega (arith, falls)) m_within
          (λ i d below a b. only i d below b a))
      | inr rises ↦
          let is_low : low ≡ m = omega (arith, lower, rises) in
          let is_high : high ≡ n = omega (arith, higher, rises) in
          rw (is_low, is_high) (cut e ps m n rises n_within only)
    ]
