-- A lane that is no end of an item has a bar, so a run of n such lanes has n bars.
use Rattle.std.proofs.Common.{◌≡◌, ℕ, ◌+◌, ◌-◌, ◌≤◌, zero, suc, Bool, true, false, ◌||◌, List, []}
use Rattle.std.proofs.Common.{◌∷◌, ◌++◌}
use Rattle.std.proofs.Common.{length, refl, sym, ap, subst, ◌∙◌, append_assoc, codes, arith}
use Rattle.std.proofs.Math.ListN.{replicate}
use Rattle.std.proofs.lemmas.List.{append-nil}
use Rattle.std.proofs.lemmas.List.Concat.{flat_map-append}
use Rattle.std.specs.List.{flat_map, list_any}
use Rattle.std.specs.Option.{option_map_or}
use Rattle.st_core.specs.declared.types.Pid.{Pid}
use Rattle.st_core.specs.declared.types.Kind.{Kind}
use Rattle.st_core.specs.declared.types.Kind.TheVariants as kind
use Rattle.st_core.specs.Pid.{pid_eq}
use Rattle.st_text.specs.Writing.{Goes, WritesPart}
use Rattle.st_text.proofs.ForCallers.{part_longer, part_then}
use Rattle.st_order.specs.declared.item.Item.{Item}
use Rattle.st_order.specs.declared.item.Item.TheVariants as item
use Rattle.st_chart.specs.declared.charted_item.ChartedItem.{ChartedItem}
use Rattle.st_chart.specs.Chart.{is_at, is_end, mark}
use Rattle.st_chart.specs.Parts.{bars, HasNoEndBeforeLast}

-- ---- bars in a row

pub bars_flat : (n : ℕ) → flat_map (λ t. t) (replicate n (codes "   |")) ≡ bars n
bars_flat zero = refl
bars_flat (suc n) = ap (λ (t : List ℕ). codes "   |" ++ t) (bars_flat n)

bars_then : (m n : ℕ) → bars m ++ bars n ≡ bars (m + n)
bars_then zero n = ap bars (let e : n ≡ 0 + n = omega arith in e)
bars_then (suc m) n =
    let next : suc (m + n) ≡ suc m + n = omega arith in
    append_assoc (codes "   |") (bars m) (bars n) ∙ ap (λ (t : List ℕ). codes "   |" ++ t)
    (bars_then m n)
    ∙ ap bars next

-- the bars before the left ones, and the left ones, are all bars
pub bars_whole : (count left : ℕ) → left ≤ count → bars (count - left) ++ bars left ≡ bars count
bars_whole count left within =
    let all : count - left + left ≡ count = omega (arith, within) in
    bars_then (count - left) left ∙ ap bars all

-- after one more run, there are as many more bars
pub bars_more : (count left run : ℕ) → left ≤ count → run ≤ left
    → bars (count - left) ++ bars run ≡ bars (count - (left - run))
bars_more count left run within upto =
    let more : count - left + run ≡ count - (left - run) = omega (arith, within, upto) in
    bars_then (count - left) run ∙ ap bars more

-- if the next run fails, a prefix of all bars was written
pub bars_failed : {S : Type 0} (puts : S → List ℕ → S → Type 0) (failed : S → Bool)
    (count left run : ℕ)
    {a b c : S} {x y : List ℕ}
    → left ≤ count → run ≤ left → Goes puts failed (bars (count - left)) a b x y
    → WritesPart puts failed (y ++ bars run) b c → WritesPart puts failed (x ++ bars count) a c
bars_failed puts failed count left run {a} {c} {x} within upto g h =
    let behind : left - run ≤ count = omega (arith, within) in
    let part = part_then puts failed (bars (count - left)) (bars run) g h in
    let more =
    subst (λ (t : List ℕ). WritesPart puts failed (x ++ t) a c)
    (bars_more count left run within upto) part in
    subst (λ (t : List ℕ). WritesPart puts failed (x ++ t) a c)
    (bars_whole count (left - run) behind)
    (part_longer puts failed (bars (count - (left - run))) (bars (left - run)) x more)

-- ---- the marks of lanes

or_left : (a b : Bool) → (a || b) ≡ false → a ≡ false
or_left true b none = none
or_left false b none = refl

or_right : (a b : Bool) → (a || b) ≡ false → b ≡ false
or_right true b none = absurd (cc)
or_right false b none = none

-- an item happens at one of its ends
at_none : (x : ChartedItem) (p : Pid) → is_end x.event p ≡ false → is_at x p ≡ false
at_none x p none = by x.item x.event.kind (or_left _ _ none)
    (or_right (pid_eq x.event.from p) _ none)
  where
    by : (i : Item) (k : Kind) → pid_eq x.event.from p ≡ false
        → option_map_or (λ q. pid_eq q p) x.event.to false ≡ false
        → elim i [
          | item.Hidden q n ↦ pid_eq x.event.from p
          | item.Reported q n ↦ elim k [
            | kind.Send ↦ pid_eq x.event.from p
            | kind.Receive ↦ option_map_or (λ to. pid_eq to p) x.event.to false
            | kind.Print ↦ pid_eq x.event.from p
          ]
        ] ≡ false
    by (item.Hidden q n) k from to = from
    by (item.Reported q n) kind.Send from to = from
    by (item.Reported q n) kind.Receive from to = to
    by (item.Reported q n) kind.Print from to = from

bar : (x : ChartedItem) (p : Pid) → is_end x.event p ≡ false → mark x p ≡ codes "   |"
bar x p none = rw (at_none x p none, none) refl

bars_are : (x : ChartedItem) (ps : List Pid) → list_any (is_end x.event) ps ≡ false
    → flat_map (mark x) ps ≡ bars (length ps)
bars_are x [] none = refl
bars_are x (p ∷ ps) none =
    rw (
      bar x p (or_left (is_end x.event p) _ none),
      bars_are x ps (or_right (is_end x.event p) _ none),
    ) refl

pub no_marks : (x : ChartedItem) (ps : List Pid) → length ps ≡ 0 → flat_map (mark x) ps ≡ []
no_marks x [] none = refl
no_marks x (p ∷ ps) none = absurd (omega (arith, none))

-- if only the last lane can be an end, the others have bars
pub run_marks : (x : ChartedItem) (ps others : List Pid) (last : Pid)
    → HasNoEndBeforeLast x.event ps
    → ps ≡ others ++ last ∷ [] → bars (length others) ++ mark x last ≡ flat_map (mark x) ps
run_marks x ps others last clear is =
    ap (λ (t : List ℕ). t ++ mark x last) (sym (bars_are x others (clear others last is)))
    ∙ ap (λ (t : List ℕ). flat_map (mark x) others ++ t) (sym (append-nil (mark x last)))
    ∙ sym (flat_map-append (mark x) others (last ∷ [])) ∙ ap (flat_map (mark x)) (sym is)
