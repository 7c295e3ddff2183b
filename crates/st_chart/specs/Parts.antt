-- What an item adds to a chart if it has the label, and the marks of lanes at which nothing
-- happened.
use Rattle.std.specs.Prelude.{◌≡◌, ◌≢◌, ℕ, zero, suc, ◌+◌, ◌<◌, ◌≤◌, Bool, false, List, [], ◌∷◌}
use Rattle.std.specs.Prelude.{◌++◌, length, get_or, take, drop, Option, Some, None, codes}
use Rattle.std.specs.List.{list_any}
use Rattle.st_core.specs.declared.types.Pid.{Pid}
use Rattle.st_core.specs.declared.types.Label.{Label}
use Rattle.st_core.specs.declared.types.Event.{Event}
use Rattle.st_core.specs.Pid.{pid_eq}
use Rattle.st_core.specs.Run.{Stream}
use Rattle.st_order.specs.declared.item.Item.{Item}
use Rattle.st_chart.specs.Chart.{charted_of, is_end, item_line}

-- the item has the label, and p is an end of its event
abbrev pub is_end_in : List Stream → Label → Pid → Item → Bool
is_end_in streams label p x =
    elim (charted_of streams label x) [ None ↦ false | Some c ↦ is_end c.event p ]

-- the item's line, if it has the label
abbrev pub line_in : List Stream → Label → List Stream → List Pid → Item → List ℕ
line_in streams label caused ps x =
    elim (charted_of streams label x) [ None ↦ [] | Some c ↦ item_line caused ps c ]

-- the marks of n lanes that aren't an end of the item
abbrev pub bars : ℕ → List ℕ
bars zero = []
bars (suc n) = codes "   |" ++ bars n

-- no lane but the n-th, counted from 1, is the process's, if there is a process
abbrev pub IsNoOther : Option Pid → List Pid → ℕ → Type 0
IsNoOther None ps n = Unit {0}
IsNoOther (Some p) ps n =
    (i : ℕ) (d : Pid) → i < length ps → i + 1 ≢ n → pid_eq p (get_or ps i d) ≡ false

-- no lane before the last is an end of the event
abbrev pub HasNoEndBeforeLast : Event → List Pid → Type 0
HasNoEndBeforeLast e ps = (others : List Pid) (last : Pid) → ps ≡ others ++ last ∷ []
    → list_any (is_end e) others ≡ false

-- the lanes, cut after the m-th and after the n-th: no part has an end of the event before its
-- last lane
pub record AreCutAtEnds (e : Event) (ps : List Pid) (m n : ℕ) : Type 0 where
  pub rise : m ≤ n
  pub within : n ≤ length ps
  pub left : HasNoEndBeforeLast e (take m (take n ps))
  pub middle : HasNoEndBeforeLast e (drop m (take n ps))
  pub right : HasNoEndBeforeLast e (drop n ps)
