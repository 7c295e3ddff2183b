-- For the parts alone: the walks over a stretch.
use Rattle.std.specs.Prelude.{ℕ, ◌≤◌, ◌==◌, Bool, true, false, List, All}
use Rattle.lack_search.specs.declared.walk.Next.{Next}
use Rattle.lack_search.specs.declared.walk.Next.TheVariants as next
use Rattle.lack_search.specs.declared.walk.StretchSend.{StretchSend}

-- the next event may be at the gap, if its last place is the limit
abbrev pub may_stand_at : Next → ℕ → ℕ → Bool
may_stand_at next.Nothing gap limit = false
may_stand_at (next.Send prev) gap limit = true
may_stand_at (next.Stamp prev) gap limit = gap == limit

-- no send is past the gap
abbrev pub AreWithin : ℕ → List StretchSend → Type 0
AreWithin end sends = All (λ send. send.gap ≤ end) sends
