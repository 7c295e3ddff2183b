-- A pid is a node and a number (own profile).
use Rattle.std.specs.Prelude.{◌≡◌, ℕ, Bool, ◌==◌, ◌&&◌, List, [], ◌∷◌}
use Rattle.std.specs.List.{AllByRecursion}
use Rattle.std.specs.declared.cmp.Ordering.{Ordering}
use Rattle.std.specs.declared.cmp.Ordering.TheVariants.{Less}
use Rattle.std.specs.Ordering.{nat_cmp, ordering_then}
use Rattle.st_core.specs.declared.types.Pid.{Pid}

-- the pid of the process with this number on this node (own)
abbrev pub pid_on : ℕ → ℕ → Pid
pid_on node number = record { node = node; number = number }

-- the node of p (own)
abbrev pub node_of : Pid → ℕ
node_of p = p.node

-- the number of p on its node (own)
abbrev pub number_of : Pid → ℕ
number_of p = p.number

-- p and q are one process
abbrev pub pid_eq : Pid → Pid → Bool
pid_eq p q = p.node == q.node && p.number == q.number

-- p and q are on one node
abbrev pub node_eq : Pid → Pid → Bool
node_eq p q = p.node == q.node

-- compares pids by node, then by number (own)
abbrev pub pid_cmp : Pid → Pid → Ordering
pid_cmp p q = ordering_then (nat_cmp p.node q.node) (nat_cmp p.number q.number)

-- p comes before q (own)
abbrev pub IsBelow : Pid → Pid → Type 0
IsBelow p q = pid_cmp p q ≡ Less

-- the pids rise strictly: the first is below all the others, and the others rise (own)
abbrev pub IsRising : List Pid → Type 0
IsRising [] = Unit {0}
IsRising (p ∷ ps) = AllByRecursion (IsBelow p) ps × IsRising ps
