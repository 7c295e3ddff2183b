-- The nodes are made in the order of the pids. Each pid is on the node made last or is the first
-- on a new node, since the processes of a node are neighbours.
use Rattle.std.proofs.Common.{◌≡◌, ℕ, ◌+◌, ◌-◌, ◌<◌, ◌≤◌, zero, suc, false, List, [], ◌∷◌, ◌++◌}
use Rattle.std.proofs.Common.{length, get_or, map, inl, inr, refl, sym, ◌∙◌, ap, subst, arith}
use Rattle.std.proofs.lemmas.Bool.{cases_eq}
use Rattle.std.proofs.lemmas.List.{get_or_append_left, get_or_push, length_push}
use Rattle.st_core.specs.declared.types.Pid.{Pid}
use Rattle.st_core.specs.Pid.{node_of}
use Rattle.st_world.specs.declared.node.Node.{Node}
use Rattle.st_world.specs.Nodes.{Groups, no_node, AreByNode, AreGroups, IsListed, IsPlaced}
use Rattle.st_world.specs.Rows.{IsNodeRange}
use Rattle.st_world.proofs.Groups.{full_list}
use Rattle.st_world.proofs.Pids.{cases_lt}

-- the node of process i
abbrev on : List ℕ → List Node → ℕ → Node
on places nodes i = get_or nodes (get_or places i 0) no_node

-- the first n processes have their places, and the last node made ends at `after`
pub record AreMade (pids : List Pid) (n after : ℕ) (places : List ℕ) (nodes : List Node) : Type 0
  where
    pub len : length places ≡ n
    pub within : (i : ℕ) → i < n → get_or places i 0 < length nodes
    pub range : (i : ℕ) (d : Pid) → i < n
        → IsNodeRange (node_of (get_or pids i d)) pids (on places nodes i).start
        (on places nodes i).end
    pub same : (i j : ℕ) (d : Pid) → i < n → j < n
        → node_of (get_or pids i d) ≡ node_of (get_or pids j d)
        → get_or places i 0 ≡ get_or places j 0
    pub before : (i : ℕ) → i < n → (on places nodes i).end ≤ after
    pub last : (i : ℕ) → i + 1 ≡ n → (get_or places i 0 + 1 ≡ length nodes)
        × ((on places nodes i).end ≡ after)
    pub full : (i : ℕ) → i < n → (on places nodes i).listed ≡ (on places nodes i).end
    pub untraced : (k : ℕ) → get_or (map (λ (m : Node). m.traced) nodes) k false ≡ false
    pub to : n ≤ after
    pub none : n ≡ 0 → after ≡ 0

pub upto : (P : ℕ → Type 0) (n : ℕ) → ((i : ℕ) → i < n → P i) → P n → (i : ℕ) → i < n + 1 → P i
upto P n below last i h = elim (cases_eq i n) [
  | inl e ↦ subst P (sym e) last
  | inr other ↦ below i (omega (arith, other))
]

-- each process of the node is in its range
inside : (m : ℕ) (pids : List Pid) (start end i : ℕ) (d : Pid) → IsNodeRange m pids start end
    → i < length pids
    → node_of (get_or pids i d) ≡ m → (start ≤ i) × (i < end)
inside m pids start end i d range h is = (
  elim (cases_lt i start) [
    | inl lt ↦ absurd (omega (arith, range.before i d lt, is))
    | inr le ↦ le
  ],
  elim (cases_lt i end) [
    | inl lt ↦ lt
    | inr le ↦ absurd (omega (arith, range.after i d le h, is))
  ],
)

-- ONE MORE PROCESS

module _ (pids : List Pid) (n after : ℕ) (places : List ℕ) (nodes : List Node)
    (made : AreMade pids n after places nodes) (h : n < length pids) (k : ℕ) where
  old_place : (i : ℕ) → i < n → get_or (places ++ k ∷ []) i 0 ≡ get_or places i 0
  old_place i below = get_or_append_left places (k ∷ []) 0 i (omega (arith, made.len))

  new_place : get_or (places ++ k ∷ []) n 0 ≡ k
  new_place = get_or_push places k 0 n made.len

  -- process i is on the node of an earlier process
  record IsWith (i : ℕ) : Type 0 where
    process : ℕ
    below : process < n
    place : get_or (places ++ k ∷ []) i 0 ≡ get_or places process 0
    node : (d : Pid) → node_of (get_or pids i d) ≡ node_of (get_or pids process d)

  module _ (less : n < after) (last_place : k + 1 ≡ length nodes) where
    some : 0 < n
    some = elim (cases_eq n 0) [
      | inl e ↦ absurd (omega (arith, made.none e, less))
      | inr other ↦ omega (arith, other)
    ]

    -- the process is on the node made last, as the process before it is
    is_with : IsWith n
    is_with =
        let b : ℕ = n - 1 in
        let eb : b + 1 ≡ n = omega (arith, some) in
        let below : b < n = omega arith in
        let last = made.last b eb in
        record {
          process = b;
          below = below;
          place = new_place ∙ omega (arith, last.0, last_place);
          node = λ d.
              let range = made.range b d below in
              let m : ℕ = node_of (get_or pids b d) in
              let within =
              inside m pids (on places nodes b).start (on places nodes b).end b d range
              (omega arith) refl in
              range.on n d (omega (arith, within.0)) (omega (arith, last.1, less));
        }

    all_with : (i : ℕ) → i < n + 1 → IsWith i
    all_with = upto IsWith n (λ i below. record {
      process = i;
      below = below;
      place = old_place i below;
      node = λ d. refl;
    }) is_with

    node_with : (i : ℕ) (w : IsWith i) → on (places ++ k ∷ []) nodes i ≡ on places nodes w.process
    node_with i w = ap (λ j. get_or nodes j no_node) w.place

    pub more_same : AreMade pids (n + 1) after (places ++ k ∷ []) nodes
    unfolding is_with
    more_same = record {
      len = length_push places k ∙ ap (λ m. m + 1) made.len;
      within = λ i below. let w = all_with i below in
          omega (arith, w.place, made.within w.process w.below);
      range = λ i d below.
          let w = all_with i below in
          let m : ℕ = node_of (get_or pids i d) in
          let old = subst (λ x. IsNodeRange x pids (on places nodes w.process).start
          (on places nodes w.process).end)
          (sym (w.node d)) (made.range w.process d w.below) in
          subst (λ (x : Node). IsNodeRange m pids x.start x.end) (sym (node_with i w)) old;
      same = λ i j d one other e.
          let w = all_with i one in
          let v = all_with j other in
          w.place ∙ made.same w.process v.process d w.below v.below (sym (w.node d) ∙ e ∙ v.node d)
          ∙ sym v.place;
      before = λ i below.
          let w = all_with i below in
          subst (λ (x : Node). x.end ≤ after) (sym (node_with i w)) (made.before w.process w.below);
      last = λ i e.
          let here : i ≡ n = omega (arith, e) in
          let b : ℕ = n - 1 in
          let old = made.last b (omega (arith, some)) in
          subst (λ j. (get_or (places ++ k ∷ []) j 0 + 1 ≡ length nodes) ×
          ((on (places ++ k ∷ []) nodes j).end ≡ after))
          (sym here) (
            omega (arith, new_place, last_place),
            ap (λ (x : Node). x.end) (node_with n is_with)
                ∙ old.1,
          );
      full = λ i below.
          let w = all_with i below in
          subst (λ (x : Node). x.listed ≡ x.end) (sym (node_with i w))
          (made.full w.process w.below);
      untraced = made.untraced;
      to = omega (arith, less);
      none = λ e. absurd (omega (arith, e));
    }

untraced_push : (nodes : List Node) (x : Node) → x.traced ≡ false
    → ((k : ℕ) → get_or (map (λ (m : Node). m.traced) nodes) k false ≡ false)
    → (k : ℕ) → get_or (map (λ (m : Node). m.traced) (nodes ++ x ∷ [])) k false ≡ false
untraced_push [] x new old zero = new
untraced_push [] x new old (suc k) = refl
untraced_push (y ∷ ys) x new old zero = old 0
untraced_push (y ∷ ys) x new old (suc k) = untraced_push ys x new (λ j. old (suc j)) k

-- the process is the first on its node
pub more_new : (pids : List Pid) (n : ℕ) (places : List ℕ) (nodes : List Node) (k start end : ℕ)
    → AreMade pids n n places nodes → n < length pids → k ≡ length nodes
    → ((d : Pid) → IsNodeRange (node_of (get_or pids n d)) pids start end)
    → AreMade pids (n + 1) end (places ++ k ∷ [])
    (nodes ++ record { start = start; end = end; listed = end; traced = false } ∷ [])
more_new pids n places nodes k start end made h last_place range =
    let x : Node = record { start = start; end = end; listed = end; traced = false } in
    let more : List ℕ = places ++ k ∷ [] in
    let all : List Node = nodes ++ x ∷ [] in
    let p : Pid = record { node = 0; number = 0 } in
    let ends : n < end = (inside (node_of (get_or pids n p)) pids start end n p (range p) h
    refl).1 in
    let old_at = old_place pids n n places nodes made h k in
    let new_at = new_place pids n n places nodes made h k in
    let old : (i : ℕ) → i < n → on more all i ≡ on places nodes i =
    λ i below.
    ap (λ j. get_or all j no_node) (old_at i below)
    ∙ get_or_append_left nodes (x ∷ []) no_node (get_or places i 0) (made.within i below) in
    let new : on more all n ≡ x =
    ap (λ j. get_or all j no_node) new_at ∙ get_or_push nodes x no_node k (sym last_place) in
    let apart : (i : ℕ) (d : Pid) → i < n → node_of (get_or pids n d) ≡ node_of (get_or pids i d)
    → ⊥ =
    λ i d below e.
    let at = inside (node_of (get_or pids i d)) pids (on places nodes i).start
    (on places nodes i).end n d
    (made.range i d below) h e in
    omega (arith, at.1, made.before i below) in
    record {
      len = length_push places k ∙ ap (λ m. m + 1) made.len;
      within = upto (λ i. get_or more i 0 < length all) n
          (λ i below. omega (arith, old_at i below, made.within i below, length_push nodes x))
          (omega (arith, new_at, last_place, length_push nodes x));
      range = λ i d below.
          upto (λ j. IsNodeRange (node_of (get_or pids j d)) pids (on more all j).start
          (on more all j).end) n
          (λ j lower.
          subst (λ (y : Node). IsNodeRange (node_of (get_or pids j d)) pids y.start y.end)
          (sym (old j lower))
          (made.range j d lower))
          (subst (λ (y : Node). IsNodeRange (node_of (get_or pids n d)) pids y.start y.end)
          (sym new) (range d))
          i below;
      same = λ i j d one other e.
          elim (cases_eq i n) [
            | inl at ↦ elim (cases_eq j n) [
              | inl too ↦ ap (λ m. get_or more m 0) (at ∙ sym too)
              | inr lower ↦
                  absurd (apart j d (omega (arith, lower))
                  (ap (λ m. node_of (get_or pids m d)) (sym at) ∙ e))
            ]
            | inr below ↦ elim (cases_eq j n) [
              | inl too ↦
                  absurd (apart i d (omega (arith, below))
                  (ap (λ m. node_of (get_or pids m d)) (sym too) ∙ sym e))
              | inr lower ↦
                  let a : i < n = omega (arith, below) in
                  let b : j < n = omega (arith, lower) in
                  old_at i a ∙ made.same i j d a b e ∙ sym (old_at j b)
            ]
          ];
      before = upto (λ i. (on more all i).end ≤ end) n
          (λ i below.
          subst (λ (y : Node). y.end ≤ end) (sym (old i below))
          (omega (arith, made.before i below, ends)))
          (subst (λ (y : Node). y.end ≤ end) (sym new) (omega arith));
      last = λ i e.
          let here : i ≡ n = omega (arith, e) in
          subst (λ j. (get_or more j 0 + 1 ≡ length all) × ((on more all j).end ≡ end)) (sym here)
          (omega (arith, new_at, last_place, length_push nodes x), ap (λ (y : Node). y.end) new);
      full = upto (λ i. (on more all i).listed ≡ (on more all i).end) n
          (λ i below. subst (λ (y : Node). y.listed ≡ y.end) (sym (old i below))
          (made.full i below))
          (subst (λ (y : Node). y.listed ≡ y.end) (sym new) refl);
      untraced = untraced_push nodes x refl made.untraced;
      to = omega (arith, ends);
      none = λ e. absurd (omega (arith, e));
    }

-- ALL PROCESSES

module _ (pids : List Pid) (after : ℕ) (places : List ℕ) (nodes : List Node) (slots : List ℕ)
    (made : AreMade pids (length pids) after places nodes) (slots_len : length slots ≡ length pids)
    (own : (slot : ℕ) → slot < length pids → get_or slots slot 0 ≡ slot) where
  abbrev All : Groups
  All = record { places = places; nodes = nodes; slots = slots }

  none : Pid
  none = record { node = 0; number = 0 }

  in_own : (i : ℕ) (d : Pid) → i < length pids → ((on places nodes i).start ≤ i)
      × (i < (on places nodes i).end)
  in_own i d h =
      inside (node_of (get_or pids i d)) pids (on places nodes i).start (on places nodes i).end i d
      (made.range i d h)
      h refl

  pub made_by_node : AreByNode pids places
  made_by_node = record {
    len = made.len;
    same = made.same;
    apart = λ i j d one other e.
        let within = in_own j d other in
        let node : on places nodes j ≡ on places nodes i =
        ap (λ k. get_or nodes k no_node) (sym e) in
        sym ((made.range i d one).on j d (omega (arith, within.0, ap (λ (x : Node). x.start) node))
        (omega (arith, within.1, ap (λ (x : Node). x.end) node)));
  }

  placed_all : (i : ℕ) → i < length places → IsPlaced All i
  placed_all i h =
      let below : i < length pids = omega (arith, made.len) in
      let range = made.range i none below in
      let within = in_own i none below in
      record {
        place = made.within i below;
        start = within.0;
        end = within.1;
        within = omega (arith, range.within, made.len);
        same = λ j first last.
            made.same j i none (omega (arith, last, range.within)) below
            (range.on j none first last);
        from = omega (arith, range.ends, made.full i below);
        listed = omega (arith, made.full i below);
      }

  pub made_groups : AreGroups All
  made_groups = record {
    len = slots_len ∙ sym made.len;
    placed = placed_all;
    slots = λ slot h.
        let is = own slot (omega (arith, made.len)) in
        record { within = omega (arith, is); same = ap (λ t. get_or places t 0) is };
  }

  pub made_listed : (i : ℕ) → i < length pids → IsListed All i
  made_listed i h =
      let within = in_own i none h in
      full_list (on places nodes i).start slots (on places nodes i) i (made.full i h) within.0
      within.1
