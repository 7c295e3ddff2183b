-- The last place that waits is the next one: taking it off adds it to the nodes found, and its
-- children, the last one first, take its place. So the nodes found and what is below the places
-- that wait are always the whole tree. With one more level a tree is longer by one than those of
-- its children, so the loop ends.
use Rattle.std.proofs.Common.{◌≡◌, ℕ, ◌+◌, ◌-◌, ◌<◌, ◌≤◌, ◌==◌, ◌||◌, suc, Bool, true, false, cond}
use Rattle.std.proofs.Common.{List, [], ◌∷◌, ◌++◌, length, map, drop, drop-cons, get_or, reverse}
use Rattle.std.proofs.Common.{refl, sym, ◌∙◌, ap, arith, append_assoc}
use Rattle.std.specs.List.{flat_map}
use Rattle.std.proofs.lemmas.Grind.{flat_map-append}
use Rattle.std.proofs.lemmas.List.{map-append, reverse-append, reverse-reverse}
use Rattle.st_core.specs.declared.types.Pid.{Pid}
use Rattle.st_core.specs.declared.types.Label.{Label}
use Rattle.st_core.specs.declared.types.Event.{Event}
use Rattle.st_core.specs.Run.{Stream}
use Rattle.node_hops.specs.declared.node.Node.{Node}
use Rattle.node_hops.specs.Way.{node}
use Rattle.node_hops.specs.Tree.{children, places_of, tree}

-- WHAT WAITS

popped : {A B : Type 0} (f : A → List B) (waiting before : List A) (x : A)
    → waiting ≡ before ++ x ∷ []
    → flat_map f (reverse waiting) ≡ f x ++ flat_map f (reverse before)
popped {A} {B} f waiting before x is =
    ap (λ xs. flat_map f (reverse xs)) is ∙ ap (flat_map f) (reverse-append before (x ∷ []))

pushed : {A B : Type 0} (f : A → List B) (before more : List A)
    → flat_map f (reverse (before ++ reverse more)) ≡ flat_map f more ++ flat_map f (reverse before)
pushed {A} {B} f before more =
    ap (flat_map f) (reverse-append before (reverse more)
    ∙ ap (λ xs. xs ++ reverse before) (reverse-reverse more))
    ∙ flat_map-append f more (reverse before)

flat_map-map : {A B C : Type 0} (f : B → List C) (g : A → B) (xs : List A)
    → flat_map f (map g xs) ≡ flat_map (λ x. f (g x)) xs
flat_map-map {A} {B} {C} f g [] = refl
flat_map-map {A} {B} {C} f g (x ∷ xs) = ap (λ ys. f (g x) ++ ys) (flat_map-map f g xs)

module _ (streams : List Stream) (across : Bool) (most : ℕ) where
  -- the tree below a node, with the node
  abbrev pub below : Node → List Node
  below w = tree streams across (most - w.depth) w.depth w.place

  -- the tree with one more level, so that it isn't empty
  abbrev pub weight : Node → List Node
  weight w = tree streams across (suc (most - w.depth)) w.depth w.place

  -- the tree below a node is the node and the trees below its children
  below_is : (w : Node) → w.depth < most
      → below w ≡ w ∷ flat_map below (map (λ x. node (w.depth + 1) x)
      (children streams across w.place))
  below_is w less =
      let levels : most - w.depth ≡ suc (most - (w.depth + 1)) = omega arith in
      ap (λ n. tree streams across n w.depth w.place) levels
      ∙ ap (λ xs. w ∷ xs)
      (sym (flat_map-map below (λ x. node (w.depth + 1) x) (children streams across w.place)))

  weight_is : (w : Node) → w.depth < most
      → weight w ≡ w ∷ flat_map weight (map (λ x. node (w.depth + 1) x)
      (children streams across w.place))
  weight_is w less =
      let levels : most - w.depth ≡ suc (most - (w.depth + 1)) = omega arith in
      ap (λ n. tree streams across (suc n) w.depth w.place) levels
      ∙ ap (λ xs. w ∷ xs)
      (sym (flat_map-map weight (λ x. node (w.depth + 1) x) (children streams across w.place)))

  module _ (waiting before after : List Node) (w : Node) (is : waiting ≡ before ++ w ∷ []) where
    -- the node is found, and its children wait
    pub found : (nodes total : List Node) → w.depth < most
        → after ≡ before ++ reverse (map (λ x. node (w.depth + 1) x)
        (children streams across w.place))
        → nodes ++ flat_map below (reverse waiting) ≡ total
        → (nodes ++ w ∷ []) ++ flat_map below (reverse after) ≡ total
    found nodes total less then far =
        let more = map (λ x. node (w.depth + 1) x) (children streams across w.place) in
        let rest = flat_map below (reverse before) in
        append_assoc nodes (w ∷ []) (flat_map below (reverse after))
        ∙ ap (λ xs. nodes ++ w ∷ flat_map below (reverse xs)) then
        ∙ ap (λ xs. nodes ++ w ∷ xs) (pushed below before more)
        ∙ ap (λ xs. nodes ++ (xs ++ rest)) (sym (below_is w less))
        ∙ ap (λ xs. nodes ++ xs) (sym (popped below waiting before w is))
        ∙ far

    -- the node is past the last level
    pub passed : (nodes total : List Node) → most ≤ w.depth
        → nodes ++ flat_map below (reverse waiting) ≡ total
        → nodes ++ flat_map below (reverse before) ≡ total
    passed nodes total past far =
        let none : most - w.depth ≡ 0 = omega arith in
        ap (λ n. nodes ++ (tree streams across n w.depth w.place
        ++ flat_map below (reverse before))) (sym none)
        ∙ ap (λ xs. nodes ++ xs) (sym (popped below waiting before w is)) ∙ far

    pub found_smaller : w.depth < most
        → after ≡ before ++ reverse (map (λ x. node (w.depth + 1) x)
        (children streams across w.place))
        → length (flat_map weight (reverse after)) < length (flat_map weight (reverse waiting))
    found_smaller less then =
        let more = map (λ x. node (w.depth + 1) x) (children streams across w.place) in
        let rest = flat_map weight (reverse before) in
        let now : length (flat_map weight (reverse after)) ≡ length (flat_map weight more ++ rest) =
        ap (λ xs. length (flat_map weight (reverse xs))) then
        ∙ ap length (pushed weight before more) in
        let was : length (flat_map weight (reverse waiting))
        ≡ suc (length (flat_map weight more ++ rest)) =
        ap length (popped weight waiting before w is)
        ∙ ap (λ xs. length (xs ++ rest)) (weight_is w less) in
        omega arith

-- ROWS

module _ (all : Bool) (p : Pid) (label : Label) (first depth : ℕ) where
  -- the places from offset k of the row on, as nodes, the last one first
  abbrev pub behind : ℕ → List Event → List Node
  behind k row = reverse (map (λ x. node depth x) (places_of all p label (first + k) (drop k row)))

  -- one place more comes last, if it is wanted
  one_before : (row : List Event) (k : ℕ) (d : Event) → k < length row → (b : Bool)
      → (let e : Event = get_or row k d in all || e.label.0 == label.0) ≡ b
      → behind k row ≡ behind (suc k) row ++ cond b (node depth (p, first + k) ∷ []) []
  one_before row k d within b is =
      let e = get_or row k d in
      let f = λ (x : Pid × ℕ). node depth x in
      let rest = drop (suc k) row in
      let front = λ (c : Bool). (let xs : List (Pid × ℕ) = cond c ((p, first + k) ∷ []) [] in xs) in
      let number : first + k + 1 ≡ first + suc k = omega arith in
      let later = places_of all p label (first + suc k) rest in
      ap (λ es. reverse (map f (places_of all p label (first + k) es))) (drop-cons row k d within)
      ∙ ap (λ c. reverse (map f (front c ++ places_of all p label (first + k + 1) rest))) is
      ∙ ap (λ n. reverse (map f (front b ++ places_of all p label n rest))) number
      ∙ ap reverse (map-append f (front b) later)
      ∙ reverse-append (map f (front b)) (map f later)
      ∙ (elim b as (λ c. reverse (map f later) ++ reverse (map f (front c))
      ≡ reverse (map f later) ++ cond c (node depth (p, first + k)
      ∷ []) []) [ true ↦ refl | false ↦ refl ])

  pub row_added : (row : List Event) (left k : ℕ) (d : Event) (initial waiting after : List Node)
      → left ≡ suc k
      → left ≤ length row → (let e : Event = get_or row k d in all || e.label.0 == label.0) ≡ true
      → after ≡ waiting ++ node depth (p, first + k) ∷ [] → waiting ≡ initial ++ behind left row
      → after ≡ initial ++ behind k row
  row_added row left k d initial waiting after number within wanted then far =
      then ∙ ap (λ xs. xs ++ node depth (p, first + k) ∷ [])
      (far ∙ ap (λ n. initial ++ behind n row) number)
      ∙ append_assoc initial (behind (suc k) row) (node depth (p, first + k) ∷ [])
      ∙ ap (λ xs. initial ++ xs) (sym (one_before row k d (omega arith) true wanted))
