-- Wiping a node's processes one by one comes to the node's reset once each of them is clean, since
-- a reset has the same result for a process and for the wiped process, and leaves clean ones.
use Rattle.std.proofs.Common.{◌≡◌, ℕ, ◌+◌, ◌<◌, ◌≤◌, ◌==◌, zero, suc, Bool, true, false, List, []}
use Rattle.std.proofs.Common.{◌∷◌, Some, None, ◌⊎◌, inl, inr, length, map, get_or, set, slice_get}
use Rattle.std.proofs.Common.{refl, sym, ◌∙◌, ap, subst, arith}
use Rattle.std.proofs.lemmas.Bool.{cases_eq, eq-eqb, eqb-true}
use Rattle.std.proofs.lemmas.List.{get_or_default, get_or-set_same, get_or-set_other}
use Rattle.std.proofs.lemmas.Option.{same_Some, get_or_from_slice_get}
use Rattle.std.proofs.Math.Seq.{map-set_same}
use Rattle.st_core.specs.declared.types.Pid.{Pid}
use Rattle.st_core.specs.declared.types.Message.{Message}
use Rattle.st_core.specs.declared.types.Act.TheVariants as act
use Rattle.st_core.specs.Local.{wiped}
use Rattle.st_core.specs.State.{LocalState, Process, State, zero_local}
use Rattle.st_core.specs.Step.{reached, untraced}
use Rattle.st_mail.specs.Actor.{process_of}
use Rattle.st_world.specs.declared.node.Node.{Node}
use Rattle.st_world.specs.Nodes.{Groups, no_node, node_at, process_in, IsListedFrom, IsClean}
use Rattle.st_world.specs.Nodes.{IsCleanOrListed, AreGroups}
use Rattle.st_world.specs.Rows.{state_of}
use Rattle.st_world.proofs.Groups.{full_in, part_in}
use Rattle.st_world.proofs.RowLemmas.{at_rows, set_rows}

-- ONE PROCESS

untraced_again : (ms : List Message) → map untraced (map untraced ms) ≡ map untraced ms
untraced_again [] = refl
untraced_again (m ∷ ms) = ap (λ ns. untraced m ∷ ns) (untraced_again ms)

-- a wiped process is clean, and each clean process stays clean
pub clean_here : (ls : List LocalState) (bs : List (List Message)) (n : ℕ) (l : LocalState)
    (b : List Message)
    → n < length ls → n < length bs → IsClean (set ls n (wiped l)) (set bs n (map untraced b)) n
clean_here ls bs n l b local queue = record {
  local = rw (get_or-set_same ls n (wiped l) zero_local local) refl;
  queue = rw (get_or-set_same bs n (map untraced b) [] queue) (untraced_again b);
}

pub clean_still : (ls : List LocalState) (bs : List (List Message)) (n i : ℕ) (l : LocalState)
    (b : List Message)
    → n < length ls → n < length bs → IsClean ls bs i
    → IsClean (set ls n (wiped l)) (set bs n (map untraced b)) i
clean_still ls bs n i l b local queue clean = elim (cases_eq i n) [
  | inl e ↦ rw e (clean_here ls bs n l b local queue)
  | inr other ↦ record {
    local = rw (get_or-set_other ls n i (wiped l) zero_local other) clean.local;
    queue = rw (get_or-set_other bs n i (map untraced b) [] other) clean.queue;
  }
]

-- a reset leaves a process on another node, and wipes one on the node
other_reset : (me : Pid) (r : Process) → (r.pid.node == me.node) ≡ false
    → reached (act.Reset me) None r ≡ r
other_reset me r h = rw h refl

on_reset : (me p : Pid) (l : LocalState) (b : List Message) → p.node ≡ me.node
    → reached (act.Reset me) None (process_of p l b) ≡ process_of p (wiped l) (map untraced b)
on_reset me p l b h = rw (eq-eqb p.node me.node h) refl

-- a reset has the same result for a process and for the wiped process
reset_again : (me p : Pid) (l : LocalState) (b : List Message) → p.node ≡ me.node
    → reached (act.Reset me) None (process_of p (wiped l) (map untraced b))
    ≡ reached (act.Reset me) None (process_of p l b)
reset_again me p l b h =
    on_reset me p (wiped l) (map untraced b) h
    ∙ ap (process_of p (wiped l)) (untraced_again b)
    ∙ sym (on_reset me p l b h)

-- a reset leaves a process that is clean or on another node
fixed_if : (me p : Pid) (l : LocalState) (b : List Message) (t : Bool) → (p.node == me.node) ≡ t
    → (p.node ≡ me.node → (wiped l ≡ l) × (map untraced b ≡ b))
    → reached (act.Reset me) None (process_of p l b) ≡ process_of p l b
fixed_if me p l b true e clean =
    let on : p.node ≡ me.node = eqb-true p.node me.node e in
    let is = clean on in
    on_reset me p l b on ∙ ap (λ x. process_of p x (map untraced b)) is.0 ∙ ap (process_of p l) is.1
fixed_if me p l b false e clean = other_reset me (process_of p l b) e

-- ALL PROCESSES

map_fixed : (f : Process → Process) (s : State)
    → ((i : ℕ) (r : Process) → slice_get s i ≡ Some r → f r ≡ r) → map f s ≡ s
map_fixed f [] same = refl
map_fixed f (r ∷ s) same = rw (same 0 r refl, map_fixed f s (λ i x at. same (suc i) x at)) refl

row_within : (ps : List Pid) (ls : List LocalState) (bs : List (List Message)) (i : ℕ) (r : Process)
    → slice_get (state_of ps ls bs) i ≡ Some r → i < length ps
row_within (p ∷ ps) (l ∷ ls) (b ∷ bs) zero r at = omega arith
row_within (p ∷ ps) (l ∷ ls) (b ∷ bs) (suc i) r at = let rest = row_within ps ls bs i r at in
    omega (arith, rest)
row_within ps ls bs i r at = absurd (cc)

module _ (ps : List Pid) (ls : List LocalState) (bs : List (List Message))
    (locals_len : length ls ≡ length ps) (queues_len : length bs ≡ length ps) where
  -- the process at a number of the rows
  row_at : (i : ℕ) (d : Pid) → i < length ps
      → slice_get (state_of ps ls bs) i
      ≡ Some (process_of (get_or ps i d) (get_or ls i zero_local) (get_or bs i []))
  row_at i d h =
      let p : Pid = get_or ps i d in
      let l : LocalState = get_or ls i zero_local in
      let b : List Message = get_or bs i [] in
      at_rows ps ls bs i p l b locals_len queues_len h (get_or_default ps i d p h)
      (get_or_default ls i zero_local l (omega arith)) (get_or_default bs i [] b (omega arith))

  -- wiping one process on the node first changes nothing in the reset
  pub wiped_one : (me : Pid) (n : ℕ) (l : LocalState) → n < length ps
      → (get_or ps n me).node ≡ me.node
      → l ≡ get_or ls n l
      → map (reached (act.Reset me) None)
      (state_of ps (set ls n (wiped l)) (set bs n (map untraced (get_or bs n []))))
      ≡ map (reached (act.Reset me) None) (state_of ps ls bs)
  wiped_one me n l h on el =
      let f : Process → Process = reached (act.Reset me) None in
      let s : State = state_of ps ls bs in
      let p : Pid = get_or ps n me in
      let b : List Message = get_or bs n [] in
      let r : Process = process_of p l b in
      let ep : p ≡ get_or ps n p = get_or_default ps n me p h in
      let eb : b ≡ get_or bs n b = get_or_default bs n [] b (omega arith) in
      let here : get_or s n r ≡ r =
      get_or_from_slice_get s n r r (at_rows ps ls bs n p l b locals_len queues_len h ep el eb) in
      ap (map f) (set_rows ps ls bs n p (wiped l) (map untraced b) locals_len queues_len h ep)
      ∙ map-set_same f s n (process_of p (wiped l) (map untraced b)) r
      (reset_again me p l b on ∙ ap f (sym here))

  -- a reset leaves a state whose processes on the node are clean
  pub clean_node : (me : Pid)
      → ((i : ℕ) → i < length ps → (get_or ps i me).node ≡ me.node → IsClean ls bs i)
      → map (reached (act.Reset me) None) (state_of ps ls bs) ≡ state_of ps ls bs
  clean_node me clean = map_fixed (reached (act.Reset me) None) (state_of ps ls bs) (λ i r at.
      let h = row_within ps ls bs i r at in
      let p : Pid = get_or ps i me in
      let l : LocalState = get_or ls i zero_local in
      let b : List Message = get_or bs i [] in
      let is : process_of p l b ≡ r = same_Some (process_of p l b) r (sym (row_at i me h) ∙ at) in
      let fixed = fixed_if me p l b (p.node == me.node) refl
      (λ on. let c = clean i h on in (c.local, c.queue)) in
      subst (λ (x : Process). reached (act.Reset me) None x ≡ x) is fixed)

-- THE LIST OF A NODE, SLOT BY SLOT

-- n is the node of the process `number`
module _ (g : Groups) (number : ℕ) (n : Node) (inv : AreGroups g) (h : number < length g.places)
    (is : n ≡ node_at g number) where
  -- each listed process is on the node
  pub in_node : (t : ℕ) → n.start ≤ t → t < n.listed
      → (process_in g.slots n t < length g.places)
      × (get_or g.places (process_in g.slots n t) 0 ≡ get_or g.places number 0)
  in_node t from below =
      let placed = inv.placed number h in
      let s : (node_at g number).start ≤ t = omega (arith, ap (λ (m : Node). m.start) is) in
      let e : t < (node_at g number).end =
      omega (arith, placed.listed, ap (λ (m : Node). m.listed) is, ap (λ (m : Node). m.end) is) in
      let within : t < length g.places = omega (arith, placed.within) in
      let same = placed.same t s e in
      elim (cases_eq n.listed n.end) [
        | inl full ↦ rw (full_in g.slots n t full) (within, same)
        | inr part ↦
            let slot = inv.slots t within in
            let less : n.listed < n.end =
            omega (
              arith,
              part,
              placed.listed,
              ap (λ (m : Node). m.listed) is,
              ap (λ (m : Node). m.end) is,
            ) in
            rw (part_in g.slots n t less) (slot.within, slot.same ∙ same)
      ]

  -- at the start, each process of the node is clean or listed from the first slot on
  pub all_left : (ls : List LocalState) (bs : List (List Message)) (i : ℕ)
      → get_or g.places i 0 ≡ get_or g.places number 0
      → IsCleanOrListed g ls bs i → IsClean ls bs i ⊎ IsListedFrom n.start g.slots n i
  all_left ls bs i same (inl clean) = inl clean
  all_left ls bs i same (inr listed) =
      let node : node_at g i ≡ n = ap (λ k. get_or g.nodes k no_node) same ∙ sym is in
      inr (subst (λ (m : Node). IsListedFrom m.start g.slots m i) node listed)

-- after a slot's process is wiped, each is clean or listed from the next slot on
pub fewer_left : (slots : List ℕ) (n : Node) (t i : ℕ) (ls : List LocalState)
    (bs : List (List Message))
    → (l : LocalState) (b : List Message) → process_in slots n t < length ls
    → process_in slots n t < length bs
    → IsClean ls bs i ⊎ IsListedFrom t slots n i
    → IsClean (set ls (process_in slots n t) (wiped l))
    (set bs (process_in slots n t) (map untraced b)) i
    ⊎ IsListedFrom (t + 1) slots n i
fewer_left slots n t i ls bs l b local queue (inl clean) =
    inl (clean_still ls bs (process_in slots n t) i l b local queue clean)
fewer_left slots n t i ls bs l b local queue (inr old) = elim (cases_eq old.slot t) [
  | inl e ↦
      let m : ℕ = process_in slots n t in
      let here : process_in slots n t ≡ i = ap (process_in slots n) (sym e) ∙ old.is in
      inl (subst (IsClean (set ls m (wiped l)) (set bs m (map untraced b))) here
      (clean_here ls bs m l b local queue))
  | inr other ↦
      inr (record {
        slot = old.slot;
        from = omega (arith, old.from, other);
        below = old.below;
        is =
            old.is;
      })
]

-- after the last slot, each is clean
pub none_left : (slots : List ℕ) (n : Node) (t i : ℕ) (ls : List LocalState)
    (bs : List (List Message))
    → n.listed ≤ t → IsClean ls bs i ⊎ IsListedFrom t slots n i → IsClean ls bs i
none_left slots n t i ls bs past (inl clean) = clean
none_left slots n t i ls bs past (inr left) = absurd (omega (arith, left.from, left.below))
