-- The cursors passed what the acts so far touch. So where the walk ends with all cursors at their
-- ends, each log is what all acts touch: its entries are whole, and merged in this order.
use Rattle.std.proofs.Common.{◌≡◌, ℕ, zero, suc, ◌<◌, Bool, true, false, cond, List, []}
use Rattle.std.proofs.Common.{◌∷◌, ◌++◌, length, map, get_or, refl, sym, ◌∙◌, ap, subst, arith, inl}
use Rattle.std.proofs.Common.{inr, ⊎_elim, ◌⊎◌}
use Rattle.std.specs.Prelude.{All, Contains, MatchBool}
use Rattle.std.proofs.lemmas.List.{append_assoc, append-nil, length-map}
use Rattle.std.proofs.lemmas.List.Elements.{filter-append, All-push}
use Rattle.st_core.specs.declared.types.Pid.{Pid}
use Rattle.st_core.specs.Pid.{IsBelow}
use Rattle.st_core.specs.Step.{actor, receiver, touches}
use Rattle.st_core.specs.Streams.{is_among}
use Rattle.st_core.proofs.ForCallers.{both_of, IsBelow-trans}
use Rattle.st_log.specs.declared.entry.Entry.{Entry}
use Rattle.st_runtime.specs.Joined.{IsBefore, IsMerged}
use Rattle.st_runtime.specs.Pcb.{Control}
use Rattle.st_runtime.specs.Pieces.{pids_in, AreWhole, HasIfTouched, IsWholeEntry}
use Rattle.st_runtime.specs.System.{knows}
use Rattle.st_runtime.specs.Walk.{touching, IsWalk, IsKeyBefore, Along, start, pids_along}
use Rattle.st_runtime.specs.Walk.{MovesPast}
use Rattle.st_runtime.specs.Walk.{AreStepped}
use Rattle.st_runtime.proofs.Members.{In, In-Contains, Contains-In, All-In, In-All, In-filter}
use Rattle.st_runtime.proofs.Members.{In-to_filter, IsOrdered, pairs_from_ordered}
use Rattle.st_runtime.proofs.Members.{IsOrdered-append, among_in}
use Rattle.st_runtime.proofs.PartLemmas.{touches_actor}

-- ---- what a walk finds

in_log : (xs : List Control) (es : List Entry) (x : Control) (e : Entry) → IsWalk xs es → In x xs
    → In e x.log → In e es
in_log xs es x e w i j =
    let is : x.log ≡ touching x.process.pid es =
    All-In (λ (y : Control). y.log ≡ touching y.process.pid es) xs x w.logs i in
    (In-filter (λ (d : Entry). touches d.act x.process.pid) e es (subst (In e) is j)).0

-- whom an act of the walk touches, whoever it is, has its entry
has_touched : (xs : List Control) (es : List Entry) (x : Control) (e : Entry) → IsWalk xs es
    → In x xs → In e es → touches e.act x.process.pid ≡ true → In e x.log
has_touched xs es x e w i j touched =
    let is : x.log ≡ touching x.process.pid es =
    All-In (λ (y : Control). y.log ≡ touching y.process.pid es) xs x w.logs i in
    subst (In e) (sym is)
    (In-to_filter (λ (d : Entry). touches d.act x.process.pid) e es j touched)

known_both : (xs : List Control) (es : List Entry) (e : Entry) → IsWalk xs es → In e es
    → (is_among (pids_in xs) (actor e.act) ≡ true) × (is_among (pids_in xs) (receiver e.act) ≡ true)
known_both xs es e w j =
    both_of _ _ (All-In (λ (d : Entry). knows (pids_in xs) d.act ≡ true) es e w.known j)

pub walk_whole : (xs : List Control) (es : List Entry) → IsWalk xs es → AreWhole xs
walk_whole xs es w =
    In-All (λ (x : Control). All (IsWholeEntry xs) x.log) xs
    (λ x i. In-All (IsWholeEntry xs) x.log (λ e j.
    let among = in_log xs es x e w i j in
    let known = known_both xs es e w among in
    record {
      actor = known.0;
      receiver = known.1;
      everywhere = In-All (HasIfTouched e) xs (λ y k touched.
          In-Contains e y.log (has_touched xs es y e w k among touched));
    }))

pub walk_merged : (xs : List Control) (es : List Entry) → IsWalk xs es → IsMerged xs es
walk_merged xs es w = record {
  ordered = w.ordered;
  logged = λ e c.
      let j = Contains-In e es c in
      let y = among_in (actor e.act) xs (known_both xs es e w j).0 in
      let touched = ap (touches e.act) y.1.1 ∙ touches_actor e.act in (
        y.0,
        In-Contains y.0 xs y.1.0,
        In-Contains e y.0.log (has_touched xs es y.0 e w y.1.0 j touched),
      );
  all = In-All (λ (x : Control). All (Contains es) x.log) xs
      (λ x i. In-All (Contains es) x.log (λ e j.
      In-Contains e es (in_log xs es x e w i j)));
}

-- ---- cursors

-- the cursor is in x's log, and passed those of these entries that touch the process
pub record IsAlong (x : Control) (es : List Entry) (c : Along) : Type 0 where
  pub pid : c.pid ≡ x.process.pid
  pub log : c.passed ++ c.left ≡ x.log
  pub passed : c.passed ≡ touching x.process.pid es

pub record AreAlong (xs : List Control) (es : List Entry) (cs : List Along) : Type 0 where
  pub even : length cs ≡ length xs
  pub each : (i : ℕ) → i < length xs → (x : Control) (c : Along)
      → IsAlong (get_or xs i x) es (get_or cs i c)

touching_more : (p : Pid) (es : List Entry) (e : Entry)
    → touching p (es ++ e ∷ []) ≡ touching p es ++ cond (touches e.act p) (e ∷ []) []
touching_more p es e = filter-append (λ (d : Entry). touches d.act p) es (e ∷ [])

along_more : (x : Control) (es : List Entry) (e : Entry) (c d : Along) (b : Bool)
    → touches e.act c.pid ≡ b → IsAlong x es c → MatchBool b (MovesPast e c d) (d ≡ c)
    → IsAlong x (es ++ e ∷ []) d
along_more x es e c d true is a s =
    let touched : touches e.act x.process.pid ≡ true = ap (touches e.act) (sym a.pid) ∙ is in
    record {
      pid = s.pid ∙ a.pid;
      log = ap (λ (l : List Entry). l ++ d.left) s.passed
          ∙ append_assoc c.passed (e ∷ []) d.left
          ∙ ap (λ (l : List Entry). c.passed ++ l) (sym s.left)
          ∙ a.log;
      passed = s.passed ∙ ap (λ (l : List Entry). l ++ e ∷ []) a.passed
          ∙ ap (λ b. touching x.process.pid es ++ cond b (e ∷ []) []) (sym touched)
          ∙ sym (touching_more x.process.pid es e);
    }
along_more x es e c d false is a s =
    let untouched : touches e.act x.process.pid ≡ false = ap (touches e.act) (sym a.pid) ∙ is in
    subst (IsAlong x (es ++ e ∷ [])) (sym s) (record {
      pid = a.pid;
      log = a.log;
      passed = a.passed ∙ sym (append-nil (touching x.process.pid es))
          ∙ ap (λ b. touching x.process.pid es ++ cond b (e ∷ []) []) (sym untouched)
          ∙ sym (touching_more x.process.pid es e);
    })

all_more : (xs : List Control) (es : List Entry) (e : Entry) (cs ds : List Along)
    → AreAlong xs es cs → AreStepped e cs ds → AreAlong xs (es ++ e ∷ []) ds
all_more xs es e cs ds a s = record {
  even = s.even ∙ a.even;
  each = λ i below x c.
      along_more (get_or xs i x) es e (get_or cs i c) (get_or ds i c) _ refl (a.each i below x c)
      (s.each i (omega (arith, a.even)) c);
}

start_at : (xs : List Control) (i : ℕ) → i < length xs → (x : Control) (c : Along)
    → IsAlong (get_or xs i x) [] (get_or (map start xs) i c)
start_at [] i below x c = absurd (omega arith)
start_at (y ∷ ys) zero below x c = record { pid = refl; log = refl; passed = refl }
start_at (y ∷ ys) (suc i) below x c = start_at ys i (omega arith) x c

all_start : (xs : List Control) → AreAlong xs [] (map start xs)
all_start xs = record { even = length-map xs start; each = start_at xs }

-- where no entry is left, the log is what was passed
all_end : (xs : List Control) (es : List Entry) (cs : List Along) → AreAlong xs es cs
    → All (λ (c : Along). c.left ≡ []) cs
    → All (λ (x : Control). x.log ≡ touching x.process.pid es) xs
all_end xs es cs a none i x below =
    let c = start x in
    let at = a.each i below x c in
    let gone = none i c (omega (arith, a.even)) in
    sym at.log ∙ ap (λ (l : List Entry). (get_or cs i c).passed ++ l) gone
    ∙ append-nil (get_or cs i c).passed ∙ at.passed

pub pids_start : (xs : List Control) → pids_along (map start xs) ≡ pids_in xs
pids_start [] = refl
pids_start (x ∷ xs) = ap (λ (ps : List Pid). x.process.pid ∷ ps) (pids_start xs)

same_pid : (e : Entry) (c d : Along) (b : Bool) → MatchBool b (MovesPast e c d) (d ≡ c)
    → d.pid ≡ c.pid
same_pid e c d true s = s.pid
same_pid e c d false s = ap (λ (x : Along). x.pid) s

pub pids_stepped : (e : Entry) (cs ds : List Along) → AreStepped e cs ds
    → pids_along ds ≡ pids_along cs
pids_stepped e [] [] s = refl
pids_stepped e [] (d ∷ ds) s = absurd (omega (arith, s.even))
pids_stepped e (c ∷ cs) [] s = absurd (omega (arith, s.even))
pids_stepped e (c ∷ cs) (d ∷ ds) s =
    let here : d.pid ≡ c.pid = same_pid e c d _ (s.each 0 (omega arith) c) in
    let rest = pids_stepped e cs ds (record {
      even = omega (arith, s.even);
      each = λ i below x. s.each (suc i) (omega arith) x;
    }) in
    λ i. here i ∷ rest i

-- ---- the walk so far

-- an entry is that of this rank and actor, or before it
abbrev IsUpTo : ℕ → Pid → Entry → Type 0
IsUpTo m p d = (d.rank < m) ⊎ ((d.rank ≡ m) × ((actor d.act ≡ p) ⊎ IsBelow (actor d.act) p))

before_next : (m : ℕ) (p : Pid) (d e : Entry) → IsUpTo m p d
    → IsKeyBefore m p e.rank (actor e.act) → IsBefore d e
before_next m p d e up next =
    ⊎_elim
    (λ low. ⊎_elim (λ a. inl (omega (arith, low, a))) (λ b. inl (omega (arith, low, b.0))) next)
    (λ same. ⊎_elim
    (λ a. inl (omega (arith, same.0, a)))
    (λ b. inr (
      same.0 ∙ b.0,
      ⊎_elim
          (λ one. subst (λ q. IsBelow q (actor e.act)) (sym one) b.1)
          (λ lower. IsBelow-trans (actor d.act) p (actor e.act) lower b.1)
          same.1,
    )) next)
    up

up_to_next : (d e : Entry) → IsBefore d e → IsUpTo e.rank (actor e.act) d
up_to_next d e before = ⊎_elim (λ low. inl low) (λ same. inr (same.0, inr same.1)) before

-- the entries that were passed, where the cursors are, and the last rank with its actor
pub record IsUnderway (xs : List Control) (es : List Entry) (cs : List Along) (m : ℕ) (p : Pid)
    : Type 0 where
  pub along : AreAlong xs es cs
  pub ordered : IsOrdered es
  pub known : All (λ (e : Entry). knows (pids_in xs) e.act ≡ true) es
  pub up_to : All (IsUpTo m p) es

pub walk_start : (xs : List Control) (m : ℕ) (p : Pid) → IsUnderway xs [] (map start xs) m p
walk_start xs m p = record {
  along = all_start xs;
  ordered = tt;
  known = In-All (λ (e : Entry). knows (pids_in xs) e.act ≡ true) [] (λ e i. absurd i);
  up_to = In-All (IsUpTo m p) [] (λ e i. absurd i);
}

pub walk_more : (xs : List Control) (es : List Entry) (cs ds : List Along) (m : ℕ) (p : Pid)
    (e : Entry) → IsUnderway xs es cs m p → AreStepped e cs ds
    → knows (pids_in xs) e.act ≡ true → IsKeyBefore m p e.rank (actor e.act)
    → IsUnderway xs (es ++ e ∷ []) ds e.rank (actor e.act)
walk_more xs es cs ds m p e w s known next =
    let before : (d : Entry) → In d es → IsBefore d e =
    λ d i. before_next m p d e (All-In (IsUpTo m p) es d w.up_to i) next in
    record {
      along = all_more xs es e cs ds w.along s;
      ordered = IsOrdered-append es (e ∷ []) w.ordered (λ d i. absurd i, tt)
          (λ d f i j. ⊎_elim (λ same. subst (IsBefore d) (sym same) (before d i))
          (λ none. absurd none) j);
      known = All-push (λ (d : Entry). knows (pids_in xs) d.act ≡ true) es e w.known known;
      up_to = All-push (IsUpTo e.rank (actor e.act)) es e
          (In-All (IsUpTo e.rank (actor e.act)) es (λ d i. up_to_next d e (before d i)))
          (inr (refl, inl refl));
    }

pub walk_end : (xs : List Control) (es : List Entry) (cs : List Along) (m : ℕ) (p : Pid)
    → IsUnderway xs es cs m p → All (λ (c : Along). c.left ≡ []) cs → IsWalk xs es
walk_end xs es cs m p w none = record {
  ordered = pairs_from_ordered es w.ordered;
  known = w.known;
  logs = all_end xs es cs w.along none;
}
