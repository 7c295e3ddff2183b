-- One more good line goes to the end of what the builder keeps, so the builder keeps what all the
-- lines say.
use Rattle.std.proofs.Common.{◌≡◌, ℕ, suc, ◌+◌, ◌-◌, Bool, true, false, ◌||◌, cond, List, [], ◌∷◌}
use Rattle.std.proofs.Common.{◌++◌, length, map}
use Rattle.std.proofs.Common.{Some, None, refl, sym, ap, subst, ◌∙◌, append_assoc, arith}
use Rattle.std.specs.Prelude.{is_some}
use Rattle.std.specs.List.{flat_map, count_by, list_any, slice_get, AllByRecursion}
use Rattle.std.proofs.lemmas.List.{append-nil, length_push, map-append}
use Rattle.std.proofs.lemmas.List.Concat.{flat_map-append}
use Rattle.std.proofs.lemmas.List.Folds.{list_any-append}
use Rattle.std.proofs.lemmas.List.Sums.{sum_by_push}
use Rattle.st_core.specs.declared.types.Pid.{Pid}
use Rattle.st_core.specs.declared.types.Event.{Event}
use Rattle.st_core.specs.declared.types.Act.{Act}
use Rattle.st_core.specs.Pid.{pid_eq, IsBelow, IsRising}
use Rattle.st_core.specs.Run.{Stream, pids_of}
use Rattle.st_core.specs.Streams.{ComesLast, added, with_event}
use Rattle.st_core.proofs.ForCallers.{IsRising-push, IsBelow-apart, pid_eq-same, all_at}
use Rattle.st_core.proofs.ForCallers.{with_event_pid, or_false, or_true}
use Rattle.st_text.specs.declared.line.Line.{Line}
use Rattle.st_text.specs.declared.line.Line.TheVariants as lines
use Rattle.st_text.specs.declared.builder.BundleBuilder.{BundleBuilder}
use Rattle.st_text.specs.Parts.Counts.{acts_len}
use Rattle.st_text.specs.Parts.Remote.{is_event_remote, is_act_remote}
use Rattle.st_text.specs.Text.{is_away, is_remote, process_lines}
use Rattle.st_text.specs.Parts.Builder.{so_far, IsBuilt}
use Rattle.st_text.specs.Fault.{pids, pid_of, last_of, has_acts, is_acts, is_event, is_act}
use Rattle.st_text.specs.Fault.{is_wide_header}

get_end : {A : Type 0} (xs : List A) (x : A) → slice_get (xs ++ x ∷ []) (length xs) ≡ Some x
get_end [] x = refl
get_end (y ∷ xs) x = get_end xs x

pub last_push : {A : Type 0} (xs : List A) (x : A) → last_of (xs ++ x ∷ []) ≡ Some x
last_push xs x =
    let n : length (xs ++ x ∷ []) - 1 ≡ length xs = omega (arith, length_push xs x) in
    rw n (get_end xs x)

-- ---- lists of lines

pub pids_push : (ls : List Line) (l : Line) → pids (ls ++ l ∷ []) ≡ pids ls ++ pid_of l
pids_push ls l = flat_map-append pid_of ls (l ∷ []) ∙ ap (λ (x : List Pid). pids ls ++ x)
    (append-nil (pid_of l))

pub count_push : (f : Line → Bool) (ls : List Line) (l : Line)
    → count_by f (ls ++ l ∷ []) ≡ count_by f ls + cond (f l) 1 0
count_push f ls l = sum_by_push (λ x. cond (f x) 1 0) ls l

pub any_push : (f : Line → Bool) (ls : List Line) (l : Line)
    → list_any f (ls ++ l ∷ []) ≡ (list_any f ls || f l)
any_push f ls l = list_any-append f ls (l ∷ []) ∙ ap (λ b. list_any f ls || b) (or_false (f l))

-- ---- lines so far

pub so_far_open : (wide : Bool) (ss : List Stream) (q : Pid)
    → so_far wide (ss ++ record { pid = q; events = [] } ∷ []) None ≡ so_far wide ss None
    ++ lines.Process q ∷ []
so_far_open wide ss q =
    let more : flat_map process_lines (ss ++ record { pid = q; events = [] } ∷ [])
    ≡ flat_map process_lines ss
    ++ lines.Process q ∷ [] =
    flat_map-append process_lines ss (record { pid = q; events = [] } ∷ []) in
    ap (λ (x : List Line). lines.Header wide ∷ x)
    (append-nil (flat_map process_lines (ss ++ record { pid = q; events = [] } ∷ [])) ∙ more
    ∙ ap (λ (x : List Line). x ++ lines.Process q ∷ [])
    (sym (append-nil (flat_map process_lines ss))))

pub so_far_begin : (wide : Bool) (ss : List Stream)
    → so_far wide ss (Some []) ≡ so_far wide ss None ++ lines.Acts ∷ []
so_far_begin wide ss =
    ap (λ (x : List Line). lines.Header wide ∷ x ++ lines.Acts ∷ [])
    (sym (append-nil (flat_map process_lines ss)))

pub so_far_act : (wide : Bool) (ss : List Stream) (list : List Act) (a : Act)
    → so_far wide ss (Some (list ++ a ∷ [])) ≡ so_far wide ss (Some list) ++ lines.Act a ∷ []
so_far_act wide ss list a =
    ap (λ (x : List Line). lines.Header wide ∷ flat_map process_lines ss ++ lines.Acts ∷ x)
    (map-append lines.Act list (a ∷ []))
    ∙ sym (append_assoc (lines.Header wide ∷ flat_map process_lines ss)
    (lines.Acts ∷ map lines.Act list)
    (lines.Act a ∷ []))

-- ---- one more event

pub last_cons : (p q : Pid) (ps : List Pid) → last_of (p ∷ q ∷ ps) ≡ last_of (q ∷ ps)
last_cons p q ps =
    let n : length (p ∷ q ∷ ps) - 1 ≡ length (q ∷ ps) - 1 + 1 = omega arith in
    rw n (at (length (q ∷ ps) - 1))
  where
    at : (k : ℕ) → slice_get (p ∷ q ∷ ps) (k + 1) ≡ slice_get (q ∷ ps) k
    at k = let one : k + 1 ≡ suc k = omega arith in rw one refl

here : (p : Pid) (e : Event) (x : Stream) → pid_eq x.pid p ≡ true
    → with_event p e x ≡ record x { events = x.events ++ e ∷ [] }
here p e x t = rw t refl

there : (p : Pid) (e : Event) (x : Stream) → pid_eq x.pid p ≡ false → with_event p e x ≡ x
there p e x t = rw t refl

added_lines : (ss : List Stream) (p : Pid) (e : Event) → IsRising (pids_of ss)
    → last_of (pids_of ss) ≡ Some p
    → flat_map process_lines (added ss p e) ≡ flat_map process_lines ss ++ lines.Event e ∷ []
added_lines [] p e rising at = absurd cc
added_lines (x ∷ []) p e rising at =
    let same : x.pid ≡ p = cc in
    let t : pid_eq x.pid p ≡ true =
    ap (λ (q : Pid). pid_eq x.pid q) (sym same) ∙ pid_eq-same x.pid in
    ap (λ (y : Stream). process_lines y ++ []) (here p e x t)
    ∙ append-nil (process_lines (record x { events = x.events ++ e ∷ [] }))
    ∙ ap (λ (y : List Line). lines.Process x.pid ∷ y) (map-append lines.Event x.events (e ∷ []))
    ∙ ap (λ (y : List Line). y ++ lines.Event e ∷ []) (sym (append-nil (process_lines x)))
added_lines (x ∷ y ∷ ss) p e rising at =
    let later : last_of (pids_of (y ∷ ss)) ≡ Some p =
    sym (last_cons x.pid y.pid (pids_of ss)) ∙ at in
    let below : IsBelow x.pid p = all_at (IsBelow x.pid) (pids_of (y ∷ ss)) _ p rising.0 later in
    ap (λ (z : Stream). process_lines z ++ flat_map process_lines (added (y ∷ ss) p e))
    (there p e x (IsBelow-apart x.pid p below))
    ∙ ap (λ (z : List Line). process_lines x ++ z) (added_lines (y ∷ ss) p e rising.1 later)
    ∙ sym (append_assoc (process_lines x) (flat_map process_lines (y ∷ ss)) (lines.Event e ∷ []))

pub added_pids : (ss : List Stream) (p : Pid) (e : Event) → pids_of (added ss p e) ≡ pids_of ss
added_pids [] p e = refl
added_pids (x ∷ ss) p e =
    ap (λ (q : Pid). q ∷ pids_of (added ss p e)) (with_event_pid p e x)
    ∙ ap (λ (ps : List Pid). x.pid ∷ ps) (added_pids ss p e)

pub so_far_event : (wide : Bool) (ss : List Stream) (p : Pid) (e : Event) → IsRising (pids_of ss)
    → last_of (pids_of ss) ≡ Some p
    → so_far wide (added ss p e) None ≡ so_far wide ss None ++ lines.Event e ∷ []
so_far_event wide ss p e rising at =
    ap (λ (x : List Line). lines.Header wide ∷ x)
    (append-nil (flat_map process_lines (added ss p e)) ∙ added_lines ss p e rising at
    ∙ ap (λ (x : List Line). x ++ lines.Event e ∷ [])
    (sym (append-nil (flat_map process_lines ss))))

-- ---- what is kept

below_all : (ss : List Stream) (q : Pid) → ComesLast ss q
    → AllByRecursion (λ r. IsBelow r q) (pids_of ss)
below_all [] q h = tt
below_all (x ∷ ss) q h = (h.0, below_all ss q h.1)

pub sound_open : (p n : BundleBuilder) (ls : List Line) (q : Pid) → IsBuilt p ls → p.acts ≡ None
    → n.wide ≡ p.wide
    → n.acts ≡ p.acts → n.draft ≡ p.draft ++ record { pid = q; events = [] } ∷ [] → n.last ≡ Some q
    → n.lines ≡ p.lines + 1 → n.processes ≡ p.processes + 1 → n.events ≡ p.events
    → n.remote ≡ (p.remote || is_away q)
    → ComesLast p.draft q
    → IsBuilt n (ls ++ lines.Process q ∷ [])
sound_open p n ls q s none wide acts draft at count processes events remote above =
    let l : Line = lines.Process q in
    let pids_are : pids (ls ++ lines.Process q ∷ []) ≡ pids_of p.draft ++ q ∷ [] =
    pids_push ls (lines.Process q) ∙ ap (λ (x : List Pid). x ++ q ∷ []) s.pids_are in
    let new_pids : pids_of n.draft ≡ pids_of p.draft ++ q ∷ [] =
    ap pids_of draft ∙ map-append (λ (x : Stream). x.pid) p.draft
    (record { pid = q; events = [] } ∷ []) in
    record {
      lines =
          ap (λ (x : List Line). x ++ lines.Process q ∷ [])
          (s.lines ∙ ap (so_far p.wide p.draft) none)
          ∙ sym (so_far_open p.wide p.draft q) ∙ sym (rw (wide, draft, acts, none) refl);
      count = omega (arith, count, s.count, length_push ls (lines.Process q));
      pids_are = pids_are ∙ sym new_pids;
      last_is = at ∙ sym (ap last_of pids_are ∙ last_push (pids_of p.draft) q);
      processes_are =
          omega (
            arith,
            processes,
            s.processes_are,
            ap length (pids_push ls (lines.Process q)),
            length_push (pids ls)
                q,
          );
      events_are = omega (arith, events, s.events_are, count_push is_event ls (lines.Process q));
      acts_are = omega (
        arith,
        ap acts_len acts,
        s.acts_are,
        count_push is_act ls (lines.Process q),
      );
      begun_is = ap is_some acts ∙ s.begun_is
          ∙ sym (any_push is_acts ls (lines.Process q) ∙ or_false (has_acts ls));
      remote_is =
          remote ∙ ap (λ b. b || is_away q) s.remote_is
          ∙ ap (λ b. list_any is_remote ls || b) (sym (or_false (is_away q)))
          ∙ sym (any_push is_remote ls (lines.Process q));
      wide_is = wide ∙ s.wide_is
          ∙ sym (any_push is_wide_header ls (lines.Process q)
          ∙ or_false (list_any is_wide_header ls));
      rising = subst IsRising (sym new_pids)
          (IsRising-push (pids_of p.draft) q s.rising (below_all p.draft q above));
    }

pub sound_event : (p n : BundleBuilder) (ls : List Line) (q : Pid) (e : Event) → IsBuilt p ls
    → p.acts ≡ None
    → p.last ≡ Some q → n.wide ≡ p.wide → n.acts ≡ p.acts → n.draft ≡ added p.draft q e
    → n.last ≡ p.last
    → n.lines ≡ p.lines + 1 → n.processes ≡ p.processes → n.events ≡ p.events + 1
    → n.remote ≡ (p.remote || is_event_remote e)
    → IsBuilt n (ls ++ lines.Event e ∷ [])
sound_event p n ls q e s none last_pid wide acts draft at count processes events remote =
    let last_at : last_of (pids_of p.draft) ≡ Some q =
    sym (s.last_is ∙ ap last_of s.pids_are) ∙ last_pid in
    let same : pids (ls ++ lines.Event e ∷ []) ≡ pids ls =
    pids_push ls (lines.Event e) ∙ append-nil (pids ls) in
    let new_pids : pids_of n.draft ≡ pids_of p.draft = ap pids_of draft ∙ added_pids p.draft q e in
    record {
      lines =
          ap (λ (x : List Line). x ++ lines.Event e ∷ [])
          (s.lines ∙ ap (so_far p.wide p.draft) none)
          ∙ sym (so_far_event p.wide p.draft q e s.rising last_at)
          ∙ sym (rw (wide, draft, acts, none) refl);
      count = omega (arith, count, s.count, length_push ls (lines.Event e));
      pids_are = same ∙ s.pids_are ∙ sym new_pids;
      last_is = at ∙ s.last_is ∙ ap last_of (sym same);
      processes_are = processes ∙ s.processes_are ∙ ap length (sym same);
      events_are = omega (arith, events, s.events_are, count_push is_event ls (lines.Event e));
      acts_are = omega (arith, ap acts_len acts, s.acts_are, count_push is_act ls (lines.Event e));
      begun_is = ap is_some acts ∙ s.begun_is
          ∙ sym (any_push is_acts ls (lines.Event e) ∙ or_false (has_acts ls));
      remote_is = remote ∙ ap (λ b. b || is_event_remote e) s.remote_is
          ∙ sym (any_push is_remote ls (lines.Event e));
      wide_is = wide ∙ s.wide_is
          ∙ sym (any_push is_wide_header ls (lines.Event e)
          ∙ or_false (list_any is_wide_header ls));
      rising = subst IsRising (sym new_pids) s.rising;
    }

pub sound_begin : (p n : BundleBuilder) (ls : List Line) → IsBuilt p ls → p.acts ≡ None
    → n.wide ≡ p.wide
    → n.acts ≡ Some [] → n.draft ≡ p.draft → n.last ≡ p.last → n.lines ≡ p.lines + 1
    → n.processes ≡ p.processes
    → n.events ≡ p.events → n.remote ≡ p.remote
    → IsBuilt n (ls ++ lines.Acts ∷ [])
sound_begin p n ls s none wide acts draft at count processes events remote =
    let same : pids (ls ++ lines.Acts ∷ []) ≡ pids ls =
    pids_push ls lines.Acts ∙ append-nil (pids ls) in
    record {
      lines =
          ap (λ (x : List Line). x ++ lines.Acts ∷ []) (s.lines ∙ ap (so_far p.wide p.draft) none)
          ∙ sym (so_far_begin p.wide p.draft) ∙ sym (rw (wide, draft, acts) refl);
      count = omega (arith, count, s.count, length_push ls lines.Acts);
      pids_are = same ∙ s.pids_are ∙ ap pids_of (sym draft);
      last_is = at ∙ s.last_is ∙ ap last_of (sym same);
      processes_are = processes ∙ s.processes_are ∙ ap length (sym same);
      events_are = omega (arith, events, s.events_are, count_push is_event ls lines.Acts);
      acts_are = omega (
        arith,
        ap acts_len acts,
        ap acts_len none,
        s.acts_are,
        count_push is_act ls lines.Acts,
      );
      begun_is = ap is_some acts ∙ sym (any_push is_acts ls lines.Acts ∙ or_true (has_acts ls));
      remote_is = remote ∙ s.remote_is
          ∙ sym (any_push is_remote ls lines.Acts ∙ or_false (list_any is_remote ls));
      wide_is = wide ∙ s.wide_is
          ∙ sym (any_push is_wide_header ls lines.Acts ∙ or_false (list_any is_wide_header ls));
      rising = subst (λ (x : List Stream). IsRising (pids_of x)) (sym draft) s.rising;
    }

pub sound_act : (p n : BundleBuilder) (ls : List Line) (list : List Act) (a : Act) → IsBuilt p ls
    → p.acts ≡ Some list
    → n.wide ≡ p.wide → n.acts ≡ Some (list ++ a ∷ []) → n.draft ≡ p.draft → n.last ≡ p.last
    → n.lines ≡ p.lines + 1
    → n.processes ≡ p.processes → n.events ≡ p.events → n.remote ≡ (p.remote || is_act_remote a)
    → IsBuilt n (ls ++ lines.Act a ∷ [])
sound_act p n ls list a s some wide acts draft at count processes events remote =
    let same : pids (ls ++ lines.Act a ∷ []) ≡ pids ls =
    pids_push ls (lines.Act a) ∙ append-nil (pids ls) in
    record {
      lines =
          ap (λ (x : List Line). x ++ lines.Act a ∷ []) (s.lines ∙ ap (so_far p.wide p.draft) some)
          ∙ sym (so_far_act p.wide p.draft list a) ∙ sym (rw (wide, draft, acts) refl);
      count = omega (arith, count, s.count, length_push ls (lines.Act a));
      pids_are = same ∙ s.pids_are ∙ ap pids_of (sym draft);
      last_is = at ∙ s.last_is ∙ ap last_of (sym same);
      processes_are = processes ∙ s.processes_are ∙ ap length (sym same);
      events_are = omega (arith, events, s.events_are, count_push is_event ls (lines.Act a));
      acts_are =
          omega (
            arith,
            ap acts_len acts,
            ap acts_len some,
            s.acts_are,
            count_push is_act ls (lines.Act a),
            length_push
                list a,
          );
      begun_is =
          ap is_some acts ∙ sym (ap is_some some) ∙ s.begun_is
          ∙ sym (any_push is_acts ls (lines.Act a) ∙ or_false (has_acts ls));
      remote_is = remote ∙ ap (λ b. b || is_act_remote a) s.remote_is
          ∙ sym (any_push is_remote ls (lines.Act a));
      wide_is = wide ∙ s.wide_is
          ∙ sym (any_push is_wide_header ls (lines.Act a) ∙ or_false (list_any is_wide_header ls));
      rising = subst (λ (x : List Stream). IsRising (pids_of x)) (sym draft) s.rising;
    }
