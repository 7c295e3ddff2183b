-- The acts before a stamp report nothing, and leave the process ready to stamp the serial.
use Rattle.std.proofs.Common.{◌≡◌, ℕ, ◌+◌, ◌-◌, ◌<◌, ◌≤◌, ◌==◌, ◌&&◌, ◌⊎◌, zero, suc, nat_lt, Bool}
use Rattle.std.proofs.Common.{true, false, cond, List, [], ◌∷◌, ◌++◌, Option, Some, None, inl, inr}
use Rattle.std.proofs.Common.{refl, sym, ◌∙◌, ap, subst, arith, if◌then◌else◌}
use Rattle.std.proofs.lemmas.Bool.{and_parts, eqb-true, eq-eqb, ltb-true, ltb-false, false≢true}
use Rattle.std.proofs.lemmas.Bool.Decides.{nat_tests}
use Rattle.st_core.specs.declared.types.Pid.{Pid}
use Rattle.st_core.specs.declared.types.Label.{Label}
use Rattle.st_core.specs.declared.types.Flags.{Flags}
use Rattle.st_core.specs.declared.types.Serial.{Serial}
use Rattle.st_core.specs.declared.types.Token.{Token}
use Rattle.st_core.specs.declared.types.Message.{Message}
use Rattle.st_core.specs.declared.types.Component.TheVariants as component
use Rattle.st_core.specs.declared.types.Reply.{Reply}
use Rattle.st_core.specs.declared.types.Reply.TheVariants as reply
use Rattle.st_core.specs.declared.types.Act.{Act}
use Rattle.st_core.specs.declared.types.Act.TheVariants as act
use Rattle.st_core.specs.State.{LocalState}
use Rattle.st_core.specs.Stamp.{stamped_token}
use Rattle.st_core.specs.Local.{default_token}
use Rattle.st_core.specs.Step.{acted}
use Rattle.st_core.proofs.ForCallers.{and_false}
use Rattle.st_plan.specs.declared.plan.Start.{Start}
use Rattle.st_plan.specs.Build.{bool_eq, dress, flags_eq, is_dressed, quiet, raise, ready, renew}
use Rattle.st_plan.specs.Build.{renewed_start, silent_prints, start_of, unstamped_token}

-- QUIET ACTS

-- p's own acts that reach no other process
abbrev pub is_alone : Pid → Act → Type 0
is_alone p (act.Print q v) = p ≡ q
is_alone p (act.Set q c) = p ≡ q
is_alone p (act.Clear q) = p ≡ q
is_alone p (act.Restore q t) = p ≡ q
is_alone p a = ⊥

-- the act changes p's record from l to m, whatever its queue, and reports nothing
pub record IsQuiet (top : ℕ) (p : Pid) (l : LocalState) (a : Act) (m : LocalState) : Type 0 where
  pub reply : Reply
  pub alone : is_alone p a
  pub acts : (queue : List Message) → acted top (record { pid = p; local = l; queue = queue }) a
      ≡ Some (record { local = m; queue = queue; reply = reply; report = None; place = None })

-- these acts in a row change p's record so, and report nothing
abbrev pub QuietRun : ℕ → Pid → LocalState → List Act → LocalState → Type 0
QuietRun top p l [] m = l ≡ m
QuietRun top p l (a ∷ rest) m = (x : LocalState) × IsQuiet top p l a x × QuietRun top p x rest m

pub quiet_append : (top : ℕ) (p : Pid) (xs ys : List Act) (l m n : LocalState)
    → QuietRun top p l xs m → QuietRun top p m ys n → QuietRun top p l (xs ++ ys) n
quiet_append top p [] ys l m n one two = subst (λ x. QuietRun top p x ys n) (sym one) two
quiet_append top p (a ∷ xs) ys l m n one two =
    (one.0, one.1, quiet_append top p xs ys one.0 m n one.2 two)

-- the record has a token of this label and these flags
pub record HasToken (l : LocalState) (n : Label) (f : Flags) : Type 0 where
  pub token : Token
  pub is : l.token ≡ Some token
  pub label : token.label ≡ n
  pub flags : token.flags ≡ f

-- the acts lead to this clock and last count, and a token with this label and these flags
pub record Reaches (top : ℕ) (p : Pid) (l : LocalState) (acts : List Act) (clock last : ℕ)
    (n : Label) (f : Flags) : Type 0 where
  pub end : LocalState
  pub runs : QuietRun top p l acts end
  pub has : HasToken end n f
  pub clocked : end.clock ≡ clock
  pub lasted : end.last ≡ last
  pub traced : end.traced ≡ l.traced

-- one part after another, which leads to counts that are these
both_reach : {top : ℕ} {p : Pid} {l : LocalState} {xs ys : List Act} {c z : ℕ} {n : Label}
    {f g : Flags} {d y d2 y2 : ℕ} (one : Reaches top p l xs c z n f)
    → Reaches top p one.end ys d y n g → d ≡ d2 → y ≡ y2 → Reaches top p l (xs ++ ys) d2 y2 n g
both_reach {top} {p} {l} {xs} {ys} one two clock last = record {
  end = two.end;
  runs = quiet_append top p xs ys l one.end two.end one.runs two.runs;
  has = two.has;
  clocked = two.clocked ∙ clock;
  lasted = two.lasted ∙ last;
  traced = two.traced ∙ one.traced;
}

-- DRESS

same_bool : (a b : Bool) → bool_eq a b ≡ true → a ≡ b
same_bool true true h = refl
same_bool true false h = sym h
same_bool false true h = h
same_bool false false h = refl

same_flags : (f g : Flags) → flags_eq f g ≡ true → f ≡ g
same_flags f g h =
    let one = and_parts (bool_eq f.send g.send) (bool_eq f.receive g.receive
    && bool_eq f.print g.print) h in
    let two = and_parts (bool_eq f.receive g.receive) (bool_eq f.print g.print) one.1 in
    let send = same_bool f.send g.send one.0 in
    let receive = same_bool f.receive g.receive two.0 in
    let print = same_bool f.print g.print two.1 in
    λ i. record { send = send i; receive = receive i; print = print i }

same_label : (n m : Label) → (n.0 == m.0) ≡ true → n ≡ m
same_label n m h = let number = eqb-true n.0 m.0 h in λ i. record { 0 = number i }

restored : (top : ℕ) (p : Pid) (l : LocalState) (n : Label) (f : Flags)
    → Reaches top p l (act.Restore p (unstamped_token p n f) ∷ []) l.clock l.last n f
restored top p l n f = record {
  end = record l { token = Some (unstamped_token p n f) };
  runs = (
    record l { token = Some (unstamped_token p n f) },
    record { reply = reply.Previous l.token; alone = refl; acts = λ queue. refl },
    refl,
  );
  has = record { token = unstamped_token p n f; is = refl; label = refl; flags = refl };
  clocked = refl;
  lasted = refl;
  traced = refl;
}

stays : (top : ℕ) (p : Pid) (l : LocalState) (n : Label) (f : Flags) (token : Option Token)
    → l.token ≡ token → is_dressed n f token ≡ true → Reaches top p l [] l.clock l.last n f
stays top p l n f None e h = absurd (false≢true h)
stays top p l n f (Some t) e h =
    let parts = and_parts (t.label.0 == n.0) (flags_eq t.flags f) h in
    record {
      end = l;
      runs = refl;
      has = record {
        token = t;
        is = e;
        label = same_label t.label n parts.0;
        flags = same_flags t.flags f parts.1;
      };
      clocked = refl;
      lasted = refl;
      traced = refl;
    }

dressed : (top : ℕ) (p : Pid) (l : LocalState) (token : Option Token) (n : Label) (f : Flags)
    → is_dressed n f token ≡ is_dressed n f l.token
    → Reaches top p l (dress p token n f) l.clock l.last n f
dressed top p l token n f same =
    elim (is_dressed n f token) as (λ b. is_dressed n f token ≡ b
    → Reaches top p l (cond b [] (act.Restore p (unstamped_token p n f) ∷ [])) l.clock l.last n f) [
      | true ↦ λ e. stays top p l n f l.token refl (sym same ∙ e)
      | false ↦ λ e. restored top p l n f
    ] refl

-- SILENT PRINTS

printed : (top : ℕ) (p : Pid) (l : LocalState) (t : Token) → l.token ≡ Some t
    → t.flags.print ≡ false → l.clock < top
    → IsQuiet top p l (act.Print p 0) (record l {
      token = Some (stamped_token p l t);
      clock = l.clock + 1;
    })
printed top p l t is flag below =
    let now : nat_lt l.clock top ≡ true = grind (arith, nat_tests) in
    let unseen : (l.traced && t.flags.print) ≡ false = and_false l.traced t.flags.print flag in
    record { reply = reply.Done; alone = refl; acts = λ queue. rw (is, now, unseen) refl }

silent_reaches : (top : ℕ) (p : Pid) (k : ℕ) (l : LocalState) (n : Label) → HasToken l n quiet
    → l.clock + k ≤ top → Reaches top p l (silent_prints p k) (l.clock + k) l.last n quiet
silent_reaches top p zero l n has within = record {
  end = l;
  runs = refl;
  has = has;
  clocked = omega arith;
  lasted = refl;
  traced = refl;
}
silent_reaches top p (suc k) l n has within =
    let t = stamped_token p l has.token in
    let m : LocalState = record l { token = Some t; clock = l.clock + 1 } in
    let next : HasToken m n quiet =
    record { token = t; is = refl; label = has.label; flags = has.flags } in
    let rest = silent_reaches top p k m n next (omega arith) in
    let prints = ap (λ (f : Flags). f.print) has.flags in
    record {
      end = rest.end;
      runs = (m, printed top p l has.token has.is prints (omega arith), rest.runs);
      has = rest.has;
      clocked = let clocked = rest.clocked in omega arith;
      lasted = rest.lasted;
      traced = rest.traced;
    }

-- a token may stand for any other with its label and flags
alike : (n : Label) (g : Flags) (p : Pid) (l : LocalState) → HasToken l n g
    → (m : Label) (f : Flags)
    → is_dressed m f (Some (unstamped_token p n g)) ≡ is_dressed m f l.token
alike n g p l has m f = ap (λ (x : Label). x.0 == m.0 && flags_eq g f) (sym has.label)
    ∙ ap (λ (x : Flags). has.token.label.0 == m.0 && flags_eq x f) (sym has.flags)
    ∙ ap (is_dressed m f) (sym has.is)

-- THE PARTS

raised : (top : ℕ) (p : Pid) (l : LocalState) (x : Start) (n : Label) (count : ℕ) (f : Flags)
    → ((m : Label) (g : Flags) → is_dressed m g x.token ≡ is_dressed m g l.token)
    → x.clock ≡ l.clock
    → l.clock ≤ count → count ≤ top → Reaches top p l (raise p x n count f) count l.last n f
raised top p l x n count f same now least within =
    elim (nat_lt x.clock count) as (λ b. nat_lt x.clock count ≡ b → Reaches top p l
    (cond b (dress p x.token n quiet ++ (silent_prints p (count - x.clock)
    ++ dress p (Some (unstamped_token p n quiet)) n f))
    (dress p x.token n f)) count l.last n f) [
      | true ↦ λ e.
          let less = ltb-true x.clock count e in
          let one = dressed top p l x.token n quiet (same n quiet) in
          let here = one.clocked in
          let two = silent_reaches top p (count - x.clock) one.end n one.has (omega arith) in
          let there = two.clocked in
          let three = dressed top p two.end (Some (unstamped_token p n quiet)) n f
          (alike n quiet p two.end two.has n f) in
          let clock : two.end.clock ≡ count = omega arith in
          both_reach one (both_reach two three clock (two.lasted ∙ one.lasted)) refl refl
      | false ↦ λ e.
          let least_too = ltb-false x.clock count e in
          let clock : l.clock ≡ count = omega arith in
          subst (λ c. Reaches top p l (dress p x.token n f) c l.last n f) clock
          (dressed top p l x.token n f (same n f))
    ] refl

-- the acts raise the clock to a count, whatever the token
record Brings (top : ℕ) (p : Pid) (l : LocalState) (acts : List Act) (clock : ℕ) : Type 0 where
  pub end : LocalState
  pub runs : QuietRun top p l acts end
  pub clocked : end.clock ≡ clock
  pub traced : end.traced ≡ l.traced

brought : (top : ℕ) (p : Pid) (l : LocalState) (n : Label) (prev : ℕ) → l.clock ≤ prev → prev ≤ top
    → Brings top p l (if nat_lt l.clock prev then dress p l.token n quiet
    ++ silent_prints p (prev - l.clock) else []) prev
brought top p l n prev least within =
    elim (nat_lt l.clock prev) as (λ b. nat_lt l.clock prev ≡ b
    → Brings top p l (cond b (dress p l.token n quiet ++ silent_prints p (prev - l.clock)) [])
    prev) [
      | true ↦ λ e.
          let less = ltb-true l.clock prev e in
          let one = dressed top p l l.token n quiet refl in
          let here = one.clocked in
          let two = silent_reaches top p (prev - l.clock) one.end n one.has (omega arith) in
          let there = two.clocked in
          record {
            end = two.end;
            runs = quiet_append top p (dress p l.token n quiet) (silent_prints p (prev - l.clock))
                l one.end two.end one.runs two.runs;
            clocked = omega arith;
            traced = two.traced ∙ one.traced;
          }
      | false ↦ λ e.
          let at_least = ltb-false l.clock prev e in
          record { end = l; runs = refl; clocked = omega arith; traced = refl }
    ] refl

renew_reaches : (top : ℕ) (p : Pid) (l : LocalState) (n : Label) (prev : ℕ) → l.clock ≤ prev
    → prev ≤ top → Reaches top p l (renew p (start_of l) n prev) prev prev n quiet
renew_reaches top p l n prev least within =
    let up = brought top p l n prev least within in
    let none : LocalState = record up.end { token = None } in
    let made : Token = record (default_token p) { label = n } in
    let end : LocalState = record none { token = Some made; last = none.clock } in
    let begins : QuietRun top p up.end (act.Clear p ∷ act.Set p (component.Label n) ∷ []) end = (
      none,
      record { reply = reply.Previous up.end.token; alone = refl; acts = λ queue. refl },
      (end, record { reply = reply.Old None; alone = refl; acts = λ queue. refl }, refl),
    ) in
    record {
      end = end;
      runs = quiet_append top p _ (act.Clear p ∷ act.Set p (component.Label n) ∷ []) l up.end end
          up.runs begins;
      has = record { token = made; is = refl; label = refl; flags = refl };
      clocked = up.clocked;
      lasted = up.clocked;
      traced = up.traced;
    }

-- p is ready: its clock is one below the count, its last count is prev, and its token has the label
-- and the flags
pub is_ready : (top : ℕ) (p : Pid) (l : LocalState) (n : Label) (s : Serial) (f : Flags)
    → s.prev < s.this → s.this ≤ top → l.clock < s.this → (s.prev ≡ l.last) ⊎ (l.clock ≤ s.prev)
    → Reaches top p l (ready p (start_of l) n s f) (s.this - 1) s.prev n f
is_ready top p l n s f rises within below caused =
    let again = renewed_start p (start_of l) n s.prev in
    elim (s.prev == l.last) as (λ b. (s.prev == l.last) ≡ b → Reaches top p l
    (cond b (raise p (start_of l) n (s.this - 1) f)
    (renew p (start_of l) n s.prev ++ raise p again n (s.this - 1) f)) (s.this - 1) s.prev n f) [
      | true ↦ λ e.
          subst (λ k. Reaches top p l (raise p (start_of l) n (s.this - 1) f) (s.this - 1) k n f)
          (sym (eqb-true s.prev l.last e))
          (raised top p l (start_of l) n (s.this - 1) f (λ m g. refl) refl (omega arith)
          (omega arith))
      | false ↦ λ e.
          let least : l.clock ≤ s.prev = elim caused [
            | inl same ↦ absurd (false≢true (sym e ∙ eq-eqb s.prev l.last same))
            | inr least ↦ least
          ] in
          let one = renew_reaches top p l n s.prev least (omega arith) in
          let here = one.clocked in
          let two = raised top p one.end again n (s.this - 1) f
          (alike n quiet p one.end one.has) (omega arith) (omega arith) (omega arith) in
          both_reach one two refl one.lasted
    ] refl
