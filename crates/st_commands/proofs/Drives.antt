-- A record of the scripts has all that status 0 of `drive` means. An act of a text can be refused
-- only as `Stray`: its actor and receiver are listed, and a text has fewer acts than clocks and
-- ranks have counts.
use Rattle.std.proofs.Common.{◌≡◌, ℕ, ◌*◌, ◌<◌, ◌≤◌, true, List, [], ◌∷◌, length, map, refl, sym}
use Rattle.std.proofs.Common.{subst, arith, Some, slice_get}
use Rattle.std.specs.Prelude.{All, zip, count_by}
use Rattle.std.specs.List.{list_all}
use Rattle.std.proofs.lemmas.List.{length-map}
use Rattle.std.proofs.lemmas.List.Elements.{All-nil, All-cons, All-filter, filter_passes}
use Rattle.std.proofs.lemmas.List.Sums.{AllPass-from_list_all, sum_by-cons, length-filter}
use Rattle.std.proofs.lemmas.List.Sums.{count_by-le-length}
use Rattle.st_core.specs.declared.types.Pid.{Pid}
use Rattle.st_core.specs.declared.types.Act.{Act}
use Rattle.st_core.specs.Pid.{pid_eq}
use Rattle.st_core.specs.Run.{Stream, pids_of}
use Rattle.st_core.specs.Step.{actor}
use Rattle.st_core.proofs.ForCallers.{All_at, pid_same}
use Rattle.st_runtime.specs.declared.fault.ActFault.{ActFault}
use Rattle.st_runtime.specs.declared.fault.ActFault.TheVariants as act
use Rattle.st_runtime.specs.declared.fault.DriveFault.{DriveFault}
use Rattle.st_runtime.specs.declared.fault.DriveFault.TheVariants as drive
use Rattle.st_runtime.specs.declared.join.record.Record.{Record}
use Rattle.st_runtime.specs.Driven.{IsDriveFault, acts_by, acts_in, stamps_in}
use Rattle.st_runtime.specs.System.{knows, is_stamping}
use Rattle.st_text.specs.declared.limits.Limits.{Limits}
use Rattle.st_text.specs.Text.{Contents, is_listed}
use Rattle.st_commands.specs.Output.{Output}
use Rattle.st_commands.specs.Checked.{top, Spells}
use Rattle.st_commands.specs.Command.{ReaderCall, Owes, OfBytes, ForMemory}
use Rattle.st_commands.specs.Parts.{DrivesTo, Records, Refuses, NoRoomToDrive, OfBundle}
use Rattle.st_commands.specs.Parts.{drive_refused}
use Rattle.st_commands.specs.Meaning.{MeansDriven, MeansStray}
use Rattle.st_commands.specs.Laws.{DrivenMeans, RecordedIsYes}
use Rattle.st_commands.specs.Recorded.{ranks, scripts_of, HasRecord, IsRecorded, record_output}
use Rattle.st_commands.specs.Recorded as records
use Rattle.st_commands.proofs.Meanings.{fault_status_high, shown_is_yes}
use Rattle.st_commands.proofs.Deliveries.{WasRead, owes_bundle}

-- ---- the scripts of few acts hold few acts

-- each script has at most all acts
acts_below : (ps : List Pid) (xs : List Act) → acts_in (scripts_of ps xs) ≤ length ps * length xs
acts_below [] xs = omega arith
acts_below (p ∷ ps) xs =
    let here = length-filter (λ a. pid_eq (actor a) p) xs in
    let few = count_by-le-length (λ a. pid_eq (actor a) p) xs in
    let rest = acts_below ps xs in
    let sum = sum_by-cons (λ (script : List Act). length script) (acts_by p xs)
    (scripts_of ps xs) in
    omega arith

stamps_below : (scripts : List (List Act)) → stamps_in scripts ≤ acts_in scripts
stamps_below [] = omega arith
stamps_below (s ∷ ss) =
    let here = count_by-le-length is_stamping s in
    let rest = stamps_below ss in
    let stamps = sum_by-cons (λ (script : List Act). count_by is_stamping script) s ss in
    let acts = sum_by-cons (λ (script : List Act). length script) s ss in
    omega arith

product : (m n a b : ℕ) → m ≤ a → n ≤ b → m * n ≤ a * b
product m n a b h k = grind arith

-- a reader's limits are numbers of 32 bits, so what it reads has fewer acts than clocks and ranks
-- have counts
pub record AreSmall (limits : Limits) : Type 0 where
  pub processes : limits.processes ≤ 4294967295
  pub acts : limits.acts ≤ 4294967295

few_acts : (limits : Limits) (bytes : List ℕ) (streams : List Stream) (acts : List Act)
    → AreSmall limits
    → Spells limits bytes streams (Some acts) → acts_in (scripts_of (pids_of streams) acts) < top
few_acts limits bytes streams acts small s =
    let below = acts_below (pids_of streams) acts in
    let pids : length (pids_of streams) ≤ 4294967295 =
    omega (
      arith,
      small.processes,
      s.within.processes,
      length-map streams (λ (x : Stream). x.pid),
    ) in
    let given : length acts ≤ 4294967295 = omega (arith, small.acts, s.within.acts) in
    let most = product (length (pids_of streams)) (length acts) 4294967295 4294967295 pids given in
    omega arith

-- ---- an act that was refused

-- the script at a process's place is the process's own acts
zipped : (ps : List Pid) (xs : List Act)
    → All (λ (x : Pid × List Act). x.1 ≡ acts_by x.0 xs) (zip ps (scripts_of ps xs))
zipped [] xs = All-nil (λ (x : Pid × List Act). x.1 ≡ acts_by x.0 xs)
zipped (p ∷ ps) xs =
    All-cons (λ (x : Pid × List Act). x.1 ≡ acts_by x.0 xs) (p, acts_by p xs)
    (zip ps (scripts_of ps xs)) refl (zipped ps xs)

script_is : (ps : List Pid) (xs : List Act) (p : Pid) (script : List Act) (k : ℕ)
    → slice_get (zip ps (scripts_of ps xs)) k ≡ Some (p, script) → script ≡ acts_by p xs
script_is ps xs p script k at =
    All_at (λ (x : Pid × List Act). x.1 ≡ acts_by x.0 xs) (zip ps (scripts_of ps xs)) k
    (p, script) at (zipped ps xs)

-- a process is the actor of each act in its script; each act is in the text, so its actor and its
-- receiver are listed
own_act : (xs : List Act) (p : Pid) (n : ℕ) (a : Act) → slice_get (acts_by p xs) n ≡ Some a
    → actor a ≡ p
own_act xs p n a at =
    pid_same (actor a) p (All_at (λ x. pid_eq (actor x) p ≡ true) (acts_by p xs) n a at
    (filter_passes (λ x. pid_eq (actor x) p) xs))

known_act : (ps : List Pid) (xs : List Act) (p : Pid) (n : ℕ) (a : Act)
    → list_all (is_listed ps) xs ≡ true → slice_get (acts_by p xs) n ≡ Some a → knows ps a ≡ true
known_act ps xs p n a listed at =
    All_at (λ x. is_listed ps x ≡ true) (acts_by p xs) n a at
    (All-filter (λ x. pid_eq (actor x) p) (λ x. is_listed ps x ≡ true) xs
    (AllPass-from_list_all (is_listed ps) xs listed))

module _ (limits : Limits) (small : AreSmall limits) (bytes : List ℕ) (streams : List Stream)
    (acts : List Act) (s : Spells limits bytes streams (Some acts)) (p : Pid) (n : ℕ) where
  abbrev scripts : List (List Act)
  scripts = scripts_of (pids_of streams) acts

  stray : (f : ActFault) → IsDriveFault top ranks (pids_of streams) scripts (drive.Act p n f)
      → records.HasStray limits bytes p n
  stray act.Stray h = record { streams = streams; acts = acts; spelled = s; refused = h }
  stray act.Memory h = absurd h.1.possible
  stray act.ClockFull h =
      let most : top < stamps_in scripts = h.1.possible in
      let stamps = stamps_below scripts in
      let few = few_acts limits bytes streams acts small s in
      absurd (omega arith)
  stray act.RankFull h =
      let most : ranks < acts_in scripts = h.1.possible in
      let few = few_acts limits bytes streams acts small s in
      absurd (omega arith)
  stray act.NotYours h =
      let w = h.1 in
      let at = subst (λ (script : List Act). slice_get script n ≡ Some w.refused.asked)
      (script_is (pids_of streams) acts p w.script w.number w.scripted) w.refused.place in
      absurd (w.refused.not_yours.0 refl (own_act acts p n w.refused.asked at))
  stray act.Unknown h =
      let w = h.1 in
      let at = subst (λ (script : List Act). slice_get script n ≡ Some w.refused.asked)
      (script_is (pids_of streams) acts p w.script w.number w.scripted) w.refused.place in
      let known = known_act (pids_of streams) acts p n w.refused.asked s.text.bundle.listed at in
      let unknown = (w.refused.unknown.0 refl).1 in
      absurd (cc)

-- ---- a record

-- if two lists of scripts are equal, the two scripts of each process are
same_scripts : (f g : Pid → List Act) (ps : List Pid) → map f ps ≡ map g ps
    → All (λ p. f p ≡ g p) ps
same_scripts f g [] e = All-nil (λ p. f p ≡ g p)
same_scripts f g (p ∷ ps) e =
    let here : f p ≡ g p = cc in
    let rest : map f ps ≡ map g ps = cc in
    All-cons (λ q. f q ≡ g q) p ps here (same_scripts f g ps rest)

recorded_means : (limits : Limits) (bytes : List ℕ) (r : Record) → HasRecord limits bytes r
    → MeansDriven limits bytes (record_output r)
recorded_means limits bytes r h =
    let d = h.driven in
    record {
      listed = h.streams;
      given = h.acts;
      streams = r.streams;
      acts = r.acts;
      outcomes = d.shows.0;
      spelled = h.spelled;
      runs = d.shows.1;
      pids = d.listed;
      reports = d.shows.2;
      own = subst (All (λ p. acts_by p r.acts ≡ acts_by p h.acts)) (sym d.listed)
          (same_scripts (λ p. acts_by p r.acts) (λ p. acts_by p h.acts) (pids_of h.streams) d.made);
      text = refl;
    }

pub driven_means : DrivenMeans
driven_means limits bytes out (records.Recorded b r h) e = recorded_means limits b r h
driven_means limits bytes out (records.Strayed b p n h) e = absurd (omega (arith, e))
driven_means limits bytes out (records.Unstarted b h) e = absurd (omega (arith, e))
driven_means limits bytes out (records.Unjoined b h) e = absurd (omega (arith, e))
driven_means limits bytes out (records.Lacking b n) e = absurd (omega (arith, e))
driven_means limits bytes out (records.Faulty b f is) e =
    let high = fault_status_high f in absurd (omega arith)

stray_of : (limits : Limits) (bytes : List ℕ) (p : Pid) (n : ℕ) → records.HasStray limits bytes p n
    → MeansStray limits bytes (records.act_fault p n)
stray_of limits bytes p n h = record {
  listed = h.streams;
  given = h.acts;
  pid = p;
  number = n;
  spelled = h.spelled;
  refused = h.refused;
  text = refl;
}

pub stray_means : (limits : Limits) (bytes : List ℕ) (out : Output) → IsRecorded limits bytes out
    → out.status ≡ 1 → MeansStray limits bytes out
stray_means limits bytes out (records.Recorded b r h) e = absurd (omega (arith, e))
stray_means limits bytes out (records.Strayed b p n h) e = stray_of limits b p n h
stray_means limits bytes out (records.Unstarted b h) e = absurd (omega (arith, e))
stray_means limits bytes out (records.Unjoined b h) e = absurd (omega (arith, e))
stray_means limits bytes out (records.Lacking b n) e = absurd (omega (arith, e))
stray_means limits bytes out (records.Faulty b f is) e =
    let high = fault_status_high f in absurd (omega arith)

pub recorded_is_yes : RecordedIsYes
recorded_is_yes limits others bytes r h spelled out is =
    shown_is_yes others (record_output r).text r.streams r.acts out spelled h.driven.shows is

-- ---- what is owed

module _ (limits : Limits) (small : AreSmall limits) {R : Type 0} (reader : ReaderCall R)
    (c : Contents) (h : WasRead limits reader c) where
  owes_refused : (acts : List Act) → Spells limits h.bytes c.streams (Some acts) → (f : DriveFault)
      → IsDriveFault top ranks (pids_of c.streams) (scripts_of (pids_of c.streams) acts) f
      → Owes limits reader (IsRecorded limits) (drive_refused f)
  owes_refused acts s drive.Memory is = ForMemory h.bytes h.all h.small
  owes_refused acts s (drive.Act p n f) is =
      OfBytes h.bytes (records.act_fault p n) h.all
      (records.Strayed h.bytes p n (stray limits small h.bytes c.streams acts s p n f is))
  owes_refused acts s (drive.Join f) is =
      OfBytes h.bytes records.join_fault h.all
      (records.Unjoined h.bytes (record { streams = c.streams; acts = acts; spelled = s }))
  owes_refused acts s drive.Thread is =
      OfBytes h.bytes records.thread_fault h.all
      (records.Unstarted h.bytes (record { streams = c.streams; acts = acts; spelled = s }))
  owes_refused acts s drive.NotRising falls = absurd (falls s.text.bundle.streams.draft.rising)

  owes_driven : (acts : List Act) (out : Output) → Spells limits h.bytes c.streams (Some acts)
      → DrivesTo c.streams acts out → Owes limits reader (IsRecorded limits) out
  owes_driven acts out s (Records r is) =
      OfBytes h.bytes (record_output r) h.all
      (records.Recorded h.bytes r (record {
        streams = c.streams;
        acts = acts;
        spelled = s;
        driven = is;
      }))
  owes_driven acts out s (Refuses f is) = owes_refused acts s f is
  owes_driven acts out s NoRoomToDrive = ForMemory h.bytes h.all h.small

  pub owes_drive : (out : Output) → OfBundle DrivesTo c out
      → Owes limits reader (IsRecorded limits) out
  owes_drive =
      owes_bundle limits reader (IsRecorded limits) DrivesTo c h owes_driven
      (λ s. records.Lacking h.bytes (record { streams = c.streams; spelled = s }))
