-- A record in which each process made its script is one of the driven scripts. A worker's refusal
-- is that of an act of its script.
use Rattle.std.proofs.Common.{◌≡◌, ◌≢◌, ℕ, zero, suc, ◌<◌, ◌≤◌, List, []}
use Rattle.std.proofs.Common.{◌∷◌, length, map, None, refl, sym, ◌∙◌, ap, subst, arith}
use Rattle.std.specs.List.{AllZip, zip}
use Rattle.std.specs.Prelude.{All, Some, take, slice_get}
use Rattle.std.proofs.lemmas.List.Elements.{All-nil, All-cons}
use Rattle.std.proofs.lemmas.Option.{same_Some}
use Rattle.std.proofs.lemmas.Slice.Zip.{seconds-zip}
use Rattle.st_core.specs.declared.types.Act.{Act}
use Rattle.st_core.specs.declared.types.Pid.{Pid}
use Rattle.st_core.specs.Pid.{IsRising}
use Rattle.st_core.specs.Run.{Shows, pids_of, run}
use Rattle.st_core.specs.Streams.{IsStreams}
use Rattle.st_log.specs.declared.entry.Entry.{Entry}
use Rattle.st_runtime.specs.declared.fault.ActFault.{ActFault}
use Rattle.st_runtime.specs.declared.fault.ActFault.TheVariants as fault
use Rattle.st_runtime.specs.declared.join.record.Record.{Record}
use Rattle.st_runtime.specs.declared.driver.worker.Ending.{Ending}
use Rattle.st_runtime.specs.Driven.{acts_by, acts_in, stamps_in, IsDriven, IsOwn, IsRefused}
use Rattle.st_runtime.specs.Driven.{IsPossible, IsWorkerFault}
use Rattle.st_runtime.specs.Joining.{IsScripted}
use Rattle.st_runtime.specs.Pieces.{pids_in}
use Rattle.st_runtime.specs.Pcb.{Control}
use Rattle.st_runtime.specs.Working.{IsPlayed, IsWorked, IsFirstRefusal}
use Rattle.st_runtime.proofs.Runs.{pids_streams}
use Rattle.st_runtime.proofs.Shown.{are_streams}
use Rattle.st_runtime.proofs.Workers.{Job}

-- ---- jobs

-- the outcome of the jobs of an opened system is that of the scripts
pub jobs_worked : (pids system : List Pid) (scripts : List (List Act)) (ts : List Job)
    (ends : List Ending) → system ≡ pids → ts ≡ zip pids scripts
    → AllZip (IsWorked system) ts ends → AllZip (IsWorked pids) (zip pids scripts) ends
jobs_worked pids system scripts ts ends opened given worked =
    subst (λ jobs. AllZip (IsWorked pids) jobs ends) given
    (subst (λ ps. AllZip (IsWorked ps) ts ends) opened worked)

-- ---- workers that met no refusal

is_done : (pids : List Pid) (t : Job) (e : Ending) → IsWorked pids t e → e.fault ≡ None
    → All (IsOwn pids t.0) t.1
is_done pids t e worked none = subst (IsPlayed pids t e.made) none worked.played

scripts_worked : (pids : List Pid) (ts : List Job) (es : List Ending)
    → AllZip (IsWorked pids) ts es → map (λ e. e.script) es ≡ map (λ t. t.1) ts
scripts_worked pids [] [] worked = refl
scripts_worked pids [] (e ∷ es) worked = absurd worked
scripts_worked pids (t ∷ ts) [] worked = absurd worked
scripts_worked pids (t ∷ ts) (e ∷ es) worked =
    λ i. worked.0.script i ∷ scripts_worked pids ts es worked.1 i

-- the scripts that workers gave back are those that they were given
pub scripts_back : (pids : List Pid) (scripts : List (List Act)) (ends : List Ending)
    → length scripts ≡ length pids → AllZip (IsWorked pids) (zip pids scripts) ends
    → map (λ e. e.script) ends ≡ scripts
scripts_back pids scripts ends even worked =
    scripts_worked pids (zip pids scripts) ends worked ∙ seconds-zip pids scripts even

-- ---- the run

pub driven : (top ranks : ℕ) (xs : List Control) (r : Record) (pids : List Pid)
    (scripts : List (List Act)) → IsRising pids → pids_in xs ≡ pids
    → IsScripted top ranks xs scripts r → IsDriven top ranks pids scripts r
driven top ranks xs r pids scripts rising of_pids scripted =
    let logged = scripted.logged in
    let es = logged.entries in
    let acts = map (λ (e : Entry). e.act) es in
    let one = logged.run in
    record {
      logs = xs;
      logged = of_pids;
      kept = scripted.kept;
      whole = scripted.whole;
      entries = es;
      merged = logged.merged;
      acts = logged.acts;
      outcomes = one.outcomes;
      runs = ap (λ ps. run top ps r.acts) (sym of_pids) ∙ ap (λ made. run top (pids_in xs) made)
          logged.acts ∙ one.runs;
      replies = logged.replies ∙ sym one.replies;
      shows = subst (λ made. Shows top r.streams made) (sym logged.acts)
          (subst (λ streams. Shows top streams acts) (sym logged.streams) one.shows);
      streams = subst IsStreams (sym logged.streams)
          (are_streams top xs es (subst IsRising (sym of_pids) rising) one);
      listed = ap pids_of logged.streams ∙ pids_streams xs ∙ of_pids;
      made = ap (λ ps. map (λ p. acts_by p r.acts) ps) (sym of_pids) ∙ scripted.made;
    }

-- ---- a worker's refusal

-- the job of an ending
job_at : (pids : List Pid) (ts : List Job) (es : List Ending) (k : ℕ) (e : Ending)
    → AllZip (IsWorked pids) ts es
    → slice_get es k ≡ Some e → (t : Job) × ((slice_get ts k ≡ Some t) × IsWorked pids t e)
job_at pids [] [] k e worked at = absurd (cc)
job_at pids [] (d ∷ ds) k e worked at = absurd worked
job_at pids (t ∷ ts) [] k e worked at = absurd worked
job_at pids (t ∷ ts) (d ∷ ds) zero e worked at =
    (t, (refl, subst (IsWorked pids t) (same_Some d e at) worked.0))
job_at pids (t ∷ ts) (d ∷ ds) (suc k) e worked at = job_at pids ts ds k e worked.1 at

-- the acts of a script
abbrev AllOwn : List Pid → Job → Type 0
AllOwn pids t = All (IsOwn pids t.0) t.1

-- in jobs whose endings have no refusal, each act is its process's own
own_before : (pids : List Pid) (ts : List Job) (es : List Ending) (k : ℕ)
    → AllZip (IsWorked pids) ts es
    → All (λ (e : Ending). e.fault ≡ None) (take k es) → All (AllOwn pids) (take k ts)
own_before pids ts es zero worked none = All-nil (AllOwn pids)
own_before pids [] es (suc k) worked none = All-nil (AllOwn pids)
own_before pids (t ∷ ts) [] (suc k) worked none = absurd worked
own_before pids (t ∷ ts) (e ∷ es) (suc k) worked none =
    let here = is_done pids t e worked.0 (none 0 e (omega arith)) in
    let rest = own_before pids ts es k worked.1 (λ i d below. none (suc i) d (omega arith)) in
    All-cons (AllOwn pids) t (take k ts) here rest

pub is_possible : (top ranks : ℕ) (scripts : List (List Act)) (f : ActFault) (acts stamps : ℕ)
    → f ≢ fault.Memory → (f ≡ fault.ClockFull → top < stamps) → (f ≡ fault.RankFull → ranks < acts)
    → acts ≤ acts_in scripts → stamps ≤ stamps_in scripts → IsPossible top ranks scripts f
is_possible top ranks scripts fault.Memory acts stamps memory clock rank of_acts of_stamps =
    absurd (memory refl)
is_possible top ranks scripts fault.Unknown acts stamps memory clock rank of_acts of_stamps = tt
is_possible top ranks scripts fault.ClockFull acts stamps memory clock rank of_acts of_stamps =
    let full = clock refl in omega arith
is_possible top ranks scripts fault.RankFull acts stamps memory clock rank of_acts of_stamps =
    let full = rank refl in omega arith
is_possible top ranks scripts fault.NotYours acts stamps memory clock rank of_acts of_stamps = tt
is_possible top ranks scripts fault.Stray acts stamps memory clock rank of_acts of_stamps = tt

pub worker_fault : (top ranks : ℕ) (pids : List Pid) (scripts : List (List Act))
    (ends : List Ending) (p : Pid) (n : ℕ)
    (f g : ActFault) → AllZip (IsWorked pids) (zip pids scripts) ends → IsFirstRefusal ends p n f
    → ((script : List Act) → IsRefused pids p script n f → IsRefused pids p script n g)
    → IsPossible top ranks scripts g → IsWorkerFault top ranks pids scripts p n g
worker_fault top ranks pids scripts ends p n f g worked first told possible =
    let e = first.end in
    let found = job_at pids (zip pids scripts) ends first.number e worked first.among in
    let t = found.0 in
    let whose : t.0 ≡ p = sym found.1.1.pid ∙ first.pid in
    let script = t.1 in
    let refused : IsRefused pids t.0 script e.made f =
    subst (IsPlayed pids t e.made) first.refused found.1.1.played in
    let at_n : IsRefused pids t.0 script n f =
    subst (λ m. IsRefused pids t.0 script m f) first.place refused in
    record {
      number = first.number;
      script = script;
      scripted = subst (λ q. slice_get (zip pids scripts) first.number ≡ Some (q, script)) whose
          found.1.0;
      refused = told script (subst (λ q. IsRefused pids q script n f) whose at_n);
      possible = possible;
      before = own_before pids (zip pids scripts) ends first.number worked first.before;
    }
