-- The links of a pairing say which source and receiver each event has, since each process has one
-- row and its links are in the order of its events.
use Rattle.std.proofs.Common.{◌≡◌, ℕ, ◌<◌, zero, suc, true, false, cond, if◌then◌else◌, List}
use Rattle.std.proofs.Common.{[], ◌∷◌, ◌++◌, length, map, take, find, get_or, Option, None, Some}
use Rattle.std.proofs.Common.{slice_get, option_map, option_and_then, refl, sym, ◌∙◌, ap, arith}
use Rattle.std.specs.List.{AllByRecursion}
use Rattle.std.proofs.lemmas.List.{get_or_default}
use Rattle.std.proofs.lemmas.Option.{same_Some, slice_get-map}
use Rattle.st_core.specs.declared.types.Pid.{Pid}
use Rattle.st_core.specs.declared.types.Kind.TheVariants as kind
use Rattle.st_core.specs.declared.types.Event.{Event}
use Rattle.st_core.specs.Pid.{pid_eq, IsRising}
use Rattle.st_core.specs.Run.{Stream, pids_of}
use Rattle.st_core.specs.Streams.{stream_of}
use Rattle.st_core.proofs.ForCallers.{above_apart, pid_eq-true, pid_eq-same, place_within}
use Rattle.st_pair.specs.declared.answer.Source.{Source}
use Rattle.st_pair.specs.declared.pairing.Link.{Link}
use Rattle.st_pair.specs.Places.{event_at, is_stamp}
use Rattle.st_pair.specs.Pairing.{receive_of, stamp_of, source_of, source_at, receiver_at, is_send}
use Rattle.st_pair.specs.Links.{ProcessLinks, sent_link, received_link, link_of, links_in}
use Rattle.st_pair.specs.Links.{pairing_of, IsPairing, link_rows, link_at, source_in, receiver_in}
use Rattle.st_pair.proofs.Firsts.{events_in}

-- ROWS

pub row_missing : (ps : List Pid) (ls : List (List Link)) (p : Pid)
    → AllByRecursion (λ q. pid_eq q p ≡ false) ps
    → find (λ (x : ProcessLinks). pid_eq x.pid p) (link_rows ps ls) ≡ None
row_missing [] ls p all = refl
row_missing (q ∷ ps) [] p all = refl
row_missing (q ∷ ps) (l ∷ ls) p all = rw all.0 (row_missing ps ls p all.1)

pub row_found : (ps : List Pid) (ls : List (List Link)) (p : Pid) (i : ℕ) → length ls ≡ length ps
    → IsRising ps
    → slice_get ps i ≡ Some p → find (λ (x : ProcessLinks). pid_eq x.pid p) (link_rows ps ls)
    ≡ Some (record { pid = p; links = get_or ls i [] })
row_found [] ls p i even rising at = absurd (cc)
row_found (q ∷ ps) [] p i even rising at = absurd (omega arith)
row_found (q ∷ ps) (l ∷ ls) p zero even rising at = let same = same_Some q p at in
    rw (same, pid_eq-same p) refl
row_found (q ∷ ps) (l ∷ ls) p (suc i) even rising at =
    rw (above_apart ps q p i rising.0 at) (row_found ps ls p i (omega arith) rising.1 at)

abbrev row_links : Option ProcessLinks → List Link
row_links o = elim o [ None ↦ [] | Some x ↦ x.links ]

pub row_none : (ps : List Pid) (ls : List (List Link)) (p : Pid) (i : ℕ)
    → AllByRecursion (λ q. pid_eq q p ≡ false) ps → None ≡ link_at (link_rows ps ls) p i
row_none ps ls p i all =
    sym (ap (λ (o : Option ProcessLinks). slice_get (row_links o) i) (row_missing ps ls p all))

pub row_read : (ps : List Pid) (ls : List (List Link)) (p : Pid) (k i : ℕ) (read : List Link)
    → length ls ≡ length ps
    → IsRising ps → slice_get ps k ≡ Some p → read ≡ get_or ls k read
    → slice_get read i ≡ link_at (link_rows ps ls) p i
row_read ps ls p k i read even rising at is =
    let below = place_within ps k p at in
    let within : k < length ls = omega arith in
    ap (λ (l : List Link). slice_get l i) (is ∙ get_or_default ls k read [] within)
    ∙ sym (ap (λ (o : Option ProcessLinks). slice_get (row_links o) i)
    (row_found ps ls p k even rising at))

pub rows_linked : (all streams : List Stream)
    → link_rows (pids_of streams) (map (links_in all) streams) ≡ pairing_of all streams
rows_linked all [] = refl
rows_linked all (s ∷ streams) =
    ap (λ (xs : List ProcessLinks). record { pid = s.pid; links = links_in all s } ∷ xs)
    (rows_linked all streams)

-- ONE PROCESS MORE

pub take_map : {A B : Type 0} (f : A → B) (xs : List A) (k : ℕ) (x : A) → slice_get xs k ≡ Some x
    → map f (take (suc k) xs) ≡ map f (take k xs) ++ f x ∷ []
take_map f [] k x at = absurd (cc)
take_map f (y ∷ xs) zero x at = ap (λ z. f z ∷ []) (same_Some y x at)
take_map f (y ∷ xs) (suc k) x at = ap (λ zs. f y ∷ zs) (take_map f xs k x at)

-- WHAT A LINK SAYS

link_at_linked : (all streams : List Stream) (p : Pid) (i : ℕ)
    → link_at (pairing_of all streams) p i ≡ option_map (link_of all p) (event_at streams p i)
link_at_linked all [] p i = refl
link_at_linked all (s ∷ streams) p i = elim (pid_eq s.pid p)
    as (λ b. pid_eq s.pid p ≡ b → slice_get
    (row_links (cond b (Some (record { pid = s.pid; links = links_in all s }))
    (find (λ (x : ProcessLinks). pid_eq x.pid p) (pairing_of all streams)))) i
    ≡ option_map (link_of all p)
    (slice_get (events_in (cond b (Some s) (stream_of streams p))) i)) [
      | true ↦ λ e. slice_get-map (link_of all s.pid) s.events i
          ∙ ap (λ (q : Pid). option_map (link_of all q) (slice_get s.events i))
          (pid_eq-true s.pid p e)
      | false ↦ λ e. link_at_linked all streams p i
    ] refl

source_link : (streams : List Stream) (p : Pid) (e : Event)
    → source_in (link_of streams p e) ≡ (if is_stamp e then None else Some (source_of streams e))
source_link streams p e = elim e.kind
    as (λ k. source_in (elim k [
      | kind.Send ↦ sent_link (receive_of streams p e.serial.this)
      | kind.Receive ↦
          received_link e.from (stamp_of streams e.from e.serial.this)
      | kind.Print ↦
          Rattle.st_pair.specs.declared.pairing.Link.TheVariants.Printed
    ])
    ≡ cond (elim k [ kind.Send ↦ true | kind.Receive ↦ false | kind.Print ↦ true ]) None
    (Some (source_of streams e))) [
      | kind.Send ↦ elim (receive_of streams p e.serial.this)
          as (λ o. source_in (sent_link o) ≡ None) [ None ↦ refl | Some at ↦ refl ]
      | kind.Receive ↦ elim (stamp_of streams e.from e.serial.this)
          as (λ o. source_in (received_link e.from o)
          ≡ Some (elim o [
            | None ↦ Rattle.st_pair.specs.declared.answer.Source.TheVariants.Hidden
            | Some f ↦
                Rattle.st_pair.specs.declared.answer.Source.TheVariants.Event e.from f.0
          ])) [ None ↦ refl | Some f ↦ refl ]
      | kind.Print ↦ refl
    ]

receiver_link : (streams : List Stream) (p : Pid) (e : Event)
    → receiver_in (link_of streams p e)
    ≡ (if is_send e then receive_of streams p e.serial.this else None)
receiver_link streams p e = elim e.kind
    as (λ k. receiver_in (elim k [
      | kind.Send ↦ sent_link (receive_of streams p e.serial.this)
      | kind.Receive ↦
          received_link e.from (stamp_of streams e.from e.serial.this)
      | kind.Print ↦
          Rattle.st_pair.specs.declared.pairing.Link.TheVariants.Printed
    ])
    ≡ cond (elim k [ kind.Send ↦ true | kind.Receive ↦ false | kind.Print ↦ false ])
    (receive_of streams p e.serial.this) None) [
      | kind.Send ↦ elim (receive_of streams p e.serial.this)
          as (λ o. receiver_in (sent_link o) ≡ o) [ None ↦ refl | Some at ↦ refl ]
      | kind.Receive ↦ elim (stamp_of streams e.from e.serial.this)
          as (λ o. receiver_in (received_link e.from o) ≡ None) [ None ↦ refl | Some f ↦ refl ]
      | kind.Print ↦ refl
    ]

module _ (streams : List Stream) (pairing : List ProcessLinks) (p : Pid) (i : ℕ)
    (made : IsPairing streams pairing) where
  read_link : link_at pairing p i ≡ option_map (link_of streams p) (event_at streams p i)
  read_link = ap (λ (x : List ProcessLinks). link_at x p i) made.links
      ∙ link_at_linked streams streams p i

  pub source_read : option_and_then source_in (link_at pairing p i) ≡ source_at streams p i
  source_read = ap (option_and_then source_in) read_link ∙ elim (event_at streams p i)
      as (λ o. option_and_then source_in (option_map (link_of streams p) o)
      ≡ option_and_then (λ (e : Event). if is_stamp e then None else Some (source_of streams e))
      o) [
        | None ↦
            refl
        | Some e ↦ source_link streams p e
      ]

  pub receiver_read : option_and_then receiver_in (link_at pairing p i) ≡ receiver_at streams p i
  receiver_read = ap (option_and_then receiver_in) read_link ∙ elim (event_at streams p i)
      as (λ o. option_and_then receiver_in (option_map (link_of streams p) o)
      ≡ option_and_then (λ (e : Event). if is_send e then receive_of streams p e.serial.this else
      None) o) [
        | None ↦
            refl
        | Some e ↦ receiver_link streams p e
      ]
