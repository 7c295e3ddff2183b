-- Counts and stored lists are read and written one mailbox at a time, so what holds of one wiped
-- front holds of the mailbox that a call names, and all others stay.
use Rattle.std.proofs.Common.{◌≡◌, ℕ, zero, suc, ◌+◌, ◌<◌, ◌≤◌, Bool, false, List, [], ◌∷◌, ◌++◌}
use Rattle.std.proofs.Common.{length, map, drop, get_or, set, remove, replicate, Option, None, Some}
use Rattle.std.proofs.Common.{option_map, position, slice_get, refl, sym, ◌∙◌, ap, arith}
use Rattle.std.proofs.lemmas.List.{get_or_read, set-get_or, length_push}
use Rattle.std.proofs.lemmas.List.Edits.{length-remove}
use Rattle.std.proofs.lemmas.Option.{slice_get-get_or, slice_get_past, slice_get_within}
use Rattle.st_core.specs.declared.types.Message.{Message}
use Rattle.st_core.specs.declared.types.Token.{Token}
use Rattle.st_core.specs.Step.{untraced}
use Rattle.st_mail.specs.Mail.{queue_in}
use Rattle.st_mail.specs.Wiped.{front_wiped, fronts_wiped, AreFronts}
use Rattle.st_mail.proofs.Fronts.{length-front, get-wiped, get-kept, wipe_all, front-push}
use Rattle.st_mail.proofs.Fronts.{remove-wiped, remove-kept}
use Rattle.st_mail.proofs.Fronts.{IsBlind, position-blind, position-skips}

-- a list has no place from its length on
none_past : (ms : List Message) (k : ℕ) → slice_get ms k ≡ None → length ms ≤ k
none_past [] k none = omega arith
none_past (m ∷ ms) zero none = absurd (cc)
none_past (m ∷ ms) (suc k) none = omega (arith, none_past ms k none)

-- EMPTY BOXES

pub empty_fronts : (k : ℕ) → AreFronts (replicate k 0) (replicate k [])
empty_fronts zero = tt
empty_fronts (suc k) = (omega arith, empty_fronts k)

pub empty_boxes : (k : ℕ) → fronts_wiped (replicate k 0) (replicate k []) ≡ replicate k []
empty_boxes zero = refl
empty_boxes (suc k) = ap (λ rest. [] ∷ rest) (empty_boxes k)

-- BY PLACES

-- there are as many counts and as many boxes as stored lists
length_counts : (counts : List ℕ) (stored : List (List Message)) → AreFronts counts stored
    → length counts ≡ length stored
length_counts [] [] fronts = refl
length_counts [] (queue ∷ stored) fronts = absurd fronts
length_counts (count ∷ counts) [] fronts = absurd fronts
length_counts (count ∷ counts) (queue ∷ stored) fronts =
    ap suc (length_counts counts stored fronts.1)

length_boxes : (counts : List ℕ) (stored : List (List Message)) → AreFronts counts stored
    → length (fronts_wiped counts stored) ≡ length stored
length_boxes [] [] fronts = refl
length_boxes [] (queue ∷ stored) fronts = absurd fronts
length_boxes (count ∷ counts) [] fronts = absurd fronts
length_boxes (count ∷ counts) (queue ∷ stored) fronts = ap suc (length_boxes counts stored fronts.1)

-- each box is its stored list with a wiped front
box_at : (counts : List ℕ) (stored : List (List Message)) (i : ℕ) → AreFronts counts stored
    → i < length stored
    → queue_in (fronts_wiped counts stored) i ≡ front_wiped (get_or counts i 0) (queue_in stored i)
box_at [] [] i fronts within = absurd (omega arith)
box_at [] (queue ∷ stored) i fronts within = absurd fronts
box_at (count ∷ counts) [] i fronts within = absurd fronts
box_at (count ∷ counts) (queue ∷ stored) zero fronts within = refl
box_at (count ∷ counts) (queue ∷ stored) (suc i) fronts within =
    box_at counts stored i fronts.1 (omega arith)

-- each count is at most the length of the stored list
count_at : (counts : List ℕ) (stored : List (List Message)) (i : ℕ) → AreFronts counts stored
    → i < length stored
    → get_or counts i 0 ≤ length (queue_in stored i)
count_at [] [] i fronts within = absurd (omega arith)
count_at [] (queue ∷ stored) i fronts within = absurd fronts
count_at (count ∷ counts) [] i fronts within = absurd fronts
count_at (count ∷ counts) (queue ∷ stored) zero fronts within = fronts.0
count_at (count ∷ counts) (queue ∷ stored) (suc i) fronts within =
    count_at counts stored i fronts.1 (omega arith)

-- writing a count and a list at one place writes one box there
box_set : (counts : List ℕ) (stored : List (List Message)) (i count : ℕ) (queue : List Message)
    → fronts_wiped (set counts i count) (set stored i queue)
    ≡ set (fronts_wiped counts stored) i (front_wiped count queue)
box_set [] stored i count queue = refl
box_set (old ∷ counts) [] zero count queue = refl
box_set (old ∷ counts) [] (suc i) count queue = refl
box_set (old ∷ counts) (was ∷ stored) zero count queue = refl
box_set (old ∷ counts) (was ∷ stored) (suc i) count queue =
    ap (λ rest. front_wiped old was ∷ rest) (box_set counts stored i count queue)

fronts_set : (counts : List ℕ) (stored : List (List Message)) (i count : ℕ) (queue : List Message)
    → AreFronts counts stored → count ≤ length queue
    → AreFronts (set counts i count) (set stored i queue)
fronts_set [] [] i count queue fronts le = tt
fronts_set [] (was ∷ stored) i count queue fronts le = absurd fronts
fronts_set (old ∷ counts) [] i count queue fronts le = absurd fronts
fronts_set (old ∷ counts) (was ∷ stored) zero count queue fronts le = (le, fronts.1)
fronts_set (old ∷ counts) (was ∷ stored) (suc i) count queue fronts le =
    (fronts.0, fronts_set counts stored i count queue fronts.1 le)

-- THE BOX THAT A CALL NAMES

module _ (counts : List ℕ) (stored : List (List Message)) (fronts : AreFronts counts stored)
    (boxes : List (List Message)) (view : fronts_wiped counts stored ≡ boxes)
    (i : ℕ) (within : i < length boxes) where
  -- the mailbox has a stored list, and a count
  pub in_stored : i < length stored
  in_stored = omega (arith, length_boxes counts stored fronts, ap length view)

  pub in_counts : i < length counts
  in_counts = omega (arith, in_stored, length_counts counts stored fronts)

  -- a read returns its count
  pub read_count : (count : ℕ) → count ≡ get_or counts i count → count ≡ get_or counts i 0
  read_count count read = get_or_read counts i count in_counts read 0

  -- its stored list
  abbrev list : List Message
  list = queue_in stored i

  list_stays : set stored i list ≡ stored
  list_stays = set-get_or stored i []

  module _ (count : ℕ) (is_count : count ≡ get_or counts i 0) where
    count_within : count ≤ length list
    count_within = rw is_count (count_at counts stored i fronts in_stored)

    count_stays : set counts i count ≡ counts
    count_stays = ap (set counts i) is_count ∙ set-get_or counts i 0

    pub queue_is : queue_in boxes i ≡ front_wiped count list
    queue_is = rw (← view, is_count) (box_at counts stored i fronts in_stored)

    -- writing its count and its list writes its box
    written : (new : ℕ) (queue : List Message)
        → fronts_wiped (set counts i new) (set stored i queue) ≡ set boxes i (front_wiped new queue)
    written new queue = box_set counts stored i new queue
        ∙ ap (λ bs. set bs i (front_wiped new queue)) view

    written_fronts : (new : ℕ) (queue : List Message) → new ≤ length queue
        → AreFronts (set counts i new) (set stored i queue)
    written_fronts new queue le = fronts_set counts stored i new queue fronts le

    -- what is read of the mailbox

    pub len_is : length list ≡ length (queue_in boxes i)
    len_is = sym (length-front count list) ∙ ap length (sym queue_is)

    pub get_none : (k : ℕ) → slice_get list k ≡ None → slice_get (queue_in boxes i) k ≡ None
    get_none k none = slice_get_past (queue_in boxes i) k
        (omega (arith, len_is, none_past list k none))

    pub get_some : (k : ℕ) (m : Message) → slice_get (queue_in boxes i) k ≡ Some m
        → slice_get list k ≡ Some (get_or list k m)
    get_some k m there =
        slice_get-get_or list k m
        (omega (arith, len_is, slice_get_within (queue_in boxes i) k m there))

    pub get_front : (k : ℕ) (m : Message) → slice_get list k ≡ Some m → k < count
        → slice_get (queue_in boxes i) k ≡ Some (untraced m)
    get_front k m there below =
        ap (λ ms. slice_get ms k) queue_is ∙ get-wiped count k list below
        ∙ ap (option_map untraced) there

    pub get_behind : (k : ℕ) → count ≤ k → slice_get (queue_in boxes i) k ≡ slice_get list k
    get_behind k behind = ap (λ ms. slice_get ms k) queue_is ∙ get-kept count k list behind

    pub found : (test : Message → Bool) → IsBlind test
        → position test list ≡ position test (queue_in boxes i)
    found test blind = position-blind test count list blind ∙ ap (position test) (sym queue_is)

    pub found_behind : (test : Option Token → Bool) → test None ≡ false
        → position (λ m. test m.token) (queue_in boxes i)
        ≡ option_map (λ k. count + k) (position (λ m. test m.token) (drop count list))
    found_behind test fails =
        ap (position (λ m. test m.token)) queue_is ∙ position-skips test fails count list

    -- what is changed in the mailbox

    pub pushed : (m : Message)
        → fronts_wiped counts (set stored i (list ++ m ∷ []))
        ≡ set boxes i (queue_in boxes i ++ m ∷ [])
    pushed m =
        ap (λ cs. fronts_wiped cs (set stored i (list ++ m ∷ []))) (sym count_stays)
        ∙ written count (list ++ m ∷ [])
        ∙ ap (set boxes i) (front-push count list m count_within)
        ∙ ap (λ ms. set boxes i (ms ++ m ∷ [])) (sym queue_is)

    pub pushed_fronts : (m : Message) → AreFronts counts (set stored i (list ++ m ∷ []))
    pushed_fronts m =
        let le : count ≤ length (list ++ m ∷ []) =
        omega (arith, count_within, length_push list m) in
        rw count_stays at (written_fronts count (list ++ m ∷ []) le)

    pub wiped : fronts_wiped (set counts i (length list)) stored
        ≡ set boxes i (map untraced (queue_in boxes i))
    wiped =
        ap (fronts_wiped (set counts i (length list))) (sym list_stays)
        ∙ written (length list) list
        ∙ ap (set boxes i) (wipe_all count list)
        ∙ ap (λ ms. set boxes i (map untraced ms)) (sym queue_is)

    pub wiped_fronts : AreFronts (set counts i (length list)) stored
    wiped_fronts = rw list_stays at (written_fronts (length list) list (omega arith))

    module _ (k : ℕ) (m : Message) (there : slice_get list k ≡ Some m) where
      shorter : length (remove list k) + 1 ≡ length list
      shorter = length-remove list k (slice_get_within list k m there)

      -- a take behind the wiped front leaves the count
      pub taken_behind : count ≤ k
          → fronts_wiped counts (set stored i (remove list k))
          ≡ set boxes i (remove (queue_in boxes i) k)
      taken_behind behind =
          ap (λ cs. fronts_wiped cs (set stored i (remove list k))) (sym count_stays)
          ∙ written count (remove list k)
          ∙ ap (set boxes i) (remove-kept count k list behind)
          ∙ ap (λ ms. set boxes i (remove ms k)) (sym queue_is)

      pub taken_behind_fronts : count ≤ k → AreFronts counts (set stored i (remove list k))
      taken_behind_fronts behind =
          let below : k < length list = slice_get_within list k m there in
          let le : count ≤ length (remove list k) = omega (arith, behind, shorter, below) in
          rw count_stays at (written_fronts count (remove list k) le)

      -- a take from the wiped front lowers the count by one
      pub taken_front : (left : ℕ) → left + 1 ≡ count → k < count
          → fronts_wiped (set counts i left) (set stored i (remove list k))
          ≡ set boxes i (remove (queue_in boxes i) k)
      taken_front left less below =
          let next : suc left ≡ count = omega (arith, less) in
          written left (remove list k)
          ∙ ap (set boxes i) (remove-wiped left k list (omega (arith, less, below)))
          ∙ ap (λ c. set boxes i (remove (front_wiped c list) k)) next
          ∙ ap (λ ms. set boxes i (remove ms k)) (sym queue_is)

      pub taken_front_fronts : (left : ℕ) → left + 1 ≡ count
          → AreFronts (set counts i left) (set stored i (remove list k))
      taken_front_fronts left less =
          written_fronts left (remove list k) (omega (arith, less, shorter, count_within))
