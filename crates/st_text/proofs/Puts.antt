-- The bytes that were written, and then those that wait, are the text so far, so each part goes on
-- where the one before stopped.
use Rattle.std.proofs.Common.{◌≡◌, ℕ, ◌+◌, ◌<◌, ◌≤◌, Bool, false, List, [], ◌∷◌, ◌++◌, length, map}
use Rattle.std.proofs.Common.{take, drop, get_or}
use Rattle.std.proofs.Common.{refl, sym, ap, subst, ◌∙◌, append_assoc, inl, inr, arith}
use Rattle.std.specs.List.{flat_map}
use Rattle.std.specs.Prelude.{Result, Ok, Err, OnOk}
use Rattle.std.proofs.lemmas.Bool.{cases_lt}
use Rattle.std.proofs.lemmas.List.{append-nil, length-append, take-append-drop, take_more, take_all}
use Rattle.std.proofs.lemmas.List.Concat.{flat_map-append}
use Rattle.std.specs.Result.{IsErr}
use Rattle.st_core.specs.Device.{InARow, NoCall, OneMore}
use Rattle.st_text.specs.Writing.{WritesPart, WritesText, Goes, WritesOn}

-- calls in a row after calls in a row
pub in_a_row : {S : Type 0} (puts : S → List ℕ → S → Type 0) {a b c : S} {xs ys : List ℕ}
    → InARow puts b ys c
    → InARow puts a xs b → InARow puts a (xs ++ ys) c
in_a_row puts {a} {xs} (NoCall s) first =
    subst (λ (x : List ℕ). InARow puts a x s) (sym (append-nil xs)) first
in_a_row puts {a} {xs} (OneMore d e f more last row call) first =
    subst (λ (x : List ℕ). InARow puts a x f) (append_assoc xs more last)
    (OneMore a e f (xs ++ more) last (in_a_row puts row first) call)

pub put_more : {S : Type 0} (puts : S → List ℕ → S → Type 0) {a b c : S} {bytes done : List ℕ}
    (rest : List ℕ) (n : ℕ)
    → bytes ≡ done ++ rest → InARow puts a done b → puts b (take n rest) c
    → (bytes ≡ (done ++ take n rest) ++ drop n rest) × InARow puts a (done ++ take n rest) c
put_more puts {a} {b} {c} {done} rest n e row call = (
  e ∙ ap (λ (x : List ℕ). done ++ x) (sym (take-append-drop n rest))
      ∙ sym (append_assoc done (take n rest) (drop n rest)),
  OneMore a b c done (take n rest) row call,
)

pub put_none : {S : Type 0} (puts : S → List ℕ → S → Type 0) {a b c : S} {done : List ℕ}
    → InARow puts a done b
    → puts b [] c → InARow puts a done c
put_none puts {a} {b} {c} {done} row call =
    subst (λ (x : List ℕ). InARow puts a x c) (append-nil done) (OneMore a b c done [] row call)

-- the bytes that are done were put in a row, and the rest is left
pub record HasPut {S : Type 0} (puts : S → List ℕ → S → Type 0) (failed : S → Bool)
    (bytes rest : List ℕ)
    (old now : S) : Type 0 where
  pub done : List ℕ
  pub parts : bytes ≡ done ++ rest
  pub put : InARow puts old done now
  pub mark : failed now ≡ failed old
  pub alive : 0 < length done → failed old ≡ false

-- ---- texts one after the other

pub goes_buffer : {S : Type 0} (puts : S → List ℕ → S → Type 0) (failed : S → Bool) {a : S}
    {waited waits text : List ℕ}
    → waits ≡ waited ++ text → Goes puts failed text a a waited waits
goes_buffer puts failed {a} e =
    record {
      written = [];
      put = NoCall a;
      whole = sym e;
      mark = refl;
      alive =
          λ h. absurd (omega arith);
    }

-- an empty text needs no call
pub goes_still : {S : Type 0} (puts : S → List ℕ → S → Type 0)
    (failed : S → Bool) {a : S} {waited : List ℕ}
    → Goes puts failed [] a a waited waited
goes_still puts failed {a} {waited} =
    record {
      written = [];
      put = NoCall a;
      whole = append-nil waited;
      mark = refl;
      alive =
          λ h. absurd (omega arith);
    }

pub goes_then : {S : Type 0} (puts : S → List ℕ → S → Type 0) (failed : S → Bool)
    (t u : List ℕ) {a b c : S}
    {x y z : List ℕ}
    → Goes puts failed t a b x y → Goes puts failed u b c y z → Goes puts failed (t ++ u) a c x z
goes_then puts failed t u {x} {y} {z} g h =
    record {
      written = g.written ++ h.written;
      put = in_a_row puts h.put g.put;
      whole =
          sym (append_assoc x t u) ∙ ap (λ (w : List ℕ). w ++ u) g.whole
          ∙ append_assoc g.written y u
          ∙ ap (λ (w : List ℕ). g.written ++ w) h.whole ∙ sym (append_assoc g.written h.written z);
      mark = h.mark ∙ g.mark;
      alive = λ some. elim (cases_lt 0 (length g.written)) [
        | inl one ↦ g.alive one
        | inr none ↦ sym g.mark ∙ h.alive
            (omega (arith, some, none, length-append g.written h.written))
      ];
    }

-- the second text failed
pub part_then : {S : Type 0} (puts : S → List ℕ → S → Type 0) (failed : S → Bool)
    (t u : List ℕ) {a b c : S}
    {x y : List ℕ}
    → Goes puts failed t a b x y → WritesPart puts failed (y ++ u) b c
    → WritesPart puts failed (x ++ (t ++ u)) a c
part_then puts failed t u {x} {y} g h =
    record {
      written = g.written ++ h.written;
      rest = h.rest;
      prefix =
          sym (append_assoc x t u) ∙ ap (λ (w : List ℕ). w ++ u) g.whole
          ∙ append_assoc g.written y u
          ∙ ap (λ (w : List ℕ). g.written ++ w) h.prefix
          ∙ sym (append_assoc g.written h.written h.rest);
      put = in_a_row puts h.put g.put;
      after = h.after;
    }

-- the first text failed
pub part_longer : {S : Type 0} (puts : S → List ℕ → S → Type 0) (failed : S → Bool)
    (t u : List ℕ) {a b : S}
    (x : List ℕ)
    → WritesPart puts failed (x ++ t) a b → WritesPart puts failed (x ++ (t ++ u)) a b
part_longer puts failed t u x h =
    record {
      written = h.written;
      rest = h.rest ++ u;
      prefix = sym (append_assoc x t u) ∙ ap (λ (w : List ℕ). w ++ u) h.prefix
          ∙ append_assoc h.written h.rest u;
      put = h.put;
      after = h.after;
    }

-- the second text, by the result of its call
pub then_on : {S T E : Type 0} (puts : S → List ℕ → S → Type 0) (failed : S → Bool)
    (t u : List ℕ) {a b : S}
    (c : S) {x y : List ℕ} (z : List ℕ) (r : Result T E)
    → Goes puts failed t a b x y → WritesOn puts failed u b c y z r
    → WritesOn puts failed (t ++ u) a c x z r
then_on puts failed t u c z (Ok v) g h = goes_then puts failed t u g h
then_on puts failed t u c z (Err e) g h = part_then puts failed t u g h

-- ---- results of calls

-- a call that failed has written a part
pub on_err : {S T E : Type 0} {puts : S → List ℕ → S → Type 0} {failed : S → Bool}
    (t : List ℕ) {a b : S}
    (x y : List ℕ) (r : Result T E)
    → IsErr r → WritesPart puts failed (x ++ t) a b → WritesOn puts failed t a b x y r
on_err t x y (Ok v) is h = absurd cc
on_err t x y (Err e) is h = h

-- room was made, and then the text was put after the bytes that wait
pub room_then : {S : Type 0} (puts : S → List ℕ → S → Type 0) (failed : S → Bool)
    (text : List ℕ) {a b : S}
    {x y z : List ℕ}
    → Goes puts failed [] a b x y → z ≡ y ++ text → Goes puts failed text a b x z
room_then puts failed text g e = goes_then puts failed [] text g (goes_buffer puts failed e)

-- no room could be made
pub no_room : {S T E : Type 0} (puts : S → List ℕ → S → Type 0) (failed : S → Bool)
    (text : List ℕ) {a b : S}
    (x y : List ℕ) (r : Result T E)
    → IsErr r → WritesPart puts failed (x ++ []) a b → WritesOn puts failed text a b x y r
no_room puts failed text x y r is h = on_err text x y r is (part_longer puts failed [] text x h)

-- the front of the waiting bytes was written
pub front_went : {S : Type 0} (puts : S → List ℕ → S → Type 0) (failed : S → Bool)
    (text front back : List ℕ)
    {a b : S} {waited : List ℕ}
    → waited ≡ front ++ back → text ≡ front → Goes puts failed text a b [] []
    → Goes puts failed [] a b waited back
front_went puts failed text front back {waited} parts same g =
    record {
      written = g.written;
      put = g.put;
      whole =
          append-nil waited ∙ parts
          ∙ ap (λ (w : List ℕ). w ++ back) (sym same ∙ g.whole ∙ append-nil g.written);
      mark = g.mark;
      alive = g.alive;
    }

-- the sink failed while the front was written
pub front_failed : {S : Type 0} (puts : S → List ℕ → S → Type 0) (failed : S → Bool)
    (text front back : List ℕ)
    {a b : S} {waited : List ℕ}
    → waited ≡ front ++ back → text ≡ front → WritesPart puts failed text a b
    → WritesPart puts failed (waited ++ []) a b
front_failed puts failed text front back {a} {b} {waited} parts same h =
    subst (λ (w : List ℕ). WritesPart puts failed w a b) (sym (append-nil waited ∙ parts))
    (part_longer puts failed front back []
    (subst (λ (w : List ℕ). WritesPart puts failed w a b) same h))

-- if the next text fails after the texts so far, the whole text fails
pub failed_among : {S : Type 0} (puts : S → List ℕ → S → Type 0) (failed : S → Bool)
    (t u v : List ℕ) {whole : List ℕ}
    {a b c : S} {x y : List ℕ}
    → whole ≡ t ++ (u ++ v) → Goes puts failed t a b x y → WritesPart puts failed (y ++ u) b c
    → WritesPart puts failed (x ++ whole) a c
failed_among puts failed t u v {a} {c} {x} {y} e g h =
    subst (λ (w : List ℕ). WritesPart puts failed (x ++ w) a c) (sym e)
    (part_then puts failed t (u ++ v) g (part_longer puts failed u v y h))

-- ---- texts of lists

pub flat_map-map : {X Y A : Type 0} (f : Y → List A) (g : X → Y) (xs : List X)
    → flat_map f (map g xs) ≡ flat_map (λ x. f (g x)) xs
flat_map-map f g [] = refl
flat_map-map f g (x ∷ xs) = ap (λ ys. f (g x) ++ ys) (flat_map-map f g xs)

-- the text of items is the text of their images
pub on_images : {S X Y T E : Type 0} (puts : S → List ℕ → S → Type 0) (failed : S → Bool)
    (f : Y → List ℕ) (g : X → Y) (xs : List X) (a b : S) (x y : List ℕ) (r : Result T E)
    → WritesOn puts failed (flat_map (λ v. f (g v)) xs) a b x y r
    → WritesOn puts failed (flat_map f (map g xs)) a b x y r
on_images puts failed f g xs a b x y r h =
    subst (λ (t : List ℕ). WritesOn puts failed t a b x y r) (sym (flat_map-map f g xs)) h

pub flat_map_take : {X A : Type 0} (f : X → List A) (xs : List X) (i : ℕ) (d : X) → i < length xs
    → flat_map f (take (i + 1) xs) ≡ flat_map f (take i xs) ++ f (get_or xs i d)
flat_map_take f xs i d lt =
    ap (flat_map f) (take_more xs i d lt) ∙ flat_map-append f (take i xs) (get_or xs i d ∷ [])
    ∙ ap (λ ys. flat_map f (take i xs) ++ ys) (append-nil (f (get_or xs i d)))

pub flat_map_split : {X A : Type 0} (f : X → List A) (xs : List X) (i : ℕ) (d : X) → i < length xs
    → flat_map f xs ≡ flat_map f (take i xs) ++ (f (get_or xs i d) ++ flat_map f (drop (i + 1) xs))
flat_map_split f xs i d lt =
    ap (flat_map f) (sym (take-append-drop (i + 1) xs)) ∙ flat_map-append f (take (i + 1) xs)
    (drop (i + 1) xs)
    ∙ ap (λ ys. ys ++ flat_map f (drop (i + 1) xs)) (flat_map_take f xs i d lt)
    ∙ append_assoc (flat_map f (take i xs)) (f (get_or xs i d)) (flat_map f (drop (i + 1) xs))

pub flat_map-flat_map : {X Y A : Type 0} (f : Y → List A) (g : X → List Y) (xs : List X)
    → flat_map f (flat_map g xs) ≡ flat_map (λ x. flat_map f (g x)) xs
flat_map-flat_map f g [] = refl
flat_map-flat_map f g (x ∷ xs) =
    flat_map-append f (g x) (flat_map g xs) ∙ ap (λ ys. flat_map f (g x) ++ ys)
    (flat_map-flat_map f g xs)

-- ---- a loop over items, each of which has a text

pub one_more : {S X : Type 0} (puts : S → List ℕ → S → Type 0) (failed : S → Bool) (f : X → List ℕ)
    (xs : List X)
    (i : ℕ) (d : X) {a b c : S} {x y z : List ℕ}
    → i < length xs → Goes puts failed (flat_map f (take i xs)) a b x y
    → Goes puts failed (f (get_or xs i d)) b c y z
    → Goes puts failed (flat_map f (take (i + 1) xs)) a c x z
one_more puts failed f xs i d {a} {c} {x} {z} lt g h =
    subst (λ (t : List ℕ). Goes puts failed t a c x z) (sym (flat_map_take f xs i d lt))
    (goes_then puts failed (flat_map f (take i xs)) (f (get_or xs i d)) g h)

pub one_failed : {S X : Type 0} (puts : S → List ℕ → S → Type 0) (failed : S → Bool)
    (f : X → List ℕ) (xs : List X)
    (i : ℕ) (d : X) {whole : List ℕ} {a b c : S} {x y : List ℕ}
    → whole ≡ flat_map f xs → i < length xs → Goes puts failed (flat_map f (take i xs)) a b x y
    → WritesPart puts failed (y ++ f (get_or xs i d)) b c → WritesPart puts failed (x ++ whole) a c
one_failed puts failed f xs i d e lt g h =
    failed_among puts failed (flat_map f (take i xs)) (f (get_or xs i d))
    (flat_map f (drop (i + 1) xs))
    (e ∙ flat_map_split f xs i d lt) g h

pub all_done : {S X : Type 0} (puts : S → List ℕ → S → Type 0) (failed : S → Bool) (f : X → List ℕ)
    (xs : List X)
    (i : ℕ) {whole : List ℕ} {a b : S} {x y : List ℕ}
    → whole ≡ flat_map f xs → length xs ≤ i → Goes puts failed (flat_map f (take i xs)) a b x y
    → Goes puts failed whole a b x y
all_done puts failed f xs i {a} {b} {x} {y} e le g =
    subst (λ (t : List ℕ). Goes puts failed t a b x y) (ap (flat_map f) (take_all i xs le) ∙ sym e)
    g

-- ---- the end of a text

-- the bytes that waited last were written too
pub finishes : {S T E : Type 0} (puts : S → List ℕ → S → Type 0) (failed : S → Bool)
    (text : List ℕ) {a b : S}
    (c : S) {x : List ℕ} (y : List ℕ) (r : Result T E)
    → 0 < length text → Goes puts failed text a b [] x → WritesOn puts failed [] b c x y r
    → OnOk r (y ≡ [])
    → WritesText puts failed text a c r
finishes puts failed text {a} c y (Ok v) some g h over =
    let all = goes_then puts failed text [] g h in
    let is : text ≡ all.written =
    sym (append-nil text) ∙ all.whole ∙ ap (λ (w : List ℕ). all.written ++ w) over
    ∙ append-nil all.written in
    let before : failed a ≡ false = all.alive (omega (arith, some, ap length is)) in
    record {
      put = subst (λ (w : List ℕ). InARow puts a w c) (sym is) all.put;
      before = before;
      after = all.mark
          ∙ before;
    }
finishes puts failed text c y (Err e) some g h over =
    part_whole puts failed text (part_then puts failed text [] g h)
  where
    part_whole : {S : Type 0} (puts : S → List ℕ → S → Type 0) (failed : S → Bool)
        (t : List ℕ) {a b : S}
        → WritesPart puts failed (t ++ []) a b → WritesPart puts failed t a b
    part_whole puts failed t {a} {b} h =
        subst (λ (w : List ℕ). WritesPart puts failed w a b) (append-nil t) h
