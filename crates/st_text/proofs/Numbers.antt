-- Reading a word or a number undoes its spelling, and reads no other bytes.
use Rattle.std.proofs.Common.{◌≡◌, ℕ, suc, ◌+◌, ◌-◌, ◌*◌, ◌^◌, ◌<◌, ◌≤◌, ◌⊎◌, Bool, true, false}
use Rattle.std.proofs.Common.{◌&&◌, cond, eqb, leb, List, [], ◌∷◌, ◌++◌, length, get_or, take, drop}
use Rattle.std.proofs.Common.{Option, Some, None, refl, sym, ap, subst, ◌∙◌, arith, inl, inr}
use Rattle.std.specs.Prelude.{decimal, MatchOption}
use Rattle.std.specs.Borrow.{Bor}
use Rattle.std.specs.Char.{is_ascii_digit, digit_value}
use Rattle.std.specs.List.{prefix_len}
use Rattle.std.specs.Str.{bytes_eq}
use Rattle.std.specs.Cmp.Lexicographic.{pointwise}
use Rattle.std.specs.Str.Parse.{AllDigits, digits_value}
use Rattle.std.proofs.lemmas.Bool.{cases_lt}
use Rattle.std.proofs.lemmas.Bool.Decides.{nat_tests, Decides-eqb}
use Rattle.std.proofs.lemmas.Int.Digits.{digits_value_more}
use Rattle.std.proofs.lemmas.List.{take_at, take_all, drop_at, take-append-drop, get_or-take}
use Rattle.std.proofs.lemmas.List.Folds.{length-prefix_len}
use Rattle.std.proofs.lemmas.List.Sums.{prefix_len-le-length, prefix_len_passes, prefix_len_stops}
use Rattle.std.proofs.lemmas.Slice.Eq.{bytes_eq-Decides, strip_prefix_is}
use Rattle.std.proofs.lemmas.Str.{digit_value_digit}
use Rattle.std.proofs.lemmas.Str.Parse.{IsNumeralModel, numerals_by_value, tells_digits}
use Rattle.std.proofs.lemmas.Str.Parse.{digits_value-take-le, digit_at}
use Rattle.std.proofs.lemmas.Fmt.{decimal_is_IsNumeral, decimal_digit, first_decimal}
use Rattle.std.proofs.lemmas.Fmt.{decimal-digits_value}
use Rattle.st_text.specs.Parts.Digits.{digits_len, front, worth}
use Rattle.st_text.specs.Parts.Words.{Gives}
use Rattle.st_text.specs.Parsing.{after, number_from, number}
use Rattle.st_core.proofs.ForCallers.{both_of}

-- a tested value is there only if the test holds
pub chosen : {A : Type 0} (b : Bool) (o : Option A) (y : A) → cond b o None ≡ Some y
    → (b ≡ true) × (o ≡ Some y)
chosen true o y e = (refl, e)
chosen false o y e = absurd cc

not_both : {A : Type 0} (a b : Bool) (x : A) → (a ≡ true → b ≡ true → ⊥)
    → cond (a && b) (Some x) None ≡ None
not_both true true x not = absurd (not refl refl)
not_both true false x not = refl
not_both false b x not = refl

le_from : (m n : ℕ) → leb m n ≡ true → m ≤ n
le_from m n e = grind (arith, nat_tests)

-- ---- words

pub after_again : (word rest : List ℕ) → after word (word ++ rest) ≡ Some rest
after_again [] rest = refl
after_again (c ∷ word) rest =
    let same : eqb c c ≡ true = grind (arith, nat_tests) in
    rw same (after_again word rest)

pub after_takes : (word bytes rest : List ℕ) → after word bytes ≡ Some rest → bytes ≡ word ++ rest
after_takes [] bytes rest e = cc
after_takes (c ∷ word) [] rest e = absurd cc
after_takes (c ∷ word) (b ∷ bytes) rest e =
    let g = chosen (eqb b c) (after word bytes) rest e in
    let head : b ≡ c = (Decides-eqb b c).0 g.0 in
    let more = after_takes word bytes rest g.1 in
    cc

pub after_none : (word bytes : List ℕ) → ((rest : List ℕ) → bytes ≡ word ++ rest → ⊥)
    → after word bytes ≡ None
after_none word bytes not = by (after word bytes) refl
  where
    by : (o : Option (List ℕ)) → after word bytes ≡ o → o ≡ None
    by None e = refl
    by (Some rest) e = absurd (not rest (after_takes word bytes rest e))

pub after_is : (word bytes : List ℕ) (r : Option (Bor (List ℕ)))
    → MatchOption r (pointwise eqb (take (length word) bytes) word ≡ false)
    (λ x. (pointwise eqb (take (length word) bytes) word ≡ true)
    × (x.now ≡ drop (length word) bytes)
    × (length x.now + length word ≡ length bytes))
    → Gives (λ x. x.now) r (after word bytes)
after_is word bytes None m =
    after_none word bytes (λ rest e. strip_prefix_is Decides-eqb bytes word None m rest e)
after_is word bytes (Some x) m =
    let e : bytes ≡ word ++ x.now = strip_prefix_is Decides-eqb bytes word (Some x) m in
    rw e (after_again word x.now)

-- ---- digits

digit_test : (c : ℕ) → digit_value c < 10 → is_ascii_digit c ≡ true
digit_test c small = grind (arith, nat_tests)

digit_small : (c : ℕ) → is_ascii_digit c ≡ true → digit_value c < 10
digit_small c e = grind (arith, nat_tests)

pub digits_front : (bytes : List ℕ) → AllDigits 10 (take (prefix_len is_ascii_digit bytes) bytes)
digits_front [] = tt
digits_front (b ∷ bs) = by (is_ascii_digit b) refl (digits_front bs)
  where
    by : (t : Bool) → is_ascii_digit b ≡ t → AllDigits 10 (take (prefix_len is_ascii_digit bs) bs)
        → AllDigits 10 (take (cond t (1 + prefix_len is_ascii_digit bs) 0) (b ∷ bs))
    by true e more =
        let one : 1 + prefix_len is_ascii_digit bs ≡ suc (prefix_len is_ascii_digit bs) =
        omega arith in
        rw one (digit_small b e, more)
    by false e more = tt

more_digits : (bytes : List ℕ) (i : ℕ) → i ≤ digits_len bytes → i < length bytes
    → is_ascii_digit (get_or bytes i 0) ≡ true → i < digits_len bytes
more_digits bytes i le lt is =
    elim (cases_lt i (digits_len bytes)) [
      | inl below ↦ below
      | inr above ↦
          let same : digits_len bytes ≡ i = omega arith in
          let stops : is_ascii_digit (get_or bytes (digits_len bytes) 0) ≡ false =
          prefix_len_stops is_ascii_digit bytes 0 (omega arith) in
          absurd (cc (ap (λ (k : ℕ). is_ascii_digit (get_or bytes k 0)) same))
    ]

-- a digit after the first i
pub record Further (bytes : List ℕ) (i b : ℕ) : Type 0 where
  pub within : i + 1 ≤ digits_len bytes
  pub low : 48 ≤ b
  pub high : b < 58
  pub value : worth (i + 1) bytes ≡ worth i bytes * 10 + (b - 48)
  pub grows : worth (i + 1) bytes ≤ digits_value 10 (front bytes)

pub further : (bytes : List ℕ) (i : ℕ) → i ≤ digits_len bytes → i < length bytes
    → is_ascii_digit (get_or bytes i 0) ≡ true → Further bytes i (get_or bytes i 0)
further bytes i le lt is =
    let inside = more_digits bytes i le lt is in
    let count = length-prefix_len is_ascii_digit bytes in
    let same : get_or (front bytes) i 0 ≡ get_or bytes i 0 =
    get_or-take (digits_len bytes) bytes i 0 inside in
    let digit = digit_at (front bytes) i (digits_front bytes) (omega arith) in
    let value = digit_value_digit _ digit in
    record {
      within = omega arith;
      low = omega (arith, digit, same);
      high = omega (arith, digit, same);
      value = omega (arith, digits_value_more 10 (front bytes) i (omega arith), value, digit, same);
      grows = digits_value-take-le 10 (front bytes) (i + 1) (omega arith);
    }

-- the first i digits are all of them
pub all_digits : (bytes : List ℕ) (i n : ℕ) → i ≤ digits_len bytes
    → (i < length bytes → is_ascii_digit (get_or bytes i 0) ≡ false) → n < 2 ^ 64
    → n ≡ worth i bytes
    → (digits_value 10 (front bytes) < 2 ^ 64)
    × (◌≡◌ {A = ℕ × ℕ} (n, i) (digits_value 10 (front bytes), digits_len bytes))
all_digits bytes i n le stops small is =
    elim (cases_lt i (digits_len bytes)) [
      | inl below ↦
          let test = prefix_len_passes is_ascii_digit bytes i 0 below in
          let other = stops (omega (arith, prefix_len-le-length is_ascii_digit bytes)) in
          absurd cc
      | inr above ↦
          let all : take i (front bytes) ≡ front bytes =
          take_all i (front bytes) (omega (arith, length-prefix_len is_ascii_digit bytes)) in
          let value : n ≡ digits_value 10 (front bytes) = is ∙ ap (digits_value 10) all in
          let count : i ≡ digits_len bytes = omega arith in
          (omega arith, cc)
    ]

-- the bytes after a number begin with no digit
abbrev pub Stops : List ℕ → Type 0
Stops rest = prefix_len is_ascii_digit rest ≡ 0

prefix_digits : (ds rest : List ℕ) → AllDigits 10 ds → Stops rest
    → prefix_len is_ascii_digit (ds ++ rest) ≡ length ds
prefix_digits [] rest all stops = stops
prefix_digits (c ∷ cs) rest all stops =
    let test = digit_test c all.0 in
    let more = prefix_digits cs rest all.1 stops in
    rw test (omega arith)

own : IsNumeralModel (AllDigits 10) (digits_value 10)
own = numerals_by_value (AllDigits 10) tells_digits

-- ---- numbers

pub none_by_value : (most : ℕ) (ds rest : List ℕ) → most < digits_value 10 ds
    → number_from most ds rest ≡ None
none_by_value most ds rest large =
    not_both (bytes_eq (decimal (digits_value 10 ds)) ds) (leb (digits_value 10 ds) most)
    (digits_value 10 ds, rest)
    (λ a b. omega (arith, le_from (digits_value 10 ds) most b))

no_lead : (n : ℕ) (ds : List ℕ) → n < 2 ^ 64 → decimal n ≡ ds
    → (length ds ≡ 0) ⊎ ((get_or ds 0 0 ≡ 48) × (1 < length ds)) → ⊥
no_lead n ds small e (inl none) = omega (arith, (decimal_is_IsNumeral n small).0.0, ap length e)
no_lead n ds small e (inr zeros) =
    elim (cases_lt 0 n) [
      | inl some ↦ omega (
        arith,
        first_decimal n some small,
        ap (λ (x : List ℕ). get_or x 0 0) e,
        zeros.0,
      )
      | inr le ↦ let z : n ≡ 0 = omega arith in omega
          (arith, ap length (sym (decimal_digit 0 (omega arith)) ∙ ap decimal (sym z) ∙ e), zeros.1)
    ]

pub none_by_lead : (most : ℕ) (ds rest : List ℕ) → most < 2 ^ 64
    → (length ds ≡ 0) ⊎ ((get_or ds 0 0 ≡ 48) × (1 < length ds)) → number_from most ds rest ≡ None
none_by_lead most ds rest small lead =
    not_both (bytes_eq (decimal (digits_value 10 ds)) ds) (leb (digits_value 10 ds) most)
    (digits_value 10 ds, rest)
    (λ a b. no_lead (digits_value 10 ds) ds (omega (arith, le_from (digits_value 10 ds) most b))
    ((bytes_eq-Decides (decimal (digits_value 10 ds)) ds).0 a) lead)

pub some_by : (most : ℕ) (ds rest : List ℕ) → most < 2 ^ 64 → AllDigits 10 ds → 0 < length ds
    → (get_or ds 0 0 ≡ 48 → length ds ≡ 1) → digits_value 10 ds ≤ most
    → number_from most ds rest ≡ Some (digits_value 10 ds, rest)
some_by most ds rest small all some lead le =
    let spelled = decimal-digits_value own ds all some lead (omega arith) in
    let same : bytes_eq (decimal (digits_value 10 ds)) ds ≡ true =
    (bytes_eq-Decides (decimal (digits_value 10 ds)) ds).1 spelled in
    let fits : leb (digits_value 10 ds) most ≡ true = grind (arith, nat_tests) in
    rw (same, fits) refl

-- the digits and the rest as the code has them
pub number_is : (most : ℕ) (bytes : List ℕ) (n k : ℕ) (ds rest : List ℕ)
    → ◌≡◌ {A = ℕ × ℕ} (n, k) (digits_value 10 (front bytes), digits_len bytes) → ds ≡ take k bytes
    → rest ≡ drop k bytes
    → (number most bytes ≡ number_from most ds rest) × AllDigits 10 ds × (n ≡ digits_value 10 ds)
unfolding number
number_is most bytes n k ds rest both ahead behind =
    let len : k ≡ digits_len bytes = ap (λ (x : ℕ × ℕ). x.1) both in
    let value : n ≡ digits_value 10 (front bytes) = ap (λ (x : ℕ × ℕ). x.0) both in
    rw (ahead, behind, len) (refl, digits_front bytes, value)

pub number_takes : (most : ℕ) (bytes : List ℕ) (x : ℕ × List ℕ) → number most bytes ≡ Some x
    → (bytes ≡ decimal x.0 ++ x.1) × (x.0 ≤ most)
unfolding number
number_takes most bytes x e =
    let k = prefix_len is_ascii_digit bytes in
    let ds : List ℕ = take k bytes in
    let v : ℕ = digits_value 10 ds in
    let g = chosen (bytes_eq (decimal v) ds && leb v most) (Some (v, drop k bytes)) x e in
    let tests = both_of (bytes_eq (decimal v) ds) (leb v most) g.0 in
    let spelled : decimal v ≡ ds = (bytes_eq-Decides (decimal v) ds).0 tests.0 in
    let whole : bytes ≡ decimal v ++ drop k bytes = rw spelled (sym (take-append-drop k bytes)) in
    let made : ◌≡◌ {A = ℕ × List ℕ} (v, drop k bytes) x = cc in
    subst (λ (y : ℕ × List ℕ). (bytes ≡ decimal y.0 ++ y.1) × (y.0 ≤ most)) made
    (whole, le_from v most tests.1)

pub number_again : (most n : ℕ) (rest : List ℕ) → n ≤ most → most < 2 ^ 64 → Stops rest
    → number most (decimal n ++ rest) ≡ Some (n, rest)
unfolding number
number_again most n rest le small stops =
    let num = decimal_is_IsNumeral n (omega arith) in
    let len : prefix_len is_ascii_digit (decimal n ++ rest) ≡ length (decimal n) =
    prefix_digits (decimal n) rest num.0.1 stops in
    let front : take (length (decimal n)) (decimal n ++ rest) ≡ decimal n =
    take_at (decimal n) rest (length (decimal n)) refl in
    let back : drop (length (decimal n)) (decimal n ++ rest) ≡ rest =
    drop_at (decimal n) rest (length (decimal n)) refl in
    let value : digits_value 10 (decimal n) ≡ n = num.1 in
    let same : bytes_eq (decimal n) (decimal n) ≡ true =
    (bytes_eq-Decides (decimal n) (decimal n)).1 refl in
    let fits : leb n most ≡ true = grind (arith, nat_tests) in
    rw (len, front, back, value, same, fits) refl
