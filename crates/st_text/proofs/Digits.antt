-- A number is read digit by digit: each digit is the byte after those that were read, and the last
-- is followed by no digit.
use Rattle.std.proofs.Common.{◌≡◌, ℕ, ◌+◌, ◌*◌, ◌^◌, ◌<◌, ◌≤◌, Bool, true, false, cond, List, ◌∷◌}
use Rattle.std.proofs.Common.{◌++◌, length, get_or, take, drop, Some, None, refl, sym, ap, subst}
use Rattle.std.proofs.Common.{◌∙◌, inl, inr, arith, add-one, length-drop, drop-cons}
use Rattle.std.specs.Char.{is_ascii_digit}
use Rattle.std.specs.Str.Parse.{AllDigits, digits_value}
use Rattle.std.proofs.lemmas.Bool.Decides.{nat_tests}
use Rattle.std.proofs.lemmas.List.{get_or-take, length-take}
use Rattle.std.proofs.lemmas.List.Sums.{prefix_len-le-length}
use Rattle.std.proofs.lemmas.List.Folds.{length-prefix_len}
use Rattle.std.proofs.lemmas.Fmt.{decimal_digit}
use Rattle.st_text.specs.Parsing.{number_from, number}
use Rattle.st_text.specs.Parts.Digits.{digits_len, front, HasRead}
use Rattle.st_text.proofs.Numbers.{further, all_digits, number_is}
use Rattle.st_text.proofs.Numbers.{number_again, none_by_value, none_by_lead, some_by}

-- b is the byte after the first `count`
record Next (bytes : List ℕ) (count b : ℕ) (more : List ℕ) : Type 0 where
  pub inside : count < length bytes
  pub here : get_or bytes count 0 ≡ b
  pub behind : more ≡ drop (count + 1) bytes

next : (bytes : List ℕ) (count b : ℕ) (more : List ℕ) → drop count bytes ≡ b ∷ more
    → Next bytes count b more
next bytes count b more e =
    let inside : count < length bytes = omega (arith, length-drop count bytes, ap length e) in
    let cut : drop count bytes ≡ get_or bytes count 0 ∷ drop (count + 1) bytes =
    rw add-one (drop-cons bytes count 0 inside) in
    record { inside = inside; here = cc; behind = cc }

-- the byte of a digit is a digit
byte_of : (d : ℕ) → d < 10 → is_ascii_digit (48 + d) ≡ true
byte_of d small = grind (arith, nat_tests)

more_front : (b : ℕ) (bytes : List ℕ) → is_ascii_digit b ≡ true
    → digits_len (b ∷ bytes) ≡ 1 + digits_len bytes
more_front b bytes test = rw test refl

no_digit : (b : ℕ) (bs : List ℕ) → digits_len (b ∷ bs) ≡ 0 → is_ascii_digit b ≡ false
no_digit b bs none = by (is_ascii_digit b) refl none
  where
    by : (t : Bool) → is_ascii_digit b ≡ t → cond t (1 + digits_len bs) 0 ≡ 0
        → is_ascii_digit b ≡ false
    by true e len = absurd (omega (arith, len))
    by false e len = e

parse_ends : (bytes : List ℕ) (count : ℕ) → digits_len (drop count bytes) ≡ 0 → count < length bytes
    → is_ascii_digit (get_or bytes count 0) ≡ false
parse_ends bytes count none inside =
    let cut : drop count bytes ≡ get_or bytes count 0 ∷ drop (count + 1) bytes =
    rw add-one (drop-cons bytes count 0 inside) in
    no_digit (get_or bytes count 0) (drop (count + 1) bytes) (ap digits_len (sym cut) ∙ none)

-- ---- no number

pub none_in_front : (most : ℕ) (bytes : List ℕ) → most < 2 ^ 64 → digits_len bytes ≡ 0
    → number most bytes ≡ None
none_in_front most bytes small none =
    let is =
    number_is most bytes (digits_value 10 (front bytes)) (digits_len bytes) (front bytes)
    (drop (digits_len bytes) bytes) refl refl refl in
    let empty : length (front bytes) ≡ 0 = length-prefix_len is_ascii_digit bytes ∙ none in
    is.0 ∙ none_by_lead most (front bytes) (drop (digits_len bytes) bytes) small (inl empty)

pub none_behind_zero : (most first d : ℕ) (bytes rest more : List ℕ) → most < 2 ^ 64 → first ≡ 0
    → d < 10
    → bytes ≡ (48 + first) ∷ rest → rest ≡ (48 + d) ∷ more → number most bytes ≡ None
none_behind_zero most first d bytes rest more small none digit at f =
    let e : bytes ≡ 48 ∷ rest = at ∙ ap (λ (z : ℕ). (48 + z) ∷ rest) none in
    let is =
    number_is most bytes (digits_value 10 (front bytes)) (digits_len bytes) (front bytes)
    (drop (digits_len bytes) bytes) refl refl refl in
    let tail : digits_len rest ≡ 1 + digits_len more =
    ap digits_len f ∙ more_front (48 + d) more (byte_of d digit) in
    let all : digits_len bytes ≡ 1 + digits_len rest = ap digits_len e ∙ more_front 48 rest refl in
    let long : length (front bytes) ≡ digits_len bytes = length-prefix_len is_ascii_digit bytes in
    let same : get_or (front bytes) 0 0 ≡ get_or bytes 0 0 =
    get_or-take (digits_len bytes) bytes 0 0 (omega arith) in
    let lead : get_or (front bytes) 0 0 ≡ 48 = same ∙ ap (λ (t : List ℕ). get_or t 0 0) e in
    is.0 ∙ none_by_lead most (front bytes) (drop (digits_len bytes) bytes) small
    (inr (lead, omega arith))

pub none_that_fits : (most d n : ℕ) (bytes rest more : List ℕ) → most < 2 ^ 64 → d < 10
    → HasRead bytes rest n
    → rest ≡ (48 + d) ∷ more → 2 ^ 64 ≤ n * 10 + d → number most bytes ≡ None
none_that_fits most d n bytes rest more small digit h e large =
    let is =
    number_is most bytes (digits_value 10 (front bytes)) (digits_len bytes) (front bytes)
    (drop (digits_len bytes) bytes) refl refl refl in
    let b = next bytes h.count (48 + d) more (sym h.left ∙ e) in
    let test : is_ascii_digit (get_or bytes h.count 0) ≡ true =
    ap is_ascii_digit b.here ∙ byte_of d digit in
    let f = further bytes h.count h.within b.inside test in
    is.0
    ∙ none_by_value most (front bytes) (drop (digits_len bytes) bytes)
    (omega (arith, f.value, f.grows, b.here, h.value))

-- ---- a number

pub zero_alone : (most first : ℕ) (bytes rest : List ℕ) → most < 2 ^ 64 → first ≡ 0
    → bytes ≡ (48 + first) ∷ rest
    → digits_len rest ≡ 0 → number most bytes ≡ Some (0, rest)
zero_alone most first bytes rest small is e none =
    let at : number most (48 ∷ rest) ≡ Some (0, rest) =
    subst (λ (t : List ℕ). number most (t ++ rest) ≡ Some (0, rest)) (decimal_digit 0 (omega arith))
    (number_again most 0 rest (omega arith) small none) in
    ap (number most) (e ∙ ap (λ (z : ℕ). (48 + z) ∷ rest) is) ∙ at

pub begins : (d n : ℕ) (bytes rest : List ℕ) → 0 < d → d < 10 → bytes ≡ (48 + d) ∷ rest → n ≡ d
    → HasRead bytes rest n
begins d n bytes rest some digit e is =
    let b = next bytes 0 (48 + d) rest e in
    let test : is_ascii_digit (get_or bytes 0 0) ≡ true =
    ap is_ascii_digit b.here ∙ byte_of d digit in
    let f = further bytes 0 (omega arith) b.inside test in
    record {
      count = 1;
      some = omega arith;
      within = f.within;
      leads = omega (arith, b.here);
      left = b.behind;
      small = omega arith;
      value = omega (arith, is, f.value, b.here);
    }

pub goes_on : (d n m : ℕ) (bytes rest more : List ℕ) → d < 10 → HasRead bytes rest n
    → rest ≡ (48 + d) ∷ more
    → m ≡ n * 10 + d → m < 2 ^ 64 → HasRead bytes more m
goes_on d n m bytes rest more digit h e is small =
    let b = next bytes h.count (48 + d) more (sym h.left ∙ e) in
    let test : is_ascii_digit (get_or bytes h.count 0) ≡ true =
    ap is_ascii_digit b.here ∙ byte_of d digit in
    let f = further bytes h.count h.within b.inside test in
    record {
      count = h.count + 1;
      some = omega arith;
      within = f.within;
      leads = h.leads;
      left = b.behind;
      small = small;
      value = omega (arith, is, f.value, b.here, h.value);
    }

-- ---- at the last digit

-- all the digits are read
record IsWhole (most : ℕ) (bytes rest : List ℕ) (n : ℕ) : Type 0 where
  pub digits : List ℕ
  pub are : number most bytes ≡ number_from most digits rest
  pub all : AllDigits 10 digits
  pub value : n ≡ digits_value 10 digits
  pub some : 0 < length digits
  pub first : get_or digits 0 0 ≡ get_or bytes 0 0

whole : (most n : ℕ) (bytes rest : List ℕ) → HasRead bytes rest n → digits_len rest ≡ 0
    → IsWhole most bytes rest n
whole most n bytes rest h none =
    let stop : digits_len (drop h.count bytes) ≡ 0 = ap digits_len (sym h.left) ∙ none in
    let both = all_digits bytes h.count n h.within (parse_ends bytes h.count stop) h.small
    h.value in
    let is = number_is most bytes n h.count (take h.count bytes) rest both.1 refl h.left in
    record {
      digits = take h.count bytes;
      are = is.0;
      all = is.1;
      value = is.2;
      some =
          omega (
            arith,
            h.some,
            h.within,
            length-take h.count bytes,
            prefix_len-le-length is_ascii_digit bytes,
          );
      first = get_or-take h.count bytes 0 0 h.some;
    }

pub none_of_more : (most n : ℕ) (bytes rest : List ℕ) → HasRead bytes rest n → digits_len rest ≡ 0
    → most < n
    → number most bytes ≡ None
none_of_more most n bytes rest h none more =
    let w = whole most n bytes rest h none in
    w.are ∙ none_by_value most w.digits rest (omega (arith, w.value))

pub number_read : (most n : ℕ) (bytes rest : List ℕ) → most < 2 ^ 64 → HasRead bytes rest n
    → digits_len rest ≡ 0 → n ≤ most → number most bytes ≡ Some (n, rest)
number_read most n bytes rest small h none within =
    let w = whole most n bytes rest h none in
    let lead : get_or w.digits 0 0 ≡ 48 → length w.digits ≡ 1 =
    λ zero. absurd (omega (arith, w.first, h.leads, zero)) in
    let made = some_by most w.digits rest small w.all w.some lead (omega (arith, w.value)) in
    w.are ∙ made ∙ ap (λ (v : ℕ). Some (v, rest)) (sym w.value)
