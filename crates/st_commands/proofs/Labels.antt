-- `clap` reads a label as a number of 32 bits from the text that it found; there is no label if
-- the text writes no number of 32 bits.
use Rattle.std.proofs.Common.{◌≡◌, ℕ, Bool, true, false, List, refl, sym, ap, ◌∙◌, arith}
use Rattle.std.specs.Prelude.{Option, Some, None, Result, Ok, Err, option_map, option_and_then}
use Rattle.std.specs.Prelude.{if◌then◌else◌}
use Rattle.std.specs.Str.Parse.{ParsesUnsigned, digits_value, without_leading_plus}
use Rattle.clap.specs.Words.{ReadsOne, Text, one_of, one_text, rows_of}
use Rattle.clap.specs.ValueTests.{is_unsigned_in}
use Rattle.clap.specs.declared.builder.value_parser.ValueParser.TheVariants as parser
use Rattle.clap.specs.declared.parser.matches.Found.{Found}
use Rattle.clap.proofs.ValueTestLemmas.{accepts-Accepts, Accepts-accepts}
use Rattle.clap.proofs.WalkLemmas.{one_text-rows}
use Rattle.st_commands.specs.declared.words.Task.TheVariants as task
use Rattle.st_commands.specs.Words.{greatest_label, label_numbered, label_in}

-- the number that the digits of a text write
abbrev written : Text → ℕ
written text = digits_value 10 (without_leading_plus text)

module _ (E : Type 0) (text : Text) where
  some_label : (n : ℕ) → ParsesUnsigned {E = E} 32 10 text (Ok n)
      → label_in text ≡ Some (label_numbered n)
  some_label n h =
      let below = h.0.1 in
      let within : is_unsigned_in 0 greatest_label text ≡ true =
      Accepts-accepts false (parser.Unsigned 0 greatest_label) text
      (h.0.0, omega (arith, below), omega arith, omega (arith, below)) in
      ap (λ (b : Bool). if b then Some (label_numbered (written text)) else None) within
      ∙ ap (λ (m : ℕ). Some (label_numbered m)) (sym h.1)

  no_label : (e : E) → ParsesUnsigned {E = E} 32 10 text (Err e) → label_in text ≡ None
  no_label e h = by (is_unsigned_in 0 greatest_label text) refl
    where
      by : (b : Bool) → is_unsigned_in 0 greatest_label text ≡ b → label_in text ≡ None
      by true is =
          let within = accepts-Accepts false (parser.Unsigned 0 greatest_label) text is in
          let most = within.3 in
          absurd (h (within.0, omega (arith, most)))
      by false is = ap (λ (b : Bool). if b then Some (label_numbered (written text)) else None) is

-- for any reader that gives a number of 32 bits as the standard library reads it
module _ (E : Type 0) (Gives : List ℕ → Result ℕ E → Type 0)
    (reads : (t : Text) (r : Result ℕ E) → Gives t r → ParsesUnsigned {E = E} 32 10 t r) where
  read_label : (t : Text) (r : Option ℕ) → ReadsOne Gives t r
      → option_map label_numbered r ≡ label_in t
  read_label t (Some n) h = sym (some_label E t n (reads t (Ok n) h))
  read_label t None h = sym (no_label E t h.0 (reads t (Err h.0) h.1))

  found_label : (found : Option Text) (r : Option ℕ) → (found ≡ None → r ≡ None)
      → ((t : Text) → found ≡ Some t → ReadsOne Gives t r)
      → option_map label_numbered r ≡ option_and_then label_in found
  found_label None r none value = ap (option_map label_numbered) (none refl)
  found_label (Some t) r none value = read_label t r (value t refl)

  -- the chart of the number that was read
  pub charts : (f : Found) (id : Text) (r : Option ℕ) → (one_text f id ≡ None → r ≡ None)
      → ((t : Text) → one_text f id ≡ Some t → ReadsOne Gives t r)
      → option_map (λ l. task.Chart l) (option_map label_numbered r)
      ≡ option_map (λ l. task.Chart l) (option_and_then label_in (one_of id (rows_of f)))
  charts f id r none value =
      ap (option_map (λ l. task.Chart l)) (found_label (one_text f id) r none value
      ∙ ap (option_and_then label_in) (one_text-rows f id))
