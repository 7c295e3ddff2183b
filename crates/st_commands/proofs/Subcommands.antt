-- If `clap` takes the words, the subcommand that it entered says which command they ask for.
use Rattle.std.proofs.Common.{◌≡◌, Bool, true, false, List, length, [], ◌∷◌, refl, sym, ap, subst}
use Rattle.std.proofs.Common.{◌∙◌, inl, inr, arith}
use Rattle.std.specs.Prelude.{Option, Some, None, Result, IfOk, Box, option_map, option_and_then}
use Rattle.std.specs.Prelude.{if◌then◌else◌}
use Rattle.std.specs.Box.{box_value}
use Rattle.std.proofs.lemmas.Bool.{ne_eqb}
use Rattle.std.specs.Option.{ok_or}
use Rattle.clap.specs.Words.{App, HasMatchesOf, Row, Text, fault_of, is_simple, is_simple_and_free}
use Rattle.clap.specs.Words.{subcommand_of}
use Rattle.clap.specs.Words.{subcommand_rows, subcommand_rows_of, kind_of, HasKind, IsAmong}
use Rattle.clap.specs.Kinds.{Kinds}
use Rattle.clap.specs.Walk.{is_empty}
use Rattle.clap.specs.declared.error.Error.{Error}
use Rattle.clap.specs.declared.error.kind.ErrorKind.{ErrorKind}
use Rattle.clap.specs.declared.parser.matches.ArgMatches.{ArgMatches}
use Rattle.clap.specs.declared.parser.matches.ArgMatches.TheViews.{out-SubCommand}
use Rattle.clap.specs.declared.parser.matches.SubCommand.{SubCommand}
use Rattle.clap.proofs.OnLiterals.{clap_on_literals}
use Rattle.st_commands.specs.declared.words.Task.{Task}
use Rattle.st_commands.specs.declared.words.Refusal.{Refusal}
use Rattle.st_commands.specs.declared.words.Refusal.TheVariants as refused
use Rattle.st_commands.specs.Words.{task_asked, command_line, task_of, IsRefusal, IsRefusalOf}

line_simple : is_simple command_line ≡ true
unfolding clap_on_literals
line_simple = refl

line_free : is_simple_and_free command_line ≡ true
unfolding clap_on_literals
line_free = refl

module _ {Z : Type 0} where
  -- the name and the rows of one subcommand
  pub named_rows : (b : Option (Box SubCommand Z)) (name : Text) (rows : List Row)
      → Some name ≡ option_map (λ s. (out-SubCommand (box_value s)).name.now) b
      → Some rows ≡ option_map (λ p. p.1) (subcommand_rows b)
      → subcommand_rows b ≡ Some (name, rows)
  named_rows None name rows is has = absurd (cc)
  named_rows (Some s) name rows is has = cc

module _ (words : List Text) where
  -- the command that the words ask for, by the kinds of the faults that `clap` finds in them
  abbrev asked_at : Kinds → Option Task
  asked_at k =
      if is_empty k then option_and_then (λ p. task_of p.0 p.1)
      (subcommand_of command_line words) else None

  none_asked : (x : ErrorKind) (k : Kinds) → fault_of command_line words ≡ k → IsAmong x k
      → task_asked words ≡ None
  none_asked x [] e among = absurd among
  none_asked x (y ∷ ys) e among =
      let some : is_empty (y ∷ ys) ≡ false =
      ne_eqb (length (y ∷ ys)) 0 (λ none. absurd (omega (arith, none))) in
      ap asked_at e
      ∙ ap (λ (b : Bool). if b then option_and_then (λ p. task_of p.0 p.1)
      (subcommand_of command_line words) else None)
      some

  pub ok_task : (o : Option Task) (e : Refusal) (r : Result Task Refusal) → r ≡ ok_or o e
      → task_asked words ≡ o → IfOk r (λ t. task_asked words ≡ Some t)
  ok_task None e r is known =
      subst (λ (x : Result Task Refusal). IfOk x (λ t. task_asked words ≡ Some t)) (sym is) tt
  ok_task (Some t) e r is known =
      subst (λ (x : Result Task Refusal). IfOk x (λ t. task_asked words ≡ Some t)) (sym is) known

module _ (words : List Text) (app : App) (same : app ≡ command_line) where
  pub free : is_simple_and_free app ≡ true
  free = ap is_simple_and_free same ∙ line_free

  refused_by : (e : Error) (r : Refusal) → IsRefusalOf (kind_of e) r
      → HasKind (fault_of command_line words) e → IsRefusal words r
  refused_by e refused.Memory is has = tt
  refused_by e refused.Usage is (inl memory) = absurd (is memory)
  refused_by e refused.Usage is (inr among) =
      none_asked words (kind_of e) (fault_of command_line words) refl among

  -- an error of `clap`'s, unless memory ran out, says that the words ask for nothing
  pub refusal_by : (e : Error) (r : Refusal) → IsRefusalOf (kind_of e) r
      → HasKind (fault_of app words) e → IsRefusal words r
  refusal_by e r is has =
      refused_by e r is (subst (λ (a : App). HasKind (fault_of a words) e) same has)

  pub asked_by : (m : ArgMatches) → fault_of app words ≡ [] → HasMatchesOf app words m
      → task_asked words ≡ option_and_then (λ p. task_of p.0 p.1) (subcommand_rows_of m)
  asked_by m taken found =
      let taken_by_line : fault_of command_line words ≡ [] =
      subst (λ (a : App). fault_of a words ≡ []) same taken in
      let of_line = subst (λ (a : App). HasMatchesOf a words m) same found in
      ap (asked_at words) taken_by_line
      ∙ ap (option_and_then (λ p. task_of p.0 p.1)) (sym (of_line line_simple).1)
