-- A cutter after all the bytes that it took, however they were cut into pieces.
use Rattle.std.specs.Prelude.{◌≡◌, ℕ, ◌<◌, Bool, true, false, List, [], ◌∷◌, ◌++◌, length, map}
use Rattle.std.specs.Prelude.{Option, Some, None, ◌⊎◌}
use Rattle.st_text.specs.declared.line.Line.{Line}
use Rattle.st_text.specs.declared.fault.ReadFault.{ReadFault}
use Rattle.st_text.specs.declared.builder.BundleBuilder.{BundleBuilder}
use Rattle.st_text.specs.declared.cutter.Cutter.{Cutter}
use Rattle.st_text.specs.declared.limits.Limits.{Limits}
use Rattle.st_text.specs.Fault.{cut, sayings, first_fault}
use Rattle.st_text.specs.Parts.Cutter.{IsStateAfter, IsTail}
use Rattle.st_text.specs.Growth.{EndsKept, EndsWithin}

-- each line so far is good, and the cutter keeps their bundle and the unfinished line
pub record IsGood (limits : Limits) (bytes : List ℕ) (long : Bool) (kept : List ℕ)
    (p : Option BundleBuilder)
    (ls : List Line) : Type 0 where
  pub tail_is : IsTail long kept (cut bytes).1
  pub held : IsStateAfter p ls
  pub said : sayings bytes ≡ map Some ls
  pub good : first_fault limits [] (sayings bytes) ≡ None

-- nothing is known if memory ran out; a fault is that of the first faulty line; else all lines are
-- good
abbrev pub HasTakenAs : Limits → Bool → Option ReadFault → List ℕ → Bool → List ℕ
    → Option BundleBuilder → Type 0
HasTakenAs limits true fault bytes long kept p = Unit {0}
HasTakenAs limits false (Some f) bytes long kept p = first_fault limits [] (sayings bytes) ≡ Some f
HasTakenAs limits false None bytes long kept p =
    (ls : List Line) × IsGood limits bytes long kept p ls

abbrev pub HasTaken : Limits → List ℕ → Cutter → Type 0
HasTaken limits bytes c = HasTakenAs limits c.out c.fault bytes c.long c.tail.items c.builder

-- the cutter has taken these bytes, and if memory ran out there was this growth
pub record Comes (limits : Limits) (bytes : List ℕ) (new : Cutter) (Growth : Type 0) : Type 0 where
  pub holds : HasTaken limits bytes new
  pub growth : new.out ≡ true → Growth

-- the rest belongs to an unfinished line
pub record AddsBytes (limits : Limits) (bytes rest : List ℕ) : Type 0 where
  pub within : EndsWithin limits (bytes ++ rest)
  pub some : 0 < length rest

-- the line that ends was begun in earlier bytes, or a bundle holds it
abbrev pub EndsOne : Limits → List ℕ → List ℕ → Type 0
EndsOne limits bytes rest = EndsWithin limits bytes ⊎ EndsKept limits (bytes ++ (rest ++ 10 ∷ []))
