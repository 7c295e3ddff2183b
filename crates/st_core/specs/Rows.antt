-- A fact about each call of a device holds of calls in a row, since their bytes follow one
-- another. Only the laws of `Recorder` use these lemmas; no contract cites them.
use Rattle.std.specs.Prelude.{ℕ, List, Option}
use Rattle.std.specs.Io.KnownBytes.{Consumes, Appends}
use Rattle.std.proofs.KnownBytes.{Consumes-nil, Consumes-trans, Appends-nil, Appends-trans}
use Rattle.st_core.specs.Device.{InARow, NoCall, OneMore}

-- the bytes that calls in a row gave stood at the front of those that were left before
pub row_consumes : {S : Type 0} (left : S → Option (List ℕ)) (gives : S → List ℕ → S → Type 0)
    → ((a : S) (bytes : List ℕ) (b : S) → gives a bytes b → Consumes (left a) (left b) bytes)
    → (a b : S) (bytes : List ℕ) → InARow gives a bytes b → Consumes (left a) (left b) bytes
row_consumes left gives each a b bytes (NoCall s) = Consumes-nil (left s)
row_consumes left gives each a b bytes (OneMore x y z xs ys row call) =
    Consumes-trans (left x) (left y) (left z) xs ys (row_consumes left gives each x y xs row)
    (each y ys z call)

-- the bytes that calls in a row wrote are at the end of those that are written after
pub row_appends : {S : Type 0} (written : S → Option (List ℕ)) (puts : S → List ℕ → S → Type 0)
    → ((a : S) (bytes : List ℕ) (b : S) → puts a bytes b → Appends (written a) (written b) bytes)
    → (a b : S) (bytes : List ℕ) → InARow puts a bytes b → Appends (written a) (written b) bytes
row_appends written puts each a b bytes (NoCall s) = Appends-nil (written s)
row_appends written puts each a b bytes (OneMore x y z xs ys row call) =
    Appends-trans (written x) (written y) (written z) xs ys
    (row_appends written puts each x y xs row) (each y ys z call)
