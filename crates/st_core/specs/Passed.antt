-- Names for the passing of bytes through std's readers and writers, standard input and output
-- among them. No contract says which bytes those are (own profile): `Passed` says that a call
-- passed them, and nothing more. A function over any source or sink is proved for all of them at
-- once and can't tell which it has; one of them is a `Recorder`, whose relation is the record of
-- what passed.
use Rattle.std.specs.Prelude.{ℕ, List}

-- one call passed these bytes and led from the first state to the second
pub Passed : {S : Type 0} → S → List ℕ → S → Type 0
Passed from bytes to = Unit {0}

-- a call found the device at its end
pub HasEnded : {S : Type 0} → S → Type 0
HasEnded device = Unit {0}

-- proves `Passed`, for the proofs of `take` and `put` alone
pub passed : {S : Type 0} (from : S) (bytes : List ℕ) (to : S) → Passed from bytes to
unfolding Passed
passed from bytes to = tt

-- proves `HasEnded`, for the proof of `take` alone
pub has_ended : {S : Type 0} (device : S) → HasEnded device
unfolding HasEnded
has_ended device = tt
