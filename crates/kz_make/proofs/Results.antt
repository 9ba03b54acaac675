-- What holds after a call that may fail.
use Rattle.std.proofs.Common.{◌≡◌, ℕ, Result, Ok, Err, OnOk, is_ok, if◌then◌else◌, List}

-- what follows from what was written, where all was
pub pushed : {T E P : Type 0} (r : Result T E) (now all none : List ℕ) → now ≡ (if is_ok r then all else none) → (now ≡ all → P) → OnOk r P
pushed (Ok x) now all none e f = f e
pushed (Err x) now all none e f = tt
