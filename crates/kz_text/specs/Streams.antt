-- What the calls of sources and sinks say of faults and of bytes.
use Rattle.std.specs.Prelude.{ℕ, ◌+◌, ◌-◌, ◌^◌, ◌≤◌, min, List, length, take, Option}
use Rattle.std.specs.Io.KnownBytes.{Consumes, Appends}

-- a count of faults has risen, or stands at the end of its type
abbrev pub Rose : ℕ → ℕ → Type 0
Rose before now = min (before + 1) (2 ^ 64 - 1) ≤ now

-- the count after one fault more, which stays at the end of its type
abbrev pub one_more : ℕ → ℕ
one_more faults = min (faults + 1) (2 ^ 64 - 1)

-- some bytes, at least so many and at most so many, left the front of what a source has
pub record ConsumesBetween (old new : Option (List ℕ)) (least most : ℕ) : Type 0 where
  pub bytes : List ℕ
  pub least_read : least ≤ length bytes
  pub most_read : length bytes ≤ most
  pub front : Consumes old new bytes

-- what a sink took grew by the first bytes of these
pub record AppendsFront (old new : Option (List ℕ)) (bytes : List ℕ) : Type 0 where
  pub count : ℕ
  pub within : count ≤ length bytes
  pub front : Appends old new (take count bytes)
