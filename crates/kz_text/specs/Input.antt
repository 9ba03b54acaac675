-- What was read of a source, by the answer of reading it to its end.
use Rattle.std.specs.Prelude.{◌≡◌, ℕ, ◌+◌, List, Option}
use Rattle.kz_text.specs.declared.input.InputFault.{InputFault}
use Rattle.kz_text.specs.declared.input.InputFault.TheVariants.{ReadFault, TooLong, Memory}
use Rattle.kz_text.specs.Streams.{ConsumesBetween}

-- a failing read leaves at most the limit read; too long is a source of which one byte more was read, and then no
-- further one
abbrev pub HasReadAt : InputFault → Option (List ℕ) → Option (List ℕ) → ℕ → Type 0
HasReadAt ReadFault old new limit = ConsumesBetween old new 0 limit
HasReadAt (TooLong told) old new limit = (told ≡ limit) × ConsumesBetween old new (limit + 1) (limit + 1)
HasReadAt Memory old new limit = ConsumesBetween old new 0 (limit + 1)
