-- Sources and sinks in memory, as contracts see them.
use Rattle.std.specs.Prelude.{ℕ, ◌+◌, ◌-◌, ◌^◌, ◌==◌, Bool, false, if◌then◌else◌, List, length, Option, None, Some}
use Rattle.std.specs.List.{list_any}

-- a source: what is left, how many bytes a call gives at most, the numbers of the calls that fail, the next call's
-- number, and the count of faults
pub record MemorySource : Type 0 where
  pub rest : List ℕ
  pub step : ℕ
  pub fails : List ℕ
  pub call : Option ℕ
  pub faults : ℕ

-- a sink: what it took, the room that is left, how many bytes a call takes at most, and the rest as of a source
pub record MemorySink : Type 0 where
  pub taken : List ℕ
  pub room : ℕ
  pub step : ℕ
  pub fails : List ℕ
  pub call : Option ℕ
  pub faults : ℕ

-- the number after a call's; calls past the number 2 ^ 64 - 1 have none
abbrev pub next_call : Option ℕ → Option ℕ
next_call None = None
next_call (Some n) = if n == 2 ^ 64 - 1 then None else Some (n + 1)

-- the call is one of those that fail
abbrev pub is_failing : List ℕ → Option ℕ → Bool
is_failing fails None = false
is_failing fails (Some n) = list_any (λ k. k == n) fails

-- no call of the source fails
abbrev pub never_fails : MemorySource → Bool
never_fails source = length source.fails == 0

-- the room of a sink that is sure: all that is left, or none where some calls fail
abbrev pub room_for_sure : MemorySink → ℕ
room_for_sure sink = if length sink.fails == 0 then sink.room else 0
