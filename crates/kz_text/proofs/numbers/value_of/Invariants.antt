use Rattle.std.proofs.Common.{◌≡◌, ◌<◌, ◌^◌, take}
use Rattle.std.specs.Str.Parse.{digits_value}
use Rattle.kz_text.proofs.numbers.value_of.Given as goal

-- the value of the digits so far
abbrev pub invariant-loop-byte : goal.invariant-loop-byte
invariant-loop-byte l = record { so_far : l.value ≡ digits_value 10 (take l.byte-index l.text); small : l.value < 10 ^ l.byte-index }
