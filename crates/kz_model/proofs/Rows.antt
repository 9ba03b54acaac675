-- Worked rows, computed from the definitions.
use Rattle.std.proofs.Common.{◌≡◌, ℕ, List, [], ◌∷◌, ◌++◌, Option, None, Some, replicate, refl}
use Rattle.std.specs.Option.{option_map_or}
use Rattle.kz_model.specs.declared.step.Step.{Step}
use Rattle.kz_model.specs.declared.step.Step.TheVariants.{Alloc, Free, Flush, Trim, Read, Write}
use Rattle.kz_model.specs.declared.step.Reply.{Reply}
use Rattle.kz_model.specs.declared.step.Reply.TheVariants as reply
use Rattle.kz_model.specs.declared.bundle.Seed.TheVariants.{Plain, Number}
use Rattle.kz_model.specs.declared.record.ZoneParams.{ZoneParams}
use Rattle.kz_model.specs.declared.supply.Answer.{Answer}
use Rattle.kz_model.specs.declared.supply.Answer.TheVariants.{Base, Given, Taken}
use Rattle.kz_model.specs.Zone.Alone.{alone}
use Rattle.kz_model.specs.Zone.Words.{word}

abbrev params : ℕ → ZoneParams
params depot = record { zone = 0; element = 16; count = 256; pages = 1; cpus = 1; magazine = 2; depot = depot; seed = Plain; submap = 4 }

abbrev by_cpu_0 : List Step → List (ℕ × Step)
by_cpu_0 [] = []
by_cpu_0 (step ∷ steps) = (0, step) ∷ by_cpu_0 steps

-- the replies of the zone alone
abbrev replies : ℕ → List Step → List Answer → Option (List Reply)
replies depot steps answers = option_map_or (λ c. Some c.replies) (alone (params depot) (by_cpu_0 steps) answers) None

abbrev block : ℕ → Reply
block index = reply.Block (record { chunk = 0; index = index })

pub allocated_and_freed : replies 1 (Alloc 0 ∷ Free 0 None ∷ []) (Base 0 ∷ []) ≡ Some (block 1 ∷ reply.Done ∷ [])
allocated_and_freed = refl

abbrev allocs : List ℕ → List Step
allocs [] = []
allocs (n ∷ ns) = Alloc n ∷ allocs ns

abbrev frees : List ℕ → List Step
frees [] = []
frees (n ∷ ns) = Free n None ∷ frees ns

abbrev blocks : List ℕ → List Reply
blocks [] = []
blocks (n ∷ ns) = block n ∷ blocks ns

abbrev five : List ℕ
five = 1 ∷ 2 ∷ 3 ∷ 4 ∷ 5 ∷ []

abbrev six : List ℕ
six = 6 ∷ 7 ∷ 8 ∷ 9 ∷ 10 ∷ 11 ∷ []

abbrev done_5 : List Reply
done_5 = reply.Done ∷ reply.Done ∷ reply.Done ∷ reply.Done ∷ reply.Done ∷ []

pub through_the_depot : replies 1 (allocs five ++ frees five ++ allocs six) (Base 0 ∷ []) ≡
    Some (blocks (1 ∷ 0 ∷ 3 ∷ 2 ∷ 5 ∷ []) ++ done_5 ++ blocks (5 ∷ 2 ∷ 3 ∷ 0 ∷ 1 ∷ 4 ∷ []))
through_the_depot = refl

pub without_a_depot : replies 0 (allocs five ++ frees five ++ allocs six) (Base 0 ∷ []) ≡
    Some (blocks (1 ∷ 0 ∷ 3 ∷ 2 ∷ 5 ∷ []) ++ done_5 ++ blocks (5 ∷ 2 ∷ 3 ∷ 0 ∷ 4 ∷ 1 ∷ []))
without_a_depot = refl

pub trimmed : replies 1 (Alloc 0 ∷ Free 0 None ∷ Flush ∷ Trim ∷ Alloc 1 ∷ []) (Base 0 ∷ Taken ∷ Given ∷ []) ≡
    Some (block 1 ∷ reply.Done ∷ reply.Done ∷ reply.Trimmed 1 ∷ block 1 ∷ [])
trimmed = refl

pub refused : replies 1 (Alloc 0 ∷ Alloc 0 ∷ Free 0 None ∷ Free 0 None ∷ []) (Base 0 ∷ []) ≡
    Some (block 1 ∷ reply.NameBusy ∷ reply.Done ∷ reply.NotHeld ∷ [])
refused = refl

pub first_word : word (Number 42) 54 0 ≡ 0xa15c02b7
first_word = refl

pub second_word : word (Number 42) 54 1 ≡ 0x7b47f409
second_word = refl

pub third_word : word (Number 42) 54 2 ≡ 0xba1d3330
third_word = refl

-- a stale write in its own zone
pub stale_write : replies 1 (Alloc 0 ∷ Free 0 None ∷ Alloc 1 ∷ Write 0 0 (255 ∷ []) ∷ Read 1 0 1 ∷ []) (Base 0 ∷ []) ≡
    Some (block 1 ∷ reply.Done ∷ block 1 ∷ reply.Done ∷ reply.Bytes (255 ∷ []) ∷ [])
stale_write = refl

-- a refusal names both zones, and a read past the element is refused
pub wrong_zone : replies 1 (Alloc 0 ∷ Free 0 (Some 1) ∷ Free 0 (Some 0) ∷ Read 0 8 8 ∷ Read 0 9 8 ∷ []) (Base 0 ∷ []) ≡
    Some (block 1 ∷ reply.WrongZone 1 0 ∷ reply.Done ∷ reply.Bytes (replicate 8 0) ∷ reply.OutOfBlock ∷ [])
wrong_zone = refl

-- a name that is no longer held is refused by another zone first
pub wrong_zone_first : replies 1 (Alloc 0 ∷ Free 0 None ∷ Free 0 (Some 1) ∷ Free 0 (Some 0) ∷ Free 1 (Some 1) ∷ []) (Base 0 ∷ []) ≡
    Some (block 1 ∷ reply.Done ∷ reply.WrongZone 1 0 ∷ reply.NotHeld ∷ reply.NoName ∷ [])
wrong_zone_first = refl
