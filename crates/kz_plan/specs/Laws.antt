-- Laws over the definition of the plan.
use Rattle.std.specs.Prelude.{◌≡◌, ℕ, ◌&&◌, List}
use Rattle.std.specs.Cmp.Lexicographic.{slice_cmp}
use Rattle.std.specs.List.{list_any}
use Rattle.std.specs.List.Sorted.{IsStrictlySortedBy, IsPermutation}
use Rattle.std.specs.Ordering.{nat_cmp}
use Rattle.kz_model.specs.declared.bundle.Seed.{Seed}
use Rattle.kz_model.specs.declared.record.Layout.{Layout}
use Rattle.kz_model.specs.Types.Layouts.{has, is}
use Rattle.kz_model.specs.Types.Plan.{Signature, is_general, signatures, shuffled}

-- the signatures of a class rise by their bytes, so each is there once
abbrev pub SignaturesRise : Type 0
SignaturesRise = (layouts : List Layout) (class : ℕ) → IsStrictlySortedBy (slice_cmp nat_cmp) (signatures layouts class)

-- a signature is among them exactly where a type of the class that isn't data-only has it
abbrev pub SignaturesAreThoseOfTypes : Type 0
SignaturesAreThoseOfTypes =
    (signature : Signature) (layouts : List Layout) (class : ℕ) →
    has signature (signatures layouts class)
    ≡ list_any (λ layout. is_general class layout && is signature layout.letters) layouts

-- a shuffle only puts them into another order
abbrev pub ShufflesKeepAll : Type 0
ShufflesKeepAll = (seed : Seed) (drawn : ℕ) (all : List Signature) → IsPermutation all (shuffled seed drawn all)
