-- What step lines say of names and types: sentences over the lines themselves, each with its CPU, in the text's order.
use Rattle.std.specs.Prelude.{◌≡◌, ◌≢◌, ◌≤◌, ◌⊎◌, ℕ, List, ◌∷◌, ◌++◌, length, Some, All, Contains}
use Rattle.std.specs.List.{AllPairs}
use Rattle.std.specs.Option.{IfSome}
use Rattle.kz_model.specs.declared.grammar.Cause.{Cause}
use Rattle.kz_model.specs.declared.grammar.Cause.TheVariants as cause
use Rattle.kz_model.specs.declared.grammar.Counted.TheVariants as counted
use Rattle.kz_model.specs.Grammar.Steps.{Alloc, AllocZero}
use Rattle.kz_model.specs.Grammar.Stages.{CpuLine, type_in, name_in, gives_to}

-- an `a` or `z` line of this name with this type
abbrev pub Allocates : CpuLine → List ℕ → List ℕ → Type 0
Allocates line name of = (line.1.said ≡ Alloc name of) ⊎ (line.1.said ≡ AllocZero name of)

-- one of these lines is an `a` or `z` line of this name
pub record IsBound (lines : List CpuLine) (name : List ℕ) : Type 0 where
  pub line : CpuLine
  pub of : List ℕ
  pub there : Contains lines line
  pub allocates : Allocates line name of

-- texts no two of which are equal
abbrev pub AreDifferent : List (List ℕ) → Type 0
AreDifferent names = AllPairs (λ one other. one ≢ other) names

-- ---- sentences

-- two `a` or `z` lines of one name have one type and stand on one CPU
abbrev pub EachNameHasOneTypeAndCpu : List CpuLine → Type 0
EachNameHasOneTypeAndCpu lines =
    (one other : CpuLine) (name of type : List ℕ) → Contains lines one → Contains lines other →
    Allocates one name of → Allocates other name type → (of ≡ type) × (one.0 ≡ other.0)

-- the name of each of these lines has an `a` or `z` line, before or behind, somewhere in the whole text
abbrev pub EveryNameIsBound : List CpuLine → List CpuLine → Type 0
EveryNameIsBound whole lines = All (λ line. IfSome (name_in line.1.said) (IsBound whole)) lines

abbrev pub EveryTypeIsDeclared : List (List ℕ) → List CpuLine → Type 0
EveryTypeIsDeclared types lines = All (λ line. IfSome (type_in line.1.said) (Contains types)) lines

abbrev pub NoGiftIsToItsGiver : List CpuLine → Type 0
NoGiftIsToItsGiver lines = All (λ line. gives_to line.1.said ≢ Some line.0) lines

-- at most 100,000 names have an `a` or `z` line
pub record HasFewNames (lines : List CpuLine) : Type 0 where
  pub names : List (List ℕ)
  pub few : length names ≤ 100000
  pub each : (name : List ℕ) → IsBound lines name → Contains names name

-- all sentences of these lines, which stand in the whole text
pub record AreNamed (types : List (List ℕ)) (whole lines : List CpuLine) : Type 0 where
  pub one_type_and_cpu : EachNameHasOneTypeAndCpu lines
  pub declared : EveryTypeIsDeclared types lines
  pub bound : EveryNameIsBound whole lines
  pub gifts : NoGiftIsToItsGiver lines
  pub few : HasFewNames lines

-- ---- how a line breaks one

-- an earlier `a` or `z` line of the line's name has another type
pub record HasOtherType (before : List CpuLine) (line : CpuLine) : Type 0 where
  pub name : List ℕ
  pub of : List ℕ
  pub type : List ℕ
  pub earlier : CpuLine
  pub there : Contains before earlier
  pub here : Allocates line name of
  pub first : Allocates earlier name type
  pub differ : of ≢ type

-- an earlier `a` or `z` line of the line's name has the same type, and stands on another CPU
pub record HasOtherCpu (before : List CpuLine) (line : CpuLine) : Type 0 where
  pub name : List ℕ
  pub of : List ℕ
  pub earlier : CpuLine
  pub there : Contains before earlier
  pub here : Allocates line name of
  pub first : Allocates earlier name of
  pub differ : line.0 ≢ earlier.0

-- 100,000 different names have an earlier `a` or `z` line, and this `a` or `z` line is of none of them
pub record IsOneNameTooMany (before : List CpuLine) (line : CpuLine) : Type 0 where
  pub names : List (List ℕ)
  pub many : length names ≡ 100000
  pub different : AreDifferent names
  pub bound : All (IsBound before) names
  pub name : List ℕ
  pub of : List ℕ
  pub here : Allocates line name of
  pub new : ¬ IsBound before name

pub record HasUnknownType (types : List (List ℕ)) (line : CpuLine) : Type 0 where
  pub of : List ℕ
  pub here : type_in line.1.said ≡ Some of
  pub unknown : ¬ Contains types of

-- the line's name has no `a` or `z` line in the whole text
pub record HasUnknownName (whole : List CpuLine) (line : CpuLine) : Type 0 where
  pub name : List ℕ
  pub here : name_in line.1.said ≡ Some name
  pub unknown : ¬ IsBound whole name

-- by the cause, what a line breaks, with the lines before it
abbrev pub BreaksNames : List (List ℕ) → List CpuLine → Cause → List CpuLine → CpuLine → Type 0
BreaksNames types whole cause.UnknownType before line = HasUnknownType types line
BreaksNames types whole cause.NameOfTwoTypes before line = HasOtherType before line
BreaksNames types whole cause.NameOfTwoCpus before line = HasOtherCpu before line
BreaksNames types whole (cause.TooMany counted.Names) before line = IsOneNameTooMany before line
BreaksNames types whole cause.UnknownName before line = HasUnknownName whole line
BreaksNames types whole cause.GiveToSelf before line = gives_to line.1.said ≡ Some line.0
BreaksNames types whole other before line = ⊥

-- The step line of this number breaks a sentence, and those before it break none.
pub record IsNameFault (types : List (List ℕ)) (whole : List CpuLine) (number : ℕ) (cause : Cause) : Type 0 where
  pub before : List CpuLine
  pub line : CpuLine
  pub after : List CpuLine
  pub parts : whole ≡ before ++ line ∷ after
  pub numbered : line.1.line ≡ number
  pub broken : BreaksNames types whole cause before line
  pub first : AreNamed types whole before
