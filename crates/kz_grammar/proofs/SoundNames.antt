-- Step lines whose names are sound break no sentence of names.
use Rattle.std.proofs.Common.{◌≡◌, ◌≢◌, ⊎_elim, ℕ, zero, suc, List, ◌∷◌, ◌++◌, Option, Some, None, sym, subst, arith}
use Rattle.std.specs.Prelude.{All, Contains}
use Rattle.std.specs.Option.{IfSome}
use Rattle.std.proofs.lemmas.List.Elements.{All-contains, Contains-append_left, Contains-append_right}
use Rattle.kz_model.specs.declared.grammar.Cause.{Cause}
use Rattle.kz_model.specs.declared.grammar.Cause.TheVariants as cause
use Rattle.kz_model.specs.declared.grammar.Counted.TheVariants as counted
use Rattle.kz_model.specs.Grammar.Stages.{CpuLine, type_in, name_in, gives_to}
use Rattle.kz_grammar.specs.Names.{IsBound, AreDifferent, AreNamed, IsOneNameTooMany, BreaksNames, IsNameFault}
use Rattle.kz_grammar.proofs.Members.{contains_first, contains_cases}
use Rattle.kz_grammar.proofs.Pigeons.{no_more}

-- what holds of what is there
at_some : {A : Type 0} (o : Option A) (a : A) (Q : A → Type 0) → o ≡ Some a → IfSome o Q → Q a
at_some None a Q e is = absurd (none a e)
  where
    none : {A : Type 0} (a : A) → None ≡ Some a → ⊥
    none a e = cc
at_some {A} (Some b) a Q e is = subst Q (same b a e) is
  where
    same : (b a : A) → Some b ≡ Some a → b ≡ a
    same b a e = cc

-- one name more than those that are bound
one_more_differs : (lines : List CpuLine) (name : List ℕ) (names : List (List ℕ)) → AreDifferent names → All (IsBound lines) names → ¬ IsBound lines name → AreDifferent (name ∷ names)
one_more_differs lines name names differ bound new zero zero d lt le = absurd (omega (arith, lt))
one_more_differs lines name names differ bound new zero (suc j) d lt le = λ same. new (subst (IsBound lines) (sym same) (bound j d (omega (arith, le))))
one_more_differs lines name names differ bound new (suc i) zero d lt le = absurd (omega (arith, lt))
one_more_differs lines name names differ bound new (suc i) (suc j) d lt le = differ i j d (omega (arith, lt)) (omega (arith, le))

module _ (types : List (List ℕ)) (whole before : List CpuLine) (line : CpuLine) (after : List CpuLine) (parts : whole ≡ before ++ line ∷ after) (sound : AreNamed types whole whole) where
  here : Contains whole line
  here = subst (λ (lines : List CpuLine). Contains lines line) (sym parts) (Contains-append_right before (line ∷ after) line (contains_first line after))

  earlier : (other : CpuLine) → Contains before other → Contains whole other
  earlier other there = subst (λ (lines : List CpuLine). Contains lines other) (sym parts) (Contains-append_left before (line ∷ after) other there)

  earlier_bound : (name : List ℕ) → IsBound before name → IsBound whole name
  earlier_bound name bound = record { line = bound.line; of = bound.of; there = earlier bound.line bound.there; allocates = bound.allocates }

  too_many : IsOneNameTooMany before line → ⊥
  too_many many =
      absurd (omega (
        arith,
        many.many,
        sound.few.few,
        no_more (many.name ∷ many.names) sound.few.names (one_more_differs before many.name many.names many.different many.bound many.new)
            (λ name there. sound.few.each name (⊎_elim
            (λ (same : many.name ≡ name). subst (IsBound whole) same (record { line = line; of = many.of; there = here; allocates = many.here }))
            (λ later. earlier_bound name (All-contains (IsBound before) many.names name many.bound later))
            (contains_cases many.name many.names name there))),
      ))

  pub not_broken : (cause : Cause) → BreaksNames types whole cause before line → ⊥
  not_broken cause.UnknownType broken = broken.unknown (at_some (type_in line.1.said) broken.of (Contains types) broken.here (All-contains (λ (line : CpuLine). IfSome (type_in line.1.said) (Contains types)) whole line sound.declared here))
  not_broken cause.NameOfTwoTypes broken = broken.differ (sound.one_type_and_cpu line broken.earlier broken.name broken.of broken.type here (earlier broken.earlier broken.there) broken.here broken.first).0
  not_broken cause.NameOfTwoCpus broken = broken.differ (sound.one_type_and_cpu line broken.earlier broken.name broken.of broken.of here (earlier broken.earlier broken.there) broken.here broken.first).1
  not_broken (cause.TooMany counted.Names) broken = too_many broken
  not_broken (cause.TooMany counted.Types) broken = broken
  not_broken (cause.TooMany counted.Steps) broken = broken
  not_broken (cause.TooMany counted.Rounds) broken = broken
  not_broken cause.UnknownName broken = broken.unknown (at_some (name_in line.1.said) broken.name (IsBound whole) broken.here (All-contains (λ (line : CpuLine). IfSome (name_in line.1.said) (IsBound whole)) whole line sound.bound here))
  not_broken cause.GiveToSelf broken = All-contains (λ (line : CpuLine). gives_to line.1.said ≢ Some line.0) whole line sound.gifts here broken
  not_broken cause.BadLine broken = broken
  not_broken cause.BadNumber broken = broken
  not_broken cause.OutOfRange broken = broken
  not_broken cause.SameName broken = broken
  not_broken cause.ForwardUse broken = broken
  not_broken cause.Empty broken = broken
  not_broken (cause.TooLarge size) broken = broken
  not_broken (cause.BudgetShort classes) broken = broken
  not_broken cause.RoundsDiffer broken = broken
  not_broken cause.BadOrder broken = broken
  not_broken cause.Truncated broken = broken
  not_broken cause.Trailing broken = broken
  not_broken cause.TooLong broken = broken

pub no_fault : (types : List (List ℕ)) (whole : List CpuLine) (number : ℕ) (cause : Cause) → AreNamed types whole whole → IsNameFault types whole number cause → ⊥
no_fault types whole number cause sound fault = not_broken types whole fault.before fault.line fault.after fault.parts sound cause fault.broken
