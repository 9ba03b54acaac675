-- What holds of each bundle that a text spells, and the texts that are made of it.
use Rattle.std.specs.Prelude.{◌≡◌, ℕ, ◌<◌, ◌≤◌, List, [], length, sum_by, Result, Ok, Err, All, IsTrue}
use Rattle.std.specs.List.Sorted.{IsNonDecreasingBy}
use Rattle.std.specs.Option.{IfSome}
use Rattle.kz_model.specs.declared.bundle.Act.{Act}
use Rattle.kz_model.specs.declared.bundle.Act.TheVariants as act
use Rattle.kz_model.specs.declared.bundle.TraceStep.{TraceStep}
use Rattle.kz_model.specs.declared.bundle.Bundle.{Bundle}
use Rattle.kz_model.specs.declared.layout.LayoutFault.{LayoutFault}
use Rattle.kz_model.specs.declared.record.Layout.{Layout}
use Rattle.kz_model.specs.declared.record.Plan.{Plan}
use Rattle.kz_model.specs.Grammar.Tokens.{is_name}
use Rattle.kz_model.specs.Types.Layouts.{layouts_of, AreInRange}
use Rattle.kz_model.specs.Types.Plan.{plan_of, classes_in_use}
use Rattle.kz_model.specs.Grammar.Stages.{read}
use Rattle.kz_model.specs.Store.Traces.{AreNumbered}
use Rattle.kz_model.specs.Grammar.Turns.{counts_in, AreInTurn}

-- a read is of no more bytes than a line may ask for
abbrev pub HasShortRead : Act → Type 0
HasShortRead (act.Read name off len) = len ≤ 32
HasShortRead other = Unit {0}

-- a step's names, types and round are among so many
pub record IsStepWithin (names types rounds : ℕ) (step : TraceStep) : Type 0 where
  pub act : AreNumbered names types step.act
  pub read : HasShortRead step.act
  pub round : step.round < rounds

-- the layouts of a bundle's types
abbrev pub ok_or_none : Result (List Layout) LayoutFault → List Layout
ok_or_none (Ok layouts) = layouts
ok_or_none (Err fault) = []

abbrev pub layouts_in : Bundle → List Layout
layouts_in b = ok_or_none (layouts_of b.types)

-- What a bundle's numbers and its order keep to.
pub record IsValid (b : Bundle) : Type 0 where
  pub some_cpus : 1 ≤ b.cpus
  pub few_cpus : b.cpus ≤ 16
  pub frames : b.frames ≤ 8192
  pub pages : b.pages ≤ 4096
  pub budget : b.budget ≤ 128
  pub magazine : (1 ≤ b.magazine) × (b.magazine ≤ 32)
  pub depot : b.depot ≤ 16
  pub types : AreInRange b.types
  pub type_names : All (λ decl. IsTrue (is_name decl.name)) b.types
  pub laid_out : layouts_of b.types ≡ Ok (layouts_in b)
  pub enough : length (classes_in_use (layouts_in b)) ≤ b.budget
  pub few_names : length b.names ≤ 100000
  pub names : All (λ row. IsTrue (is_name row.name) × (row.of < length b.types)) b.names
  pub rounds : (1 ≤ b.rounds) × (b.rounds ≤ 1000)
  pub traces : length b.traces ≡ b.cpus
  pub steps : All (λ trace. All (IsStepWithin (length b.names) (length b.types) b.rounds) trace) b.traces
  pub few_steps : sum_by length b.traces ≤ 1000000
  -- along a trace the rounds do not fall
  pub in_rounds : All (IsNonDecreasingBy (λ line. line.round)) b.traces
  pub order : IfSome b.order (AreInTurn b 0 (counts_in b 0))

-- ---- what is made of a bundle

abbrev pub plan_in : Bundle → Plan
plan_in b = plan_of (layouts_in b) b.budget b.seed

-- ---- a law

-- each bundle that is read keeps to that
abbrev pub ReadingIsValid : Type 0
ReadingIsValid = (bytes : List ℕ) (b : Bundle) → read bytes ≡ Ok b → IsValid b
