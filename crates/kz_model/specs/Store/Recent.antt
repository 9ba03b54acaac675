-- Steps and one more.
use Rattle.std.specs.Prelude.{List, [], ◌∷◌, ◌++◌, Option, Some, None}
use Rattle.kz_model.specs.declared.step.Step.{Step}

-- where there are steps before, those and this one; else none
abbrev pub grown_by : Option (List Step) → Step → List Step
grown_by None step = []
grown_by (Some before) step = before ++ step ∷ []
