-- What a line says, as the definition has it, and which lines may stand where.
use Rattle.std.specs.Prelude.{◌≡◌, ◌≢◌, ℕ, ◌+◌, ◌-◌, ◌≤◌}
use Rattle.kz_model.specs.declared.grammar.Place.{Place}
use Rattle.kz_model.specs.declared.grammar.Place.TheVariants as place
use Rattle.kz_model.specs.Store.TypeLines.{decl_of, IsTypeLine}
use Rattle.kz_model.specs.Grammar.Form as form
use Rattle.kz_bundle.specs.declared.form.lines.Line.{Line}
use Rattle.kz_bundle.specs.declared.form.lines.Line.TheVariants.{Machine, SeedOf, Cpus, Frames, Pages, Budget, Magazine, Depot, Declares, Opens, Break, Orders, Turns, Ends}

abbrev pub line_as : Line → form.Line
line_as (Machine n) = form.Machine n
line_as (SeedOf seed) = form.SeedOf seed
line_as (Cpus n) = form.Cpus n
line_as (Frames n) = form.Frames n
line_as (Pages n) = form.Pages n
line_as (Budget n) = form.Budget n
line_as (Magazine n) = form.Magazine n
line_as (Depot n) = form.Depot n
line_as (Declares name text) = form.Declares (decl_of text.now)
line_as (Opens cpu) = form.Opens cpu
line_as Break = form.Break
line_as Orders = form.Orders
line_as (Turns cpu) = form.Turns cpu
line_as Ends = form.Ends

-- the line is one of those of the header
abbrev pub FitsHeader : ℕ → Line → Type 0
FitsHeader at (Machine n) = at ≢ 2
FitsHeader at (SeedOf seed) = at ≢ 2
FitsHeader at (Cpus n) = (1 ≤ n) × (n ≤ 16)
FitsHeader at (Frames n) = at ≢ 2
FitsHeader at (Pages n) = at ≢ 2
FitsHeader at (Budget n) = at ≢ 2
FitsHeader at (Magazine n) = at ≢ 2
FitsHeader at (Depot n) = at ≢ 2
FitsHeader at other = ⊥

abbrev pub FitsTypes : Line → Type 0
FitsTypes (Declares name text) = IsTypeLine text.now (decl_of text.now) × (name ≡ (decl_of text.now).name)
FitsTypes (Opens cpu) = Unit {0}
FitsTypes other = ⊥

-- so many sections stand before the newest
abbrev pub FitsSteps : ℕ → ℕ → Line → Type 0
FitsSteps cpus sections Break = Unit {0}
FitsSteps cpus sections (Opens cpu) = sections + 1 ≢ cpus
FitsSteps cpus sections Orders = sections + 1 ≡ cpus
FitsSteps cpus sections Ends = sections + 1 ≡ cpus
FitsSteps cpus sections other = ⊥

abbrev pub FitsOrder : ℕ → Line → Type 0
FitsOrder cpus (Turns cpu) = cpu ≤ cpus - 1
FitsOrder cpus Break = Unit {0}
FitsOrder cpus Ends = Unit {0}
FitsOrder cpus other = ⊥

-- a line that may stand at this place
abbrev pub Fits : Place → ℕ → ℕ → Line → Type 0
Fits (place.Header at) cpus sections line = FitsHeader at line
Fits place.Types cpus sections line = FitsTypes line
Fits place.Steps cpus sections line = FitsSteps cpus sections line
Fits place.Order cpus sections line = FitsOrder cpus line
Fits place.Ended cpus sections line = ⊥
