-- What the functions of this crate answer, against the definitions.
use Rattle.std.specs.Prelude.{◌≡◌, ◌≢◌, Result, Ok, Err}
use Rattle.kz_model.specs.declared.layout.LayoutCause.{LayoutCause}
use Rattle.kz_model.specs.declared.layout.LayoutCause.TheVariants.{Memory}

-- what is answered stands for what the definition gives, and a cause is the definition's, unless memory ran out
abbrev pub Gives : {A B : Type 0} → (A → B → Type 0) → Result A LayoutCause → Result B LayoutCause → Type 0
Gives StandsFor (Ok a) given = (b : _) × (given ≡ Ok b) × StandsFor a b
Gives StandsFor (Err cause) given = cause ≢ Memory → given ≡ Err cause
