-- What the fields of some braces are in the code.
use Rattle.std.specs.Prelude.{◌≡◌, ◌==◌, ℕ, Bool, List, length, map, Result}
use Rattle.kz_model.specs.declared.bundle.Field.{Field}
use Rattle.kz_model.specs.declared.layout.LayoutCause.{LayoutCause}
use Rattle.kz_model.specs.Types.Cover.{Covered}
use Rattle.kz_model.specs.Types.Layouts.{Inside, Types, Text, then_do, with_cover}
use Rattle.kz_layout.specs.Granules.{Granules, Stands}

-- the fields have the codes of the cover, and a byte where there is a field
pub record ShowsInside (fields : Granules) (inside : Inside) : Type 0 where
  pub stands : Stands fields inside.body
  pub empty : (length inside.names == 0) ≡ (fields.size == 0)

abbrev pub types_at : List Text → List Covered → Types
types_at names earlier = record { names = names; earlier = earlier }

abbrev pub field_names : List Field → List Text
field_names fields = map (λ f. f.name) fields

-- these fields with one more, once its own cover is known
abbrev pub with_own : Bool → Covered → ℕ → Result Covered LayoutCause → Result Covered LayoutCause
with_own in_union body count own = then_do own (with_cover in_union body count)
