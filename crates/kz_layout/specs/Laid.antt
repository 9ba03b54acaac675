-- What a layouter has laid out.
use Rattle.std.specs.Prelude.{◌≡◌, ◌≤◌, List, [], Ok}
use Rattle.kz_model.specs.declared.bundle.TypeDecl.{TypeDecl}
use Rattle.kz_model.specs.declared.record.Layout.{Layout}
use Rattle.kz_model.specs.Types.Cover.{Covered}
use Rattle.kz_model.specs.Types.Layouts.{Text, types_from}
use Rattle.kz_layout.specs.Granules.{Granules, AllStand}
use Rattle.kz_layout.specs.Shown.{types_at}

-- the names of all declarations, and the bodies of those that were laid out
pub record Laid : Type 0 where
  pub names : List Text
  pub bodies : List Granules

-- the layouter has laid out these declarations, and no others
pub record HasLaidOut (laid : Laid) (decls : List TypeDecl) : Type 0 where
  pub covers : List Covered
  pub given : types_from (types_at laid.names []) decls ≡ Ok covers
  pub stand : AllStand laid.bodies covers

-- a size is from 1 to 8192
abbrev pub IsSize : Layout → Type 0
IsSize layout = (1 ≤ layout.size) × (layout.size ≤ 8192)
