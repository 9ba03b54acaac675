use Rattle.std.proofs.Common.{◌≡◌, List, take, drop}
use Rattle.kz_model.specs.Types.Cover.{Covered}
use Rattle.kz_model.specs.Types.Layouts.{no_fields, fields_from}
use Rattle.kz_layout.specs.Granules.{AllStand}
use Rattle.kz_layout.specs.Shown.{ShowsInside, types_at, field_names}
use Rattle.kz_layout.specs.Tables.{AreNames}
use Rattle.kz_layout.proofs.braces.+fields.Given as goal

-- the fields that are left, after those before, give what all give
abbrev pub invariant-fields_of-loop-field : goal.invariant-fields_of-loop-field
invariant-fields_of-loop-field l = record {
  seen : AreNames l.seen (field_names (take l.field-index l.fields));
  rest : (covers : List Covered) → AllStand l.earlier covers →
      (m : Covered) × ShowsInside l.so_far (record { names = field_names (take l.field-index l.fields); body = m }) ×
      (fields_from (types_at l.names covers) l.in_union (record { names = field_names (take l.field-index l.fields); body = m }) (drop l.field-index l.fields) ≡
      fields_from (types_at l.names covers) l.in_union no_fields l.fields);
}
