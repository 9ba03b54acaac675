-- What a turn is known by.
use Rattle.std.specs.Prelude.{ℕ}
use Rattle.atomic_table.specs.Seated.{TableId}
use Rattle.kz_turn.specs.declared.turn.Turn.{Turn}

-- its name, which its passes carry
abbrev pub turn_name : {T B E : Type 0} → Turn T B E → TableId
turn_name t = t.table.shared.table_id

-- how many seats it was opened with
abbrev pub turn_seats : {T B E : Type 0} → Turn T B E → ℕ
turn_seats t = t.table.shared.key.seats
