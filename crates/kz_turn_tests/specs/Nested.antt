-- For the tests: what a value knows of the pass of another turn that it keeps.
use Rattle.std.specs.Prelude.{ℕ, [], refl}
use Rattle.std.specs.Coded.{Coded, code_by, coded×, coded_ℕ}
use Rattle.atomic_table.specs.Seated.{TableId, table_id_coded}

-- the name of the other turn, and the number of the pass
pub record Inner : Type 0 where
  pub turn : TableId
  pub number : ℕ

abbrev pub inner_code : Coded Inner
inner_code = code_by (TableId × ℕ) (coded× table_id_coded coded_ℕ) (λ s. (s.turn, s.number))
    (λ p. record { turn = p.0; number = p.1 }) (λ _. refl)

abbrev pub no_inner : Inner
no_inner = record {
  turn = record {
    words = 0;
    slots = 0;
    views_name = 0;
    atom = 0;
    block = 0;
    offset = 0;
    slot_names =
        [];
  };
  number = 0;
}
