-- What a CPU's cache of a zone keeps.
use Rattle.std.specs.Prelude.{◌≡◌, ℕ, ◌≤◌}

-- Its stack is of the zone's magazines, and it has room for the chunks that the zone's room tells.
pub record IsRoomy (magazine of_params most_chunks bases_len bases_capacity : ℕ) : Type 0 where
  pub same_magazine : magazine ≡ of_params
  pub few_blocks : of_params ≤ 32
  pub few_chunks : most_chunks ≤ 4096
  pub few_bases : bases_len ≤ most_chunks
  pub for_bases : most_chunks ≤ bases_capacity
