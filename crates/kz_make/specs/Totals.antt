-- What replies come to.
use Rattle.std.specs.Prelude.{◌≡◌, ℕ, ◌*◌, ◌^◌, ◌≤◌, List, length}
use Rattle.std.specs.List.{count_by, flat_map}
use Rattle.kz_model.specs.declared.step.Reply.{Reply}
use Rattle.kz_model.specs.Text.Summary.{is_block, is_refusal, pages_trimmed}
use Rattle.kz_make.specs.declared.totals.Totals.{Totals}

-- the replies of all CPUs, CPU by CPU
abbrev pub replies_in : List (List Reply) → List Reply
replies_in all = flat_map (λ replies. replies) all

-- no more than one reply brings
pub record IsWithin (t : Totals) : Type 0 where
  pub blocks : t.blocks ≤ t.steps
  pub refused : t.refused ≤ t.steps
  pub trimmed : t.trimmed ≤ 2 ^ 32 * t.steps

-- the totals of these replies
pub record AreTotals (t : Totals) (replies : List Reply) : Type 0 where
  pub steps : t.steps ≡ length replies
  pub blocks : t.blocks ≡ count_by is_block replies
  pub refused : t.refused ≡ count_by is_refusal replies
  pub trimmed : t.trimmed ≡ pages_trimmed replies
