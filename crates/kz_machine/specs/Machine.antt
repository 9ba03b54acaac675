-- A machine as contracts see it.
use Rattle.std.specs.Prelude.{ℕ, List, slice_index_or}
use Rattle.kz_model.specs.declared.record.Room.{Room}
use Rattle.kz_supply.specs.Thin.{ThinSupply}
use Rattle.kz_book.specs.Book.{Book}
use Rattle.kz_cpu.specs.Cpu.{Cpu}
use Rattle.kz_model.specs.Store.Replies.{RepliesSoFar}
use Rattle.kz_machine.specs.RecordRoom.{RecordRoom, no_replies}

-- the CPUs, each zone's book and room, the supply, each CPU's replies, the round, and room for the record
pub record Machine : Type 0 where
  pub cpus : List Cpu
  pub books : List Book
  pub rooms : List Room
  pub supply : ThinSupply
  pub replies : List RepliesSoFar
  pub round : ℕ
  pub record_room : RecordRoom

abbrev pub replies_at : List RepliesSoFar → ℕ → RepliesSoFar
replies_at replies cpu = slice_index_or replies cpu no_replies
