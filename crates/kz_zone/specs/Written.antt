-- Bytes that are written into an element, among the chunks of a zone.
use Rattle.std.specs.Prelude.{ℕ, ◌+◌, List, slice_set}
use Rattle.kz_model.specs.declared.record.ZoneParams.{ZoneParams}
use Rattle.kz_model.specs.declared.step.Block.{Block}
use Rattle.kz_model.specs.Zone.State.{Chunk, chunk_at}
use Rattle.kz_model.specs.Zone.Rules.{first_byte, written}

-- the chunks with these bytes written into an element
abbrev pub with_written : ZoneParams → Block → ℕ → List ℕ → List Chunk → List Chunk
with_written p block off bytes chunks =
    slice_set chunks block.chunk
    (record (chunk_at chunks block.chunk) {
      bytes =
          written (first_byte p block + off) bytes (chunk_at chunks block.chunk).bytes;
    })
