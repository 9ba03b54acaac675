-- A CPU that is ready finds its ask answered, and room for what it gets.
use Rattle.std.proofs.Common.{◌≡◌, ◌<◌, ◌≤◌, ℕ, zero, suc, ◌==◌, true, false, if◌then◌else◌, List, [], ◌∷◌, length, Option, None, Some, refl, ap, arith}
use Rattle.std.specs.List.{count_by}
use Rattle.std.specs.Option.{is_some}
use Rattle.kz_model.specs.declared.record.ZoneParams.{ZoneParams}
use Rattle.kz_model.specs.declared.step.Block.{Block}
use Rattle.kz_model.specs.declared.step.Step.{Step}
use Rattle.kz_model.specs.declared.step.Step.TheVariants as kind
use Rattle.kz_laws.specs.Amounts.{mapped_count}
use Rattle.kz_model.specs.Zone.Pick.{unmapped_place}
use Rattle.kz_model.specs.Zone.Rules.{must_grow}
use Rattle.kz_model.specs.Zone.State.{Chunk, chunk_at}
use Rattle.kz_supply.specs.declared.pages.Want.{Want}
use Rattle.kz_supply.specs.declared.pages.Want.TheVariants as want
use Rattle.kz_supply.specs.ThinSolo.{can_place, can_give}
use Rattle.kz_supply.specs.Supply.{grants_left, backs_left}
use Rattle.kz_supply.proofs.Grants.{chunks_begin, frames_begin}
use Rattle.kz_zone.specs.Growth.{CanAnswer, HasPlace}
use Rattle.kz_zone.specs.Zone.{Zone, shared_of, want_of}
use Rattle.kz_zone.proofs.Places.{unmapped_there}
use Rattle.kz_book.specs.Visits.{want_at, backs_at, trims}
use Rattle.kz_machine.specs.Steps.{Parties, IsReady, allocates}
use Rattle.kz_machine.proofs.Frames.{mapped_few}

-- with an unmapped chunk, fewer are mapped than there are
some_unmapped : (chunks : List Chunk) (k : ℕ) → k < length chunks → (chunk_at chunks k).mapped ≡ false → mapped_count chunks < length chunks
some_unmapped [] k lt is = absurd (omega arith)
some_unmapped (chunk ∷ chunks) zero lt is = omega (arith, ap {B = ℕ} (λ t. if t then 1 else 0) is, mapped_few chunks)
some_unmapped (chunk ∷ chunks) (suc k) lt is =
    let one : (if chunk.mapped then 1 else 0) ≤ 1 = elim chunk.mapped as (λ t. (if t then 1 else 0) ≤ 1) [ true ↦ omega arith | false ↦ omega arith ] in
    omega (arith, one, some_unmapped chunks k (omega arith) is)

module _ (p : ZoneParams) (here : Parties) (step : Step) (ready : IsReady p here step) where
  abbrev z : Zone
  z = here.book.zone

  abbrev entries : ℕ
  entries = length here.supply.counted.log

  log_room : allocates step ≡ true → entries < here.supply.counted.room
  log_room is = let left = ready.entries is in omega arith

  abbrev Answered : Want → Type 0
  Answered w = CanAnswer w (can_place entries p here.supply) (can_give entries p here.supply)

  abbrev Placed : Want → Type 0
  Placed w = HasPlace w (grants_left p.submap p.pages here.supply.counted) (length z.chunks) z.most_chunks

  filled : allocates step ≡ true → Answered (want_of z)
  filled is =
      elim (must_grow (shared_of z)) as (λ t. Answered (if t then (if is_some (unmapped_place z.chunks) then want.Frames else want.Chunk) else want.Nothing)) [
        | true ↦
            elim (unmapped_place z.chunks) as (λ (o : Option ℕ). unmapped_place z.chunks ≡ o → Answered (if is_some o then want.Frames else want.Chunk)) [
              | Some k ↦ λ found. let there = unmapped_there z.chunks k found in frames_begin p here.supply (log_room is) (ready.framed (some_unmapped z.chunks k there.0 there.1))
              | None ↦ λ none. chunks_begin p here.supply (log_room is) (ready.placed is)
            ] refl
        | false ↦ tt
      ]

  has_room : allocates step ≡ true → Placed (want_of z)
  has_room is =
      elim (must_grow (shared_of z)) as (λ t. Placed (if t then (if is_some (unmapped_place z.chunks) then want.Frames else want.Chunk) else want.Nothing)) [
        | true ↦ elim (is_some (unmapped_place z.chunks)) as (λ t. Placed (if t then want.Frames else want.Chunk)) [ true ↦ tt | false ↦ ready.chunks is ]
        | false ↦ tt
      ]

  -- where the stack is empty
  if_empty : (P : Want → Type 0) (stack : List Block) → P want.Nothing → P (want_of z) → P (if length stack == 0 then want_of z else want.Nothing)
  if_empty P stack none some = elim (length stack == 0) as (λ t. P (if t then want_of z else want.Nothing)) [ true ↦ some | false ↦ none ]

  at_step : (P : Want → Type 0) (stack : List Block) → P want.Nothing → (allocates step ≡ true → P (want_of z)) → P (want_at z stack step)
  at_step P stack none some =
      elim step as (λ (step : Step). (allocates step ≡ true → P (want_of z)) → P (want_at z stack step)) [
        | kind.Alloc name ↦ λ some. if_empty P stack none (some refl)
        | kind.AllocZero name ↦ λ some. if_empty P stack none (some refl)
        | kind.Free name of ↦ λ some. none
        | kind.Give name to ↦ λ some. none
        | kind.Take name ↦ λ some. none
        | kind.Read name off len ↦ λ some. none
        | kind.Write name off bytes ↦ λ some. none
        | kind.Flush ↦ λ some. none
        | kind.Trim ↦ λ some. none
      ] some

  pub answers_ready : (stack : List Block) → Answered (want_at z stack step)
  answers_ready stack = at_step Answered stack tt filled

  pub places_ready : (stack : List Block) → Placed (want_at z stack step)
  places_ready stack = at_step Placed stack tt has_room

  pub backs_ready : backs_at z step ≤ backs_left p.pages here.supply.counted
  backs_ready =
      elim step as (λ (step : Step). (trims step ≡ true → count_by (λ chunk. chunk.mapped) z.chunks ≤ backs_left p.pages here.supply.counted) → backs_at z step ≤ backs_left p.pages here.supply.counted) [
        | kind.Alloc name ↦ λ enough. omega arith
        | kind.AllocZero name ↦ λ enough. omega arith
        | kind.Free name of ↦ λ enough. omega arith
        | kind.Give name to ↦ λ enough. omega arith
        | kind.Take name ↦ λ enough. omega arith
        | kind.Read name off len ↦ λ enough. omega arith
        | kind.Write name off bytes ↦ λ enough. omega arith
        | kind.Flush ↦ λ enough. omega arith
        | kind.Trim ↦ λ enough. enough refl
      ] ready.backs
