-- The frames that were made are enough for what a zone may ask for.
use Rattle.std.proofs.Common.{◌≡◌, ◌<◌, ◌≤◌, ◌+◌, ◌*◌, ◌/◌, ℕ, min, true, false, if◌then◌else◌, List, [], ◌∷◌, length, replicate, sum, slice_index, All, refl, ap, subst, arith}
use Rattle.std.proofs.Math.Nat.{le-min, mul-le-mul_left}
use Rattle.std.proofs.lemmas.Nat.{le-div}
use Rattle.std.proofs.lemmas.List.Elements.{All-get_or}
use Rattle.kz_model.specs.declared.bundle.Bundle.{Bundle}
use Rattle.kz_model.specs.declared.record.Plan.{Plan}
use Rattle.kz_laws.specs.Addresses.{IsForZone}
use Rattle.kz_laws.specs.Amounts.{mapped_count, pages_held, stock_of}
use Rattle.kz_model.specs.Run.Rooms.{is_allocating, sum_below}
use Rattle.kz_model.specs.Run.Journal.{params_of}
use Rattle.kz_model.specs.Types.Planned.{IsFitPlan}
use Rattle.kz_laws.specs.Play.{Play, zone_play}
use Rattle.kz_laws.specs.PlayedAt.{IsPlaySound, chunks_there}
use Rattle.kz_model.specs.Run.Journal.{bases}
use Rattle.kz_model.specs.Run.Supply.{opening_stock, pages_left}
use Rattle.kz_model.specs.Grammar.Valid.{IsValid}
use Rattle.kz_model.specs.Zone.State.{Chunk}
use Rattle.kz_laws.proofs.LineKinds.{kind_done_few}
use Rattle.kz_supply.specs.Supply.{grants_left, frames_out}
use Rattle.kz_supply.specs.Thin.{ThinSupply, HasMade}
use Rattle.kz_model.proofs.Sums.{sum_below-le}
use Rattle.kz_machine.specs.Needs.{needed_of, needed_rooms, allocations_of, most_entries, frames_in, frames_needed}
use Rattle.kz_machine.proofs.Cursors.{chunks_below, grants_and_chunks}
use Rattle.kz_machine.proofs.Fit.{params_fit}
use Rattle.kz_machine.proofs.Lines.{frames_are, sum_below-room}
use Rattle.kz_machine.proofs.Spread.{pages_spread, cursors_below, cursors_room}

pub mapped_few : (chunks : List Chunk) → mapped_count chunks ≤ length chunks
mapped_few [] = omega arith
mapped_few (chunk ∷ chunks) =
    let one : (if chunk.mapped then 1 else 0) ≤ 1 = elim chunk.mapped as (λ t. (if t then 1 else 0) ≤ 1) [ true ↦ omega arith | false ↦ omega arith ] in
    omega (arith, one, mapped_few chunks)

-- the supply of the run
abbrev pub supply_of : Bundle → Plan → Play → ThinSupply
supply_of b plan s = record { counted = record { frames = b.frames; pages = b.pages; room = most_entries (allocations_of b plan); log = s.log }; made = min b.frames (frames_needed b.pages (needed_rooms b plan)) }

module _ (b : Bundle) (plan : Plan) (s : Play) (valid : IsValid b) (fit : IsFitPlan b plan) (sound : IsPlaySound b plan s) (own : All (λ entry. IsForZone (params_of b plan entry.zone) entry.ask) s.log) where
  abbrev n : ℕ
  n = length plan.zones

  abbrev pages : ℕ → ℕ
  pages zone = (params_of b plan zone).pages

  submap_there : (zone : ℕ) → zone < n → (params_of b plan zone).submap < length (stock_of b s.log).cursors
  submap_there zone lt =
      let five = sound.supplied.cursors in
      let known = (params_fit b plan zone valid fit lt).submap in
      omega arith

  abbrev supply_now : ThinSupply
  supply_now = supply_of b plan s

  -- ---- chunks

  pub in_submap : (zone : ℕ) → zone < n → grants_left (params_of b plan zone).submap (pages zone) supply_now.counted + chunks_there s zone ≤ b.pages / pages zone
  in_submap zone lt =
      let known = params_fit b plan zone valid fit lt in
      let submap = (params_of b plan zone).submap in
      let cursor = slice_index (stock_of b s.log).cursors submap in
      let inside : cursor ≤ b.pages = All-get_or (λ cursor. cursor ≤ b.pages) (stock_of b s.log).cursors submap 0 (submap_there zone lt) sound.supplied.within in
      let below = chunks_below (params_of b plan) zone b.pages s.log (opening_stock b.frames) known.submap own sound.supplied.answers in
      subst (λ k. grants_left submap (pages zone) supply_now.counted + k ≤ b.pages / pages zone) (sound.each zone lt).bases
      (grants_and_chunks b.pages cursor (pages zone) (length (bases zone s.log)) known.shape.some_pages below inside)

  framed : (zone : ℕ) → zone < n → chunks_there s zone ≤ b.frames / pages zone
  framed zone lt =
      le-div (chunks_there s zone) b.frames (pages zone) (params_fit b plan zone valid fit lt).shape.some_pages (omega (arith, (sound.each zone lt).framed))

  -- a zone's chunks are among those that it needs
  chunks_fit : (zone : ℕ) → zone < n → chunks_there s zone ≤ (needed_of b plan zone).chunks
  chunks_fit zone lt =
      let pages = in_submap zone lt in
      let frames = framed zone lt in
      let lines = (sound.each zone lt).chunks in
      let done = kind_done_few b plan is_allocating s zone in
      le-min (le-min (omega arith) (omega arith)) (omega arith)

  -- ---- frames that are out

  pub out_is : frames_out supply_now.counted ≡ sum_below (pages_held b plan s) n
  out_is = let all = sound.frames in omega arith

  abbrev most_held : ℕ → ℕ
  most_held zone = pages zone * (needed_of b plan zone).chunks

  abbrev pages_named : ℕ → ℕ
  pages_named zone = pages zone * length (bases zone s.log)

  held_fit : (zone : ℕ) → zone < n → pages_held b plan s zone ≤ most_held zone
  held_fit zone lt =
      let few = mapped_few (zone_play s zone).state.shared.chunks in
      let fits = chunks_fit zone lt in
      mul-le-mul_left (pages zone) (omega arith)

  held_named : (zone : ℕ) → zone < n → pages_held b plan s zone ≤ pages_named zone
  held_named zone lt =
      let few = mapped_few (zone_play s zone).state.shared.chunks in
      let same = (sound.each zone lt).bases in
      mul-le-mul_left (pages zone) (omega arith)

  -- a chunk more than are mapped
  one_more : (size mapped most : ℕ) → mapped < most → size * mapped + size ≤ size * most
  one_more size mapped most less = let product : size * (mapped + 1) ≡ size * mapped + size = omega arith in let le = mul-le-mul_left size (let more : mapped + 1 ≤ most = omega arith in more) in omega arith

  out_among : (zone : ℕ) → zone < n → mapped_count (zone_play s zone).state.shared.chunks < (needed_of b plan zone).chunks → frames_out supply_now.counted + pages zone ≤ frames_in (needed_rooms b plan)
  out_among zone lt less =
      let sums = sum_below-room (pages_held b plan s) most_held n zone (pages zone) lt (one_more (pages zone) (mapped_count (zone_play s zone).state.shared.chunks) (needed_of b plan zone).chunks less) held_fit in
      omega (arith, out_is, frames_are b plan)

  named_is : sum_below pages_named n ≡ sum (stock_of b s.log).cursors
  named_is =
      let none : sum (replicate 5 0) ≡ 0 = refl in
      let spread = pages_spread (params_of b plan) n b.pages s.log (opening_stock b.frames) (λ zone lt. (params_fit b plan zone valid fit lt).submap) sound.supplied.of_zones own sound.supplied.answers in
      omega (arith, none, spread)

  has_made : (count : ℕ) → frames_out supply_now.counted + count ≤ frames_in (needed_rooms b plan) → frames_out supply_now.counted + count ≤ 5 * b.pages → HasMade count supply_now
  has_made count in_chunks in_pages less few = omega arith

  -- the frames of an unmapped chunk
  pub unmapped_made : (zone : ℕ) → zone < n → mapped_count (zone_play s zone).state.shared.chunks < chunks_there s zone → HasMade (pages zone) supply_now
  unmapped_made zone lt less =
      let fits = chunks_fit zone lt in
      let same = (sound.each zone lt).bases in
      let sums = sum_below-room (pages_held b plan s) pages_named n zone (pages zone) lt (one_more (pages zone) (mapped_count (zone_play s zone).state.shared.chunks) (length (bases zone s.log)) (omega arith)) held_named in
      let below = cursors_below (stock_of b s.log).cursors b.pages sound.supplied.within in
      let five : length (stock_of b s.log).cursors * b.pages ≡ 5 * b.pages = ap (λ k. k * b.pages) sound.supplied.cursors in
      has_made (pages zone) (out_among zone lt (omega arith)) (omega (arith, out_is, named_is))

  -- and those of a chunk that is granted
  pub granted_made : (zone : ℕ) → zone < n → chunks_there s zone < (needed_of b plan zone).chunks → pages zone ≤ pages_left b.pages (stock_of b s.log) (params_of b plan zone).submap → HasMade (pages zone) supply_now
  granted_made zone lt less left =
      let few = mapped_few (zone_play s zone).state.shared.chunks in
      let some = (params_fit b plan zone valid fit lt).shape.some_pages in
      let sums = sum_below-le (pages_held b plan s) pages_named n held_named in
      let room = cursors_room (stock_of b s.log).cursors b.pages (params_of b plan zone).submap (pages zone) (submap_there zone lt) sound.supplied.within (omega arith) in
      let five : length (stock_of b s.log).cursors * b.pages ≡ 5 * b.pages = ap (λ k. k * b.pages) sound.supplied.cursors in
      has_made (pages zone) (out_among zone lt (omega arith)) (omega (arith, out_is, named_is))
