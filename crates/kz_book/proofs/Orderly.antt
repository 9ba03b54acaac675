-- What a zone in order gives of the blocks that its CPUs have.
use Rattle.std.proofs.Common.{◌≡◌, ℕ, ◌+◌, ◌*◌, ◌<◌, Bool, true, false, nat_lt, List, length, Option, None, refl, ap, sym, ◌∙◌, subst, arith}
use Rattle.std.specs.Option.{is_none}
use Rattle.kz_model.specs.declared.record.ZoneParams.{ZoneParams}
use Rattle.kz_model.specs.declared.step.Block.{Block}
use Rattle.kz_model.specs.declared.step.Bound.{Bound}
use Rattle.kz_model.specs.declared.step.Reply.{Reply}
use Rattle.kz_model.specs.declared.step.Reply.TheVariants as reply
use Rattle.kz_model.specs.declared.step.Step.{Step}
use Rattle.kz_model.specs.declared.step.Step.TheVariants.{Read, Write}
use Rattle.kz_model.specs.Zone.Rules.{newest, block_of, bound_at, name_of, ready, else_refused, refused_if}
use Rattle.kz_model.specs.Zone.Whole.{is_block, one_if, times, times_held, times_in_part, times_in_parts, AreAway}
use Rattle.kz_model.specs.Zone.State.{Chunk, Shared, no_cpu_part, cpu_part, chunk_at, bound_of}
use Rattle.std.proofs.Common.{slice_set}
use Rattle.kz_model.proofs.Counting.{same_block, times-newest}
use Rattle.kz_model.proofs.Standing.{shift, IsAway, is_away, Filled, filled_ready}
use Rattle.kz_model.proofs.Kept.{Good, within-at}
use Rattle.kz_model.proofs.WholeKept.{good_part}
use Rattle.kz_zone.specs.Zone.{Zone, StandsFor, IsBlock, shared_of}
use Rattle.kz_book.specs.Acts.{Scene, IsOrderly}
use Rattle.kz_book.specs.Visits.{bound_there}
use Rattle.kz_book.proofs.Effects.{passed_here}

-- a state that the zone stands for, but for its draws
pub same_state : (z : Zone) (s : Shared) → StandsFor z s → shared_of z ≡ record s { drawn = 0 }
same_state z s h = λ i. record { chunks = sym h.chunks i; depot = sym h.depot i; transit = sym h.transit i; drawn = 0 }

-- how often the other CPUs have a block
abbrev elsewhere : (here : Scene) (cpu : ℕ) (step : Step) → IsOrderly here cpu step → Block → ℕ
elsewhere here cpu step h block = times_in_parts block (slice_set h.state.own cpu no_cpu_part)

good : (here : Scene) (cpu : ℕ) (step : Step) (h : IsOrderly here cpu step) → Good here.zone.params h.state.shared (cpu_part h.state cpu) (elsewhere here cpu step h)
good here cpu step h = good_part here.zone.params h.state cpu h.one_of h.whole

-- the blocks of the stack stand nowhere among what is shared
pub stack_away : (here : Scene) (cpu : ℕ) (step : Step) → IsOrderly here cpu step → AreAway here.zone.params (shared_of here.zone) here.stack
stack_away here cpu step h =
    let g = good here cpu step h in
    subst (λ (stack : List Block). AreAway here.zone.params (shared_of here.zone) stack) (sym h.at.stack)
    (subst (λ (t : Shared). AreAway here.zone.params t (cpu_part h.state cpu).stack) (sym (same_state here.zone h.state.shared h.at.shows)) (λ block. omega (arith, g.stands.once block)))

-- the block of a step's name is one that the zone has
pub named_block : (here : Scene) (cpu : ℕ) (step : Step) (h : IsOrderly here cpu step) → bound_there (cpu_part h.state cpu) step ≡ bound_at (cpu_part h.state cpu) step → is_none here.bound ≡ false → IsBlock here.zone (block_of here.bound)
named_block here cpu step h named some =
    let is : bound_at (cpu_part h.state cpu) step ≡ here.bound = sym named ∙ sym h.at.bound in
    let g = good here cpu step h in
    let at = within-at here.zone.params (length h.state.shared.chunks) (name_of step) (cpu_part h.state cpu).names g.names (ap (λ (bound : Option Bound). is_none bound) is ∙ some) in
    let F : Option Bound → List Chunk → Type 0 = λ bound chunks. ((block_of bound).chunk < length chunks) × ((block_of bound).index < here.zone.params.count) in
    let there : F here.bound here.zone.chunks = subst (λ (chunks : List Chunk). F here.bound chunks) h.at.shows.chunks (subst (λ (bound : Option Bound). F bound h.state.shared.chunks) is at) in
    record { chunk = there.0; index = there.1 }

-- a step that nothing refuses has a name that is bound
has_block : (none : Bool) (rest : Option Reply) → else_refused (refused_if none reply.NoName) rest ≡ None → none ≡ false
has_block true rest h = absurd (cc)
has_block false rest h = refl

pub read_block : (here : Scene) (cpu name off len : ℕ) → IsOrderly here cpu (Read name off len) → IsBlock here.zone (block_of here.bound)
read_block here cpu name off len h =
    let bound = bound_of name (cpu_part h.state cpu).names in
    named_block here cpu (Read name off len) h refl (ap (λ (b : Option Bound). is_none b) h.at.bound ∙ has_block (is_none bound) (refused_if (nat_lt here.zone.params.element (off + len)) reply.OutOfBlock) (passed_here here (Read name off len) h.state.shared (cpu_part h.state cpu) h.at))

pub write_block : (here : Scene) (cpu name off : ℕ) (bytes : List ℕ) → IsOrderly here cpu (Write name off bytes) → IsBlock here.zone (block_of here.bound)
write_block here cpu name off bytes h =
    let bound = bound_of name (cpu_part h.state cpu).names in
    named_block here cpu (Write name off bytes) h refl (ap (λ (b : Option Bound). is_none b) h.at.bound ∙ has_block (is_none bound) (refused_if (nat_lt here.zone.params.element (off + length bytes)) reply.OutOfBlock) (passed_here here (Write name off bytes) h.state.shared (cpu_part h.state cpu) h.at))

-- ---- a stack that was filled

one_newest : (stack : List Block) → 0 < length stack → 0 < times (newest stack) stack
one_newest stack some =
    let one : one_if (is_block (newest stack) (newest stack)) ≡ 1 = ap one_if (same_block (newest stack)) in
    omega (arith, one, times-newest (newest stack) stack some)

-- its newest block is an element of a mapped chunk
pub filled_away : (here : Scene) (cpu : ℕ) (step : Step) (h : IsOrderly here cpu step) → let filled = ready here.zone.params h.state.shared here.stack in IsAway here.zone.params filled.1 (newest filled.0)
filled_away here cpu step h =
    let p = here.zone.params in
    let own = cpu_part h.state cpu in
    let g = good here cpu step h in
    let away : Block → ℕ = λ b. times_held b own.names + elsewhere here cpu step h b in
    let filled : Filled p away (length h.state.shared.chunks) (2 * p.magazine) (ready p h.state.shared own.stack) =
    filled_ready p h.state.shared own.stack away h.fit.shape.some_count h.fit.some_magazine g.stack
    (shift p h.state.shared (λ b. times_in_part b own + elsewhere here cpu step h b) (λ b. times b own.stack + away b) g.stands (λ b. omega arith)) in
    let r = ready p h.state.shared own.stack in
    subst (λ (stack : List Block). IsAway p (ready p h.state.shared stack).1 (newest (ready p h.state.shared stack).0)) (sym h.at.stack)
    (is_away p r.1 (λ b. times b r.0 + away b) (newest r.0) filled.stands (omega (arith, one_newest r.0 filled.some)))

-- it is one that the zone has after it, in a mapped chunk
pub record IsMappedBlock (z : Zone) (block : Block) : Type 0 where
  pub there : IsBlock z block
  pub mapped : (chunk_at z.chunks block.chunk).mapped ≡ true

pub filled_block : (here : Scene) (cpu : ℕ) (step : Step) (h : IsOrderly here cpu step) (z : Zone) (stack : List Block) (block : Block) → z.params ≡ here.zone.params → StandsFor z (ready here.zone.params h.state.shared here.stack).1 →
    stack ≡ (ready here.zone.params h.state.shared here.stack).0 → block ≡ newest stack → IsMappedBlock z block
filled_block here cpu step h z stack block params shows same is =
    let filled = ready here.zone.params h.state.shared here.stack in
    let at : IsAway here.zone.params filled.1 block = subst (λ (b : Block). IsAway here.zone.params filled.1 b) (sym (is ∙ ap (λ (blocks : List Block). newest blocks) same)) (filled_away here cpu step h) in
    record {
      there = record {
        chunk = subst (λ (chunks : List Chunk). block.chunk < length chunks) shows.chunks at.chunk;
        index = subst (λ (p : ZoneParams). block.index < p.count) (sym params) at.index;
      };
      mapped = subst (λ (chunks : List Chunk). (chunk_at chunks block.chunk).mapped ≡ true) shows.chunks at.mapped;
    }
