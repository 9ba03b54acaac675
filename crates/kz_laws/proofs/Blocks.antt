-- A block that a step hands out is of a chunk of its zone.
use Rattle.std.proofs.Common.{◌≡◌, ◌<◌, ◌≤◌, ℕ, ◌==◌, ◌+◌, Bool, true, false, not, nat_lt, if◌then◌else◌, List, [], ◌∷◌, length, Option, None, Some, ap, ◌∙◌, subst, arith}
use Rattle.std.specs.Option.{option_map_or, is_none, IfSome}
use Rattle.kz_model.specs.declared.step.Bound.{Bound}
use Rattle.kz_model.specs.declared.step.Block.{Block}
use Rattle.kz_model.specs.declared.step.Step.{Step}
use Rattle.kz_model.specs.declared.step.Step.TheVariants.{Alloc, AllocZero, Free, Give, Take, Read, Write, Flush, Trim}
use Rattle.kz_model.specs.declared.step.Reply.{Reply}
use Rattle.kz_model.specs.declared.step.Reply.TheVariants as reply
use Rattle.kz_model.specs.declared.record.ZoneParams.{ZoneParams}
use Rattle.kz_model.specs.declared.supply.Answer.{Answer}
use Rattle.kz_model.specs.declared.supply.Answer.TheVariants.{Base, Given, NoSpace, NoFrames, Taken}
use Rattle.kz_laws.specs.PlayedAt.{IsReplyWithin}
use Rattle.kz_model.specs.Zone.State.{Shared, CpuPart, bound_of, bind, chunk_at}
use Rattle.kz_model.specs.Zone.Rules.{is_held, refused_if, else_refused, other_zone, refused_here, bound_at, block_of, gift_place, refused_there, refusal, denied_by, unchanged, newest, ready, action, effect_of}
use Rattle.kz_model.specs.Zone.Whole.{AreWithin}
use Rattle.kz_model.proofs.Kept.{within-at}
use Rattle.kz_model.proofs.Names.{bound_of-bind}
use Rattle.kz_model.proofs.LineCounts.{same_number}

pub within_more : (n m : ℕ) (r : Reply) → n ≤ m → IsReplyWithin n r → IsReplyWithin m r
within_more n m (reply.Block block) le is = omega (arith, is)
within_more n m reply.Done le is = tt
within_more n m reply.NoName le is = tt
within_more n m reply.NameBusy le is = tt
within_more n m (reply.WrongZone asked owner) le is = tt
within_more n m reply.NotHeld le is = tt
within_more n m reply.NotGiven le is = tt
within_more n m reply.OutOfBlock le is = tt
within_more n m reply.Unmapped le is = tt
within_more n m (reply.Bytes bytes) le is = tt
within_more n m (reply.Trimmed pages) le is = tt
within_more n m (reply.NoSpace left) le is = tt
within_more n m (reply.NoFrames free) le is = tt

-- ---- refusals hand out no block

abbrev IsPlain : ℕ → Option Reply → Type 0
IsPlain n o = IfSome o (IsReplyWithin n)

plain_if : (n : ℕ) (test : Bool) (r : Reply) → IsReplyWithin n r → IsPlain n (refused_if test r)
plain_if n true r is = is
plain_if n false r is = tt

plain_else : (n : ℕ) (o other : Option Reply) → IsPlain n o → IsPlain n other → IsPlain n (else_refused o other)
plain_else n (Some r) other here there = here
plain_else n None other here there = there

plain_zone : (n owner : ℕ) (asked : Option ℕ) → IsPlain n (other_zone owner asked)
plain_zone n owner None = tt
plain_zone n owner (Some asked) = elim (asked == owner) as (λ t. IsPlain n (if t then None else Some (reply.WrongZone asked owner))) [ true ↦ tt | false ↦ tt ]

plain_here : (n : ℕ) (p : ZoneParams) (bound : Option Bound) (step : Step) → IsPlain n (refused_here p bound step)
plain_here n p bound (Alloc name) = plain_if n (is_held bound) reply.NameBusy tt
plain_here n p bound (AllocZero name) = plain_if n (is_held bound) reply.NameBusy tt
plain_here n p bound (Free name asked) =
    plain_else n (refused_if (is_none bound) reply.NoName) _ (plain_if n (is_none bound) reply.NoName tt) (plain_else n (other_zone p.zone asked) _ (plain_zone n p.zone asked) (plain_if n (not (is_held bound)) reply.NotHeld tt))
plain_here n p bound (Give name to) = plain_else n (refused_if (is_none bound) reply.NoName) _ (plain_if n (is_none bound) reply.NoName tt) (plain_if n (not (is_held bound)) reply.NotHeld tt)
plain_here n p bound (Take name) = plain_if n (is_held bound) reply.NameBusy tt
plain_here n p bound (Read name off len) = plain_else n (refused_if (is_none bound) reply.NoName) _ (plain_if n (is_none bound) reply.NoName tt) (plain_if n (nat_lt p.element (off + len)) reply.OutOfBlock tt)
plain_here n p bound (Write name off bytes) = plain_else n (refused_if (is_none bound) reply.NoName) _ (plain_if n (is_none bound) reply.NoName tt) (plain_if n (nat_lt p.element (off + length bytes)) reply.OutOfBlock tt)
plain_here n p bound Flush = tt
plain_here n p bound Trim = tt

plain_there : (n : ℕ) (s : Shared) (cpu : ℕ) (bound : Option Bound) (step : Step) → IsPlain n (refused_there s cpu bound step)
plain_there n s cpu bound (Alloc name) = tt
plain_there n s cpu bound (AllocZero name) = tt
plain_there n s cpu bound (Free name asked) = tt
plain_there n s cpu bound (Give name to) = tt
plain_there n s cpu bound (Take name) = plain_if n (is_none (gift_place cpu name s.transit)) reply.NotGiven tt
plain_there n s cpu bound (Read name off len) = plain_if n (not (chunk_at s.chunks (block_of bound).chunk).mapped) reply.Unmapped tt
plain_there n s cpu bound (Write name off bytes) = plain_if n (not (chunk_at s.chunks (block_of bound).chunk).mapped) reply.Unmapped tt
plain_there n s cpu bound Flush = tt
plain_there n s cpu bound Trim = tt

plain_denied : (n : ℕ) (answers : List Answer) → IsPlain n (denied_by answers)
plain_denied n [] = tt
plain_denied n (NoSpace left ∷ answers) = tt
plain_denied n (NoFrames free ∷ answers) = tt
plain_denied n (Base page ∷ answers) = tt
plain_denied n (Given ∷ answers) = tt
plain_denied n (Taken ∷ answers) = tt

-- ---- an allocation binds its block to the name

bound_within : (p : ZoneParams) (n name : ℕ) (block : Block) (names : List (ℕ × Bound)) → AreWithin p n (bind name (record { block = block; held = true }) names) → block.chunk < n
bound_within p n name block names within =
    let bound : Bound = record { block = block; held = true } in
    let is : bound_of name (bind name bound names) ≡ Some bound = bound_of-bind name name bound names ∙ ap (λ t. if t then Some bound else bound_of name names) (same_number name) in
    subst (λ (o : Option Bound). (block_of o).chunk < n) is (within-at p n name (bind name bound names) within (ap is_none is)).0

action_within : (p : ZoneParams) (s : Shared) (cpu : ℕ) (own : CpuPart) (step : Step) → let e = action p s cpu own step in AreWithin p (length e.shared.chunks) e.own.names → IsReplyWithin (length e.shared.chunks) e.reply
action_within p s cpu own (Alloc name) within = bound_within p _ name (newest (ready p s own.stack).0) own.names within
action_within p s cpu own (AllocZero name) within = bound_within p _ name (newest (ready p s own.stack).0) own.names within
action_within p s cpu own (Free name asked) within = tt
action_within p s cpu own (Give name to) within = tt
action_within p s cpu own (Take name) within = tt
action_within p s cpu own (Read name off len) within = tt
action_within p s cpu own (Write name off bytes) within = tt
action_within p s cpu own Flush within = tt
action_within p s cpu own Trim within = tt

pub reply_within : (p : ZoneParams) (s : Shared) (cpu : ℕ) (own : CpuPart) (step : Step) (answers : List Answer) → let e = effect_of p s cpu own step answers in AreWithin p (length e.shared.chunks) e.own.names → IsReplyWithin (length e.shared.chunks) e.reply
reply_within p s cpu own step answers =
    by_refusal (else_refused (refusal p s cpu own step) (denied_by answers))
    (λ n. plain_else n (refusal p s cpu own step) (denied_by answers) (plain_else n (refused_here p (bound_at own step) step) (refused_there s cpu (bound_at own step) step) (plain_here n p (bound_at own step) step) (plain_there n s cpu (bound_at own step) step)) (plain_denied n answers))
  where
    by_refusal : (o : Option Reply) → ((n : ℕ) → IsPlain n o) → let e = option_map_or (λ reply. unchanged reply s own) o (action p s cpu own step) in AreWithin p (length e.shared.chunks) e.own.names → IsReplyWithin (length e.shared.chunks) e.reply
    by_refusal None plain within = action_within p s cpu own step within
    by_refusal (Some r) plain within = plain (length s.chunks)
