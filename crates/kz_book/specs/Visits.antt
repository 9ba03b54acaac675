-- What a visit and a settling make of a history.
use Rattle.std.specs.Prelude.{◌≡◌, ◌≢◌, ℕ, ◌+◌, ◌<◌, ◌≤◌, ◌==◌, Bool, true, false, if◌then◌else◌, List, [], ◌∷◌, ◌++◌, length, map, replicate, Option, None, slice_set}
use Rattle.std.specs.List.{count_by, filter_map}
use Rattle.kz_model.specs.declared.record.Visit.{Visit}
use Rattle.kz_model.specs.declared.record.ZoneParams.{ZoneParams}
use Rattle.kz_model.specs.declared.step.Bound.{Bound}
use Rattle.kz_model.specs.declared.step.Block.{Block}
use Rattle.kz_model.specs.declared.step.Reply.{Reply}
use Rattle.kz_model.specs.declared.step.Step.{Step}
use Rattle.kz_model.specs.declared.step.Step.TheVariants.{Alloc, AllocZero, Give, Read, Flush, Trim}
use Rattle.kz_model.specs.Run.Journal.{page_of}
use Rattle.kz_model.specs.Zone.State.{CpuPart, cpu_part}
use Rattle.kz_model.specs.Zone.Rules.{Effect, needs_visit, asks_of, effect_of, all_answered, bound_at}
use Rattle.kz_model.specs.Zone.Late.{NeedNone, part_after, states_late, by_cpu}
use Rattle.kz_model.specs.Zone.Local.{local_answer, with_cpu_part}
use Rattle.kz_supply.specs.Exchange.{Exchange, ask_of, answer_of}
use Rattle.kz_supply.specs.Pages.{SupplyView, IsUsed}
use Rattle.kz_supply.specs.declared.pages.Want.{Want}
use Rattle.kz_supply.specs.declared.pages.Want.TheVariants as want
use Rattle.kz_zone.specs.Zone.{Zone, want_of}
use Rattle.kz_book.specs.Book.{History}

-- ---- what a CPU brings

-- the step speaks of a name
abbrev pub has_name : Step → Bool
has_name Flush = false
has_name Trim = false
has_name step = true

-- what a CPU's own part has of the step's name; nothing where the step has no name
abbrev pub bound_there : CpuPart → Step → Option Bound
bound_there own step = if has_name step then bound_at own step else None

-- what a CPU that had this part at its last visit has after these steps since
abbrev pub own_now : ZoneParams → CpuPart → List Step → CpuPart
own_now p own recent = part_after p own recent

-- A CPU that had this part at its last visit has these blocks and this binding after its recent steps, none of which
-- needed a visit, and the step needs one.
pub record IsAtVisit (p : ZoneParams) (own : CpuPart) (recent : List Step) (stack : List Block) (bound : Option Bound)
    (step : Step) : Type 0 where
  pub none : NeedNone p own recent
  pub is_stack : stack ≡ (own_now p own recent).stack
  pub is_bound : bound ≡ bound_there (own_now p own recent) step
  pub needs : needs_visit p (own_now p own recent) step ≡ true

-- a step that gives a block away
abbrev pub gives : Step → Bool
gives (Give name to) = true
gives step = false

abbrev pub trims : Step → Bool
trims Trim = true
trims step = false

-- the grant that a visit of this step will ask for, with this stack
abbrev pub want_at : Zone → List Block → Step → Want
want_at z stack (Alloc name) = if length stack == 0 then want_of z else want.Nothing
want_at z stack (AllocZero name) = if length stack == 0 then want_of z else want.Nothing
want_at z stack step = want.Nothing

-- for how many backs of this step there has to be room
abbrev pub backs_at : Zone → Step → ℕ
backs_at z Trim = count_by (λ chunk. chunk.mapped) z.chunks
backs_at z step = 0

-- a read is of at most 32 bytes, and so is a write
abbrev pub ReadsFew : Step → Type 0
ReadsFew (Read name off len) = len ≤ 32
ReadsFew step = Unit {0}

-- The zone can take this step: there is room for a gift, and it reads few bytes.
pub record CanTakeStep (z : Zone) (step : Step) : Type 0 where
  pub gifts : gives step ≡ true → length z.transit < z.most_gifts
  pub reads : ReadsFew step

-- ---- what comes of it

-- The visit made these exchanges, and the first pages of what was granted stand behind the others.
pub record HasUsed {Base : Type 0} (old new : Zone) (before after : SupplyView Base)
    (exchanges : List Exchange) : Type 0 where
  pub used : IsUsed before after exchanges (length old.chunks) (length new.chunks)
  pub bases : new.bases ≡ old.bases ++ filter_map page_of (map answer_of exchanges)

-- the replies to steps that need no visit
abbrev pub replies_late : ZoneParams → CpuPart → List Step → List Reply
replies_late p own [] = []
replies_late p own (step ∷ steps) = (local_answer p own step).reply ∷ replies_late p (local_answer p own step).own steps

-- what the CPU has in the zone's history after its recent steps
abbrev pub own_in : ZoneParams → History → ℕ → List Step → CpuPart
own_in p j cpu recent = own_now p (cpu_part j.made.end cpu) recent

-- the effect of the step in the zone's state, with these exchanges
abbrev pub effect_in : ZoneParams → History → ℕ → List Step → Step → List Exchange → Effect
effect_in p j cpu recent step exchanges =
    effect_of p j.made.end.shared cpu (own_in p j cpu recent) step (map answer_of exchanges)

-- each other CPU has the same in both histories
abbrev pub LeavesOthers : ℕ → History → History → Type 0
LeavesOthers cpu before after = (other : ℕ) → other ≢ cpu → cpu_part after.made.end other
    ≡ cpu_part before.made.end other

-- The history after a visit of these recent steps and this one: its asks are the step's, each fittingly answered, and
-- the zone's state and the reply are the step's effect. The recent steps asked nothing.
pub record Extends (p : ZoneParams) (cpu : ℕ) (before after : History) (recent : List Step) (step : Step)
    (reply : Reply) (exchanges : List Exchange) : Type 0 where
  pub steps : after.steps ≡ before.steps ++ by_cpu cpu (recent ++ step ∷ [])
  pub answers : after.answers ≡ before.answers ++ map answer_of exchanges
  pub asks : map ask_of exchanges ≡ asks_of p before.made.end.shared cpu (own_in p before cpu recent) step
  pub fit : all_answered (map ask_of exchanges) (map answer_of exchanges) ≡ true
  pub is_reply : reply ≡ (effect_in p before cpu recent step exchanges).reply
  pub end : after.made.end ≡ record {
    shared = (effect_in p before cpu recent step exchanges).shared;
    own =
        slice_set before.made.end.own cpu (effect_in p before cpu recent step exchanges).own;
  }
  pub others : LeavesOthers cpu before after
  pub replies : after.made.replies ≡ before.made.replies
      ++ (replies_late p (cpu_part before.made.end cpu) recent ++ reply ∷ [])
  pub asked : after.made.asks ≡ before.made.asks
      ++ (replicate (length recent) [] ++ asks_of p before.made.end.shared cpu (own_in p before cpu recent) step ∷ [])
  pub states : after.made.before ≡ before.made.before
      ++ (states_late p before.made.end cpu recent
      ++ with_cpu_part before.made.end cpu (own_in p before cpu recent) ∷ [])

-- The history after these late steps are written down.
pub record Settles (p : ZoneParams) (cpu : ℕ) (before after : History) (recent : List Step) : Type 0 where
  pub steps : after.steps ≡ before.steps ++ by_cpu cpu recent
  pub answers : after.answers ≡ before.answers
  pub end : after.made.end ≡ with_cpu_part before.made.end cpu (own_in p before cpu recent)
  pub others : LeavesOthers cpu before after
  pub replies : after.made.replies ≡ before.made.replies ++ replies_late p (cpu_part before.made.end cpu) recent
  pub asked : after.made.asks ≡ before.made.asks ++ replicate (length recent) []
  pub states : after.made.before ≡ before.made.before ++ states_late p before.made.end cpu recent

abbrev pub visit_of : ℕ → ℕ → List Step → Visit
visit_of round cpu recent = record { round = round; cpu = cpu; count = length recent + 1; settled = false }

abbrev pub settled_of : ℕ → ℕ → List Step → Visit
settled_of round cpu recent = record { round = round; cpu = cpu; count = length recent; settled = true }
