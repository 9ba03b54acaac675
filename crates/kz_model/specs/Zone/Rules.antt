-- What a zone does at each step, by itself.
use Rattle.std.specs.Prelude.{ℕ, ◌+◌, ◌-◌, ◌*◌, Bool, true, false, ◌&&◌, not, nat_lt, nat_le, ◌==◌, if◌then◌else◌, List, [], ◌∷◌, ◌++◌, length, take, drop, map, replicate, slice_set, slice_index_or, Option, None, Some, is_some, is_none}
use Rattle.std.specs.List.{flat_map, position, remove, count_by}
use Rattle.std.specs.Option.{option_map_or, unwrap_or}
use Rattle.kz_model.specs.declared.step.Block.{Block}
use Rattle.kz_model.specs.declared.step.Bound.{Bound}
use Rattle.kz_model.specs.declared.step.Step.{Step}
use Rattle.kz_model.specs.declared.step.Step.TheVariants.{Alloc, AllocZero, Free, Give, Take, Read, Write, Flush, Trim}
use Rattle.kz_model.specs.declared.step.Reply.{Reply}
use Rattle.kz_model.specs.declared.step.Reply.TheVariants as reply
use Rattle.kz_model.specs.declared.record.ZoneParams.{ZoneParams}
use Rattle.kz_model.specs.declared.supply.Ask.{Ask}
use Rattle.kz_model.specs.declared.supply.Ask.TheVariants.{Chunk as AskChunk, Frames, Back}
use Rattle.kz_model.specs.declared.supply.Answer.{Answer}
use Rattle.kz_model.specs.declared.supply.Answer.TheVariants.{Base, Given, NoSpace, NoFrames, Taken}
use Rattle.kz_model.specs.Zone.State.{Chunk, Gift, Shared, CpuPart, ZoneState, no_chunk, chunk_at, cpu_part, bound_of, bind}
use Rattle.kz_model.specs.Zone.Pick.{is_whole, picks, grown, has_idle, ask_to_grow}

-- ---- lists of blocks

-- the newest of a list, and what is below it
abbrev pub newest : List Block → Block
newest stack = slice_index_or stack (length stack - 1) (record { chunk = 0; index = 0 })

abbrev pub below_newest : List Block → List Block
below_newest stack = take (length stack - 1) stack

-- the list last put into the depot, and the lists before it
abbrev pub last_list : List (List Block) → List Block
last_list depot = slice_index_or depot (length depot - 1) []

abbrev pub before_last_list : List (List Block) → List (List Block)
before_last_list depot = take (length depot - 1) depot

-- a rising list with this number too
abbrev pub with_number : ℕ → List ℕ → List ℕ
with_number i [] = i ∷ []
with_number i (j ∷ numbers) = if nat_lt i j then i ∷ j ∷ numbers else j ∷ with_number i numbers

-- the chunks with this block idle
abbrev pub with_idle : Block → List Chunk → List Chunk
with_idle block chunks =
    slice_set chunks block.chunk
    (record (chunk_at chunks block.chunk) { idle = with_number block.index (chunk_at chunks block.chunk).idle })

-- the chunks with all of these blocks idle
abbrev pub all_idle : List Block → List Chunk → List Chunk
all_idle [] chunks = chunks
all_idle (block ∷ blocks) chunks = all_idle blocks (with_idle block chunks)

-- ---- filling and emptying a stack

-- an empty stack filled: by the depot's last list, else by picks
abbrev pub stack_refill : ZoneParams → Shared → List Block × Shared
stack_refill p s =
    if nat_lt 0 (length s.depot)
    then (last_list s.depot, record s { depot = before_last_list s.depot })
    else picks p p.magazine s

-- the zone has to grow before an empty stack can be filled
abbrev pub must_grow : Shared → Bool
must_grow s = (length s.depot == 0) && not (has_idle s)

-- a list of blocks given up by a stack: into the depot where it has room, else idle
abbrev pub after_spill : ZoneParams → List Block → Shared → Shared
after_spill p blocks s =
    if nat_lt (length s.depot) p.depot
    then record s { depot = s.depot ++ blocks ∷ [] }
    else record s { chunks = all_idle blocks s.chunks }

-- ---- bytes

-- where the bytes of an element begin in its chunk
abbrev pub first_byte : ZoneParams → Block → ℕ
first_byte p block = block.index * p.element

-- a list with these items in place of those from here on
abbrev pub written : ℕ → List ℕ → List ℕ → List ℕ
written at bytes old = take at old ++ bytes ++ drop (at + length bytes) old

-- the chunks with these bytes written into an element
abbrev pub with_bytes : ZoneParams → Block → ℕ → List ℕ → Shared → Shared
with_bytes p block off bytes s =
    record s {
      chunks = slice_set s.chunks block.chunk
          (record (chunk_at s.chunks block.chunk) {
            bytes =
                written (first_byte p block + off) bytes (chunk_at s.chunks block.chunk).bytes;
          });
    }

-- the bytes of an element
abbrev pub bytes_at : ZoneParams → Block → ℕ → ℕ → Shared → List ℕ
bytes_at p block off len s = take len (drop (first_byte p block + off) (chunk_at s.chunks block.chunk).bytes)

-- ---- refusals

abbrev pub is_held : Option Bound → Bool
is_held None = false
is_held (Some bound) = bound.held

abbrev pub refused_if : Bool → Reply → Option Reply
refused_if test reply = if test then Some reply else None

-- the first of two refusals
abbrev pub else_refused : Option Reply → Option Reply → Option Reply
else_refused (Some reply) other = Some reply
else_refused None other = other

abbrev pub other_zone : ℕ → Option ℕ → Option Reply
other_zone owner None = None
other_zone owner (Some asked) = if asked == owner then None else Some (reply.WrongZone asked owner)

-- The refusals that a CPU answers from what it has itself: the step's row up to NotHeld and OutOfBlock.
-- `bound` is what the step's name is bound to.
abbrev pub refused_here : ZoneParams → Option Bound → Step → Option Reply
refused_here p bound (Alloc name) = refused_if (is_held bound) reply.NameBusy
refused_here p bound (AllocZero name) = refused_if (is_held bound) reply.NameBusy
refused_here p bound (Free name asked) =
    else_refused (refused_if (is_none bound) reply.NoName)
    (else_refused (other_zone p.zone asked) (refused_if (not (is_held bound)) reply.NotHeld))
refused_here p bound (Give name to) =
    else_refused (refused_if (is_none bound) reply.NoName) (refused_if (not (is_held bound)) reply.NotHeld)
refused_here p bound (Take name) = refused_if (is_held bound) reply.NameBusy
refused_here p bound (Read name off len) =
    else_refused (refused_if (is_none bound) reply.NoName) (refused_if (nat_lt p.element (off + len)) reply.OutOfBlock)
refused_here p bound (Write name off bytes) =
    else_refused (refused_if (is_none bound) reply.NoName)
    (refused_if (nat_lt p.element (off + length bytes)) reply.OutOfBlock)
refused_here p bound Flush = None
refused_here p bound Trim = None

-- the name of a step
abbrev pub name_of : Step → ℕ
name_of (Alloc name) = name
name_of (AllocZero name) = name
name_of (Free name asked) = name
name_of (Give name to) = name
name_of (Take name) = name
name_of (Read name off len) = name
name_of (Write name off bytes) = name
name_of Flush = 0
name_of Trim = 0

-- what the step's name is bound to
abbrev pub bound_at : CpuPart → Step → Option Bound
bound_at own step = bound_of (name_of step) own.names

-- the block that a name is bound to
abbrev pub block_of : Option Bound → Block
block_of None = record { chunk = 0; index = 0 }
block_of (Some bound) = bound.block

-- the oldest entry of the transit for this CPU and name
abbrev pub gift_place : ℕ → ℕ → List Gift → Option ℕ
gift_place cpu name transit = position (λ gift. (gift.to == cpu) && (gift.name == name)) transit

-- the refusals that depend on what is shared
abbrev pub refused_there : Shared → ℕ → Option Bound → Step → Option Reply
refused_there s cpu bound (Take name) = refused_if (is_none (gift_place cpu name s.transit)) reply.NotGiven
refused_there s cpu bound (Read name off len) =
    refused_if (not (chunk_at s.chunks (block_of bound).chunk).mapped) reply.Unmapped
refused_there s cpu bound (Write name off bytes) =
    refused_if (not (chunk_at s.chunks (block_of bound).chunk).mapped) reply.Unmapped
refused_there s cpu bound step = None

-- the first refusal of the step's row that holds, but for the supply's
abbrev pub refusal : ZoneParams → Shared → ℕ → CpuPart → Step → Option Reply
refusal p s cpu own step =
    else_refused (refused_here p (bound_at own step) step) (refused_there s cpu (bound_at own step) step)

-- ---- what needs a visit

-- the step needs a visit where none of these refusals answers it, but for two that the stack serves
abbrev pub is_served_by : ZoneParams → List Block → Step → Bool
is_served_by p stack (Alloc name) = nat_lt 0 (length stack)
is_served_by p stack (Free name asked) = nat_lt (length stack) (2 * p.magazine)
is_served_by p stack step = false

abbrev pub needs_visit : ZoneParams → CpuPart → Step → Bool
needs_visit p own step = is_none (refused_here p (bound_at own step) step) && not (is_served_by p own.stack step)

-- ---- asks and answers

-- the chunks before a trim unmaps those that are wholly idle
abbrev pub before_unmapping : Shared → List Chunk
before_unmapping s = all_idle (flat_map (λ blocks. blocks) s.depot) s.chunks

abbrev pub count_whole : ZoneParams → List Chunk → ℕ
count_whole p chunks = count_by (is_whole p.count) chunks

-- what a step that no refusal answers asks of the supply
abbrev pub asks_of_action : ZoneParams → Shared → List Block → Step → List Ask
asks_of_action p s stack (Alloc name) =
    if (length stack == 0) && must_grow s then ask_to_grow p s ∷ [] else []
asks_of_action p s stack (AllocZero name) =
    if (length stack == 0) && must_grow s then ask_to_grow p s ∷ [] else []
asks_of_action p s stack Trim = replicate (count_whole p (before_unmapping s)) (Back p.pages)
asks_of_action p s stack step = []

-- what a step asks of the supply
abbrev pub asks_of : ZoneParams → Shared → ℕ → CpuPart → Step → List Ask
asks_of p s cpu own step =
    if is_some (refusal p s cpu own step) then [] else asks_of_action p s own.stack step

-- an answer is of a kind that fits its ask
abbrev pub fits : Ask → Answer → Bool
fits (AskChunk submap pages) (Base page) = true
fits (AskChunk submap pages) (NoSpace left) = true
fits (AskChunk submap pages) (NoFrames free) = true
fits (Frames pages) Given = true
fits (Frames pages) (NoFrames free) = true
fits (Back pages) Taken = true
fits ask answer = false

-- each ask takes the first answer, and it fits
abbrev pub all_answered : List Ask → List Answer → Bool
all_answered [] answers = true
all_answered (ask ∷ asks) [] = false
all_answered (ask ∷ asks) (answer ∷ answers) = fits ask answer && all_answered asks answers

-- what a step answers where the supply refuses
abbrev pub denied_by : List Answer → Option Reply
denied_by (NoSpace left ∷ answers) = Some (reply.NoSpace left)
denied_by (NoFrames free ∷ answers) = Some (reply.NoFrames free)
denied_by answers = None

-- ---- actions

-- a reply, and what there is after the step
pub record Effect : Type 0 where
  pub reply : Reply
  pub shared : Shared
  pub own : CpuPart

-- a refusal leaves all as it was
abbrev pub unchanged : Reply → Shared → CpuPart → Effect
unchanged reply s own = record { reply = reply; shared = s; own = own }

-- the top of a stack is popped, and bound to the name
abbrev pub pop_effect : ℕ → List Block → Shared → CpuPart → Effect
pop_effect name stack s own =
    record {
      reply = reply.Block (newest stack);
      shared = s;
      own = record {
        stack = below_newest stack;
        names =
            bind name (record { block = newest stack; held = true }) own.names;
      };
    }

-- the stack and what is shared before the pop
abbrev pub ready : ZoneParams → Shared → List Block → List Block × Shared
ready p s stack =
    if nat_lt 0 (length stack) then (stack, s)
    else stack_refill p (if must_grow s then grown p s else s)

abbrev pub alloc_effect : ZoneParams → Shared → CpuPart → ℕ → Effect
alloc_effect p s own name = let filled = ready p s own.stack in pop_effect name filled.0 filled.1 own

-- a name with the same block, no longer held
abbrev pub names_without : ℕ → CpuPart → List (ℕ × Bound)
names_without name own = bind name (record { block = block_of (bound_of name own.names); held = false }) own.names

abbrev pub free_effect : ZoneParams → Shared → CpuPart → ℕ → Effect
free_effect p s own name =
    let full = nat_le (2 * p.magazine) (length own.stack) in
    record {
      reply = reply.Done;
      shared = if full then after_spill p (take p.magazine own.stack) s else s;
      own = record {
        stack = (if full then drop p.magazine own.stack else own.stack) ++ block_of (bound_of name own.names) ∷ [];
        names = names_without name own;
      };
    }

abbrev pub given : Shared → CpuPart → ℕ → ℕ → Effect
given s own name to =
    record {
      reply = reply.Done;
      shared = record s {
        transit = s.transit
            ++ record { to = to; name = name; block = block_of (bound_of name own.names) } ∷ [];
      };
      own = record own { names = names_without name own };
    }

abbrev pub gift_at : List Gift → ℕ → Gift
gift_at transit place = slice_index_or transit place
    (record { to = 0; name = 0; block = record { chunk = 0; index = 0 } })

abbrev pub taken : Shared → ℕ → CpuPart → ℕ → Effect
taken s cpu own name =
    let place = unwrap_or (gift_place cpu name s.transit) 0 in
    record {
      reply = reply.Done;
      shared = record s { transit = remove s.transit place };
      own = record own {
        names =
            bind name (record { block = (gift_at s.transit place).block; held = true }) own.names;
      };
    }

abbrev pub flush_effect : Shared → CpuPart → Effect
flush_effect s own =
    record {
      reply = reply.Done;
      shared = record s { chunks = all_idle own.stack s.chunks };
      own =
          record own { stack = [] };
    }

abbrev pub trimmed : ZoneParams → Shared → CpuPart → Effect
trimmed p s own =
    record {
      reply = reply.Trimmed (p.pages * count_whole p (before_unmapping s));
      shared = record s {
        chunks =
            map (λ chunk. if is_whole p.count chunk then no_chunk else chunk) (before_unmapping s);
        depot = [];
      };
      own = own;
    }

-- the action of a step that no refusal answers
abbrev pub action : ZoneParams → Shared → ℕ → CpuPart → Step → Effect
action p s cpu own (Alloc name) = alloc_effect p s own name
action p s cpu own (AllocZero name) =
    let effect = alloc_effect p s own name in
    record effect {
      shared = with_bytes p (block_of (bound_of name effect.own.names)) 0
          (replicate p.element 0) effect.shared;
    }
action p s cpu own (Free name asked) = free_effect p s own name
action p s cpu own (Give name to) = given s own name to
action p s cpu own (Take name) = taken s cpu own name
action p s cpu own (Read name off len) =
    unchanged (reply.Bytes (bytes_at p (block_of (bound_of name own.names)) off len s)) s own
action p s cpu own (Write name off bytes) =
    unchanged reply.Done (with_bytes p (block_of (bound_of name own.names)) off bytes s) own
action p s cpu own Flush = flush_effect s own
action p s cpu own Trim = trimmed p s own

-- the step's effect, with the answers to its asks: the first refusal that holds, else the action
abbrev pub effect_of : ZoneParams → Shared → ℕ → CpuPart → Step → List Answer → Effect
effect_of p s cpu own step answers =
    option_map_or (λ reply. unchanged reply s own) (else_refused (refusal p s cpu own step) (denied_by answers))
    (action p s cpu own step)

-- ---- the step

-- what a step gives of what is shared and of what its CPU has: its effect, its asks, and the answers that are left
pub record Part : Type 0 where
  pub effect : Effect
  pub asks : List Ask
  pub left : List Answer

-- A step is a function of what is shared and of what its CPU has: other CPUs have no say.
abbrev pub part_of : ZoneParams → Shared → ℕ → CpuPart → Step → List Answer → Part
part_of p s cpu own step answers =
    let asks = asks_of p s cpu own step in
    record {
      effect = effect_of p s cpu own step (take (length asks) answers);
      asks = asks;
      left =
          drop (length asks) answers;
    }

pub record Stepped : Type 0 where
  pub reply : Reply
  pub state : ZoneState
  pub asks : List Ask
  pub left : List Answer

-- the part put back into the zone
abbrev pub put_back : ZoneState → ℕ → Part → Stepped
put_back state cpu part =
    record {
      reply = part.effect.reply;
      state = record { shared = part.effect.shared; own = slice_set state.own cpu part.effect.own };
      asks = part.asks;
      left = part.left;
    }

-- One step of the zone alone. It gives nothing where the answers do not fit its asks.
abbrev pub alone_step : ZoneParams → ZoneState → ℕ → Step → List Answer → Option Stepped
alone_step p state cpu step answers =
    let part = part_of p state.shared cpu (cpu_part state cpu) step answers in
    if all_answered part.asks answers then Some (put_back state cpu part) else None
