-- Laws over the definitions.
use Rattle.std.specs.Prelude.{◌==◌, ◌||◌, if◌then◌else◌, nat_lt, ◌∷◌, take, slice_index_or, ◌≡◌, ◌↔◌, ◌≢◌, ℕ, ◌+◌, ◌*◌, ◌<◌, ◌≤◌, false, map, List, [], length, slice_index, Some, None}
use Rattle.std.specs.List.{All, fold, sum_by}
use Rattle.std.specs.Option.{option_map_or}
use Rattle.kz_model.specs.declared.step.Step.{Step}
use Rattle.kz_model.specs.declared.supply.Ask.{Ask}
use Rattle.kz_model.specs.declared.supply.Answer.{Answer}
use Rattle.kz_model.specs.declared.record.ZoneParams.{ZoneParams}
use Rattle.kz_model.specs.declared.supply.SupplyEntry.{SupplyEntry}
use Rattle.kz_model.specs.declared.supply.Answer.TheVariants.{Base}
use Rattle.kz_model.specs.declared.record.Visit.{Visit}
use Rattle.kz_model.specs.Run.Runs.{IsRun}
use Rattle.kz_laws.specs.Addresses.{IsFit, IsLog, IsAddress, entry_at, AreRangesApart}
use Rattle.kz_model.specs.Run.Journal.{bases}
use Rattle.kz_model.specs.declared.bundle.Bundle.{Bundle}
use Rattle.kz_model.specs.declared.bundle.OrderLine.{OrderLine}
use Rattle.kz_model.specs.declared.record.Plan.{Plan}
use Rattle.kz_model.specs.Run.Journal.{params_of}
use Rattle.kz_model.specs.Run.Order.{opening_progress, order_of, order_step, order_run}
use Rattle.kz_laws.specs.Undelayed.{AreNextLines, IsAlikeAt, IsSameAt, lines_at, places_at}
use Rattle.kz_model.specs.Zone.Late.{AnswersAlike, answered_by, delayed_lines, settled_lines}
use Rattle.kz_model.specs.Zone.State.{Shared, CpuPart, ZoneState, opening, cpu_part}
use Rattle.kz_model.specs.Zone.Whole.{IsWhole, IsInOrder, times_live}
use Rattle.kz_model.specs.declared.step.Block.{Block}
use Rattle.kz_laws.specs.Agreement.{numbered, without_page, numbered_course, AreAlike, AreGranted}
use Rattle.kz_model.specs.Zone.Alone.{Course, course, alone}
use Rattle.kz_laws.specs.Renaming.{IsRenaming, renamed_steps, renamed_course}
use Rattle.kz_model.specs.Run.Supply.{supply_answers, address}
use Rattle.kz_laws.specs.Ranges.{ranges, AreOfSubmaps, AreApart}
use Rattle.kz_model.specs.Zone.Rules.{Stepped, needs_visit, asks_of, effect_of, alone_step}
use Rattle.kz_model.specs.Zone.Local.{local_answer, as_effect, with_cpu_part, AreOfOthers, course_with, stepped_with, TwoSteps, one_then_other, in_other_order}

-- a step that needs no visit asks nothing
abbrev pub AsksNothing : Type 0
AsksNothing =
    (p : ZoneParams) (s : Shared) (cpu : ℕ) (own : CpuPart) (step : Step) → needs_visit p own step ≡ false →
    asks_of p s cpu own step ≡ []

-- its reply and what it changes depend on what its CPU has alone, and it changes nothing that is shared
abbrev pub IsLocal : Type 0
IsLocal =
    (p : ZoneParams) (s : Shared) (cpu : ℕ) (own : CpuPart) (step : Step) → needs_visit p own step ≡ false →
    effect_of p s cpu own step [] ≡ as_effect s (local_answer p own step)

-- so it takes no answer, and changes its CPU's stack and names alone
abbrev pub StepsAlone : Type 0
StepsAlone =
    (p : ZoneParams) (state : ZoneState) (cpu : ℕ) (step : Step) (answers : List Answer) →
    needs_visit p (cpu_part state cpu) step ≡ false →
    alone_step p state cpu step answers
    ≡ Some (record {
      reply = (local_answer p (cpu_part state cpu) step).reply;
      state = with_cpu_part state cpu (local_answer p (cpu_part state cpu) step).own;
      asks = [];
      left = answers;
    })

-- Another CPU's stack and names decide nothing at a step, and the step leaves them as they are.
abbrev pub LeavesOthers : Type 0
LeavesOthers =
    (p : ZoneParams) (state : ZoneState) (cpu other : ℕ) (own : CpuPart) (step : Step) (answers : List Answer) →
    cpu ≢ other →
    alone_step p (with_cpu_part state other own) cpu step answers
    ≡ option_map_or (λ (o : Stepped). Some (stepped_with other own o)) (alone_step p state cpu step answers) None

abbrev pub KeepsOthers : Type 0
KeepsOthers =
    (p : ZoneParams) (state : ZoneState) (cpu other : ℕ) (step : Step) (answers : List Answer) (o : Stepped) →
    cpu ≢ other →
    alone_step p state cpu step answers ≡ Some o → cpu_part o.state other ≡ cpu_part state other

-- A step that needs no visit may come before or after a step of another CPU: the same replies, asks and end.
abbrev pub Commutes : Type 0
Commutes =
    (p : ZoneParams) (state : ZoneState) (c : ℕ) (s : Step) (d : ℕ) (t : Step) (answers : List Answer) →
    needs_visit p (cpu_part state c) s ≡ false → c ≢ d →
    one_then_other p state c s d t answers
    ≡ option_map_or (λ (pair : TwoSteps). Some (in_other_order pair)) (one_then_other p state d t c s answers) None

-- a zone opens whole
abbrev pub OpensWhole : Type 0
OpensWhole = (p : ZoneParams) → IsWhole p (opening p)

-- that it is whole says that it is in order, bullet by bullet, and the other way round
abbrev pub WholeIsInOrder : Type 0
WholeIsInOrder = (p : ZoneParams) (state : ZoneState) → IsWhole p state ↔ IsInOrder p state

-- each step keeps it whole
abbrev pub StepsKeepWhole : Type 0
StepsKeepWhole =
    (p : ZoneParams) (state : ZoneState) (cpu : ℕ) (step : Step) (answers : List Answer) (o : Stepped) → 0 < p.count →
    0 < p.magazine → cpu < p.cpus → IsWhole p state →
    alone_step p state cpu step answers ≡ Some o → IsWhole p o.state

-- the ranges that a supply grants are inside the pages, and apart in each submap
abbrev pub GrantsApart : Type 0
GrantsApart = (frames pages : ℕ) (asks : List Ask) → AreOfSubmaps asks →
    AreApart pages (ranges asks (supply_answers frames pages asks))

-- An address is of one chunk, by the Base entry that granted its pages. No trim takes an entry away, so this holds
-- before and after every trim.
abbrev pub OneEntryAtAnAddress : Type 0
OneEntryAtAnAddress =
    (frames pages : ℕ) (params : ℕ → ZoneParams) (log : List SupplyEntry) → pages ≤ 4096 →
    IsLog frames pages params log →
    (i j page other x : ℕ) (a b : Block) → (entry_at log i).answer ≡ Base page → (entry_at log j).answer ≡ Base other →
    IsAddress (params (entry_at log i).zone) page a x → IsAddress (params (entry_at log j).zone) other b x → i ≡ j

-- An address is of one chunk of one zone, where a zone's chunk begins at the page of its Base of the same number.
abbrev pub OneChunkAtAnAddress : Type 0
OneChunkAtAnAddress =
    (frames pages : ℕ) (params : ℕ → ZoneParams) (log : List SupplyEntry) → pages ≤ 4096 →
    IsLog frames pages params log →
    (y z x : ℕ) (a b : Block) → a.chunk < length (bases y log) → b.chunk < length (bases z log) →
    IsAddress (params y) (slice_index (bases y log) a.chunk) a x →
    IsAddress (params z) (slice_index (bases z log) b.chunk) b x →
    (y ≡ z) × (a.chunk ≡ b.chunk)

-- the log of a run is such a log, where its zones are fit
abbrev pub RunsHaveLogs : Type 0
RunsHaveLogs =
    (b : Bundle) (plan : Plan) (journals : List (List Visit)) (log : List SupplyEntry) →
    ((zone : ℕ) → zone < length plan.zones → IsFit (params_of b plan zone)) →
    IsRun b plan journals log → IsLog b.frames b.pages (params_of b plan) log

-- The zone alone under other names: the same replies and asks, and the same states under these names.
abbrev pub NamesDecideNothing : Type 0
NamesDecideNothing =
    (f : ℕ → ℕ) → IsRenaming f → (p : ZoneParams) (steps : List (ℕ × Step)) (answers : List Answer) →
    alone p (renamed_steps f steps) answers
    ≡ option_map_or (λ (c : Course). Some (renamed_course f c)) (alone p steps answers) None

-- The zone alone over its steps with names numbered as they first appear, and its answers without pages: the same
-- replies and asks, and the same states under these names.
abbrev pub OwnDecides : Type 0
OwnDecides =
    (p : ZoneParams) (steps : List (ℕ × Step)) (answers : List Answer) →
    alone p (numbered steps) (map without_page answers)
    ≡ option_map_or (λ (c : Course). Some (numbered_course steps c)) (alone p steps answers) None

-- two runs that agree at a zone answer equally there
abbrev pub AgreedAreAlike : Type 0
AgreedAreAlike =
    (p : ZoneParams) (steps others : List (ℕ × Step)) (answers given : List Answer) (c d : Course) → numbered steps
    ≡ numbered others → map without_page answers ≡ map without_page given →
    alone p steps answers ≡ Some c → alone p others given ≡ Some d → AreAlike c d

-- Two runs with the same parameters and steps agree at a zone where neither has a refusal of the supply there.
abbrev pub GrantedAgree : Type 0
GrantedAgree =
    (p : ZoneParams) (steps others : List (ℕ × Step)) (answers given : List Answer) (c d : Course) → numbered steps
    ≡ numbered others → AreGranted answers → AreGranted given →
    alone p steps answers ≡ Some c → alone p others given ≡ Some d → map without_page answers ≡ map without_page given

-- no element of a whole zone is live twice
abbrev pub LiveOnce : Type 0
LiveOnce = (p : ZoneParams) (state : ZoneState) (block : Block) → IsWhole p state → times_live block state ≤ 1

-- an address belongs to one block, where the elements fit their pages and no page is of two chunks
abbrev pub OneBlockAtAnAddress : Type 0
OneBlockAtAnAddress =
    (p : ZoneParams) (base : ℕ → ℕ) (chunks x : ℕ) (a b : Block) → p.count * p.element ≤ 4096 * p.pages →
    ((j k page : ℕ) → j < chunks → k < chunks → base j ≤ page → page < base j + p.pages → base k ≤ page →
    page < base k + p.pages → j ≡ k) →
    a.chunk < chunks → a.index < p.count → b.chunk < chunks → b.index < p.count →
    address p.submap (base a.chunk) p.element a ≤ x → x < address p.submap (base a.chunk) p.element a + p.element →
    address p.submap (base b.chunk) p.element b ≤ x → x < address p.submap (base b.chunk) p.element b + p.element →
    (a.chunk ≡ b.chunk) × (a.index ≡ b.index)

-- In a whole zone that is fit, whose chunks have pages of their own, addresses of two different live blocks are apart.
abbrev pub LiveBlocksAreApart : Type 0
LiveBlocksAreApart =
    (p : ZoneParams) (state : ZoneState) (base : ℕ → ℕ) (one other : Block) → IsFit p → IsWhole p state →
    ((j k : ℕ) → j < length state.shared.chunks → k < length state.shared.chunks → j ≢ k →
    AreRangesApart p.pages (base j) (base k)) →
    0 < times_live one state → 0 < times_live other state → one ≢ other →
    AreRangesApart p.element (address p.submap (base one.chunk) p.element one)
    (address p.submap (base other.chunk) p.element other)

-- a CPU's stack and names decide nothing in steps of other CPUs, and those leave them
abbrev pub OthersGoOn : Type 0
OthersGoOn =
    (p : ZoneParams) (state : ZoneState) (cpu : ℕ) (own : CpuPart) (steps : List (ℕ × Step)) (answers : List Answer) →
    AreOfOthers cpu steps →
    course p (with_cpu_part state cpu own) steps answers
    ≡ option_map_or (λ (c : Course). Some (course_with cpu own c)) (course p state steps answers) None

-- visits up to the last one of this CPU
abbrev pub through_last : ℕ → List Visit → List Visit
through_last cpu [] = []
through_last cpu (v ∷ visits) =
    let later = through_last cpu visits in
    if (v.cpu == cpu) || nat_lt 0 (length later) then v ∷ later else []

-- the state in which these visits, the first of a journal, leave the zone
abbrev pub state_after_visits : Course → List Visit → ZoneState
state_after_visits c visits = slice_index_or c.before (sum_by (λ v. v.count) visits) c.end

-- In a run, after the first visits to a zone a CPU's stack and names are as after its last visit among them.
abbrev pub LastVisitDecides : Type 0
LastVisitDecides =
    (b : Bundle) (plan : Plan) (journals : List (List Visit)) (log : List SupplyEntry) (run : IsRun b plan journals log)
    (zone cpu n : ℕ) → zone < length plan.zones →
    let visits = take n (slice_index_or journals zone []) in
    cpu_part (state_after_visits (run.made zone) visits) cpu
    ≡ cpu_part (state_after_visits (run.made zone) (through_last cpu visits)) cpu

-- Lines of one zone in an order: after each, the undelayed zone is the delayed one with each CPU's late steps done, and
-- each line so far has the same reply.
abbrev pub AnsweredAlikeByLines : Type 0
AnsweredAlikeByLines =
    (p : ZoneParams) (lines : List (ℕ × Step)) (answers : List Answer) (undelayed : Course) →
    All (λ line. line.0 < p.cpus) lines → course p (opening p) lines answers ≡ Some undelayed →
    let d = delayed_lines p answers lines in (delayed : Course) ×
    AnswersAlike p lines d.made d.late answers undelayed delayed

-- When all have settled, the zone is the same, and each line has the same reply at its place in what the visits made.
abbrev pub AnsweredAlikeWhenSettled : Type 0
AnsweredAlikeWhenSettled =
    (p : ZoneParams) (lines : List (ℕ × Step)) (answers : List Answer) (undelayed : Course) →
    All (λ line. line.0 < p.cpus) lines → course p (opening p) lines answers ≡ Some undelayed →
    let made = (settled_lines p answers lines).made in
    (delayed : Course) × (course p (opening p) made answers ≡ Some delayed) × (undelayed.end ≡ delayed.end) ×
    (undelayed.left ≡ delayed.left)
    × ((cpu : ℕ) → cpu < p.cpus → answered_by cpu lines undelayed.replies ≡ answered_by cpu made delayed.replies)

-- After each line of an order each zone is, but for the steps that are late, as if its lines had been done at once.
abbrev pub OrderIsAlike : Type 0
OrderIsAlike =
    (b : Bundle) (plan : Plan) (lines : List OrderLine) (zone : ℕ) → zone < length plan.zones →
    AreNextLines b plan (opening_progress b plan) lines →
    IsAlikeAt b plan (fold (order_step b plan) (opening_progress b plan) lines) zone
    (lines_at b plan zone (opening_progress b plan) lines)

-- The run of an order answers each line as if it had been done at once.
abbrev pub OrderRunIsSame : Type 0
OrderRunIsSame =
    (b : Bundle) (plan : Plan) (zone : ℕ) → zone < length plan.zones →
    AreNextLines b plan (opening_progress b plan) (order_of b) →
    IsSameAt b plan (order_run b plan) zone (lines_at b plan zone (opening_progress b plan) (order_of b))
    (places_at b plan zone (opening_progress b plan) (order_of b))
