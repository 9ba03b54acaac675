-- A zone behind its turn: what it keeps, its base, its journal, and what a CPU's pass knows of it.
use Rattle.std.specs.Prelude.{◌≡◌, true, ℕ, ◌<◌, ◌≤◌, List, [], ◌∷◌, ◌++◌, length, sum, map, take, drop}
use Rattle.std.specs.Option.{unwrap_or}
use Rattle.kz_model.specs.declared.bundle.Bundle.{Bundle}
use Rattle.kz_model.specs.declared.record.Plan.{Plan}
use Rattle.kz_model.specs.declared.record.Visit.{Visit}
use Rattle.kz_model.specs.declared.step.Reply.{Reply}
use Rattle.kz_model.specs.declared.step.Step.{Step}
use Rattle.kz_model.specs.declared.supply.SupplyEntry.{SupplyEntry}
use Rattle.kz_model.specs.Run.Journal.{params_of, steps_of, carried}
use Rattle.kz_model.specs.Zone.Alone.{Course, alone}
use Rattle.kz_model.specs.Zone.State.{CpuPart, ZoneState, opening, cpu_part}
use Rattle.kz_model.specs.Zone.Late.{NeedNone}
use Rattle.kz_model.specs.Zone.Rules.{needs_visit}
use Rattle.kz_model.specs.Zone.Whole.{IsWhole}
use Rattle.kz_supply.specs.Exchange.{Exchange, entries_of as entries_at}
use Rattle.kz_supply.specs.Ready.{Ready, NoAnswer}
use Rattle.kz_zone.specs.Room.{IsFitRoom}
use Rattle.kz_zone.specs.Zone.{StandsFor}
use Rattle.kz_book.specs.Book.{Book, History, KeepsHistory}
use Rattle.kz_book.specs.Visits.{Extends, Settles, own_in, visit_of, settled_of}
use Rattle.kz_turn.specs.Journal.{entries_of}
use Rattle.kz_turn.specs.Passes.{PassView}
use Rattle.kz_laws.specs.declared.stays.Stay.{Stay}
use Rattle.kz_laws.specs.Stays.{AreStays, HaveSteps, visit_in, visits_in, steps_in, entries_in, answers_in, stays_told, steps_made_by, stays_by, part_left}
use Rattle.kz_locked.specs.declared.supply.SupplyStart.{SupplyStart}
use Rattle.kz_locked.specs.declared.zone.ZoneStart.{ZoneStart}
use Rattle.kz_locked.specs.Supply.{own_log}
use Rattle.kz_locked.specs.Visits.{LeadsTo, stay_of_visit, stay_of_settling}

-- the pass of the supply's turn that a zone keeps
abbrev pub SupplyPass : Type 0
SupplyPass = PassView SupplyStart SupplyEntry

-- the steps that a visit carries after earlier ones
abbrev pub steps_told : Bundle → Plan → ℕ → List Visit → Visit → List Step
steps_told b plan zone earlier v =
    take v.count (drop (carried v.cpu v.round earlier) (steps_of b plan v.cpu zone v.round))

-- the stays that a zone's visits and the entries of its pass tell
abbrev pub stays_of : Bundle → Plan → List Visit → SupplyPass → List Stay
stays_of b plan visits pass =
    let p = params_of b plan pass.number in
    stays_told p (steps_told b plan pass.number) (opening p) [] visits (own_log pass)

-- each stay with the number of its CPU's seat
abbrev pub by_seat : List Stay → List (ℕ × Stay)
by_seat stays = map (λ s. (s.cpu, s)) stays

-- the stays since so many visits were made
abbrev pub stays_since : ℕ → Bundle → Plan → List Visit → SupplyPass → List (ℕ × Stay)
stays_since opened b plan visits pass = by_seat (drop opened (stays_of b plan visits pass))

-- the zone as it was when so many visits were made
abbrev pub zone_start : ℕ → Bundle → Plan → Book → SupplyPass → ZoneStart
zone_start opened b plan book pass =
    record {
      turn = pass.name;
      supply = pass.base;
      zone = pass.number;
      bundle = b;
      plan = plan;
      room = book.room;
      stays =
          take opened (stays_of b plan book.visits pass);
    }

-- What a zone behind its turn keeps. Its visits, and the entries that its pass made, are those of stays from the zone's
-- opening, each of the steps that its visit carries. The zone stands for the state that these lead to, and no answer
-- and no frames wait in its pages.
pub record IsLockedZone (b : Bundle) (plan : Plan) (book : Book) (pages : Ready) (pass : SupplyPass) : Type 0 where
  pub zone : pass.number < length plan.zones
  pub params : book.room.params ≡ params_of b plan pass.number
  pub zone_params : book.zone.params ≡ params_of b plan pass.number
  pub pages_params : pages.params ≡ params_of b plan pass.number
  pub room : IsFitRoom book.room
  pub few : length book.visits ≤ sum book.room.steps
  pub idle : pages.ready ≡ NoAnswer
  pub none_wait : pages.waiting ≡ []
  pub stays : List Stay
  pub end : ZoneState
  pub are : AreStays (params_of b plan pass.number) (opening (params_of b plan pass.number)) stays end
  pub steps : HaveSteps (steps_told b plan pass.number) [] stays
  pub visits : book.visits ≡ visits_in stays
  pub entries : own_log pass ≡ entries_in stays
  pub shows : StandsFor book.zone end.shared
  pub whole : IsWhole (params_of b plan pass.number) end

-- the history that a zone's visits and the entries of its pass tell
abbrev pub history_told : Bundle → Plan → List Visit → SupplyPass → History
history_told b plan visits pass =
    let p = params_of b plan pass.number in
    let steps = steps_in (stays_of b plan visits pass) in
    let answers = answers_in (own_log pass) in
    let nothing : Course = record { replies = []; asks = []; before = []; end = opening p; left = [] } in
    record { steps = steps; answers = answers; made = unwrap_or (alone p steps answers) nothing }

-- One more stay in a locked zone: from the history that is told to one of the book after it, which has one more visit.
-- The pass made the stay's entries, and the pages are idle again.
pub record GoesOn (b : Bundle) (plan : Plan) (old new : Book) (pages : Ready) (pass after : SupplyPass)
    (s : Stay) : Type 0 where
  pub pass_is : after ≡ record pass { own = pass.own ++ s.entries }
  pub pages_params : pages.params ≡ params_of b plan pass.number
  pub idle : pages.ready ≡ NoAnswer
  pub none_wait : pages.waiting ≡ []
  pub room : new.room ≡ old.room
  pub visits : new.visits ≡ old.visits ++ visit_in s ∷ []
  pub few : length new.visits ≤ sum new.room.steps
  pub steps : steps_told b plan pass.number old.visits (visit_in s) ≡ s.steps
  pub last : History
  pub keeps : KeepsHistory new last
  pub leads : LeadsTo (params_of b plan pass.number) (history_told b plan old.visits pass) last s

-- A locked zone stays one with one more stay, and tells one more.
pub record HasOneMore (b : Bundle) (plan : Plan) (old new : Book) (pages : Ready) (pass after : SupplyPass)
    (s : Stay) : Type 0 where
  pub kept : ∥ IsLockedZone b plan new pages after ∥₁
  pub stays : stays_of b plan new.visits after ≡ stays_of b plan old.visits pass ++ s ∷ []

abbrev pub OneMoreStayIsKept : Type 0
OneMoreStayIsKept =
    (b : Bundle) (plan : Plan) (old new : Book) (idle pages : Ready) (pass after : SupplyPass) (s : Stay) →
    ∥ IsLockedZone b plan old idle pass ∥₁ → GoesOn b plan old new pages pass after s →
    HasOneMore b plan old new pages pass after s

-- ---- what a CPU's pass knows

-- what the CPU has of the zone after the stays that its pass knows
abbrev pub part_known : PassView ZoneStart Stay → CpuPart
part_known pass =
    let p = params_of pass.base.bundle pass.base.plan pass.base.zone in
    part_left (part_left (cpu_part (opening p) pass.number) (stays_by pass.number pass.base.stays)) pass.own

-- what a CPU that has the zone to itself finds in it
pub record FindsPart (b : Bundle) (plan : Plan) (book : Book) (held : SupplyPass)
    (pass : PassView ZoneStart Stay) : Type 0 where
  pub keeps : KeepsHistory book (history_told b plan book.visits held)
  pub part : cpu_part (history_told b plan book.visits held).made.end pass.number ≡ part_known pass

-- The book of a locked zone keeps the history that is told, in which the CPU has just what its pass knows, whatever
-- other CPUs did.
abbrev pub PassesKnowParts : Type 0
PassesKnowParts =
    (opened : ℕ) (b : Bundle) (plan : Plan) (book : Book) (pages : Ready) (held : SupplyPass)
    (pass : PassView ZoneStart Stay) → ∥ IsLockedZone b plan book pages held ∥₁ →
    zone_start opened b plan book held ≡ pass.base →
    entries_of pass.number (stays_since opened b plan book.visits held) ≡ pass.own →
    FindsPart b plan book held pass

-- ---- a visit

-- A CPU's visit of these recent steps and this one, as the book has it afterwards: it extends the history that is told,
-- and its steps are those that it has to carry. The pass made the entries of its exchanges, and the pages are idle again.
pub record HasVisit (b : Bundle) (plan : Plan) (old new : Book) (pages : Ready) (pass after : SupplyPass)
    (round cpu : ℕ) (recent : List Step) (step : Step) (reply : Reply) (exchanges : List Exchange) : Type 0 where
  pub one_of : cpu < b.cpus
  pub none : NeedNone (params_of b plan pass.number) (cpu_part (history_told b plan old.visits pass).made.end cpu) recent
  pub needs : needs_visit (params_of b plan pass.number)
      (own_in (params_of b plan pass.number) (history_told b plan old.visits pass) cpu recent) step ≡ true
  pub steps : steps_told b plan pass.number old.visits (visit_of round cpu recent) ≡ recent ++ step ∷ []
  pub pass_is : after ≡ record pass { own = pass.own ++ entries_at pass.number exchanges }
  pub pages_params : pages.params ≡ params_of b plan pass.number
  pub idle : pages.ready ≡ NoAnswer
  pub none_wait : pages.waiting ≡ []
  pub room : new.room ≡ old.room
  pub visits : new.visits ≡ old.visits ++ visit_of round cpu recent ∷ []
  pub few : length new.visits ≤ sum new.room.steps
  pub last : History
  pub keeps : KeepsHistory new last
  pub extends : Extends (params_of b plan pass.number) cpu (history_told b plan old.visits pass) last recent step reply
      exchanges

-- the stay that the visit is
abbrev pub stay_at : Bundle → Plan → Book → SupplyPass → ℕ → ℕ → List Step → Step → Reply → List Exchange → History → Stay
stay_at b plan old pass round cpu recent step reply exchanges last =
    stay_of_visit (params_of b plan pass.number) round cpu
    (cpu_part (history_told b plan old.visits pass).made.end cpu) recent step reply exchanges
    (cpu_part last.made.end cpu)

-- A visit to a locked zone is one more stay there.
abbrev pub VisitsGoOn : Type 0
VisitsGoOn =
    (b : Bundle) (plan : Plan) (old new : Book) (idle pages : Ready) (pass after : SupplyPass) (round cpu : ℕ)
    (recent : List Step) (step : Step) (reply : Reply) (exchanges : List Exchange) →
    ∥ IsLockedZone b plan old idle pass ∥₁ →
    (visit : HasVisit b plan old new pages pass after round cpu recent step reply exchanges) →
    GoesOn b plan old new pages pass after
    (stay_at b plan old pass round cpu recent step reply exchanges visit.last)

-- A settled visit of a CPU's recent steps, as the book has it afterwards. It asks nothing.
pub record HasSettling (b : Bundle) (plan : Plan) (old new : Book) (pass : SupplyPass) (round cpu : ℕ)
    (recent : List Step) : Type 0 where
  pub one_of : cpu < b.cpus
  pub some : 1 ≤ length recent
  pub none : NeedNone (params_of b plan pass.number) (cpu_part (history_told b plan old.visits pass).made.end cpu) recent
  pub steps : steps_told b plan pass.number old.visits (settled_of round cpu recent) ≡ recent
  pub room : new.room ≡ old.room
  pub visits : new.visits ≡ old.visits ++ settled_of round cpu recent ∷ []
  pub few : length new.visits ≤ sum new.room.steps
  pub last : History
  pub keeps : KeepsHistory new last
  pub settles : Settles (params_of b plan pass.number) cpu (history_told b plan old.visits pass) last recent

-- A settled visit to a locked zone is one more stay there too.
abbrev pub SettlingsGoOn : Type 0
SettlingsGoOn =
    (b : Bundle) (plan : Plan) (old new : Book) (pages : Ready) (pass : SupplyPass) (round cpu : ℕ)
    (recent : List Step) → ∥ IsLockedZone b plan old pages pass ∥₁ →
    (settling : HasSettling b plan old new pass round cpu recent) →
    GoesOn b plan old new pages pass pass
    (stay_of_settling (params_of b plan pass.number) round cpu
    (cpu_part (history_told b plan old.visits pass).made.end cpu) recent (cpu_part settling.last.made.end cpu))

-- ---- the lines that stays carry

-- Of a CPU's steps of each round, the stays of a locked zone carry the first ones, each once and in order.
abbrev pub StaysCarryFirstSteps : Type 0
StaysCarryFirstSteps =
    (b : Bundle) (plan : Plan) (zone cpu round : ℕ) (stays : List Stay) → HaveSteps (steps_told b plan zone) [] stays →
    steps_made_by cpu round stays ≡ take (carried cpu round (visits_in stays)) (steps_of b plan cpu zone round)

-- ---- the first round

-- A zone that no CPU has visited, and for which no entry was made.
pub record IsNewZone (b : Bundle) (plan : Plan) (book : Book) (pages : Ready) (pass : SupplyPass) : Type 0 where
  pub zone : pass.number < length plan.zones
  pub params : book.room.params ≡ params_of b plan pass.number
  pub pages_params : pages.params ≡ params_of b plan pass.number
  pub room : IsFitRoom book.room
  pub idle : pages.ready ≡ NoAnswer
  pub none_wait : pages.waiting ≡ []
  pub visits : book.visits ≡ []
  pub entries : own_log pass ≡ []
  pub history : History
  pub keeps : KeepsHistory book history
  pub no_steps : history.steps ≡ []
  pub no_answers : history.answers ≡ []

-- A new zone can be put behind a turn.
abbrev pub NewZonesAreLocked : Type 0
NewZonesAreLocked =
    (b : Bundle) (plan : Plan) (book : Book) (pages : Ready) (pass : SupplyPass) →
    IsNewZone b plan book pages pass → IsLockedZone b plan book pages pass
