-- A step of a CPU on a zone, with the zone's book and the supply.
use Rattle.std.specs.Prelude.{◌≡◌, ℕ, ◌+◌, ◌<◌, ◌≤◌, Bool, true, false, if◌then◌else◌, List, [], ◌∷◌, ◌++◌, length, map, slice_set}
use Rattle.std.specs.List.{count_by}
use Rattle.kz_model.specs.declared.bundle.Bundle.{Bundle}
use Rattle.kz_model.specs.declared.record.ZoneParams.{ZoneParams}
use Rattle.kz_model.specs.declared.step.Step.{Step}
use Rattle.kz_model.specs.declared.step.Step.TheVariants.{Alloc, AllocZero}
use Rattle.kz_model.specs.declared.step.Reply.{Reply}
use Rattle.kz_model.specs.Run.Order.{answered}
use Rattle.kz_model.specs.Zone.Rules.{Effect, needs_visit, asks_of}
use Rattle.kz_model.specs.Zone.State.{CpuPart, ZoneState}
use Rattle.kz_supply.specs.Exchange.{Exchange, ask_of, answer_of, entries_of}
use Rattle.kz_laws.specs.Amounts.{mapped_count}
use Rattle.kz_model.specs.Run.Supply.{pages_left}
use Rattle.kz_supply.specs.Supply.{stock_of, room_left, backs_left, grants_left}
use Rattle.kz_supply.specs.Thin.{ThinSupply, HasMade, thin_with_exchanges}
use Rattle.kz_book.specs.Book.{Book, History, KeepsHistory, HasRoom, params_of}
use Rattle.kz_book.specs.Visits.{own_in, effect_in, visit_of, gives, trims, ReadsFew}
use Rattle.kz_cpu.specs.Cpu.{Cpu, IsOnZone, IsElsewhere, cache_at, recent_at}
use Rattle.kz_cpu.specs.Caught.{IsCaughtUpWith}

-- a CPU, the book of a zone, and the supply
pub record Parties : Type 0 where
  pub cpu : Cpu
  pub book : Book
  pub supply : ThinSupply

abbrev pub parties : Cpu → Book → ThinSupply → Parties
parties cpu book supply = record { cpu = cpu; book = book; supply = supply }

-- a step that may ask the supply
abbrev pub allocates : Step → Bool
allocates (Alloc name) = true
allocates (AllocZero name) = true
allocates step = false

-- The step may be done, whether it needs a visit or not: the CPU has caught up with the zone's history, and there is
-- room for all that a visit may bring.
pub record IsReady (p : ZoneParams) (here : Parties) (step : Step) : Type 0 where
  pub on_zone : IsOnZone here.cpu p.zone step
  pub steps : length (recent_at here.cpu p.zone) < (cache_at here.cpu p.zone).most_steps
  pub one_of : here.cpu.cpu < p.cpus
  pub params : params_of here.book ≡ p
  pub cache : (cache_at here.cpu p.zone).params ≡ p
  pub history : History
  pub keeps : KeepsHistory here.book history
  pub caught : IsCaughtUpWith here.cpu p.zone history
  pub room : HasRoom here.book here.cpu.cpu (length (recent_at here.cpu p.zone) + 1)
  pub gifts : gives step ≡ true → length here.book.zone.transit < here.book.zone.most_gifts
  pub reads : ReadsFew step
  pub submap : p.submap < 5
  pub some_pages : 1 ≤ p.pages
  pub few_pages : p.pages ≤ 8
  pub entries : allocates step ≡ true → 0 < room_left here.supply.counted
  pub chunks : allocates step ≡ true → 0 < grants_left p.submap p.pages here.supply.counted →
      length here.book.zone.chunks < here.book.zone.most_chunks
  pub framed : mapped_count here.book.zone.chunks < length here.book.zone.chunks → HasMade p.pages here.supply
  pub placed : allocates step ≡ true →
      p.pages ≤ pages_left here.supply.counted.pages (stock_of here.supply.counted) p.submap →
      HasMade p.pages here.supply
  pub backs : trims step ≡ true →
      count_by (λ chunk. chunk.mapped) here.book.zone.chunks ≤ backs_left p.pages here.supply.counted

-- what the CPU has of the zone after its recent steps
abbrev pub own_here : ZoneParams → Parties → History → CpuPart
own_here p here j = own_in p j here.cpu.cpu (recent_at here.cpu p.zone)

abbrev pub effect_here : ZoneParams → Parties → History → Step → List Exchange → Effect
effect_here p here j step exchanges = effect_in p j here.cpu.cpu (recent_at here.cpu p.zone) step exchanges

-- the zone's state by its history, with this effect of the CPU's
abbrev pub end_with : Parties → History → Effect → ZoneState
end_with here j effect = record { shared = effect.shared; own = slice_set j.made.end.own here.cpu.cpu effect.own }

-- whether the step needs a visit
abbrev pub needs_here : ZoneParams → Parties → History → Step → Bool
needs_here p here j step = needs_visit p (own_here p here j) step

-- The CPU did the step: in a visit that carries its recent steps too, or as one more recent step. The exchanges are its
-- asks with the supply's answers.
pub record IsStepDone (p : ZoneParams) (round : ℕ) (old new : Parties) (step : Step) (reply : Reply)
    (before after : History) (exchanges : List Exchange) : Type 0 where
  pub keeps : KeepsHistory new.book after
  pub caught : IsCaughtUpWith new.cpu p.zone after
  pub asks : map ask_of exchanges ≡ asks_of p before.made.end.shared old.cpu.cpu (own_here p old before) step
  pub answered_by : (b : Bundle) → old.supply.counted.frames ≡ b.frames → old.supply.counted.pages ≡ b.pages →
      entries_of p.zone exchanges ≡ answered b p.zone old.supply.counted.log (map ask_of exchanges)
  pub supply : new.supply ≡ thin_with_exchanges p.zone exchanges old.supply
  pub answers : after.answers ≡ before.answers ++ map answer_of exchanges
  pub is_reply : reply ≡ (effect_here p old before step exchanges).reply
  pub room : new.book.room ≡ old.book.room
  pub most_chunks : new.book.zone.most_chunks ≡ old.book.zone.most_chunks
  pub most_gifts : new.book.zone.most_gifts ≡ old.book.zone.most_gifts
  pub visits : new.book.visits
      ≡ (if needs_here p old before step then old.book.visits ++ visit_of round old.cpu.cpu (recent_at old.cpu p.zone)
      ∷ [] else old.book.visits)
  pub recent : recent_at new.cpu p.zone
      ≡ (if needs_here p old before step then [] else recent_at old.cpu p.zone ++ step ∷ [])
  pub end : after.made.end ≡ (if needs_here p old before step
      then end_with old before (effect_here p old before step exchanges) else before.made.end)
  pub elsewhere : IsElsewhere old.cpu new.cpu p.zone step
