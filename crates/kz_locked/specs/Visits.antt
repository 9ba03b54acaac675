-- A visit to a book, and a settled one, as a stay.
use Rattle.std.specs.Prelude.{◌≡◌, ℕ, ◌<◌, ◌≤◌, true, false, List, [], ◌∷◌, ◌++◌, length}
use Rattle.kz_model.specs.declared.record.ZoneParams.{ZoneParams}
use Rattle.kz_model.specs.declared.step.Reply.{Reply}
use Rattle.kz_model.specs.declared.step.Step.{Step}
use Rattle.kz_model.specs.Zone.State.{CpuPart, cpu_part}
use Rattle.kz_model.specs.Zone.Rules.{needs_visit}
use Rattle.kz_model.specs.Zone.Late.{NeedNone}
use Rattle.kz_model.specs.Zone.Alone.{Course}
use Rattle.kz_supply.specs.Exchange.{Exchange, entries_of}
use Rattle.kz_book.specs.Book.{Book, History, KeepsHistory, params_of}
use Rattle.kz_book.specs.Visits.{Extends, Settles, own_in, replies_late}
use Rattle.kz_laws.specs.declared.stays.Stay.{Stay}
use Rattle.kz_laws.specs.Stays.{IsStay}

-- a visit that carries the recent steps and this one
abbrev pub stay_of_visit : ZoneParams → ℕ → ℕ → CpuPart → List Step → Step → Reply → List Exchange → CpuPart → Stay
stay_of_visit p round cpu own recent step reply exchanges left =
    record {
      round = round;
      cpu = cpu;
      steps = recent ++ step ∷ [];
      replies = replies_late p own recent ++ reply ∷ [];
      settled = false;
      entries = entries_of p.zone exchanges;
      stack = left.stack;
      names =
          left.names;
    }

-- a settled visit of late steps
abbrev pub stay_of_settling : ZoneParams → ℕ → ℕ → CpuPart → List Step → CpuPart → Stay
stay_of_settling p round cpu own recent left =
    record {
      round = round;
      cpu = cpu;
      steps = recent;
      replies = replies_late p own recent;
      settled = true;
      entries = [];
      stack = left.stack;
      names = left.names;
    }

-- The stay leads from the one history's end to the other's.
pub record LeadsTo (p : ZoneParams) (before after : History) (s : Stay) : Type 0 where
  pub made : Course
  pub is : IsStay p before.made.end s made
  pub end : made.end ≡ after.made.end

-- A visit is a stay.
abbrev pub VisitsAreStays : Type 0
VisitsAreStays =
    (old new : Book) (before after : History) (round cpu : ℕ) (recent : List Step) (step : Step) (reply : Reply)
    (exchanges : List Exchange) → let p = params_of old in params_of new ≡ p → cpu < p.cpus →
    KeepsHistory old before → KeepsHistory new after → NeedNone p (cpu_part before.made.end cpu) recent →
    needs_visit p (own_in p before cpu recent) step ≡ true → Extends p cpu before after recent step reply exchanges →
    LeadsTo p before after (stay_of_visit p round cpu (cpu_part before.made.end cpu) recent step reply exchanges
    (cpu_part after.made.end cpu))

-- A settled visit is a stay.
abbrev pub SettlingsAreStays : Type 0
SettlingsAreStays =
    (old new : Book) (before after : History) (round cpu : ℕ) (recent : List Step) → let p = params_of old in
    params_of new ≡ p → cpu < p.cpus → KeepsHistory old before → KeepsHistory new after → 1 ≤ length recent →
    NeedNone p (cpu_part before.made.end cpu) recent → Settles p cpu before after recent →
    LeadsTo p before after
    (stay_of_settling p round cpu (cpu_part before.made.end cpu) recent (cpu_part after.made.end cpu))
