-- What a CPU's step on a zone leaves as it is on others.
use Rattle.std.proofs.Common.{◌≡◌, ◌≢◌, ◌<◌, ℕ, true, List, length, slice_set, refl, ap, sym, ◌∙◌, subst}
use Rattle.std.proofs.lemmas.List.{get_or-set_same, get_or-set_other}
use Rattle.kz_model.specs.declared.bundle.Bundle.{Bundle}
use Rattle.kz_model.specs.declared.record.Plan.{Plan}
use Rattle.kz_model.specs.declared.record.ZoneParams.{ZoneParams}
use Rattle.kz_model.specs.declared.step.Step.{Step}
use Rattle.kz_model.specs.declared.step.Step.TheVariants.{Flush}
use Rattle.kz_model.specs.declared.supply.SupplyEntry.{SupplyEntry}
use Rattle.kz_model.specs.Run.Journal.{zone_of_name, params_of, answers_at}
use Rattle.kz_model.specs.Zone.Late.{NeedNone, part_after, IsDelayed}
use Rattle.kz_laws.specs.Play.{ZonePlay}
use Rattle.kz_model.specs.Zone.Rules.{name_of}
use Rattle.kz_model.specs.Zone.State.{CpuPart, ZoneState, cpu_part}
use Rattle.kz_laws.proofs.Undelayed.{mine_or_other}
use Rattle.kz_book.specs.Book.{Book, History}
use Rattle.kz_book.specs.Visits.{has_name, own_now}
use Rattle.kz_cpu.specs.Cpu.{Cpu, Cache, Has, IsElsewhere, cache_at, recent_at}
use Rattle.kz_cpu.specs.Caught.{IsCaughtUp, IsCaughtUpWith}
use Rattle.kz_machine.specs.Lookups.{no_cpu, cpu_at}
use Rattle.kz_machine.specs.Stands.{IsCpuAt, IsZoneAt}

-- ---- one CPU

pub elsewhere_refl : (c : Cpu) (zone : ℕ) (step : Step) → IsElsewhere c c zone step
elsewhere_refl c zone step =
    record {
      cpu = refl;
      names = refl;
      caches = refl;
      params = refl;
      most_steps = refl;
      magazine = refl;
      others = λ other ne. refl;
      has = λ other own ne has. has;
      tags = λ name other same tagged. tagged;
    }

pub elsewhere_trans : (a c d : Cpu) (zone : ℕ) → IsElsewhere a c zone Flush → IsElsewhere c d zone Flush → IsElsewhere a d zone Flush
elsewhere_trans a c d zone one two =
    record {
      cpu = two.cpu ∙ one.cpu;
      names = two.names ∙ one.names;
      caches = two.caches ∙ one.caches;
      params = two.params ∙ one.params;
      most_steps = two.most_steps ∙ one.most_steps;
      magazine = two.magazine ∙ one.magazine;
      others = λ other ne. two.others other ne ∙ one.others other ne;
      has = λ other own ne has. two.has other own ne (one.has other own ne has);
      tags = λ name other same tagged. two.tags name other same (one.tags name other same tagged);
    }

-- a CPU has what it needs, also after a step on the zone of the step's name
pub cpu_keeps : (b : Bundle) (plan : Plan) (cpu zone : ℕ) (step : Step) (c d : Cpu) → IsCpuAt b plan cpu c → IsElsewhere c d zone step → (has_name step ≡ true → zone_of_name b plan (name_of step) ≡ zone) → IsCpuAt b plan cpu d
cpu_keeps b plan cpu zone step c d is elsewhere named =
    record {
      number = elsewhere.cpu ∙ is.number;
      caches = elsewhere.caches ∙ is.caches;
      names = elsewhere.names ∙ is.names;
      params = λ other lt. mine_or_other (λ k. (cache_at d k).params ≡ (cache_at c k).params) zone other elsewhere.params (λ ne. ap (λ (k : Cache). k.params) (elsewhere.others other ne)) ∙ is.params other lt;
      most_steps = λ other lt. mine_or_other (λ k. (cache_at d k).most_steps ≡ (cache_at c k).most_steps) zone other elsewhere.most_steps (λ ne. ap (λ (k : Cache). k.most_steps) (elsewhere.others other ne)) ∙ is.most_steps other lt;
      tags = λ name lt. elsewhere.tags name (zone_of_name b plan name) (λ has same. ap (zone_of_name b plan) same ∙ named has) (is.tags name lt);
    }

-- it has caught up as before, where it has what it had
pub caught_same : (c d : Cpu) (zone : ℕ) (own : CpuPart) → cache_at d zone ≡ cache_at c zone → ((own : CpuPart) → Has c zone own → Has d zone own) → IsCaughtUp c zone own → IsCaughtUp d zone own
caught_same c d zone own cache has is =
    record {
      none = subst (λ (k : Cache). NeedNone k.params own k.recent) (sym cache) is.none;
      has = subst (λ (k : Cache). Has d zone (part_after k.params own k.recent)) (sym cache) (has (own_now (cache_at c zone).params own (recent_at c zone)) is.has);
    }

-- it has caught up with a history that ends with the same for it
pub caught_alike : (c : Cpu) (zone : ℕ) (j k : History) → cpu_part k.made.end c.cpu ≡ cpu_part j.made.end c.cpu → IsCaughtUpWith c zone j → IsCaughtUpWith c zone k
caught_alike c zone j k same is = subst (λ (own : CpuPart). IsCaughtUp c zone own) (sym same) is

-- ---- all CPUs

-- one of them is another
pub set_elsewhere : (cpus : List Cpu) (cpu zone : ℕ) (step : Step) (d : Cpu) → cpu < length cpus → IsElsewhere (cpu_at cpus cpu) d zone step → (k : ℕ) → IsElsewhere (cpu_at cpus k) (cpu_at (slice_set cpus cpu d) k) zone step
set_elsewhere cpus cpu zone step d lt is k =
    mine_or_other (λ k. IsElsewhere (cpu_at cpus k) (cpu_at (slice_set cpus cpu d) k) zone step) cpu k
    (subst (λ (d : Cpu). IsElsewhere (cpu_at cpus cpu) d zone step) (sym (get_or-set_same cpus cpu d no_cpu lt)) is)
    (λ ne. subst (λ (d : Cpu). IsElsewhere (cpu_at cpus k) d zone step) (sym (get_or-set_other cpus cpu k d no_cpu ne)) (elsewhere_refl (cpu_at cpus k) zone step))

-- with equal late steps
pub delayed_same : (p : ZoneParams) (u d : ZoneState) (late now : ℕ → List Step) → ((cpu : ℕ) → cpu < length d.own → now cpu ≡ late cpu) → IsDelayed p u d late → IsDelayed p u d now
delayed_same p u d late now same is =
    record {
      shared = is.shared;
      cpus = is.cpus;
      own = λ cpu lt. is.own cpu lt ∙ ap (λ (steps : List Step). part_after p (cpu_part d cpu) steps) (sym (same cpu lt));
      none = λ cpu lt. subst (λ (steps : List Step). NeedNone p (cpu_part d cpu) steps) (sym (same cpu lt)) (is.none cpu lt);
    }

-- another zone is as it was
pub zone_elsewhere : (b : Bundle) (plan : Plan) (cpus now : List Cpu) (log later : List SupplyEntry) (zone other : ℕ) (step : Step) (book : Book) (z : ZonePlay) → other ≢ zone → answers_at other later ≡ answers_at other log →
    ((cpu : ℕ) → IsElsewhere (cpu_at cpus cpu) (cpu_at now cpu) zone step) → IsZoneAt b plan cpus log other book z → IsZoneAt b plan now later other book z
zone_elsewhere b plan cpus now log later zone other step book z ne answers elsewhere is =
    let recent : (cpu : ℕ) → recent_at (cpu_at now cpu) other ≡ recent_at (cpu_at cpus cpu) other = λ cpu. ap (λ (k : Cache). k.recent) ((elsewhere cpu).others other ne) in
    let j = is.history in
    record {
      room = is.room;
      most_chunks = is.most_chunks;
      most_gifts = is.most_gifts;
      visits = is.visits;
      history = j;
      keeps = is.keeps;
      answers = is.answers ∙ sym answers;
      delayed = delayed_same (params_of b plan other) z.state j.made.end (λ cpu. recent_at (cpu_at cpus cpu) other) (λ cpu. recent_at (cpu_at now cpu) other) (λ cpu lt. recent cpu) is.delayed;
      caught = λ cpu lt.
          let e = elsewhere cpu in
          subst (λ n. IsCaughtUp (cpu_at now cpu) other (cpu_part j.made.end n)) (sym e.cpu)
          (caught_same (cpu_at cpus cpu) (cpu_at now cpu) other (cpu_part j.made.end (cpu_at cpus cpu).cpu) (e.others other ne) (λ own has. e.has other own ne has) (is.caught cpu lt));
      late = λ cpu lt. is.late cpu lt ∙ ap (λ (steps : List Step). length steps) (sym (recent cpu));
    }
