-- A CPU and a zone's history after a step of the CPU.
use Rattle.std.proofs.Common.{◌≡◌, ◌<◌, ℕ, true, false, if◌then◌else◌, List, [], length, slice_index_or, Option, None, Some, ap, sym, ◌∙◌, subst, arith}
use Rattle.std.proofs.lemmas.List.{get_or-set_same, get_or_default}
use Rattle.kz_model.specs.declared.record.ZoneParams.{ZoneParams}
use Rattle.kz_model.specs.declared.step.Bound.{Bound}
use Rattle.kz_model.specs.declared.step.Reply.{Reply}
use Rattle.kz_model.specs.declared.step.Step.{Step}
use Rattle.kz_model.specs.Zone.Late.{NeedNone}
use Rattle.kz_model.specs.Zone.Local.{local_answer}
use Rattle.kz_model.specs.Zone.Rules.{name_of, needs_visit}
use Rattle.kz_model.specs.Zone.State.{CpuPart, ZoneState, no_cpu_part, cpu_part}
use Rattle.kz_supply.specs.Exchange.{Exchange}
use Rattle.kz_book.specs.Book.{Book, History, KeepsHistory, params_of}
use Rattle.kz_book.specs.Visits.{Extends, IsAtVisit, Settles, bound_there, effect_in, has_name, own_in, own_now}
use Rattle.kz_cpu.specs.Caught.{IsCaughtUp, IsCaughtUpWith}
use Rattle.kz_cpu.specs.Cpu.{Cpu, Cache, Has, IsOnZone, no_cache, cache_at, recent_at, binding_at}
use Rattle.kz_cpu.specs.Local.{Brings, IsAnswer, bound_by}
use Rattle.kz_cpu.proofs.Bindings.{Changes, brings, has_now, cache_now}
use Rattle.kz_cpu.proofs.OnlyItsName.{only_local, only_effect}
use Rattle.kz_cpu.proofs.OwnAnswers.{needs_by}

-- What a call took out of the CPU for a step on a zone: the cache, and what the step's name is bound to.
pub record Took (old : Cpu) (zone : ℕ) (step : Step) (k : Cache) (bound : Option Bound) : Type 0 where
  pub on : IsOnZone old zone step
  pub is : k ≡ cache_at old zone
  pub told : bound ≡ (if has_name step then bound_by (binding_at old (name_of step)) else None)

pub cache_of : (caches : List Cache) (zone : ℕ) (k : Cache) → zone < length caches → k ≡ slice_index_or caches zone k → k ≡ slice_index_or caches zone no_cache
cache_of caches zone k lt is = is ∙ get_or_default caches zone k no_cache lt

took_brings : (old : Cpu) (zone : ℕ) (step : Step) (k : Cache) (bound : Option Bound) (own : CpuPart) → Took old zone step k bound → Has old zone own → Brings own step k.pair.blocks bound
took_brings old zone step k bound own t h = brings old zone step own k bound t.on t.is t.told h

-- ---- a step without a visit

-- it needs none; the reply, and what the CPU has then
pub record IsLocal (old new : Cpu) (zone : ℕ) (step : Step) (reply : Reply) (own : CpuPart) : Type 0 where
  pub needs : false ≡ needs_visit (cache_at old zone).params own step
  pub is_reply : reply ≡ (local_answer (cache_at old zone).params own step).reply
  pub has : Has new zone (local_answer (cache_at old zone).params own step).own

pub is_local : (old new : Cpu) (zone : ℕ) (step : Step) (k after : Cache) (bound now : Option Bound) (reply : Reply) (own : CpuPart) → Took old zone step k bound → ((own : CpuPart) → Brings own step k.pair.blocks bound → IsAnswer k.params own step (Some reply) after.pair.blocks now) → Changes old new zone step now after →
    Has old zone own → IsLocal old new zone step reply own
is_local old new zone step k after bound now reply own t answers ch h =
    let p = (cache_at old zone).params in
    let a : IsAnswer p own step (Some reply) after.pair.blocks now = subst (λ (k : Cache). IsAnswer k.params own step (Some reply) after.pair.blocks now) t.is (answers own (took_brings old zone step k bound own t h)) in
    record {
      needs = a.needs;
      is_reply = a.reply;
      has = has_now old new zone step now own (local_answer p own step).own t.on ch.bindings (ap (λ (c : Cache). c.pair.blocks) (cache_now old new zone step now after t.on.zone_there ch) ∙ a.stack) a.bound (only_local p own step) h;
    }

-- ---- a visit

-- two parts of which the CPU has the same need a visit alike
needs_alike : (p : ZoneParams) (old : Cpu) (zone : ℕ) (step : Step) (k : Cache) (bound : Option Bound) (own other : CpuPart) → Took old zone step k bound → Has old zone own → Has old zone other → needs_visit p own step ≡ needs_visit p other step
needs_alike p old zone step k bound own other t h g =
    needs_by p own step k.pair.blocks bound (took_brings old zone step k bound own t h) ∙ sym (needs_by p other step k.pair.blocks bound (took_brings old zone step k bound other t g))

-- a CPU that is caught up is at its visit
pub at_visit : (old : Cpu) (zone : ℕ) (step : Step) (k : Cache) (bound : Option Bound) (p : ZoneParams) (part known : CpuPart) → Took old zone step k bound → p ≡ (cache_at old zone).params → IsCaughtUp old zone known → needs_visit p (own_now p known (recent_at old zone)) step ≡ true →
    IsCaughtUp old zone part → IsAtVisit p part (recent_at old zone) k.pair.blocks bound step
at_visit old zone step k bound p part known t same caught needs h =
    let recent = recent_at old zone in
    let F : ZoneParams → Type 0 = λ q. NeedNone q part recent in
    let G : CpuPart → ZoneParams → Type 0 = λ own q. Has old zone (own_now q own recent) in
    let mine : Has old zone (own_now p part recent) = subst (λ q. G part q) (sym same) h.has in
    let theirs : Has old zone (own_now p known recent) = subst (λ q. G known q) (sym same) caught.has in
    let b = took_brings old zone step k bound (own_now p part recent) t mine in
    record {
      none = subst F (sym same) h.none;
      is_stack = b.is_stack;
      is_bound = b.is_bound;
      needs = needs_alike p old zone step k bound (own_now p part recent) (own_now p known recent) t mine theirs ∙ needs;
    }

-- what is left of the CPU by a visit
pub record IsVisited (old new : Cpu) (zone : ℕ) (step : Step) (after : Cache) (now : Option Bound) : Type 0 where
  pub changes : Changes old new zone step now after
  pub recent : after.recent ≡ []

-- a CPU without recent steps that has what the history has of it is caught up
caught_with : (new : Cpu) (zone : ℕ) (next : History) → recent_at new zone ≡ [] → Has new zone (cpu_part next.made.end new.cpu) → IsCaughtUpWith new zone next
caught_with new zone next none has = record {
  none = subst (λ (steps : List Step). NeedNone (cache_at new zone).params (cpu_part next.made.end new.cpu) steps) (sym none) tt;
  has = subst (λ (steps : List Step). Has new zone (own_now (cache_at new zone).params (cpu_part next.made.end new.cpu) steps)) (sym none) has;
}

-- it is caught up with the history that has the visit
pub caught_up : (old new : Cpu) (zone : ℕ) (step : Step) (k after : Cache) (bound now : Option Bound) (book : Book) (j next : History) (reply : Reply) (exchanges : List Exchange) → Took old zone step k bound → params_of book ≡ (cache_at old zone).params → old.cpu < (params_of book).cpus → KeepsHistory book j → IsCaughtUpWith old zone j →
    Extends (params_of book) old.cpu j next (recent_at old zone) step reply exchanges → IsVisited old new zone step after now → after.pair.blocks ≡ (cpu_part next.made.end old.cpu).stack → now ≡ bound_there (cpu_part next.made.end old.cpu) step → IsCaughtUpWith new zone next
caught_up old new zone step k after bound now book j next reply exchanges t same lt keeps h x v stack is =
    let p = params_of book in
    let recent = recent_at old zone in
    let own = own_in p j old.cpu recent in
    let e = effect_in p j old.cpu recent step exchanges in
    let within : old.cpu < length j.made.end.own = omega (arith, keeps.whole.cpus) in
    let mine : cpu_part next.made.end old.cpu ≡ e.own = ap (λ (st : ZoneState). cpu_part st old.cpu) x.end ∙ get_or-set_same j.made.end.own old.cpu e.own no_cpu_part within in
    let has : Has old zone own = subst (λ (q : ZoneParams). Has old zone (own_in q j old.cpu recent)) (sym same) h.has in
    let here = cache_now old new zone step now after t.on.zone_there v.changes in
    let later : Has new zone e.own = has_now old new zone step now own e.own t.on v.changes.bindings (ap (λ (c : Cache). c.pair.blocks) here ∙ stack ∙ ap (λ (o : CpuPart). o.stack) mine) (is ∙ ap (λ (o : CpuPart). bound_there o step) mine)
    (only_effect p j.made.end.shared old.cpu own step _) has in
    caught_with new zone next (ap (λ (c : Cache). c.recent) here ∙ v.recent)
    (subst (λ (o : CpuPart). Has new zone o) (sym (ap (λ n. cpu_part next.made.end n) v.changes.cpu ∙ mine)) later)

-- ---- a settling

-- it is caught up with the history that has its late steps
pub settled_up : (old new : Cpu) (zone : ℕ) (book : Book) (j next : History) → params_of book ≡ (cache_at old zone).params → old.cpu < (params_of book).cpus → KeepsHistory book j → IsCaughtUpWith old zone j → Settles (params_of book) old.cpu j next (recent_at old zone) →
    new.cpu ≡ old.cpu → recent_at new zone ≡ [] → ((own : CpuPart) → Has old zone own → Has new zone own) → IsCaughtUpWith new zone next
settled_up old new zone book j next same lt keeps h s number none has =
    let p = params_of book in
    let own = own_in p j old.cpu (recent_at old zone) in
    let within : old.cpu < length j.made.end.own = omega (arith, keeps.whole.cpus) in
    let mine : cpu_part next.made.end old.cpu ≡ own = ap (λ (st : ZoneState). cpu_part st old.cpu) s.end ∙ get_or-set_same j.made.end.own old.cpu own no_cpu_part within in
    let before : Has old zone own = subst (λ (q : ZoneParams). Has old zone (own_in q j old.cpu (recent_at old zone))) (sym same) h.has in
    caught_with new zone next none (subst (λ (o : CpuPart). Has new zone o) (sym (ap (λ n. cpu_part next.made.end n) number ∙ mine)) (has own before))
