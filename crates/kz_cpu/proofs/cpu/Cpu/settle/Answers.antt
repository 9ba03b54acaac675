use Rattle.std.proofs.Common.{◌≡◌, ◌<◌, List, length, slice_set, refl, ap, sym, ◌∙◌, subst}
use Rattle.std.proofs.lemmas.List.{get_or-set_same}
use Rattle.kz_model.specs.declared.record.ZoneParams.{ZoneParams}
use Rattle.kz_model.specs.declared.step.Step.{Step}
use Rattle.kz_model.specs.Zone.Late.{NeedNone}
use Rattle.kz_model.specs.Zone.State.{cpu_part}
use Rattle.kz_book.specs.Book.{History, KeepsHistory, params_of}
use Rattle.kz_book.specs.Visits.{Settles}
use Rattle.kz_cpu.specs.Caught.{IsCaughtUpWith}
use Rattle.kz_cpu.specs.Cpu.{Cpu, Cache, no_cache, cache_at, recent_at}
use Rattle.kz_cpu.proofs.Steps.{cache_of, settled_up}
use Rattle.kz_cpu.proofs.cpu.Cpu.settle.Goals as goal

pub returns-clause-keeps : goal.returns-clause-keeps
returns-clause-keeps c =
    let zone = c.args.zone in
    let book = c.args.book.now in
    let p = params_of book in
    let old : Cpu = record { cpu = c.self.inside.cpu; caches = c.self.inside.caches.items; bindings = c.self.inside.bindings.items } in
    let k : Cache = record { params = c.late.inside.params; most_steps = c.late.inside.most_steps; most_chunks = c.late.inside.most_chunks; pair = c.late.inside.pair; recent = c.late.inside.recent; bases = c.late.inside.bases.items } in
    let after : Cache = record k { recent = c.clear.new.self } in
    let new : Cpu = record old { caches = slice_set old.caches zone after } in
    let there = subst (λ (o : Cpu). zone < length o.caches) (sym c.self.view_is) c.requires.zone in
    let is : k ≡ cache_at old zone = c.late.view_is ∙ cache_of old.caches zone c.index_mut-late.result.now there c.index_mut-late.ensures.value in
    let now : cache_at new zone ≡ after = get_or-set_same old.caches zone after no_cache there in
    let same = subst (λ (o : Cpu). p ≡ (cache_at o zone).params) (sym c.self.view_is) c.requires.same_params in
    let lt = subst (λ (o : Cpu). o.cpu < p.cpus) (sym c.self.view_is) c.requires.cpu in
    let made : List Step → Type 0 = λ recent. (j : History) → KeepsHistory book j → NeedNone p (cpu_part j.made.end old.cpu) recent → (next : History) × KeepsHistory c.settle.new.self next × Settles p old.cpu j next recent in
    let settled : made (recent_at old zone) = subst made (ap (λ (n : Cache). n.recent) is) c.settle.ensures.keeps in
    let F : Cpu → Type 0 = λ o. (j : History) → KeepsHistory book j → IsCaughtUpWith o zone j → (next : History) × KeepsHistory c.settle.new.self next × Settles p o.cpu j next (recent_at o zone) × IsCaughtUpWith new zone next in
    let all : F old = λ j kept caught.
    let s = settled j kept (subst (λ (q : ZoneParams). NeedNone q (cpu_part j.made.end old.cpu) (recent_at old zone)) (sym same) caught.none) in
    (s.0, s.1, s.2, settled_up old new zone book j s.0 same lt kept caught s.2 refl (ap (λ (n : Cache). n.recent) now ∙ c.clear.ensures) (λ own has. record { stack = ap (λ (n : Cache). n.pair.blocks) now ∙ ap (λ (n : Cache). n.pair.blocks) is ∙ has.stack; names = has.names })) in
    subst F c.self.view_is all
