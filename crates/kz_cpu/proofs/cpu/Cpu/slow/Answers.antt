use Rattle.std.proofs.Common.{◌≡◌, ◌<◌, true, rules, List, if◌then◌else◌, slice_index_or, slice_set, None, refl, ap, sym, ◌∙◌, subst}
use Rattle.std.specs.Vec.{with_items}
use Rattle.kz_model.specs.declared.step.Step.{Step}
use Rattle.kz_model.specs.Zone.Rules.{name_of, needs_visit}
use Rattle.kz_model.specs.Zone.State.{cpu_part}
use Rattle.kz_book.specs.Book.{History, KeepsHistory, params_of}
use Rattle.kz_book.specs.Visits.{IsAtVisit, Extends, bound_there, has_name, own_in}
use Rattle.kz_cpu.specs.Caught.{IsCaughtUpWith}
use Rattle.kz_cpu.specs.Cpu.{Cpu, Cache, IsElsewhere, IsOnZone, cache_at, recent_at}
use Rattle.kz_cpu.specs.Local.{bound_by}
use Rattle.kz_cpu.proofs.Bindings.{Changes, bindings_now, elsewhere}
use Rattle.kz_cpu.proofs.Steps.{Took, IsVisited, at_visit, cache_of, caught_up}
use Rattle.kz_cpu.proofs.cpu.Cpu.slow.Goals as goal

pub returns : goal.returns
returns g c =
    let zone = c.args.zone in
    let step = c.args.step.now in
    let book = c.args.book.now in
    let p = params_of book in
    let old : Cpu = record { cpu = c.self.inside.cpu; caches = c.self.inside.caches.items; bindings = c.self.inside.bindings.items } in
    let k : Cache = record { params = c.cache.inside.params; most_steps = c.cache.inside.most_steps; most_chunks = c.cache.inside.most_chunks; pair = c.cache.inside.pair; recent = c.cache.inside.recent; bases = c.cache.inside.bases.items } in
    let after : Cache = record k { pair = c.visit-reply.new.pair; recent = c.clear.new.self; bases = c.learn.new.bases.items } in
    let bound = c.bound_by_name-bound.result in
    let now = c.visit-reply.new.bound in
    let new : Cpu = record old { caches = slice_set old.caches zone after; bindings = (with_items c.self.inside.bindings c.bind.new.bindings).items } in
    let on : IsOnZone old zone step = subst (λ (o : Cpu). IsOnZone o zone step) (sym c.self.view_is) c.requires.here in
    let t : Took old zone step k bound = record {
      on = on;
      is = c.cache.view_is ∙ cache_of old.caches zone c.index_mut-cache.result.now on.zone_there c.index_mut-cache.ensures.value;
      told = c.bound_by_name-bound.ensures ∙ ap (λ bindings. if has_name step then bound_by (slice_index_or bindings (name_of step) None) else None) c.deref.ensures.value;
    } in
    let ch : Changes old new zone step now after = record {
      cpu = refl;
      caches = refl;
      bindings = bindings_now zone step now _ c.self.inside.bindings.items c.deref_mut.result.now c.bind.new.bindings c.self.inside.bindings.ok.0 c.deref_mut.ensures.value c.bind.ensures;
      params = ap (λ (n : Cache). n.params) t.is;
      most_steps = ap (λ (n : Cache). n.most_steps) t.is;
      magazine = c.visit-reply.ensures.magazine ∙ ap (λ (n : Cache). n.pair.magazine) t.is;
    } in
    let left : IsVisited old new zone step after now = record { changes = ch; recent = c.clear.ensures } in
    let keeps = c.visit-reply.ensures.keeps in
    let made : List Step → Type 0 = λ recent. (j : History) → KeepsHistory book j → IsAtVisit p (cpu_part j.made.end old.cpu) recent k.pair.blocks bound step →
    (next : History) × KeepsHistory c.visit-reply.new.self next × Extends p old.cpu j next recent step c.visit-reply.result keeps.0 × (after.pair.blocks ≡ (cpu_part next.made.end old.cpu).stack) × (now ≡ bound_there (cpu_part next.made.end old.cpu) step) in
    let visit : made (recent_at old zone) = subst made (ap (λ (n : Cache). n.recent) t.is) keeps.2 in
    let At : Cpu → Type 0 = λ o. (j : History) × KeepsHistory book j × IsCaughtUpWith o zone j × (needs_visit p (own_in p j o.cpu (recent_at o zone)) step ≡ true) in
    let at = subst At (sym c.self.view_is) c.requires.at in
    let same = subst (λ (o : Cpu). p ≡ (cache_at o zone).params) (sym c.self.view_is) c.requires.same_params in
    let lt = subst (λ (o : Cpu). o.cpu < p.cpus) (sym c.self.view_is) c.requires.cpu in
    let F : Cpu → Type 0 = λ o.
    ((j : History) → KeepsHistory book j → IsCaughtUpWith o zone j → (next : History) × KeepsHistory c.visit-reply.new.self next × Extends p o.cpu j next (recent_at o zone) step c.visit-reply.result keeps.0 × IsCaughtUpWith new zone next)
    × IsElsewhere o new zone step in
    let all : F old = (
      λ j kept caught.
          let v = visit j kept (at_visit old zone step k bound p (cpu_part j.made.end old.cpu) (cpu_part at.0.made.end old.cpu) t same at.2 at.3 caught) in
          (v.0, v.1, v.2, caught_up old new zone step k after bound now book j v.0 c.visit-reply.result keeps.0 t same lt kept caught v.2 left v.3 v.4),
      elsewhere old new zone step now after on ch,
    ) in
    let done = subst F c.self.view_is all in
    record {
      visits = search rules;
      same = c.visit-reply.ensures.same;
      keeps = (keeps.0, keeps.1, done.0);
      recent = search rules;
      elsewhere = done.1;
      learns = search rules;
    }
