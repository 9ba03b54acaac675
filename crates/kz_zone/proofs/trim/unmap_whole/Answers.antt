use Rattle.std.proofs.Common.{◌≡◌, ℕ, ◌+◌, ◌++◌, ◌∷◌, [], List, replicate, ap, sym, subst, ◌∙◌, arith}
use Rattle.std.proofs.lemmas.List.{replicate_more}
use Rattle.kz_model.specs.declared.supply.Ask.TheVariants.{Back}
use Rattle.kz_model.specs.declared.supply.Answer.TheVariants.{Taken}
use Rattle.kz_model.specs.declared.record.ZoneParams.{ZoneParams}
use Rattle.kz_supply.specs.Exchange.{Exchange}
use Rattle.kz_supply.specs.Pages.{SupplyView, IsUsed}
use Rattle.kz_supply.proofs.Views.{used_on}
use Rattle.kz_zone.proofs.Unmapped.{whole_at, one_less, none_whole, no_more}
use Rattle.kz_zone.proofs.trim.unmap_whole.Goals as goal

pub unmap-requires : goal.unmap-requires
unmap-requires g c = (whole_at c.loop-ordinal.chunks.params.count c.loop-ordinal.chunks.chunks c.in-Some.ordinal c.in-Some.ensures).1

pub back-requires-clause-room : goal.back-requires-clause-room
back-requires-clause-room g c =
    let less = one_less c.loop-ordinal.chunks c.unmap.new.self c.in-Some.ordinal c.in-Some.ensures c.unmap.ensures.left in
    omega (arith, less.count, c.loop-ordinal.invariant.room)

pub loop-ordinal-smaller : goal.loop-ordinal-smaller
loop-ordinal-smaller g c =
    let less = one_less c.loop-ordinal.chunks c.unmap.new.self c.in-Some.ordinal c.in-Some.ensures c.unmap.ensures.left in
    omega (arith, less.count)

-- one more frame went back
one_back : {Base : Type 0} (first mid last : SupplyView Base) (n pages : ℕ) → mid.params.pages ≡ pages → IsUsed first mid (replicate n (Back pages, Taken)) 0 0 → IsUsed mid last ((Back mid.params.pages, Taken) ∷ []) 0 0 → IsUsed first last (replicate (n + 1) (Back pages, Taken)) 0 0
one_back first mid last n pages same before now =
    let back : ℕ → Exchange = λ m. (Back m, Taken) in
    subst (λ (l : List Exchange). IsUsed first last l 0 0) (ap (λ m. replicate n (back pages) ++ back m ∷ []) same ∙ replicate_more n (back pages)) (used_on first mid last _ _ 0 0 0 before now)

pub loop-ordinal-preserved : goal.loop-ordinal-preserved
loop-ordinal-preserved g c =
    let l = c.loop-ordinal in
    let h = l.invariant in
    let pages = g.P.Pages in
    let left = c.unmap.ensures.left in
    let less = one_less l.chunks c.unmap.new.self c.in-Some.ordinal c.in-Some.ensures left in
    record {
      count = omega (arith, less.count, h.count);
      few = h.few;
      same = less.same ∙ h.same;
      same_zone = c.back.ensures.used.params ∙ h.same_zone ∙ less.zone;
      zone = less.params ∙ h.zone;
      room = omega (arith, less.count, h.room, c.back.ensures.room);
      used = one_back (pages.seen c.args.pages.now) (pages.seen l.pages) (pages.seen c.back.new.self) l.unmapped c.args.chunks.now.params.pages (ap (λ (p : ZoneParams). p.pages) (h.same_zone ∙ h.zone)) h.used c.back.ensures.used;
    }

pub returns-clause-count : goal.returns-clause-count
returns-clause-count g c = omega (arith, no_more c.loop-ordinal.chunks (sym c.in_default.ensures), c.loop-ordinal.invariant.count)

pub returns-clause-chunks : goal.returns-clause-chunks
returns-clause-chunks g c = sym (none_whole c.loop-ordinal.chunks (sym c.in_default.ensures)) ∙ c.loop-ordinal.invariant.same

pub returns-clause-used : goal.returns-clause-used
returns-clause-used g c =
    let pages = g.P.Pages in
    let back : Exchange = (Back c.args.chunks.now.params.pages, Taken) in
    subst (λ n. IsUsed (pages.seen c.args.pages.now) (pages.seen c.loop-ordinal.pages) (replicate n back) 0 0) (returns-clause-count g c) c.loop-ordinal.invariant.used
