use Rattle.std.proofs.Common.{◌≤◌, replicate, ap, sym, ◌∙◌, subst}
use Rattle.std.specs.List.{count_by}
use Rattle.kz_model.specs.declared.record.ZoneParams.{ZoneParams}
use Rattle.kz_model.specs.declared.supply.Ask.TheVariants.{Back}
use Rattle.kz_model.specs.declared.supply.Answer.TheVariants.{Taken}
use Rattle.kz_model.specs.Zone.Rules.{count_whole}
use Rattle.kz_supply.specs.Exchange.{Exchange}
use Rattle.kz_supply.specs.Pages.{IsUsed}
use Rattle.kz_zone.specs.Chunks.{Chunks}
use Rattle.kz_zone.specs.Growth.{trim_exchanges}
use Rattle.kz_zone.specs.Zone.{Zone, shared_of}
use Rattle.kz_zone.specs.Out.{AreOut}
use Rattle.kz_zone.specs.Depot.{row_of}
use Rattle.kz_zone.proofs.PutBack.{out_of_depot}
use Rattle.kz_zone.proofs.Settled.{settled_trimmed}
use Rattle.kz_zone.proofs.Unmapped.{few_backs}
use Rattle.kz_zone.proofs.zone.Zone.trim.Goals as goal

pub empty_depot-requires : goal.empty_depot-requires
empty_depot-requires g c =
    let z = c.args.self.now in
    subst (λ (z : Zone). AreOut z.params z.chunks (row_of z.depot)) (sym c.self.view_is) (out_of_depot z.params (shared_of z) c.requires.away)

pub returns-clause-same : goal.returns-clause-same
returns-clause-same g c =
    let i = c.self.inside in
    settled_trimmed c.args.self.now i.chunks c.empty_depot.new.chunks c.unmap_whole-unmapped.new.chunks (row_of i.depot.lists) i.transit i.depot.lists c.empty_depot.new.depot.lists i.words c.self.view_is c.empty_depot.ensures.chunks c.unmap_whole-unmapped.ensures.chunks

pub unmap_whole-unmapped-requires : goal.unmap_whole-unmapped-requires
unmap_whole-unmapped-requires g c =
    let i = c.self.inside in
    let made = c.empty_depot.ensures.chunks in
    let here = c.requires.serves in
    let backs = (g.P.Pages.seen c.args.pages.now).backs in
    record {
      serves = record {
        params = here.params ∙ sym (ap (λ (z : Zone). z.params) c.self.view_is) ∙ sym (ap (λ (c : Chunks). c.params) made);
        answers = tt;
        place = tt;
        room = few_backs i.chunks c.empty_depot.new.chunks (row_of i.depot.lists) backs made (subst (λ (z : Zone). count_by (λ chunk. chunk.mapped) z.chunks ≤ backs) (sym c.self.view_is) here.room);
      };
    }

pub returns-clause-used : goal.returns-clause-used
returns-clause-used g c =
    let old = g.P.Pages.seen c.args.pages.now in
    let new = g.P.Pages.seen c.unmap_whole-unmapped.new.pages in
    let back : ZoneParams → Exchange = λ p. (Back p.pages, Taken) in
    let idle = subst (λ (d : Chunks). IsUsed old new (replicate (count_whole d.params d.chunks) (back d.params)) 0 0) c.empty_depot.ensures.chunks c.unmap_whole-unmapped.ensures.used in
    subst (λ (z : Zone). IsUsed old new (trim_exchanges z.params (shared_of z)) 0 0) c.self.view_is idle
