use Rattle.std.proofs.Common.{◌≡◌, false, nat_lt, List, [], ◌∷◌, length, refl, ap, sym, ◌∙◌, subst, arith}
use Rattle.kz_model.specs.declared.step.Block.{Block}
use Rattle.kz_model.specs.declared.record.ZoneParams.{ZoneParams}
use Rattle.kz_zone.specs.Depot.{Depot}
use Rattle.kz_zone.specs.Chunks.{Chunks}
use Rattle.kz_zone.specs.Growth.{CanServe, chunks_of}
use Rattle.kz_zone.specs.Zone.{Zone, want_of}
use Rattle.kz_zone.proofs.Asked.{wants_same, asked_growth}
use Rattle.kz_zone.specs.Picks.{picked}
use Rattle.kz_zone.proofs.Refilling.{seen, refills, stacked, size_picked, some_filled}
use Rattle.kz_zone.proofs.zone.Zone.refill.Goals as goal

-- where the depot gives no list it has none
no_lists : (lists : List (List Block)) → false ≡ nat_lt 0 (length lists) → lists ≡ []
no_lists [] e = refl
no_lists (blocks ∷ lists) e = absurd (grind arith)

pub returns-clause-shows : goal.returns-clause-shows
returns-clause-shows g c = λ s h.
    let i = c.self.inside in
    let none = no_lists i.depot.lists (sym c.if-get.false ∙ c.get.ensures.some) in
    let same = ap (λ (d : Depot). d.lists) (c.get.ensures.unchanged c.if-get.false).0 in
    let e = c.in_ok-ready.ensures in
    let magazine = ap (λ (p : ZoneParams). p.magazine) c.params-magazine.ensures in
    (refills c.args.self.now i.chunks c.ready.new.chunks c.pick_onto.new.chunks c.params-magazine.result.magazine i.transit i.depot.lists c.get.new.self.lists i.words c.pick_onto.new.words s
    c.self.view_is none same e.stays.params e.ready magazine c.pick_onto.ensures.chunks c.pick_onto.ensures.words h).shows

pub returns-clause-stack : goal.returns-clause-stack
returns-clause-stack g c = λ s h.
    let i = c.self.inside in
    let now = c.ready.new.chunks in
    let n = c.params-magazine.result.magazine in
    let none = no_lists i.depot.lists (sym c.if-get.false ∙ c.get.ensures.some) in
    let unchanged = c.get.ensures.unchanged c.if-get.false in
    let same = ap (λ (d : Depot). d.lists) unchanged.0 in
    let e = c.in_ok-ready.ensures in
    let magazine = ap (λ (p : ZoneParams). p.magazine) c.params-magazine.ensures in
    let made = refills c.args.self.now i.chunks now c.pick_onto.new.chunks n i.transit i.depot.lists c.get.new.self.lists i.words c.pick_onto.new.words s
    c.self.view_is none same e.stays.params e.ready magazine c.pick_onto.ensures.chunks c.pick_onto.ensures.words h in
    c.pick_onto.ensures.blocks ∙ stacked c.get.new.into c.args.into.now (picked now.params.count n now.chunks i.words).blocks _ unchanged.1 c.requires.empty made.stack

pub returns-clause-some : goal.returns-clause-some
returns-clause-some g c =
    let i = c.self.inside in
    let e = c.in_ok-ready.ensures in
    let magazine = ap (λ (p : ZoneParams). p.magazine) c.params-magazine.ensures in
    some_filled i.chunks c.ready.new.chunks c.params-magazine.result.magazine i.words c.get.new.into c.pick_onto.new.into c.keeps-2.ensures.fit e.stays.params e.ready c.keeps-2.ensures.kept magazine c.pick_onto.ensures.blocks

pub ready-requires : goal.ready-requires
ready-requires g c =
    let i = c.self.inside in
    let pages = g.P.Pages in
    let none = no_lists i.depot.lists (sym c.if-get.false ∙ c.get.ensures.some) in
    let serves : CanServe (pages.seen c.args.pages.now) i.chunks (want_of (seen i.chunks i.depot.lists i.transit i.words)) 0 = subst (λ (z : Zone). CanServe (pages.seen c.args.pages.now) (chunks_of z) (want_of z) 0) (sym c.self.view_is) c.requires.serves in
    record { serves = subst (λ want. CanServe (pages.seen c.args.pages.now) i.chunks want 0) (wants_same i.chunks i.depot.lists i.transit i.words none) serves }

pub returns-clause-asked : goal.returns-clause-asked
returns-clause-asked g c =
    let i = c.self.inside in
    let pages = g.P.Pages in
    let now = c.ready.new.chunks in
    let taken = c.pick_onto.ensures.chunks in
    let none = no_lists i.depot.lists (sym c.if-get.false ∙ c.get.ensures.some) in
    asked_growth c.args.self.now i.chunks now c.pick_onto.new.chunks i.transit i.depot.lists c.get.new.self.lists i.words c.pick_onto.new.words _ (pages.seen c.args.pages.now) (pages.seen c.ready.new.pages) c.self.view_is none
    (ap (λ (d : Chunks). d.bases) taken) (size_picked now c.pick_onto.new.chunks c.params-magazine.result.magazine i.words taken) c.in_ok-ready.ensures.asked
