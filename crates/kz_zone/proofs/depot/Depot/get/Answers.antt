use Rattle.std.proofs.Common.{◌≡◌, ◌-◌, length, take, drop, refl, ap, sym, ◌∙◌, arith}
use Rattle.std.proofs.lemmas.List.{take_rest}
use Rattle.kz_model.specs.Zone.Rules.{last_list, before_last_list}
use Rattle.kz_zone.specs.Depot.{lists_of}
use Rattle.kz_zone.proofs.Lists.{ends_in, last_list-push, before_last_list-push}
use Rattle.kz_zone.proofs.depot.Depot.get.Goals as goal

pub returns-clause-last : goal.returns-clause-last
returns-clause-last c = λ _.
    let s = c.self.inside in
    let at = c.len.result - c.in-Some.length in
    let begins : at ≡ length s.blocks.items - c.in-Some.length = omega (arith, s.blocks.ok.0) in
    let ends = ends_in c.args.self.now s.magazine s.room at c.in-Some.length s.lengths.items c.pop.new.self.items s.blocks.items c.self.view_is c.in-Some.ensures.items c.self.invariant.whole begins in
    let last = ap last_list ends ∙ last_list-push (lists_of c.pop.new.self.items (take at s.blocks.items)) (drop at s.blocks.items) in
    c.take_all.ensures ∙ ap (λ bs. record { magazine = c.args.into.now.magazine; blocks = bs }) (take_rest c.deref.result.now at ∙ ap (drop at) c.deref.ensures.value ∙ sym last)

pub returns-clause-left : goal.returns-clause-left
returns-clause-left c = λ _.
    let s = c.self.inside in
    let at = c.len.result - c.in-Some.length in
    let begins : at ≡ length s.blocks.items - c.in-Some.length = omega (arith, s.blocks.ok.0) in
    let ends = ends_in c.args.self.now s.magazine s.room at c.in-Some.length s.lengths.items c.pop.new.self.items s.blocks.items c.self.view_is c.in-Some.ensures.items c.self.invariant.whole begins in
    let before = ap before_last_list ends ∙ before_last_list-push (lists_of c.pop.new.self.items (take at s.blocks.items)) (drop at s.blocks.items) in
    rw (c.truncate.ensures.items, ← before, ← c.self.view_is) refl
