use Rattle.std.proofs.Common.{◌≡◌, ◌++◌, suc, length, ap, sym, ◌∙◌, subst, arith}
use Rattle.kz_supply.specs.Ready.{Ready}
use Rattle.kz_locked.specs.Readying.{MayGiveBackAll, backs_of}
use Rattle.kz_locked.specs.Shares.{MayGiveBack}
use Rattle.kz_locked.specs.Supply.{own_log, own_share}
use Rattle.kz_locked.proofs.Backs.{gives_one, may_after, own_after, rest_after}
use Rattle.kz_locked.proofs.readying.hand_back.Goals as goal

pub give_back-pass-requires-clause-may : goal.give_back-pass-requires-clause-may
give_back-pass-requires-clause-may g c =
    let inv = c.loop-frames.invariant in
    let pass = c.loop-frames.pass in
    let p = c.args.params.now in
    let size : length c.in-Some.frames ≡ p.pages = c.in-Some.ensures.whole ∙ ap (λ (r : Ready). r.params.pages) inv.rest ∙ ap (λ q. q.pages) c.requires.same_params in
    subst (λ n. MayGiveBack (own_share pass) (own_log pass) n) (sym size)
    (gives_one (own_share pass) (own_log pass) p.pages (length c.next_back.new.self.waiting) (subst (λ n. MayGiveBackAll (own_share pass) (own_log pass) p.pages n) (ap length c.in-Some.ensures.oldest) inv.may))

pub loop-frames-preserved : goal.loop-frames-preserved
loop-frames-preserved g c =
    let inv = c.loop-frames.invariant in
    let pass = c.loop-frames.pass in
    let next = c.give_back-pass.result in
    let p = c.args.params.now in
    let left = length c.next_back.new.self.waiting in
    let seat = c.give_back-pass.ensures.seat in
    let count : length c.loop-frames.pages.waiting ≡ suc left = ap length c.in-Some.ensures.oldest in
    let size : length c.in-Some.frames ≡ p.pages = c.in-Some.ensures.whole ∙ ap (λ (r : Ready). r.params.pages) inv.rest ∙ ap (λ q. q.pages) c.requires.same_params in
    let handed = ap (λ (r : Ready). r.handed) c.in-Some.ensures.rest in
    record {
      name = seat.0 ∙ inv.name;
      number = seat.1 ∙ inv.number;
      base = seat.2 ∙ inv.base;
      rest = rest_after c.args.pages.now c.loop-frames.pages c.next_back.new.self _ _ inv.rest c.in-Some.ensures.rest;
      handed = omega (arith, inv.handed, count, handed);
      own = own_after p.zone p.pages (length c.in-Some.frames) left (length c.args.pages.now.waiting) c.args.pass.own pass.own next.own size (subst (λ n. pass.own ++ backs_of p.zone p.pages n ≡ c.args.pass.own ++ backs_of p.zone p.pages (length c.args.pages.now.waiting)) count inv.own) c.give_back-pass.ensures.own;
      may = may_after pass next seat.1 seat.2 p.zone p.pages (length c.in-Some.frames) left size c.give_back-pass.ensures.own (subst (λ n. MayGiveBackAll (own_share pass) (own_log pass) p.pages n) count inv.may);
    }
