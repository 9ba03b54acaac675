use Rattle.std.proofs.Common.{◌≡◌, ◌-◌, ◌<◌, ℕ, Some, length, take, vec_len, slice_index_or, [], ap, ◌∙◌, arith}
use Rattle.std.proofs.lemmas.List.{length-take-le}
use Rattle.kz_supply.proofs.Stocks.{taken_more}
use Rattle.kz_supply.proofs.stock.take_frames.Goals as goal

pub loop-taken-preserved : goal.loop-taken-preserved
loop-taken-preserved c =
    let free = c.loop-taken.free in let left = c.loop-taken.invariant.left in
    let size : vec_len free ≡ length free.items = omega (arith, free.ok) in
    let some : 0 < vec_len free = omega (arith, size, ap length left, length-take-le (length c.args.free.now.items - c.loop-taken._taken) c.args.free.now.items (omega arith)) in
    let rest = c.pop.ensures.rest ∙ ap (λ (n : ℕ). take (n - 1) free.items) size in
    let last : Some c.in-Some.frame ≡ Some (slice_index_or free.items (length free.items - 1) []) = c.in-Some.ensures.value [] some ∙ ap (λ (n : ℕ). Some (slice_index_or free.items (n - 1) [])) size in
    rw c.push.ensures
    (taken_more c.args.free.now.items free.items c.pop.new.self.items _ _ _ c.loop-taken._taken c.loop-taken.frames c.in-Some.frame c.requires.zero (omega arith) c.loop-taken.invariant (omega arith) rest (cc last))
