use Rattle.std.proofs.Common.{◌≡◌, ◌+◌, ◌++◌, length, drop, ap, sym, ◌∙◌, subst, arith}
use Rattle.kz_model.specs.Types.Plan.{bucket_rows}
use Rattle.kz_model.specs.Zone.Words.{words_after}
use Rattle.kz_plan.specs.Homes.{AreCounts, AreInRow}
use Rattle.kz_plan.proofs.ZoneRows.{in_row-next, in_row-order, counts-whole, deal-pushed, length-bucket_rows}
use Rattle.kz_plan.proofs.zones.rows.Goals as goal

pub push_buckets-requires-clause-inside : goal.push_buckets-requires-clause-inside
push_buckets-requires-clause-inside c =
    let l = c.loop-deal in
    let d = c.deal-item.result in
    let next = in_row-next (length l.zones.items) c.args.general l.deal-index c.args.deals.now d l.invariant.in_row (omega arith) c.deal-item.is in
    let order = in_row-order (length l.zones.items + d.zones) c.args.general _ next.2 in
    omega (arith, next.0, order, ap length c.deref.ensures.value, c.in_ok-types.ensures.all)

pub loop-deal-preserved : goal.loop-deal-preserved
loop-deal-preserved c =
    let l = c.loop-deal in
    let d = c.deal-item.result in
    let seed = c.args.seed in
    let of_type = c.args.of_type.now in
    let types = c.deref.result.now in
    let zones = c.push_buckets.new.zones.items in
    let next = in_row-next (length l.zones.items) c.args.general l.deal-index c.args.deals.now d l.invariant.in_row (omega arith) c.deal-item.is in
    let are : AreCounts types (length types) of_type = counts-whole c.in_ok-types.types.items types _ of_type c.deref.ensures.value c.in_ok-types.ensures in
    let begins : l.words ≡ words_after seed 1 d.first = l.invariant.words ∙ ap (words_after seed 1) (sym next.0) in
    let is : zones ≡ l.zones.items ++ bucket_rows seed of_type d = c.in_ok-push_buckets.ensures.rows seed of_type begins are in
    let many : length zones ≡ length l.zones.items + d.zones = length-bucket_rows seed of_type l.zones.items zones d is in
    record {
      in_row = subst (λ n. AreInRow n c.args.general (drop (l.deal-index + 1) c.args.deals.now)) (sym many) next.2;
      words = c.in_ok-push_buckets.ensures.words seed begins ∙ ap (λ n. words_after seed 1 (n + d.zones)) next.0 ∙ ap (words_after seed 1) (sym many);
      rows = deal-pushed seed of_type l.zones.items zones _ c.args.deals.now d l.deal-index (omega arith) c.deal-item.is is l.invariant.rows;
    }
