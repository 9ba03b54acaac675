use Rattle.std.proofs.Common.{◌≡◌, ◌+◌, length, ap, ◌∙◌, arith}
use Rattle.kz_model.specs.Zone.Words.{rest_of, word_of, words_after}
use Rattle.kz_plan.proofs.ZoneRows.{bucket-pushed, longer, words-more}
use Rattle.kz_plan.proofs.zones.push_buckets.Goals as goal

pub loop-bucket-preserved : goal.loop-bucket-preserved
loop-bucket-preserved c =
    let l = c.loop-bucket in
    let first = c.args.deal.now.first in
    let at : c.len.result ≡ length l.zones.items = omega (arith, c.len.ensures, l.zones.ok.0) in
    let next : first + l.bucket + 1 ≡ first + (l.bucket + 1) = omega arith in
    record {
      many = omega (arith, longer l.zones.items c.push.new.self.items _ c.in_ok-push.ensures.items);
      words = λ seed begins. c.next.ensures.rest ∙ ap rest_of (l.invariant.words seed begins) ∙ words-more seed 1 (first + l.bucket) ∙ ap (words_after seed 1) next;
      rows = λ seed of_type begins are.
          bucket-pushed seed l.zones.items c.push.new.self.items _ c.args.types.now of_type c.args.deal.now l.bucket c.len.result c.next.result c.shape-shape.result (omega arith) l.invariant.many (omega arith) at
          (c.next.ensures.word ∙ ap word_of (l.invariant.words seed begins)) c.shape-shape.ensures c.in_ok-push.ensures.items are (l.invariant.rows seed of_type begins are);
    }
