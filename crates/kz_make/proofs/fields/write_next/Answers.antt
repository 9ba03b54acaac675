use Rattle.std.proofs.lemmas.Result.{on_ok_weaker}
use Rattle.kz_make.proofs.Pieces.{field_written}
use Rattle.kz_make.proofs.fields.write_next.Goals as goal

pub returns : goal.returns
returns c = λ number j from.
    on_ok_weaker c.write_field.result (λ is. field_written number j c.args.i _ _ _ _ _ c.args.out.now.items _ from c.next-b.ensures.word c.next-b.ensures.rest c.next-c.ensures.word c.next-c.ensures.rest is) c.write_field.ensures
