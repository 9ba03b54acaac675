use Rattle.std.proofs.Common.{◌≡◌, ◌+◌, ◌%◌, ap, ◌∙◌}
use Rattle.kz_make.proofs.Results.{pushed}
use Rattle.kz_make.proofs.Left.{is_drawn}
use Rattle.kz_make.proofs.Pieces.{declaration_written}
use Rattle.kz_make.proofs.types.write_declaration.Goals as goal

pub returns : goal.returns
returns c = λ number j from.
    let first = is_drawn number j _ _ _ from c.next.ensures.word c.next.ensures.rest in
    let count = ap (λ word. 1 + word % 6) first.word_is in
    pushed c.extend_from_slice-3.result _ _ _ c.extend_from_slice-3.ensures.items
    (λ last. declaration_written number j c.args.t _ c.args.words.now _ c.args.out.now.items _ _ _ _ _ c.in_ok-extend_from_slice.ensures.items c.in_ok-write_type.ensures c.in_ok-extend_from_slice-2.ensures.items count
    (c.in_ok-write_fields.ensures number _ first.rest_is) last)
