use Rattle.std.proofs.Common.{◌++◌, ap, ◌∙◌}
use Rattle.std.specs.Fmt.{decimal}
use Rattle.std.proofs.lemmas.Result.{on_ok_weaker}
use Rattle.kz_make.proofs.Pieces.{section_written}
use Rattle.kz_make.proofs.sections.write_section.Goals as goal

pub returns : goal.returns
returns c = λ number j from.
    let first = c.in_ok-write_drawn.ensures number j from in
    on_ok_weaker c.write_later_rounds.result
    (λ later. section_written number j c.args.cpu _ _ c.args.out.now.items _ _ _ _ _ _ c.in_ok-extend_from_slice.ensures.items (c.in_ok-push_decimal.ensures ∙ ap (λ n. c.extend_from_slice.new.self.items ++ decimal n) c.from.ensures) c.in_ok-extend_from_slice-2.ensures.items
    c.in_ok-write_allocations.ensures first later) (c.write_later_rounds.ensures number _ first.words)
