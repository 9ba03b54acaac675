use Rattle.std.proofs.Common.{List, ℕ, ap, arith, length}
use Rattle.kz_make.proofs.Lengths.{made_text_is_short}
use Rattle.kz_make.proofs.Pieces.{bundle_written}
use Rattle.kz_make.proofs.bundle.make_bundle.Goals as goal

pub returns : goal.returns
returns c =
    let types = c.in_ok-write_types.ensures c.args.number 0 c.new-words.ensures in
    let sections = c.in_ok-write_sections.ensures c.args.number _ types.words in
    let text = bundle_written c.args.number _ _ _ _ _ _ _ c.in_ok-out.ensures.items c.in_ok-write_header.ensures types sections.text c.in_ok-write_order.ensures c.in_ok-extend_from_slice.ensures.items in
    record { text = text; few = omega (arith, made_text_is_short c.args.number (omega arith), ap (λ (bytes : List ℕ). length bytes) text) }
