use Rattle.std.proofs.Common.{◌≡◌, ◌+◌, ◌++◌, List, ℕ, ap, sym, ◌∙◌, arith}
use Rattle.std.proofs.lemmas.Result.{on_ok_weaker}
use Rattle.kz_model.specs.Text.Made.{names_count, drawn_count}
use Rattle.kz_make.proofs.Counts.{names_are, drawn_are}
use Rattle.kz_make.proofs.Pieces.{two_pieces, order_text}
use Rattle.kz_make.proofs.order.write_order.Goals as goal

pub returns : goal.returns
returns c =
    let first = two_pieces c.args.out.now.items _ _ _ _ c.in_ok-extend_from_slice.ensures.items (c.in_ok-write_turns.ensures (names_count + drawn_count) (omega (arith, names_are, drawn_are))) in
    on_ok_weaker c.write_later_turns.result (λ last. two_pieces c.args.out.now.items _ _ _ _ first last ∙ ap (λ (text : List ℕ). c.args.out.now.items ++ text) (sym order_text)) c.write_later_turns.ensures
