use Rattle.std.proofs.Common.{◌≡◌, ℕ, ◌+◌, ◌-◌, ◌*◌, ◌++◌, map, List, ap, sym, ◌∙◌, arith}
use Rattle.kz_model.specs.Grammar.Form.{Declares}
use Rattle.kz_model.specs.Text.Made.{types_count, fields_of_type, types_made, after_types}
use Rattle.kz_bundle.specs.Printing.{lines_text}
use Rattle.kz_make.specs.Writing.{words_at}
use Rattle.kz_make.proofs.Counts.{types_are}
use Rattle.kz_make.proofs.Left.{Left, none_gone, left_more, left_none}
use Rattle.kz_make.proofs.Pieces.{types_text, after_text}
use Rattle.kz_make.proofs.types.write_types.Goals as goal

pub loop-t-init : goal.loop-t-init
loop-t-init c = λ number j from. record {
  at = j;
  words_are = from;
  text_is = ap (λ n. c.args.out.now.items ++ lines_text (map Declares (types_made number j 0 n))) (none_gone types_count);
  ends = ap (after_types number j) (none_gone types_count);
}

pub loop-t-preserved : goal.loop-t-preserved
loop-t-preserved c = λ number j from.
    let l = c.loop-t.invariant number j from in
    left_more number _ _ _ _ _ _ _ _ _ _ (l.at + 1 + 2 * fields_of_type number l.at) _ l (types_text number l.at types_count c.loop-t.t (omega (arith, types_are))) (after_text number l.at types_count c.loop-t.t (omega (arith, types_are)))
    (c.in_ok-write_declaration.ensures number l.at l.words_are)

pub returns : goal.returns
returns c = λ number j from.
    let l = c.loop-t.invariant number j from in
    let none : types_count - c.loop-t.t ≡ 0 = omega (arith, types_are) in
    left_none number _ c.args.out.now.items _ _ _ _ _ l (ap (λ n. lines_text (map Declares (types_made number l.at c.loop-t.t n))) none) (ap (after_types number l.at) none)
