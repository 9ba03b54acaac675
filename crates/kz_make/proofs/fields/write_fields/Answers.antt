use Rattle.std.proofs.Common.{◌≡◌, ℕ, ◌+◌, ◌-◌, ◌*◌, ◌++◌, codes, List, refl, ap, sym, ◌∙◌, arith}
use Rattle.kz_model.specs.Text.Made.{drawn, field_made, fields_made}
use Rattle.kz_model.specs.Grammar.Spelling.{field_text, fields_text, more_fields_text}
use Rattle.kz_make.specs.Writing.{words_at}
use Rattle.kz_make.proofs.Left.{Left, left_more, left_none}
use Rattle.kz_make.proofs.Pieces.{text_more, first_field, more_fields, behind_written}
use Rattle.kz_make.proofs.fields.write_fields.Goals as goal

pub loop-i-init : goal.loop-i-init
loop-i-init c = λ number j from.
    let first = behind_written number _ _ c.args.out.now.items _ _ _ _ c.in_ok-extend_from_slice.ensures.items (c.in_ok-write_next.ensures number j from) in
    record {
      at = j + 2;
      words_are = first.words;
      text_is = text_more c.args.out.now.items _ _ (codes " " ++ field_text (field_made 0 (drawn number j) (drawn number (j + 1)))) _ (more_fields_text (fields_made number (j + 2) 1 (c.args.count - 1))) (first_field number j c.args.count c.requires) refl first.text;
      ends = omega arith;
    }

pub loop-i-preserved : goal.loop-i-preserved
loop-i-preserved c = λ number j from.
    let l = c.loop-i.invariant number j from in
    left_more number _ _ _ _ _ _ _ _ _ _ (l.at + 2) _ l (more_fields number l.at c.args.count c.loop-i.i (omega arith)) (omega arith)
    (behind_written number _ _ c.loop-i.out.items _ _ _ _ c.in_ok-extend_from_slice-2.ensures.items (c.in_ok-write_next-2.ensures number l.at l.words_are))

pub returns : goal.returns
returns c = λ number j from.
    let l = c.loop-i.invariant number j from in
    let none : c.args.count - c.loop-i.i ≡ 0 = omega arith in
    left_none number _ c.args.out.now.items _ _ _ _ _ l (ap (λ n. more_fields_text (fields_made number l.at c.loop-i.i n)) none) (omega (arith, none))
