use Rattle.std.proofs.Common.{◌≡◌, ℕ, Bor, List, [], ◌∷◌, ◌++◌, length, None, false, ap, subst, sym, ◌∙◌, arith}
use Rattle.std.proofs.lemmas.List.{length-map}
use Rattle.kz_model.specs.Grammar.Stages.{has}
use Rattle.kz_model.specs.Grammar.Tokens.{texts}
use Rattle.kz_bundle.specs.Parts.{AreOnce}
use Rattle.kz_bundle.specs.Table.{number_of, FindsTexts}
use Rattle.kz_bundle.proofs.Table.{finds_more, once_more, not_there, new_number}
use Rattle.kz_bundle.proofs.form.names.Names.add.Goals as goal

absent : (c : goal.After-put) → number_of c.args.text.now (texts c.self.inside.table.items) ≡ None
absent c = ap (λ table. number_of c.args.text.now table) c.self.view_is ∙ c.requires.absent

number_is : (c : goal.After-put) → c.len-number.result ≡ length (texts c.self.inside.table.items)
number_is c = let same : c.len-number.result ≡ length c.self.inside.table.items = omega arith in same ∙ sym (length-map c.self.inside.table.items (λ (t : Bor (List ℕ)). t.now))

table_is : (c : goal.After-put) → texts c.put.new.table.items ≡ texts c.self.inside.table.items ++ c.args.text.now ∷ []
table_is c = c.put.ensures ∙ ap (λ table. texts table ++ c.args.text.now ∷ []) c.in_ok-reserve.ensures.items

pub invariant_of-self-2 : goal.invariant_of-self-2
invariant_of-self-2 c =
    let text = c.args.text.now in
    let old = texts c.self.inside.table.items in
    let new_text : has text old ≡ false = not_there text old (absent c) in
    let finds = finds_more text c.len-number.result c.self.inside.numbers c.insert.new.self old new_text (number_is c) c.in_ok-insert.ensures.ok c.self.invariant.0 in
    let once : AreOnce (old ++ text ∷ []) = once_more text old new_text c.self.invariant.1 in
    (subst (λ table. FindsTexts c.insert.new.self table) (sym (table_is c)) finds, subst AreOnce (sym (table_is c)) once)

pub returns-clause-number : goal.returns-clause-number
returns-clause-number c =
    new_number c.args.text.now (texts c.self.inside.table.items) (texts c.put.new.table.items) c.len-number.result (absent c) (number_is c) (table_is c)
