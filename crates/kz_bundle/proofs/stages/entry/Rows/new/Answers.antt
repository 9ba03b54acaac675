use Rattle.std.proofs.Common.{◌≡◌, length, replicate, ap, ◌∙◌, sym, subst, List, None}
use Rattle.std.proofs.lemmas.List.{length-map}
use Rattle.kz_bundle.specs.declared.stages.entry.Entry.{Entry}
use Rattle.kz_model.specs.Grammar.Tokens.{texts}
use Rattle.kz_bundle.specs.Rows.{AreEntries}
use Rattle.kz_bundle.proofs.EntryRows.{no_entries}
use Rattle.kz_bundle.proofs.stages.entry.Rows.new.Goals as goal

pub invariant_of-result : goal.invariant_of-result
invariant_of-result c =
    let names = texts c.args.names.now in
    let words = texts c.args.words.now in
    let places = c.in_ok-places.places.items in
    let count : length c.args.names.now ≡ length names = sym (length-map c.args.names.now (λ word. word.now)) in
    let none : places ≡ replicate (length names) None = c.in_ok-places.ensures.none ∙ ap (λ n. replicate n None) count in
    let P : List Entry → Type 0 = λ entries. AreEntries names words entries places in
    (c.requires.once, subst P (sym c.new.ensures.items) (no_entries names words places none (c.in_ok-places.ensures.len ∙ count)), c.requires.few)
