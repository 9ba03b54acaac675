-- The tables of the sections serve the walk.
use Rattle.std.proofs.Common.{◌≡◌, ℕ, List, [], length, map, sym, ap, ◌∙◌, subst}
use Rattle.std.specs.List.{All}
use Rattle.kz_model.specs.Grammar.Tokens.{texts}
use Rattle.kz_bundle.specs.Parts.{sections_meant, section_meant, IsTurnWithin}
use Rattle.kz_bundle.specs.Rounds.{AreTables}
use Rattle.kz_bundle.proofs.Columns.{tables_length, if_ok}
use Rattle.kz_bundle.proofs.stages.rounds.order_fault.Goals as goal

pub walk-requires-clause-lengths : goal.walk-requires-clause-lengths
walk-requires-clause-lengths c =
    let P : List (List ℕ) → Type 0 = λ tables. All (λ table. length table ≡ c.args.rounds) tables in
    subst P (sym c.deref-2.ensures.value) (c.in_ok-tables.ensures [] []).lengths

pub walk-requires-clause-turns : goal.walk-requires-clause-turns
walk-requires-clause-turns c =
    let h = c.in_ok-tables.ensures [] [] in
    let P : ℕ → Type 0 = λ cpus. All (IsTurnWithin cpus) c.args.turns.now in
    let same : length c.args.parts.now.sections.items ≡ length c.deref-2.result.now =
    sym (ap (λ (tables : List (List ℕ)). length tables) c.deref-2.ensures.value ∙ tables_length [] [] c.in_ok-tables.tables.items c.args.parts.now.sections.items c.args.rounds c.requires.some (subst (λ parts. AreTables c.in_ok-tables.tables.items (map (section_meant [] []) parts) c.args.rounds) c.deref.ensures.value h)) in
    subst P same c.requires.turns

pub returns : goal.returns
returns c =
    let names = texts c.args.parts.now.names.items in
    let words = texts c.args.parts.now.words.items in
    let h = subst (λ parts. AreTables c.in_ok-tables.tables.items (map (section_meant names words) parts) c.args.rounds) c.deref.ensures.value (c.in_ok-tables.ensures names words) in
    if_ok c.walk.result _ _ (λ fault is. is (sections_meant c.args.parts.now) (subst (λ tables. AreTables tables (sections_meant c.args.parts.now) c.args.rounds) (sym c.deref-2.ensures.value) h)) c.walk.ensures
