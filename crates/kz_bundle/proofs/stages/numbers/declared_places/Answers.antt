use Rattle.std.proofs.Common.{map, ap, ◌∙◌, arith}
use Rattle.std.proofs.lemmas.List.{take_all}
use Rattle.kz_model.specs.Types.Layouts.{names_of, place_of}
use Rattle.kz_model.specs.Grammar.Tokens.{texts}
use Rattle.kz_bundle.proofs.NameStage.{are_declared}
use Rattle.kz_bundle.proofs.stages.numbers.declared_places.Goals as goal

pub returns : goal.returns
returns c =
    let types = names_of c.args.types.now in
    are_declared types (texts c.args.words.now) c.loop-word.found.items
    (c.loop-word.invariant ∙ ap (λ words. map (λ word. place_of word types) (texts words)) (take_all c.loop-word.word-index c.args.words.now (omega (arith, c.loop-word-test.false))))
