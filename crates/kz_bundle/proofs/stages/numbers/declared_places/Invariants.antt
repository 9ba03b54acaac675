use Rattle.std.proofs.Common.{◌≡◌, map, take}
use Rattle.kz_model.specs.Types.Layouts.{names_of, place_of}
use Rattle.kz_model.specs.Grammar.Tokens.{texts}
use Rattle.kz_bundle.proofs.stages.numbers.declared_places.Given as goal

abbrev pub invariant-loop-word : goal.invariant-loop-word
invariant-loop-word l = l.found.items ≡ map (λ word. place_of word (names_of l.types)) (texts (take l.word-index l.words))
