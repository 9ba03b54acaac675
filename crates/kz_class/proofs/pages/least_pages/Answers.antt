use Rattle.std.proofs.Common.{sym, ◌∙◌, refl, rules, tests}
use Rattle.std.proofs.lemmas.Iterator.{YieldsList-from_range}
use Rattle.std.proofs.lemmas.Iterator.Adapters.{option_map_id}
use Rattle.std.proofs.lemmas.Iterator.Search.{find_from_yields_List}
use Rattle.kz_model.specs.Types.Class.{is_chunk}
use Rattle.kz_class.proofs.pages.least_pages.Goals as goal

pub returns : goal.returns
returns c =
    sym (option_map_id _)
    ∙ find_from_yields_List (λ pages. is_chunk c.args.element pages) _ _ c.find.result c.find.ensures.ran (YieldsList-from_range 1 9 8 refl refl) (λ x b q k. search (rules, tests))
