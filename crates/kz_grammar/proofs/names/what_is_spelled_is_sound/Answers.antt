use Rattle.kz_grammar.proofs.Laws.{spelled_is_sound}
use Rattle.kz_grammar.proofs.BundleNames.{spelled_name_rows}
use Rattle.kz_grammar.proofs.names.what_is_spelled_is_sound.Goals as goal

pub returns-clause-text : goal.returns-clause-text
returns-clause-text c = spelled_is_sound

pub returns-clause-bundle : goal.returns-clause-bundle
returns-clause-bundle c = spelled_name_rows
