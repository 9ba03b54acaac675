use Rattle.kz_laws.proofs.InOrder.{whole_in_words}
use Rattle.kz_laws.proofs.LiveApart.{live_once, one_block, live_blocks_apart}
use Rattle.kz_model.proofs.WholeKept.{whole_opening, whole_step}
use Rattle.kz_laws.proofs.laws.each_element_is_in_one_place.Goals as goal

pub returns-clause-opening : goal.returns-clause-opening
returns-clause-opening c = whole_opening

pub returns-clause-kept : goal.returns-clause-kept
returns-clause-kept c = whole_step

pub returns-clause-live : goal.returns-clause-live
returns-clause-live c = live_once

pub returns-clause-addresses : goal.returns-clause-addresses
returns-clause-addresses c = one_block

pub returns-clause-words : goal.returns-clause-words
returns-clause-words c = whole_in_words

pub returns-clause-apart : goal.returns-clause-apart
returns-clause-apart c = live_blocks_apart
