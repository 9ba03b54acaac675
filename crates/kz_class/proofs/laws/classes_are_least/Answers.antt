use Rattle.kz_class.proofs.Classes.{class_is_least, none_above_last, pages_are_least, classes_fit}
use Rattle.kz_class.proofs.laws.classes_are_least.Goals as goal

pub returns-clause-class : goal.returns-clause-class
returns-clause-class c = class_is_least

pub returns-clause-none : goal.returns-clause-none
returns-clause-none c = none_above_last

pub returns-clause-pages : goal.returns-clause-pages
returns-clause-pages c = pages_are_least

pub returns-clause-fit : goal.returns-clause-fit
returns-clause-fit c = classes_fit
