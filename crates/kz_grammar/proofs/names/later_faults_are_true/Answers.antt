use Rattle.kz_grammar.proofs.Laws.{type_faults_are_true, name_faults_are_true, round_faults_are_true, first_faults_are_true, sound_has_no_fault}
use Rattle.kz_grammar.proofs.names.later_faults_are_true.Goals as goal

pub returns-clause-types : goal.returns-clause-types
returns-clause-types c = type_faults_are_true

pub returns-clause-names : goal.returns-clause-names
returns-clause-names c = name_faults_are_true

pub returns-clause-rounds : goal.returns-clause-rounds
returns-clause-rounds c = round_faults_are_true

pub returns-clause-exact : goal.returns-clause-exact
returns-clause-exact c = sound_has_no_fault

pub returns-clause-first : goal.returns-clause-first
returns-clause-first c = first_faults_are_true
