-- The laws are lemmas.
use Rattle.improve_cli.proofs.AnswerLaws.{no_fault, tables_are_of_improve}
use Rattle.improve_cli.proofs.laws.answers_are_sound.Goals as goal

pub returns-clause-no_fault : goal.returns-clause-no_fault
returns-clause-no_fault c = no_fault

pub returns-clause-tables : goal.returns-clause-tables
returns-clause-tables c = tables_are_of_improve
