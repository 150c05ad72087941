-- The laws are lemmas.
use Rattle.pebble_cli.proofs.ExecLaws.{exec_statuses, done_where_run, fault_where_empty, values_where_wrong}
use Rattle.command_answers.proofs.ValuesFiles.{holds_or_not}
use Rattle.pebble_cli.proofs.laws.exec.exec_answers.Goals as goal

pub returns-clause-statuses : goal.returns-clause-statuses
returns-clause-statuses c = exec_statuses

pub returns-clause-done : goal.returns-clause-done
returns-clause-done c = done_where_run

pub returns-clause-fault : goal.returns-clause-fault
returns-clause-fault c = fault_where_empty

pub returns-clause-values : goal.returns-clause-values
returns-clause-values c = values_where_wrong

pub returns-clause-always : goal.returns-clause-always
returns-clause-always c = holds_or_not
