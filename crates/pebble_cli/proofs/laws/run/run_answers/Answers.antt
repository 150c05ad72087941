-- The laws are lemmas.
use Rattle.pebble_cli.proofs.CommandLaws.{run_statuses, done_where_values, values_where_none}
use Rattle.pebble_cli.proofs.laws.run.run_answers.Goals as goal

pub returns-clause-statuses : goal.returns-clause-statuses
returns-clause-statuses c = run_statuses

pub returns-clause-done : goal.returns-clause-done
returns-clause-done c = done_where_values

pub returns-clause-values : goal.returns-clause-values
returns-clause-values c = values_where_none
