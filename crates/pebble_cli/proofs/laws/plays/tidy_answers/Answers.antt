-- The laws are lemmas.
use Rattle.pebble_cli.proofs.PlayStatuses.{tidy_statuses, tidied_where_played, tidied_where_not}
use Rattle.pebble_cli.proofs.laws.plays.tidy_answers.Goals as goal

pub returns-clause-statuses : goal.returns-clause-statuses
returns-clause-statuses c = tidy_statuses

pub returns-clause-done : goal.returns-clause-done
returns-clause-done c = tidied_where_played

pub returns-clause-refused : goal.returns-clause-refused
returns-clause-refused c = tidied_where_not
