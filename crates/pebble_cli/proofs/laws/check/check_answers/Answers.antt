-- The laws are lemmas.
use Rattle.pebble_cli.proofs.CheckKept.{certified_or_refused}
use Rattle.pebble_cli.proofs.CheckStatuses.{check_statuses, done_where_certified, refused_where_not}
use Rattle.pebble_cli.proofs.laws.check.check_answers.Goals as goal

pub returns-clause-statuses : goal.returns-clause-statuses
returns-clause-statuses c = check_statuses

pub returns-clause-done : goal.returns-clause-done
returns-clause-done c = done_where_certified

pub returns-clause-refused : goal.returns-clause-refused
returns-clause-refused c = refused_where_not

pub returns-clause-always : goal.returns-clause-always
returns-clause-always c = certified_or_refused
