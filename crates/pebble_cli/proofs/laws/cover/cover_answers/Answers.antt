-- The laws are lemmas.
use Rattle.pebble_cli.proofs.CoverStatuses.{cover_statuses, covers_are_answered, covers_are_optimal_where_enough}
use Rattle.pebble_cli.proofs.laws.cover.cover_answers.Goals as goal

pub returns-clause-statuses : goal.returns-clause-statuses
returns-clause-statuses c = cover_statuses

pub returns-clause-answered : goal.returns-clause-answered
returns-clause-answered c = covers_are_answered

pub returns-clause-enough : goal.returns-clause-enough
returns-clause-enough c = covers_are_optimal_where_enough
