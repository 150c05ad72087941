-- The laws are lemmas.
use Rattle.pebble_cli.proofs.CommandLaws.{graph_statuses, done_where_accepted}
use Rattle.pebble_cli.proofs.laws.graph.graph_answers.Goals as goal

pub returns-clause-statuses : goal.returns-clause-statuses
returns-clause-statuses c = graph_statuses

pub returns-clause-done : goal.returns-clause-done
returns-clause-done c = done_where_accepted
