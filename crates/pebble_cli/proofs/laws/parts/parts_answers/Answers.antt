-- The laws are lemmas.
use Rattle.pebble_cli.proofs.PartStatuses.{part_statuses, parts_are_answered}
use Rattle.pebble_cli.proofs.laws.parts.parts_answers.Goals as goal

pub returns-clause-statuses : goal.returns-clause-statuses
returns-clause-statuses c = part_statuses

pub returns-clause-answered : goal.returns-clause-answered
returns-clause-answered c = parts_are_answered
