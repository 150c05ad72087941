-- The laws are lemmas.
use Rattle.pebble_cli.proofs.CommandLaws.{plan_statuses, plans_are_answered, plans_are_as_shown, optimal_where_tight, open_where_loose, optimal_where_enough}
use Rattle.pebble_cli.proofs.laws.plan.plan_answers.Goals as goal

pub returns-clause-statuses : goal.returns-clause-statuses
returns-clause-statuses c = plan_statuses

pub returns-clause-answered : goal.returns-clause-answered
returns-clause-answered c = plans_are_answered

pub returns-clause-shown : goal.returns-clause-shown
returns-clause-shown c = plans_are_as_shown

pub returns-clause-optimal : goal.returns-clause-optimal
returns-clause-optimal c = optimal_where_tight

pub returns-clause-opened : goal.returns-clause-opened
returns-clause-opened c = open_where_loose

pub returns-clause-enough : goal.returns-clause-enough
returns-clause-enough c = optimal_where_enough
