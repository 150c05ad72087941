-- The laws are lemmas.
use Rattle.pebble_cli.proofs.IdleInputs.{answers_any_input, admits_any_input}
use Rattle.pebble_cli.proofs.laws.answers.idle_inputs.Goals as goal

pub returns-clause-answers : goal.returns-clause-answers
returns-clause-answers c = answers_any_input

pub returns-clause-admitted : goal.returns-clause-admitted
returns-clause-admitted c = admits_any_input
