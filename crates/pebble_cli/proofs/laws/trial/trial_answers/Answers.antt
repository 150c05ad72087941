-- The laws are lemmas.
use Rattle.pebble_cli.proofs.CommandLaws.{trial_statuses, done_where_room, trials_are_as_shown, no_read_of_trials}
use Rattle.pebble_cli.proofs.laws.trial.trial_answers.Goals as goal

pub returns-clause-statuses : goal.returns-clause-statuses
returns-clause-statuses c = trial_statuses

pub returns-clause-done : goal.returns-clause-done
returns-clause-done c = done_where_room

pub returns-clause-shown : goal.returns-clause-shown
returns-clause-shown c = trials_are_as_shown

pub returns-clause-no_read : goal.returns-clause-no_read
returns-clause-no_read c = no_read_of_trials
