-- The laws are lemmas.
use Rattle.pebble_cli.proofs.PlayStatuses.{judge_statuses, judged_where_played, judged_where_not, played_or_not}
use Rattle.pebble_cli.proofs.laws.plays.judge_answers.Goals as goal

pub returns-clause-statuses : goal.returns-clause-statuses
returns-clause-statuses c = judge_statuses

pub returns-clause-done : goal.returns-clause-done
returns-clause-done c = judged_where_played

pub returns-clause-refused : goal.returns-clause-refused
returns-clause-refused c = judged_where_not

pub returns-clause-always : goal.returns-clause-always
returns-clause-always c = played_or_not
