-- The laws are lemmas.
use Rattle.pebble_cli.proofs.CoverStatuses.{cover_check_statuses, done_where_covered, refused_where_not_covered}
use Rattle.command_answers.proofs.CoverFiles.{cover_files_are_judged}
use Rattle.pebble_cli.proofs.laws.cover.cover_check_answers.Goals as goal

pub returns-clause-statuses : goal.returns-clause-statuses
returns-clause-statuses c = cover_check_statuses

pub returns-clause-done : goal.returns-clause-done
returns-clause-done c = done_where_covered

pub returns-clause-refused : goal.returns-clause-refused
returns-clause-refused c = refused_where_not_covered

pub returns-clause-always : goal.returns-clause-always
returns-clause-always c = cover_files_are_judged
