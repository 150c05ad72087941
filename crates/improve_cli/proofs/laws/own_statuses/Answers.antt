-- The laws are lemmas.
use Rattle.improve_cli.proofs.AnswerLaws.{improve_statuses, confirm_statuses, confirmed_where_certified, refused_where_not}
use Rattle.improve_cli.proofs.laws.own_statuses.Goals as goal

pub returns-clause-improve : goal.returns-clause-improve
returns-clause-improve c = improve_statuses

pub returns-clause-confirm : goal.returns-clause-confirm
returns-clause-confirm c = confirm_statuses

pub returns-clause-confirmed : goal.returns-clause-confirmed
returns-clause-confirmed c = confirmed_where_certified

pub returns-clause-refused : goal.returns-clause-refused
returns-clause-refused c = refused_where_not
