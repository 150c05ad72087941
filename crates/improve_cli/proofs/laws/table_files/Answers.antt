-- The laws are lemmas.
use Rattle.answer_desk.proofs.TableFiles.{certified_or_refused}
use Rattle.improve_cli.proofs.SomeAnswers.{never_both}
use Rattle.improve_cli.proofs.laws.table_files.Goals as goal

pub returns-clause-always : goal.returns-clause-always
returns-clause-always c = certified_or_refused

pub returns-clause-never_both : goal.returns-clause-never_both
returns-clause-never_both c = never_both
