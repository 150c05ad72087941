-- The laws are lemmas.
use Rattle.pebble_cli.proofs.ExecLaws.{plans_read_back, plans_run_as_sources}
use Rattle.pebble_cli.proofs.laws.exec.plans_run_as_sources.Goals as goal

pub returns-clause-reads : goal.returns-clause-reads
returns-clause-reads c = plans_read_back

pub returns-clause-same : goal.returns-clause-same
returns-clause-same c = plans_run_as_sources
