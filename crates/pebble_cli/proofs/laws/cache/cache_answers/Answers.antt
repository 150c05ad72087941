-- The laws are lemmas.
use Rattle.pebble_cli.proofs.CacheStatuses.{cache_statuses, caches_are_answered, caches_are_optimal_where_enough}
use Rattle.pebble_cli.proofs.laws.cache.cache_answers.Goals as goal

pub returns-clause-statuses : goal.returns-clause-statuses
returns-clause-statuses c = cache_statuses

pub returns-clause-answered : goal.returns-clause-answered
returns-clause-answered c = caches_are_answered

pub returns-clause-enough : goal.returns-clause-enough
returns-clause-enough c = caches_are_optimal_where_enough
