-- The law is a lemma.
use Rattle.improve_answers.proofs.WordLimits.{words_are_in_limits}
use Rattle.improve_cli.proofs.laws.words_are_in_limits.Goals as goal

pub returns : goal.returns
returns c = words_are_in_limits
