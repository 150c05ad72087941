-- The law is a lemma.
use Rattle.command_words.proofs.WordLimits.{words_are_in_limits}
use Rattle.command_words.proofs.laws.words_are_in_limits.Goals as goal

pub returns : goal.returns
returns c = words_are_in_limits
