use Rattle.normal_steps.proofs.Sound.{start_is_sound, plays_keep_sound}
use Rattle.normal_steps.proofs.laws.positions_are_sound.Goals as goal

pub returns-clause-start : goal.returns-clause-start
returns-clause-start c = start_is_sound

pub returns-clause-plays : goal.returns-clause-plays
returns-clause-plays c = plays_keep_sound
