-- The laws are proved in proofs/OnePlay.antt.
use Rattle.play_files.proofs.OnePlay.{each_is_followed, one_play}
use Rattle.play_files.proofs.laws.one_play.Goals as goal

pub returns : goal.returns
returns c = record { one = one_play; always = each_is_followed }
