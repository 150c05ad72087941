-- The laws are proved in proofs/Reader.antt.
use Rattle.play_files.proofs.Reader.{reads_back, no_prefix}
use Rattle.play_files.proofs.laws.one_text.Goals as goal

pub returns : goal.returns
returns c = record { reads_back = reads_back; no_prefix = no_prefix }
