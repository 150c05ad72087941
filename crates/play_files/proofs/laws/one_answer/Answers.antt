-- The laws are proved in proofs/Reader.antt and proofs/Decided.antt.
use Rattle.play_files.proofs.Reader.{one_reading, one_bad_line, never_both, plays_are_short}
use Rattle.play_files.proofs.Decided.{always_one}
use Rattle.play_files.proofs.laws.one_answer.Goals as goal

pub returns : goal.returns
returns c = record { reading = one_reading; bad_line = one_bad_line; apart = never_both; always_one = always_one; short = plays_are_short }
