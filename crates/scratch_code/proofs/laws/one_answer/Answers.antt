-- The laws are proved in proofs/Reader.antt and proofs/Decided.antt.
use Rattle.scratch_code.proofs.Decided.{always_one}
use Rattle.scratch_code.proofs.Reader.{one_reading, one_bad_line, never_both}
use Rattle.scratch_code.proofs.laws.one_answer.Goals as goal

pub returns : goal.returns
returns c = record { reading = one_reading; bad_line = one_bad_line; apart = never_both; always_one = always_one }
