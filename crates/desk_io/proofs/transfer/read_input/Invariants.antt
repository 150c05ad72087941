-- The ledger that the steps stand in: the blank one.
use Rattle.desk_io.proofs.transfer.read_input.Given as goal

abbrev pub ghosts-read_input_uncounted : goal.ghosts-read_input_uncounted
ghosts-read_input_uncounted g a = record { name = a.blank.name; parts = a.blank.parts }
