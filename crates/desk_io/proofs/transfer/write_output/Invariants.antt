-- The ledger that the steps stand in: the blank one.
use Rattle.desk_io.proofs.transfer.write_output.Given as goal

abbrev pub ghosts-write_output_uncounted : goal.ghosts-write_output_uncounted
ghosts-write_output_uncounted g a = record { name = a.blank.name; parts = a.blank.parts }
