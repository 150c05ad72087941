-- The ledger that the steps stand in: the blank one.
use Rattle.desk_io.proofs.transfer.write_file.Given as goal

abbrev pub ghosts-write_file_uncounted : goal.ghosts-write_file_uncounted
ghosts-write_file_uncounted g a = record { name = a.blank.name; parts = a.blank.parts }
