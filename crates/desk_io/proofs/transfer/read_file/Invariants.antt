-- The ledgers that the steps and the bytes stand in: the blank ones.
use Rattle.desk_io.proofs.transfer.read_file.Given as goal

abbrev pub ghosts-read_file_uncounted-L-Ledger : goal.ghosts-read_file_uncounted-L-Ledger
ghosts-read_file_uncounted-L-Ledger g a = record { name = a.blank.name; parts = a.blank.parts }

abbrev pub ghosts-read_file_uncounted-B-Ledger : goal.ghosts-read_file_uncounted-B-Ledger
ghosts-read_file_uncounted-B-Ledger g a = record { name = a.other.name; parts = a.other.parts }
