-- The steps that no one counts stand in the ledger of the blank.
use Rattle.cover_cert.proofs.searching.cover_search.Given as goal

abbrev pub ghosts-cover_search_uncounted : goal.ghosts-cover_search_uncounted
ghosts-cover_search_uncounted a = record { name = a.blank.name; parts = a.blank.parts }
