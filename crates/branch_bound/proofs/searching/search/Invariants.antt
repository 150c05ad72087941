-- The steps that no one counts stand in the ledger of the blank.
use Rattle.branch_bound.proofs.searching.search.Given as goal

abbrev pub ghosts-search_uncounted : goal.ghosts-search_uncounted
ghosts-search_uncounted a = record { name = a.blank.name; parts = a.blank.parts }
