-- The lines fit the slots.
use Rattle.cache_model.proofs.Pebbling as lemmas
use Rattle.cache_model.proofs.laws.lines_fit_slots.Goals as goal

pub returns-clause-fit : goal.returns-clause-fit
returns-clause-fit c = lemmas.lines_fit

pub returns-clause-kept : goal.returns-clause-kept
returns-clause-kept c = lemmas.room_is_kept

pub returns-clause-made : goal.returns-clause-made
returns-clause-made c = lemmas.room_is_made
