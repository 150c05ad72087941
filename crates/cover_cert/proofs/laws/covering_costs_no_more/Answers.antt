-- The law on covering positions, as the lemma shows it.
use Rattle.cover_cert.proofs.Covered.{covering_costs_no_more}
use Rattle.cover_cert.proofs.laws.covering_costs_no_more.Goals as goal

pub returns : goal.returns
returns c = covering_costs_no_more c.plays_cost_no_more.ensures.from_any c.plays_are_pebblings.ensures.from_any
