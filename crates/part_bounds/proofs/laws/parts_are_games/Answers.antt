use Rattle.part_bounds.proofs.CutGraphs.{graphs_are_induced}
use Rattle.part_bounds.proofs.Games as lemmas
use Rattle.part_bounds.proofs.laws.parts_are_games.Goals as goal

pub returns-clause-graphs : goal.returns-clause-graphs
returns-clause-graphs c = graphs_are_induced

pub returns-clause-games : goal.returns-clause-games
returns-clause-games c = lemmas.games_are_induced

pub returns-clause-parts : goal.returns-clause-parts
returns-clause-parts c = lemmas.parts_are_games
