use Rattle.normal_steps.proofs.Simulation.{each_move_is_answered, each_pebbling_is_answered}
use Rattle.normal_steps.proofs.laws.plays_answer_pebblings.Goals as goal

pub returns-clause-each_move : goal.returns-clause-each_move
returns-clause-each_move c = each_move_is_answered

pub returns-clause-each_list : goal.returns-clause-each_list
returns-clause-each_list c = each_pebbling_is_answered
