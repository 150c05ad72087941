-- A text that was read whole is all that was taken.
use Rattle.answer_desk.proofs.InputRests.{read_leaves}
use Rattle.answer_desk.proofs.reading.code_input.Goals as goal

pub returns-in-Ok-clause-rest_left : goal.returns-in-Ok-clause-rest_left
returns-in-Ok-clause-rest_left g c = read_leaves (g.D.Desk.input c.args.desk.now) _ _ c.in-Ok.ensures.whole c.in-Ok.ensures.end
