-- The line of a move is cut behind its word in one way.
use Rattle.std.proofs.Common.{arith}
use Rattle.play_files.proofs.Reader.{no_vertex, move_answer}
use Rattle.play_files.proofs.draft.read_move.Goals as goal

pub returns-in_default : goal.returns-in_default
returns-in_default c = no_vertex c.args.vertices c.args.line.now c.up_to.result.0.now c.up_to.result.1.now c.up_to.ensures c.in_default.ensures

pub returns : goal.returns
returns c =
    move_answer c.args.vertices c.args.line.now c.up_to.result.0.now c.up_to.result.1.now c.in-Some.vertex c.move_of.result (omega arith) c.up_to.ensures c.in-Some.ensures.0 c.in-Some.ensures.1 c.move_of.ensures
