-- An operand's vertex is below 256.
use Rattle.std.proofs.Common.{arith}
use Rattle.comp_graph.specs.Operations.{arity_of}
use Rattle.slot_alloc.proofs.Placing.{operand_small}
use Rattle.slot_alloc.proofs.emitter.Emitter.source.Goals as goal

pub bounds-self-u : goal.bounds-self-u
bounds-self-u c = operand_small (arity_of c.args.node.now.op) c.args.k c.in-Vertex.u c.args.node.now.args c.requires.operands (let h = c.if-k-arity.false in let e = c.arity.ensures in omega arith) c.in-Vertex.is
