-- What is evaluated so far, with what is left.
use Rattle.std.proofs.Common.{◌≡◌, map, drop, []}
use Rattle.kernel_ast.specs.Machine as machine
use Rattle.kernel_walk.specs.SetElements.{elements}
use Rattle.source_machine.specs.Numbers as spec
use Rattle.source_machine.proofs.evaluation.Scope.+evaluate.Given as goal

abbrev pub invariant-chain-each_link : goal.invariant-chain-each_link
invariant-chain-each_link l =
    machine.chain spec.numbers (map (spec.link_run l.self.kernel.now.decls l.self.indices.now (elements l.self.written.now)) (drop l.link-index l.rest)) (l.total, l.vertices)
    ≡ machine.chain spec.numbers (map (spec.link_run l.self.kernel.now.decls l.self.indices.now (elements l.self.written.now)) l.rest) (l.fn.first, l.fn.vertices)

abbrev pub invariant-arguments-each_argument : goal.invariant-arguments-each_argument
invariant-arguments-each_argument l =
    machine.arguments (map (machine.evaluate spec.numbers l.self.kernel.now.decls l.self.indices.now (elements l.self.written.now)) (drop l.arg-index l.args)) (l.found, l.vertices)
    ≡ machine.arguments (map (machine.evaluate spec.numbers l.self.kernel.now.decls l.self.indices.now (elements l.self.written.now)) l.args) ([], l.fn.vertices)
