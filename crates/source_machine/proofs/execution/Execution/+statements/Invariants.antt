-- What is executed so far, with what is left.
use Rattle.std.proofs.Common.{◌≡◌, map, drop}
use Rattle.kernel_ast.specs.Steps.{each, in_turn}
use Rattle.kernel_ast.specs.Walk.{all_at}
use Rattle.kernel_ast.specs.Machine as machine
use Rattle.source_machine.specs.Numbers as spec
use Rattle.source_machine.specs.States.{state}
use Rattle.source_machine.proofs.execution.Execution.+statements.Given as goal

abbrev pub invariant-statements-each_statement : goal.invariant-statements-each_statement
invariant-statements-each_statement l =
    (l.self.indices.items ≡ l.fn.self.indices.items)
    × (in_turn (all_at (map (machine.execute spec.numbers l.kernel.decls) (drop l.stmt-index l.body)) l.fn.self.indices.items) (state l.self)
    ≡ in_turn (all_at (map (machine.execute spec.numbers l.kernel.decls) l.body) l.fn.self.indices.items) (state l.fn.self))

abbrev pub invariant-turns-each_turn : goal.invariant-turns-each_turn
invariant-turns-each_turn l =
    (l.self.indices.items ≡ l.fn.self.indices.items)
    × (each (machine.one_pass (map (machine.execute spec.numbers l.kernel.decls) l.body) l.fn.self.indices.items) l.i-iterator (state l.self)
    ≡ each (machine.one_pass (map (machine.execute spec.numbers l.kernel.decls) l.body) l.fn.self.indices.items) l.fn.numbers (state l.fn.self))
