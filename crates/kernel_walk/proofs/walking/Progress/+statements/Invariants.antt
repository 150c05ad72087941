-- What is walked so far, with what is left.
use Rattle.std.proofs.Common.{◌≡◌, map, drop}
use Rattle.kernel_ast.specs.Steps.{each, in_turn}
use Rattle.kernel_ast.specs.Walk as spec
use Rattle.kernel_walk.proofs.walking.Progress.+statements.Given as goal

abbrev pub invariant-statements-each_statement : goal.invariant-statements-each_statement
invariant-statements-each_statement l =
    (l.self.indices.items ≡ l.fn.self.indices.items)
    × (in_turn (spec.all_at (map (spec.walk l.kernel.decls) (drop l.stmt-index l.body)) l.fn.self.indices.items) l.self.turns
    ≡ in_turn (spec.all_at (map (spec.walk l.kernel.decls) l.body) l.fn.self.indices.items) l.fn.self.turns)

abbrev pub invariant-turns-each_turn : goal.invariant-turns-each_turn
invariant-turns-each_turn l =
    (l.self.indices.items ≡ l.fn.self.indices.items)
    × (each (spec.one_turn (map (spec.walk l.kernel.decls) l.body) l.at l.fn.self.indices.items) l.i-iterator l.self.turns
    ≡ each (spec.one_turn (map (spec.walk l.kernel.decls) l.body) l.at l.fn.self.indices.items) l.fn.numbers l.fn.self.turns)
