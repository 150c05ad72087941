-- The statements and turns that are left lead from here to what all lead to from the start.
use Rattle.std.proofs.Common.{◌≡◌, true, map, drop}
use Rattle.std.specs.List.{list_all}
use Rattle.kernel_ast.specs.Steps.{each}
use Rattle.kernel_walk.specs.LightStatements.{is_light}
use Rattle.loop_unroll.specs.Flats as spec
use Rattle.loop_unroll.proofs.execution.Execution.+statements.Given as goal

abbrev pub invariant-statements-each_statement : goal.invariant-statements-each_statement
invariant-statements-each_statement l =
    record {
      indices : l.self.indices.items ≡ l.fn.self.indices.items;
      light : list_all is_light (drop l.stmt-index l.body) ≡ true;
      same : spec.unrolled_all l.kernel.decls (drop l.stmt-index l.body) l.fn.self.indices.items l.self.progress ≡ spec.unrolled_all l.kernel.decls l.body l.fn.self.indices.items l.fn.self.progress;
    }

abbrev pub invariant-turns-each_turn : goal.invariant-turns-each_turn
invariant-turns-each_turn l =
    record {
      indices : l.self.indices.items ≡ l.fn.self.indices.items;
      same : each (spec.one_turn (map (spec.unrolled l.kernel.decls) l.body) l.at l.fn.self.indices.items) l.i-iterator l.self.progress
          ≡ each (spec.one_turn (map (spec.unrolled l.kernel.decls) l.body) l.at l.fn.self.indices.items) l.fn.numbers l.fn.self.progress;
    }
