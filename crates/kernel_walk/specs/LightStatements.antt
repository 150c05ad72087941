-- Statements that count at most 65,536 turns each as they are reached; in well-formed kernels all do.
use Rattle.std.specs.Prelude.{nat_le, Bool, ◌&&◌}
use Rattle.std.specs.List.{list_all}
use Rattle.kernel_ast.specs.declared.tree.Stmt.{Stmt, fold-Stmt}
use Rattle.kernel_ast.specs.declared.tree.Stmt.TheOpen.{Stmt-F, Assign, Loop, Branch}
use Rattle.kernel_ast.specs.RunRules.{most_turns}
use Rattle.kernel_ast.specs.Weights.{assign_weight, loop_weight, branch_weight}

-- one layer of a statement: its weight is at most 65,536, and the statements of its bodies are light
abbrev pub light_step : Stmt-F Bool → Bool
light_step (Assign target value at) = nat_le (assign_weight target value) most_turns
light_step (Loop from to by body at) = nat_le (loop_weight from to by) most_turns && list_all (λ b. b) body
light_step (Branch left rel right taken other at) = nat_le (branch_weight left right) most_turns && (list_all (λ b. b) taken && list_all (λ b. b) other)

-- a statement is light, and all those in it
abbrev pub is_light : Stmt → Bool
is_light = fold-Stmt Bool light_step
