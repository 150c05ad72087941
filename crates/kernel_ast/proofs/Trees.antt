-- How the folds over trees compute at a tree that is made, with all their arguments.
use Rattle.std.proofs.Common.{◌≡◌, ℕ, ℤ, List, refl}
use Rattle.comp_graph.specs.declared.operation.Op.{Op}
use Rattle.kernel_ast.specs.declared.tree.IndexTree.TheFolds.{fold-roll-IndexTree, fold-roll-IndexLink}
use Rattle.kernel_ast.specs.declared.tree.Expr.{Expr, roll-Expr}
use Rattle.kernel_ast.specs.declared.tree.Expr.TheOpen as expr
use Rattle.kernel_ast.specs.declared.tree.Expr.TheFolds.{fold-roll-Expr, fold-roll-Link, fold-Link, map-Expr}
use Rattle.kernel_ast.specs.declared.tree.Link.{Link}
use Rattle.kernel_ast.specs.declared.tree.Stmt.{Stmt, roll-Stmt}
use Rattle.kernel_ast.specs.declared.tree.Stmt.TheOpen.{Stmt-F}
use Rattle.kernel_ast.specs.declared.tree.Stmt.TheFolds.{fold-roll-Stmt, map-Stmt}
use Rattle.kernel_ast.specs.KernelParts.{Declared}
use Rattle.kernel_ast.specs.Walk.{Walk, walk, walk_step}
use Rattle.kernel_ast.specs.Machine.{Machine, Run, Elements, State, Execution, evaluate, expr_step, link_step, execute, stmt_step}

-- the walk of a statement
pub walk_is : (decls : List Declared) (x : Stmt-F Stmt) (indices : List ℤ) (turns : ℕ) → walk decls (roll-Stmt x) indices turns
    ≡ walk_step decls (map-Stmt Stmt Walk (walk decls) x) indices turns
walk_is decls x indices turns = rw (fold-roll-Stmt Walk (walk_step decls) x) refl

-- the execution of a statement
pub execute_is : {V S : Type 0} (M : Machine V S) (decls : List Declared) (x : Stmt-F Stmt) (indices : List ℤ) (s : State V S)
    → execute M decls (roll-Stmt x) indices s ≡ stmt_step M decls (map-Stmt Stmt (Execution V S) (execute M decls) x) indices s
execute_is {V} {S} M decls x indices s = rw (fold-roll-Stmt (Execution V S) (stmt_step M decls) x) refl

-- the evaluation of an expression
pub evaluate_is : {V S : Type 0} (M : Machine V S) (decls : List Declared) (indices : List ℤ) (elements : Elements V) (x : expr.Expr-F Expr Link) (s : S)
    → evaluate M decls indices elements (roll-Expr x) s
    ≡ expr_step M decls indices elements (map-Expr Expr Link (Run V S) ((Op × ℕ) × Run V S) (evaluate M decls indices elements)
    (fold-Link (Run V S) ((Op × ℕ) × Run V S) (expr_step M decls indices elements) link_step) x) s
evaluate_is {V} {S} M decls indices elements x s = rw (fold-roll-Expr (Run V S) ((Op × ℕ) × Run V S) (expr_step M decls indices elements) link_step x) refl

-- all of these, for `simp`
pub ruleset trees = (walk_is, execute_is, evaluate_is, fold-roll-IndexTree, fold-roll-IndexLink, fold-roll-Expr, fold-roll-Link)
