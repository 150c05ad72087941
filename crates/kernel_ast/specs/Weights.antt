-- How many turns a statement counts as it is reached (this project's convention): 1, and 1 for each number, name, operator sign and
-- function word in it.
use Rattle.std.specs.Prelude.{◌+◌, ℕ, map, sum, Option, Some, None}
use Rattle.kernel_ast.specs.declared.tree.IndexTree.{IndexTree, fold-IndexTree}
use Rattle.kernel_ast.specs.declared.tree.IndexTree.TheOpen as index
use Rattle.kernel_ast.specs.declared.tree.IndexTree.TheFolds.{fold-IndexLink}
use Rattle.kernel_ast.specs.declared.tree.IndexLink.{IndexLink}
use Rattle.kernel_ast.specs.declared.tree.Index.{Index}
use Rattle.kernel_ast.specs.declared.tree.Place.{Place}
use Rattle.kernel_ast.specs.declared.tree.Expr.{Expr, fold-Expr}
use Rattle.kernel_ast.specs.declared.tree.Expr.TheOpen.{Expr-F, Link-F, Number, Cell, Turn, Minus, Chain, Call}
use Rattle.kernel_ast.specs.declared.tree.Expr.TheFolds.{fold-Link}
use Rattle.kernel_ast.specs.declared.tree.Link.{Link}
use Rattle.kernel_ast.specs.declared.tree.Stmt.{Stmt, fold-Stmt}
use Rattle.kernel_ast.specs.declared.tree.Stmt.TheOpen.{Stmt-F, Assign, Loop, Branch}

-- one layer of an index: a number or a name counts 1, a minus 1 more than its operand
abbrev pub tree_weight_step : index.IndexTree-F ℕ ℕ → ℕ
tree_weight_step (index.Number n) = 1
tree_weight_step (index.Turn k) = 1
tree_weight_step (index.Minus value) = 1 + value
tree_weight_step (index.Chain first rest) = first + sum rest

-- an operator counts 1 more than its right operand
abbrev pub index_link_step : index.IndexLink-F ℕ ℕ → ℕ
index_link_step l = 1 + l.value

-- the weight of an index's tree
abbrev pub tree_weight : IndexTree → ℕ
tree_weight = fold-IndexTree ℕ ℕ tree_weight_step index_link_step

-- the weight of an operator with its right operand, in an index
abbrev pub index_link_weight : IndexLink → ℕ
index_link_weight = fold-IndexLink ℕ ℕ tree_weight_step index_link_step

-- the weight of an index
abbrev pub index_weight : Index → ℕ
index_weight i = tree_weight i.tree

-- a place counts its name and its indices
abbrev pub place_weight : Place → ℕ
place_weight p = 1 + sum (map index_weight p.indices)

-- one layer of an expression: a number, a name, a minus and a function word count 1
abbrev pub expr_weight_step : Expr-F ℕ ℕ → ℕ
expr_weight_step (Number n) = 1
expr_weight_step (Cell place) = place_weight place
expr_weight_step (Turn k) = 1
expr_weight_step (Minus value at) = 1 + value
expr_weight_step (Chain first rest) = first + sum rest
expr_weight_step (Call op args at) = 1 + sum args

-- an operator counts 1 more than its right operand
abbrev pub link_step : Link-F ℕ ℕ → ℕ
link_step l = 1 + l.value

-- the weight of an expression
abbrev pub expr_weight : Expr → ℕ
expr_weight = fold-Expr ℕ ℕ expr_weight_step link_step

-- the weight of an operator with its right operand
abbrev pub link_weight : Link → ℕ
link_weight = fold-Link ℕ ℕ expr_weight_step link_step

-- an assignment counts 1 and both its sides
abbrev pub assign_weight : Place → Expr → ℕ
assign_weight target value = 1 + (place_weight target + expr_weight value)

-- the weight of a step, 0 where none is written
abbrev pub step_weight : Option Index → ℕ
step_weight None = 0
step_weight (Some by) = index_weight by

-- a loop counts 1, both its bounds and its step, each time it is reached
abbrev pub loop_weight : Index → Index → Option Index → ℕ
loop_weight from to by = 1 + (index_weight from + (index_weight to + step_weight by))

-- a branch counts 1 and both its sides, each time it is reached
abbrev pub branch_weight : Index → Index → ℕ
branch_weight left right = 1 + (index_weight left + index_weight right)

-- one layer of a statement: bodies are left out
abbrev pub weight_step : Stmt-F ℕ → ℕ
weight_step (Assign target value at) = assign_weight target value
weight_step (Loop from to by body at) = loop_weight from to by
weight_step (Branch left rel right taken other at) = branch_weight left right

-- the weight of a statement, without the bodies in it
abbrev pub weight : Stmt → ℕ
weight = fold-Stmt ℕ weight_step
