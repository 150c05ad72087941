-- How many turns a statement counts as it is reached, on the tree as it is written (this project's convention): 1, and 1 for each
-- number, name, operator sign and function word in it.
use Rattle.std.specs.Prelude.{◌+◌, ℕ, map, sum, Option, Some, None}
use Rattle.kernel_syntax.specs.declared.raw.RawIndexTree.{RawIndexTree, fold-RawIndexTree}
use Rattle.kernel_syntax.specs.declared.raw.RawIndexTree.TheOpen as index
use Rattle.kernel_syntax.specs.declared.raw.RawIndex.{RawIndex}
use Rattle.kernel_syntax.specs.declared.raw.RawPlace.{RawPlace}
use Rattle.kernel_syntax.specs.declared.raw.RawExpr.{RawExpr, fold-RawExpr}
use Rattle.kernel_syntax.specs.declared.raw.RawExpr.TheOpen.{RawExpr-F, RawLink-F, Number, Place, Minus, Chain, Call}
use Rattle.kernel_syntax.specs.declared.raw.RawLoop.{RawLoop}
use Rattle.kernel_syntax.specs.declared.raw.RawBranch.{RawBranch}

-- one layer of an index: a number or a name counts 1, a minus 1 more than its operand
abbrev pub tree_weight_step : index.RawIndexTree-F ℕ ℕ → ℕ
tree_weight_step (index.Number n) = 1
tree_weight_step (index.Name s) = 1
tree_weight_step (index.Minus value) = 1 + value
tree_weight_step (index.Chain left rest) = left + sum rest

-- an operator counts 1 more than its right operand
abbrev pub index_link_step : index.RawIndexLink-F ℕ ℕ → ℕ
index_link_step l = 1 + l.value

-- the weight of an index's tree
abbrev pub tree_weight : RawIndexTree → ℕ
tree_weight = fold-RawIndexTree ℕ ℕ tree_weight_step index_link_step

-- the weight of an index
abbrev pub index_weight : RawIndex → ℕ
index_weight i = tree_weight i.tree

-- a place counts its name and its indices
abbrev pub place_weight : RawPlace → ℕ
place_weight p = 1 + sum (map index_weight p.indices)

-- one layer of an expression: a number, a name, a minus and a function word count 1
abbrev pub expr_weight_step : RawExpr-F ℕ ℕ → ℕ
expr_weight_step (Number n) = 1
expr_weight_step (Place p) = place_weight p
expr_weight_step (Minus value at) = 1 + value
expr_weight_step (Chain left rest) = left + sum rest
expr_weight_step (Call op args at) = 1 + sum args

-- an operator counts 1 more than its right operand
abbrev pub link_step : RawLink-F ℕ ℕ → ℕ
link_step l = 1 + l.value

-- the weight of an expression
abbrev pub expr_weight : RawExpr → ℕ
expr_weight = fold-RawExpr ℕ ℕ expr_weight_step link_step

-- an assignment counts 1 and both its sides
abbrev pub assign_weight : RawPlace → RawExpr → ℕ
assign_weight target value = 1 + (place_weight target + expr_weight value)

-- the weight of a step, 0 where none is written
abbrev pub step_weight : Option RawIndex → ℕ
step_weight None = 0
step_weight (Some by) = index_weight by

-- a loop counts 1, both its bounds and its step
abbrev pub loop_weight : RawLoop → ℕ
loop_weight l = 1 + (index_weight l.from + (index_weight l.to + step_weight l.by))

-- a branch counts 1 and both its sides
abbrev pub branch_weight : RawBranch → ℕ
branch_weight b = 1 + (index_weight b.left + index_weight b.right)
