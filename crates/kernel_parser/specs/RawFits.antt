-- Which trees of a text make a well formed kernel, as long as their names have no fault: what the grammar itself promises (this
-- project's convention).
use Rattle.std.specs.Prelude.{◌≡◌, ◌≤◌, ℕ, suc, Bool, true, ◌&&◌, ◌==◌, nat_lt, nat_le, List, map, length, Option, Some, None}
use Rattle.std.specs.List.{All}
use Rattle.comp_graph.specs.declared.operation.Op.{Op}
use Rattle.comp_graph.specs.Operations.{arity_of}
use Rattle.kernel_ast.specs.Names.{IsName}
use Rattle.kernel_ast.specs.WellFormed.{is_number, are_index_operators, are_operators, is_function, all, all_at}
use Rattle.kernel_syntax.specs.declared.raw.RawDecl.{RawDecl}
use Rattle.kernel_syntax.specs.declared.raw.RawIndexTree.{RawIndexTree, fold-RawIndexTree}
use Rattle.kernel_syntax.specs.declared.raw.RawIndexTree.TheOpen as index
use Rattle.kernel_syntax.specs.declared.raw.RawIndex.{RawIndex}
use Rattle.kernel_syntax.specs.declared.raw.RawPlace.{RawPlace}
use Rattle.kernel_syntax.specs.declared.raw.RawExpr.{RawExpr, fold-RawExpr}
use Rattle.kernel_syntax.specs.declared.raw.RawExpr.TheOpen.{RawExpr-F, RawLink-F, Number, Place, Minus, Chain, Call}
use Rattle.kernel_syntax.specs.declared.raw.RawLoop.{RawLoop}
use Rattle.kernel_syntax.specs.declared.raw.RawBranch.{RawBranch}
use Rattle.kernel_syntax.specs.declared.raw.RawStmt.{RawStmt, fold-RawStmt}
use Rattle.kernel_syntax.specs.declared.raw.RawStmt.TheOpen.{RawStmt-F, Assign, Loop, Branch}
use Rattle.kernel_syntax.specs.declared.raw.RawKernel.{RawKernel}
use Rattle.kernel_parser.specs.Names.{word}
use Rattle.kernel_parser.specs.RawWeights.{assign_weight, loop_weight, branch_weight}

-- one layer of an index: numbers are numbers, and chains have operators of one level
abbrev pub index_fits_step : index.RawIndexTree-F Bool (Op × Bool) → Bool
index_fits_step (index.Number n) = is_number n
index_fits_step (index.Name s) = true
index_fits_step (index.Minus value) = value
index_fits_step (index.Chain left rest) = left && (are_index_operators (map (λ l. l.0) rest) && all (map (λ l. l.1) rest))

-- an operator of an index, with whether its right operand fits
abbrev pub index_link_step : index.RawIndexLink-F Bool (Op × Bool) → Op × Bool
index_link_step l = (l.op, l.value)

-- an index's tree fits
abbrev pub index_tree_fits : RawIndexTree → Bool
index_tree_fits = fold-RawIndexTree Bool (Op × Bool) index_fits_step index_link_step

-- an index fits
abbrev pub index_fits : RawIndex → Bool
index_fits i = index_tree_fits i.tree

-- a place fits where its indices do
abbrev pub place_fits : RawPlace → Bool
place_fits p = all (map index_fits p.indices)

-- one layer of an expression: as for an index, places fit, and calls have a function with all its operands
abbrev pub expr_fits_step : RawExpr-F Bool (Op × Bool) → Bool
expr_fits_step (Number n) = is_number n
expr_fits_step (Place p) = place_fits p
expr_fits_step (Minus value at) = value
expr_fits_step (Chain left rest) = left && (are_operators (map (λ l. l.0) rest) && all (map (λ l. l.1) rest))
expr_fits_step (Call op args at) = is_function op && ((length args == arity_of op) && all args)

-- an operator, with whether its right operand fits
abbrev pub link_step : RawLink-F Bool (Op × Bool) → Op × Bool
link_step l = (l.op, l.value)

-- an expression fits
abbrev pub expr_fits : RawExpr → Bool
expr_fits = fold-RawExpr Bool (Op × Bool) expr_fits_step link_step

-- a step fits, if one is written
abbrev pub step_fits : Option RawIndex → Bool
step_fits None = true
step_fits (Some by) = index_fits by

-- both bounds of a loop and its step fit
abbrev pub header_fits : RawLoop → Bool
header_fits l = index_fits l.from && (index_fits l.to && step_fits l.by)

-- both sides of a branch fit
abbrev pub condition_fits : RawBranch → Bool
condition_fits b = index_fits b.left && index_fits b.right

-- one layer of a statement in so many loops: its parts fit, its weight is at most 65,536, and at most 32 loops stand in one another
abbrev pub stmt_fits_step : RawStmt-F (ℕ → Bool) → ℕ → Bool
stmt_fits_step (Assign target value) loops = place_fits target && (expr_fits value && nat_le (assign_weight target value) 65536)
stmt_fits_step (Loop header body) loops = nat_lt loops 32 && (header_fits header && (nat_le (loop_weight header) 65536 && all_at (suc loops) body))
stmt_fits_step (Branch condition taken other) loops = condition_fits condition && (nat_le (branch_weight condition) 65536 && (all_at loops taken && all_at loops other))

-- a statement fits where it stands in so many loops
abbrev pub stmt_fits : RawStmt → ℕ → Bool
stmt_fits = fold-RawStmt (ℕ → Bool) stmt_fits_step

-- the statements of a body fit in so many loops
abbrev pub body_fits : ℕ → List RawStmt → Bool
body_fits loops body = all_at loops (map stmt_fits body)

-- a declaration has a name, and at most two sizes
pub record DeclFits (text : List ℕ) (d : RawDecl) : Type 0 where
  pub name : IsName (word text d.name)
  pub few : length d.sizes ≤ 2

-- the title and the declarations have names, there are at most 65,536 declarations, and the statements fit
pub record Fits (text : List ℕ) (raw : RawKernel) : Type 0 where
  pub title : IsName (word text raw.title)
  pub few : length raw.decls ≤ 65536
  pub decls : All (DeclFits text) raw.decls
  pub body : body_fits 0 raw.body ≡ true
