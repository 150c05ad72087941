-- Which trees of kernels are well formed (this project's convention).
use Rattle.std.specs.Prelude.{◌≡◌, ◌≤◌, ℕ, suc, ℤ, pos, int_le, Bool, true, false, ◌&&◌, ◌==◌, not, nat_lt, nat_le, List, [], ◌∷◌, map, length, Option, Some, None, slice_get}
use Rattle.std.specs.List.{All, list_all}
use Rattle.comp_graph.specs.declared.operation.Op.{Op}
use Rattle.comp_graph.specs.declared.operation.Op.TheVariants.{Add, Sub, Mul, And, Or, Xor, Min, Max, Sel, Mad}
use Rattle.comp_graph.specs.Operations.{arity_of}
use Rattle.kernel_ast.specs.declared.tree.DeclKind.{DeclKind}
use Rattle.kernel_ast.specs.declared.tree.DeclKind.TheVariants.{Input}
use Rattle.kernel_ast.specs.declared.tree.IndexTree.{fold-IndexTree}
use Rattle.kernel_ast.specs.declared.tree.IndexTree.TheOpen as index
use Rattle.kernel_ast.specs.declared.tree.Index.{Index}
use Rattle.kernel_ast.specs.declared.tree.Place.{Place}
use Rattle.kernel_ast.specs.declared.tree.Expr.{Expr, fold-Expr}
use Rattle.kernel_ast.specs.declared.tree.Expr.TheOpen.{Expr-F, Link-F, Number, Cell, Turn, Minus, Chain, Call}
use Rattle.kernel_ast.specs.declared.tree.Stmt.{Stmt, fold-Stmt}
use Rattle.kernel_ast.specs.declared.tree.Stmt.TheOpen.{Stmt-F, Assign, Loop, Branch}
use Rattle.kernel_ast.specs.KernelParts.{KernelParts, Declared}
use Rattle.kernel_ast.specs.Names.{IsName}
use Rattle.kernel_ast.specs.RunRules.{most_turns}
use Rattle.kernel_ast.specs.Weights.{assign_weight, loop_weight, branch_weight}

-- a number has at most 63 bits, and no sign
abbrev pub is_number : ℤ → Bool
is_number n = int_le (pos 0) n && int_le n (pos 9223372036854775807)

-- the level of an operator, from the loosest on, and 0 for what is no operator of a chain
abbrev pub level_of : Op → ℕ
level_of Or = 1
level_of Xor = 2
level_of And = 3
level_of Add = 4
level_of Sub = 4
level_of Mul = 5
level_of op = 0

-- there is an operator, its level is at least this one, and all are of its level
abbrev pub are_of_one_level : ℕ → List Op → Bool
are_of_one_level lowest [] = false
are_of_one_level lowest (op ∷ more) = nat_le lowest (level_of op) && list_all (λ o. level_of o == level_of op) more

-- the operators that an index's chain may have
abbrev pub are_index_operators : List Op → Bool
are_index_operators = are_of_one_level 4

-- the operators that an expression's chain may have
abbrev pub are_operators : List Op → Bool
are_operators = are_of_one_level 1

-- the operation has a function word
abbrev pub is_function : Op → Bool
is_function Min = true
is_function Max = true
is_function Sel = true
is_function Mad = true
is_function op = false

-- whether all of these hold
abbrev pub all : List Bool → Bool
all = list_all (λ b. b)

-- one layer of an index in so many loops: numbers are numbers, loop indices are those of open loops, chains have operators of one level
abbrev pub index_fits_step : ℕ → index.IndexTree-F Bool (Op × Bool) → Bool
index_fits_step loops (index.Number n) = is_number n
index_fits_step loops (index.Turn k) = nat_lt k loops
index_fits_step loops (index.Minus value) = value
index_fits_step loops (index.Chain first rest) = first && (are_index_operators (map (λ l. l.0) rest) && all (map (λ l. l.1) rest))

-- an operator of an index, with whether its right operand fits
abbrev pub index_link_step : index.IndexLink-F Bool (Op × Bool) → Op × Bool
index_link_step l = (l.op, l.value)

-- an index that stands in so many loops is well formed
abbrev pub index_fits : ℕ → Index → Bool
index_fits loops i = fold-IndexTree Bool (Op × Bool) (index_fits_step loops) index_link_step i.tree

-- there is such a declaration, and it has so many sizes
abbrev pub has_sizes : ℕ → Option Declared → Bool
has_sizes count None = false
has_sizes count (Some d) = length d.1.sizes == count

-- a place names a declaration, with as many indices as it has sizes
abbrev pub place_fits : List Declared → ℕ → Place → Bool
place_fits decls loops p = has_sizes (length p.indices) (slice_get decls p.decl) && all (map (index_fits loops) p.indices)

-- one layer of an expression in so many loops: as for an index, places fit, and calls have a function with all its operands
abbrev pub expr_fits_step : List Declared → ℕ → Expr-F Bool (Op × Bool) → Bool
expr_fits_step decls loops (Number n) = is_number n
expr_fits_step decls loops (Cell place) = place_fits decls loops place
expr_fits_step decls loops (Turn k) = nat_lt k loops
expr_fits_step decls loops (Minus value at) = value
expr_fits_step decls loops (Chain first rest) = first && (are_operators (map (λ l. l.0) rest) && all (map (λ l. l.1) rest))
expr_fits_step decls loops (Call op args at) = is_function op && ((length args == arity_of op) && all args)

-- an operator of an expression, with whether its right operand fits
abbrev pub link_step : Link-F Bool (Op × Bool) → Op × Bool
link_step l = (l.op, l.value)

-- an expression that stands in so many loops is well formed
abbrev pub expr_fits : List Declared → ℕ → Expr → Bool
expr_fits decls loops = fold-Expr Bool (Op × Bool) (expr_fits_step decls loops) link_step

-- whether a kind is `Input`
abbrev pub is_input : DeclKind → Bool
is_input Input = true
is_input kind = false

-- there is such a declaration, and it is no input
abbrev pub is_writable : Option Declared → Bool
is_writable None = false
is_writable (Some d) = not (is_input d.1.kind)

-- a target is a place that may be written
abbrev pub target_fits : List Declared → ℕ → Place → Bool
target_fits decls loops target = is_writable (slice_get decls target.decl) && place_fits decls loops target

-- all statements of a body fit in so many loops
abbrev pub all_at : ℕ → List (ℕ → Bool) → Bool
all_at loops [] = true
all_at loops (fits ∷ more) = fits loops && all_at loops more

-- a step is well formed, if one is written
abbrev pub step_fits : ℕ → Option Index → Bool
step_fits loops None = true
step_fits loops (Some by) = index_fits loops by

-- one layer of a statement in so many loops: its parts fit, its weight is at most 65,536, and at most 32 loops stand in one another;
-- a loop's bounds and its step stand outside of it, and its body in one loop more; a branch is no loop
abbrev pub stmt_fits_step : List Declared → Stmt-F (ℕ → Bool) → ℕ → Bool
stmt_fits_step decls (Assign target value at) loops =
    target_fits decls loops target && (expr_fits decls loops value && nat_le (assign_weight target value) most_turns)
stmt_fits_step decls (Loop from to by body at) loops =
    nat_lt loops 32 && (index_fits loops from && (index_fits loops to && (step_fits loops by && (nat_le (loop_weight from to by) most_turns && all_at (suc loops) body))))
stmt_fits_step decls (Branch left rel right taken other at) loops =
    index_fits loops left && (index_fits loops right && (nat_le (branch_weight left right) most_turns && (all_at loops taken && all_at loops other)))

-- a statement is well formed where it stands in so many loops
abbrev pub stmt_fits : List Declared → Stmt → ℕ → Bool
stmt_fits decls = fold-Stmt (ℕ → Bool) (stmt_fits_step decls)

-- the statements of a body in so many loops are well formed
abbrev pub body_fits : List Declared → ℕ → List Stmt → Bool
body_fits decls loops body = all_at loops (map (stmt_fits decls) body)

-- a size is from 1 to 64
abbrev pub is_size : ℕ → Bool
is_size n = nat_le 1 n && nat_le n 64

-- a declaration has a name, and at most two sizes
pub record IsDeclared (d : Declared) : Type 0 where
  pub name : IsName d.0
  pub few : length d.1.sizes ≤ 2
  pub sizes : list_all is_size d.1.sizes ≡ true

-- the title and the declarations are well formed, there are at most 65,536 of these, and the statements are well formed
pub record IsWellFormed (k : KernelParts) : Type 0 where
  pub title : IsName k.title
  pub few : length k.decls ≤ 65536
  pub decls : All IsDeclared k.decls
  pub body : body_fits k.decls 0 k.body ≡ true
