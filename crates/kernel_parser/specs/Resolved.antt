-- The tree of a kernel whose names are known (this project's convention). What is said of a name that is not known, or is at fault
-- in another way, has no meaning: such a kernel has faults.
use Rattle.std.specs.Prelude.{ℕ, pos, List, [], ◌∷◌, ◌++◌, map, Option, Some, None}
use Rattle.kernel_ast.specs.KernelParts.{Declared, KernelParts}
use Rattle.kernel_ast.specs.declared.tree.IndexTree.{IndexTree}
use Rattle.kernel_ast.specs.declared.tree.IndexTree.TheVariants as index
use Rattle.kernel_ast.specs.declared.tree.IndexLink.{IndexLink, roll-IndexLink}
use Rattle.kernel_ast.specs.declared.tree.Index.{Index}
use Rattle.kernel_ast.specs.declared.tree.Place.{Place}
use Rattle.kernel_ast.specs.declared.tree.Expr.{Expr}
use Rattle.kernel_ast.specs.declared.tree.Expr.TheVariants as expr
use Rattle.kernel_ast.specs.declared.tree.Link.{Link, roll-Link}
use Rattle.kernel_ast.specs.declared.tree.Stmt.{Stmt}
use Rattle.kernel_ast.specs.declared.tree.Stmt.TheVariants as stmt
use Rattle.kernel_parser.specs.declared.names.scope.NameMeaning.{NameMeaning}
use Rattle.kernel_parser.specs.declared.names.scope.NameMeaning.TheVariants.{Turn, Element, Unknown}
use Rattle.kernel_syntax.specs.declared.raw.RawIndexTree.{RawIndexTree, fold-RawIndexTree}
use Rattle.kernel_syntax.specs.declared.raw.RawIndexTree.TheOpen as raw_index
use Rattle.kernel_syntax.specs.declared.raw.RawIndexTree.TheFolds.{fold-RawIndexLink}
use Rattle.kernel_syntax.specs.declared.raw.RawIndexLink.{RawIndexLink}
use Rattle.kernel_syntax.specs.declared.raw.RawIndex.{RawIndex}
use Rattle.kernel_syntax.specs.declared.raw.RawPlace.{RawPlace}
use Rattle.kernel_syntax.specs.declared.raw.RawExpr.{RawExpr, fold-RawExpr}
use Rattle.kernel_syntax.specs.declared.raw.RawExpr.TheOpen.{RawExpr-F, RawLink-F, Number, Place as Read, Minus, Chain, Call}
use Rattle.kernel_syntax.specs.declared.raw.RawExpr.TheFolds.{fold-RawLink}
use Rattle.kernel_syntax.specs.declared.raw.RawLink.{RawLink}
use Rattle.kernel_syntax.specs.declared.raw.RawStmt.{RawStmt, fold-RawStmt}
use Rattle.kernel_syntax.specs.declared.raw.RawStmt.TheOpen.{RawStmt-F, Assign, Loop, Branch}
use Rattle.kernel_syntax.specs.declared.raw.RawKernel.{RawKernel}
use Rattle.kernel_parser.specs.Names.{Known, name_meaning, word, known_in, declared}

-- what a name in an index stands for
abbrev pub turn_of : NameMeaning → IndexTree
turn_of (Turn k) = index.Turn k
turn_of (Element d) = index.Number (pos 0)
turn_of Unknown = index.Number (pos 0)

-- one layer of an index
abbrev pub index_tree_step : Known → raw_index.RawIndexTree-F IndexTree IndexLink → IndexTree
index_tree_step known (raw_index.Number n) = index.Number n
index_tree_step known (raw_index.Name s) = turn_of (name_meaning known s)
index_tree_step known (raw_index.Minus value) = index.Minus value
index_tree_step known (raw_index.Chain left rest) = index.Chain left rest

-- an operator of an index
abbrev pub index_link_step : raw_index.RawIndexLink-F IndexTree IndexLink → IndexLink
index_link_step l = roll-IndexLink (record { op = l.op; value = l.value })

-- the tree of an index
abbrev pub index_tree : Known → RawIndexTree → IndexTree
index_tree known = fold-RawIndexTree IndexTree IndexLink (index_tree_step known) index_link_step

-- an operator of an index, and its right operand
abbrev pub index_link : Known → RawIndexLink → IndexLink
index_link known = fold-RawIndexLink IndexTree IndexLink (index_tree_step known) index_link_step

-- an index
abbrev pub index_of : Known → RawIndex → Index
index_of known i = record { at = i.at; tree = index_tree known i.tree }

-- a step, if one is written
abbrev pub step_of : Known → Option RawIndex → Option Index
step_of known None = None
step_of known (Some by) = Some (index_of known by)

-- a name in an expression: the index of an open loop, or an element
abbrev pub read_of : NameMeaning → List Index → ℕ → Expr
read_of (Turn k) indices at = expr.Turn k
read_of (Element d) indices at = expr.Cell (record { decl = d; indices = indices; at = at })
read_of Unknown indices at = expr.Number (pos 0)

-- a place in an expression
abbrev pub place_of : Known → RawPlace → Expr
place_of known p = read_of (name_meaning known p.name) (map (index_of known) p.indices) p.name.from

-- the declaration that a target names
abbrev pub decl_of : NameMeaning → ℕ
decl_of (Turn k) = 0
decl_of (Element d) = d
decl_of Unknown = 0

-- a place that is assigned to
abbrev pub target_of : Known → RawPlace → Place
target_of known p = record { decl = decl_of (name_meaning known p.name); indices = map (index_of known) p.indices; at = p.name.from }

-- one layer of an expression
abbrev pub expr_step : Known → RawExpr-F Expr Link → Expr
expr_step known (Number n) = expr.Number n
expr_step known (Read p) = place_of known p
expr_step known (Minus value at) = expr.Minus value at
expr_step known (Chain left rest) = expr.Chain left rest
expr_step known (Call op args at) = expr.Call op args at

-- an operator
abbrev pub link_step : RawLink-F Expr Link → Link
link_step l = roll-Link (record { op = l.op; value = l.value; at = l.at })

-- an expression
abbrev pub expr_of : Known → RawExpr → Expr
expr_of known = fold-RawExpr Expr Link (expr_step known) link_step

-- an operator, and its right operand
abbrev pub link_of : Known → RawLink → Link
link_of known = fold-RawLink Expr Link (expr_step known) link_step

-- an assignment begins with its target's name
abbrev pub assign_of : Known → RawPlace → RawExpr → Stmt
assign_of known target value = stmt.Assign (target_of known target) (expr_of known value) target.name.from

-- the statements of a body, all in the same loops
abbrev pub all_in : List (List (List ℕ) → Stmt) → List (List ℕ) → List Stmt
all_in [] loops = []
all_in (f ∷ fs) loops = f loops ∷ all_in fs loops

-- one layer of a statement in these loops: the name of a loop is known in its body
abbrev pub stmt_step : List ℕ → List Declared → RawStmt-F (List (List ℕ) → Stmt) → List (List ℕ) → Stmt
stmt_step text decls (Assign target value) loops = assign_of (known_in text decls loops) target value
stmt_step text decls (Loop header body) loops =
    stmt.Loop (index_of (known_in text decls loops) header.from) (index_of (known_in text decls loops) header.to) (step_of (known_in text decls loops) header.by)
    (all_in body (loops ++ word text header.name ∷ [])) header.at
stmt_step text decls (Branch condition taken other) loops =
    stmt.Branch (index_of (known_in text decls loops) condition.left) condition.rel (index_of (known_in text decls loops) condition.right) (all_in taken loops) (all_in other loops) condition.at

-- a statement in these loops
abbrev pub stmt_of : List ℕ → List Declared → RawStmt → List (List ℕ) → Stmt
stmt_of text decls = fold-RawStmt (List (List ℕ) → Stmt) (stmt_step text decls)

-- the statements of a body in these loops
abbrev pub body_of : List ℕ → List Declared → List RawStmt → List (List ℕ) → List Stmt
body_of text decls body = all_in (map (stmt_of text decls) body)

-- a kernel: its declarations in order, and its statements in no loop
abbrev pub tree_of : List ℕ → RawKernel → KernelParts
tree_of text raw =
    record {
      title = word text raw.title;
      decls = map (declared text) raw.decls;
      body = body_of text (map (declared text) raw.decls) raw.body [];
    }
