-- What the definitions say of small kernels, computed: graphs with their labels, outputs, and the faults of a run. Nothing cites these;
-- they show that the definitions say what is meant, with values from outside.
use Rattle.std.proofs.Common.{◌≡◌, ℕ, ℤ, pos, List, [], ◌∷◌, refl, Some, None, Ok, Err}
use Rattle.std.specs.Prelude.{codes}
use Rattle.std.specs.Fmt.{digits}
use Rattle.comp_graph.specs.declared.operation.Op.TheVariants as op
use Rattle.comp_graph.specs.declared.node.Operand.{Operand}
use Rattle.comp_graph.specs.declared.node.Operand.TheVariants.{Vertex, Const}
use Rattle.comp_graph.specs.declared.node.Node.{Node}
use Rattle.std.specs.Int.{int_wrap}
use Rattle.kernel_ast.specs.declared.tree.DeclKind.{DeclKind}
use Rattle.kernel_ast.specs.declared.tree.DeclKind.TheVariants.{Input, Output, Temp}
use Rattle.kernel_ast.specs.declared.tree.IndexTree.{roll-IndexTree}
use Rattle.kernel_ast.specs.declared.tree.IndexTree.TheOpen as index
use Rattle.kernel_ast.specs.declared.tree.Index.{Index}
use Rattle.kernel_ast.specs.declared.tree.Place.{Place}
use Rattle.kernel_ast.specs.declared.tree.Expr.{Expr, roll-Expr}
use Rattle.kernel_ast.specs.declared.tree.Expr.TheOpen as expr
use Rattle.kernel_ast.specs.declared.tree.Link.{roll-Link}
use Rattle.kernel_ast.specs.declared.tree.Stmt.{Stmt, roll-Stmt}
use Rattle.kernel_ast.specs.declared.tree.Relation.{Relation}
use Rattle.kernel_ast.specs.declared.tree.Relation.TheVariants.{Equal, Less}
use Rattle.kernel_ast.specs.declared.tree.Stmt.TheOpen.{Assign, Loop, Branch}
use Rattle.kernel_ast.specs.KernelParts.{KernelParts, Declared}
use Rattle.kernel_ast.specs.Steps.{numbers}
use Rattle.kernel_ast.specs.Places.{fault, loop_numbers, condition}
use Rattle.kernel_ast.specs.Walk.{walk, one_turn}
use Rattle.kernel_ast.specs.Machine.{assign, one_pass, cells_of_decl}
use Rattle.kernel_ast.specs.Meaning.{shape_fault, outputs}
use Rattle.kernel_ast.specs.Labels.{labels_of_decl}
use Rattle.kernel_ast.specs.KernelGraph.{graph_of}
use Rattle.kernel_ast.proofs.Trees.{trees}

-- a declaration whose name stands at a place
abbrev declared : List ℕ → DeclKind → List ℕ → ℕ → Declared
declared name kind sizes at = (name, record { kind = kind; sizes = sizes; at = at })

-- an index that is a number, at 50
abbrev number : ℤ → Index
number n = record { at = 50; tree = roll-IndexTree (index.Number n) }

-- an index that is an open loop's, at 51
abbrev turn : ℕ → Index
turn k = record { at = 51; tree = roll-IndexTree (index.Turn k) }

-- an element at a place
abbrev element : ℕ → List Index → ℕ → Place
element decl indices at = record { decl = decl; indices = indices; at = at }

-- an element as an operand
abbrev read : Place → Expr
read p = roll-Expr (expr.Cell p)

-- a number as an operand
abbrev constant : ℤ → Expr
constant n = roll-Expr (expr.Number n)

-- a sum, whose sign stands at 70
abbrev plus : Expr → Expr → Expr
plus a b = roll-Expr (expr.Chain a (roll-Link (record { op = op.Add; value = b; at = 70 }) ∷ []))

-- an assignment, at 80
abbrev set : Place → Expr → Stmt
set p e = roll-Stmt (Assign p e 80)

-- a loop, at 90
abbrev repeat : Index → Index → List Stmt → Stmt
repeat from to body = roll-Stmt (Loop from to None body 90)

-- a loop with a step, at 90
abbrev repeat_by : Index → Index → Index → List Stmt → Stmt
repeat_by from to by body = roll-Stmt (Loop from to (Some by) body 90)

-- a branch, at 95
abbrev branch : Index → Relation → Index → List Stmt → List Stmt → Stmt
branch left rel right taken other = roll-Stmt (Branch left rel right taken other 95)

-- a kernel of the title `k`
abbrev kernel : List Declared → List Stmt → KernelParts
kernel decls body = record { title = codes "k"; decls = decls; body = body }

-- in x; out y; y = x + 1;
abbrev increment : KernelParts
increment = kernel (declared (codes "x") Input [] 1 ∷ declared (codes "y") Output [] 2 ∷ [])
    (set (element 1 [] 3) (plus (read (element 0 [] 4)) (constant (pos 1))) ∷ [])

pub increment_graph : graph_of increment ≡ Ok (record {
  title = codes "k";
  nodes = record { op = op.Input; args = Const (pos 0) ∷ Const (pos 0) ∷ Const (pos 0) ∷ [] } ∷ record { op = op.Add; args = Vertex 0 ∷ Const (pos 1) ∷ Const (pos 0) ∷ [] } ∷ [];
  names = codes "x" ∷ [];
  outputs = record { label = codes "y"; vertex = 1 } ∷ [];
})
unfolding assign cells_of_decl labels_of_decl
increment_graph = simp trees refl

pub increment_outputs : outputs increment (pos 41 ∷ []) ≡ pos 42 ∷ []
unfolding assign cells_of_decl int_wrap
increment_outputs = simp trees refl

-- what stands in an operand's place that is left
abbrev none : Operand
none = Const (pos 0)

-- in a[2]; out s; s = 7; for i in 0 .. 2 { s = s + a[i]; }
abbrev total : KernelParts
total = kernel (declared (codes "a") Input (2 ∷ []) 1 ∷ declared (codes "s") Output [] 2 ∷ [])
    (set (element 1 [] 3) (constant (pos 7))
    ∷ repeat (number (pos 0)) (number (pos 2)) (set (element 1 [] 3) (plus (read (element 1 [] 3)) (read (element 0 (turn 0 ∷ []) 4))) ∷ []) ∷ [])

pub total_graph : graph_of total ≡ Ok (record {
  title = codes "k";
  nodes = record { op = op.Input; args = none ∷ none ∷ none ∷ [] } ∷ record { op = op.Input; args = none ∷ none ∷ none ∷ [] }
      ∷ record { op = op.Add; args = Const (pos 7) ∷ Vertex 0 ∷ none ∷ [] } ∷ record { op = op.Add; args = Vertex 2 ∷ Vertex 1 ∷ none ∷ [] } ∷ [];
  names = codes "a[0]" ∷ codes "a[1]" ∷ [];
  outputs = record { label = codes "s"; vertex = 3 } ∷ [];
})
unfolding assign cells_of_decl labels_of_decl loop_numbers numbers one_turn one_pass digits
total_graph = simp trees refl

-- in a[4]; out y; y = 0; for i in 0 .. 4 by 2 { y = y + a[i]; }
abbrev every_other : KernelParts
every_other = kernel (declared (codes "a") Input (4 ∷ []) 1 ∷ declared (codes "y") Output [] 2 ∷ [])
    (set (element 1 [] 3) (constant (pos 0))
    ∷ repeat_by (number (pos 0)) (number (pos 4)) (number (pos 2)) (set (element 1 [] 3) (plus (read (element 1 [] 3)) (read (element 0 (turn 0 ∷ []) 4))) ∷ []) ∷ [])

-- out y; for i in 0 .. 4 { if i == 2 { y = i; } }
abbrev second : KernelParts
second = kernel (declared (codes "y") Output [] 2 ∷ [])
    (repeat (number (pos 0)) (number (pos 4)) (branch (turn 0) Equal (number (pos 2)) (set (element 0 [] 3) (roll-Expr (expr.Turn 0)) ∷ []) [] ∷ []) ∷ [])

pub second_graph : graph_of second ≡ Ok (record {
  title = codes "k";
  nodes = record { op = op.Set; args = Const (pos 2) ∷ none ∷ none ∷ [] } ∷ [];
  names = [];
  outputs = record { label = codes "y"; vertex = 0 } ∷ [];
})
unfolding assign cells_of_decl labels_of_decl loop_numbers condition numbers one_turn one_pass digits
second_graph = simp trees refl

-- out y; y = 2 + 3; a constant output element has a vertex of its own
abbrev folded : KernelParts
folded = kernel (declared (codes "y") Output [] 2 ∷ []) (set (element 0 [] 3) (plus (constant (pos 2)) (constant (pos 3))) ∷ [])

pub folded_graph : graph_of folded ≡ Ok (record {
  title = codes "k";
  nodes = record { op = op.Set; args = Const (pos 5) ∷ none ∷ none ∷ [] } ∷ [];
  names = [];
  outputs = record { label = codes "y"; vertex = 0 } ∷ [];
})
unfolding assign cells_of_decl labels_of_decl int_wrap
folded_graph = simp trees refl

-- in A[2][3]; out y; y = A[1][2]; a copy has no vertex
abbrev copied : KernelParts
copied = kernel (declared (codes "A") Input (2 ∷ 3 ∷ []) 1 ∷ declared (codes "y") Output [] 2 ∷ [])
    (set (element 1 [] 3) (read (element 0 (number (pos 1) ∷ number (pos 2) ∷ []) 4)) ∷ [])

-- the node of an input
abbrev input : Node
input = record { op = op.Input; args = none ∷ none ∷ none ∷ [] }

pub every_other_graph : graph_of every_other ≡ Ok (record {
  title = codes "k";
  nodes = input ∷ input ∷ input ∷ input ∷ record { op = op.Add; args = Const (pos 0) ∷ Vertex 0 ∷ none ∷ [] } ∷ record { op = op.Add; args = Vertex 4 ∷ Vertex 2 ∷ none ∷ [] } ∷ [];
  names = codes "a[0]" ∷ codes "a[1]" ∷ codes "a[2]" ∷ codes "a[3]" ∷ [];
  outputs = record { label = codes "y"; vertex = 5 } ∷ [];
})
unfolding assign cells_of_decl labels_of_decl loop_numbers numbers one_turn one_pass digits
every_other_graph = simp trees refl

pub copied_graph : graph_of copied ≡ Ok (record {
  title = codes "k";
  nodes = input ∷ input ∷ input ∷ input ∷ input ∷ input ∷ [];
  names = codes "A[0][0]" ∷ codes "A[0][1]" ∷ codes "A[0][2]" ∷ codes "A[1][0]" ∷ codes "A[1][1]" ∷ codes "A[1][2]" ∷ [];
  outputs = record { label = codes "y"; vertex = 5 } ∷ [];
})
unfolding assign cells_of_decl labels_of_decl digits
copied_graph = simp trees refl

-- ---- faults

-- tmp a[2]; out y; with these statements
abbrev row : List Stmt → KernelParts
row body = kernel (declared (codes "a") Temp (2 ∷ []) 1 ∷ declared (codes "y") Output [] 2 ∷ []) body

-- y = a[2];
pub out_of_range : shape_fault (row (set (element 1 [] 3) (read (element 0 (number (pos 2) ∷ []) 4)) ∷ [])) ≡ Some (fault 7 4)
out_of_range = simp trees refl

-- y = a[1000001]; the value is tested before the range
pub big_index : shape_fault (row (set (element 1 [] 3) (read (element 0 (number (pos 1000001) ∷ []) 4)) ∷ [])) ≡ Some (fault 14 50)
big_index = simp trees refl

-- y = a[1];
pub unset : shape_fault (row (set (element 1 [] 3) (read (element 0 (number (pos 1) ∷ []) 4)) ∷ [])) ≡ Some (fault 8 4)
unfolding assign cells_of_decl
unset = simp trees refl

-- a[0] = 1;
pub output_unset : shape_fault (row (set (element 0 (number (pos 0) ∷ []) 4) (constant (pos 1)) ∷ [])) ≡ Some (fault 10 2)
unfolding assign cells_of_decl
output_unset = simp trees refl

-- for i in 2 .. 1 { y = a[2]; } y = 1; what is not executed has no fault
pub no_turn : shape_fault (row (repeat (number (pos 2)) (number (pos 1)) (set (element 1 [] 3) (read (element 0 (number (pos 2) ∷ []) 4)) ∷ []) ∷ set (element 1 [] 3) (constant (pos 1)) ∷ [])) ≡ None
unfolding assign cells_of_decl loop_numbers numbers one_turn one_pass
no_turn = simp trees refl

-- for i in 0 .. 1000001 { } the loop counts 3 turns, and then its second bound is too big
pub big_bound : shape_fault (row (repeat (number (pos 0)) (number (pos 1000001)) [] ∷ [])) ≡ Some (fault 14 50)
unfolding loop_numbers
big_bound = simp trees refl

-- for i in 0 .. 3 by 0 { } the step is at 50
pub bad_step : shape_fault (row (repeat_by (number (pos 0)) (number (pos 3)) (number (pos 0)) [] ∷ [])) ≡ Some (fault 17 50)
unfolding loop_numbers
bad_step = simp trees refl

-- if 1 < 1 { y = a[2]; } else { y = 1; } what is not executed has no fault
pub other_body : shape_fault (row (branch (number (pos 1)) Less (number (pos 1)) (set (element 1 [] 3) (read (element 0 (number (pos 2) ∷ []) 4)) ∷ []) (set (element 1 [] 3) (constant (pos 1)) ∷ []) ∷ [])) ≡ None
unfolding assign cells_of_decl condition
other_body = simp trees refl

-- a turn more than 65,536; the statement is at 80 and counts 3
pub too_many_turns : walk (row []).decls (set (element 1 [] 3) (constant (pos 1))) [] 65534 ≡ Err (fault 12 80)
too_many_turns = simp trees refl

pub last_turn : walk (row []).decls (set (element 1 [] 3) (constant (pos 1))) [] 65533 ≡ Ok 65536
last_turn = simp trees refl
