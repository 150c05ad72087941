-- The evaluation of a kernel: its tree is gone through directly, over the elements that are set. It is said once for all kinds of things
-- that elements may hold: a machine tells what is done with them.
use Rattle.std.specs.Prelude.{◌+◌, ◌*◌, ◌==◌, ℕ, zero, suc, ℤ, Bool, true, false, ◌&&◌, if◌then◌else◌, List, [], ◌∷◌, ◌++◌, map, Option, Some, None, Result, Ok, Err}
use Rattle.comp_graph.specs.declared.operation.Op.{Op}
use Rattle.comp_graph.specs.declared.operation.Op.TheVariants.{Neg}
use Rattle.kernel_ast.specs.declared.tree.Expr.{Expr, fold-Expr}
use Rattle.kernel_ast.specs.declared.tree.Expr.TheOpen.{Expr-F, Link-F, Number, Turn, Minus, Chain, Call}
use Rattle.kernel_ast.specs.declared.tree.Expr.TheOpen as expr
use Rattle.kernel_ast.specs.declared.tree.Stmt.{Stmt, fold-Stmt}
use Rattle.kernel_ast.specs.declared.tree.Stmt.TheOpen.{Stmt-F, Assign, Loop, Branch}
use Rattle.kernel_ast.specs.declared.tree.Place.{Place}
use Rattle.kernel_ast.specs.declared.tree.DeclKind.{DeclKind}
use Rattle.kernel_ast.specs.declared.tree.DeclKind.TheVariants.{Input, Output, Temp}
use Rattle.kernel_ast.specs.declared.element.Cell.{Cell}
use Rattle.kernel_ast.specs.declared.element.Fault.{Fault}
use Rattle.kernel_ast.specs.declared.rule.RunRule.TheVariants.{Unset, OutputUnset}
use Rattle.kernel_ast.specs.KernelParts.{KernelParts, Declared}
use Rattle.kernel_ast.specs.RunRules.{code_of}
use Rattle.kernel_ast.specs.Steps.{and_then, in_turn, each}
use Rattle.kernel_ast.specs.Places.{fault, located, loop_numbers, condition, turn, cell}
use Rattle.kernel_ast.specs.Walk.{all_at}

-- an element is read that is not set; at the place's name
abbrev pub unset : ℕ → Fault
unset = fault (code_of Unset)

-- an output element is not set at the end; at the name in its declaration
abbrev pub output_unset : ℕ → Fault
output_unset = fault (code_of OutputUnset)

-- a step that gives a value (V) and changes what grows beside the elements (S), or faults
abbrev pub Run : Type 0 → Type 0 → Type 0
Run V S = S → Result (V × S) Fault

-- what is done with the things that elements hold (V), and with what grows beside them (S): for a constant, for an operation at a place
-- of the text, and for an output element whose declaration has its name there
pub record Machine (V S : Type 0) : Type 0 where
  pub constant : ℤ → V
  pub operate : Op → ℕ → List V → S → Result (V × S) Fault
  pub output : ℕ → V → S → Result (V × S) Fault

-- the elements that are set, with what each holds
abbrev pub Elements : Type 0 → Type 0
Elements V = Cell → Option V

-- whether two elements are the same
abbrev pub is_cell : Cell → Cell → Bool
is_cell a b = (a.decl == b.decl) && (a.offset == b.offset)

-- an element is set
abbrev pub put : {V : Type 0} → Elements V → Cell → V → Elements V
put elements c v = λ other. if is_cell other c then Some v else elements other

-- what an element holds, or the fault that it is not set
abbrev pub read_option : {V S : Type 0} → Fault → Option V → Run V S
read_option f None s = Err f
read_option f (Some v) s = Ok (v, s)

-- a place is read
abbrev pub read : {V S : Type 0} → List Declared → List ℤ → Elements V → Place → Run V S
read decls indices elements p s = and_then (located decls indices p) (λ c. read_option (unset p.at) (elements c) s)

-- a chain is read from the left: the right operand, then the operation, and so on
abbrev pub chain : {V S : Type 0} → Machine V S → List ((Op × ℕ) × Run V S) → V × S → Result (V × S) Fault
chain M [] r = Ok r
chain M (l ∷ ls) r = and_then (l.1 r.1) (λ w. and_then (M.operate l.0.0 l.0.1 (r.0 ∷ w.0 ∷ []) w.1) (chain M ls))

-- the arguments from left to right, behind those before them
abbrev pub arguments : {V S : Type 0} → List (Run V S) → List V × S → Result (List V × S) Fault
arguments [] r = Ok r
arguments (f ∷ fs) r = and_then (f r.1) (λ v. arguments fs (r.0 ++ v.0 ∷ [], v.1))

-- one layer of an expression: all operands are evaluated from left to right, and then the operation
abbrev pub expr_step : {V S : Type 0} → Machine V S → List Declared → List ℤ → Elements V
    → Expr-F (Run V S) ((Op × ℕ) × Run V S) → Run V S
expr_step M decls indices elements (Number n) s = Ok (M.constant n, s)
expr_step M decls indices elements (expr.Cell place) s = read decls indices elements place s
expr_step M decls indices elements (Turn k) s = Ok (M.constant (turn indices k), s)
expr_step M decls indices elements (Minus value at) s = and_then (value s) (λ v. M.operate Neg at (v.0 ∷ []) v.1)
expr_step M decls indices elements (Chain first rest) s = and_then (first s) (chain M rest)
expr_step M decls indices elements (Call op args at) s = and_then (arguments args ([], s)) (λ vs. M.operate op at vs.0 vs.1)

-- an operator with its place, and the evaluation of its right operand
abbrev pub link_step : {V S : Type 0} → Link-F (Run V S) ((Op × ℕ) × Run V S) → (Op × ℕ) × Run V S
link_step l = ((l.op, l.at), l.value)

-- the evaluation of an expression
abbrev pub evaluate : {V S : Type 0} → Machine V S → List Declared → List ℤ → Elements V → Expr → Run V S
evaluate {V} {S} M decls indices elements = fold-Expr (Run V S) ((Op × ℕ) × Run V S) (expr_step M decls indices elements) link_step

-- the elements, and what grows beside them
abbrev pub State : Type 0 → Type 0 → Type 0
State V S = Elements V × S

-- from the indices of the open loops and a state to the state after, or a fault
abbrev pub Execution : Type 0 → Type 0 → Type 0
Execution V S = List ℤ → State V S → Result (State V S) Fault

-- an assignment: the right side is evaluated before the target is written
unfoldable pub assign : {V S : Type 0} → Machine V S → List Declared → Place → Expr → Execution V S
assign M decls target value indices s =
    and_then (evaluate M decls indices s.0 value s.1) (λ v. and_then (located decls indices target) (λ c. Ok (put s.0 c v.0, v.1)))

-- one turn of a loop's body
unfoldable pub one_pass : {S : Type 0} → List (List ℤ → S → Result S Fault) → List ℤ → ℤ → S → Result S Fault
one_pass body indices i = in_turn (all_at body (indices ++ i ∷ []))

-- one layer of a statement: a loop's bounds and its step are evaluated once, as it is reached; a branch runs its first body where its
-- relation holds, and else its second
abbrev pub stmt_step : {V S : Type 0} → Machine V S → List Declared → Stmt-F (Execution V S) → Execution V S
stmt_step M decls (Assign target value at) indices s = assign M decls target value indices s
stmt_step M decls (Loop from to by body at) indices s =
    and_then (loop_numbers indices from to by) (λ ns. each (one_pass body indices) ns s)
stmt_step M decls (Branch left rel right taken other at) indices s =
    and_then (condition indices left rel right) (λ holds. in_turn (all_at (if holds then taken else other) indices) s)

-- the execution of a statement
abbrev pub execute : {V S : Type 0} → Machine V S → List Declared → Stmt → Execution V S
execute {V} {S} M decls = fold-Stmt (Execution V S) (stmt_step M decls)

-- the execution of a list of statements outside of all loops
abbrev pub execute_all : {V S : Type 0} → Machine V S → List Declared → List Stmt → State V S → Result (State V S) Fault
execute_all M decls body s = in_turn (all_at (map (execute M decls) body) []) s

-- how many elements a declaration of these sizes has
abbrev pub element_count : List ℕ → ℕ
element_count [] = 1
element_count (m ∷ []) = m
element_count (m ∷ n ∷ more) = m * n

-- so many elements of a declaration from an offset on
abbrev pub cells_from : ℕ → ℕ → ℕ → List Cell
cells_from decl offset zero = []
cells_from decl offset (suc n) = cell decl offset ∷ cells_from decl (offset + 1) n

-- whether two kinds are the same
abbrev pub is_kind : DeclKind → DeclKind → Bool
is_kind Input Input = true
is_kind Output Output = true
is_kind Temp Temp = true
is_kind a b = false

-- the elements of a declaration row by row, each with the place of the declaration's name, if the declaration is of this kind
unfoldable pub cells_of_decl : DeclKind → ℕ → Declared → List (ℕ × Cell)
cells_of_decl kind decl d = if is_kind kind d.1.kind then map (λ c. (d.1.at, c)) (cells_from decl 0 (element_count d.1.sizes)) else []

-- the elements of one kind, in order of declaration, where the first declaration has this number
abbrev pub cells_of : DeclKind → ℕ → List Declared → List (ℕ × Cell)
cells_of kind decl [] = []
cells_of kind decl (d ∷ ds) = cells_of_decl kind decl d ++ cells_of kind (decl + 1) ds

-- one input element is set
abbrev pub enter : {V S : Type 0} → (ℕ → Run V S) → ℕ × Cell → State V S → Result (State V S) Fault
enter input c s = and_then (input c.0 s.1) (λ v. Ok (put s.0 c.1 v.0, v.1))

-- what an element holds, or a fault
abbrev pub held : {V : Type 0} → Fault → Option V → Result V Fault
held f None = Err f
held f (Some v) = Ok v

-- one output element is given out, behind those before it
abbrev pub leave : {V S : Type 0} → Machine V S → Elements V → ℕ × Cell → List V × S → Result (List V × S) Fault
leave M elements c r = and_then (held (output_unset c.0) (elements c.1)) (λ v. and_then (M.output c.0 v r.1) (λ w. Ok (r.0 ++ w.0 ∷ [], w.1)))

-- no element is set
abbrev pub no_elements : {V : Type 0} → Elements V
no_elements c = None

-- a whole run: the inputs are set, the statements executed, and the outputs given out
abbrev pub run_all : {V S : Type 0} → Machine V S → (ℕ → Run V S) → KernelParts → S → Result (List V × S) Fault
run_all M input k s =
    and_then (each (enter input) (cells_of Input 0 k.decls) (no_elements, s)) (λ entered.
    and_then (execute_all M k.decls k.body entered) (λ left.
    each (leave M left.0) (cells_of Output 0 k.decls) ([], left.1)))
