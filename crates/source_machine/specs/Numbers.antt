-- The machine of plain numbers: an element holds a number and whether it is a constant, and beside the elements the vertices are counted.
use Rattle.std.specs.Prelude.{◌+◌, ℕ, ℤ, pos, nat_lt, Bool, true, false, ◌&&◌, if◌then◌else◌, List, [], ◌∷◌, map, Result, Ok, Err, slice_index_or}
use Rattle.comp_graph.specs.declared.operation.Op.{Op}
use Rattle.comp_graph.specs.Operations.{value_at}
use Rattle.kernel_ast.specs.declared.tree.Expr.TheFolds.{fold-Link}
use Rattle.kernel_ast.specs.declared.tree.Link.{Link}
use Rattle.kernel_ast.specs.declared.element.Fault.{Fault}
use Rattle.kernel_ast.specs.KernelParts.{KernelParts, Declared}
use Rattle.kernel_ast.specs.RunRules.{most_vertices}
use Rattle.kernel_ast.specs.Steps.{and_then}
use Rattle.kernel_ast.specs.Walk.{walk_all}
use Rattle.kernel_ast.specs.Machine.{Machine, Run, Elements, expr_step, link_step, run_all}
use Rattle.kernel_ast.specs.Meaning.{too_many_vertices}
use Rattle.source_machine.specs.declared.value.Value.{Value}

-- a number, and whether it is a constant
abbrev pub value : ℤ → Bool → Value
value number is_constant = record { number = number; is_constant = is_constant }

-- a number at a new vertex; there are at most 256
abbrev pub counted : ℕ → ℤ → ℕ → Result (Value × ℕ) Fault
counted at number vertices = if nat_lt vertices most_vertices then Ok (value number false, vertices + 1) else Err (too_many_vertices at)

-- whether all are constants
abbrev pub all_constant : List Value → Bool
all_constant [] = true
all_constant (v ∷ vs) = v.is_constant && all_constant vs

-- the number that an operation gives
abbrev pub result_of : Op → List Value → ℤ
result_of op args = value_at op (map (λ a. a.number) args)

-- an operation on constants alone is a constant, and each other one is a new vertex
abbrev pub operate : Op → ℕ → List Value → Run Value ℕ
operate op at args vertices = if all_constant args then Ok (value (result_of op args) true, vertices) else counted at (result_of op args) vertices

-- an output element that holds a constant is a new vertex
abbrev pub output : ℕ → Value → Run Value ℕ
output at v vertices = if v.is_constant then counted at v.number vertices else Ok (v, vertices)

-- the machine
abbrev pub numbers : Machine Value ℕ
numbers = record {
  constant = λ n. value n true;
  operate = operate;
  output = output;
}

-- the k-th input element is the k-th vertex, and holds the k-th value, and 0 where there is none
abbrev pub input : List ℤ → ℕ → Run Value ℕ
input values at vertices = counted at (slice_index_or values vertices (pos 0)) vertices

-- an operator with its place, and the evaluation of its right operand
abbrev pub link_run : List Declared → List ℤ → Elements Value → Link → (Op × ℕ) × Run Value ℕ
link_run decls indices elements = fold-Link (Run Value ℕ) ((Op × ℕ) × Run Value ℕ) (expr_step numbers decls indices elements) link_step

-- what the output elements hold, and the number of vertices: first comes the whole walk, and then the values
abbrev pub evaluation : KernelParts → List ℤ → Result (List Value × ℕ) Fault
evaluation k values = and_then (walk_all k.decls k.body) (λ _. run_all numbers (input values) k 0)
