-- What a kernel means: its faults, its log of operations, and its outputs (this project's convention). An element holds a number, which
-- hangs on the values of the inputs, and where it came from, which does not.
use Rattle.std.specs.Prelude.{ℕ, ℤ, pos, nat_lt, if◌then◌else◌, List, [], ◌∷◌, ◌++◌, map, length, Option, Some, None, Result, Ok, Err, slice_index_or}
use Rattle.comp_graph.specs.declared.operation.Op.{Op}
use Rattle.comp_graph.specs.declared.operation.Op.TheVariants.{Input, Set}
use Rattle.comp_graph.specs.declared.node.Operand.{Operand}
use Rattle.comp_graph.specs.declared.node.Operand.TheVariants.{Vertex, Const}
use Rattle.comp_graph.specs.Operations.{value_at}
use Rattle.kernel_ast.specs.declared.element.Fault.{Fault}
use Rattle.kernel_ast.specs.declared.rule.RunRule.TheVariants.{TooManyVertices}
use Rattle.kernel_ast.specs.KernelParts.{KernelParts}
use Rattle.kernel_ast.specs.RunRules.{code_of, most_vertices}
use Rattle.kernel_ast.specs.Steps.{and_then}
use Rattle.kernel_ast.specs.Places.{fault}
use Rattle.kernel_ast.specs.Walk.{walk_all}
use Rattle.kernel_ast.specs.Machine.{Machine, Run, run_all}

-- a 257th vertex is needed; at the sign or function word, or at the name in the declaration of the input or output
abbrev pub too_many_vertices : ℕ → Fault
too_many_vertices = fault (code_of TooManyVertices)

-- an entry of the log: an operation, with operands that are earlier entries or constants
pub record Entry : Type 0 where
  pub op : Op
  pub operands : List Operand

-- such an entry
abbrev pub entry : Op → List Operand → Entry
entry op operands = record { op = op; operands = operands }

-- an entry is appended, and comes from there itself; there are at most 256
abbrev pub append_entry : ℕ → Entry → Run Operand (List Entry)
append_entry at e log = if nat_lt (length log) most_vertices then Ok (Vertex (length log), log ++ e ∷ []) else Err (too_many_vertices at)

-- one operand more, if it is a constant too
abbrev pub add_constant : Operand → Option (List ℤ) → Option (List ℤ)
add_constant (Const n) (Some ns) = Some (n ∷ ns)
add_constant o ns = None

-- the numbers of operands that are all constants, and none where one is not
abbrev pub constants : List Operand → Option (List ℤ)
constants [] = Some []
constants (o ∷ os) = add_constant o (constants os)

-- an operation on constants alone is a constant, and each other one is appended
abbrev pub fold_or_append : Op → ℕ → List Operand → Option (List ℤ) → Run Operand (List Entry)
fold_or_append op at args None log = append_entry at (entry op args) log
fold_or_append op at args (Some ns) log = Ok (Const (value_at op ns), log)

-- an output element that holds a constant appends an entry `Set`
abbrev pub set_output : ℕ → Operand → Run Operand (List Entry)
set_output at (Vertex v) log = Ok (Vertex v, log)
set_output at (Const n) log = append_entry at (entry Set (Const n ∷ [])) log

-- an input element appends an entry `Input`
abbrev pub input_origin : ℕ → Run Operand (List Entry)
input_origin at = append_entry at (entry Input [])

-- origins alone: where numbers come from, and what is appended to the log
abbrev pub origins : Machine Operand (List Entry)
origins = record {
  constant = Const;
  operate = λ op at args. fold_or_append op at args (constants args);
  output = set_output;
}

-- a number, which hangs on the values of the inputs, with its origin: an entry of the log, or a constant
pub record Held : Type 0 where
  pub number : List ℤ → ℤ
  pub origin : Operand

-- an origin, with the number that is held there
abbrev pub with_number : (List ℤ → ℤ) → Operand × List Entry → Result (Held × List Entry) Fault
with_number number r = Ok (record { number = number; origin = r.0 }, r.1)

-- numbers come from numbers, and origins from origins
abbrev pub numbered : Machine Held (List Entry)
numbered = record {
  constant = λ n. record { number = λ values. n; origin = Const n };
  operate = λ op at args log. and_then (origins.operate op at (map (λ a. a.origin) args) log)
      (with_number (λ values. value_at op (map (λ a. a.number values) args)));
  output = λ at v log. and_then (origins.output at v.origin log) (with_number v.number);
}

-- the k-th input element holds the k-th value
abbrev pub numbered_input : ℕ → Run Held (List Entry)
numbered_input at log = and_then (input_origin at log) (with_number (λ values. slice_index_or values (length log) (pos 0)))

-- what the output elements hold, and the log: first comes the whole walk, and then the values
abbrev pub kernel_meaning : KernelParts → Result (List Held × List Entry) Fault
kernel_meaning k = and_then (walk_all k.decls k.body) (λ _. run_all numbered numbered_input k [])

-- the fault of a result, if it is one
abbrev pub fault_of : {A : Type 0} → Result A Fault → Option Fault
fault_of (Ok a) = None
fault_of (Err f) = Some f

-- the first fault of a kernel's run, if it has one
abbrev pub shape_fault : KernelParts → Option Fault
shape_fault k = fault_of (kernel_meaning k)

-- the log of a result
abbrev pub log_of : Result (List Held × List Entry) Fault → List Entry
log_of (Ok r) = r.1
log_of (Err f) = []

-- the log of a kernel without fault
abbrev pub log : KernelParts → List Entry
log k = log_of (kernel_meaning k)

-- what the output elements of a result hold
abbrev pub held_of : Result (List Held × List Entry) Fault → List Held
held_of (Ok r) = r.0
held_of (Err f) = []

-- the numbers of the output elements of a kernel without fault, for these values of the inputs
abbrev pub outputs : KernelParts → List ℤ → List ℤ
outputs k values = map (λ h. h.number values) (held_of (kernel_meaning k))
