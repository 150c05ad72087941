-- The values of indices, and the elements that places name (this project's convention).
use Rattle.std.specs.Prelude.{◌+◌, ◌*◌, ℕ, ℤ, pos, negsuc, neg_ℤ, ◌+ℤ◌, ◌-ℤ◌, ◌*ℤ◌, int_le, int_lt, Bool, ◌&&◌, not, if◌then◌else◌, List, [], ◌∷◌, Option, Some, None, Result, Ok, Err, slice_get, slice_index_or, unsigned_abs}
use Rattle.std.specs.Ordering.{int_eq}
use Rattle.comp_graph.specs.declared.operation.Op.{Op}
use Rattle.comp_graph.specs.declared.operation.Op.TheVariants.{Add, Sub, Mul}
use Rattle.kernel_ast.specs.declared.tree.IndexTree.{IndexTree, fold-IndexTree}
use Rattle.kernel_ast.specs.declared.tree.IndexTree.TheOpen.{IndexTree-F, IndexLink-F, Number, Turn, Minus, Chain}
use Rattle.kernel_ast.specs.declared.tree.IndexTree.TheFolds.{fold-IndexLink}
use Rattle.kernel_ast.specs.declared.tree.IndexLink.{IndexLink}
use Rattle.kernel_ast.specs.declared.tree.Index.{Index}
use Rattle.kernel_ast.specs.declared.tree.Relation.{Relation}
use Rattle.kernel_ast.specs.declared.tree.Relation.TheVariants.{Equal, NotEqual, Less, AtMost, More, AtLeast}
use Rattle.kernel_ast.specs.declared.tree.Place.{Place}
use Rattle.kernel_ast.specs.declared.element.Cell.{Cell}
use Rattle.kernel_ast.specs.declared.element.Fault.{Fault}
use Rattle.kernel_ast.specs.KernelParts.{Declared}
use Rattle.kernel_ast.specs.declared.rule.RunRule.TheVariants.{OutOfRange, BigIndex, BadStep}
use Rattle.kernel_ast.specs.RunRules.{code_of}
use Rattle.kernel_ast.specs.Steps.{and_then, numbers}

-- a fault by its code and its place in the text
abbrev pub fault : ℕ → ℕ → Fault
fault code at = record { code = code; at = at }

-- an index value is below 0 or not below its size; at the place's name
abbrev pub out_of_range : ℕ → Fault
out_of_range = fault (code_of OutOfRange)

-- a number, or the value of an operator or a minus sign, in an index is below -1,000,000 or above 1,000,000; at the first token of that
-- index
abbrev pub big_index : ℕ → Fault
big_index = fault (code_of BigIndex)

-- a value is from -1,000,000 to 1,000,000
abbrev pub is_small : ℤ → Bool
is_small n = int_le (negsuc 999999) n && int_le n (pos 1000000)

-- a value that an index may have on the way
abbrev pub small : ℤ → Option ℤ
small n = if is_small n then Some n else None

-- go on with a value, if there is one
abbrev pub then_small : Option ℤ → (ℤ → Option ℤ) → Option ℤ
then_small None f = None
then_small (Some n) f = f n

-- the value of an operator of an index; it does not wrap
abbrev pub index_value_of : Op → ℤ → ℤ → ℤ
index_value_of Add a b = a +ℤ b
index_value_of Sub a b = a -ℤ b
index_value_of Mul a b = a *ℤ b
index_value_of op a b = a

-- a chain is read from the left, and each operator's value must be small
abbrev pub index_chain : ℤ → List (Op × Option ℤ) → Option ℤ
index_chain total [] = Some total
index_chain total (l ∷ ls) = then_small l.1 (λ n. then_small (small (index_value_of l.0 total n)) (λ next. index_chain next ls))

-- the index of the k-th open loop from outside
abbrev pub turn : List ℤ → ℕ → ℤ
turn indices k = slice_index_or indices k (pos 0)

-- one layer of an index: each number, and the value of each minus and operator, must be small
abbrev pub index_step : List ℤ → IndexTree-F (Option ℤ) (Op × Option ℤ) → Option ℤ
index_step indices (Number n) = small n
index_step indices (Turn k) = Some (turn indices k)
index_step indices (Minus value) = then_small value (λ n. small (neg_ℤ n))
index_step indices (Chain first rest) = then_small first (λ n. index_chain n rest)

-- an operator of an index, with the value of its right operand
abbrev pub index_link_step : IndexLink-F (Option ℤ) (Op × Option ℤ) → Op × Option ℤ
index_link_step l = (l.op, l.value)

-- the value of an index's tree while the open loops stand at these indices, or none if a value on the way is not small
abbrev pub index_value : List ℤ → IndexTree → Option ℤ
index_value indices = fold-IndexTree (Option ℤ) (Op × Option ℤ) (index_step indices) index_link_step

-- the same of an operator with its right operand
abbrev pub index_link : List ℤ → IndexLink → Op × Option ℤ
index_link indices = fold-IndexLink (Option ℤ) (Op × Option ℤ) (index_step indices) index_link_step

-- what there is, or else this fault
abbrev pub ok_or_fault : {A : Type 0} → Fault → Option A → Result A Fault
ok_or_fault f None = Err f
ok_or_fault f (Some a) = Ok a

-- the value of an index, or its fault
abbrev pub value_of_index : List ℤ → Index → Result ℤ Fault
value_of_index indices i = ok_or_fault (big_index i.at) (index_value indices i.tree)

-- the value of a step is below 1; at the first token of the step
abbrev pub bad_step : ℕ → Fault
bad_step = fault (code_of BadStep)

-- a step is at least 1
abbrev pub tested_step : ℕ → ℤ → Result ℤ Fault
tested_step at n = if int_le (pos 1) n then Ok n else Err (bad_step at)

-- the step of a loop, 1 where none is written
abbrev pub step_of : List ℤ → Option Index → Result ℤ Fault
step_of indices None = Ok (pos 1)
step_of indices (Some by) = and_then (value_of_index indices by) (tested_step by.at)

-- the numbers that a loop's index takes: the first bound, the second and the step are evaluated, and then the step is tested
unfoldable pub loop_numbers : List ℤ → Index → Index → Option Index → Result (List ℤ) Fault
loop_numbers indices from to by =
    and_then (value_of_index indices from) (λ a. and_then (value_of_index indices to) (λ b. and_then (step_of indices by) (λ step. Ok (numbers a b step))))

-- whether a relation holds of two whole numbers
abbrev pub is_related : Relation → ℤ → ℤ → Bool
is_related Equal a b = int_eq a b
is_related NotEqual a b = not (int_eq a b)
is_related Less a b = int_lt a b
is_related AtMost a b = int_le a b
is_related More a b = int_lt b a
is_related AtLeast a b = int_le b a

-- whether a branch's relation holds: its left side is evaluated, and then its right one
unfoldable pub condition : List ℤ → Index → Relation → Index → Result Bool Fault
condition indices left rel right = and_then (value_of_index indices left) (λ a. and_then (value_of_index indices right) (λ b. Ok (is_related rel a b)))

-- an index value is from 0 to its size less 1
abbrev pub is_within : ℤ → ℕ → Bool
is_within i size = int_le (pos 0) i && int_lt i (pos size)

-- the place of an element row by row, where each index value is within its size
abbrev pub offset_of : List ℕ → List ℤ → Option ℕ
offset_of [] [] = Some 0
offset_of (m ∷ []) (i ∷ []) = if is_within i m then Some (unsigned_abs i) else None
offset_of (m ∷ n ∷ []) (i ∷ j ∷ []) = if is_within i m && is_within j n then Some (unsigned_abs i * n + unsigned_abs j) else None
offset_of sizes indices = None

-- the sizes of a declaration, none where there is no declaration
abbrev pub sizes_at : Option Declared → List ℕ
sizes_at None = []
sizes_at (Some d) = d.1.sizes

-- the sizes of the declaration of this number
abbrev pub sizes_of : List Declared → ℕ → List ℕ
sizes_of decls d = sizes_at (slice_get decls d)

-- the values of the indices from left to right; a place has at most two
abbrev pub indices_of : List ℤ → List Index → Result (List ℤ) Fault
indices_of indices [] = Ok []
indices_of indices (i ∷ []) = and_then (value_of_index indices i) (λ m. Ok (m ∷ []))
indices_of indices (i ∷ j ∷ more) = and_then (value_of_index indices i) (λ m. and_then (value_of_index indices j) (λ n. Ok (m ∷ n ∷ [])))

-- an element by its declaration and its place in it
abbrev pub cell : ℕ → ℕ → Cell
cell decl offset = record { decl = decl; offset = offset }

-- the element that a place names: all its indices are evaluated, and then they are tested
abbrev pub located : List Declared → List ℤ → Place → Result Cell Fault
located decls indices p =
    and_then (indices_of indices p.indices) (λ is.
    and_then (ok_or_fault (out_of_range p.at) (offset_of (sizes_of decls p.decl) is)) (λ offset. Ok (cell p.decl offset)))
