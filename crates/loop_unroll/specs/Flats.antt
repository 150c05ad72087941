-- The executed assignments of a kernel (this project's convention): the walk goes through the statements, and writes down each assignment
-- that it meets, with the elements that its places name and the indices of the open loops as constants. A right side is written in
-- postfix order. The definitions go as the loop of `unroll` does, and need not be trusted: by the law `flats_do_what_statements_do`
-- (src/laws.rt), to go through the executed assignments with a stack is to execute the statements as Machine.antt of `kernel_ast` says.
-- By the clause `walk` of `unroll`, their faults are those of the walk.
use Rattle.std.specs.Prelude.{ℕ, ℤ, if◌then◌else◌, List, [], ◌∷◌, ◌++◌, map, Result, Ok}
use Rattle.comp_graph.specs.declared.operation.Op.{Op}
use Rattle.comp_graph.specs.declared.operation.Op.TheVariants as op
use Rattle.kernel_ast.specs.declared.tree.Expr.{Expr, fold-Expr}
use Rattle.kernel_ast.specs.declared.tree.Expr.TheOpen as expr
use Rattle.kernel_ast.specs.declared.tree.Expr.TheFolds.{fold-Link}
use Rattle.kernel_ast.specs.declared.tree.Link.{Link}
use Rattle.kernel_ast.specs.declared.tree.Stmt.{Stmt, fold-Stmt}
use Rattle.kernel_ast.specs.declared.tree.Stmt.TheOpen.{Stmt-F, Assign, Loop, Branch}
use Rattle.kernel_ast.specs.declared.tree.Place.{Place}
use Rattle.kernel_ast.specs.declared.element.Cell.{Cell}
use Rattle.kernel_ast.specs.declared.element.Fault.{Fault}
use Rattle.kernel_ast.specs.KernelParts.{Declared}
use Rattle.kernel_ast.specs.Steps.{and_then, in_turn, each}
use Rattle.kernel_ast.specs.Places.{located, loop_numbers, condition, turn}
use Rattle.kernel_ast.specs.Walk.{count, all_at}
use Rattle.kernel_ast.specs.Weights.{assign_weight, loop_weight, branch_weight}
use Rattle.loop_unroll.specs.declared.flat.Item.{Item}
use Rattle.loop_unroll.specs.declared.flat.Item.TheVariants.{Number, Read, Apply}
use Rattle.loop_unroll.specs.declared.flat.Flat.{Flat}
use Rattle.loop_unroll.specs.declared.progress.Progress.{Progress}

-- ---- expressions

-- what is written behind the items so far, or a fault
abbrev pub Writer : Type 0
Writer = List Item → Result (List Item) Fault

-- the operators of a chain, each behind its right operand
abbrev pub link_items : List ((Op × ℕ) × Writer) → Writer
link_items [] found = Ok found
link_items (l ∷ ls) found = and_then (l.1 found) (λ more. link_items ls (more ++ Apply l.0.0 l.0.1 ∷ []))

-- an element that is read
abbrev pub read_item : List Declared → List ℤ → Place → Writer
read_item decls indices p found = and_then (located decls indices p) (λ c. Ok (found ++ Read c p.at ∷ []))

-- one layer of an expression: its operands from left to right, and then its operation
abbrev pub items_step : List Declared → List ℤ → expr.Expr-F Writer ((Op × ℕ) × Writer) → Writer
items_step decls indices (expr.Number n) found = Ok (found ++ Number n ∷ [])
items_step decls indices (expr.Cell p) found = read_item decls indices p found
items_step decls indices (expr.Turn k) found = Ok (found ++ Number (turn indices k) ∷ [])
items_step decls indices (expr.Minus value at) found = and_then (value found) (λ more. Ok (more ++ Apply op.Neg at ∷ []))
items_step decls indices (expr.Chain first rest) found = and_then (first found) (link_items rest)
items_step decls indices (expr.Call o args at) found = and_then (in_turn args found) (λ more. Ok (more ++ Apply o at ∷ []))

-- an operator with its place, and what is written of its right operand
abbrev pub items_link_step : expr.Link-F Writer ((Op × ℕ) × Writer) → (Op × ℕ) × Writer
items_link_step l = ((l.op, l.at), l.value)

-- an expression in postfix order, behind the items so far, while the open loops stand at these indices
abbrev pub items_of : List Declared → List ℤ → Expr → Writer
items_of decls indices = fold-Expr Writer ((Op × ℕ) × Writer) (items_step decls indices) items_link_step

-- the same of an operator with its right operand
abbrev pub link_of : List Declared → List ℤ → Link → (Op × ℕ) × Writer
link_of decls indices = fold-Link Writer ((Op × ℕ) × Writer) (items_step decls indices) items_link_step

-- ---- statements

-- an executed assignment by its element and its right side
abbrev pub flat : Cell → List Item → Flat
flat target items = record { target = target; items = items }

-- the turns that were counted, and the executed assignments
abbrev pub progress : ℕ → List Flat → Progress
progress counted flats = record { counted = counted; flats = flats }

-- from the indices of the open loops and the progress so far to the progress after, or a fault
abbrev pub Unrolling : Type 0
Unrolling = List ℤ → Progress → Result Progress Fault

-- so many turns more are counted
unfoldable pub counting : ℕ → ℕ → Progress → Result Progress Fault
counting at more p = and_then (count at more p.counted) (λ turns. Ok (progress turns p.flats))

-- an executed assignment: its right side comes first, and then its target
abbrev pub assigned : List Declared → List ℤ → Place → Expr → Result Flat Fault
assigned decls indices target value = and_then (items_of decls indices value []) (λ items. and_then (located decls indices target) (λ c. Ok (flat c items)))

-- it joins those before it
unfoldable pub adding : List Declared → List ℤ → Place → Expr → Progress → Result Progress Fault
adding decls indices target value p = and_then (assigned decls indices target value) (λ f. Ok (progress p.counted (p.flats ++ f ∷ [])))

-- one turn of a loop counts 1, and then its body is executed
unfoldable pub one_turn : List Unrolling → ℕ → List ℤ → ℤ → Progress → Result Progress Fault
one_turn body at indices i p = and_then (counting at 1 p) (in_turn (all_at body (indices ++ i ∷ [])))

-- one layer of a statement: its turns are counted; then an assignment is written down, a loop evaluates its bounds and its step and goes
-- through its turns, and a branch evaluates its sides and goes through one body
abbrev pub unroll_step : List Declared → Stmt-F Unrolling → Unrolling
unroll_step decls (Assign target value at) indices p = and_then (counting at (assign_weight target value) p) (adding decls indices target value)
unroll_step decls (Loop from to by body at) indices p =
    and_then (counting at (loop_weight from to by) p) (λ counted.
    and_then (loop_numbers indices from to by) (λ ns. each (one_turn body at indices) ns counted))
unroll_step decls (Branch left rel right taken other at) indices p =
    and_then (counting at (branch_weight left right) p) (λ counted.
    and_then (condition indices left rel right) (λ holds. in_turn (all_at (if holds then taken else other) indices) counted))

-- a statement
abbrev pub unrolled : List Declared → Stmt → Unrolling
unrolled decls = fold-Stmt Unrolling (unroll_step decls)

-- a list of statements
abbrev pub unrolled_all : List Declared → List Stmt → List ℤ → Progress → Result Progress Fault
unrolled_all decls body indices = in_turn (all_at (map (unrolled decls) body) indices)

-- the executed assignments of a list of statements outside of all loops, in order, or the first fault
abbrev pub flats : List Declared → List Stmt → Result (List Flat) Fault
flats decls body = and_then (unrolled_all decls body [] (progress 0 [])) (λ p. Ok p.flats)
