-- The walk: the statements are executed without values (this project's convention). It counts the turns, at most 65,536, and looks at
-- all indices.
use Rattle.std.specs.Prelude.{◌+◌, ℕ, ℤ, nat_le, if◌then◌else◌, List, [], ◌∷◌, ◌++◌, map, Result, Ok, Err}
use Rattle.kernel_ast.specs.declared.tree.Expr.{Expr, fold-Expr}
use Rattle.kernel_ast.specs.declared.tree.Expr.TheOpen.{Expr-F, Link-F, Number, Cell, Turn, Minus, Chain, Call}
use Rattle.kernel_ast.specs.declared.tree.Stmt.{Stmt, fold-Stmt}
use Rattle.kernel_ast.specs.declared.tree.Stmt.TheOpen.{Stmt-F, Assign, Loop, Branch}
use Rattle.kernel_ast.specs.declared.tree.Place.{Place}
use Rattle.kernel_ast.specs.declared.element.Fault.{Fault}
use Rattle.kernel_ast.specs.declared.rule.RunRule.TheVariants.{TooManyTurns}
use Rattle.kernel_ast.specs.KernelParts.{Declared}
use Rattle.kernel_ast.specs.RunRules.{code_of, most_turns}
use Rattle.kernel_ast.specs.Steps.{and_then, in_turn, each}
use Rattle.kernel_ast.specs.Places.{fault, located, loop_numbers, condition}
use Rattle.kernel_ast.specs.Weights.{assign_weight, loop_weight, branch_weight}

-- there are more than 65,536 turns; at the statement's first token, and for a turn of a loop at its `for`
abbrev pub too_many_turns : ℕ → Fault
too_many_turns = fault (code_of TooManyTurns)

-- lists, one after the other
abbrev pub joined : {A : Type 0} → List (List A) → List A
joined [] = []
joined (xs ∷ more) = xs ++ joined more

-- one layer of an expression: the places of its parts
abbrev pub places_step : Expr-F (List Place) (List Place) → List Place
places_step (Number n) = []
places_step (Cell place) = place ∷ []
places_step (Turn k) = []
places_step (Minus value at) = value
places_step (Chain first rest) = first ++ joined rest
places_step (Call op args at) = joined args

-- the places of an operator's right operand
abbrev pub link_places : Link-F (List Place) (List Place) → List Place
link_places l = l.value

-- the places of an expression from left to right
abbrev pub places_of : Expr → List Place
places_of = fold-Expr (List Place) (List Place) places_step link_places

-- the turns so far and those to be counted now, at most 65,536
abbrev pub count : ℕ → ℕ → ℕ → Result ℕ Fault
count at more turns = if nat_le (turns + more) most_turns then Ok (turns + more) else Err (too_many_turns at)

-- look at a place, which counts no turn
abbrev pub look_at : List Declared → List ℤ → Place → ℕ → Result ℕ Fault
look_at decls indices place turns = and_then (located decls indices place) (λ _. Ok turns)

-- from the indices of the open loops and the turns so far to the turns after, or a fault
abbrev pub Walk : Type 0
Walk = List ℤ → ℕ → Result ℕ Fault

-- the statements of a body, while the open loops stand at these indices
abbrev pub all_at : {S : Type 0} → List (List ℤ → S → Result S Fault) → List ℤ → List (S → Result S Fault)
all_at body indices = map (λ f. f indices) body

-- one turn of a loop counts 1, and then its body is walked
unfoldable pub one_turn : List Walk → ℕ → List ℤ → ℤ → ℕ → Result ℕ Fault
one_turn body at indices i turns = and_then (count at 1 turns) (in_turn (all_at body (indices ++ i ∷ [])))

-- one layer of a statement: its turns are counted; then an assignment looks at the places of its right side and last at its target,
-- a loop evaluates its bounds and its step and goes through its turns, and a branch evaluates its sides and goes through one body
abbrev pub walk_step : List Declared → Stmt-F Walk → Walk
walk_step decls (Assign target value at) indices turns =
    and_then (count at (assign_weight target value) turns) (each (look_at decls indices) (places_of value ++ target ∷ []))
walk_step decls (Loop from to by body at) indices turns =
    and_then (count at (loop_weight from to by) turns) (λ counted.
    and_then (loop_numbers indices from to by) (λ ns. each (one_turn body at indices) ns counted))
walk_step decls (Branch left rel right taken other at) indices turns =
    and_then (count at (branch_weight left right) turns) (λ counted.
    and_then (condition indices left rel right) (λ holds. in_turn (all_at (if holds then taken else other) indices) counted))

-- the walk of a statement
abbrev pub walk : List Declared → Stmt → Walk
walk decls = fold-Stmt Walk (walk_step decls)

-- the turns of a list of statements, or the first fault of their walk
abbrev pub walk_all : List Declared → List Stmt → Result ℕ Fault
walk_all decls body = in_turn (all_at (map (walk decls) body) []) 0
