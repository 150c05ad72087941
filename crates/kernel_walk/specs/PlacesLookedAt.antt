-- The walk's look at the places of an expression, without its count of turns.
use Rattle.std.specs.Prelude.{ℤ, List, [], ◌∷◌, Result, Ok}
use Rattle.kernel_ast.specs.declared.tree.Expr.TheFolds.{fold-Link}
use Rattle.kernel_ast.specs.declared.tree.Link.{Link}
use Rattle.kernel_ast.specs.declared.tree.Place.{Place}
use Rattle.kernel_ast.specs.declared.element.Fault.{Fault}
use Rattle.kernel_ast.specs.KernelParts.{Declared}
use Rattle.kernel_ast.specs.Steps.{and_then}
use Rattle.kernel_ast.specs.Places.{located}
use Rattle.kernel_ast.specs.Walk.{places_step, link_places}

-- all places name elements, or the first fault of one
abbrev pub all_located : List Declared → List ℤ → List Place → Result Unit Fault
all_located decls indices [] = Ok tt
all_located decls indices (p ∷ ps) = and_then (located decls indices p) (λ _. all_located decls indices ps)

-- the places of an operator's right operand, from left to right
abbrev pub places_of_link : Link → List Place
places_of_link = fold-Link (List Place) (List Place) places_step link_places
