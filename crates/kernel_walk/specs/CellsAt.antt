-- The element that a place names, once its indices have values.
use Rattle.std.specs.Prelude.{ℤ, List, Result, Ok}
use Rattle.kernel_ast.specs.declared.tree.Place.{Place}
use Rattle.kernel_ast.specs.declared.element.Cell.{Cell}
use Rattle.kernel_ast.specs.declared.element.Fault.{Fault}
use Rattle.kernel_ast.specs.KernelParts.{Declared}
use Rattle.kernel_ast.specs.Steps.{and_then}
use Rattle.kernel_ast.specs.Places.{ok_or_fault, out_of_range, offset_of, sizes_of, cell}

-- the element at these values of the indices, or the fault that one is out of range
abbrev pub cell_at : List Declared → Place → List ℤ → Result Cell Fault
cell_at decls p is = and_then (ok_or_fault (out_of_range p.at) (offset_of (sizes_of decls p.decl) is)) (λ offset. Ok (cell p.decl offset))
