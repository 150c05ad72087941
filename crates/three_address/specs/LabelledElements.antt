-- The elements of a kernel with their labels, in order of declaration and row by row.
use Rattle.std.specs.Prelude.{◌+◌, ℕ, zero, suc, List, [], ◌∷◌, ◌++◌, if◌then◌else◌}
use Rattle.kernel_ast.specs.declared.tree.DeclKind.{DeclKind}
use Rattle.kernel_ast.specs.KernelParts.{Declared}
use Rattle.kernel_ast.specs.Places.{cell}
use Rattle.kernel_ast.specs.Machine.{element_count, is_kind}
use Rattle.kernel_ast.specs.Labels.{label_of}
use Rattle.three_address.specs.declared.element.Element.{Element}

-- the element at an offset of the declaration of this number
abbrev pub element : ℕ → Declared → ℕ → Element
element decl d offset = record { label = label_of d offset; at = d.1.at; cell = cell decl offset }

-- so many elements of a declaration from an offset on
abbrev pub elements_from : ℕ → Declared → ℕ → ℕ → List Element
elements_from decl d offset zero = []
elements_from decl d offset (suc n) = element decl d offset ∷ elements_from decl d (offset + 1) n

-- the elements of a declaration, if it is of this kind
unfoldable pub elements_of_decl : DeclKind → ℕ → Declared → List Element
elements_of_decl kind decl d = if is_kind kind d.1.kind then elements_from decl d 0 (element_count d.1.sizes) else []

-- the elements of one kind, where the first declaration has this number
abbrev pub elements_of : DeclKind → ℕ → List Declared → List Element
elements_of kind decl [] = []
elements_of kind decl (d ∷ ds) = elements_of_decl kind decl d ++ elements_of kind (decl + 1) ds
