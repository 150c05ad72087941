-- The elements of one kind that are left.
use Rattle.std.specs.Prelude.{◌+◌, ◌-◌, ℕ, List, [], ◌++◌, drop, Option, Some, None, slice_get, if◌then◌else◌}
use Rattle.kernel_ast.specs.declared.tree.DeclKind.{DeclKind}
use Rattle.kernel_ast.specs.KernelParts.{Declared}
use Rattle.kernel_ast.specs.Machine.{element_count, is_kind}
use Rattle.three_address.specs.declared.element.Element.{Element}
use Rattle.three_address.specs.declared.elements.Elements.{Elements}
use Rattle.three_address.specs.LabelledElements.{elements_from, elements_of}

-- those of a declaration from an offset on, if there is one and it is of this kind
abbrev pub rest_of_decl : DeclKind → ℕ → ℕ → Option Declared → List Element
rest_of_decl kind decl offset None = []
rest_of_decl kind decl offset (Some d) = if is_kind kind d.1.kind then elements_from decl d offset (element_count d.1.sizes - offset) else []

-- those of the declaration of this number from an offset on, and of all declarations behind it
unfoldable pub rest_from : DeclKind → List Declared → ℕ → ℕ → List Element
rest_from kind decls decl offset = rest_of_decl kind decl offset (slice_get decls decl) ++ elements_of kind (decl + 1) (drop (decl + 1) decls)

-- what is left
abbrev pub rest : Elements → List Element
rest e = rest_from e.kind e.decls.now.entries e.decl e.offset
