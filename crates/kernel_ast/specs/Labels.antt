-- The labels of elements (this project's convention): `x`, `x[3]`, `x[0][2]`.
use Rattle.std.specs.Prelude.{ℕ, zero, suc, ◌+◌, ◌/◌, ◌%◌, List, [], ◌∷◌, ◌++◌, if◌then◌else◌, codes, decimal}
use Rattle.kernel_ast.specs.declared.tree.DeclKind.{DeclKind}
use Rattle.kernel_ast.specs.KernelParts.{Declared}
use Rattle.kernel_ast.specs.Machine.{element_count, is_kind}

-- a number in brackets
abbrev pub bracketed : ℕ → List ℕ
bracketed i = codes "[" ++ (decimal i ++ codes "]")

-- the indices of the element at an offset row by row, as they are printed
abbrev pub indices_text : List ℕ → ℕ → List ℕ
indices_text [] offset = []
indices_text (m ∷ []) offset = bracketed offset
indices_text (m ∷ n ∷ more) offset = bracketed (offset / n) ++ bracketed (offset % n)

-- the label of an element: the name of its declaration, and its indices in brackets
abbrev pub label_of : Declared → ℕ → List ℕ
label_of d offset = d.0 ++ indices_text d.1.sizes offset

-- the labels of so many elements of a declaration from an offset on
abbrev pub labels_from : Declared → ℕ → ℕ → List (List ℕ)
labels_from d offset zero = []
labels_from d offset (suc n) = label_of d offset ∷ labels_from d (offset + 1) n

-- the labels of a declaration's elements row by row, if the declaration is of this kind
unfoldable pub labels_of_decl : DeclKind → Declared → List (List ℕ)
labels_of_decl kind d = if is_kind kind d.1.kind then labels_from d 0 (element_count d.1.sizes) else []

-- the labels of the elements of one kind, in order of declaration
abbrev pub labels_of : DeclKind → List Declared → List (List ℕ)
labels_of kind [] = []
labels_of kind (d ∷ ds) = labels_of_decl kind d ++ labels_of kind ds
